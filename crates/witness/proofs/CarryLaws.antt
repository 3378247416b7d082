-- What `carry` stores is the nodes and links after the step.
use Prim.Native.Nat.{ℕ, ◌+◌}
use mathlib.Core.Path.{◌≡◌, refl}
use mathlib.Core.Bool.{Bool, true}
use mathlib.Core.List.{List}
use lib.ListN.{get_or, set}
use Rattle.image.specs.Limits.{container_limit}
use Rattle.chains.specs.History.{Step, receiver}
use Rattle.witness.specs.Links.{node_of}
use Rattle.witness.specs.Nodes.{main_source, running_source, next_node, ends_main, ends_running, held_after, links_after}
use Rattle.witness.proofs.StepCases.{each_step}

-- a running atom is ended as a run rule is
pub running_ended : (s : Step) → ends_main true s ≡ ends_running s
unfolding ends_main ends_running
running_ended =
    each_step (λ s. ends_main true s ≡ ends_running s)
    (λ p o. refl) (λ p o. refl) (λ p o. refl) (λ p o u. refl) (λ p o. refl) (λ p o u. refl) (λ p o. refl) (λ p. refl) (λ p o. refl)

pub carried : (b : Bool) (held links : List ℕ) (n : ℕ) (s : Step) (to main running mn rn : ℕ) (em er : Bool)
    → to ≡ receiver s → main ≡ main_source b held s → running ≡ running_source b held s → em ≡ ends_main b s → er ≡ ends_running s
    → mn ≡ next_node (get_or held to 0) main em (node_of n) → rn ≡ next_node (get_or held (container_limit + to) 0) running er (node_of n + 1)
    → (set (set held to mn) (container_limit + to) rn ≡ held_after b held n s) × (set (set links (node_of n) main) (node_of n + 1) running ≡ links_after b held links n s)
unfolding held_after links_after
carried b held links n s to main running mn rn em er e1 e2 e3 e4 e5 e6 e7 = (rw (e6, e7, e1, e2, e3, e4, e5), rw (e2, e3))
