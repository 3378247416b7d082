-- No path stands in a list twice exactly if the paths at any two places differ.
use Prim.Native.Nat.{ℕ, zero, suc, ◌<◌}
use mathlib.Core.Path.{◌≡◌, refl, ap, ◌∙◌}
use mathlib.Core.Logic.{⊎_elim}
use mathlib.Core.Bool.{true, not}
use mathlib.Core.List.{List, [], ◌∷◌}
use native.Mathlib.Omega.{arith}
use lib.ListN.{length, get_or}
use borrow.Author.Tests.{not-true}
use Rattle.lists.specs.Lists.{same_list, known, known_by}
use Rattle.lists.proofs.Bools.{and_in, and_0, and_1, or_0, or_1, or_cases, clash, refuted}
use Rattle.lists.proofs.Same.{same_refl, same_eq}
use Rattle.profiles.specs.Texts.{no_repeat, Differ}

among_at : (ps : List (List ℕ)) (j : ℕ) → j < length ps → known (get_or ps j []) ps ≡ true
unfolding known_by
among_at [] j l = absurd (omega arith)
among_at (p ∷ ps) zero l = or_0 (same_list p p) (known p ps) (same_refl p)
among_at (p ∷ ps) (suc j) l = or_1 (same_list (get_or ps j []) p) (known (get_or ps j []) ps) (among_at ps j (omega arith))

-- a path of the list has a place
pub record Found (p : List ℕ) (ps : List (List ℕ)) : Type 0 where
  pub place : ℕ
  pub inside : place < length ps
  pub is : p ≡ get_or ps place []

among_place : (p : List ℕ) (ps : List (List ℕ)) → known p ps ≡ true → Found p ps
unfolding known_by
among_place p [] h = clash h refl
among_place p (q ∷ ps) h =
    ⊎_elim (λ e. record { place = 0; inside = omega arith; is = same_eq p q e })
    (λ e. let f = among_place p ps e in record { place = suc f.place; inside = omega (arith, f.inside); is = f.is }) (or_cases (same_list p q) h)

pub repeats_not : (ps : List (List ℕ)) → no_repeat ps ≡ true → Differ ps
unfolding no_repeat
repeats_not [] h i j l m e = absurd (omega arith)
repeats_not (p ∷ ps) h i zero l m e = absurd (omega arith)
repeats_not (p ∷ ps) h zero (suc j) l m e =
    clash (ap (λ (q : List ℕ). known q ps) e ∙ among_at ps j (omega arith)) (not-true (known p ps) (and_0 (not (known p ps)) (no_repeat ps) h))
repeats_not (p ∷ ps) h (suc i) (suc j) l m e = repeats_not ps (and_1 (not (known p ps)) h) i j (omega arith) (omega arith) e

pub differ_once : (ps : List (List ℕ)) → Differ ps → no_repeat ps ≡ true
unfolding no_repeat
differ_once [] d = refl
differ_once (p ∷ ps) d =
    and_in
    (ap not (refuted (known p ps) (λ h. let f = among_place p ps h in d 0 (suc f.place) (omega arith) (omega (arith, f.inside)) f.is)))
    (differ_once ps (λ i j l m. d (suc i) (suc j) (omega arith) (omega arith)))
