-- The history of an explanation beside the paper's, and the lengths of what is lent afterwards.
use Prim.Native.Nat.{ℕ, suc, ◌-◌}
use native.Mathlib.Omega.{arith}
use mathlib.Core.Path.{◌≡◌, refl, ◌∙◌}
use mathlib.Core.Bool.{Bool, true, false, not, cond}
use mathlib.Core.List.{List, [], ◌∷◌, ◌++◌}
use lib.ListN.{length, length-append, length-set}
use lib.Seq.{take_at, drop_at}
use Rattle.lists.proofs.Bools.{clash}
use Rattle.answers.specs.declared.Answer.{Answer}
use Rattle.answers.specs.Answers.{accepted, is_refused}
use Rattle.answers.proofs.Cases.{accepted_given}
use Rattle.image.specs.Policy.{Policy}
use Rattle.image.specs.Image.{policy_in}
use Rattle.chains.specs.History.{Step, History, start, ◌▸◌}
use Rattle.chains.specs.Demand.{extend, history_from, history_of}
use Rattle.records.specs.Records.{step_of}
use Rattle.records.specs.Traces.{trace_records}
use Rattle.monitor.specs.Steps.{step_asked, step_answer, step_effect}
use Rattle.monitor.specs.Runs.{step_on, run_effect}
use Rattle.monitor.proofs.Theorems.{given_spelled}
use Rattle.witness.specs.Told.{front_of, last_of, told_history}
use Rattle.witness.specs.Links.{Family, links_at, links_from, links_left}
use Rattle.witness.specs.Explains.{rule_links}

-- ---- the last record

front_last : (rs : List (List ℕ)) (r : List ℕ) → (front_of (rs ++ (r ∷ [])) ≡ rs) × (last_of (rs ++ (r ∷ [])) ≡ r ∷ [])
unfolding front_of last_of
front_last rs r =
    let e : length rs ≡ length (rs ++ (r ∷ [])) - 1 = omega (arith, length-append rs (r ∷ [])) in
    (take_at rs (r ∷ []) (length (rs ++ (r ∷ [])) - 1) e, drop_at rs (r ∷ []) (length (rs ++ (r ∷ [])) - 1) e)

pub told_last : (s : List ℕ) (rs : List (List ℕ)) (r : List ℕ)
    → told_history s (rs ++ (r ∷ [])) ≡ extend (history_of step_on step_of s rs) (step_of r) (not (is_refused (step_answer (run_effect s rs) r)))
unfolding told_history
told_last s rs r = let e = front_last rs r in rw (e.0, e.1)

history_last : (h : History) (s : List ℕ) (rs : List (List ℕ)) (r : List ℕ)
    → history_from step_on step_of h s (rs ++ (r ∷ [])) ≡ extend (history_from step_on step_of h s rs) (step_of r) (accepted (step_answer (run_effect s rs) r))
unfolding step_on run_effect
history_last h s [] r = refl
history_last h s (q ∷ rs) r = history_last (extend h (step_of q) (accepted (step_answer s q))) (step_effect s q) rs r

refused_unaccepted : (a : Answer) → is_refused a ≡ true → accepted a ≡ false
refused_unaccepted a e = by (accepted a) refl
  where
    by : (b : Bool) → accepted a ≡ b → b ≡ false
    by true k = clash e (accepted_given a k)
    by false k = refl

module _ (s : List ℕ) (rs : List (List ℕ)) (r : List ℕ) where
  pub told_accepted : accepted (step_answer (run_effect s rs) r) ≡ true → told_history s (rs ++ (r ∷ [])) ≡ history_of step_on step_of s (rs ++ (r ∷ []))
  told_accepted e = told_last s rs r ∙ rw (accepted_given (step_answer (run_effect s rs) r) e, history_last start s rs r, e)

  pub told_refused : is_refused (step_answer (run_effect s rs) r) ≡ true → told_history s (rs ++ (r ∷ [])) ≡ history_of step_on step_of s (rs ++ (r ∷ []))
  told_refused e = told_last s rs r ∙ rw (e, history_last start s rs r, refused_unaccepted (step_answer (run_effect s rs) r) e)

  pub told_given : is_refused (step_answer (run_effect s rs) r) ≡ false → told_history s (rs ++ (r ∷ [])) ≡ history_of step_on step_of s rs ▸ step_asked r
  told_given e = told_last s rs r ∙ rw (e, given_spelled (run_effect s rs) r e)

-- ---- lengths

at_long : (P : Policy) (ns : List ℕ) (F : Family) (h : History) (n : ℕ) (t : Step) (links : List ℕ) → length (links_at P ns F h n t links) ≡ length links
unfolding links_at
at_long P ns F h n t links = rw (length-set, length-set)

from_long : (P : Policy) (ns : List ℕ) (F : Family) (h : History) (n : ℕ) (s : List ℕ) (rs : List (List ℕ)) (links : List ℕ)
    → length (links_from P ns F h n s rs links) ≡ length links
unfolding links_from
from_long P ns F h n s [] links = refl
from_long P ns F h n s (r ∷ rs) links =
    from_long P ns F (extend h (step_of r) (accepted (step_answer s r))) (suc n) (step_effect s r) rs (cond (accepted (step_answer s r)) (links_at P ns F h n (step_asked r) links) links)
    ∙ by (accepted (step_answer s r))
  where
    by : (b : Bool) → length (cond b (links_at P ns F h n (step_asked r) links) links) ≡ length links
    by true = at_long P ns F h n (step_asked r) links
    by false = refl

-- what the chain of a run rule leaves in the links is as long as before
pub rule_links_long : (i t r links : List ℕ) → length (rule_links i t r links) ≡ length links
unfolding rule_links links_left
rule_links_long i t r links = from_long (policy_in i) _ _ _ _ _ (trace_records t) links
