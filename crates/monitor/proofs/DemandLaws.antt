-- Demand 3 and the tag, told by the records and their answers.
use Prim.Native.Nat.{ℕ, suc}
use mathlib.Core.Path.{◌≡◌, subst, ap, ◌∙◌}
use mathlib.Core.Logic.{◌↔◌}
use mathlib.Core.Bool.{true, false}
use mathlib.Core.List.{List, [], ◌∷◌, ◌++◌}
use mathlib.Core.Option.{some}
use lib.ListN.{length, take, get_elem?}
use Rattle.rules.specs.Sets.{atom}
use Rattle.image.specs.Policy.{Policy}
use Rattle.chains.specs.History.{Step, History, start, receiver}
use Rattle.chains.specs.Chains.{Reaches, Forbidden}
use Rattle.answers.specs.declared.Answer.{Answer}
use Rattle.answers.specs.Answers.{accepted, is_alert, is_refused, receiver_of, tag_of}
use Rattle.chains.specs.Demand.{judged, history_of, AcceptedAt, GivenAt, BlockedTold, Demand3, TagTold, BlockedExactly}
use Rattle.records.specs.Records.{step_of}
use Rattle.monitor.specs.Steps.{step_asked, step_answer}
use Rattle.monitor.specs.Runs.{step_on, run_answers, run_effect, history_in}
use Rattle.records.proofs.RecordLaws.{record_step}
use Rattle.monitor.proofs.StepLaws.{step_record, answered_zero, accepted_zero}
use Rattle.monitor.proofs.RunHistories.{history_told, history_first, answer_last, record_last, take_last, take_before}

-- ---- a position of a list of records

module _ (s : List ℕ) (P : Policy) (rs : List (List ℕ)) (given : List Answer) (told : run_answers s rs ≡ given)
    (n : ℕ) (r : List ℕ) (a : Answer) (er : get_elem? rs n ≡ some r) (ea : get_elem? given n ≡ some a) (k : accepted a ≡ true)
    (t : Step) (et : step_of r ≡ some t) (h : History) (eh : history_in (take (suc n) rs) (take (suc n) given) ≡ h) where
  at : AcceptedAt step_on step_of s rs n t a
  unfolding run_answers
  at = record { spelled = (r, er, et); answered = ap (λ l. get_elem? l n) told ∙ ea; accepting = k }

  up_to_lem : history_of step_on step_of s (take (suc n) rs) ≡ h
  up_to_lem = history_first (suc n) s rs ∙ ap (λ l. history_in (take (suc n) rs) (take (suc n) l)) told ∙ eh

  pub alert_at_lem : Demand3 step_on step_of s P → judged t ≡ true → (is_alert a ≡ true) ↔ Forbidden P h (receiver t)
  alert_at_lem d j = subst (λ (x : History). (is_alert a ≡ true) ↔ Forbidden P x (receiver t)) up_to_lem (d rs n t a at j)

  pub tag_at : TagTold step_on step_of s P → (receiver_of a ≡ receiver t) × ((k : ℕ) → (atom (tag_of a) k ≡ 1) ↔ Reaches P h k (receiver t))
  tag_at d =
      subst (λ (x : History). (receiver_of a ≡ receiver t) × ((k : ℕ) → (atom (tag_of a) k ≡ 1) ↔ Reaches P x k (receiver t))) up_to_lem (d rs n t a at)

-- ---- one more record

module _ (s : List ℕ) (P : Policy) (rs : List (List ℕ)) (r : List ℕ) (e : accepted (step_answer (run_effect s rs) r) ≡ true) where
  last : AcceptedAt step_on step_of s (rs ++ (r ∷ [])) (length rs) (step_asked r) (step_answer (run_effect s rs) r)
  unfolding step_on step_asked
  last = record {
    spelled = (r, record_last rs r, record_step r (step_record (run_effect s rs) r (accepted_zero (run_effect s rs) r e)));
    answered = answer_last s rs r;
    accepting = e;
  }

  whole : history_of step_on step_of s (take (suc (length rs)) (rs ++ (r ∷ []))) ≡ history_in (rs ++ (r ∷ [])) (run_answers s (rs ++ (r ∷ [])))
  unfolding run_answers history_in
  whole = ap (history_of step_on step_of s) (take_last rs r) ∙ history_told start s (rs ++ (r ∷ []))

  pub alert_last : Demand3 step_on step_of s P → judged (step_asked r) ≡ true
      → (is_alert (step_answer (run_effect s rs) r) ≡ true) ↔ Forbidden P (history_in (rs ++ (r ∷ [])) (run_answers s (rs ++ (r ∷ [])))) (receiver (step_asked r))
  alert_last d j =
      subst (λ (x : History). (is_alert (step_answer (run_effect s rs) r) ≡ true) ↔ Forbidden P x (receiver (step_asked r))) whole
      (d (rs ++ (r ∷ [])) (length rs) (step_asked r) (step_answer (run_effect s rs) r) last j)

-- one more that is not refused, by the history before it
module _ (s : List ℕ) (P : Policy) (rs : List (List ℕ)) (r : List ℕ) (e : is_refused (step_answer (run_effect s rs) r) ≡ false) where
  given_last : GivenAt step_on step_of s (rs ++ (r ∷ [])) (length rs) (step_asked r) (step_answer (run_effect s rs) r)
  unfolding step_on step_asked
  given_last = record {
    spelled = (r, record_last rs r, record_step r (step_record (run_effect s rs) r (answered_zero (run_effect s rs) r e)));
    answered = answer_last s rs r;
    given = e;
  }

  before : history_of step_on step_of s (take (length rs) (rs ++ (r ∷ []))) ≡ history_in rs (run_answers s rs)
  unfolding run_answers history_in
  before = ap (history_of step_on step_of s) (take_before rs r) ∙ history_told start s rs

  pub blocked_last : BlockedExactly step_on step_of s P → judged (step_asked r) ≡ true
      → BlockedTold P (history_in rs (run_answers s rs)) (step_asked r) (step_answer (run_effect s rs) r)
  blocked_last d j =
      subst (λ (x : History). BlockedTold P x (step_asked r) (step_answer (run_effect s rs) r)) before
      (d (rs ++ (r ∷ [])) (length rs) (step_asked r) (step_answer (run_effect s rs) r) given_last j)
