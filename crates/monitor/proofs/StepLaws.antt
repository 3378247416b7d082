-- One step: refused, it leaves the session; else it does what the table says of the step that the record spells.
use Prim.Native.Nat.{ℕ, ◌<◌}
use native.Mathlib.Omega.{arith}
use mathlib.Core.Path.{◌≡◌, refl, sym, subst, ap, ◌∙◌}
use mathlib.Core.Logic.{◌≢◌, ◌⊎◌, inl, inr, ◌↔◌, ⊎_elim}
use mathlib.Core.Bool.{true, false}
use mathlib.Core.List.{List}
use mathlib.Core.Option.{some}
use lib.ListN.{length}
use borrow.Author.Tests.{eqb-true, eq-eqb, ne_eqb}
use Rattle.lists.specs.Lists.{elem}
use Rattle.lists.specs.Conditions.{FailsFirst, AllHold, first_failed, numbers_of, number_at, numbers_distinct}
use Rattle.lists.proofs.Bools.{clash, decide}
use Rattle.lists.proofs.Conditions.{passed, zero_or_not, given_exactly, given_none}
use Rattle.answers.specs.Refusals.{operation_record, lent_length}
use Rattle.answers.specs.declared.Answer.{Answer}
use Rattle.answers.specs.declared.Received.{Received}
use Rattle.answers.specs.Answers.{refused, accepted, is_refused, answer_number, received_after}
use Rattle.fields.specs.Bytes.{bytes_of}
use Rattle.answers.proofs.Cases.{accepted_given}
use Rattle.image.specs.Limits.{container_limit}
use Rattle.session.specs.Limits.{session_length}
use Rattle.session.specs.Rows.{row_words, put_row}
use Rattle.chains.specs.History.{Step, receiver}
use Rattle.chains.specs.Table.{State, entry, meet_good, early_conditions, table_conditions, blocks, verdict, operate, Faithful}
use Rattle.chains.proofs.TableStates.{operate_done}
use Rattle.chains.proofs.ThreeAnswers.{verdict_given, accepted_put, left_put, left_blocked}
use Rattle.records.specs.Records.{record_length, request_in, step_in, record_good, step_of}
use Rattle.records.proofs.CodeLaws.{receiver_bound}
use Rattle.records.proofs.RecordLaws.{asked, record_step}
use Rattle.operations.specs.View.{view}
use Rattle.operations.specs.Effects.{session_conditions, session_refusal, made_answer, made_effect, perform_answer, perform_effect}
use Rattle.operations.specs.EarlyTests.{first_conditions, Ready}
use Rattle.operations.proofs.RowsKept.{Laid, entry_laid}
use Rattle.operations.proofs.PlacedRows.{Valid, view_put, valid_put, placed_long}
use Rattle.operations.proofs.PerformLaws.{Performed, named, ready}
use Rattle.session.specs.Session.{session_length_good}
use Rattle.monitor.specs.Steps.{step_asked, step_conditions, refusal_of, step_answer, step_effect}
use Rattle.monitor.specs.Runs.{step_on}

-- the number, the session and what was received are those of the step
abbrev pub StepInto : List ℕ → List ℕ → Received → ℕ → List ℕ → Received → Type 0
StepInto s r old n s₁ e = (n ≡ answer_number (step_answer s r)) × (s₁ ≡ step_effect s r) × (e ≡ received_after (step_answer s r) old)

-- ---- the tests in their order, as the code makes them

-- 9
pub step_9 : (s r : List ℕ) → (length s ≡ session_length → ⊥) → (refused lent_length ≡ step_answer s r) × (s ≡ step_effect s r)
unfolding step_answer step_effect refusal_of step_conditions session_length_good first_failed
step_9 s r h = (simp (ne_eqb (length s) session_length h), simp (ne_eqb (length s) session_length h))

-- 7
pub step_7 : (s r : List ℕ) → length s ≡ session_length → record_good r ≡ false → (refused operation_record ≡ step_answer s r) × (s ≡ step_effect s r)
unfolding step_answer step_effect refusal_of step_conditions session_length_good first_failed
step_7 s r l h = (simp (eq-eqb (length s) session_length l, h), simp (eq-eqb (length s) session_length l, h))

-- the refusals because of the session, and the effect
module _ (s r : List ℕ) (l : length s ≡ session_length) (h : record_good r ≡ true) where
  rest : refusal_of s r ≡ session_refusal s (step_asked r)
  unfolding refusal_of step_conditions session_length_good session_refusal
  rest = passed _ _ (eq-eqb (length s) session_length l) ∙ passed _ _ h

  pub step_performed : (a : Answer) (s₁ : List ℕ) → Performed s (step_in (request_in r)) a s₁ → (a ≡ step_answer s r) × (s₁ ≡ step_effect s r)
  unfolding step_answer step_effect perform_answer perform_effect step_asked
  step_performed a s₁ p = (p.0 ∙ rw rest, p.1 ∙ rw rest)

  -- the same through numbers that are lent, of the record that the number w spells
  pub step_spelled : (w : ℕ) → bytes_of record_length w ≡ r → (n : ℕ) (e old : Received) (s₁ : List ℕ)
      → n ≡ answer_number (perform_answer s (step_in (request_in (bytes_of record_length w)))) → s₁ ≡ perform_effect s (step_in (request_in (bytes_of record_length w)))
      → e ≡ received_after (perform_answer s (step_in (request_in (bytes_of record_length w)))) old → StepInto s r old n s₁ e
  step_spelled w we n e old s₁ =
      rw we (λ h k g.
      let p = step_performed (perform_answer s (step_in (request_in r))) (perform_effect s (step_in (request_in r))) (refl, refl) in
      (h ∙ ap answer_number p.0, k ∙ p.1, g ∙ ap (λ (a : Answer). received_after a old) p.0))

-- ---- refused

pub refused_into : (s r : List ℕ) (n : ℕ) → (refused n ≡ step_answer s r) × (s ≡ step_effect s r) → (old : Received) → StepInto s r old n s old
refused_into s r n (a, e) old = (ap answer_number a, e, ap (λ (x : Answer). received_after x old) a)

module _ (s r : List ℕ) (n : refusal_of s r ≢ 0) where
  pub refused_answer : step_answer s r ≡ refused (refusal_of s r)
  unfolding step_answer
  refused_answer = rw (ne_eqb (refusal_of s r) 0 n)

  pub refused_effect : step_effect s r ≡ s
  unfolding step_effect
  refused_effect = rw (ne_eqb (refusal_of s r) 0 n)

-- ---- not refused

pub numbers : (s r : List ℕ) → numbers_distinct (numbers_of (step_conditions s r)) ≡ true
unfolding step_conditions session_conditions table_conditions early_conditions numbers_of numbers_distinct elem
numbers s r = refl

conditions : (s r : List ℕ) → length (step_conditions s r) ≡ 9
unfolding step_conditions session_conditions table_conditions early_conditions
conditions s r = refl

-- each number exactly under its condition
pub refused_at : (s r : List ℕ) (k : ℕ) → k < 9 → (refusal_of s r ≡ number_at (step_conditions s r) k) ↔ FailsFirst (step_conditions s r) k
unfolding refusal_of
refused_at s r k l = given_exactly (step_conditions s r) (numbers s r) k (omega (arith, conditions s r))

module _ (s r : List ℕ) (e : refusal_of s r ≡ 0) where
  holds : AllHold (step_conditions s r)
  unfolding refusal_of
  holds = (given_none (step_conditions s r) (numbers s r)).0 e

  pub step_long : length s ≡ session_length
  unfolding step_conditions session_conditions table_conditions early_conditions session_length_good
  step_long = eqb-true (length s) session_length holds.0

  pub step_record : record_good r ≡ true
  unfolding step_conditions session_conditions table_conditions early_conditions
  step_record = holds.1.0

  pub step_meet : meet_good (view s) (step_asked r) ≡ true
  unfolding step_conditions session_conditions table_conditions early_conditions
  step_meet = holds.1.1.1.1.1.1.1.1

  step_first : first_failed (first_conditions s (step_asked r)) ≡ 0
  unfolding step_conditions session_conditions table_conditions early_conditions first_conditions first_failed
  step_first =
      rw (holds.1.1.0, holds.1.1.1.0, holds.1.1.1.1.0, holds.1.1.1.1.1.0, holds.1.1.1.1.1.1.0, holds.1.1.1.1.1.1.1.0)

  step_ready : Ready s (step_asked r)
  unfolding step_asked
  step_ready = ready s (request_in r) (named s r step_long step_record (request_in r) refl) step_first

  pub step_table : first_failed (table_conditions (view s) (step_asked r)) ≡ 0
  unfolding step_conditions session_conditions table_conditions early_conditions first_failed
  step_table =
      rw (holds.1.1.1.0, holds.1.1.1.1.0, holds.1.1.1.1.1.0, holds.1.1.1.1.1.1.0, holds.1.1.1.1.1.1.1.0, holds.1.1.1.1.1.1.1.1)

  pub made_answer_lem : step_answer s r ≡ verdict (step_asked r) (entry (view s) (step_asked r)).row
  unfolding step_answer made_answer
  made_answer_lem = rw e

  -- blocked, or with the receiver's row
  pub blocked_effect : blocks (step_asked r) (entry (view s) (step_asked r)).row ≡ true → step_effect s r ≡ s
  unfolding step_effect made_effect
  blocked_effect b = rw (e, b)

  pub made_effect_lem : blocks (step_asked r) (entry (view s) (step_asked r)).row ≡ false → step_effect s r ≡ put_row s (receiver (step_asked r)) (row_words (entry (view s) (step_asked r)).row)
  unfolding step_effect made_effect
  made_effect_lem b = rw (e, b)

  pub step_receiver : receiver (step_asked r) < container_limit
  unfolding step_asked
  step_receiver = receiver_bound (request_in r) (asked r step_record)

  pub step_laid : Laid (entry (view s) (step_asked r)).row
  step_laid = entry_laid s (step_asked r) step_ready step_meet

  pub effect_long : length (step_effect s r) ≡ session_length
  effect_long =
      ⊎_elim (λ b. ap length (blocked_effect b) ∙ step_long)
      (λ b. ap length (made_effect_lem b) ∙ placed_long s step_long (receiver (step_asked r)) step_receiver (entry (view s) (step_asked r)).row step_laid)
      (decide (blocks (step_asked r) (entry (view s) (step_asked r)).row))

  step_view : view (step_effect s r) ≡ (operate (view s) (step_asked r)).0
  step_view =
      ⊎_elim
      (λ b. ap view (blocked_effect b) ∙ sym (left_blocked (step_asked r) (entry (view s) (step_asked r)).row (view s) b))
      (λ b. ap view (made_effect_lem b)
      ∙ view_put s step_long (receiver (step_asked r)) step_receiver (entry (view s) (step_asked r)).row step_laid
      ∙ sym (left_put (step_asked r) (entry (view s) (step_asked r)).row (view s) b))
      (decide (blocks (step_asked r) (entry (view s) (step_asked r)).row))
      ∙ sym (ap (λ (x : State × Answer). x.0) (operate_done (view s) (step_asked r) step_table))

  step_answer_lem : step_answer s r ≡ (operate (view s) (step_asked r)).1
  step_answer_lem = made_answer_lem ∙ sym (ap (λ (x : State × Answer). x.1) (operate_done (view s) (step_asked r) step_table))

  step_valid : Valid s → Valid (step_effect s r)
  step_valid v =
      ⊎_elim (λ b. subst Valid (sym (blocked_effect b)) v)
      (λ b. subst Valid (sym (made_effect_lem b)) (valid_put s v (receiver (step_asked r)) step_receiver (entry (view s) (step_asked r)).row step_laid))
      (decide (blocks (step_asked r) (entry (view s) (step_asked r)).row))

-- ---- the answer is a refusal exactly if a condition fails

pub answered : (s r : List ℕ) → refusal_of s r ≡ 0 → is_refused (step_answer s r) ≡ false
answered s r e = ap is_refused (made_answer_lem s r e) ∙ verdict_given (step_asked r) (entry (view s) (step_asked r)).row

pub answered_zero : (s r : List ℕ) → is_refused (step_answer s r) ≡ false → refusal_of s r ≡ 0
answered_zero s r a = by (zero_or_not (refusal_of s r))
  where
    by : (refusal_of s r ≡ 0) ⊎ (refusal_of s r ≢ 0) → refusal_of s r ≡ 0
    by (inl e) = e
    by (inr n) = clash (ap is_refused (refused_answer s r n)) a

pub accepted_zero : (s r : List ℕ) → accepted (step_answer s r) ≡ true → refusal_of s r ≡ 0
accepted_zero s r a = answered_zero s r (accepted_given (step_answer s r) a)

-- an accepted record does not block
pub accepted_free : (s r : List ℕ) → accepted (step_answer s r) ≡ true → blocks (step_asked r) (entry (view s) (step_asked r)).row ≡ false
accepted_free s r a = accepted_put (step_asked r) (entry (view s) (step_asked r)).row (ap accepted (sym (made_answer_lem s r (accepted_zero s r a))) ∙ a)

-- ---- the monitor follows the table

valid_step : (s r : List ℕ) → Valid s → Valid (step_effect s r)
valid_step s r v = by (zero_or_not (refusal_of s r))
  where
    by : (refusal_of s r ≡ 0) ⊎ (refusal_of s r ≢ 0) → Valid (step_effect s r)
    by (inl e) = step_valid s r e v
    by (inr n) = rw (refused_effect s r n) v

refusing_step : (s r : List ℕ) → is_refused (step_answer s r) ≡ true → view (step_effect s r) ≡ view s
refusing_step s r f = by (zero_or_not (refusal_of s r))
  where
    by : (refusal_of s r ≡ 0) ⊎ (refusal_of s r ≢ 0) → view (step_effect s r) ≡ view s
    by (inl e) = clash f (answered s r e)
    by (inr n) = ap view (refused_effect s r n)

answering_step : (s r : List ℕ) → is_refused (step_answer s r) ≡ false
    → (t : Step) × (step_of r ≡ some t) × (view (step_effect s r) ≡ (operate (view s) t).0) × (step_answer s r ≡ (operate (view s) t).1)
unfolding step_asked
answering_step s r a =
    let e : refusal_of s r ≡ 0 = answered_zero s r a in
    (step_in (request_in r), record_step r (step_record s r e), step_view s r e, step_answer_lem s r e)

pub faithful : Faithful step_on step_of view Valid
unfolding step_on
faithful = record {
  stays = λ s r v. valid_step s r v;
  refusing = λ s r v f. refusing_step s r f;
  answering = λ s r v a. answering_step s r a;
}
