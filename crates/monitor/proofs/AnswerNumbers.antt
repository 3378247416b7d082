-- What an answer says, and its number.
use Prim.Native.Nat.{ℕ}
use mathlib.Core.Path.{◌≡◌, refl, sym, ap, ap₂, ◌∙◌}
use mathlib.Core.Logic.{◌≢◌}
use mathlib.Core.Bool.{Bool, true, false, not, cond, ◌&&◌}
use mathlib.Core.List.{List, ◌∷◌}
use Rattle.rules.specs.Rules.{covers, cover_place}
use Rattle.image.specs.Limits.{is_guarded}
use Rattle.lists.proofs.Bools.{clash}
use Rattle.session.specs.Rows.{Row}
use Rattle.lists.specs.Lists.{elem}
use Rattle.lists.specs.Conditions.{numbers_of}
use Rattle.lists.proofs.Conditions.{given_among}
use Rattle.chains.specs.History.{Step, read, write, append, exec, fork, new_file, new_volatile, end, delete, receiver}
use Rattle.answers.specs.declared.Answer.{Answer}
use Rattle.answers.specs.declared.Received.{Received}
use Rattle.answers.specs.Answers.{quiet, alert, blocked, is_quiet, is_alert, quiet_number, receiver_of, tag_of, position_of, alert_number, blocked_number, answer_number, received_after, answer_with}
use Rattle.answers.proofs.Cases.{Apart, answer_back, number_quiet, number_unquiet}
use Rattle.chains.specs.Demand.{judged}
use Rattle.chains.specs.Table.{State, free_row, new_file_row, new_volatile_row, entry, early_conditions, table_conditions, alerts, blocks, verdict}
use Rattle.operations.specs.Effects.{session_conditions}
use Rattle.monitor.specs.Steps.{step_conditions, refusal_of, step_answer}
use Rattle.monitor.proofs.StepLaws.{refused_answer, answered}

-- ---- quiet, alert or blocked

-- "Codes 1 to 5 answer alert if the receiver's permit rule does not cover its tag afterwards, else quiet"; blocked in the place of
-- alert if the receiver is guarded (change request No. 9)
pub verdict_judged : (t : Step) (w : Row) → judged t ≡ true
    → verdict t w ≡ cond (covers w.permit w.tag) quiet (cond (is_guarded w.kind) blocked alert) (receiver t) w.tag (cover_place w.permit w.tag)
unfolding verdict blocks alerts
verdict_judged t w j = rw j (by (is_guarded w.kind) (covers w.permit w.tag))
  where
    by : (g b : Bool) → ◌≡◌ {A = Answer} (cond (g && not b) blocked (cond (not b) alert quiet) (receiver t) w.tag (cover_place w.permit w.tag))
        (cond b quiet (cond g blocked alert) (receiver t) w.tag (cover_place w.permit w.tag))
    by true true = refl
    by true false = refl
    by false true = refl
    by false false = refl

pub verdict_put : (t : Step) (w : Row) → judged t ≡ true → blocks t w ≡ false
    → verdict t w ≡ cond (covers w.permit w.tag) quiet alert (receiver t) w.tag (cover_place w.permit w.tag)
unfolding verdict alerts
verdict_put t w j f = rw (f, j) (by (covers w.permit w.tag))
  where
    by : (b : Bool) → ◌≡◌ {A = Answer} (cond (not b) alert quiet (receiver t) w.tag (cover_place w.permit w.tag)) (cond b quiet alert (receiver t) w.tag (cover_place w.permit w.tag))
    by true = refl
    by false = refl

-- "6 and 7 answer quiet", with "empty tag"; 8 and 9 "answer quiet with tag 0"
pub new_quiet : (σ : State) (t : Step) → judged t ≡ false → verdict t (entry σ t).row ≡ quiet (receiver t) 0 (cover_place (entry σ t).row.permit 0)
unfolding entry verdict blocks alerts is_guarded free_row new_file_row new_volatile_row
new_quiet σ (read p o) e = clash refl e
new_quiet σ (write p o) e = clash refl e
new_quiet σ (append p o) e = clash refl e
new_quiet σ (exec p o u) e = clash refl e
new_quiet σ (fork p o) e = clash refl e
new_quiet σ (new_file p o u) e = refl
new_quiet σ (new_volatile p o) e = refl
new_quiet σ (end p) e = refl
new_quiet σ (delete p o) e = refl

-- ---- numbers

-- neither the number of an alert nor that of a blocked access is a refusal
never_given : (s r : List ℕ) (k : ℕ) → elem k (0 ∷ numbers_of (step_conditions s r)) ≡ false → refusal_of s r ≢ k
unfolding refusal_of
never_given s r k apart e = clash (ap (λ (n : ℕ). elem n (0 ∷ numbers_of (step_conditions s r))) (sym e) ∙ given_among (step_conditions s r)) apart

never_alert : (s r : List ℕ) → refusal_of s r ≢ alert_number
never_alert s r = never_given s r alert_number (unfold elem numbers_of step_conditions session_conditions table_conditions early_conditions in refl)

never_blocked : (s r : List ℕ) → refusal_of s r ≢ blocked_number
never_blocked s r = never_given s r blocked_number (unfold elem numbers_of step_conditions session_conditions table_conditions early_conditions in refl)

pub number_refused : (s r : List ℕ) → refusal_of s r ≢ 0
    → (answer_number (step_answer s r) ≡ refusal_of s r) × (refusal_of s r ≢ alert_number) × (refusal_of s r ≢ blocked_number)
number_refused s r n = (ap answer_number (refused_answer s r n), never_alert s r, never_blocked s r)

-- "A refusal returns its number, zeros elsewhere"
pub refused_zeros : (s r : List ℕ) → refusal_of s r ≢ 0 → (is_alert (step_answer s r) ≡ false) × (receiver_of (step_answer s r) ≡ 0)
    × (tag_of (step_answer s r) ≡ 0) × (position_of (step_answer s r) ≡ 0)
refused_zeros s r n = (ap is_alert (refused_answer s r n), ap receiver_of (refused_answer s r n), ap tag_of (refused_answer s r n), ap position_of (refused_answer s r n))

-- no refusal of a step has the number of another answer
pub step_apart : (s r : List ℕ) → Apart (step_answer s r)
step_apart s r f =
    let n : refusal_of s r ≢ 0 = λ e. clash f (answered s r e) in
    let k = number_refused s r n in
    (λ z. n (sym k.0 ∙ z), λ z. k.1 (sym k.0 ∙ z), λ z. k.2 (sym k.0 ∙ z))

-- the answer, by its number and what stands where receiver, tag and position were lent
pub step_told : (s r : List ℕ) (n : ℕ) (e old : Received) → n ≡ answer_number (step_answer s r) → e ≡ received_after (step_answer s r) old → answer_with n e ≡ step_answer s r
step_told s r n e old h k = ap₂ answer_with h k ∙ answer_back (step_answer s r) (step_apart s r) old

pub told_quiet : (s r : List ℕ) (n : ℕ) → n ≡ answer_number (step_answer s r) → n ≡ quiet_number → is_quiet (step_answer s r) ≡ true
told_quiet s r n h z = number_quiet (step_answer s r) (step_apart s r) (sym h ∙ z)

pub told_unquiet : (s r : List ℕ) (n : ℕ) (a : Answer) → a ≡ step_answer s r → n ≡ answer_number (step_answer s r) → n ≢ quiet_number → is_quiet a ≡ false
told_unquiet s r n a e h z = ap is_quiet e ∙ number_unquiet (step_answer s r) (λ k. z (h ∙ k))
