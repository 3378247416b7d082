-- The position that an answer carries.
use Prim.Native.Nat.{ℕ, ◌≤◌, ◌<◌}
use native.Mathlib.Omega.{arith}
use mathlib.Core.Path.{◌≡◌, refl, sym, ap, ◌∙◌}
use mathlib.Core.Logic.{◌⊎◌, inl, inr, ⊎_elim, ◌↔◌}
use mathlib.Core.Bool.{true, false, not, cond, ◌&&◌, ◌||◌}
use mathlib.Core.List.{List}
use lib.Dec.{eqb}
use lib.ListN.{length}
use borrow.Author.Tests.{eq-eqb, not-true, not-false}
use Rattle.lists.proofs.Bools.{and_1, decide}
use Rattle.lists.proofs.Conditions.{zero_or_not}
use Rattle.rules.specs.Rules.{covers, no_position, cover_from, cover_place, unrestricted}
use Rattle.rules.specs.Answers.{mixture_limit, tag_width}
use Rattle.rules.proofs.CoverLaws.{place_found, place_missed, place_empty}
use Rattle.image.specs.Policy.{unrestricted_rule}
use Rattle.session.specs.Rows.{Row}
use Rattle.chains.specs.History.{Step, new_file, new_volatile, end, delete, receiver}
use Rattle.chains.specs.Demand.{judged}
use Rattle.chains.specs.Table.{State, free_row, new_file_row, new_volatile_row, rule_or, entry, alerts, placed}
use Rattle.chains.proofs.ThreeAnswers.{verdict_quiet, verdict_position, quiet_rests, forbidden_alerts}
use Rattle.answers.specs.declared.Answer.{Answer}
use Rattle.answers.specs.Answers.{is_quiet, is_alert, is_blocked, accepted, position_of}
use Rattle.operations.specs.View.{view}
use Rattle.operations.proofs.RowsKept.{laid_short}
use Rattle.operations.proofs.PlacedRows.{view_put}
use Rattle.monitor.specs.Steps.{step_asked, refusal_of, step_answer, step_effect}
use Rattle.monitor.proofs.StepLaws.{refused_answer, step_long, step_receiver, step_laid, made_answer_lem, made_effect_lem, accepted_free}

placed_same : (σ : State) (c : ℕ) (w : Row) → (placed σ c w).row c ≡ w
unfolding placed
placed_same σ c w = rw (eq-eqb c c refl)

module _ (s r : List ℕ) (e : refusal_of s r ≡ 0) where
  abbrev row : Row
  row = (entry (view s) (step_asked r)).row

  pub told : position_of (step_answer s r) ≡ cover_place (entry (view s) (step_asked r)).row.permit (entry (view s) (step_asked r)).row.tag
  told = ap position_of (made_answer_lem s r e) ∙ verdict_position (step_asked r) row

  -- in the session afterwards
  pub seen : accepted (step_answer s r) ≡ true → (view (step_effect s r)).row (receiver (step_asked r)) ≡ (entry (view s) (step_asked r)).row
  seen a =
      ap (λ (x : List ℕ). (view x).row (receiver (step_asked r))) (made_effect_lem s r e (accepted_free s r a))
      ∙ ap (λ (σ : State). σ.row (receiver (step_asked r))) (view_put s (step_long s r e) (receiver (step_asked r)) (step_receiver s r e) row (step_laid s r e))
      ∙ placed_same (view s) (receiver (step_asked r)) row

  short : length row.permit ≤ mixture_limit
  short = laid_short row (step_laid s r e)

  found : covers row.permit row.tag ≡ true → position_of (step_answer s r) < length row.permit
  found c = omega (arith, told, (place_found row.permit row.tag c).inside)

  missed : covers row.permit row.tag ≡ false → position_of (step_answer s r) ≡ no_position
  missed c = told ∙ place_missed row.permit row.tag c

  -- by codes 1 to 5
  pub quiet_within : judged (step_asked r) ≡ true → (is_quiet (step_answer s r) ≡ true) ↔ (position_of (step_answer s r) < length (entry (view s) (step_asked r)).row.permit)
  unfolding alerts
  quiet_within j = (
    λ q. found (covered (quiet_rests (step_asked r) row (ap is_quiet (sym (made_answer_lem s r e)) ∙ q))),
    λ l. ap is_quiet (made_answer_lem s r e ∙ verdict_quiet (step_asked r) row (resting (⊎_elim (λ c. c) (λ c. absurd (omega (arith, l, missed c, short))) (decide (covers row.permit row.tag))))),
  )
    where
      covered : (judged (step_asked r) && not (covers row.permit row.tag)) ≡ false → covers row.permit row.tag ≡ true
      covered h = not-false (covers row.permit row.tag) (rw j at h)

      resting : covers row.permit row.tag ≡ true → (judged (step_asked r) && not (covers row.permit row.tag)) ≡ false
      resting c = rw (j, c) refl

  -- in an alert, and where it is blocked
  pub forbidden_none : (is_alert (step_answer s r) || is_blocked (step_answer s r)) ≡ true → position_of (step_answer s r) ≡ no_position
  unfolding alerts
  forbidden_none f =
      missed (not-true (covers row.permit row.tag) (and_1 (judged (step_asked r))
      (forbidden_alerts (step_asked r) row (ap (λ (a : Answer). is_alert a || is_blocked a) (sym (made_answer_lem s r e)) ∙ f))))

  -- "0 to 7 .. or 255"
  pub ranged : (position_of (step_answer s r) < mixture_limit) ⊎ (position_of (step_answer s r) ≡ no_position)
  ranged = ⊎_elim (λ c. inl (omega (arith, found c, short))) (λ c. inr (missed c)) (decide (covers row.permit row.tag))

-- of any step, it is a byte
pub small : (s r : List ℕ) → position_of (step_answer s r) < 256
small s r = ⊎_elim (λ e. ⊎_elim (λ l. omega arith) (λ q. omega (arith, q)) (ranged s r e)) (λ n. omega (arith, ap position_of (refused_answer s r n))) (zero_or_not (refusal_of s r))

-- ---- the other codes: the empty tag

entry_told : (s r : List ℕ) (t : Step) → step_asked r ≡ t → refusal_of s r ≡ 0 → position_of (step_answer s r) ≡ cover_place (entry (view s) t).row.permit (entry (view s) t).row.tag
entry_told s r t a e = told s r e ∙ ap (λ (x : Step). cover_place (entry (view s) x).row.permit (entry (view s) x).row.tag) a

module _ (s r : List ℕ) (e : refusal_of s r ≡ 0) where
  pub file_told : (p o u : ℕ) → step_asked r ≡ new_file p o u → position_of (step_answer s r) ≡ cond (eqb (length (rule_or ((view s).user u))) 0) no_position 0
  unfolding entry new_file_row
  file_told p o u a = entry_told s r (new_file p o u) a e ∙ place_empty (rule_or ((view s).user u))

  pub volatile_told : (p o : ℕ) → step_asked r ≡ new_volatile p o → position_of (step_answer s r) ≡ 0
  unfolding entry new_volatile_row unrestricted_rule unrestricted
  volatile_told p o a = entry_told s r (new_volatile p o) a e ∙ place_empty (unrestricted tag_width)

  pub left_told : (p o : ℕ) → (step_asked r ≡ end p) ⊎ (step_asked r ≡ delete p o) → position_of (step_answer s r) ≡ no_position
  unfolding entry free_row cover_place cover_from
  left_told p o (inl a) = entry_told s r (end p) a e
  left_told p o (inr a) = entry_told s r (delete p o) a e
