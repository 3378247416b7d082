-- What the mark of the receiver tells is the reason on the history of the explanation.
use Prim.Native.Nat.{ℕ}
use native.Mathlib.Omega.{arith}
use mathlib.Core.Path.{◌≡◌, refl, sym, ap, subst, ◌∙◌}
use mathlib.Core.Bool.{true, false, ◌||◌}
use mathlib.Core.List.{List, [], ◌∷◌, ◌++◌}
use mathlib.Core.Logic.{◌⊎◌, inl, inr}
use lib.Dec.{eqb}
use lib.ListN.{length}
use borrow.Author.Tests.{eq-eqb}
use Rattle.lists.proofs.Bools.{and_0, or_cases, clash}
use Rattle.fields.specs.Writing.{overwritten}
use Rattle.answers.specs.declared.Answer.{Answer}
use Rattle.answers.specs.Answers.{is_alert, is_blocked, is_refused, receiver_of, tag_of}
use Rattle.answers.proofs.Cases.{alert_accepted, accepted_given, blocked_given}
use Rattle.image.specs.Image.{policy_in, check_of}
use Rattle.session.specs.Session.{start_of}
use Rattle.chains.specs.Demand.{history_of}
use Rattle.records.specs.Records.{step_of}
use Rattle.records.specs.Traces.{trace_records}
use Rattle.monitor.specs.Steps.{step_answer}
use Rattle.monitor.specs.Runs.{step_on, run_answers, run_effect}
use Rattle.witness.specs.Told.{told_history, told_numbers, accepted_numbers, at_end}
use Rattle.witness.specs.Explains.{lent_good}
use Rattle.witness.proofs.ExplainLaws.{lent_room}
use Rattle.certificate.specs.declared.Judgement.{Judgement}
use Rattle.certificate.specs.declared.Told.{Told}
use Rattle.certificate.specs.Origins.{origin}
use Rattle.certificate.specs.Whys.{Reason, reason_by, reason_numbers, why_numbers, links_by, last_from, last_answer, answered}
use Rattle.certificate.specs.Whys.{reason_in, forbidden_last, room_good, why_refusal, why_effect, why_steps, why_links}
use Rattle.certificate.specs.Marks.{judgement_of, mark_origin, MarkGood, Roomy, told_of, mark_reason, mark_links, numbers_by}
use Rattle.certificate.proofs.OriginLaws.{inside}
use Rattle.certificate.proofs.MarkLaws.{Marked, AcceptedRecord, good_all}
use Rattle.certificate.proofs.MarkOrigins.{renumbered, mark_origin_lem, mark_good}
use Rattle.certificate.proofs.ReasonLaws.{reason_same, links_same}
use Rattle.certificate.proofs.ToldLaws.{Ended, ended, last_answer_lem, reason_told, links_told}
use Rattle.certificate.proofs.LastAnswer.{answered_low}
use Rattle.certificate.proofs.WhyCases.{refusal_none, Left}

-- ---- the last record

pub forbidden_given : (a : Answer) → (is_alert a || is_blocked a) ≡ true → is_refused a ≡ false
forbidden_given a f = on (or_cases (is_alert a) f)
  where
    on : (is_alert a ≡ true) ⊎ (is_blocked a ≡ true) → is_refused a ≡ false
    on (inl e) = accepted_given a (alert_accepted a e)
    on (inr e) = blocked_given a e

-- a trace whose last record is answered by an alert or blocked, with that record apart
pub record Last (i t : List ℕ) : Type 0 where
  pub front : List (List ℕ)
  pub last : List ℕ
  pub is : trace_records t ≡ front ++ (last ∷ [])
  pub answer : answered i t ≡ step_answer (run_effect (start_of (policy_in i)) front) last
  pub forbids : (is_alert (step_answer (run_effect (start_of (policy_in i)) front) last) || is_blocked (step_answer (run_effect (start_of (policy_in i)) front) last)) ≡ true
  pub given : is_refused (step_answer (run_effect (start_of (policy_in i)) front) last) ≡ false

pub last_of : (i t : List ℕ) → forbidden_last i t ≡ true → Last i t
unfolding forbidden_last answered
last_of i t f = on (trace_records t) refl
  where
    on : (rs : List (List ℕ)) → trace_records t ≡ rs → Last i t
    on [] e = clash (rw e at f) (unfold run_answers last_answer last_from in refl)
    on (r ∷ rs) e =
        let x : Ended (r ∷ rs) = ended (r ∷ rs) (omega arith) in
        let q : trace_records t ≡ x.front ++ (x.last ∷ []) = e ∙ x.is in
        let a : last_answer (run_answers (start_of (policy_in i)) (trace_records t)) ≡ step_answer (run_effect (start_of (policy_in i)) x.front) x.last =
        ap (λ (k : List (List ℕ)). last_answer (run_answers (start_of (policy_in i)) k)) q ∙ last_answer_lem (start_of (policy_in i)) x.front x.last in
        let b : (is_alert (step_answer (run_effect (start_of (policy_in i)) x.front) x.last) || is_blocked (step_answer (run_effect (start_of (policy_in i)) x.front) x.last)) ≡ true = rw a at f in
        record {
          front = x.front;
          last = x.last;
          is = q;
          answer = unfold answered in a;
          forbids = b;
          given = forbidden_given (step_answer (run_effect (start_of (policy_in i)) x.front) x.last) b;
        }

-- ---- the mark of the receiver

module _ (i t : List ℕ) where
  receiver_mark : Marked (AcceptedRecord (start_of (policy_in i)) (trace_records t)) (accepted_numbers (start_of (policy_in i)) (trace_records t)) (judgement_of i t).mark
      (origin (history_of step_on step_of (start_of (policy_in i)) (trace_records t)) (receiver_of (answered i t)))
  unfolding judgement_of
  receiver_mark = (good_all (start_of (policy_in i)) (trace_records t)).each (receiver_of (answered i t)) (answered_low i t)

  pub judged_mark : MarkGood t (judgement_of i t).mark
  judged_mark =
      mark_good t (start_of (policy_in i)) (accepted_numbers (start_of (policy_in i)) (trace_records t)) (judgement_of i t).mark
      (origin (history_of step_on step_of (start_of (policy_in i)) (trace_records t)) (receiver_of (answered i t))) receiver_mark

  origin_marked : mark_origin t (judgement_of i t).mark
      ≡ renumbered (accepted_numbers (start_of (policy_in i)) (trace_records t)) (origin (history_of step_on step_of (start_of (policy_in i)) (trace_records t)) (receiver_of (answered i t)))
  origin_marked =
      mark_origin_lem t (start_of (policy_in i)) (accepted_numbers (start_of (policy_in i)) (trace_records t)) (judgement_of i t).mark
      (origin (history_of step_on step_of (start_of (policy_in i)) (trace_records t)) (receiver_of (answered i t))) receiver_mark

  -- on the paper's history
  reason_marked : (tag : ℕ) → mark_reason i t tag (judgement_of i t).mark
      ≡ reason_by (policy_in i) (history_of step_on step_of (start_of (policy_in i)) (trace_records t)) (accepted_numbers (start_of (policy_in i)) (trace_records t)) tag
      (origin (history_of step_on step_of (start_of (policy_in i)) (trace_records t)) (receiver_of (answered i t)))
  unfolding mark_reason
  reason_marked tag =
      rw origin_marked
      (reason_same (policy_in i) (start_of (policy_in i)) (trace_records t) tag
      (origin (history_of step_on step_of (start_of (policy_in i)) (trace_records t)) (receiver_of (answered i t)))
      (inside (history_of step_on step_of (start_of (policy_in i)) (trace_records t)) (receiver_of (answered i t))))

  links_marked : (tag : ℕ) (links : List ℕ) → mark_links i t tag (judgement_of i t).mark links
      ≡ links_by (policy_in i) (start_of (policy_in i)) (trace_records t) (accepted_numbers (start_of (policy_in i)) (trace_records t)) tag
      (origin (history_of step_on step_of (start_of (policy_in i)) (trace_records t)) (receiver_of (answered i t))) links
  unfolding mark_links
  links_marked tag links =
      rw origin_marked
      (links_same (policy_in i) (start_of (policy_in i)) (trace_records t) tag (accepted_numbers (start_of (policy_in i)) (trace_records t))
      (origin (history_of step_on step_of (start_of (policy_in i)) (trace_records t)) (receiver_of (answered i t))) links)

  -- on the history of the explanation
  module _ (f : forbidden_last i t ≡ true) where
    pub reason_here : mark_reason i t (tag_of (answered i t)) (judgement_of i t).mark ≡ reason_in i t
    unfolding reason_in
    reason_here =
        let x : Last i t = last_of i t f in
        reason_marked (tag_of (answered i t))
        ∙ rw x.is (sym (reason_told (policy_in i) (start_of (policy_in i)) x.front x.last (receiver_of (answered i t)) (tag_of (answered i t)) x.given))

    pub links_here : (links : List ℕ) → mark_links i t (tag_of (answered i t)) (judgement_of i t).mark links
        ≡ links_by (policy_in i) (start_of (policy_in i)) (trace_records t) (told_numbers (start_of (policy_in i)) (trace_records t)) (tag_of (answered i t))
        (origin (told_history (start_of (policy_in i)) (trace_records t)) (receiver_of (answered i t))) links
    links_here links =
        let x : Last i t = last_of i t f in
        links_marked (tag_of (answered i t)) links
        ∙ rw x.is (sym (links_told (policy_in i) (start_of (policy_in i)) x.front x.last (receiver_of (answered i t)) (tag_of (answered i t)) x.given links))

-- ---- as the code has it

pub roomy : (t links steps out : List ℕ) → room_good t links steps out ≡ true → Roomy t links steps
unfolding room_good
roomy t links steps out g = let x = lent_room t links steps (and_0 (lent_good t links steps) _ g) in record { for_links = x.0; for_steps = x.1 }

module _ (i t : List ℕ) {j : Judgement} (e : j ≡ judgement_of i t) where
  pub judged_good : MarkGood t j.mark
  judged_good = subst (λ (x : Judgement). MarkGood t x.mark) (sym e) (judged_mark i t)

  module _ (f : forbidden_last i t ≡ true) where
    judged_tag : j.tag ≡ tag_of (answered i t)
    unfolding judgement_of
    judged_tag = ap (λ (x : Judgement). x.tag) e

    judged_receiver : j.receiver ≡ receiver_of (answered i t)
    unfolding judgement_of
    judged_receiver = ap (λ (x : Judgement). x.receiver) e

    judged_reason : mark_reason i t j.tag j.mark ≡ reason_in i t
    judged_reason = rw (judged_tag, ap (λ (x : Judgement). x.mark) e) (reason_here i t f)

    numbers_same : (steps : List ℕ) (w : Reason) → numbers_by (policy_in i) j.receiver j.tag (told_of (length steps) w) ≡ reason_numbers (policy_in i) j.receiver j.tag (length steps) w
    numbers_same steps w = unfold numbers_by reason_numbers in refl

    pub left_told : (links steps out : List ℕ) → room_good t links steps out ≡ true → check_of i ≡ 0 → {r : Told} {out' steps' links' : List ℕ}
        → r ≡ told_of (length steps) (mark_reason i t j.tag j.mark)
        → steps' ≡ at_end (mark_reason i t j.tag j.mark).chain steps
        → links' ≡ mark_links i t j.tag j.mark links
        → out' ≡ overwritten (numbers_by (policy_in i) j.receiver j.tag r) 0 out
        → Left i t links steps out 0 out' steps' links'
    unfolding why_effect why_steps why_links why_numbers reason_in
    left_told links steps out g ok {r} {out'} {steps'} {links'} er es el eo =
        let z : why_refusal i t links steps out ≡ 0 = refusal_none i t links steps out g ok f in
        let b : eqb (why_refusal i t links steps out) 0 ≡ true = eq-eqb (why_refusal i t links steps out) 0 z in (
          sym z,
          rw b
              (eo ∙ ap (λ (x : Told). overwritten (numbers_by (policy_in i) j.receiver j.tag x) 0 out) (er ∙ ap (told_of (length steps)) judged_reason)
              ∙ ap (λ (x : List ℕ). overwritten x 0 out) (numbers_same steps (reason_in i t))
              ∙ (rw (judged_tag, judged_receiver))),
          rw b (es ∙ ap (λ (w : Reason). at_end w.chain steps) judged_reason),
          rw b (el ∙ (rw (judged_tag, ap (λ (x : Judgement). x.mark) e) (links_here i t f links))),
        )
