-- The last answer to a trace and the mark of its receiver, on the session that the image starts.
use Prim.Native.Nat.{ℕ, ◌<◌}
use native.Mathlib.Omega.{arith}
use mathlib.Core.Path.{◌≡◌, sym, ap, ◌∙◌}
use mathlib.Core.Bool.{Bool, true, false, not, ◌||◌}
use mathlib.Core.List.{List, [], ◌∷◌}
use mathlib.Core.Logic.{◌⊎◌, inl, inr, ◌≢◌}
use lib.ListN.{length, get_or}
use borrow.Author.Tests.{not-true, not-false}
use Rattle.lists.proofs.Conditions.{zero_or_not}
use Rattle.answers.specs.declared.Answer.{Answer}
use Rattle.answers.specs.declared.Received.{Received}
use Rattle.answers.specs.Answers.{quiet, is_alert, is_blocked, received_of, receiver_of}
use Rattle.image.specs.Limits.{container_limit}
use Rattle.image.specs.Image.{check_of, policy_in}
use Rattle.session.specs.Limits.{session_length}
use Rattle.session.specs.Session.{start_of, start_effect}
use Rattle.session.proofs.Canonical.{started_effect}
use Rattle.chains.specs.History.{receiver}
use Rattle.chains.specs.Table.{entry}
use Rattle.chains.proofs.ThreeAnswers.{verdict_receiver}
use Rattle.records.specs.Traces.{trace_records}
use Rattle.operations.specs.View.{view}
use Rattle.monitor.specs.Steps.{step_asked, step_answer, step_effect, refusal_of}
use Rattle.monitor.specs.Runs.{step_on, run_answers}
use Rattle.monitor.proofs.StepLaws.{step_receiver, made_answer_lem}
use Rattle.monitor.proofs.Theorems.{refused_zeros}
use Rattle.certificate.specs.Whys.{last_from, last_answer, answered, forbidden_last}
use Rattle.certificate.specs.Marks.{marks_all, own_marks, judgement_of}

-- ---- the receiver is a container

step_low : (s r : List ℕ) → receiver_of (step_answer s r) < container_limit
step_low s r = on (zero_or_not (refusal_of s r))
  where
    on : (refusal_of s r ≡ 0) ⊎ (refusal_of s r ≢ 0) → receiver_of (step_answer s r) < container_limit
    on (inl e) =
        let q : receiver_of (step_answer s r) ≡ receiver (step_asked r) =
        ap receiver_of (made_answer_lem s r e) ∙ verdict_receiver (step_asked r) (entry (view s) (step_asked r)).row in
        omega (arith, q, step_receiver s r e)
    on (inr n) = omega (arith, (refused_zeros s r n).1)

last_low : (d : Answer) (s : List ℕ) (rs : List (List ℕ)) → receiver_of d < container_limit → receiver_of (last_from d (run_answers s rs)) < container_limit
unfolding last_from run_answers step_on
last_low d s [] l = l
last_low d s (r ∷ rs) l = last_low (step_answer s r) (step_effect s r) rs (step_low s r)

pub receiver_low : (s : List ℕ) (rs : List (List ℕ)) → receiver_of (last_answer (run_answers s rs)) < container_limit
unfolding last_answer
receiver_low s rs = last_low (quiet 0 0 0) s rs (omega arith)

pub answered_low : (i t : List ℕ) → receiver_of (answered i t) < container_limit
unfolding answered
answered_low i t = receiver_low (start_of (policy_in i)) (trace_records t)

-- ---- what the code answers

module _ (i t zeros : List ℕ) (ok : check_of i ≡ 0) (z : length zeros ≡ session_length) {s : List ℕ} {a : Answer} (st : s ≡ start_effect i zeros)
    (f : a ≡ last_answer (run_answers s (trace_records t))) where
  begun : s ≡ start_of (policy_in i)
  begun = st ∙ started_effect i zeros ok z

  told : a ≡ answered i t
  unfolding answered
  told = f ∙ ap (λ (x : List ℕ). last_answer (run_answers x (trace_records t))) begun

  -- whether it forbids, as the code tests it
  module _ {b : Bool} (h : b ≡ (is_alert a || is_blocked a)) where
    forbidden : forbidden_last i t ≡ b
    unfolding forbidden_last
    forbidden = rw (sym told) (sym h)

    pub judged_none : not b ≡ true → forbidden_last i t ≡ false
    judged_none q = forbidden ∙ not-true b q

    pub judged_some : not b ≡ false → forbidden_last i t ≡ true
    judged_some q = forbidden ∙ not-false b q

  module _ {marks marks' : List ℕ} {e : Received} (m : marks ≡ own_marks) (ms : marks' ≡ marks_all marks 0 s (trace_records t)) (g : e ≡ received_of a) where
    pub judged_low : e.receiver < container_limit
    judged_low =
        let q : e.receiver ≡ receiver_of (answered i t) = ap (λ (x : Received). x.receiver) g ∙ ap receiver_of told in
        omega (arith, q, answered_low i t)

    pub judged_is : record { receiver = e.receiver; tag = e.tag; mark = get_or marks' e.receiver 0 } ≡ judgement_of i t
    unfolding judgement_of
    judged_is = rw (ms, g, told, m, begun)
