-- What the records were answered that a run took, and where the records begin that it left.
use Prim.Native.Nat.{ℕ, suc, ◌*◌}
use native.Mathlib.Omega.{arith}
use mathlib.Core.Path.{◌≡◌, refl, sym, ap, ◌∙◌}
use mathlib.Core.Bool.{Bool, true, false, cond}
use mathlib.Core.List.{List, [], ◌∷◌, ◌++◌, cons≢nil, head-eq_of_cons-eq, tail-eq_of_cons-eq}
use mathlib.Core.Option.{some}
use lib.Dec.{eqb}
use lib.ListN.{length, take, drop, get_elem?, take-append-drop}
use borrow.Author.Tests.{eqb-true, eqb-false, eq-eqb}
use Rattle.lists.specs.Lists.{every}
use Rattle.lists.specs.Conditions.{numbers_of, number_at}
use Rattle.lists.proofs.Bools.{and_in, and_0, and_1, clash}
use Rattle.answers.specs.Refusals.{lent_length}
use Rattle.answers.specs.declared.Answer.{Answer}
use Rattle.answers.specs.Answers.{quiet, refused, is_quiet, is_alert, is_blocked, quiet_number, alert_number, blocked_number, answer_number}
use Rattle.answers.proofs.Cases.{quiet_no_alert, quiet_no_blocked, Numbered, given_numbered}
use Rattle.session.specs.Limits.{session_length}
use Rattle.session.specs.Session.{session_length_good}
use Rattle.records.specs.Records.{record_length}
use Rattle.records.specs.Traces.{trace_records}
use Rattle.records.proofs.TraceRecords.{records_rest}
use Rattle.monitor.specs.declared.Ran.{Ran}
use Rattle.monitor.specs.Steps.{step_conditions, refusal_of, step_answer, step_effect}
use Rattle.monitor.specs.Runs.{step_on, run_answers, run_effect}
use Rattle.monitor.specs.Stops.{stop_answer, stop_count, ran}
use Rattle.monitor.proofs.StepLaws.{refused_effect, refused_at, effect_long, answered}
use Rattle.monitor.proofs.AnswerNumbers.{number_refused}
use Rattle.monitor.proofs.RunHistories.{run_answers_append, run_effect_append}

-- ---- answers up to and with the first that is not quiet

-- the answer number n is the first that is not quiet
pub stopped : (l : List Answer) → is_quiet (stop_answer l) ≡ false
    → (n : ℕ) × (stop_count l ≡ suc n) × (every is_quiet (take n l) ≡ true) × (get_elem? l n ≡ some (stop_answer l))
unfolding stop_answer stop_count every
stopped [] q = clash refl q
stopped (a ∷ l) q = by (is_quiet a) refl (stopped l) q
  where
    by : (b : Bool) → is_quiet a ≡ b
        → (is_quiet (stop_answer l) ≡ false → (n : ℕ) × (stop_count l ≡ suc n) × (every is_quiet (take n l) ≡ true) × (get_elem? l n ≡ some (stop_answer l)))
        → is_quiet (cond b (stop_answer l) a) ≡ false
        → (n : ℕ) × (cond b (suc (stop_count l)) 1 ≡ suc n) × (every is_quiet (take n (a ∷ l)) ≡ true) × (get_elem? (a ∷ l) n ≡ some (cond b (stop_answer l) a))
    by true e h q = let g = h q in (suc g.0, ap suc g.1, and_in e g.2, g.3)
    by false e h q = (0, refl, refl, refl)

pub all_quiet : (l : List Answer) → is_quiet (stop_answer l) ≡ true → (stop_answer l ≡ quiet 0 0 0) × (stop_count l ≡ length l) × (every is_quiet l ≡ true)
unfolding stop_answer stop_count every
all_quiet [] q = (refl, refl, refl)
all_quiet (a ∷ l) q = by (is_quiet a) refl (all_quiet l) q
  where
    by : (b : Bool) → is_quiet a ≡ b → (is_quiet (stop_answer l) ≡ true → (stop_answer l ≡ quiet 0 0 0) × (stop_count l ≡ length l) × (every is_quiet l ≡ true))
        → is_quiet (cond b (stop_answer l) a) ≡ true
        → (cond b (stop_answer l) a ≡ quiet 0 0 0) × (cond b (suc (stop_count l)) 1 ≡ suc (length l)) × (every is_quiet (a ∷ l) ≡ true)
    by true e h q = let g = h q in (g.0, ap suc g.1, and_in e g.2)
    by false e h q = clash q e

pub quiet_stop : (l : List Answer) → every is_quiet l ≡ true → stop_answer l ≡ quiet 0 0 0
unfolding stop_answer every
quiet_stop [] q = refl
quiet_stop (a ∷ l) q = let h : is_quiet a ≡ true = and_0 (is_quiet a) (every is_quiet l) q in rw h (quiet_stop l (and_1 (is_quiet a) q))

-- ---- records up to and with it

nil_snoc : (qs : List (List ℕ)) (r : List ℕ) → [] ≡ qs ++ (r ∷ []) → ⊥
nil_snoc [] r e = cons≢nil (sym e)
nil_snoc (q ∷ qs) r e = cons≢nil (sym e)

-- of a test that no quiet answer passes
module _ (f : Answer → Bool) (quiets : (a : Answer) → is_quiet a ≡ true → f a ≡ false) where
  -- none is taken only if there is none
  none_taken : (s : List ℕ) (rs : List (List ℕ)) → take (stop_count (run_answers s rs)) rs ≡ [] → f (stop_answer (run_answers s rs)) ≡ false
  unfolding stop_answer stop_count run_answers
  none_taken s [] e = quiets (quiet 0 0 0) refl
  none_taken s (x ∷ rs) e = by (is_quiet (step_on s x).1) e
    where
      by : (b : Bool) → take (cond b (suc (stop_count (run_answers (step_on s x).0 rs))) 1) (x ∷ rs) ≡ [] → f (cond b (stop_answer (run_answers (step_on s x).0 rs)) (step_on s x).1) ≡ false
      by true e = absurd (cons≢nil e)
      by false e = absurd (cons≢nil e)

  -- the answer passes it exactly if the last record taken is answered so
  of_last : (s : List ℕ) (rs qs : List (List ℕ)) (r : List ℕ) → take (stop_count (run_answers s rs)) rs ≡ qs ++ (r ∷ [])
      → f (stop_answer (run_answers s rs)) ≡ f (step_answer (run_effect s qs) r)
  unfolding stop_answer stop_count run_answers run_effect step_on
  of_last s [] [] r e = absurd (cons≢nil (sym e))
  of_last s [] (q ∷ qs) r e = absurd (cons≢nil (sym e))
  of_last s (x ∷ rs) [] r e = by (is_quiet (step_answer s x)) refl e
    where
      by : (b : Bool) → is_quiet (step_answer s x) ≡ b → take (cond b (suc (stop_count (run_answers (step_effect s x) rs))) 1) (x ∷ rs) ≡ r ∷ []
          → f (cond b (stop_answer (run_answers (step_effect s x) rs)) (step_answer s x)) ≡ f (step_answer s r)
      by true q e = none_taken (step_effect s x) rs (tail-eq_of_cons-eq e) ∙ sym (quiets (step_answer s x) q) ∙ ap (λ (y : List ℕ). f (step_answer s y)) (head-eq_of_cons-eq e)
      by false q e = ap (λ (y : List ℕ). f (step_answer s y)) (head-eq_of_cons-eq e)
  of_last s (x ∷ rs) (q ∷ qs) r e = by (is_quiet (step_answer s x)) e (of_last (step_effect s x) rs qs r)
    where
      by : (b : Bool) → take (cond b (suc (stop_count (run_answers (step_effect s x) rs))) 1) (x ∷ rs) ≡ q ∷ (qs ++ (r ∷ []))
          → (take (stop_count (run_answers (step_effect s x) rs)) rs ≡ qs ++ (r ∷ []) → f (stop_answer (run_answers (step_effect s x) rs)) ≡ f (step_answer (run_effect (step_effect s x) qs) r))
          → f (cond b (stop_answer (run_answers (step_effect s x) rs)) (step_answer s x)) ≡ f (step_answer (run_effect (step_effect s q) qs) r)
      by true e h = h (tail-eq_of_cons-eq e) ∙ ap (λ (y : List ℕ). f (step_answer (run_effect (step_effect s y) qs) r)) (head-eq_of_cons-eq e)
      by false e h = absurd (nil_snoc qs r (tail-eq_of_cons-eq e))

-- ---- 9

step_keeps : (s r : List ℕ) → session_length_good s ≡ true → session_length_good (step_effect s r) ≡ true
step_keeps s r g = by (eqb (refusal_of s r) 0) refl
  where
    by : (b : Bool) → eqb (refusal_of s r) 0 ≡ b → session_length_good (step_effect s r) ≡ true
    by true e = unfold session_length_good in (eq-eqb (length (step_effect s r)) session_length (effect_long s r (eqb-true (refusal_of s r) 0 e)))
    by false e = ap session_length_good (refused_effect s r (eqb-false (refusal_of s r) 0 e)) ∙ g

-- the number of each record's answer tells quiet, alert, blocked and 9 from all others on a session of the right length
step_numbered : (s r : List ℕ) → session_length_good s ≡ true → Numbered (step_answer s r)
step_numbered s r g = by (eqb (refusal_of s r) 0) refl
  where
    by : (b : Bool) → eqb (refusal_of s r) 0 ≡ b → Numbered (step_answer s r)
    by true z = given_numbered (step_answer s r) (answered s r (eqb-true (refusal_of s r) 0 z))
    by false z =
        let n = eqb-false (refusal_of s r) 0 z in
        let h = number_refused s r n in
        record {
          quiet_alone = λ e. absurd (n (sym h.0 ∙ e));
          alert_alone = λ e. absurd (h.1 (sym h.0 ∙ e));
          blocked_alone = λ e. absurd (h.2 (sym h.0 ∙ e));
          never9 = λ e. clash g (unfold step_conditions number_at numbers_of in ((refused_at s r 0 (omega arith)).0 (sym h.0 ∙ e)));
        }

stop_numbered : (s : List ℕ) (rs : List (List ℕ)) → session_length_good s ≡ true → Numbered (stop_answer (run_answers s rs))
unfolding stop_answer run_answers step_on
stop_numbered s [] g = given_numbered (quiet 0 0 0) refl
stop_numbered s (x ∷ rs) g = by (is_quiet (step_answer s x)) (stop_numbered (step_effect s x) rs (step_keeps s x g))
  where
    by : (b : Bool) → Numbered (stop_answer (run_answers (step_effect s x) rs)) → Numbered (cond b (stop_answer (run_answers (step_effect s x) rs)) (step_answer s x))
    by true h = h
    by false h = step_numbered s x g

-- ---- a trace

pub ran_good : (s t : List ℕ) → session_length_good s ≡ true → ran s t ≡ record { answer = stop_answer (run_answers s (trace_records t)); taken = stop_count (run_answers s (trace_records t)) }
unfolding ran
ran_good s t g = rw g

ran_bad : (s t : List ℕ) → session_length_good s ≡ false → ran s t ≡ record { answer = refused lent_length; taken = 0 }
unfolding ran
ran_bad s t g = rw g

-- an alert, or blocked, is the answer to the last record taken
module _ (f : Answer → Bool) (quiets : (a : Answer) → is_quiet a ≡ true → f a ≡ false) where
  ran_of_last : (s t : List ℕ) (qs : List (List ℕ)) (r : List ℕ) → take (ran s t).taken (trace_records t) ≡ qs ++ (r ∷ [])
      → f (ran s t).answer ≡ f (step_answer (run_effect s qs) r)
  ran_of_last s t qs r e = by (session_length_good s) refl
    where
      by : (b : Bool) → session_length_good s ≡ b → f (ran s t).answer ≡ f (step_answer (run_effect s qs) r)
      by true g = rw (ran_good s t g) (of_last f quiets s (trace_records t) qs r (rw (ran_good s t g) at e))
      by false g = absurd (nil_snoc qs r (rw (ran_bad s t g) at e))

module _ (s t : List ℕ) (qs : List (List ℕ)) (r : List ℕ) where
  pub ran_alert : take (ran s t).taken (trace_records t) ≡ qs ++ (r ∷ []) → is_alert (ran s t).answer ≡ is_alert (step_answer (run_effect s qs) r)
  ran_alert = ran_of_last is_alert quiet_no_alert s t qs r

  pub ran_blocked : take (ran s t).taken (trace_records t) ≡ qs ++ (r ∷ []) → is_blocked (ran s t).answer ≡ is_blocked (step_answer (run_effect s qs) r)
  ran_blocked = ran_of_last is_blocked quiet_no_blocked s t qs r

module _ (s t : List ℕ) where
  -- the number of a run's answer
  by_number : {X : Type 0} (n : ℕ) → answer_number (ran s t).answer ≡ n → (session_length_good s ≡ true → answer_number (stop_answer (run_answers s (trace_records t))) ≡ n → X)
      → (session_length_good s ≡ false → lent_length ≡ n → X) → X
  by_number {X} n e good bad = by (session_length_good s) refl
    where
      by : (b : Bool) → session_length_good s ≡ b → X
      by true g = good g (sym (ap (λ (w : Ran). answer_number w.answer) (ran_good s t g)) ∙ e)
      by false g = bad g (sym (ap (λ (w : Ran). answer_number w.answer) (ran_bad s t g)) ∙ e)

  pub number_9 : answer_number (ran s t).answer ≡ lent_length → session_length_good s ≡ false
  number_9 e = by_number lent_length e (λ g n. absurd ((stop_numbered s (trace_records t) g).never9 n)) (λ g n. g)

  pub number_0 : answer_number (ran s t).answer ≡ quiet_number → (session_length_good s ≡ true) × (every is_quiet (run_answers s (trace_records t)) ≡ true)
  number_0 e =
      by_number quiet_number e
      (λ g n. (g, (all_quiet (run_answers s (trace_records t)) ((stop_numbered s (trace_records t) g).quiet_alone n)).2))
      (λ g n. absurd (omega arith))

  pub number_256 : answer_number (ran s t).answer ≡ alert_number → is_alert (ran s t).answer ≡ true
  number_256 e =
      by_number alert_number e
      (λ g n. ap (λ (w : Ran). is_alert w.answer) (ran_good s t g) ∙ (stop_numbered s (trace_records t) g).alert_alone n)
      (λ g n. absurd (omega arith))

  pub number_257 : answer_number (ran s t).answer ≡ blocked_number → is_blocked (ran s t).answer ≡ true
  number_257 e =
      by_number blocked_number e
      (λ g n. ap (λ (w : Ran). is_blocked w.answer) (ran_good s t g) ∙ (stop_numbered s (trace_records t) g).blocked_alone n)
      (λ g n. absurd (omega arith))

-- the records that are left, run on the session that is left, are answered as in the whole
module _ (s t : List ℕ) (n : ℕ) where
  split : trace_records t ≡ take n (trace_records t) ++ trace_records (drop (n * record_length) t)
  split = sym (take-append-drop n (trace_records t)) ∙ ap (λ (l : List (List ℕ)). take n (trace_records t) ++ l) (records_rest n t)

  pub answers_split : run_answers s (trace_records t) ≡ run_answers s (take n (trace_records t)) ++ run_answers (run_effect s (take n (trace_records t))) (trace_records (drop (n * record_length) t))
  answers_split = ap (run_answers s) split ∙ run_answers_append s (take n (trace_records t)) (trace_records (drop (n * record_length) t))

  pub effect_split : run_effect s (trace_records t) ≡ run_effect (run_effect s (take n (trace_records t))) (trace_records (drop (n * record_length) t))
  effect_split = ap (run_effect s) split ∙ run_effect_append s (take n (trace_records t)) (trace_records (drop (n * record_length) t))
