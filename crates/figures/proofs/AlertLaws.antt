-- Figures of a run: its history, the receivers of its alerts, and the positions of those and of the blocked records.
use Rattle.std.proofs.Common.{◌≡◌, ℕ, zero, suc, ◌+◌, ◌<◌, Bool, true, false, cond, ◌&&◌, ◌||◌, eqb, ◌⊎◌, ◌↔◌, List, [], ◌∷◌, length, sym, refl, ap, ◌∙◌, subst, ap₂, inl, inr, arith, eq-eqb, eqb-true}
use mathlib.Core.Option.{Option, none, some}
use lib.ListN.{get_elem?}
use Rattle.lists.specs.Counting.{count_below, sum_below}
use Rattle.lists.proofs.Bools.{decide, clash, and_in, and_0, and_1}
use Rattle.lists.proofs.Counting.{sum_same, sum_none, sum_add, sum_one}
use Rattle.lists.proofs.Places.{some_inj, none_some}
use Rattle.answers.specs.declared.Answer.{Answer}
use Rattle.answers.specs.Answers.{is_quiet, is_alert, is_blocked, is_refused, accepted, receiver_of, quiet, alert}
use Rattle.answers.specs.Tallies.{count_of}
use Rattle.answers.proofs.Cases.{one, one_case, accepted_cases, alert_accepted, blocked_given}
use Rattle.rules.specs.Rules.{covers}
use Rattle.image.specs.Limits.{container_limit}
use Rattle.image.specs.Policy.{Policy}
use Rattle.chains.specs.History.{Step, History, step_count, receiver}
use Rattle.chains.specs.Demand.{judged, extend, AcceptedAt, GivenAt, Demand3, BlockedExactly}
use Rattle.chains.specs.Table.{entry}
use Rattle.chains.proofs.GuardLaws.{writing_judged}
use Rattle.records.specs.Records.{step_of}
use Rattle.operations.specs.View.{view}
use Rattle.monitor.specs.Steps.{step_asked, step_answer, step_effect}
use Rattle.monitor.specs.Runs.{step_on, run_answers, history_behind}
use Rattle.monitor.proofs.Theorems.{answer_accepted, answer_judged, answer_new, accepted_spelled, given_spelled}
use Rattle.monitor.proofs.Guarded.{blocked_step}
use Rattle.monitor.proofs.StepLaws.{step_receiver}
use Rattle.figures.specs.Figures.{alert_at}
use Rattle.figures.specs.Positions.{ForbiddenAt, ForbiddenInto, BlockedAt}

-- ---- the history

pub history_size : (h : History) (s : List ℕ) (rs : List (List ℕ)) → step_count (history_behind h rs (run_answers s rs)) ≡ step_count h + count_of accepted (run_answers s rs)
unfolding history_behind run_answers count_of step_on
history_size h s [] = omega arith
history_size h s (r ∷ rs) =
    history_size (extend h (step_of r) (accepted (step_answer s r))) (step_effect s r) rs
    ∙ by (accepted (step_answer s r)) refl
  where
    unchanged : (o : Option Step) → extend h o false ≡ h
    unchanged none = refl
    unchanged (some t) = refl

    by : (b : Bool) → accepted (step_answer s r) ≡ b
        → step_count (extend h (step_of r) b) + count_of accepted (run_answers (step_effect s r) rs)
        ≡ step_count h + cond b (suc (count_of accepted (run_answers (step_effect s r) rs))) (count_of accepted (run_answers (step_effect s r) rs))
    by true e = rw (accepted_spelled s r e) (omega arith)
    by false e = rw (unchanged (step_of r))

-- ---- each answer is accepted, refused or blocked

accepted_refused : (a : Answer) → one (accepted a) + one (is_refused a) + one (is_blocked a) ≡ 1
accepted_refused a = rw (accepted_cases a) (by (is_quiet a) (is_alert a) (is_blocked a) (is_refused a) (one_case a))
  where
    by : (x y b z : Bool) → one x + one y + one b + one z ≡ 1 → one (x || y) + one z + one b ≡ 1
    by true true b z e = absurd (omega arith)
    by true false b z e = omega (arith, e)
    by false y b z e = omega (arith, e)

-- ---- the receiver of an alert

module _ (s r : List ℕ) (h : is_alert (step_answer s r) ≡ true) where
  accepts : accepted (step_answer s r) ≡ true
  accepts = alert_accepted (step_answer s r) h

  alert_judged : judged (step_asked r) ≡ true
  alert_judged = by (decide (judged (step_asked r)))
    where
      by : (judged (step_asked r) ≡ true) ⊎ (judged (step_asked r) ≡ false) → judged (step_asked r) ≡ true
      by (inl e) = e
      by (inr e) = clash h (ap is_alert (answer_new s r accepts e))

  alert_receiver : receiver_of (step_answer s r) ≡ receiver (step_asked r)
  alert_receiver =
      ap receiver_of (answer_judged s r accepts alert_judged)
      ∙ by (covers (entry (view s) (step_asked r)).row.permit (entry (view s) (step_asked r)).row.tag) _ _
    where
      by : (b : Bool) (tag position : ℕ) → receiver_of (cond b quiet alert (receiver (step_asked r)) tag position) ≡ receiver (step_asked r)
      by true tag position = refl
      by false tag position = refl

  alert_container : receiver_of (step_answer s r) < container_limit
  alert_container = rw alert_receiver (step_receiver s r ((answer_accepted s r).0 accepts).0)

-- ---- sums

-- one answer more
one_more : (f : Answer → Bool) (a : Answer) (l : List Answer) → count_of f (a ∷ l) ≡ cond (f a) 1 0 + count_of f l
unfolding count_of
one_more f a l = by (f a)
  where
    by : (b : Bool) → cond b (suc (count_of f l)) (count_of f l) ≡ cond b 1 0 + count_of f l
    by true = omega arith
    by false = omega arith

pub answers_split : (l : List Answer) → count_of accepted l + count_of is_refused l + count_of is_blocked l ≡ length l
answers_split [] = unfold count_of in refl
answers_split (a ∷ l) =
    rw (one_more accepted a l, one_more is_refused a l, one_more is_blocked a l) (omega (arith, accepted_refused a, answers_split l))

-- ---- the sum over the containers

-- an alert is one of one container, any other answer of none
alert_once : (n : ℕ) (a : Answer) → (is_alert a ≡ true → receiver_of a < n) → sum_below (λ c. cond (alert_at c a) 1 0) n ≡ cond (is_alert a) 1 0
unfolding alert_at
alert_once n a h = by (is_alert a) h
  where
    by : (b : Bool) → (b ≡ true → receiver_of a < n) → sum_below (λ c. cond (b && eqb (receiver_of a) c) 1 0) n ≡ cond b 1 0
    by true h = sum_one (receiver_of a) n (h refl)
    by false h = sum_none (λ c. 0) n (λ c l. refl)

pub alerts_summed : (s : List ℕ) (rs : List (List ℕ)) → count_of is_alert (run_answers s rs) ≡ sum_below (λ c. count_of (alert_at c) (run_answers s rs)) container_limit
unfolding run_answers step_on
alerts_summed s [] = unfold count_of in (sym (sum_none (λ c. 0) container_limit (λ c l. refl)))
alerts_summed s (r ∷ rs) = by (step_answer s r) (λ h. alert_container s r h) (run_answers (step_effect s r) rs) (alerts_summed (step_effect s r) rs)
  where
    by : (a : Answer) → (is_alert a ≡ true → receiver_of a < container_limit) → (l : List Answer) → count_of is_alert l ≡ sum_below (λ c. count_of (alert_at c) l) container_limit
        → count_of is_alert (a ∷ l) ≡ sum_below (λ c. count_of (alert_at c) (a ∷ l)) container_limit
    by a h l ih =
        let e : sum_below (λ c. count_of (alert_at c) (a ∷ l)) container_limit ≡ cond (is_alert a) 1 0 + count_of is_alert l =
        sum_same (λ c. count_of (alert_at c) (a ∷ l)) (λ c. cond (alert_at c a) 1 0 + count_of (alert_at c) l) container_limit (λ c k. one_more (alert_at c) a l)
        ∙ sum_add (λ c. cond (alert_at c a) 1 0) (λ c. count_of (alert_at c) l) container_limit
        ∙ ap₂ (λ (m n : ℕ). m + n) (alert_once container_limit a h) (sym ih) in
        one_more is_alert a l ∙ sym e

-- ---- the positions of the alerts

-- the answer at a position, if there is one, passes the test
abbrev passes : (Answer → Bool) → Option Answer → Bool
passes f none = false
passes f (some a) = f a

count_alerted : (f : Answer → Bool) (l : List Answer) → count_of f l ≡ count_below (λ n. passes f (get_elem? l n)) (length l)
unfolding count_below
count_alerted f [] = unfold count_of in refl
count_alerted f (a ∷ l) = one_more f a l ∙ ap (λ (n : ℕ). cond (f a) 1 0 + n) (count_alerted f l)

there : (l : List Answer) (n : ℕ) → n < length l → (a : Answer) × (get_elem? l n ≡ some a)
there [] n h = absurd (omega arith)
there (a ∷ l) zero h = (a, refl)
there (a ∷ l) (suc n) h = there l n (omega arith)

-- a test of positions that passes exactly where the answers pass one, and how many pass
pub count_told : (f : Answer → Bool) (Q : ℕ → Type 0) (l : List Answer) → ((n : ℕ) (a : Answer) → get_elem? l n ≡ some a → (f a ≡ true) ↔ Q n)
    → (t : ℕ → Bool) × ((n : ℕ) → n < length l → (t n ≡ true) ↔ Q n) × (count_of f l ≡ count_below t (length l))
count_told f Q l e = (λ n. passes f (get_elem? l n), λ n b. at n (there l n b), count_alerted f l)
  where
    at : (n : ℕ) → (a : Answer) × (get_elem? l n ≡ some a) → (passes f (get_elem? l n) ≡ true) ↔ Q n
    at n (a, g) = subst (λ (x : Option Answer). (passes f x ≡ true) ↔ Q n) (sym g) (e n a g)

-- the answer at a position is that of its record, on some session
answer_at : (s : List ℕ) (rs : List (List ℕ)) (n : ℕ) (a : Answer) → get_elem? (run_answers s rs) n ≡ some a
    → (r : List ℕ) × (get_elem? rs n ≡ some r) × (q : List ℕ) × (a ≡ step_answer q r)
unfolding run_answers step_on
answer_at s [] n a e = absurd (none_some e)
answer_at s (r ∷ rs) zero a e = (r, refl, s, sym (some_inj e))
answer_at s (r ∷ rs) (suc n) a e = answer_at (step_effect s r) rs n a e

module _ (s : List ℕ) (P : Policy) (d : Demand3 step_on step_of s P) (rs : List (List ℕ)) (n : ℕ) (a : Answer) (g : get_elem? (run_answers s rs) n ≡ some a) where
  -- the step of an accepted record, and its receiver
  accepted_at : (r q : List ℕ) → get_elem? rs n ≡ some r → a ≡ step_answer q r → is_alert a ≡ true → AcceptedAt step_on step_of s rs n (step_asked r) a
  unfolding run_answers
  accepted_at r q er e h =
      record {
        spelled = (r, er, accepted_spelled q r (ap accepted (sym e) ∙ alert_accepted a h));
        answered = g;
        accepting = alert_accepted a h;
      }

  same_answer : (t : Step) (b : Answer) → AcceptedAt step_on step_of s rs n t b → b ≡ a
  unfolding run_answers
  same_answer t b x = some_inj (sym x.answered ∙ g)

  -- an alert's receiver is that of the step that its record spells
  receiver_at : is_alert a ≡ true → (t : Step) (b : Answer) → AcceptedAt step_on step_of s rs n t b → receiver_of a ≡ receiver t
  receiver_at h t b x = by (answer_at s rs n a g)
    where
      by : (r : List ℕ) × (get_elem? rs n ≡ some r) × (q : List ℕ) × (a ≡ step_answer q r) → receiver_of a ≡ receiver t
      by (r, er, q, e) =
          let spelled : step_of r ≡ some (step_asked r) = accepted_spelled q r (ap accepted (sym e) ∙ alert_accepted a h) in
          let same : x.spelled.0 ≡ r = some_inj (sym x.spelled.1 ∙ er) in
          let step : step_asked r ≡ t = some_inj (sym spelled ∙ ap step_of (sym same) ∙ x.spelled.2) in
          ap receiver_of e ∙ alert_receiver q r (ap is_alert (sym e) ∙ h) ∙ ap receiver step

  pub alert_at_lem : (is_alert a ≡ true) ↔ ForbiddenAt s P rs n
  alert_at_lem = (λ h. by h (answer_at s rs n a g), λ x. ap is_alert (sym (same_answer x.0 x.1 x.2)) ∙ (d rs n x.0 x.1 x.2 x.3).1 x.4)
    where
      by : is_alert a ≡ true → (r : List ℕ) × (get_elem? rs n ≡ some r) × (q : List ℕ) × (a ≡ step_answer q r) → ForbiddenAt s P rs n
      by h (r, er, q, e) =
          let x : AcceptedAt step_on step_of s rs n (step_asked r) a = accepted_at r q er e h in
          let j : judged (step_asked r) ≡ true = alert_judged q r (ap is_alert (sym e) ∙ h) in
          (step_asked r, a, x, j, (d rs n (step_asked r) a x j).0 h)

  pub alert_into : (c : ℕ) → (alert_at c a ≡ true) ↔ ForbiddenInto s P rs c n
  unfolding alert_at
  alert_into c = (
    λ h. forth (and_0 (is_alert a) (eqb (receiver_of a) c) h) (eqb-true (receiver_of a) c (and_1 (is_alert a) h)) (alert_at_lem.0 (and_0 (is_alert a) (eqb (receiver_of a) c) h)),
    λ x. back x (alert_at_lem.1 (x.0, x.1, x.2, x.3, x.4)),
  )
    where
      forth : is_alert a ≡ true → receiver_of a ≡ c → ForbiddenAt s P rs n → ForbiddenInto s P rs c n
      forth h e (t, b, x, j, f) = (t, b, x, j, f, sym (receiver_at h t b x) ∙ e)

      back : ForbiddenInto s P rs c n → is_alert a ≡ true → (is_alert a && eqb (receiver_of a) c) ≡ true
      back (t, b, x, j, f, e) h = and_in h (eq-eqb (receiver_of a) c (receiver_at h t b x ∙ e))

-- ---- the positions of the blocked records

module _ (s : List ℕ) (P : Policy) (d : BlockedExactly step_on step_of s P) (rs : List (List ℕ)) (n : ℕ) (a : Answer) (g : get_elem? (run_answers s rs) n ≡ some a) where
  given_at : (r q : List ℕ) → get_elem? rs n ≡ some r → a ≡ step_answer q r → is_blocked a ≡ true → GivenAt step_on step_of s rs n (step_asked r) a
  unfolding run_answers
  given_at r q er e h = record { spelled = (r, er, given_spelled q r (ap is_refused (sym e) ∙ blocked_given a h)); answered = g; given = blocked_given a h }

  same_given : (t : Step) (b : Answer) → GivenAt step_on step_of s rs n t b → b ≡ a
  unfolding run_answers
  same_given t b x = some_inj (sym x.answered ∙ g)

  pub blocked_at : (is_blocked a ≡ true) ↔ BlockedAt s P rs n
  blocked_at = (λ h. by h (answer_at s rs n a g), λ x. ap is_blocked (sym (same_given x.0 x.1 x.2)) ∙ (d rs n x.0 x.1 x.2 x.3).blocks.1 (x.4, x.5))
    where
      by : is_blocked a ≡ true → (r : List ℕ) × (get_elem? rs n ≡ some r) × (q : List ℕ) × (a ≡ step_answer q r) → BlockedAt s P rs n
      by h (r, er, q, e) =
          let x : GivenAt step_on step_of s rs n (step_asked r) a = given_at r q er e h in
          let j : judged (step_asked r) ≡ true = writing_judged (step_asked r) (blocked_step q r (ap is_blocked (sym e) ∙ h)) in
          let f = (d rs n (step_asked r) a x j).blocks.0 h in
          (step_asked r, a, x, j, f.0, f.1)
