-- One more answer in the numbers of the figures, and what stands at each place behind those of the records and the accepted.
use Rattle.std.proofs.Common.{◌≡◌, ℕ, zero, suc, ◌+◌, ◌^◌, ◌<◌, ◌≤◌, Bool, true, false, cond, eqb, List, length, get_or, sym, refl, ap, ◌∙◌, mod-eq_of_lt, arith, length-set}
use Rattle.std.proofs.Common.{get_or-set_other, get_or-set_same, eqb-true}
use lib.Seq.{set_out}
use borrow.Author.Tests.{eqb-false}
use Rattle.lists.proofs.Bools.{clash}
use Rattle.answers.specs.declared.Verdict.TheVariants.{Quiet, Alert, Blocked}
use Rattle.answers.specs.declared.Answer.{Answer}
use Rattle.answers.specs.declared.Answer.TheVariants.{Given, Refused}
use Rattle.answers.specs.Answers.{is_quiet, is_alert, is_refused, is_blocked, receiver_of}
use Rattle.answers.proofs.Cases.{quiet_no_alert, quiet_no_blocked}
use Rattle.image.specs.Limits.{container_limit}
use Rattle.figures.specs.Figures.{alert_at}
use Rattle.totals.specs.Totals.{figures_length}
use Rattle.totals.specs.Places.{alert_count_at, container_counts_at, count_place, one_counted, event_counted}

-- what is counted at a place of these; of the first two nothing
unfoldable pub place_test : ℕ → Answer → Bool
place_test zero a = false
place_test (suc zero) a = false
place_test (suc (suc zero)) a = is_alert a
place_test (suc (suc (suc zero))) a = is_refused a
place_test (suc (suc (suc (suc zero)))) a = is_blocked a
place_test (suc (suc (suc (suc (suc c))))) a = alert_at c a

quiet_no_refused : (a : Answer) → is_quiet a ≡ true → is_refused a ≡ false
quiet_no_refused (Given v e) q = refl
quiet_no_refused (Refused n) q = clash q refl

pub quiet_place : (k : ℕ) (a : Answer) → is_quiet a ≡ true → place_test k a ≡ false
unfolding place_test alert_at
quiet_place zero a q = refl
quiet_place (suc zero) a q = refl
quiet_place (suc (suc zero)) a q = quiet_no_alert a q
quiet_place (suc (suc (suc zero))) a q = quiet_no_refused a q
quiet_place (suc (suc (suc (suc zero)))) a q = quiet_no_blocked a q
quiet_place (suc (suc (suc (suc (suc c))))) a q = rw (quiet_no_alert a q)

-- ---- one more at a place

pub one_length : (f : List ℕ) (k : ℕ) → length (one_counted f k) ≡ length f
unfolding one_counted
one_length f k = length-set f k _

pub event_length_lem : (f : List ℕ) (a : Answer) → length (event_counted f a) ≡ length f
unfolding event_counted
event_length_lem f a = by (is_alert a)
  where
    by : (b : Bool) → length (cond b (one_counted (one_counted f (count_place a)) (container_counts_at + receiver_of a)) (one_counted f (count_place a))) ≡ length f
    by true = one_length (one_counted f (count_place a)) (container_counts_at + receiver_of a) ∙ one_length f (count_place a)
    by false = one_length f (count_place a)

pub one_here : (f : List ℕ) (k i : ℕ) → i ≡ k → k < length f → get_or f i 0 + 1 < 2 ^ 64 → get_or (one_counted f k) i 0 ≡ get_or f i 0 + 1
unfolding one_counted
one_here f k i e l h = rw e (get_or-set_same f k _ 0 l ∙ mod-eq_of_lt (rw e at h))

pub one_other : (f : List ℕ) (k i : ℕ) → (i ≡ k → ⊥) → get_or (one_counted f k) i 0 ≡ get_or f i 0
unfolding one_counted
one_other f k i n = get_or-set_other f k i _ 0 n

-- ---- the steps of the code

pub place_below : (a : Answer) → count_place a < container_counts_at
place_below (Given Quiet e) = omega arith
place_below (Given Alert e) = omega arith
place_below (Given Blocked e) = omega arith
place_below (Refused n) = omega arith

pub event_other : (f : List ℕ) (a : Answer) → is_alert a ≡ false → one_counted f (count_place a) ≡ event_counted f a
unfolding event_counted
event_other f a h = rw h

pub event_alert : (f : List ℕ) (a : Answer) → is_alert a ≡ true → one_counted (one_counted f (count_place a)) (container_counts_at + receiver_of a) ≡ event_counted f a
unfolding event_counted
event_alert f a h = rw h

-- behind the last container there is no place
one_out : (f : List ℕ) (k : ℕ) → length f ≤ k → one_counted f k ≡ f
unfolding one_counted
one_out f k l = set_out f k _ l

pub event_beyond : (f : List ℕ) (a : Answer) → is_alert a ≡ true → length f ≡ figures_length → container_limit ≤ receiver_of a → one_counted f (count_place a) ≡ event_counted f a
event_beyond f a h l m = sym (one_out (one_counted f (count_place a)) (container_counts_at + receiver_of a) (omega (arith, l, one_length f (count_place a), m))) ∙ event_alert f a h

-- ---- one more answer that is not quiet

module _ (f : List ℕ) (l : length f ≡ figures_length) where
  same : (i : ℕ) → get_or f i 0 ≡ get_or f i 0 + 0
  same i = omega arith

  -- in the count of an alert's receiver, or not
  alerted : (r c i : ℕ) (b : Bool) → i ≡ 5 + c → eqb r c ≡ b → i < figures_length → (b ≡ true → get_or f i 0 + 1 < 2 ^ 64)
      → get_or (one_counted (one_counted f alert_count_at) (container_counts_at + r)) i 0 ≡ get_or f i 0 + cond b 1 0
  alerted r c i true ie e m h =
      let o = one_other f alert_count_at i (λ z. omega (arith, ie)) in
      one_here (one_counted f alert_count_at) (container_counts_at + r) i (omega (arith, ie, eqb-true r c e))
      (omega (arith, ie, l, one_length f alert_count_at, m, eqb-true r c e)) (omega (arith, o, h refl))
      ∙ ap (λ (n : ℕ). n + 1) o
  alerted r c i false ie e m h =
      one_other (one_counted f alert_count_at) (container_counts_at + r) i (λ w. eqb-false r c e (omega (arith, ie, w))) ∙ one_other f alert_count_at i (λ w. omega (arith, ie)) ∙ same i

  -- an alert is counted behind its count in that of its receiver alone
  alert_at_lem : (r i : ℕ) → i < 5 → get_or (one_counted (one_counted f alert_count_at) (container_counts_at + r)) i 0 ≡ get_or (one_counted f alert_count_at) i 0
  alert_at_lem r i m = one_other (one_counted f alert_count_at) (container_counts_at + r) i (λ z. omega arith)

  -- at each place there is one more exactly if the answer passes its test
  pub event_at : (a : Answer) (i : ℕ) → is_quiet a ≡ false → 2 ≤ i → i < figures_length → (place_test i a ≡ true → get_or f i 0 + 1 < 2 ^ 64)
      → get_or (event_counted f a) i 0 ≡ get_or f i 0 + cond (place_test i a) 1 0
  unfolding event_counted place_test alert_at
  event_at a zero q n m h = absurd (omega arith)
  event_at a (suc zero) q n m h = absurd (omega arith)
  event_at (Given Quiet e) (suc (suc i)) q n m h = clash refl q
  event_at (Given Alert e) (suc (suc zero)) q n m h = alert_at_lem e.receiver 2 (omega arith) ∙ one_here f 2 2 refl (omega (arith, l)) (h refl)
  event_at (Given Alert e) (suc (suc (suc zero))) q n m h = alert_at_lem e.receiver 3 (omega arith) ∙ one_other f 2 3 (λ z. omega arith) ∙ same 3
  event_at (Given Alert e) (suc (suc (suc (suc zero)))) q n m h = alert_at_lem e.receiver 4 (omega arith) ∙ one_other f 2 4 (λ z. omega arith) ∙ same 4
  event_at (Given Alert e) (suc (suc (suc (suc (suc c))))) q n m h = alerted e.receiver c (suc (suc (suc (suc (suc c))))) (eqb e.receiver c) (omega arith) refl m h
  event_at (Given Blocked e) (suc (suc zero)) q n m h = one_other f 4 2 (λ z. omega arith) ∙ same 2
  event_at (Given Blocked e) (suc (suc (suc zero))) q n m h = one_other f 4 3 (λ z. omega arith) ∙ same 3
  event_at (Given Blocked e) (suc (suc (suc (suc zero)))) q n m h = one_here f 4 4 refl (omega (arith, l)) (h refl)
  event_at (Given Blocked e) (suc (suc (suc (suc (suc c))))) q n m h = one_other f 4 (suc (suc (suc (suc (suc c))))) (λ z. omega arith) ∙ same (suc (suc (suc (suc (suc c)))))
  event_at (Refused r) (suc (suc zero)) q n m h = one_other f 3 2 (λ z. omega arith) ∙ same 2
  event_at (Refused r) (suc (suc (suc zero))) q n m h = one_here f 3 3 refl (omega (arith, l)) (h refl)
  event_at (Refused r) (suc (suc (suc (suc zero)))) q n m h = one_other f 3 4 (λ z. omega arith) ∙ same 4
  event_at (Refused r) (suc (suc (suc (suc (suc c))))) q n m h = one_other f 3 (suc (suc (suc (suc (suc c))))) (λ z. omega arith) ∙ same (suc (suc (suc (suc (suc c)))))
