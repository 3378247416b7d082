-- The records that are told are the steps of the chain, in rising order.
use Prim.Native.Nat.{ℕ, zero, suc, ◌+◌, ◌-◌, ◌≤◌, ◌<◌}
use native.Mathlib.Omega.{arith}
use native.Mathlib.Decide.{ℕ_discrete}
use mathlib.Core.Path.{◌≡◌, refl, sym, ◌∙◌, ap}
use mathlib.Core.Bool.{Bool, true, false, not, cond}
use mathlib.Core.List.{List, [], ◌∷◌, ◌++◌, map, append-nil}
use mathlib.Core.Logic.{◌⊎◌, inl, inr}
use mathlib.Core.Option.{Option, none, some}
use lib.ListN.{length, take, drop, get_or, get_elem?, length-take, length-drop, get_or-append}
use lib.Seq.{take-take}
use Rattle.lists.proofs.Places.{none_some}
use Rattle.answers.specs.Answers.{accepted, is_refused, is_blocked}
use Rattle.answers.proofs.Cases.{accepted_given, given_cases}
use Rattle.image.specs.Limits.{container_limit}
use Rattle.image.specs.Policy.{Policy}
use Rattle.chains.specs.History.{Step, History, start, ◌▸◌, step_count, StepAt}
use Rattle.chains.specs.Chains.{Item, Starts, Leads}
use Rattle.chains.specs.Demand.{extend, history_from, history_of}
use Rattle.chains.proofs.ChainLaws.{at_lt}
use Rattle.records.specs.Records.{step_of}
use Rattle.monitor.specs.Steps.{step_asked, step_answer, step_effect}
use Rattle.monitor.specs.Runs.{step_on, run_effect}
use Rattle.monitor.proofs.Theorems.{given_spelled}
use Rattle.witness.specs.Witness.{Witness, rising}
use Rattle.witness.specs.Told.{front_of, last_of, with_last, told_history, numbers_from, accepted_numbers, last_number, told_numbers, chain_file, chain_records}
use Rattle.witness.proofs.TrackLaws.{skipped}
use Rattle.witness.specs.Tells.{Right, StepOfRecord, Numbered, Rising, ChainTold}

-- ---- places

at_front : {A : Type 0} (l : List A) (k n : ℕ) (x : A) → get_elem? (take k l) n ≡ some x → (get_elem? l n ≡ some x) × (n < k)
at_front l zero n x e = absurd (none_some e)
at_front [] (suc k) n x e = absurd (none_some e)
at_front (y ∷ l) (suc k) zero x e = (e, omega arith)
at_front (y ∷ l) (suc k) (suc n) x e = let r = at_front l k n x e in (r.0, omega (arith, r.1))

at_last : {A : Type 0} (l : List A) (k : ℕ) (x : A) (xs : List A) → drop k l ≡ x ∷ xs → get_elem? l k ≡ some x
at_last [] zero x xs e = absurd (omega (arith, ap length e))
at_last [] (suc k) x xs e = absurd (omega (arith, ap length e))
at_last (y ∷ l) zero x xs e = ap (λ l. get_elem? l 0) e
at_last (y ∷ l) (suc k) x xs e = at_last l k x xs e

get_d_right : (xs : List ℕ) (y : ℕ) (ys : List ℕ) (i : ℕ) → i ≡ length xs → get_or (xs ++ (y ∷ ys)) i 0 ≡ y
get_d_right [] y ys i e = rw e
get_d_right (x ∷ xs) y ys i e = rw e (get_d_right xs y ys (length xs) refl)

-- ---- the numbers of the accepted records

-- one more record
size_next : (h : History) (s r : List ℕ) → step_count (extend h (step_of r) (accepted (step_answer s r))) ≡ cond (accepted (step_answer s r)) (suc (step_count h)) (step_count h)
size_next h s r = on (accepted (step_answer s r)) refl
  where
    on : (b : Bool) → accepted (step_answer s r) ≡ b → step_count (extend h (step_of r) b) ≡ cond b (suc (step_count h)) (step_count h)
    on true e = rw (given_spelled s r (accepted_given (step_answer s r) e))
    on false e = by (step_of r)
      where
        by : (m : Option Step) → step_count (extend h m false) ≡ step_count h
        by none = refl
        by (some x) = refl

numbers_size : (h : History) (n : ℕ) (s : List ℕ) (rs : List (List ℕ)) → step_count h + length (numbers_from n s rs) ≡ step_count (history_from step_on step_of h s rs)
unfolding numbers_from step_on
numbers_size h n s [] = omega arith
numbers_size h n s (r ∷ rs) =
    on (accepted (step_answer s r)) refl
    ∙ numbers_size (extend h (step_of r) (accepted (step_answer s r))) (suc n) (step_effect s r) rs
  where
    on : (b : Bool) → accepted (step_answer s r) ≡ b → step_count h + length (cond b (n ∷ numbers_from (suc n) (step_effect s r) rs) (numbers_from (suc n) (step_effect s r) rs))
        ≡ step_count (extend h (step_of r) (accepted (step_answer s r))) + length (numbers_from (suc n) (step_effect s r) rs)
    on true e =
        let z : step_count (extend h (step_of r) (accepted (step_answer s r))) ≡ suc (step_count h)
        = size_next h s r ∙ ap (λ (b : Bool). cond b (suc (step_count h)) (step_count h)) e in
        omega (arith, z)
    on false e = let z : step_count (extend h (step_of r) (accepted (step_answer s r))) ≡ step_count h = size_next h s r
        ∙ ap (λ (b : Bool). cond b (suc (step_count h)) (step_count h)) e in omega (arith, z)

numbers_bound : (n : ℕ) (s : List ℕ) (rs : List (List ℕ)) (i : ℕ) → i < length (numbers_from n s rs)
    → (n ≤ get_or (numbers_from n s rs) i 0) × (get_or (numbers_from n s rs) i 0 < n + length rs)
unfolding numbers_from
numbers_bound n s [] i l = absurd (omega arith)
numbers_bound n s (r ∷ rs) i l = on (accepted (step_answer s r)) i l (λ j m. numbers_bound (suc n) (step_effect s r) rs j m)
  where
    on : (b : Bool) (i : ℕ) → i < length (cond b (n ∷ numbers_from (suc n) (step_effect s r) rs) (numbers_from (suc n) (step_effect s r) rs))
        → ((j : ℕ) → j < length (numbers_from (suc n) (step_effect s r) rs) → (suc n ≤ get_or (numbers_from (suc n) (step_effect s r) rs) j 0) ×
        (get_or (numbers_from (suc n) (step_effect s r) rs) j 0 < suc n + length rs))
        → (n ≤ get_or (cond b (n ∷ numbers_from (suc n) (step_effect s r) rs) (numbers_from (suc n) (step_effect s r) rs)) i 0)
        × (get_or (cond b (n ∷ numbers_from (suc n) (step_effect s r) rs) (numbers_from (suc n) (step_effect s r) rs)) i 0 < n + suc (length rs))
    on true zero l ih = (omega arith, omega arith)
    on true (suc i) l ih = let z = ih i (omega arith) in (omega (arith, z.0), omega (arith, z.1))
    on false i l ih = let z = ih i l in (omega (arith, z.0), omega (arith, z.1))

numbers_rise : (n : ℕ) (s : List ℕ) (rs : List (List ℕ)) (i j : ℕ) → i < j → j < length (numbers_from n s rs)
    → get_or (numbers_from n s rs) i 0 < get_or (numbers_from n s rs) j 0
unfolding numbers_from
numbers_rise n s [] i j l m = absurd (omega arith)
numbers_rise n s (r ∷ rs) i j l m = on (accepted (step_answer s r)) i j l m (λ i j l m. numbers_rise (suc n) (step_effect s r) rs i j l m)
  where
    on : (b : Bool) (i j : ℕ) → i < j → j < length (cond b (n ∷ numbers_from (suc n) (step_effect s r) rs) (numbers_from (suc n) (step_effect s r) rs))
        → ((i j : ℕ) → i < j → j < length (numbers_from (suc n) (step_effect s r) rs) → get_or (numbers_from (suc n) (step_effect s r) rs) i 0 < get_or (numbers_from (suc n) (step_effect s r) rs) j 0)
        → get_or (cond b (n ∷ numbers_from (suc n) (step_effect s r) rs) (numbers_from (suc n) (step_effect s r) rs)) i 0
        < get_or (cond b (n ∷ numbers_from (suc n) (step_effect s r) rs) (numbers_from (suc n) (step_effect s r) rs)) j 0
    on true i zero l m ih = absurd (omega arith)
    on true zero (suc j) l m ih = let z = numbers_bound (suc n) (step_effect s r) rs j (omega arith) in omega (arith, z.0)
    on true (suc i) (suc j) l m ih = ih i j (omega arith) (omega arith)
    on false i j l m ih = ih i j l m

-- ---- the records of the accepted steps

-- what the history had, it keeps
at_kept : (h : History) (i : ℕ) (t : Step) (s : List ℕ) (rs : List (List ℕ)) → StepAt h i t → StepAt (history_from step_on step_of h s rs) i t
unfolding step_on
at_kept h i t s [] a = a
at_kept h i t s (r ∷ rs) a = at_kept (extend h (step_of r) (accepted (step_answer s r))) i t (step_effect s r) rs (on (step_of r) (accepted (step_answer s r)))
  where
    on : (m : Option Step) (b : Bool) → StepAt (extend h m b) i t
    on none b = a
    on (some x) false = a
    on (some x) true = inr a

-- step number i is record number n of those from number k on
pub record Spelled (h : History) (k : ℕ) (s : List ℕ) (rs : List (List ℕ)) (n i : ℕ) : Type 0 where
  pub place : ℕ
  pub number : n ≡ k + place
  pub bytes : List ℕ
  pub there : get_elem? rs place ≡ some bytes
  pub counts : accepted (step_answer (run_effect s (take place rs)) bytes) ≡ true
  pub step : StepAt h i (step_asked bytes)

-- the records behind the first one
spelled_behind : (h : History) (k : ℕ) (s r : List ℕ) (rs : List (List ℕ)) (n i : ℕ) → Spelled h (suc k) (step_effect s r) rs n i → Spelled h k s (r ∷ rs) n i
unfolding run_effect step_on
spelled_behind h k s r rs n i S =
    record { place = suc S.place; number = omega (arith, S.number); bytes = S.bytes; there = S.there; counts = S.counts; step = S.step }

module _ (h : History) (k : ℕ) (s r : List ℕ) (rs : List (List ℕ)) (i : ℕ) where
  abbrev next : History
  next = extend h (step_of r) (accepted (step_answer s r))

  abbrev all : History
  all = history_from step_on step_of (extend h (step_of r) (accepted (step_answer s r))) (step_effect s r) rs

  -- the first one is step number i
  spelled_here : accepted (step_answer s r) ≡ true → i ≡ step_count h → Spelled all k s (r ∷ rs) k i
  unfolding run_effect
  spelled_here e z =
      record {
        place = 0;
        number = omega arith;
        bytes = r;
        there = refl;
        counts = e;
        step = at_kept (extend h (step_of r) (accepted (step_answer s r))) i (step_asked r) (step_effect s r) rs (rw (given_spelled s r (accepted_given (step_answer s r) e), e) (inl (z, refl)));
      }

  spelled_first : (b : Bool) → accepted (step_answer s r) ≡ b → step_count h ≤ i
      → (step_count next ≤ i → Spelled all (suc k) (step_effect s r) rs (get_or (numbers_from (suc k) (step_effect s r) rs) (i - step_count next) 0) i)
      → Spelled all k s (r ∷ rs) (get_or (cond b (k ∷ numbers_from (suc k) (step_effect s r) rs) (numbers_from (suc k) (step_effect s r) rs)) (i - step_count h) 0) i
  spelled_first true e lo ih = on (ℕ_discrete i (step_count h))
    where
      z : step_count next ≡ suc (step_count h)
      z = size_next h s r ∙ ap (λ (b : Bool). cond b (suc (step_count h)) (step_count h)) e

      on : Dec (i ≡ step_count h) → Spelled all k s (r ∷ rs) (get_or (k ∷ numbers_from (suc k) (step_effect s r) rs) (i - step_count h) 0) i
      on (yes q) = let y : i - step_count h ≡ 0 = omega (arith, q) in rw y (spelled_here e q)
      on (no q) =
          let y : i - step_count h ≡ suc (i - step_count next) = omega (arith, q, lo, z) in
          rw y (spelled_behind all k s r rs (get_or (numbers_from (suc k) (step_effect s r) rs) (i - step_count next) 0) i (ih (omega (arith, q, lo, z))))
  spelled_first false e lo ih =
      let z : step_count next ≡ step_count h = size_next h s r ∙ ap (λ (b : Bool). cond b (suc (step_count h)) (step_count h)) e in
      let y : i - step_count h ≡ i - step_count next = omega (arith, z) in
      rw y (spelled_behind all k s r rs (get_or (numbers_from (suc k) (step_effect s r) rs) (i - step_count next) 0) i (ih (omega (arith, lo, z))))

spelled : (h : History) (k : ℕ) (s : List ℕ) (rs : List (List ℕ)) (i : ℕ) → step_count h ≤ i → i < step_count (history_from step_on step_of h s rs)
    → Spelled (history_from step_on step_of h s rs) k s rs (get_or (numbers_from k s rs) (i - step_count h) 0) i
unfolding numbers_from step_on
spelled h k s [] i lo hi = absurd (omega arith)
spelled h k s (r ∷ rs) i lo hi =
    spelled_first h k s r rs i (accepted (step_answer s r)) refl lo
    (λ l. spelled (extend h (step_of r) (accepted (step_answer s r))) (suc k) (step_effect s r) rs i l hi)

-- ---- the two histories

-- of the records rs on s: the numbers ns of the steps of h rise, and each is a record that counts
pub record Told (h : History) (s : List ℕ) (rs : List (List ℕ)) (ns : List ℕ) : Type 0 where
  pub rise : (i j : ℕ) → i < j → j < step_count h → get_or ns i 0 < get_or ns j 0
  pub are : (i : ℕ) → i < step_count h → StepOfRecord h s rs (get_or ns i 0) i

-- the paper's
pub accepted_told : (s : List ℕ) (rs : List (List ℕ)) → Told (history_of step_on step_of s rs) s rs (accepted_numbers s rs)
unfolding accepted_numbers
accepted_told s rs =
    record {
      rise = λ i j l m. numbers_rise 0 s rs i j l (omega (arith, m, numbers_size start 0 s rs));
      are = λ i l. of i (spelled start 0 s rs i (omega arith) l);
    }
  where
    of : (i : ℕ) → Spelled (history_of step_on step_of s rs) 0 s rs (get_or (numbers_from 0 s rs) (i - 0) 0) i
        → StepOfRecord (history_of step_on step_of s rs) s rs (get_or (numbers_from 0 s rs) i 0) i
    of i S =
        let y : i - 0 ≡ i = omega arith in
        let z : get_or (numbers_from 0 s rs) i 0 ≡ S.place = ap (λ (j : ℕ). get_or (numbers_from 0 s rs) j 0) (sym y) ∙ S.number ∙ (omega arith) in
        rw z (record { bytes = S.bytes; there = S.there; counts = inl S.counts; step = S.step })

-- that of an explanation
module _ (s : List ℕ) (rs : List (List ℕ)) where
  -- a step of the front
  front_step : (i : ℕ) → i < step_count (history_of step_on step_of s (front_of rs)) → (h : History)
      → ((t : Step) → StepAt (history_of step_on step_of s (front_of rs)) i t → StepAt h i t)
      → StepOfRecord h s rs (get_or (accepted_numbers s (front_of rs)) i 0) i
  unfolding front_of accepted_numbers
  front_step i l h kept = of (spelled start 0 s (take (length rs - 1) rs) i (omega arith) l)
    where
      of : Spelled (history_of step_on step_of s (take (length rs - 1) rs)) 0 s (take (length rs - 1) rs) (get_or (numbers_from 0 s (take (length rs - 1) rs)) (i - 0) 0) i
          → StepOfRecord h s rs (get_or (numbers_from 0 s (take (length rs - 1) rs)) i 0) i
      of S =
          let f = at_front rs (length rs - 1) S.place S.bytes S.there in
          let q : take S.place (take (length rs - 1) rs) ≡ take S.place rs = take-take S.place (length rs - 1) rs (omega (arith, f.1)) in
          let y : i - 0 ≡ i = omega arith in
          let z : get_or (numbers_from 0 s (take (length rs - 1) rs)) i 0 ≡ S.place = ap (λ (j : ℕ). get_or (numbers_from 0 s (take (length rs - 1) rs)) j 0) (sym y) ∙ S.number ∙ (omega arith) in
          rw z (record { bytes = S.bytes; there = f.0; counts = inl (rw q at S.counts); step = kept (step_asked S.bytes) S.step })

  -- the last one
  last_step : (r : List ℕ) (more : List (List ℕ)) → last_of rs ≡ r ∷ more → is_refused (step_answer (run_effect s (front_of rs)) r) ≡ false
      → (h : History) (i : ℕ) → StepAt h i (step_asked r) → StepOfRecord h s rs (length rs - 1) i
  unfolding front_of last_of
  last_step r more e g h i st =
      record {
        bytes = r;
        there = at_last rs (length rs - 1) r more e;
        counts = by (given_cases (step_answer (run_effect s (take (length rs - 1) rs)) r) g);
        step = st;
      }
    where
      by : (accepted (step_answer (run_effect s (take (length rs - 1) rs)) r) ≡ true) ⊎ (is_blocked (step_answer (run_effect s (take (length rs - 1) rs)) r) ≡ true)
          → (accepted (step_answer (run_effect s (take (length rs - 1) rs)) r) ≡ true)
          ⊎ ((suc (length rs - 1) ≡ length rs) × (is_blocked (step_answer (run_effect s (take (length rs - 1) rs)) r) ≡ true))
      by (inl a) = inl a
      by (inr b) = inr (omega (arith, ap length e, length-drop (length rs - 1) rs), b)

  front_size : length (accepted_numbers s (front_of rs)) ≡ step_count (history_of step_on step_of s (front_of rs))
  unfolding accepted_numbers
  front_size = omega (arith, numbers_size start 0 s (front_of rs))

  front_rise : (i j : ℕ) → i < j → j < step_count (history_of step_on step_of s (front_of rs)) → get_or (accepted_numbers s (front_of rs)) i 0 < get_or (accepted_numbers s (front_of rs)) j 0
  unfolding accepted_numbers
  front_rise i j l m = numbers_rise 0 s (front_of rs) i j l (omega (arith, m, numbers_size start 0 s (front_of rs)))

  front_below : (i : ℕ) → i < step_count (history_of step_on step_of s (front_of rs)) → get_or (accepted_numbers s (front_of rs)) i 0 < length rs - 1
  unfolding accepted_numbers front_of
  front_below i l =
      let z = numbers_bound 0 s (take (length rs - 1) rs) i (omega (arith, l, numbers_size start 0 s (take (length rs - 1) rs))) in
      omega (arith, z.1, length-take (length rs - 1) rs)

  -- with the last one, or without it
  with_none : Told (history_of step_on step_of s (front_of rs)) s rs (accepted_numbers s (front_of rs) ++ [])
  with_none =
      record {
        rise = λ i j l m. rw (append-nil (accepted_numbers s (front_of rs))) (front_rise i j l m);
        are = λ i l. rw (append-nil (accepted_numbers s (front_of rs))) (front_step i l (history_of step_on step_of s (front_of rs)) (λ t a. a));
      }

  with_one : (r : List ℕ) (more : List (List ℕ)) → last_of rs ≡ r ∷ more → is_refused (step_answer (run_effect s (front_of rs)) r) ≡ false
      → Told (history_of step_on step_of s (front_of rs) ▸ step_asked r) s rs (accepted_numbers s (front_of rs) ++ ((length rs - 1) ∷ []))
  with_one r more e g = record {
    rise = λ i j l m. up i j l (ℕ_discrete j (step_count (history_of step_on step_of s (front_of rs)))) m;
    are = λ i l. of i l
        (ℕ_discrete i (step_count (history_of step_on step_of s (front_of rs))));
  }
    where
      up : (i j : ℕ) → i < j → Dec (j ≡ step_count (history_of step_on step_of s (front_of rs))) → j < suc (step_count (history_of step_on step_of s (front_of rs)))
          → get_or (accepted_numbers s (front_of rs) ++ ((length rs - 1) ∷ [])) i 0 < get_or (accepted_numbers s (front_of rs) ++ ((length rs - 1) ∷ [])) j 0
      up i j l (yes q) m =
          rw (
            get_or-append (accepted_numbers s (front_of rs)) ((length rs - 1) ∷ []) 0 i (omega (arith, l, q, front_size)),
            get_d_right (accepted_numbers s (front_of rs))
                (length rs - 1) [] j (omega (arith, q, front_size)),
          )
          (front_below i (omega (arith, l, q)))
      up i j l (no q) m =
          rw (
            get_or-append (accepted_numbers s (front_of rs)) ((length rs - 1) ∷ []) 0 i (omega (arith, l, m, front_size)),
            get_or-append (accepted_numbers s (front_of rs))
                ((length rs - 1) ∷ []) 0 j (omega (arith, m, q, front_size)),
          )
          (front_rise i j l (omega (arith, m, q)))

      of : (i : ℕ) → i < suc (step_count (history_of step_on step_of s (front_of rs))) → Dec (i ≡ step_count (history_of step_on step_of s (front_of rs)))
          → StepOfRecord (history_of step_on step_of s (front_of rs) ▸ step_asked r) s rs (get_or (accepted_numbers s (front_of rs) ++ ((length rs - 1) ∷ [])) i 0) i
      of i l (yes q) =
          rw (get_d_right (accepted_numbers s (front_of rs)) (length rs - 1) [] i (omega (arith, q, front_size)))
          (last_step r more e g (history_of step_on step_of s (front_of rs) ▸ step_asked r) i (inl (q, refl)))
      of i l (no q) =
          rw (get_or-append (accepted_numbers s (front_of rs)) ((length rs - 1) ∷ []) 0 i (omega (arith, l, q, front_size)))
          (front_step i (omega (arith, l, q)) (history_of step_on step_of s (front_of rs) ▸ step_asked r) (λ t a. inr a))

  pub explained_told : Told (told_history s rs) s rs (told_numbers s rs)
  unfolding told_history told_numbers
  explained_told = on (last_of rs) refl
    where
      last : (r : List ℕ) (more : List (List ℕ)) → last_of rs ≡ r ∷ more → (b : Bool) → is_refused (step_answer (run_effect s (front_of rs)) r) ≡ b
          → Told (extend (history_of step_on step_of s (front_of rs)) (step_of r) (not b)) s rs (accepted_numbers s (front_of rs) ++ cond b [] ((length rs - 1) ∷ []))
      last r more e true g = rw (skipped (history_of step_on step_of s (front_of rs)) (step_of r)) with_none
      last r more e false g = rw (given_spelled (run_effect s (front_of rs)) r g) (with_one r more e g)

      on : (m : List (List ℕ)) → last_of rs ≡ m
          → Told (with_last (history_of step_on step_of s (front_of rs)) (run_effect s (front_of rs)) m) s rs
          (accepted_numbers s (front_of rs) ++ last_number (length rs - 1) (run_effect s (front_of rs)) m)
      on [] e = with_none
      on (r ∷ more) e = last r more e (is_refused (step_answer (run_effect s (front_of rs)) r)) refl

-- ---- the chain that is told

module _ (h : History) (s : List ℕ) (rs : List (List ℕ)) (ns : List ℕ) (T : Told h s rs ns) where
  told_rising : (lo a : ℕ) (x : Item) (is : List ℕ) (c : ℕ) (y : Item) → Leads h lo a x is c y → Rising (map (λ i. get_or ns i 0) is)
  told_rising lo a x [] c y w = tt
  told_rising lo a x (i ∷ []) c y w = tt
  told_rising lo a x (i ∷ j ∷ is) c y w =
      (T.rise i j w.7.3 (at_lt h j w.7.0 w.7.4), told_rising (suc i) w.1 w.2 (j ∷ is) c y w.7)

  told_numbered : (lo a : ℕ) (x : Item) (is : List ℕ) (c : ℕ) (y : Item) → Leads h lo a x is c y → Numbered (StepOfRecord h s rs) (map (λ i. get_or ns i 0) is) is
  told_numbered lo a x [] c y w = tt
  told_numbered lo a x (i ∷ is) c y w = (T.are i (at_lt h i w.0 w.4), told_numbered (suc i) w.1 w.2 is c y w.7)

  pub chain_told : (P : Policy) (y : Item) (c : ℕ) (v : Option Witness) → ((f : ℕ) (x : Item) → Starts P f x → f < container_limit) → Right P h y c v
      → ChainTold P h s rs y c (chain_file v) (chain_records ns v)
  unfolding chain_file chain_records
  chain_told P y c none low r = record { none = (λ z. r, λ z. refl); one = λ z. absurd (z refl); rises = tt }
  chain_told P y c (some w) low r =
      record {
        none = (λ z. absurd (omega (arith, z, low w.file w.item r.0)), λ z. absurd (z (w.file, w.item, r.0, rising w.falling, r.1)));
        one = λ z. (w.item, rising w.falling, r.0, r.1, told_numbered zero w.file w.item (rising w.falling) c y r.1);
        rises = told_rising zero w.file w.item (rising w.falling) c y r.1;
      }
