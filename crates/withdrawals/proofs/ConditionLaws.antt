-- What each condition says of rights and flows.
use Prim.Native.Nat.{ℕ, ◌≤◌, ◌<◌}
use mathlib.Core.Path.{◌≡◌, refl, ap, ◌∙◌}
use mathlib.Core.Bool.{Bool, true, false, not, cond, ◌&&◌}
use mathlib.Core.List.{List}
use mathlib.Core.Logic.{◌⊎◌, inl, inr, ◌↔◌}
use native.Mathlib.Decide.{dec_lt}
use native.Mathlib.Omega.{arith}
use lib.ListN.{length, get_or, get_or-eq_default}
use borrow.Author.Tests.{not-true, not-false}
use Rattle.rules.specs.Sets.{holds}
use Rattle.lists.proofs.Bools.{and_in, and_0, and_1, decide, clash, refuted}
use Rattle.matrix.specs.Flows.{has, rows_within, Matrix, well_formed}
use Rattle.lists.specs.Counting.{some_below, least_below}
use Rattle.matrix.specs.Verdicts.{consistent, first_source, first_target, ConsistencyValues, matrix_verdict}
use Rattle.matrix.specs.Rows.{bit_at}
use Rattle.matrix.proofs.RowBits.{has_above}
use Rattle.lists.proofs.Below.{Least, none_at, least_some, Miss, all_at, all_in, all_miss}
use Rattle.matrix.proofs.GoodLaws.{good_parts}
use Rattle.matrix.proofs.VerdictLoops.{verdict_consistent, verdict_inconsistent}
use Rattle.matrix.proofs.PathFlows.{rows_exact, pair_flow, flow_inconsistent, consistent_granted}
use Rattle.withdrawals.specs.Judgements.{rows_held, none_added, all_kept, stays_consistent, withdrawn, with_right, read_needed, write_needed, subject_needed, minimal}
use Rattle.withdrawals.specs.Rights.{Comparable, Among, SomeBeyond, NoneAdded, SomeAdded, AllKept, SomeLost, AllGranted, SomeUngranted, EachNeeded, SomeReturns}
use Rattle.withdrawals.proofs.ReturnedRights.{holds_bits}

-- ---- which rights there are

-- none behind the last row
no_row : (rows : List ℕ) (s k : ℕ) → length rows ≤ s → bit_at rows s k ≡ false
unfolding bit_at
no_row rows s k l = ap (λ (x : ℕ). has x k) (get_or-eq_default rows 0 l) ∙ has_above 0 0 k (omega arith) (omega arith)

right_subject : (rows : List ℕ) (s k : ℕ) → bit_at rows s k ≡ true → s < length rows
right_subject rows s k h = by (dec_lt s (length rows))
  where
    by : Dec (s < length rows) → s < length rows
    by (yes l) = l
    by (no l) = clash h (no_row rows s k (omega arith))

right_object : (n : ℕ) (rows : List ℕ) (s k : ℕ) → rows_within n rows ≡ true → bit_at rows s k ≡ true → k < n
unfolding bit_at
right_object n rows s k g h = by (dec_lt k n)
  where
    by : Dec (k < n) → k < n
    by (yes l) = l
    by (no l) = clash h ((rows_exact n rows).0 g s k (omega arith))

-- ---- 1 and 2

pub rows_held_lem : (others rows : List ℕ) → (rows_held others rows ≡ true) ↔ Among rows others
unfolding rows_held bit_at
rows_held_lem others rows = (
  (λ h s k e. (holds_bits (get_or others s 0) (get_or rows s 0)).0 (all_at (λ s. holds (get_or others s 0) (get_or rows s 0)) (length rows) s h (right_subject rows s k e)) k e),
  (λ f. all_in (λ s. holds (get_or others s 0) (get_or rows s 0)) (length rows) (λ s l. (holds_bits (get_or others s 0) (get_or rows s 0)).1 (f s))),
)

both_held : (others rows others' rows' : List ℕ) → ((rows_held others rows && rows_held others' rows') ≡ true) ↔ (Among rows others × Among rows' others')
both_held others rows others' rows' = (
  (λ h. ((rows_held_lem others rows).0 (and_0 (rows_held others rows) (rows_held others' rows') h), (rows_held_lem others' rows').0 (and_1 (rows_held others rows) h))),
  (λ h. and_in ((rows_held_lem others rows).1 h.0) ((rows_held_lem others' rows').1 h.1)),
)

-- a bit of the one row that the other lacks, below n
bit_miss : (n m t : ℕ) → ((k : ℕ) → n ≤ k → has t k ≡ false) → holds m t ≡ false → Miss (λ k. not (has t k && not (has m k))) n
bit_miss n m t z h = by (decide (some_below (λ k. has t k && not (has m k)) n))
  where
    lacking : (k : ℕ) → has t k ≡ true → (has t k && not (has m k)) ≡ false → has m k ≡ true
    lacking k e f = not-false (has m k) (rw e at f)

    held : some_below (λ k. has t k && not (has m k)) n ≡ false → (k : ℕ) → has t k ≡ true → Dec (k < n) → has m k ≡ true
    held f k e (yes l) = lacking k e (none_at (λ k. has t k && not (has m k)) n k f l)
    held f k e (no l) = clash e (z k (omega arith))

    by : (some_below (λ k. has t k && not (has m k)) n ≡ true) ⊎ (some_below (λ k. has t k && not (has m k)) n ≡ false) → Miss (λ k. not (has t k && not (has m k))) n
    by (inl f) =
        let u : Least (λ k. has t k && not (has m k)) n (least_below (λ k. has t k && not (has m k)) n) = least_some (λ k. has t k && not (has m k)) n f in
        record { place = least_below (λ k. has t k && not (has m k)) n; below = u.below; fails = ap not u.passes }
    by (inr f) = clash ((holds_bits m t).1 (λ k e. held f k e (dec_lt k n))) h

some_beyond : (n : ℕ) (others rows : List ℕ) → rows_within n rows ≡ true → (rows_held others rows ≡ false) ↔ SomeBeyond rows others
unfolding rows_held bit_at
some_beyond n others rows g = (to, λ u. refuted (rows_held others rows) (λ h. clash ((rows_held_lem others rows).0 h u.subject u.object u.there) u.lacking))
  where
    to : rows_held others rows ≡ false → SomeBeyond rows others
    to h =
        let m : Miss (λ s. holds (get_or others s 0) (get_or rows s 0)) (length rows) = all_miss (λ s. holds (get_or others s 0) (get_or rows s 0)) (length rows) h in
        on m.place (bit_miss n (get_or others m.place 0) (get_or rows m.place 0) ((rows_exact n rows).0 g m.place) m.fails)
      where
        on : (s : ℕ) → Miss (λ k. not (has (get_or rows s 0) k && not (has (get_or others s 0) k))) n → SomeBeyond rows others
        on s u =
            let there = has (get_or rows s 0) u.place in
            let held = has (get_or others s 0) u.place in
            let e : (there && not held) ≡ true = not-false (there && not held) u.fails in
            record {
              subject = s;
              object = u.place;
              there = and_0 there (not held) e;
              lacking = not-true held (and_1 there e);
            }

and_fails : (a b : Bool) → (a && b) ≡ false → (a ≡ false) ⊎ (b ≡ false)
and_fails true b h = inr h
and_fails false b h = inl refl

fails_and : (a b : Bool) → (a ≡ false) ⊎ (b ≡ false) → (a && b) ≡ false
fails_and true b (inl h) = clash refl h
fails_and true b (inr h) = h
fails_and false b h = refl

-- of two tests one fails
either : {X Y : Type 0} (a b : Bool) → (a ≡ false) ↔ X → (b ≡ false) ↔ Y → ((a && b) ≡ false) ↔ (X ⊎ Y)
either {X} {Y} a b (to, back) (to', back') = (λ h. on (and_fails a b h), λ h. fails_and a b (off h))
  where
    on : (a ≡ false) ⊎ (b ≡ false) → X ⊎ Y
    on (inl h) = inl (to h)
    on (inr h) = inr (to' h)

    off : X ⊎ Y → (a ≡ false) ⊎ (b ≡ false)
    off (inl x) = inl (back x)
    off (inr y) = inr (back' y)

pub some_added : (old required proposed : Matrix) → Comparable old required proposed → (none_added old proposed ≡ false) ↔ SomeAdded old proposed
unfolding none_added
some_added old required proposed c =
    let g = good_parts proposed.reads proposed.writes proposed.objects c.proposed_good in
    either (rows_held old.reads proposed.reads) (rows_held old.writes proposed.writes)
    (some_beyond proposed.objects old.reads proposed.reads g.reads_good) (some_beyond proposed.objects old.writes proposed.writes g.writes_good)

pub some_lost : (old required proposed : Matrix) → Comparable old required proposed → (all_kept required proposed ≡ false) ↔ SomeLost required proposed
unfolding all_kept
some_lost old required proposed c =
    let g = good_parts required.reads required.writes required.objects c.required_good in
    either (rows_held proposed.reads required.reads) (rows_held proposed.writes required.writes)
    (some_beyond required.objects proposed.reads required.reads g.reads_good) (some_beyond required.objects proposed.writes required.writes g.writes_good)

pub none_added_lem : (old proposed : Matrix) → (none_added old proposed ≡ true) ↔ NoneAdded old proposed
unfolding none_added
none_added_lem old proposed = both_held old.reads proposed.reads old.writes proposed.writes

pub all_kept_lem : (required proposed : Matrix) → (all_kept required proposed ≡ true) ↔ AllKept required proposed
unfolding all_kept
all_kept_lem required proposed = both_held proposed.reads required.reads proposed.writes required.writes

-- ---- 3

pub stays_consistent_lem : (m : Matrix) → (stays_consistent m ≡ true) ↔ AllGranted m.reads m.writes m.objects
unfolding stays_consistent
stays_consistent_lem m = consistent_granted m.reads m.writes m.objects

pub stays_verdict : (m : Matrix) → well_formed m ≡ true → (stays_consistent m ≡ true) ↔ ((matrix_verdict m.reads m.writes m.objects).number ≡ 0)
unfolding stays_consistent well_formed
stays_verdict m g = (λ h. ap (λ (v : ConsistencyValues). v.number) (verdict_consistent m.reads m.writes m.objects g h), by (consistent m.reads m.writes m.objects) refl)
  where
    by : (b : Bool) → consistent m.reads m.writes m.objects ≡ b → (matrix_verdict m.reads m.writes m.objects).number ≡ 0 → b ≡ true
    by true c e = refl
    by false c e = absurd (omega (arith, e, ap (λ (v : ConsistencyValues). v.number) (verdict_inconsistent m.reads m.writes m.objects g c)))

-- ---- 4

some_ungranted : (reads writes : List ℕ) (n : ℕ) → (consistent reads writes n ≡ false) ↔ SomeUngranted reads writes n
some_ungranted reads writes n = (
  (λ h. record { source = first_source reads writes n; target = first_target reads writes n; flow = (pair_flow reads writes n h).0; ungranted = (pair_flow reads writes n h).1 }),
  (λ u. flow_inconsistent reads writes n u.source u.target (u.flow, u.ungranted)),
)

pub not_consistent : (m : Matrix) → (stays_consistent m ≡ false) ↔ SomeUngranted m.reads m.writes m.objects
unfolding stays_consistent
not_consistent m = some_ungranted m.reads m.writes m.objects

-- a right that was withdrawn
module _ (old rows : List ℕ) (s k : ℕ) where
  lacks : bit_at old s k ≡ true → bit_at rows s k ≡ false → withdrawn old rows s k ≡ true
  unfolding withdrawn
  lacks p q = and_in p (ap not q)

  was_there : withdrawn old rows s k ≡ true → bit_at old s k ≡ true
  unfolding withdrawn
  was_there h = and_0 (bit_at old s k) (not (bit_at rows s k)) h

  is_gone : withdrawn old rows s k ≡ true → bit_at rows s k ≡ false
  unfolding withdrawn
  is_gone h = not-true (bit_at rows s k) (and_1 (bit_at old s k) h)

  needed_by : (x : Bool) → cond (withdrawn old rows s k) (not x) true ≡ true → bit_at old s k ≡ true → bit_at rows s k ≡ false → x ≡ false
  needed_by x h p q = not-true x (rw (lacks p q) at h)

  needed_from : (x : Bool) → (bit_at old s k ≡ true → bit_at rows s k ≡ false → x ≡ false) → cond (withdrawn old rows s k) (not x) true ≡ true
  needed_from x f = by (withdrawn old rows s k) refl
    where
      by : (b : Bool) → withdrawn old rows s k ≡ b → cond b (not x) true ≡ true
      by true e = ap not (f (was_there e) (is_gone e))
      by false e = refl

  not_needed : (x : Bool) → cond (withdrawn old rows s k) (not x) true ≡ false → (bit_at old s k ≡ true) × ((bit_at rows s k ≡ false) × (x ≡ true))
  not_needed x h = by (withdrawn old rows s k) refl h
    where
      by : (b : Bool) → withdrawn old rows s k ≡ b → cond b (not x) true ≡ false → (bit_at old s k ≡ true) × ((bit_at rows s k ≡ false) × (x ≡ true))
      by true e f = (was_there e, (is_gone e, not-false x f))
      by false e f = clash refl f

module _ (old required proposed : Matrix) (c : Comparable old required proposed) where
  -- whether each flow is granted once a right to read, to write, has returned
  abbrev read_returns : ℕ → ℕ → Bool
  read_returns s k = consistent (with_right proposed.reads s k) proposed.writes proposed.objects

  abbrev write_returns : ℕ → ℕ → Bool
  write_returns s k = consistent proposed.reads (with_right proposed.writes s k) proposed.objects

  -- neither right may return
  abbrev both_needed : ℕ → ℕ → Bool
  both_needed s k = read_needed old proposed s k && write_needed old proposed s k

  pub each_needed : (minimal old proposed ≡ true) ↔ EachNeeded old proposed
  unfolding minimal subject_needed read_needed write_needed
  each_needed = (λ h. (reads h, writes h), back)
    where
      both : minimal old proposed ≡ true → (s k : ℕ) → s < length proposed.reads → k < proposed.objects → both_needed s k ≡ true
      both h s k l m = all_at (both_needed s) proposed.objects k (all_at (subject_needed old proposed) (length proposed.reads) s h l) m

      reads : minimal old proposed ≡ true → (s k : ℕ) → bit_at old.reads s k ≡ true → bit_at proposed.reads s k ≡ false
          → SomeUngranted (with_right proposed.reads s k) proposed.writes proposed.objects
      reads h s k p q =
          let g = good_parts old.reads old.writes old.objects c.old_good in
          let l : s < length proposed.reads = omega (arith, right_subject old.reads s k p, c.proposed_subjects) in
          let m : k < proposed.objects = omega (arith, right_object old.objects old.reads s k g.reads_good p, c.proposed_objects) in
          (some_ungranted (with_right proposed.reads s k) proposed.writes proposed.objects).0
          (needed_by old.reads proposed.reads s k (read_returns s k) (and_0 (read_needed old proposed s k) (write_needed old proposed s k) (both h s k l m)) p q)

      writes : minimal old proposed ≡ true → (s k : ℕ) → bit_at old.writes s k ≡ true → bit_at proposed.writes s k ≡ false
          → SomeUngranted proposed.reads (with_right proposed.writes s k) proposed.objects
      writes h s k p q =
          let g = good_parts old.reads old.writes old.objects c.old_good in
          let l : s < length proposed.reads = omega (arith, right_subject old.writes s k p, g.even, c.proposed_subjects) in
          let m : k < proposed.objects = omega (arith, right_object old.objects old.writes s k g.writes_good p, c.proposed_objects) in
          (some_ungranted proposed.reads (with_right proposed.writes s k) proposed.objects).0
          (needed_by old.writes proposed.writes s k (write_returns s k) (and_1 (read_needed old proposed s k) (both h s k l m)) p q)

      back : EachNeeded old proposed → minimal old proposed ≡ true
      back f =
          all_in (subject_needed old proposed) (length proposed.reads)
          (λ s l. all_in (both_needed s) proposed.objects
          (λ k m. and_in
          (needed_from old.reads proposed.reads s k (read_returns s k) (λ p q. (some_ungranted (with_right proposed.reads s k) proposed.writes proposed.objects).1 (f.0 s k p q)))
          (needed_from old.writes proposed.writes s k (write_returns s k) (λ p q. (some_ungranted proposed.reads (with_right proposed.writes s k) proposed.objects).1 (f.1 s k p q)))))

  -- a flow that is not granted, where each is
  no_flow : {X : Type 0} (reads writes : List ℕ) (n : ℕ) → AllGranted reads writes n → SomeUngranted reads writes n → X
  no_flow reads writes n f u = clash (f u.source u.target u.flow) u.ungranted

  pub some_returns : (minimal old proposed ≡ false) ↔ SomeReturns old proposed
  unfolding minimal subject_needed read_needed write_needed
  some_returns = (to, λ u. refuted (minimal old proposed) (λ h. back u (each_needed.0 h)))
    where
      back : SomeReturns old proposed → EachNeeded old proposed → ⊥
      back (inl u) f =
          no_flow (with_right proposed.reads u.right.subject u.right.object) proposed.writes proposed.objects u.granted
          (f.0 u.right.subject u.right.object u.right.there u.right.lacking)
      back (inr u) f =
          no_flow proposed.reads (with_right proposed.writes u.right.subject u.right.object) proposed.objects u.granted
          (f.1 u.right.subject u.right.object u.right.there u.right.lacking)

      found : (s k : ℕ) → (read_needed old proposed s k ≡ false) ⊎ (write_needed old proposed s k ≡ false) → SomeReturns old proposed
      found s k (inl h) =
          let w = not_needed old.reads proposed.reads s k (read_returns s k) h in
          inl
          (record {
            right = record { subject = s; object = k; there = w.0; lacking = w.1.0 };
            granted = (consistent_granted (with_right proposed.reads s k) proposed.writes proposed.objects).0 w.1.1;
          })
      found s k (inr h) =
          let w = not_needed old.writes proposed.writes s k (write_returns s k) h in
          inr
          (record {
            right = record { subject = s; object = k; there = w.0; lacking = w.1.0 };
            granted = (consistent_granted proposed.reads (with_right proposed.writes s k) proposed.objects).0 w.1.1;
          })

      to : minimal old proposed ≡ false → SomeReturns old proposed
      to h =
          let m : Miss (subject_needed old proposed) (length proposed.reads) = all_miss (subject_needed old proposed) (length proposed.reads) h in
          let u : Miss (both_needed m.place) proposed.objects = all_miss (both_needed m.place) proposed.objects m.fails in
          found m.place u.place (and_fails (read_needed old proposed m.place u.place) (write_needed old proposed m.place u.place) u.fails)
