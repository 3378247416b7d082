-- What the tests and numbers of a verdict say of paths.
use Prim.Native.Nat.{ℕ, zero, suc, ◌+◌, ◌*◌, ◌/◌, ◌^◌, ◌≤◌, ◌<◌}
use mathlib.Core.Path.{◌≡◌, refl, sym, ap, ◌∙◌}
use mathlib.Core.Bool.{Bool, true, false, not, ◌&&◌, ◌||◌}
use mathlib.Core.List.{List, [], ◌∷◌}
use mathlib.Core.Logic.{◌⊎◌, inl, inr, ◌↔◌}
use native.Mathlib.Decide.{ℕ_discrete, dec_lt}
use native.Mathlib.Nat.{div-lt_iff_lt-mul}
use native.Mathlib.Omega.{arith}
use lib.Pow.{pow_pos}
use lib.Dec.{eqb, ltb}
use lib.ListN.{length, get_or}
use borrow.Author.Tests.{ne_eqb, not-true, not-false, ltb-true, lt-ltb}
use Rattle.lists.proofs.Bools.{and_in, and_0, and_1, decide, clash, refuted, same_test}
use Rattle.lists.specs.Lists.{every}
use Rattle.lists.proofs.Every.{every_0, every_1, every_nil, every_cons}
use Rattle.matrix.specs.Flows.{has, subject_carries, granted, Composed, composed, rows_within, matrix_good}
use Rattle.lists.specs.Counting.{count_below, sum_below, some_below}
use Rattle.matrix.specs.Verdicts.{ungranted, ungranted_from, flow_count, first_source, first_target, consistent}
use Rattle.matrix.specs.Rows.{Closed}
use Rattle.matrix.proofs.GoodLaws.{good_parts, parts_good}
use Rattle.matrix.proofs.RowBits.{has_above, has_ext, has_at}
use Rattle.matrix.proofs.PathTest.{path_source, path_target, within_path, path_within, within_none}
use Rattle.lists.proofs.Counting.{count_same, count_none, count_some, sum_same, sum_none, sum_some}
use Rattle.lists.proofs.Below.{Least, some_at, least_some}

pub composed_path : (reads writes : List ℕ) (n a b : ℕ) → a < n → b < n → (composed reads writes n a b ≡ true) ↔ Composed reads writes n a b
unfolding composed
composed_path reads writes n a b p q = (within_path (granted reads writes) n n a b (omega arith) p q, path_within (granted reads writes) n a b)

-- ---- no flow goes beyond the objects

carries_beyond : (reads writes : List ℕ) (n a b : ℕ) → rows_within n writes ≡ true → n ≤ b → subject_carries reads writes a b ≡ false
unfolding subject_carries rows_within every
carries_beyond [] writes n a b g h = refl
carries_beyond (r ∷ reads) [] n a b g h = refl
carries_beyond (r ∷ reads) (w ∷ writes) n a b g h =
    let l : w < 2 ^ n = ltb-true w (2 ^ n) (and_0 (ltb w (2 ^ n)) (every (λ row. ltb row (2 ^ n)) writes) g) in
    let e : has w b ≡ false = has_above w n b l h in
    let ih : subject_carries reads writes a b ≡ false = carries_beyond reads writes n a b (and_1 (ltb w (2 ^ n)) g) h in
    rw (e, ih) (by (has r a))
  where
    by : (x : Bool) → (x && false || false) ≡ false
    by true = refl
    by false = refl

pub granted_beyond : (reads writes : List ℕ) (n a b : ℕ) → rows_within n writes ≡ true → a < n → n ≤ b → granted reads writes a b ≡ false
unfolding granted
granted_beyond reads writes n a b g l h =
    let e : eqb a b ≡ false = ne_eqb a b (λ q. omega arith) in
    rw e (carries_beyond reads writes n a b g h)

pub composed_beyond : (reads writes : List ℕ) (n a b : ℕ) → rows_within n writes ≡ true → a < n → n ≤ b → composed reads writes n a b ≡ false
unfolding composed
composed_beyond reads writes n a b g l h = within_none (granted reads writes) n n a b (omega arith) l (λ i m. granted_beyond reads writes n i b g m h)

-- ---- paths and their tests

-- a composed flow that is not granted
abbrev pub Flow : List ℕ → List ℕ → ℕ → ℕ → ℕ → Type 0
Flow reads writes n a b = Composed reads writes n a b × (granted reads writes a b ≡ false)

module _ (reads writes : List ℕ) (n : ℕ) where
  pub ungranted_flow : (a b : ℕ) → a < n → b < n → (ungranted reads writes n a b ≡ true) ↔ Flow reads writes n a b
  unfolding ungranted
  ungranted_flow a b p q =
      let path = composed_path reads writes n a b p q in (
        (λ h. (
          path.0 (and_0 (composed reads writes n a b) (not (granted reads writes a b)) h),
          not-true (granted reads writes a b) (and_1 (composed reads writes n a b) h),
        )),
        (λ f. and_in (path.1 f.0) (ap not f.1)),
      )

  pub flow_ungranted : (a b : ℕ) → Flow reads writes n a b → ungranted reads writes n a b ≡ true
  flow_ungranted a b f = (ungranted_flow a b (path_source f.0) (path_target f.0)).1 f

  pub flow_from : (a b : ℕ) → Flow reads writes n a b → ungranted_from reads writes n a ≡ true
  unfolding ungranted_from
  flow_from a b f = some_at (ungranted reads writes n a) n b (path_target f.0) (flow_ungranted a b f)

  pub flow_inconsistent : (a b : ℕ) → Flow reads writes n a b → consistent reads writes n ≡ false
  unfolding consistent
  flow_inconsistent a b f = ap not (some_at (ungranted_from reads writes n) n a (path_source f.0) (flow_from a b f))

  -- the pair of an inconsistent matrix
  pub source_least : consistent reads writes n ≡ false → Least (ungranted_from reads writes n) n (first_source reads writes n)
  unfolding first_source consistent
  source_least h = least_some (ungranted_from reads writes n) n (not-false (some_below (ungranted_from reads writes n) n) h)

  pub target_least : consistent reads writes n ≡ false → Least (ungranted reads writes n (first_source reads writes n)) n (first_target reads writes n)
  unfolding first_target ungranted_from
  target_least h = least_some (ungranted reads writes n (first_source reads writes n)) n (source_least h).passes

  pub pair_flow : consistent reads writes n ≡ false → Flow reads writes n (first_source reads writes n) (first_target reads writes n)
  pair_flow h = (ungranted_flow (first_source reads writes n) (first_target reads writes n) (source_least h).below (target_least h).below).0 (target_least h).passes

  pub pair_first : consistent reads writes n ≡ false → (a b : ℕ) → Flow reads writes n a b
      → (first_source reads writes n < a) ⊎ ((first_source reads writes n ≡ a) × (first_target reads writes n ≤ b))
  pair_first h a b f = by (dec_lt a s) (ℕ_discrete s a)
    where
      s : ℕ
      s = first_source reads writes n

      by : Dec (a < first_source reads writes n) → Dec (first_source reads writes n ≡ a)
          → (first_source reads writes n < a) ⊎ ((first_source reads writes n ≡ a) × (first_target reads writes n ≤ b))
      by (yes l) d = clash (flow_from a b f) ((source_least h).before a l)
      by (no l) (no d) = inl (omega arith)
      by (no l) (yes e) = inr (e, le (dec_lt b (first_target reads writes n)))
        where
          le : Dec (b < first_target reads writes n) → first_target reads writes n ≤ b
          le (yes m) = clash (rw (← e) at (flow_ungranted a b f)) ((target_least h).before b m)
          le (no m) = omega arith

  pub consistent_granted : (consistent reads writes n ≡ true) ↔ ((a b : ℕ) → Composed reads writes n a b → granted reads writes a b ≡ true)
  consistent_granted = (to, back)
    where
      to : consistent reads writes n ≡ true → (a b : ℕ) → Composed reads writes n a b → granted reads writes a b ≡ true
      to h a b p = by (decide (granted reads writes a b))
        where
          by : (granted reads writes a b ≡ true) ⊎ (granted reads writes a b ≡ false) → granted reads writes a b ≡ true
          by (inl e) = e
          by (inr e) = clash h (flow_inconsistent a b (p, e))

      back : ((a b : ℕ) → Composed reads writes n a b → granted reads writes a b ≡ true) → consistent reads writes n ≡ true
      back f = by (decide (consistent reads writes n))
        where
          by : (consistent reads writes n ≡ true) ⊎ (consistent reads writes n ≡ false) → consistent reads writes n ≡ true
          by (inl e) = e
          by (inr e) = clash (f (first_source reads writes n) (first_target reads writes n) (pair_flow e).0) (pair_flow e).1

  -- ---- the count

  pub count_of : (t : ℕ → ℕ → Bool) → ((a b : ℕ) → a < n → b < n → (t a b ≡ true) ↔ Flow reads writes n a b) → flow_count reads writes n ≡ sum_below (λ a. count_below (t a) n) n
  unfolding flow_count
  count_of t e =
      sum_same (λ a. count_below (ungranted reads writes n a) n) (λ a. count_below (t a) n) n
      (λ a p. count_same (ungranted reads writes n a) (t a) n
      (λ b q. same_test (ungranted reads writes n a b) (t a b)
      (λ h. (e a b p q).1 ((ungranted_flow a b p q).0 h))
      (λ h. (ungranted_flow a b p q).1 ((e a b p q).0 h))))

  pub count_consistent : (flow_count reads writes n ≡ 0) ↔ (consistent reads writes n ≡ true)
  count_consistent = (to, back)
    where
      to : flow_count reads writes n ≡ 0 → consistent reads writes n ≡ true
      to h = by (decide (consistent reads writes n))
        where
          by : (consistent reads writes n ≡ true) ⊎ (consistent reads writes n ≡ false) → consistent reads writes n ≡ true
          by (inl e) = e
          by (inr e) =
              let c : 1 ≤ count_below (ungranted reads writes n (first_source reads writes n)) n =
              count_some (ungranted reads writes n (first_source reads writes n)) n (first_target reads writes n) (target_least e).below (target_least e).passes in
              absurd (omega (arith, zero_sum h, sum_some (λ a. count_below (ungranted reads writes n a) n) n (first_source reads writes n) (source_least e).below))
            where
              zero_sum : flow_count reads writes n ≡ 0 → sum_below (λ a. count_below (ungranted reads writes n a) n) n ≡ 0
              zero_sum h = unfold flow_count in h

      back : consistent reads writes n ≡ true → flow_count reads writes n ≡ 0
      back h =
          unfold flow_count in
          sum_none (λ a. count_below (ungranted reads writes n a) n) n (λ a p. count_none (ungranted reads writes n a) n (λ b q. none a b p q))
        where
          none : (a b : ℕ) → a < n → b < n → ungranted reads writes n a b ≡ false
          none a b p q = refuted (ungranted reads writes n a b) (λ u. clash h (flow_inconsistent a b ((ungranted_flow a b p q).0 u)))

-- ---- the rows: no bit beyond the objects

row_small : (n row : ℕ) → ((k : ℕ) → n ≤ k → has row k ≡ false) → row < 2 ^ n
row_small n row h =
    let z : row / 2 ^ n ≡ 0 = has_ext (row / 2 ^ n) 0 (λ k. sym (has_at row n k) ∙ h (n + k) (omega arith) ∙ sym (has_above 0 0 k (omega arith) (omega arith))) in
    div_small row (2 ^ n) (pow_pos n) z
  where
    div_small : (a b : ℕ) → 0 < b → a / b ≡ 0 → a < b
    div_small a b p e = let l : a / b < 1 = omega arith in let m : a < 1 * b = (div-lt_iff_lt-mul p).0 l in omega arith

pub rows_exact : (n : ℕ) (rows : List ℕ) → (rows_within n rows ≡ true) ↔ ((s k : ℕ) → n ≤ k → has (get_or rows s 0) k ≡ false)
unfolding rows_within
rows_exact n rows = (to rows, back rows)
  where
    to : (rows : List ℕ) → every (λ row. ltb row (2 ^ n)) rows ≡ true → (s k : ℕ) → n ≤ k → has (get_or rows s 0) k ≡ false
    to [] h s k l = has_above 0 0 k (omega arith) (omega arith)
    to (r ∷ rows) h zero k l = has_above r n k (ltb-true r (2 ^ n) (every_0 (λ row. ltb row (2 ^ n)) r rows h)) l
    to (r ∷ rows) h (suc s) k l = to rows (every_1 (λ row. ltb row (2 ^ n)) r rows h) s k l

    back : (rows : List ℕ) → ((s k : ℕ) → n ≤ k → has (get_or rows s 0) k ≡ false) → every (λ row. ltb row (2 ^ n)) rows ≡ true
    back [] h = every_nil (λ row. ltb row (2 ^ n))
    back (r ∷ rows) h =
        every_cons (λ row. ltb row (2 ^ n)) r rows (lt-ltb r (2 ^ n) (row_small n r (λ k l. h 0 k l))) (back rows (λ s k l. h (suc s) k l))

pub good_exact : (reads writes : List ℕ) (objects : ℕ) →
    (matrix_good reads writes objects ≡ true)
    ↔ ((length reads ≡ length writes)
    × (1 ≤ length reads)
    × (length reads ≤ 8)
    × (1 ≤ objects)
    × (objects ≤ 32)
    × ((s k : ℕ) → objects ≤ k → has (get_or reads s 0) k ≡ false)
    × ((s k : ℕ) → objects ≤ k → has (get_or writes s 0) k ≡ false))
good_exact reads writes objects = (
  (λ h. let g = good_parts reads writes objects h in
      (sym g.even, g.some_subjects, g.subjects, g.some, g.few, (rows_exact objects reads).0 g.reads_good, (rows_exact objects writes).0 g.writes_good)),
  (λ g. parts_good reads writes objects g.0 g.1 g.2 g.3 g.4 ((rows_exact objects reads).1 g.5) ((rows_exact objects writes).1 g.6)),
)

-- the granted flows of the rows that the code works out
pub reach_path : (reads writes : List ℕ) (n : ℕ) (reach : List ℕ) → Closed reads writes n reach → (a b : ℕ) → a < n → b < n → (granted reads reach a b ≡ true) ↔ Composed reads writes n a b
reach_path reads writes n reach c a b p q =
    let e : granted reads reach a b ≡ composed reads writes n a b = c.flows a b p in
    ((λ h. (composed_path reads writes n a b p q).0 (sym e ∙ h)), (λ h. e ∙ (composed_path reads writes n a b p q).1 h))
