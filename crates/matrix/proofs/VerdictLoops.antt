-- The loops that judge, and the verdict from its parts.
use Prim.Native.Nat.{ℕ, ◌+◌, ◌-◌, ◌*◌, ◌/◌, ◌%◌, ◌^◌, ◌≤◌, ◌<◌}
use mathlib.Core.Path.{◌≡◌, refl, sym, ap, ap₂, ◌∙◌}
use mathlib.Core.Bool.{Bool, true, false, not, ◌&&◌, ◌||◌}
use mathlib.Core.Logic.{◌⊎◌, inl, inr, ◌↔◌}
use mathlib.Core.List.{List, [], ◌∷◌}
use native.Mathlib.Decide.{ℕ_discrete}
use native.Mathlib.Numerals.{add-one}
use native.Mathlib.Omega.{arith}
use lib.Bits.{bit_and, bit_or, or_lt}
use lib.Count.{ones, ones-le}
use lib.Dec.{eqb}
use lib.ListN.{length, get_or}
use borrow.Author.Count.{below_more}
use Rattle.lists.proofs.Bools.{or_0, or_1, or_cases, decide, clash, refuted}
use Rattle.lists.specs.Lists.{elem}
use Rattle.lists.specs.Conditions.{first_failed, ◌or_refuse◌}
use Rattle.lists.proofs.Conditions.{passed, failed, none_left}
use Rattle.answers.specs.Refusals.{matrix}
use Rattle.std.proofs.Common.{Option, None, Ok, Err}
use Rattle.answers.specs.declared.Refusal.TheVariants as V
use Rattle.matrix.specs.declared.Inconsistency.{Inconsistency}
use Rattle.matrix.specs.Flows.{has, subject_carries, granted, rows_within, matrix_good}
use Rattle.lists.specs.Counting.{count_below, sum_below, least_below}
use Rattle.matrix.specs.Verdicts.{ungranted, ungranted_from, flow_count, first_source, first_target, consistent, inconsistent, judged_by, ConsistencyValues}
use Rattle.matrix.specs.Verdicts.{consistency_values, matrix_conditions, unless_refused, matrix_verdict}
use Rattle.matrix.specs.Limits.{object_limit}
use Rattle.matrix.specs.Rows.{Grown, Closed}
use Rattle.matrix.proofs.RowBits.{has_is, has_not, has_or, has_zero, has_without}
use Rattle.matrix.proofs.CarrierLaws.{carries, carried}
use Rattle.matrix.proofs.PathFlows.{composed_beyond, count_consistent}
use Rattle.matrix.proofs.RowLoops.{Granting, granting_start, granting_take, granting_skip, granting_end}
use Rattle.lists.proofs.Counting.{count_same, count_front, sum_next}
use Rattle.lists.proofs.Below.{some_at, some_none, least_is}
use Rattle.matrix.proofs.CountLaws.{ones_count}

-- ---- no flow goes beyond the objects

pub ungranted_beyond : (reads writes : List ℕ) (n a b : ℕ) → rows_within n writes ≡ true → a < n → n ≤ b → ungranted reads writes n a b ≡ false
unfolding ungranted
ungranted_beyond reads writes n a b g l h = rw (composed_beyond reads writes n a b g l h)

-- ---- a row of the composed flows without the granted ones: the subjects before s are done

pub record Missing (reads writes reach : List ℕ) (a row reached s : ℕ) : Type 0 where
  pub granting : Granting reads writes a row s
  pub reaching : Granting reads reach a reached s
  pub small : row < 2 ^ 32
  pub less : reached < 2 ^ 32

pub missing_start : (reads writes reach : List ℕ) (n a : ℕ) → Closed reads writes n reach → a < n → Missing reads writes reach a (1 * 2 ^ a % 2 ^ 32) (1 * 2 ^ a % 2 ^ 32) 0
missing_start reads writes reach n a c l =
    let m : a < object_limit = omega (arith, c.few) in
    let b : 1 * 2 ^ a % 2 ^ 32 < 2 ^ 32 = omega arith in
    record { granting = granting_start reads writes a c.even m; reaching = granting_start reads reach a c.long m; small = b; less = b }

pub missing_take : (reads writes reach : List ℕ) (a row reached s : ℕ) → Missing reads writes reach a row reached s → s < length reads → get_or reads s 0 / 2 ^ a % 2 ≡ 1
    → get_or writes s 0 < 2 ^ 32 → get_or reach s 0 < 2 ^ 32 → Missing reads writes reach a (bit_or row (get_or writes s 0)) (bit_or reached (get_or reach s 0)) (s + 1)
missing_take reads writes reach a row reached s m h t p q =
    record {
      granting = granting_take reads writes a row s m.granting h t;
      reaching = granting_take reads reach a reached s m.reaching h t;
      small = or_lt 32 row (get_or writes s 0) m.small p;
      less = or_lt 32 reached (get_or reach s 0) m.less q;
    }

pub missing_skip : (reads writes reach : List ℕ) (a row reached s : ℕ) → Missing reads writes reach a row reached s → s < length reads → (get_or reads s 0 / 2 ^ a % 2 ≡ 1 → ⊥)
    → Missing reads writes reach a row reached (s + 1)
missing_skip reads writes reach a row reached s m h t =
    record {
      granting = granting_skip reads writes a row s m.granting h t;
      reaching = granting_skip reads reach a reached s m.reaching h t;
      small = m.small;
      less = m.less;
    }

pub missing_end : (reads writes reach : List ℕ) (n a row reached s : ℕ) → Closed reads writes n reach → a < n → Missing reads writes reach a row reached s → length reads ≤ s
    → (b : ℕ) → has (bit_and reached (2 ^ 32 - 1 - row)) b ≡ ungranted reads writes n a b
unfolding ungranted
missing_end reads writes reach n a row reached s c l m h b =
    has_without 32 reached row b m.less m.small
    ∙ ap₂ (λ (x y : Bool). x && not y) (granting_end reads reach a reached s m.reaching h b ∙ c.flows a b l) (granting_end reads writes a row s m.granting h b)

-- ---- the objects that subjects read whose row has grown: the subjects before s are done

pub record Growing (reads writes reach : List ℕ) (grown s : ℕ) : Type 0 where
  pub same : (i a : ℕ) → i < s → has (get_or reads i 0) a ≡ true → has grown a ≡ false → get_or reach i 0 ≡ get_or writes i 0

pub growing_take : (reads writes reach : List ℕ) (grown s : ℕ) → Growing reads writes reach grown s → Growing reads writes reach (bit_or grown (get_or reads s 0)) (s + 1)
growing_take reads writes reach grown s g = record { same = λ i a l p q. by i a l p q (ℕ_discrete i s) }
  where
    by : (i a : ℕ) → i < s + 1 → has (get_or reads i 0) a ≡ true → has (bit_or grown (get_or reads s 0)) a ≡ false → Dec (i ≡ s) → get_or reach i 0 ≡ get_or writes i 0
    by i a l p q (yes e) = clash (or_1 (has grown a) (has (get_or reads s 0) a) (rw e at p)) (sym (has_or grown (get_or reads s 0) a) ∙ q)
    by i a l p q (no e) =
        g.same i a (omega arith) p
        (refuted (has grown a) (λ h. clash (or_0 (has grown a) (has (get_or reads s 0) a) h) (sym (has_or grown (get_or reads s 0) a) ∙ q)))

pub growing_skip : (reads writes reach : List ℕ) (grown s : ℕ) → Growing reads writes reach grown s → get_or writes s 0 ≡ get_or reach s 0 → Growing reads writes reach grown (s + 1)
growing_skip reads writes reach grown s g t =
    record { same = λ i a l p q. by i a l p q (ℕ_discrete i s) }
  where
    by : (i a : ℕ) → i < s + 1 → has (get_or reads i 0) a ≡ true → has grown a ≡ false → Dec (i ≡ s) → get_or reach i 0 ≡ get_or writes i 0
    by i a l p q (yes e) = rw e (sym t)
    by i a l p q (no e) = g.same i a (omega arith) p q

-- from any other object no flow is missing
flow_known : (reads writes reach : List ℕ) (n grown a b : ℕ) → Closed reads writes n reach → Grown reads writes reach grown → has grown a ≡ false
    → granted reads reach a b ≡ true → granted reads writes a b ≡ true
unfolding granted
flow_known reads writes reach n grown a b c g t h = on (or_cases (eqb a b) h)
  where
    on : (eqb a b ≡ true) ⊎ (subject_carries reads reach a b ≡ true) → (eqb a b || subject_carries reads writes a b) ≡ true
    on (inl e) = or_0 (eqb a b) (subject_carries reads writes a b) e
    on (inr q) =
        let z = carried reads reach a b c.long q in
        let e : get_or reach z.0 0 ≡ get_or writes z.0 0 = g.same z.0 a z.1 z.2 t in
        let w : has (get_or writes z.0 0) b ≡ true = sym (ap (λ (x : ℕ). has x b) e) ∙ z.3 in
        or_1 (eqb a b) (subject_carries reads writes a b) (carries reads writes z.0 a b z.1 c.even z.2 w)

pub nothing_missing : (reads writes reach : List ℕ) (n grown a : ℕ) → Closed reads writes n reach → Grown reads writes reach grown → a < n → (grown / 2 ^ a % 2 ≡ 1 → ⊥)
    → (b : ℕ) → has 0 b ≡ ungranted reads writes n a b
unfolding ungranted
nothing_missing reads writes reach n grown a c g l t b =
    has_zero b ∙ sym (ap (λ (x : Bool). x && not (granted reads writes a b)) (sym (c.flows a b l)) ∙ by (granted reads reach a b) refl)
  where
    by : (x : Bool) → granted reads reach a b ≡ x → (x && not (granted reads writes a b)) ≡ false
    by false e = refl
    by true e = ap not (flow_known reads writes reach n grown a b c g (has_not grown a t) e)

-- ---- counting: the sources before a are done

pub record Counting (reads writes : List ℕ) (n count a : ℕ) : Type 0 where
  pub place : a ≤ n
  pub few : n ≤ 32
  pub small : count ≤ 32 * a
  pub sum : count ≡ sum_below (λ i. count_below (ungranted reads writes n i) n) a

pub counting_start : (reads writes closure : List ℕ) (n : ℕ) → Closed reads writes n closure → Counting reads writes n 0 0
unfolding sum_below
counting_start reads writes closure n c = record { place = omega arith; few = c.few; small = omega arith; sum = refl }

row_count : (reads writes : List ℕ) (n a row : ℕ) → n ≤ 32 → rows_within n writes ≡ true → a < n → row < 2 ^ 32
    → ((b : ℕ) → has row b ≡ ungranted reads writes n a b) → ones row ≡ count_below (ungranted reads writes n a) n
row_count reads writes n a row f g l p e =
    let w : n + (32 - n) ≡ 32 = omega arith in
    ones_count 32 row p
    ∙ count_same (has row) (ungranted reads writes n a) 32 (λ b m. e b)
    ∙ ap (count_below (ungranted reads writes n a)) (sym w)
    ∙ count_front (ungranted reads writes n a) n (32 - n) (λ b m. ungranted_beyond reads writes n a b g l m)

pub counting_next : (reads writes closure : List ℕ) (n count a row : ℕ) → Closed reads writes n closure → Counting reads writes n count a → a < n → row < 2 ^ 32
    → ((b : ℕ) → has row b ≡ ungranted reads writes n a b) → Counting reads writes n (count + ones row) (a + 1)
counting_next reads writes closure n count a row c k l p e =
    record {
      place = omega arith;
      few = k.few;
      small = omega (arith, ones-le 32 row p, k.small);
      sum =
          ap₂ (λ (x y : ℕ). x + y) k.sum (row_count reads writes n a row c.few c.good l p e)
          ∙ sym (sum_next (λ i. count_below (ungranted reads writes n i) n) a)
          ∙ ap (sum_below (λ i. count_below (ungranted reads writes n i) n)) (sym (add-one a));
    }

pub counting_skip : (reads writes reach : List ℕ) (n count a row : ℕ) → Closed reads writes n reach → Counting reads writes n count a → a < n → row ≡ 0
    → ((b : ℕ) → has row b ≡ ungranted reads writes n a b) → Counting reads writes n count (a + 1)
counting_skip reads writes reach n count a row c k l z e =
    let o : ones row ≡ 0 = omega (arith, ones-le 0 row (omega arith)) in
    let s : count + ones row ≡ count = omega arith in
    rw s at (counting_next reads writes reach n count a row c k l (omega arith) e)

pub counting_end : (reads writes : List ℕ) (n count a : ℕ) → Counting reads writes n count a → n ≤ a → count ≡ flow_count reads writes n
unfolding flow_count
counting_end reads writes n count a k h =
    let e : a ≡ n = omega (arith, k.place) in
    k.sum ∙ ap (sum_below (λ i. count_below (ungranted reads writes n i) n)) e

-- ---- searching: no source before a has a flow that is not granted, and from a there is none to a target before b

pub record Searching (reads writes : List ℕ) (n a : ℕ) : Type 0 where
  pub none : (i : ℕ) → i < a → ungranted_from reads writes n i ≡ false

pub record SearchingRow (reads writes : List ℕ) (n a b : ℕ) : Type 0 where
  pub outer : Searching reads writes n a
  pub none : (j : ℕ) → j < b → ungranted reads writes n a j ≡ false

pub row_next : (reads writes : List ℕ) (n a b row : ℕ) → SearchingRow reads writes n a b
    → ((b : ℕ) → has row b ≡ ungranted reads writes n a b) → (row / 2 ^ b % 2 ≡ 1 → ⊥) → SearchingRow reads writes n a (b + 1)
row_next reads writes n a b row s e t =
    record { outer = s.outer; none = below_more (λ j. ungranted reads writes n a j ≡ false) b s.none (sym (e b) ∙ has_not row b t) }

pub searching_next : (reads writes : List ℕ) (n a b : ℕ) → SearchingRow reads writes n a b → n ≤ b → Searching reads writes n (a + 1)
unfolding ungranted_from
searching_next reads writes n a b s h =
    let z : ungranted_from reads writes n a ≡ false = some_none (ungranted reads writes n a) n (λ j l. s.none j (omega arith)) in
    record { none = below_more (λ i. ungranted_from reads writes n i ≡ false) a s.outer.none z }

-- a row without any
pub searching_skip : (reads writes : List ℕ) (n a row : ℕ) → Searching reads writes n a → row ≡ 0
    → ((b : ℕ) → has row b ≡ ungranted reads writes n a b) → Searching reads writes n (a + 1)
searching_skip reads writes n a row s z e =
    searching_next reads writes n a n
    (record { outer = s; none = λ j m. sym (e j) ∙ ap (λ (x : ℕ). has x j) z ∙ has_zero j })
    (omega arith)

pub searching_end : (reads writes : List ℕ) (n a count : ℕ) → Searching reads writes n a → n ≤ a → None ≡ judged_by count reads writes n
unfolding judged_by consistent
searching_end reads writes n a count s h =
    sym (rw (some_none (ungranted_from reads writes n) n (λ i l. s.none i (omega arith))))

pub searching_found : (reads writes : List ℕ) (n a b row count : ℕ) → SearchingRow reads writes n a b → a < n → b < n
    → ((b : ℕ) → has row b ≡ ungranted reads writes n a b) → row / 2 ^ b % 2 ≡ 1 → inconsistent count a b ≡ judged_by count reads writes n
unfolding judged_by consistent first_source first_target ungranted_from
searching_found reads writes n a b row count s m l e t =
    let u : ungranted reads writes n a b ≡ true = sym (e b) ∙ has_is row b t in
    let v : ungranted_from reads writes n a ≡ true = some_at (ungranted reads writes n a) n b l u in
    let x : first_source reads writes n ≡ a = least_is (ungranted_from reads writes n) n a m v s.outer.none in
    let y : first_target reads writes n ≡ b =
    ap (λ (i : ℕ). least_below (ungranted reads writes n i) n) x ∙ least_is (ungranted reads writes n a) n b l u s.none in
    sym
    (rw (some_at (ungranted_from reads writes n) n a m v)
    (ap₂ (λ (i j : ℕ). inconsistent count i j) x y))

-- ---- the verdict

module _ (reads writes : List ℕ) (n : ℕ) where
  passed_all : matrix_good reads writes n ≡ true → first_failed (matrix_conditions reads writes n) ≡ 0
  unfolding matrix_conditions
  passed_all g = passed (matrix_good reads writes n or_refuse matrix) [] g ∙ none_left

  failed_one : matrix_good reads writes n ≡ false → first_failed (matrix_conditions reads writes n) ≡ matrix
  unfolding matrix_conditions
  failed_one g = failed (matrix_good reads writes n or_refuse matrix) [] g

  pub verdict_is : (count : ℕ) (v : Option Inconsistency) → matrix_good reads writes n ≡ true → count ≡ flow_count reads writes n
      → v ≡ judged_by count reads writes n → consistency_values (Ok v) ≡ matrix_verdict reads writes n
  unfolding matrix_verdict unless_refused
  verdict_is count v g e f = ap (λ (x : Option Inconsistency). consistency_values (Ok x)) (f ∙ ap (λ (k : ℕ). judged_by k reads writes n) e) ∙ sym (rw (passed_all g))

  pub judged_none : (count : ℕ) → count ≡ flow_count reads writes n → count ≡ 0 → None ≡ judged_by (flow_count reads writes n) reads writes n
  unfolding judged_by
  judged_none count e z = sym (rw ((count_consistent reads writes n).0 (sym e ∙ z)))

  pub verdict_refused : matrix_good reads writes n ≡ false → matrix_verdict reads writes n ≡ consistency_values (Err V.Matrix)
  unfolding matrix_verdict unless_refused
  verdict_refused g = rw (failed_one g)

  pub verdict_consistent : matrix_good reads writes n ≡ true → consistent reads writes n ≡ true → matrix_verdict reads writes n ≡ consistency_values (Ok None)
  unfolding judged_by
  verdict_consistent g c = sym (verdict_is (flow_count reads writes n) None g refl (sym (rw c)))

  pub verdict_inconsistent : matrix_good reads writes n ≡ true → consistent reads writes n ≡ false
      → matrix_verdict reads writes n ≡ consistency_values (Ok (inconsistent (flow_count reads writes n) (first_source reads writes n) (first_target reads writes n)))
  unfolding judged_by
  verdict_inconsistent g c = sym (verdict_is (flow_count reads writes n) (inconsistent (flow_count reads writes n) (first_source reads writes n) (first_target reads writes n)) g refl (sym (rw c)))

  -- 8 exactly if the matrix is malformed
  pub verdict_8 : ((matrix_verdict reads writes n).number ≡ matrix) ↔ (matrix_good reads writes n ≡ false)
  verdict_8 = (λ e. on e (decide (matrix_good reads writes n)) (decide (consistent reads writes n)), λ g. ap (λ (v : ConsistencyValues). v.number) (verdict_refused g))
    where
      on : (matrix_verdict reads writes n).number ≡ matrix → (matrix_good reads writes n ≡ true) ⊎ (matrix_good reads writes n ≡ false)
          → (consistent reads writes n ≡ true) ⊎ (consistent reads writes n ≡ false) → matrix_good reads writes n ≡ false
      on e (inr g) c = g
      on e (inl g) (inl c) = absurd (omega (arith, e, ap (λ (v : ConsistencyValues). v.number) (verdict_consistent g c)))
      on e (inl g) (inr c) = absurd (omega (arith, e, ap (λ (v : ConsistencyValues). v.number) (verdict_inconsistent g c)))

  -- no other number is given than 0, 1 and this one
  pub verdict_among : elem (matrix_verdict reads writes n).number (0 ∷ 1 ∷ matrix ∷ []) ≡ true
  verdict_among = on (decide (matrix_good reads writes n)) (decide (consistent reads writes n))
    where
      on : (matrix_good reads writes n ≡ true) ⊎ (matrix_good reads writes n ≡ false)
          → (consistent reads writes n ≡ true) ⊎ (consistent reads writes n ≡ false) → elem (matrix_verdict reads writes n).number (0 ∷ 1 ∷ matrix ∷ []) ≡ true
      on (inr g) c = rw (verdict_refused g) (unfold elem in refl)
      on (inl g) (inl c) = rw (verdict_consistent g c) (unfold elem in refl)
      on (inl g) (inr c) = rw (verdict_inconsistent g c) (unfold elem in refl)
