-- What the subjects reach, one pass after the other or none where rows lead no further, and that the granted flows of these rows are the composed ones.
use Prim.Native.Nat.{ℕ, ◌+◌, ◌≤◌, ◌<◌}
use mathlib.Core.Path.{◌≡◌, refl, sym, ap, ◌∙◌}
use mathlib.Core.Bool.{Bool, true, false, cond, ◌&&◌, ◌||◌}
use mathlib.Core.Logic.{◌⊎◌, inl, inr}
use mathlib.Core.List.{List}
use native.Mathlib.Decide.{ℕ_discrete, dec_lt}
use native.Mathlib.Omega.{arith}
use lib.Bits.{bit_and, bit_or}
use lib.Dec.{eqb}
use lib.ListN.{length, get_or, take, length-take}
use lib.Seq.{get_or-take}
use borrow.Author.Tests.{eqb-true, eqb-false, eq-eqb, ne_eqb}
use Rattle.lists.proofs.Bools.{and_in, and_0, and_1, or_0, or_1, or_cases, clash, refuted, same_test}
use Rattle.lists.proofs.Below.{all_at}
use Rattle.rules.specs.Sets.{holds}
use Rattle.rules.proofs.SetLaws.{atom_le, holds_atoms, holds_is, holds_not}
use Rattle.matrix.specs.Limits.{subject_limit}
use Rattle.matrix.specs.Flows.{has, subject_carries, granted, step, onward, Composed, composed, rows_within, matrix_good}
use Rattle.matrix.specs.Rows.{stays_in, row_closed, subject_closed, rows_closed, joined_through, Passed, Reaching, Closed}
use Rattle.matrix.specs.Verdicts.{consistent}
use Rattle.matrix.proofs.GoodLaws.{Good, good_parts}
use Rattle.matrix.proofs.RowBits.{has_or, has_and, has_zero, has_atom, atom_has, some_bit}
use Rattle.matrix.proofs.CarrierLaws.{carries, carried}
use Rattle.matrix.proofs.PathTest.{path_source, path_target, path_append}
use Rattle.matrix.proofs.PathFlows.{composed_path, composed_beyond, rows_exact, consistent_granted, reach_path}

-- ---- one row

-- an object of both rows
meeting : (row read c : ℕ) → has row c ≡ true → has read c ≡ true → eqb (bit_and row read) 0 ≡ false
meeting row read c p q =
    refuted (eqb (bit_and row read) 0)
    (λ e. clash (has_and row read c ∙ and_in p q) (ap (λ (x : ℕ). has x c) (eqb-true (bit_and row read) 0 e) ∙ has_zero c))

module _ (read other row : ℕ) where
  -- what it has stays
  pub joined_keeps : (b : ℕ) → has row b ≡ true → has (joined_through read other row) b ≡ true
  unfolding joined_through
  joined_keeps b h = by (eqb (bit_and row read) 0)
    where
      by : (t : Bool) → has (cond t row (bit_or row other)) b ≡ true
      by true = h
      by false = has_or row other b ∙ or_0 (has row b) (has other b) h

  -- the other one is added where there is an object that is read
  pub joined_takes : (c b : ℕ) → has row c ≡ true → has read c ≡ true → has other b ≡ true → has (joined_through read other row) b ≡ true
  unfolding joined_through
  joined_takes c b p q h = rw (meeting row read c p q) (has_or row other b ∙ or_1 (has row b) (has other b) h)

  -- nothing else is in it
  pub joined_cases : (b : ℕ) → has (joined_through read other row) b ≡ true
      → (has row b ≡ true) ⊎ ((c : ℕ) × (has row c ≡ true) × (has read c ≡ true) × (has other b ≡ true))
  unfolding joined_through
  joined_cases b h = by (eqb (bit_and row read) 0) refl h
    where
      by : (t : Bool) → eqb (bit_and row read) 0 ≡ t → has (cond t row (bit_or row other)) b ≡ true
          → (has row b ≡ true) ⊎ ((c : ℕ) × (has row c ≡ true) × (has read c ≡ true) × (has other b ≡ true))
      by true e h = inl h
      by false e h = on (or_cases (has row b) (sym (has_or row other b) ∙ h))
        where
          on : (has row b ≡ true) ⊎ (has other b ≡ true) → (has row b ≡ true) ⊎ ((c : ℕ) × (has row c ≡ true) × (has read c ≡ true) × (has other b ≡ true))
          on (inl p) = inl p
          on (inr p) =
              let m = some_bit (bit_and row read) (eqb-false (bit_and row read) 0 e) in
              let q : (has row m.0 && has read m.0) ≡ true = sym (has_and row read m.0) ∙ m.1 in
              inr (m.0, and_0 (has row m.0) (has read m.0) q, and_1 (has row m.0) q, p)

-- ---- one pass

-- before any pass the rows are what the subjects write
pub reaching_start : (reads writes reach : List ℕ) → length writes ≡ length reads → ((s : ℕ) → s < length reads → get_or reach s 0 ≡ get_or writes s 0)
    → Reaching reads writes reach 0
unfolding granted
reaching_start reads writes reach e same =
    record {
      holds = λ s b l h. ap (λ (x : ℕ). has x b) (same s l) ∙ h;
      through = λ s t c b l m p q h. absurd (omega arith);
      paths = λ n s a b g l p q. one n s a b (good_parts reads writes n g) l p (sym (ap (λ (x : ℕ). has x b) (same s l)) ∙ q);
    }
  where
    inside : (n k : ℕ) (rows : List ℕ) (s : ℕ) → rows_within n rows ≡ true → has (get_or rows s 0) k ≡ true → Dec (k < n) → k < n
    inside n k rows s g h (yes l) = l
    inside n k rows s g h (no l) = clash h ((rows_exact n rows).0 g s k (omega arith))

    one : (n s a b : ℕ) → Good reads writes n → s < length reads → has (get_or reads s 0) a ≡ true → has (get_or writes s 0) b ≡ true → Composed reads writes n a b
    one n s a b g l p q =
        step (inside n a reads s g.reads_good p (dec_lt a n)) (inside n b writes s g.writes_good q (dec_lt b n))
        (or_1 (eqb a b) (subject_carries reads writes a b) (carries reads writes s a b l e p q))

module _ (reads writes before after : List ℕ) (k : ℕ) (l : k < length reads) (r : Reaching reads writes before k)
    (p : Passed (get_or reads k 0) k (length reads) before after) where
  -- a row of before, and of after
  keeps : (s b : ℕ) → s < length reads → has (get_or before s 0) b ≡ true → has (get_or after s 0) b ≡ true
  keeps s b m h = ap (λ (x : ℕ). has x b) (p.each s m) ∙ joined_keeps (get_or reads k 0) (get_or before k 0) (get_or before s 0) b h

  takes : (s c b : ℕ) → s < length reads → has (get_or before s 0) c ≡ true → has (get_or reads k 0) c ≡ true → has (get_or before k 0) b ≡ true → has (get_or after s 0) b ≡ true
  takes s c b m x y h = ap (λ (x : ℕ). has x b) (p.each s m) ∙ joined_takes (get_or reads k 0) (get_or before k 0) (get_or before s 0) c b x y h

  cases : (s b : ℕ) → s < length reads → has (get_or after s 0) b ≡ true
      → (has (get_or before s 0) b ≡ true)
      ⊎ ((c : ℕ) × (has (get_or before s 0) c ≡ true) × (has (get_or reads k 0) c ≡ true) × (has (get_or before k 0) b ≡ true))
  cases s b m h = joined_cases (get_or reads k 0) (get_or before k 0) (get_or before s 0) b (sym (ap (λ (x : ℕ). has x b) (p.each s m)) ∙ h)

  -- row k has nothing more
  own : (b : ℕ) → has (get_or after k 0) b ≡ true → has (get_or before k 0) b ≡ true
  own b h = on (cases k b l h)
    where
      on : (has (get_or before k 0) b ≡ true)
          ⊎ ((c : ℕ) × (has (get_or before k 0) c ≡ true) × (has (get_or reads k 0) c ≡ true) × (has (get_or before k 0) b ≡ true))
          → has (get_or before k 0) b ≡ true
      on (inl q) = q
      on (inr (c, x, y, z)) = z

  -- by way of k itself
  last : (s c b : ℕ) → s < length reads → has (get_or after s 0) c ≡ true → has (get_or reads k 0) c ≡ true → has (get_or before k 0) b ≡ true → has (get_or after s 0) b ≡ true
  last s c b m x y h = on (cases s c m x)
    where
      on : (has (get_or before s 0) c ≡ true)
          ⊎ ((d : ℕ) × (has (get_or before s 0) d ≡ true) × (has (get_or reads k 0) d ≡ true) × (has (get_or before k 0) c ≡ true))
          → has (get_or after s 0) b ≡ true
      on (inl q) = takes s c b m q y h
      on (inr (d, q, z, w)) = takes s d b m q z h

  -- by way of one before k
  earlier : (s t c b : ℕ) → s < length reads → t < k → has (get_or after s 0) c ≡ true → has (get_or reads t 0) c ≡ true → has (get_or after t 0) b ≡ true
      → has (get_or after s 0) b ≡ true
  earlier s t c b m i x y h = on (cases s c m x) (cases t b (omega arith) h)
    where
      on : (has (get_or before s 0) c ≡ true)
          ⊎ ((d : ℕ) × (has (get_or before s 0) d ≡ true) × (has (get_or reads k 0) d ≡ true) × (has (get_or before k 0) c ≡ true))
          → (has (get_or before t 0) b ≡ true)
          ⊎ ((d : ℕ) × (has (get_or before t 0) d ≡ true) × (has (get_or reads k 0) d ≡ true) × (has (get_or before k 0) b ≡ true))
          → has (get_or after s 0) b ≡ true
      on (inl q) (inl w) = keeps s b m (r.through s t c b m i q y w)
      on (inl q) (inr (d, u, v, w)) = takes s d b m (r.through s t c d m i q y u) v w
      on (inr (d, u, v, q)) (inl w) = takes s d b m u v (r.through k t c b l i q y w)
      on (inr (d, u, v, q)) (inr (g, x, z, w)) = takes s d b m u v w

  path : (n s a b : ℕ) → matrix_good reads writes n ≡ true → s < length reads → has (get_or reads s 0) a ≡ true → has (get_or after s 0) b ≡ true → Composed reads writes n a b
  path n s a b g m x h = on (cases s b m h)
    where
      on : (has (get_or before s 0) b ≡ true)
          ⊎ ((c : ℕ) × (has (get_or before s 0) c ≡ true) × (has (get_or reads k 0) c ≡ true) × (has (get_or before k 0) b ≡ true))
          → Composed reads writes n a b
      on (inl q) = r.paths n s a b g m x q
      on (inr (c, u, v, w)) = path_append (r.paths n s a c g m x u) (r.paths n k c b g l v w)

  pub reaching_next : Reaching reads writes after (k + 1)
  reaching_next =
      record {
        holds = λ s b m h. keeps s b m (r.holds s b m h);
        through = λ s t c b m i x y h. by s t c b m i x y h (ℕ_discrete t k);
        paths = path;
      }
    where
      by : (s t c b : ℕ) → s < length reads → t < k + 1 → has (get_or after s 0) c ≡ true → has (get_or reads t 0) c ≡ true → has (get_or after t 0) b ≡ true → Dec (t ≡ k)
          → has (get_or after s 0) b ≡ true
      by s t c b m i x y h (yes e) = last s c b m x (rw e at y) (own b (rw e at h))
      by s t c b m i x y h (no e) = earlier s t c b m (omega arith) x y h

-- a pass of all rows there is room for
pub passed_next : (reads writes before after : List ℕ) (k m : ℕ) → k < length reads → length reads ≤ m → Reaching reads writes before k → Passed (get_or reads k 0) k m before after
    → Reaching reads writes after (k + 1)
passed_next reads writes before after k m l f r p =
    reaching_next reads writes before after k l r (record { each = λ s i. p.each s (omega arith) })

-- the passes of the subjects before k are made
pub record Passing (reads writes reach : List ℕ) (k : ℕ) : Type 0 where
  pub place : k ≤ length reads
  pub long : length reach ≡ subject_limit
  pub rows : Reaching reads writes reach k

-- ---- the flows, of rows that hold what is written, take in what leads on, and have nothing that no path leads to

module _ (reads writes reach : List ℕ) (n : ℕ) (good : Good reads writes n) (even : length reach ≡ length reads)
    (holding : (s b : ℕ) → s < length reads → has (get_or writes s 0) b ≡ true → has (get_or reach s 0) b ≡ true)
    (through : (s t a c b : ℕ) → s < length reads → t < length reads → has (get_or reads s 0) a ≡ true → has (get_or reach s 0) c ≡ true → has (get_or reads t 0) c ≡ true
    → has (get_or reach t 0) b ≡ true → has (get_or reach s 0) b ≡ true)
    (paths : (s a b : ℕ) → s < length reads → has (get_or reads s 0) a ≡ true → has (get_or reach s 0) b ≡ true → Composed reads writes n a b) where
  -- what is granted with these rows is composed
  flow_path : (a b : ℕ) → a < n → granted reads reach a b ≡ true → Composed reads writes n a b
  unfolding granted
  flow_path a b l h = by (or_cases (eqb a b) h)
    where
      by : (eqb a b ≡ true) ⊎ (subject_carries reads reach a b ≡ true) → Composed reads writes n a b
      by (inl e) = rw (← (eqb-true a b e)) (step l l (or_0 (eqb a a) (subject_carries reads writes a a) (eq-eqb a a refl)))
      by (inr c) = let z = carried reads reach a b even c in paths z.0 a b z.1 z.2 z.3

  -- one granted flow more
  onwards : (a b c : ℕ) → granted reads reach a b ≡ true → granted reads writes b c ≡ true → granted reads reach a c ≡ true
  unfolding granted
  onwards a b c h g = by (or_cases (eqb a b) h) (or_cases (eqb b c) g)
    where
      carrying : (s : ℕ) → s < length reads → has (get_or reads s 0) a ≡ true → has (get_or reach s 0) c ≡ true → (eqb a c || subject_carries reads reach a c) ≡ true
      carrying s l p q = or_1 (eqb a c) (subject_carries reads reach a c) (carries reads reach s a c l even p q)

      by : (eqb a b ≡ true) ⊎ (subject_carries reads reach a b ≡ true) → (eqb b c ≡ true) ⊎ (subject_carries reads writes b c ≡ true)
          → (eqb a c || subject_carries reads reach a c) ≡ true
      by x (inl e) = rw (eqb-true b c e) at h
      by (inl e) (inr w) =
          let z = carried reads writes b c good.even w in
          let p : has (get_or reads z.0 0) a ≡ true = ap (has (get_or reads z.0 0)) (eqb-true a b e) ∙ z.2 in
          carrying z.0 z.1 p (holding z.0 c z.1 z.3)
      by (inr v) (inr w) =
          let x = carried reads reach a b even v in
          let z = carried reads writes b c good.even w in
          carrying x.0 x.1 x.2 (through x.0 z.0 a b c x.1 z.1 x.2 x.3 z.2 (holding z.0 c z.1 z.3))

  path_flow : (a b : ℕ) → Composed reads writes n a b → granted reads reach a b ≡ true
  unfolding granted
  path_flow a b (step p q g) = onwards a a b (or_0 (eqb a a) (subject_carries reads reach a a) (eq-eqb a a refl)) g
  path_flow a c (onward {b = b} p q g) = onwards a b c (path_flow a b p) g

  reached_flows : (a b : ℕ) → a < n → granted reads reach a b ≡ composed reads writes n a b
  reached_flows a b l = by (dec_lt b n)
    where
      by : Dec (b < n) → granted reads reach a b ≡ composed reads writes n a b
      by (yes m) =
          same_test (granted reads reach a b) (composed reads writes n a b)
          (λ h. (composed_path reads writes n a b l m).1 (flow_path a b l h))
          (λ h. path_flow a b ((composed_path reads writes n a b l m).0 h))
      by (no m) =
          refuted (granted reads reach a b) (λ h. absurd (m (path_target (flow_path a b l h))))
          ∙ sym (composed_beyond reads writes n a b good.writes_good l (omega arith))

  pub flows_closed : Closed reads writes n reach
  flows_closed = record { even = good.even; long = even; few = good.few; good = good.writes_good; flows = reached_flows }

-- what the functions that judge are given: the rows of the subjects there are
pub closed : (reads writes reach : List ℕ) (n : ℕ) → matrix_good reads writes n ≡ true → length reads ≤ length reach → Reaching reads writes reach (length reads)
    → Closed reads writes n (take (length reads) reach)
closed reads writes reach n g f r =
    flows_closed reads writes (take (length reads) reach) n (good_parts reads writes n g) long
    (λ s b l h. row s b l ∙ r.holds s b l h)
    (λ s t a c b l m p x y h. row s b l ∙ r.through s t c b l m (sym (row s c l) ∙ x) y (sym (row t b m) ∙ h))
    (λ s a b l x h. r.paths n s a b g l x (sym (row s b l) ∙ h))
  where
    long : length (take (length reads) reach) ≡ length reads
    long = omega (arith, length-take (length reads) reach)

    row : (s b : ℕ) → s < length reads → has (get_or (take (length reads) reach) s 0) b ≡ has (get_or reach s 0) b
    row s b l = ap (λ (x : ℕ). has x b) (get_or-take (length reads) reach s 0 l)

-- ---- rows that lead no further

pub stays_apart : (reads writes : List ℕ) (row t : ℕ) → bit_and row (get_or reads t 0) ≡ 0 → stays_in reads writes row t ≡ true
unfolding stays_in
stays_apart reads writes row t e = or_0 (eqb (bit_and row (get_or reads t 0)) 0) (holds row (get_or writes t 0)) (eq-eqb (bit_and row (get_or reads t 0)) 0 e)

pub stays_within : (reads writes : List ℕ) (row t : ℕ) → bit_and row (get_or writes t 0) ≡ get_or writes t 0 → stays_in reads writes row t ≡ true
unfolding stays_in
stays_within reads writes row t e = or_1 (eqb (bit_and row (get_or reads t 0)) 0) (holds row (get_or writes t 0)) (holds_is row (get_or writes t 0) e)

pub stays_not : (reads writes : List ℕ) (row t : ℕ) → (bit_and row (get_or reads t 0) ≡ 0 → ⊥) → (bit_and row (get_or writes t 0) ≡ get_or writes t 0 → ⊥) → stays_in reads writes row t ≡ false
unfolding stays_in
stays_not reads writes row t e h = rw (ne_eqb (bit_and row (get_or reads t 0)) 0 e) (holds_not row (get_or writes t 0) h)

pub subject_none : (reads writes : List ℕ) (s : ℕ) → get_or reads s 0 ≡ 0 → subject_closed reads writes s ≡ true
unfolding subject_closed
subject_none reads writes s e = or_0 (eqb (get_or reads s 0) 0) (row_closed reads writes (get_or writes s 0)) (eq-eqb (get_or reads s 0) 0 e)

pub subject_is : (reads writes : List ℕ) (s : ℕ) → (get_or reads s 0 ≡ 0 → ⊥) → subject_closed reads writes s ≡ row_closed reads writes (get_or writes s 0)
unfolding subject_closed
subject_is reads writes s e = rw (ne_eqb (get_or reads s 0) 0 e)

-- what a subject that reads anything writes takes in what leads on
closed_through : (reads writes : List ℕ) → rows_closed reads writes ≡ true → (s t a c b : ℕ) → s < length reads → t < length reads → has (get_or reads s 0) a ≡ true
    → has (get_or writes s 0) c ≡ true → has (get_or reads t 0) c ≡ true → has (get_or writes t 0) b ≡ true → has (get_or writes s 0) b ≡ true
unfolding rows_closed subject_closed
closed_through reads writes g s t a c b l m p x y h = on (or_cases (eqb (get_or reads s 0) 0) (all_at (subject_closed reads writes) (length reads) s g l))
  where
    within : (eqb (bit_and (get_or writes s 0) (get_or reads t 0)) 0 ≡ true) ⊎ (holds (get_or writes s 0) (get_or writes t 0) ≡ true) → has (get_or writes s 0) b ≡ true
    within (inl e) = clash e (meeting (get_or writes s 0) (get_or reads t 0) c x y)
    within (inr e) =
        atom_has (get_or writes s 0) b
        (omega (arith, has_atom (get_or writes t 0) b h, holds_atoms (get_or writes s 0) (get_or writes t 0) e b, atom_le (get_or writes s 0) b))

    on : (eqb (get_or reads s 0) 0 ≡ true) ⊎ (row_closed reads writes (get_or writes s 0) ≡ true) → has (get_or writes s 0) b ≡ true
    on (inl e) = clash p (ap (λ (x : ℕ). has x a) (eqb-true (get_or reads s 0) 0 e) ∙ has_zero a)
    on (inr e) =
        within
        (unfold row_closed stays_in in or_cases (eqb (bit_and (get_or writes s 0) (get_or reads t 0)) 0) (all_at (stays_in reads writes (get_or writes s 0)) (length reads) t e m))

-- so they are what the subjects reach
pub rows_closed_lem : (reads writes : List ℕ) (n : ℕ) → matrix_good reads writes n ≡ true → rows_closed reads writes ≡ true → Closed reads writes n writes
rows_closed_lem reads writes n g c =
    let p = good_parts reads writes n g in
    flows_closed reads writes writes n p p.even (λ s b l h. h) (closed_through reads writes c) (λ s a b l x h. (reaching_start reads writes writes p.even (λ s l. refl)).paths n s a b g l x h)

pub closed_consistent : (reads writes : List ℕ) (n : ℕ) → matrix_good reads writes n ≡ true → rows_closed reads writes ≡ true → consistent reads writes n ≡ true
closed_consistent reads writes n g c =
    (consistent_granted reads writes n).1 (λ a b p. (reach_path reads writes n writes (rows_closed_lem reads writes n g c) a b (path_source p) (path_target p)).1 p)
