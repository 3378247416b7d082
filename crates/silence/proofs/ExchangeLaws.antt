-- The flows of the matrix with its read and write rows exchanged are its own backwards; so its composed flows from an object are the
-- sources of that object.
use Prim.Native.Nat.{ℕ, zero, suc, ◌≤◌, ◌<◌}
use mathlib.Core.Path.{◌≡◌, refl, sym, ap, ap₂, ◌∙◌}
use mathlib.Core.Bool.{Bool, true, false, ◌&&◌, ◌||◌}
use mathlib.Core.List.{List, [], ◌∷◌}
use native.Mathlib.Decide.{dec_lt}
use native.Mathlib.Omega.{arith}
use lib.Dec.{eqb}
use lib.ListN.{length, take}
use lib.Seq.{take_all, take-length}
use borrow.Author.Tests.{eqb-true, eq-eqb}
use Rattle.lists.proofs.Bools.{same_test}
use Rattle.rules.specs.Rules.{covers}
use Rattle.derivation.specs.Derived.{permit_of}
use Rattle.matrix.specs.Limits.{subject_limit}
use Rattle.matrix.specs.Flows.{has, subject_carries, granted, within, composed, matrix_good}
use Rattle.matrix.specs.Rows.{bits_of, rows_closed, Reaching, Closed}
use Rattle.matrix.proofs.RowBits.{has_ext, bits_has, bits_above}
use Rattle.matrix.proofs.GoodLaws.{Good, good_parts, parts_good}
use Rattle.matrix.proofs.SubjectReach.{rows_closed_lem, closed}
use Rattle.matrix.proofs.PathFlows.{composed_beyond}
use Rattle.silence.specs.Silent.{sources_of, quiet_object, silent}

and_swap : (a b : Bool) → (a && b) ≡ (b && a)
and_swap true true = refl
and_swap true false = refl
and_swap false true = refl
and_swap false false = refl

carries_back : (reads writes : List ℕ) (a b : ℕ) → subject_carries writes reads b a ≡ subject_carries reads writes a b
unfolding subject_carries
carries_back [] [] a b = refl
carries_back [] (w ∷ writes) a b = refl
carries_back (r ∷ reads) [] a b = refl
carries_back (r ∷ reads) (w ∷ writes) a b = ap₂ (λ (x y : Bool). x || y) (and_swap (has w b) (has r a)) (carries_back reads writes a b)

granted_back : (reads writes : List ℕ) (a b : ℕ) → granted writes reads b a ≡ granted reads writes a b
unfolding granted
granted_back reads writes a b =
    ap₂ (λ (x y : Bool). x || y)
    (same_test (eqb b a) (eqb a b) (λ e. eq-eqb a b (sym (eqb-true b a e))) (λ e. eq-eqb b a (sym (eqb-true a b e))))
    (carries_back reads writes a b)

within_back : (f g : ℕ → ℕ → Bool) → ((a b : ℕ) → g b a ≡ f a b) → (k a b : ℕ) → within g k b a ≡ within f k a b
unfolding within
within_back f g e zero a b = e a b
within_back f g e (suc k) a b =
    ap₂ (λ (x y : Bool). x || y) (within_back f g e k a b)
    (ap₂ (λ (x y : Bool). x && y) (within_back f g e k k b) (within_back f g e k a k) ∙ and_swap (within f k k b) (within f k a k))

pub composed_back : (reads writes : List ℕ) (n a b : ℕ) → composed writes reads n b a ≡ composed reads writes n a b
unfolding composed
composed_back reads writes n a b = within_back (granted reads writes) (granted writes reads) (granted_back reads writes) n a b

module _ (reads writes : List ℕ) (n : ℕ) (good : matrix_good reads writes n ≡ true) where
  g : Good reads writes n
  g = good_parts reads writes n good

  pub exchanged_good : matrix_good writes reads n ≡ true
  exchanged_good =
      parts_good writes reads n g.even (omega (arith, g.even, g.some_subjects)) (omega (arith, g.even, g.subjects)) g.some g.few g.writes_good g.reads_good

-- an object by its sources, of what comes to the subjects
pub quiet_reached : (reads writes : List ℕ) (n : ℕ) (reach : List ℕ) → Closed writes reads n reach → (b tag : ℕ) → b < n → ((k : ℕ) → has tag k ≡ granted writes reach b k)
    → covers (permit_of reads writes b) tag ≡ quiet_object reads writes n b
unfolding quiet_object sources_of
quiet_reached reads writes n reach c b tag l e =
    ap (covers (permit_of reads writes b)) (has_ext tag (bits_of (λ a. composed reads writes n a b) n) (λ k. e k ∙ c.flows b k l ∙ at k (dec_lt k n)))
  where
    at : (k : ℕ) → Dec (k < n) → composed writes reads n b k ≡ has (bits_of (λ a. composed reads writes n a b) n) k
    at k (yes m) = composed_back reads writes n k b ∙ sym (bits_has (λ a. composed reads writes n a b) n k m)
    at k (no m) = composed_beyond writes reads n b k c.good l (omega arith) ∙ sym (bits_above (λ a. composed reads writes n a b) n k (omega arith))

-- a part that is the whole
whole : (reads writes : List ℕ) (n : ℕ) → matrix_good reads writes n ≡ true → (take (length reads) reads ≡ reads) × (take (length reads) writes ≡ writes)
whole reads writes n good = (take-length reads, take_all (length reads) writes (omega (arith, (good_parts reads writes n good).even)))

-- what comes to the subjects: what they read, or what the passes leave
pub read_closed : (reads writes : List ℕ) (n : ℕ) → matrix_good reads writes n ≡ true → rows_closed writes reads ≡ true → Closed writes reads n reads
read_closed reads writes n good c = rows_closed_lem writes reads n (exchanged_good reads writes n good) c

pub reach_closed : (reads writes reach : List ℕ) (n : ℕ) → matrix_good reads writes n ≡ true → length reads ≤ length reach
    → Reaching (take (length reads) writes) (take (length reads) reads) reach (length (take (length reads) writes)) → Closed writes reads n (take (length reads) reach)
reach_closed reads writes reach n good f r =
    let e : length writes ≡ length reads = (good_parts reads writes n good).even in
    let w = whole reads writes n good in
    let q : Reaching writes reads reach (length writes) = rw (w.0, w.1) at r in
    rw e at (closed writes reads reach n (exchanged_good reads writes n good) (omega arith) q)

pub whole_good_lem : (reads writes : List ℕ) (n : ℕ) → matrix_good reads writes n ≡ true → matrix_good (take (length reads) reads) (take (length reads) writes) n ≡ true
whole_good_lem reads writes n good = let w = whole reads writes n good in rw (w.0, w.1) good

pub whole_silent : (reads writes : List ℕ) (n : ℕ) → matrix_good reads writes n ≡ true → silent (take (length reads) reads) (take (length reads) writes) n ≡ silent reads writes n
whole_silent reads writes n good = let w = whole reads writes n good in ap₂ (λ (r s : List ℕ). silent r s n) w.0 w.1

-- what the passes over the exchanged rows ask for
pub whole_counts : (reads writes : List ℕ) (n : ℕ) → matrix_good reads writes n ≡ true
    → (length (take (length reads) reads) ≡ length (take (length reads) writes)) × (1 ≤ length (take (length reads) writes)) × (length (take (length reads) writes) ≤ subject_limit)
whole_counts reads writes n good =
    let w = whole reads writes n good in
    let g = good_parts reads writes n good in
    rw (w.0, w.1) (sym g.even, omega (arith, g.even, g.some_subjects), omega (arith, g.even, g.subjects))
