-- The search for a path in a table, and a table with one more path.
use Prim.Native.Nat.{ℕ, zero, suc, ◌+◌, ◌-◌, ◌≤◌, ◌<◌}
use native.Mathlib.Omega.{arith}
use native.Mathlib.Decide.{dec_lt}
use native.Mathlib.Numerals.{add-one}
use mathlib.Core.Path.{◌≡◌, refl, sym, ap, ap₂, ◌∙◌}
use mathlib.Core.Bool.{Bool, true, false, cond, ◌||◌}
use mathlib.Core.List.{List, [], ◌∷◌, ◌++◌}
use lib.ListN.{length, get_or, drop, set, length-drop, length-set}
use lib.Seq.{length-take-le, get_or-take, get_or-drop, ext_get_or, get_or-set_same, get_or-set_other}
use Rattle.lists.specs.Lists.{same_list, known, known_by, position, position_by}
use Rattle.lists.proofs.Bools.{clash, refuted}
use Rattle.lists.proofs.Same.{same_refl, same_eq}
use Rattle.rules.specs.Answers.{data_width}
use Rattle.confinement.specs.Tables.{path_at, PathTable}
use Rattle.confinement.specs.Scans.{paths_from, table_paths, PathSpans, Hinted}
use Rattle.confinement.proofs.PathsNamed.{Distinct}

-- ---- the bytes of two paths

module _ (t : List ℕ) (a size : ℕ) (h : a + size ≤ length t) where
  pub path_length : length (path_at t a size) ≡ size
  path_length = length-take-le size (drop a t) (omega (arith, length-drop a t))

  path_byte : (k : ℕ) → k < size → get_or (path_at t a size) k 0 ≡ get_or t (a + k) 0
  path_byte k l = get_or-take size (drop a t) k 0 l ∙ get_or-drop a t k 0

-- paths of different lengths differ
pub sizes_differ : (t : List ℕ) (a size b other : ℕ) → a + size ≤ length t → b + other ≤ length t → (size ≡ other → ⊥)
    → false ≡ same_list (path_at t a size) (path_at t b other)
sizes_differ t a size b other h k d =
    sym (refuted (same_list (path_at t a size) (path_at t b other))
    (λ s. d (sym (path_length t a size h) ∙ ap length (same_eq (path_at t a size) (path_at t b other) s) ∙ path_length t b other k)))

-- whether the first i bytes of two paths are the same
pub record SameHead (t : List ℕ) (a b size i : ℕ) (r : Bool) : Type 0 where
  pub room : i ≤ size
  pub first : a + size ≤ length t
  pub second : b + size ≤ length t
  pub agree : r ≡ true → (k : ℕ) → k < i → get_or t (a + k) 0 ≡ get_or t (b + k) 0
  pub differ : r ≡ false → false ≡ same_list (path_at t a size) (path_at t b size)

pub head_start : (t : List ℕ) (a b size : ℕ) → a + size ≤ length t → b + size ≤ length t → SameHead t a b size 0 true
head_start t a b size h k =
    record { room = omega arith; first = h; second = k; agree = λ _ k l. absurd (omega arith); differ = λ e. clash (refl {a = true}) e }

module _ (t : List ℕ) (a b size i : ℕ) (r : Bool) (g : SameHead t a b size i r) where
  pub head_same : i < size → get_or t (a + i) 0 ≡ get_or t (b + i) 0 → SameHead t a b size (i + 1) r
  head_same p e =
      record { room = omega arith; first = g.first; second = g.second; agree = λ h k l. by h k l (dec_lt k i); differ = g.differ }
    where
      by : r ≡ true → (k : ℕ) → k < i + 1 → Dec (k < i) → get_or t (a + k) 0 ≡ get_or t (b + k) 0
      by h k l (yes n) = g.agree h k n
      by h k l (no n) = let z : k ≡ i = omega arith in rw z e

  pub head_differs : i < size → (get_or t (a + i) 0 ≡ get_or t (b + i) 0 → ⊥) → SameHead t a b size (i + 1) false
  head_differs p d =
      record {
        room = omega arith;
        first = g.first;
        second = g.second;
        agree = λ h. clash h refl;
        differ = λ _.
            sym (refuted (same_list (path_at t a size) (path_at t b size))
            (λ s. d (sym (path_byte t a size g.first i p)
            ∙ ap (λ (x : List ℕ). get_or x i 0) (same_eq (path_at t a size) (path_at t b size) s)
            ∙ path_byte t b size g.second i p)));
      }

  pub head_end : size ≤ i → r ≡ same_list (path_at t a size) (path_at t b size)
  head_end z = by r refl
    where
      same : r ≡ true → path_at t a size ≡ path_at t b size
      same e =
          ext_get_or 0 (path_at t a size) (path_at t b size) (path_length t a size g.first ∙ sym (path_length t b size g.second))
          (λ k h. let l : k < size = omega (arith, path_length t a size g.first) in
          path_byte t a size g.first k l ∙ g.agree e k (omega arith) ∙ sym (path_byte t b size g.second k l))

      by : (c : Bool) → r ≡ c → c ≡ same_list (path_at t a size) (path_at t b size)
      by true e = sym (ap (same_list (path_at t a size)) (sym (same e)) ∙ same_refl (path_at t a size))
      by false e = g.differ e

-- ---- the paths of a table

module _ (t : List ℕ) where
  pub paths_length : (starts sizes : List ℕ) (j n : ℕ) → length (paths_from t starts sizes j n) ≡ n
  unfolding paths_from
  paths_length starts sizes j zero = refl
  paths_length starts sizes j (suc n) = ap suc (paths_length starts sizes (suc j) n)

  paths_at : (starts sizes : List ℕ) (j n k : ℕ) → k < n → get_or (paths_from t starts sizes j n) k [] ≡ path_at t (get_or starts (j + k) 0) (get_or sizes (j + k) 0)
  unfolding paths_from
  paths_at starts sizes j zero k h = absurd (omega arith)
  paths_at starts sizes j (suc n) zero h = let z : j ≡ j + 0 = omega arith in ap (λ (i : ℕ). path_at t (get_or starts i 0) (get_or sizes i 0)) z
  paths_at starts sizes j (suc n) (suc k) h =
      let z : suc j + k ≡ j + suc k = omega arith in
      paths_at starts sizes (suc j) n k (omega arith) ∙ ap (λ (i : ℕ). path_at t (get_or starts i 0) (get_or sizes i 0)) z

  paths_snoc : (starts sizes : List ℕ) (j n : ℕ)
      → paths_from t starts sizes j (suc n) ≡ paths_from t starts sizes j n ++ (path_at t (get_or starts (j + n) 0) (get_or sizes (j + n) 0) ∷ [])
  unfolding paths_from
  paths_snoc starts sizes j zero = let z : j ≡ j + 0 = omega arith in ap (λ (i : ℕ). path_at t (get_or starts i 0) (get_or sizes i 0) ∷ []) z
  paths_snoc starts sizes j (suc n) =
      let z : suc j + n ≡ j + suc n = omega arith in
      ap (λ (l : List (List ℕ)). path_at t (get_or starts j 0) (get_or sizes j 0) ∷ l)
      (paths_snoc starts sizes (suc j) n ∙ ap (λ (i : ℕ). paths_from t starts sizes (suc j) n ++ (path_at t (get_or starts i 0) (get_or sizes i 0) ∷ [])) z)

  table_at : (starts sizes : List ℕ) (n k : ℕ) → k < n → get_or (table_paths t starts sizes n) k [] ≡ path_at t (get_or starts k 0) (get_or sizes k 0)
  table_at starts sizes n k h =
      let z : 0 + k ≡ k = omega arith in
      paths_at starts sizes 0 n k h ∙ ap (λ (i : ℕ). path_at t (get_or starts i 0) (get_or sizes i 0)) z

  table_snoc : (starts sizes : List ℕ) (n : ℕ)
      → table_paths t starts sizes (suc n) ≡ table_paths t starts sizes n ++ (path_at t (get_or starts n 0) (get_or sizes n 0) ∷ [])
  table_snoc starts sizes n =
      let z : 0 + n ≡ n = omega arith in
      paths_snoc starts sizes 0 n ∙ ap (λ (i : ℕ). table_paths t starts sizes n ++ (path_at t (get_or starts i 0) (get_or sizes i 0) ∷ [])) z

  -- a place behind them may be written
  paths_set : (starts sizes : List ℕ) (i a b j n : ℕ) → j + n ≤ i → paths_from t (set starts i a) (set sizes i b) j n ≡ paths_from t starts sizes j n
  unfolding paths_from
  paths_set starts sizes i a b j zero h = refl
  paths_set starts sizes i a b j (suc n) h =
      ap₂ ◌∷◌
      (ap₂ (λ (x y : ℕ). path_at t x y) (get_or-set_other starts i j a 0 (λ e. omega arith)) (get_or-set_other sizes i j b 0 (λ e. omega arith)))
      (paths_set starts sizes i a b (suc j) n (omega arith))

  pub paths_more : (starts sizes : List ℕ) (n a b : ℕ) → n < length starts → n < length sizes
      → table_paths t (set starts n a) (set sizes n b) (n + 1) ≡ table_paths t starts sizes n ++ (path_at t a b ∷ [])
  paths_more starts sizes n a b h k =
      ap (table_paths t (set starts n a) (set sizes n b)) (add-one n)
      ∙ table_snoc (set starts n a) (set sizes n b) n
      ∙ ap₂ (λ (l : List (List ℕ)) (p : List ℕ). l ++ (p ∷ [])) (paths_set starts sizes n a b 0 n (omega arith))
      (ap₂ (λ (x y : ℕ). path_at t x y) (get_or-set_same starts n a 0 h) (get_or-set_same sizes n b 0 k))

  -- ---- tables

  module _ (ns : List (List ℕ)) (starts sizes : List ℕ) (n : ℕ) where
    pub places_table : PathSpans t starts sizes n → table_paths t starts sizes n ≡ ns → PathTable t ns starts sizes n
    places_table g e =
        record {
          count = sym (paths_length starts sizes 0 n) ∙ ap length e;
          few = g.few;
          starts_long = g.starts_long;
          sizes_long = g.sizes_long;
          paths = λ k l. sym (table_at starts sizes n k l) ∙ ap (λ (x : List (List ℕ)). get_or x k []) e;
          within = g.within;
        }

  -- no path stands twice
  pub places_distinct : (starts sizes : List ℕ) (n : ℕ) → PathSpans t starts sizes n → Distinct (table_paths t starts sizes n)
  places_distinct starts sizes n g =
      record {
        placed = λ k h.
            let l : k < n = omega (arith, paths_length starts sizes 0 n) in
            ap (λ (x : List ℕ). position x (table_paths t starts sizes n)) (table_at starts sizes n k l) ∙ g.once k l;
      }

  -- so a path that is the k-th has the number k
  pub places_number : (starts sizes : List ℕ) (n : ℕ) → PathSpans t starts sizes n → (q : List ℕ) (k : ℕ) → k < n
      → same_list q (path_at t (get_or starts k 0) (get_or sizes k 0)) ≡ true → k ≡ position q (table_paths t starts sizes n)
  places_number starts sizes n g q k l e =
      sym (ap (λ (x : List ℕ). position x (table_paths t starts sizes n)) (same_eq q (path_at t (get_or starts k 0) (get_or sizes k 0)) e) ∙ g.once k l)

  -- one more place
  pub places_more : (starts sizes : List ℕ) (n a b : ℕ) → PathSpans t starts sizes n → n < data_width → a + b ≤ length t
      → Distinct (table_paths t (set starts n a) (set sizes n b) (n + 1)) → PathSpans t (set starts n a) (set sizes n b) (n + 1)
  places_more starts sizes n a b g h k d =
      record {
        few = omega arith;
        starts_long = length-set starts n a ∙ g.starts_long;
        sizes_long = length-set sizes n b ∙ g.sizes_long;
        within = λ i l. by i l (dec_lt i n);
        once = λ i l.
            ap (λ (x : List ℕ). position x (table_paths t (set starts n a) (set sizes n b) (n + 1))) (sym (table_at (set starts n a) (set sizes n b) (n + 1) i l))
            ∙ d.placed i (omega (arith, paths_length (set starts n a) (set sizes n b) 0 (n + 1)));
      }
    where
      by : (i : ℕ) → i < n + 1 → Dec (i < n) → get_or (set starts n a) i 0 + get_or (set sizes n b) i 0 ≤ length t
      by i l (yes m) = omega (arith, get_or-set_other starts n i a 0 (λ e. omega arith), get_or-set_other sizes n i b 0 (λ e. omega arith), g.within i m)
      by i l (no m) =
          let z : i ≡ n = omega arith in
          rw z (omega (arith, get_or-set_same starts n a 0 (omega (arith, g.starts_long)), get_or-set_same sizes n b 0 (omega (arith, g.sizes_long))))

-- ---- the search

-- the path is not among the first j: its place is told by the others
pub record Searched (t : List ℕ) (q : List ℕ) (starts sizes : List ℕ) (n j : ℕ) : Type 0 where
  pub spans : PathSpans t starts sizes n
  pub room : j ≤ n
  pub rest : position q (paths_from t starts sizes j (n - j)) + j ≡ position q (table_paths t starts sizes n)

pub search_start : (t q starts sizes : List ℕ) (n : ℕ) → PathSpans t starts sizes n → Searched t q starts sizes n 0
search_start t q starts sizes n g =
    let z : n - 0 ≡ n = omega arith in
    record { spans = g; room = omega arith; rest = omega (arith, ap (λ (k : ℕ). position q (paths_from t starts sizes 0 k)) z) }

module _ (t q starts sizes : List ℕ) (n j : ℕ) (g : Searched t q starts sizes n j) where
  step : j < n
      → position q (paths_from t starts sizes j (n - j))
      ≡ cond (same_list q (path_at t (get_or starts j 0) (get_or sizes j 0))) 0 (suc (position q (paths_from t starts sizes (j + 1) (n - (j + 1)))))
  unfolding position_by paths_from
  step h =
      let e : n - j ≡ suc (n - (j + 1)) = omega arith in
      ap (λ (k : ℕ). position q (paths_from t starts sizes j k)) e
      ∙ ap (λ (k : ℕ). cond (same_list q (path_at t (get_or starts j 0) (get_or sizes j 0))) 0 (suc (position q (paths_from t starts sizes k (n - (j + 1))))))
      (sym (add-one j))

  module _ (h : j < n) (r : Bool) (e : r ≡ same_list q (path_at t (get_or starts j 0) (get_or sizes j 0))) where
    pub search_hit : r ≡ true → j ≡ position q (table_paths t starts sizes n)
    search_hit p = omega (arith, rw (sym e ∙ p) at (step h), g.rest)

    pub search_next : r ≡ false → Searched t q starts sizes n (j + 1)
    search_next p =
        record {
          spans = g.spans;
          room = omega arith;
          rest = omega (arith, rw (sym e ∙ p) at (step h), g.rest);
        }

  pub search_end : n ≤ j → n ≡ position q (table_paths t starts sizes n)
  unfolding position_by paths_from
  search_end h =
      let z : n - j ≡ 0 = omega (arith, g.room) in
      let w : position q (paths_from t starts sizes j (n - j)) ≡ 0 = ap (λ (k : ℕ). position q (paths_from t starts sizes j k)) z in
      omega (arith, g.room, g.rest)

-- a path that is not known has the number behind the last
position_none : (q : List ℕ) (ns : List (List ℕ)) → known q ns ≡ false → position q ns ≡ length ns
unfolding known_by position_by
position_none q [] h = refl
position_none q (x ∷ ns) h = by (same_list q x) h (position_none q ns)
  where
    by : (b : Bool) → (b || known q ns) ≡ false → (known q ns ≡ false → position q ns ≡ length ns) → cond b 0 (suc (position q ns)) ≡ suc (length ns)
    by true g ih = clash (refl {a = true}) g
    by false g ih = ap suc (ih g)

pub position_known : (q : List ℕ) (ns : List (List ℕ)) → (position q ns ≡ length ns → ⊥) → known q ns ≡ true
position_known q ns h = by (known q ns) refl
  where
    by : (b : Bool) → known q ns ≡ b → b ≡ true
    by true e = refl
    by false e = absurd (h (position_none q ns e))

-- and has it when it is added
pub position_last : (q : List ℕ) (ns : List (List ℕ)) → known q ns ≡ false → position q (ns ++ (q ∷ [])) ≡ length ns
unfolding known_by position_by
position_last q [] h = rw (same_refl q)
position_last q (x ∷ ns) h = by (same_list q x) h (position_last q ns)
  where
    by : (b : Bool) → (b || known q ns) ≡ false → (known q ns ≡ false → position q (ns ++ (q ∷ [])) ≡ length ns)
        → cond b 0 (suc (position q (ns ++ (q ∷ [])))) ≡ suc (length ns)
    by true g ih = clash (refl {a = true}) g
    by false g ih = ap suc (ih g)

-- ---- hints

pub no_hint : (t starts sizes : List ℕ) (n hint : ℕ) (q : List ℕ) → Hinted t starts sizes n hint q false
no_hint t starts sizes n hint q = record { right = λ e. clash e refl }

pub hinted : (t starts sizes : List ℕ) (n hint : ℕ) (q : List ℕ) (r : Bool) → PathSpans t starts sizes n → hint < n
    → r ≡ same_list q (path_at t (get_or starts hint 0) (get_or sizes hint 0)) → Hinted t starts sizes n hint q r
hinted t starts sizes n hint q r g l e = record { right = λ h. places_number t starts sizes n g q hint l (sym e ∙ h) }
