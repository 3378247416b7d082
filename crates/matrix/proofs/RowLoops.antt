-- What each turn of the loops over rows does: start, one turn, end.
use Prim.Native.Nat.{ℕ, zero, suc, ◌+◌, ◌-◌, ◌*◌, ◌/◌, ◌%◌, ◌^◌, ◌≤◌, ◌<◌}
use mathlib.Core.Path.{◌≡◌, refl, sym, ap, ap₂, ◌∙◌}
use mathlib.Core.Bool.{Bool, true, false, ◌&&◌, ◌||◌}
use mathlib.Core.List.{List, ◌∷◌, ◌++◌}
use native.Mathlib.Decide.{ℕ_discrete, dec_lt}
use native.Mathlib.Numerals.{add-one}
use native.Mathlib.Nat.{one-mul, mod-eq_of_lt}
use native.Mathlib.Omega.{arith}
use lib.Bits.{bit_or, or_lt}
use lib.Dec.{ltb}
use lib.Pow.{pow-lt}
use lib.ListN.{length, get_or, drop, set, length-set, length-append, length-drop, get_or-append, drop_of_length-le}
use lib.Seq.{drop-cons, get_or-append-add, get_or-drop, get_or-set_same, get_or-set_other, ext_get_or}
use borrow.Author.Tests.{lt-ltb, ltb-true}
use Rattle.lists.specs.Lists.{every}
use Rattle.lists.proofs.Bools.{and_0, and_1, or_none, or_assoc, refuted}
use Rattle.rules.proofs.SetLaws.{atom_or, atoms_holds, holds_le}
use Rattle.matrix.specs.Flows.{has, subject_carries, granted, rows_within}
use Rattle.matrix.specs.Rows.{bit_at, bits_of, rows_of, spelling, joined_through}
use Rattle.matrix.specs.Limits.{object_limit}
use Rattle.matrix.proofs.RowBits.{has_is, has_not, has_or, one_bit, has_single, bits_has, bits_above, bits_is, bits_same}

-- ---- a row of the granted flows: the subjects before s are done

pub record Granting (reads writes : List ℕ) (a row s : ℕ) : Type 0 where
  pub even : length writes ≡ length reads
  pub bits : (b : ℕ) → (has row b || subject_carries (drop s reads) (drop s writes) a b) ≡ granted reads writes a b

pub granting_start : (reads writes : List ℕ) (a : ℕ) → length writes ≡ length reads → a < 32 → Granting reads writes a (1 * 2 ^ a % 2 ^ 32) 0
unfolding granted
granting_start reads writes a e h =
    record {
      even = e;
      bits = λ b. ap (λ (x : Bool). x || subject_carries reads writes a b) (ap (λ (x : ℕ). has x b) (one_bit a h) ∙ has_single a b);
    }

carries_next : (reads writes : List ℕ) (a b s : ℕ) → s < length reads → s < length writes
    → subject_carries (drop s reads) (drop s writes) a b
    ≡ (has (get_or reads s 0) a && has (get_or writes s 0) b || subject_carries (drop (s + 1) reads) (drop (s + 1) writes) a b)
unfolding subject_carries
carries_next reads writes a b s p q = rw (drop-cons reads s 0 p, drop-cons writes s 0 q, add-one)

pub granting_take : (reads writes : List ℕ) (a row s : ℕ) → Granting reads writes a row s → s < length reads
    → get_or reads s 0 / 2 ^ a % 2 ≡ 1 → Granting reads writes a (bit_or row (get_or writes s 0)) (s + 1)
granting_take reads writes a row s g h t =
    record {
      even = g.even;
      bits = λ b. one b ∙ g.bits b;
    }
  where
    one : (b : ℕ) → (has (bit_or row (get_or writes s 0)) b || subject_carries (drop (s + 1) reads) (drop (s + 1) writes) a b)
        ≡ (has row b || subject_carries (drop s reads) (drop s writes) a b)
    one b =
        let n = carries_next reads writes a b s h (omega (arith, g.even)) in
        rw (has_or row (get_or writes s 0) b, n, has_is (get_or reads s 0) a t) (or_assoc (has row b) (has (get_or writes s 0) b) (subject_carries (drop (s + 1) reads) (drop (s + 1) writes) a b))

pub granting_skip : (reads writes : List ℕ) (a row s : ℕ) → Granting reads writes a row s → s < length reads
    → (get_or reads s 0 / 2 ^ a % 2 ≡ 1 → ⊥) → Granting reads writes a row (s + 1)
granting_skip reads writes a row s g h t =
    record {
      even = g.even;
      bits = λ b. one b ∙ g.bits b;
    }
  where
    one : (b : ℕ) → (has row b || subject_carries (drop (s + 1) reads) (drop (s + 1) writes) a b)
        ≡ (has row b || subject_carries (drop s reads) (drop s writes) a b)
    one b =
        let n = carries_next reads writes a b s h (omega (arith, g.even)) in
        rw (n, has_not (get_or reads s 0) a t)

pub granting_end : (reads writes : List ℕ) (a row s : ℕ) → Granting reads writes a row s → length reads ≤ s → (b : ℕ) → has row b ≡ granted reads writes a b
unfolding subject_carries
granting_end reads writes a row s g h b = sym (or_none (has row b)) ∙ (rw (drop_of_length-le reads h) at (g.bits b))

-- ---- rows that are stored one after the other: the first a are as P says, the rest is as it was

pub record Stored (P : ℕ → ℕ → Type 0) (n : ℕ) (before rows : List ℕ) (a : ℕ) : Type 0 where
  pub place : a ≤ n
  pub fit : n ≤ length before
  pub long : length rows ≡ length before
  pub done : (i : ℕ) → i < a → P i (get_or rows i 0)
  pub rest : (i : ℕ) → a ≤ i → get_or rows i 0 ≡ get_or before i 0

pub stored_next : (P : ℕ → ℕ → Type 0) (n : ℕ) (before rows : List ℕ) (a v : ℕ) → Stored P n before rows a → a < n → P a v → Stored P n before (set rows a v) (a + 1)
stored_next P n before rows a v s h p =
    record {
      place = omega arith;
      fit = s.fit;
      long = length-set rows a v ∙ s.long;
      done = λ i l. by i l (ℕ_discrete i a);
      rest = λ i l. get_or-set_other rows a i v 0 (λ e. omega arith) ∙ s.rest i (omega arith);
    }
  where
    by : (i : ℕ) → i < a + 1 → Dec (i ≡ a) → P i (get_or (set rows a v) i 0)
    by i l (yes e) = rw (e, get_or-set_same rows a v 0 (omega (arith, s.long, s.fit))) p
    by i l (no d) = rw (get_or-set_other rows a i v 0 d) (s.done i (omega arith))

-- ---- a table whose first n rows spell a relation

rows_length : (f : ℕ → ℕ → Bool) (n : ℕ) → length (rows_of f n) ≡ n
unfolding rows_of
rows_length f zero = refl
rows_length f (suc n) = ap suc (rows_length (λ a. f (suc a)) n)

rows_at : (f : ℕ → ℕ → Bool) (n a : ℕ) → a < n → get_or (rows_of f n) a 0 ≡ bits_of (f a) object_limit
unfolding rows_of
rows_at f zero a l = absurd (omega arith)
rows_at f (suc n) zero l = refl
rows_at f (suc n) (suc a) l = rows_at (λ a. f (suc a)) n a (omega arith)

module _ (f : ℕ → ℕ → Bool) (n : ℕ) (rows : List ℕ) where
  spelling_length : n ≤ length rows → length (spelling f n rows) ≡ length rows
  unfolding spelling
  spelling_length h = omega (arith, length-append (rows_of f n) (drop n rows), rows_length f n, length-drop n rows)

  pub spelling_fits : (after : List ℕ) → after ≡ spelling f n rows → n ≤ length rows → n ≤ length after
  spelling_fits after e h = omega (arith, ap length e, spelling_length h)

  spelling_row : (a : ℕ) → a < n → get_or (spelling f n rows) a 0 ≡ bits_of (f a) object_limit
  unfolding spelling
  spelling_row a l = get_or-append (rows_of f n) (drop n rows) 0 a (omega (arith, rows_length f n)) ∙ rows_at f n a l

  spelling_behind : (a : ℕ) → n ≤ a → get_or (spelling f n rows) a 0 ≡ get_or rows a 0
  unfolding spelling
  spelling_behind a l =
      let e : a ≡ length (rows_of f n) + (a - n) = omega (arith, rows_length f n) in
      let m : n + (a - n) ≡ a = omega arith in
      ap (λ (k : ℕ). get_or (rows_of f n ++ drop n rows) k 0) e ∙ get_or-append-add (rows_of f n) (drop n rows) (a - n) 0 ∙ get_or-drop n rows (a - n) 0 ∙ ap (λ (k : ℕ). get_or rows k 0) m

  pub spelling_bits : (a b : ℕ) → a < n → b < object_limit → bit_at (spelling f n rows) a b ≡ f a b
  unfolding bit_at
  spelling_bits a b l h = ap (λ (x : ℕ). has x b) (spelling_row a l) ∙ bits_has (f a) object_limit b h

  pub spelling_above : (a b : ℕ) → a < n → object_limit ≤ b → bit_at (spelling f n rows) a b ≡ false
  unfolding bit_at
  spelling_above a b l h = ap (λ (x : ℕ). has x b) (spelling_row a l) ∙ bits_above (f a) object_limit b h

  pub spelling_is : (after : List ℕ) → n ≤ length rows → length after ≡ length rows → ((a : ℕ) → a < n → get_or after a 0 ≡ bits_of (f a) object_limit)
      → ((a : ℕ) → n ≤ a → get_or after a 0 ≡ get_or rows a 0)
      → after ≡ spelling f n rows
  spelling_is after h l e r = ext_get_or 0 after (spelling f n rows) (l ∙ sym (spelling_length h)) (λ a m. by a (dec_lt a n))
    where
      by : (a : ℕ) → Dec (a < n) → get_or after a 0 ≡ get_or (spelling f n rows) a 0
      by a (yes p) = e a p ∙ sym (spelling_row a p)
      by a (no p) = r a (omega arith) ∙ sym (spelling_behind a (omega arith))

rows_same : (f g : ℕ → ℕ → Bool) (n : ℕ) → ((a b : ℕ) → a < n → b < object_limit → f a b ≡ g a b) → rows_of f n ≡ rows_of g n
unfolding rows_of
rows_same f g zero e = refl
rows_same f g (suc n) e =
    ap₂ (λ (x : ℕ) (l : List ℕ). x ∷ l) (bits_same (f 0) (g 0) object_limit (λ b l. e 0 b (omega arith) l)) (rows_same (λ a. f (suc a)) (λ a. g (suc a)) n (λ a b l m. e (suc a) b (omega arith) m))

pub spelling_same : (f g : ℕ → ℕ → Bool) (n : ℕ) (rows : List ℕ) → ((a b : ℕ) → a < n → b < object_limit → f a b ≡ g a b) → spelling f n rows ≡ spelling g n rows
unfolding spelling
spelling_same f g n rows e = ap (λ (x : List ℕ). x ++ drop n rows) (rows_same f g n e)

-- ---- rows without a bit beyond the objects, what is read and what is written at once

pub record Checking (objects : ℕ) (reads writes : List ℕ) (s : ℕ) : Type 0 where
  pub even : length writes ≡ length reads
  pub rest : (rows_within objects (drop s reads) && rows_within objects (drop s writes)) ≡ (rows_within objects reads && rows_within objects writes)

pub checking_start : (objects : ℕ) (reads writes : List ℕ) → length writes ≡ length reads → Checking objects reads writes 0
checking_start objects reads writes e = record { even = e; rest = refl }

rows_next : (objects : ℕ) (rows : List ℕ) (s : ℕ) → s < length rows → rows_within objects (drop s rows) ≡ (ltb (get_or rows s 0) (2 ^ objects) && rows_within objects (drop (s + 1) rows))
unfolding rows_within every
rows_next objects rows s h = rw (drop-cons rows s 0 h, add-one)

bound_is : (objects : ℕ) → objects ≤ 32 → 1 * 2 ^ objects % 2 ^ 64 ≡ 2 ^ objects
bound_is objects h = let l : objects < 64 = omega arith in ap (λ (x : ℕ). x % 2 ^ 64) (one-mul (2 ^ objects)) ∙ mod-eq_of_lt (pow-lt l)

-- a row is below what two make together
or_left : (a b : ℕ) → a ≤ bit_or a b
or_left a b = holds_le (bit_or a b) a (atoms_holds (bit_or a b) a (λ k. omega (arith, atom_or a b k)))

or_right : (a b : ℕ) → b ≤ bit_or a b
or_right a b = holds_le (bit_or a b) b (atoms_holds (bit_or a b) b (λ k. omega (arith, atom_or a b k)))

module _ (objects : ℕ) (reads writes : List ℕ) (s : ℕ) (o : objects ≤ 32) (c : Checking objects reads writes s) (h : s < length reads) where
  turn : (rows_within objects (drop s reads) && rows_within objects (drop s writes))
      ≡ ((ltb (get_or reads s 0) (2 ^ objects) && rows_within objects (drop (s + 1) reads)) && (ltb (get_or writes s 0) (2 ^ objects) && rows_within objects (drop (s + 1) writes)))
  turn = ap₂ (λ (x y : Bool). x && y) (rows_next objects reads s h) (rows_next objects writes s (omega (arith, c.even)))

  pub checking_next : bit_or (get_or reads s 0) (get_or writes s 0) < 1 * 2 ^ objects % 2 ^ 64 → Checking objects reads writes (s + 1)
  checking_next t =
      let l : bit_or (get_or reads s 0) (get_or writes s 0) < 2 ^ objects = rw (bound_is objects o) at t in
      let p = lt-ltb (get_or reads s 0) (2 ^ objects) (omega (arith, or_left (get_or reads s 0) (get_or writes s 0))) in
      let q = lt-ltb (get_or writes s 0) (2 ^ objects) (omega (arith, or_right (get_or reads s 0) (get_or writes s 0))) in
      record { even = c.even; rest = sym (rw (p, q) at turn) ∙ c.rest }

  pub checking_bad : 1 * 2 ^ objects % 2 ^ 64 ≤ bit_or (get_or reads s 0) (get_or writes s 0) → false ≡ (rows_within objects reads && rows_within objects writes)
  checking_bad t = sym (refuted (rows_within objects reads && rows_within objects writes) (λ e. on (sym turn ∙ c.rest ∙ e)))
    where
      on : ((ltb (get_or reads s 0) (2 ^ objects) && rows_within objects (drop (s + 1) reads)) && (ltb (get_or writes s 0) (2 ^ objects) && rows_within objects (drop (s + 1) writes))) ≡ true → ⊥
      on e =
          let l : 2 ^ objects ≤ bit_or (get_or reads s 0) (get_or writes s 0) = rw (bound_is objects o) at t in
          let x = and_0 (ltb (get_or reads s 0) (2 ^ objects) && rows_within objects (drop (s + 1) reads)) _ e in
          let y = and_1 (ltb (get_or reads s 0) (2 ^ objects) && rows_within objects (drop (s + 1) reads)) e in
          let p = ltb-true (get_or reads s 0) (2 ^ objects) (and_0 (ltb (get_or reads s 0) (2 ^ objects)) _ x) in
          let q = ltb-true (get_or writes s 0) (2 ^ objects) (and_0 (ltb (get_or writes s 0) (2 ^ objects)) _ y) in
          omega (arith, l, or_lt objects (get_or reads s 0) (get_or writes s 0) p q)

pub checking_end : (objects : ℕ) (reads writes : List ℕ) (s : ℕ) → Checking objects reads writes s → length reads ≤ s → true ≡ (rows_within objects reads && rows_within objects writes)
unfolding rows_within every
checking_end objects reads writes s c h = rw (drop_of_length-le reads h, drop_of_length-le writes {i = s} (omega (arith, c.even))) at c.rest

-- ---- row i of the granted flows, stored

abbrev pub GrantedAt : List ℕ → List ℕ → ℕ → ℕ → Type 0
GrantedAt reads writes i x = x ≡ bits_of (granted reads writes i) object_limit

pub granted_is : (reads writes : List ℕ) (i x : ℕ) → x < 2 ^ 32 → ((b : ℕ) → has x b ≡ granted reads writes i b) → GrantedAt reads writes i x
granted_is reads writes i x h e = bits_is x object_limit (granted reads writes i) h (λ b l. e b)

pub granted_end : (reads writes : List ℕ) (n : ℕ) (before rows : List ℕ) (a : ℕ) → Stored (GrantedAt reads writes) n before rows a → n ≤ a → rows ≡ spelling (granted reads writes) n before
granted_end reads writes n before rows a s h =
    let e : a ≡ n = omega (arith, s.place) in
    spelling_is (granted reads writes) n before rows s.fit s.long (λ i l. s.done i (omega arith)) (λ i l. s.rest i (omega arith))

-- ---- row i of a pass, stored

abbrev pub JoinedAt : ℕ → ℕ → List ℕ → ℕ → ℕ → Type 0
JoinedAt read other before i x = x ≡ joined_through read other (get_or before i 0)
