-- Records with rule numbers of their own, one behind the other, and the comparison of containers.
use Prim.Native.Nat.{ℕ, zero, suc, ◌+◌, ◌*◌, ◌/◌, ◌≤◌, ◌<◌}
use mathlib.Core.Path.{◌≡◌, refl, sym, ap, ap₂, ◌∙◌}
use mathlib.Core.Bool.{Bool, true, false, ◌&&◌}
use mathlib.Core.List.{List, [], ◌∷◌, map}
use native.Mathlib.Omega.{arith}
use native.Mathlib.Numerals.{add-one}
use lib.Dec.{eqb}
use lib.ListN.{length, get_or, drop, length-map, drop_of_length-le}
use lib.Seq.{drop-cons}
use borrow.Author.Tests.{eq-eqb, ne_eqb}
use Rattle.lists.specs.Lists.{joined}
use Rattle.lists.specs.Counting.{count_from}
use Rattle.lists.proofs.Counting.{count_length, count_at}
use Rattle.lists.proofs.Places.{map_at}
use Rattle.fields.specs.Bytes.{bytes_of, field}
use Rattle.fields.specs.Writing.{Wrote}
use Rattle.fields.proofs.ByteLaws.{joined_length, bytes_length}
use Rattle.fields.proofs.RowWriting.{RowsWritten, rows_start, rows_room, rows_next, rows_end}
use Rattle.image.specs.Limits.{container_size, user_size, size8, size16, container_kind_at, container_atom_at, container_limit, user_limit}
use Rattle.image.specs.Policy.{Container}
use Rattle.image.specs.Image.{containers_in}
use Rattle.image.specs.Normal.{container_bytes}
use Rattle.image.proofs.Encode.{container_wide}
use Rattle.image.proofs.RecordsByPlace.{containers_count}
use Rattle.composition.specs.Images.{same_containers}
use Rattle.composition.specs.Tables.{own_numbers}
use Rattle.composition.proofs.UseNumbers.{no_container, kind_at, atom_at}

-- ---- containers with rules of their own

pub own_count : (k : ℕ) (cs : List Container) → length (own_numbers k cs) ≡ length cs
unfolding own_numbers
own_count k [] = refl
own_count k (c ∷ cs) = ap suc (own_count (suc (suc k)) cs)

own_at : (k : ℕ) (cs : List Container) (i : ℕ) → i < length cs
    → get_or (own_numbers k cs) i no_container ≡ record { kind = (get_or cs i no_container).kind; atom = (get_or cs i no_container).atom; permit = k + 2 * i; run = k + (2 * i + 1) }
unfolding own_numbers
own_at k [] i l = absurd (omega arith)
own_at k (c ∷ cs) zero l =
    let e : k ≡ k + 2 * 0 = omega arith in
    let f : suc k ≡ k + (2 * 0 + 1) = omega arith in
    λ i. record { kind = c.kind; atom = c.atom; permit = e i; run = f i }
own_at k (c ∷ cs) (suc i) l =
    let e : suc (suc k) + 2 * i ≡ k + 2 * suc i = omega arith in
    let f : suc (suc k) + (2 * i + 1) ≡ k + (2 * suc i + 1) = omega arith in
    own_at (suc (suc k)) cs i (omega arith) ∙ ap₂ (λ (a b : ℕ). record { kind = (get_or cs i no_container).kind; atom = (get_or cs i no_container).atom; permit = a; run = b }) e f

abbrev pub own_rows : List ℕ → List (List ℕ)
own_rows s = map container_bytes (own_numbers 0 (containers_in s))

module _ (s : List ℕ) where
  rows_count : length (own_rows s) ≡ length s / container_size
  rows_count = length-map (own_numbers 0 (containers_in s)) container_bytes ∙ own_count 0 (containers_in s) ∙ containers_count s

  pub own_size : length (joined (own_rows s)) ≡ length s / container_size * container_size
  own_size =
      joined_length container_size container_bytes container_wide (own_numbers 0 (containers_in s)) ∙ ap (λ (n : ℕ). n * container_size) (own_count 0 (containers_in s) ∙ containers_count s)

  pub own_start : (out : List ℕ) → length s / container_size ≤ container_limit → container_limit * container_size ≤ length out → RowsWritten (own_rows s) out 0 out 0 0
  own_start out h l = rows_start (own_rows s) out 0 (omega (arith, own_size))

  module _ (i : ℕ) (l : i < length s / container_size) {kind atom : ℕ} (e : kind ≡ field s (i * container_size + container_kind_at) size8)
      (f : atom ≡ field s (i * container_size + container_atom_at) size8) where
    row_is : get_or (own_rows s) i [] ≡ container_bytes (record { kind = kind; atom = atom; permit = 2 * i; run = 2 * i + 1 })
    row_is =
        let z : 0 + 2 * i ≡ 2 * i = omega arith in
        let y : 0 + (2 * i + 1) ≡ 2 * i + 1 = omega arith in
        let k : (get_or (containers_in s) i no_container).kind ≡ kind = kind_at s i l ∙ sym e in
        let a : (get_or (containers_in s) i no_container).atom ≡ atom = atom_at s i l ∙ sym f in
        map_at container_bytes (own_numbers 0 (containers_in s)) i no_container [] (omega (arith, own_count 0 (containers_in s), containers_count s))
        ∙ ap container_bytes (own_at 0 (containers_in s) i (omega (arith, containers_count s)) ∙ (λ j. record { kind = k j; atom = a j; permit = z j; run = y j }))

    module _ {before out : List ℕ} {at : ℕ} (g : RowsWritten (own_rows s) before 0 out at i) where
      pub own_room : at + container_size ≤ length out
      own_room = omega (arith, rows_room g (omega (arith, rows_count)), ap length row_is, container_wide (record { kind = kind; atom = atom; permit = 2 * i; run = 2 * i + 1 }))

      pub own_next : {after : List ℕ} {next : ℕ}
          → Wrote (container_bytes (record { kind = kind; atom = atom; permit = 2 * i; run = 2 * i + 1 })) out after at next
          → RowsWritten (own_rows s) before 0 after next (i + 1)
      own_next w = rows_next g (omega (arith, rows_count)) (sym row_is) w

  pub own_end : {before out : List ℕ} {at i : ℕ} → RowsWritten (own_rows s) before 0 out at i → length s / container_size ≤ i → Wrote (joined (own_rows s)) before out 0 at
  own_end g l = rows_end g (omega (arith, rows_count))

-- ---- users with rules of their own

abbrev pub user_rows : ℕ → ℕ → List (List ℕ)
user_rows k n = map (bytes_of user_size) (count_from k n)

module _ (k n : ℕ) where
  user_rows_lem : length (user_rows k n) ≡ n
  user_rows_lem = length-map (count_from k n) (bytes_of user_size) ∙ count_length k n

  pub users_size : length (joined (user_rows k n)) ≡ n * user_size
  users_size = joined_length user_size (bytes_of user_size) (bytes_length user_size) (count_from k n) ∙ ap (λ (m : ℕ). m * user_size) (count_length k n)

  pub users_start : (out : List ℕ) → n ≤ user_limit → user_limit * user_size ≤ length out → RowsWritten (user_rows k n) out 0 out 0 0
  users_start out h l = rows_start (user_rows k n) out 0 (omega (arith, users_size))

  module _ {before out : List ℕ} {at i : ℕ} (g : RowsWritten (user_rows k n) before 0 out at i) (l : i < n) where
    row_at : get_or (user_rows k n) i [] ≡ bytes_of user_size (k + i)
    row_at = map_at (bytes_of user_size) (count_from k n) i 0 [] (omega (arith, count_length k n)) ∙ ap (bytes_of user_size) (count_at k n i l)

    pub users_room : at + size16 ≤ length out
    users_room = omega (arith, rows_room g (omega (arith, user_rows_lem)), ap length row_at, bytes_length user_size (k + i))

    pub users_next : {after : List ℕ} {next : ℕ} → Wrote (bytes_of size16 (k + i)) out after at next → RowsWritten (user_rows k n) before 0 after next (i + 1)
    users_next w = rows_next g (omega (arith, user_rows_lem)) (sym row_at) w

  pub users_end : {before out : List ℕ} {at i : ℕ} → RowsWritten (user_rows k n) before 0 out at i → n ≤ i → Wrote (joined (user_rows k n)) before out 0 at
  users_end g l = rows_end g (omega (arith, user_rows_lem))

-- ---- the containers of two sections

pub record Comparing (a b : List ℕ) (i : ℕ) : Type 0 where
  pub even : length a / container_size ≡ length b / container_size
  pub place : i ≤ length a / container_size
  pub rest : same_containers (drop i (containers_in a)) (drop i (containers_in b)) ≡ same_containers (containers_in a) (containers_in b)

pub comparing_start : (a b : List ℕ) → length b / container_size ≡ length a / container_size → Comparing a b 0
comparing_start a b e = record { even = sym e; place = omega arith; rest = refl }

counts_differ : (cs ds : List Container) → (length cs ≡ length ds → ⊥) → same_containers cs ds ≡ false
unfolding same_containers
counts_differ [] [] d = absurd (d refl)
counts_differ [] (y ∷ ds) d = refl
counts_differ (x ∷ cs) [] d = refl
counts_differ (x ∷ cs) (y ∷ ds) d = by (eqb x.kind y.kind) (eqb x.atom y.atom) (counts_differ cs ds (λ e. d (ap suc e)))
  where
    by : (p q : Bool) → same_containers cs ds ≡ false → (p && (q && same_containers cs ds)) ≡ false
    by true true h = h
    by true false h = refl
    by false q h = refl

pub comparing_other : (a b : List ℕ) → (length b / container_size ≡ length a / container_size → ⊥) → false ≡ same_containers (containers_in a) (containers_in b)
comparing_other a b d =
    sym (counts_differ (containers_in a) (containers_in b) (λ e. d (sym (sym (containers_count a) ∙ e ∙ containers_count b))))

module _ (a b : List ℕ) (i : ℕ) (h : Comparing a b i) (l : i < length a / container_size) where
  abbrev kind_of : List ℕ → ℕ
  kind_of s = field s (i * container_size + container_kind_at) size8

  abbrev atom_of : List ℕ → ℕ
  atom_of s = field s (i * container_size + container_atom_at) size8

  split : (eqb (kind_of a) (kind_of b) && (eqb (atom_of a) (atom_of b) && same_containers (drop (suc i) (containers_in a)) (drop (suc i) (containers_in b))))
      ≡ same_containers (containers_in a) (containers_in b)
  unfolding same_containers
  split =
      let m : i < length b / container_size = omega (arith, h.even) in
      ap₂ (λ (x y : Bool). x && (y && same_containers (drop (suc i) (containers_in a)) (drop (suc i) (containers_in b))))
      (ap₂ eqb (sym (kind_at a i l)) (sym (kind_at b i m))) (ap₂ eqb (sym (atom_at a i l)) (sym (atom_at b i m)))
      ∙ sym (ap₂ same_containers (drop-cons (containers_in a) i no_container (omega (arith, containers_count a))) (drop-cons (containers_in b) i no_container (omega (arith, containers_count b))))
      ∙ h.rest

  pub comparing_kind : (kind_of a ≡ kind_of b → ⊥) → false ≡ same_containers (containers_in a) (containers_in b)
  comparing_kind d = sym (sym split ∙ rw (ne_eqb (kind_of a) (kind_of b) d))

  pub comparing_atom : kind_of a ≡ kind_of b → (atom_of a ≡ atom_of b → ⊥) → false ≡ same_containers (containers_in a) (containers_in b)
  comparing_atom e d = sym (sym split ∙ rw (eq-eqb (kind_of a) (kind_of b) e, ne_eqb (atom_of a) (atom_of b) d))

  pub comparing_next : kind_of a ≡ kind_of b → atom_of a ≡ atom_of b → Comparing a b (i + 1)
  comparing_next e f =
      record {
        even = h.even;
        place = omega arith;
        rest =
            ap (λ (k : ℕ). same_containers (drop k (containers_in a)) (drop k (containers_in b))) (add-one i)
            ∙ sym (sym split ∙ rw (eq-eqb (kind_of a) (kind_of b) e, eq-eqb (atom_of a) (atom_of b) f));
      }

pub comparing_end : (a b : List ℕ) (i : ℕ) → Comparing a b i → length a / container_size ≤ i → true ≡ same_containers (containers_in a) (containers_in b)
unfolding same_containers
comparing_end a b i h l =
    sym (sym h.rest
    ∙ ap₂ same_containers (drop_of_length-le (containers_in a) {i = i} (omega (arith, containers_count a))) (drop_of_length-le (containers_in b) {i = i} (omega (arith, containers_count b, h.even))))
