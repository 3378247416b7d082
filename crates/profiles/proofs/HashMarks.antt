-- Marks of hashes: a mark stays when another is put, and where the mark of a path's hash is missing no note is of the path.
use Prim.Native.Nat.{ℕ, suc, ◌+◌, ◌/◌, ◌%◌, ◌^◌, ◌≤◌, ◌<◌}
use mathlib.Core.Path.{◌≡◌, refl, sym, ap, ◌∙◌, subst}
use mathlib.Core.Bool.{Bool, true, false}
use mathlib.Core.List.{List, [], ◌∷◌}
use native.Mathlib.Omega.{arith}
use native.Mathlib.Decide.{ℕ_discrete}
use lib.Bits.{bit_or, or_shr, or_step}
use lib.Dec.{eqb}
use lib.Pow.{shl-shr}
use lib.ListN.{length, get_or, take, drop, length-set}
use lib.Seq.{get_or-set_same, get_or-set_other}
use borrow.Author.Tests.{eqb-true, eq-eqb}
use Rattle.lists.specs.Lists.{every, same_list, position_by}
use Rattle.lists.proofs.Bools.{clash}
use Rattle.lists.proofs.Every.{every_0, every_1, every_nil, every_cons, every_imp, every_append}
use Rattle.profiles.specs.Texts.{text_limit}
use Rattle.profiles.specs.Notes.{path_hash, note_of, noted_path, note_good, PathAt, ToNote, noted_place, with_note}
use Rattle.profiles.specs.Marks.{mark_words, word_bits, mark_of, mark_word, has_mark, with_mark, Marked, Unnoted}
use Rattle.profiles.proofs.NoteLaws.{hash_differs, notes_are, note_hashed}

-- ---- a bit of a word

bit_stays : (w b k : ℕ) → w / 2 ^ k % 2 ≡ 1 → bit_or w b / 2 ^ k % 2 ≡ 1
bit_stays w b k h = omega (arith, or_shr w b k ∙ or_step (w / 2 ^ k) (b / 2 ^ k), h)

bit_put : (w k : ℕ) → bit_or w (2 ^ k) / 2 ^ k % 2 ≡ 1
bit_put w k =
    let o : 2 ^ k / 2 ^ k ≡ 1 = ap (λ (x : ℕ). x / 2 ^ k) (omega arith) ∙ shl-shr 1 k in
    omega (arith, or_shr w (2 ^ k) k ∙ or_step (w / 2 ^ k) (2 ^ k / 2 ^ k), o)

-- ---- marks

mark_place : (hash : ℕ) → mark_of hash / word_bits < mark_words
unfolding mark_of
mark_place hash = omega arith

pub mark_bit : (hash : ℕ) → mark_of hash % word_bits < word_bits
mark_bit hash = omega arith

module _ (marks : List ℕ) (hash : ℕ) (l : length marks ≡ mark_words) where
  pub marks_long : length (with_mark marks hash) ≡ mark_words
  unfolding with_mark
  marks_long = length-set marks (mark_of hash / word_bits) (bit_or (mark_word marks (mark_of hash)) (2 ^ (mark_of hash % word_bits))) ∙ l

  -- the word of the mark, and the others
  word_put : (m : ℕ) → m / word_bits ≡ mark_of hash / word_bits → mark_word (with_mark marks hash) m ≡ bit_or (mark_word marks m) (2 ^ (mark_of hash % word_bits))
  unfolding with_mark mark_word
  word_put m e = rw e (get_or-set_same marks (mark_of hash / word_bits) (bit_or (get_or marks (mark_of hash / word_bits) 0) (2 ^ (mark_of hash % word_bits))) 0 (omega (arith, mark_place hash)))

  word_other : (m : ℕ) → (m / word_bits ≡ mark_of hash / word_bits → ⊥) → mark_word (with_mark marks hash) m ≡ mark_word marks m
  unfolding with_mark mark_word
  word_other m d = get_or-set_other marks (mark_of hash / word_bits) (m / word_bits) (bit_or (get_or marks (mark_of hash / word_bits) 0) (2 ^ (mark_of hash % word_bits))) 0 d

  pub mark_put : has_mark (with_mark marks hash) hash ≡ true
  unfolding has_mark
  mark_put = eq-eqb _ 1 (ap (λ (w : ℕ). w / 2 ^ (mark_of hash % word_bits) % 2) (word_put (mark_of hash) refl) ∙ bit_put (mark_word marks (mark_of hash)) (mark_of hash % word_bits))

  pub mark_stays : (other : ℕ) → has_mark marks other ≡ true → has_mark (with_mark marks hash) other ≡ true
  unfolding has_mark
  mark_stays other h = by (ℕ_discrete (mark_of other / word_bits) (mark_of hash / word_bits))
    where
      m : ℕ
      m = mark_of other

      k : ℕ
      k = mark_of other % word_bits

      by : Dec (m / word_bits ≡ mark_of hash / word_bits) → has_mark (with_mark marks hash) other ≡ true
      by (yes e) = eq-eqb _ 1 (ap (λ (w : ℕ). w / 2 ^ k % 2) (word_put m e) ∙ bit_stays (mark_word marks m) (2 ^ (mark_of hash % word_bits)) k (eqb-true (mark_word marks m / 2 ^ k % 2) 1 h))
      by (no d) = ap (λ (w : ℕ). eqb (w / 2 ^ k % 2) 1) (word_other m d) ∙ h

-- ---- marks and notes

-- no note is of a path whose hash is not marked
pub unnoted : (t notes marks : List ℕ) (at n hash : ℕ) → PathAt t at n hash → every (note_good t) notes ≡ true
    → every (λ x. has_mark marks (x / text_limit)) notes ≡ true → has_mark marks hash ≡ false → Unnoted t notes (take n (drop at t))
unfolding position_by
unnoted t [] marks at n hash p g h d = refl
unnoted t (x ∷ xs) marks at n hash p g h d =
    let f : ℕ → Bool = λ x. has_mark marks (x / text_limit) in
    let e : same_list (take n (drop at t)) (noted_path t x) ≡ false
    = sym (hash_differs t x at n hash p (every_0 (note_good t) x xs g) (λ q. clash (ap (has_mark marks) (sym q) ∙ every_0 f x xs h) d)) in
    rw e (ap suc (unnoted t xs marks at n hash p (every_1 (note_good t) x xs g) (every_1 f x xs h) d))

-- one note more
module _ (t notes : List ℕ) (count at n : ℕ) (g : ToNote t notes count at n) (r : ℕ) (e : r ≡ noted_place t notes count at n) (l : count ≤ r)
    (after : List ℕ) (w : after ≡ with_note t notes count at n) where
  marked_after : (marks : List ℕ) → Marked notes marks count → Marked after (with_mark marks (path_hash (take n (drop at t)))) (count + 1)
  marked_after marks m =
      let p = take n (drop at t) in
      let f : ℕ → Bool = λ x. has_mark (with_mark marks (path_hash p)) (x / text_limit) in
      let new : f (note_of at p) ≡ true = ap (has_mark (with_mark marks (path_hash p))) (note_hashed at p g.place) ∙ mark_put marks (path_hash p) m.long in
      record {
        long = marks_long marks (path_hash p) m.long;
        hashes =
            ap (every f) (notes_are t notes count at n g r e l after w)
            ∙ every_append f (take count notes) (note_of at p ∷ [])
            (every_imp (λ x. has_mark marks (x / text_limit)) f (take count notes) (λ x. mark_stays marks (path_hash p) m.long (x / text_limit)) m.hashes)
            (every_cons f (note_of at p) [] new (every_nil f));
      }

  pub marked_more : (marks₀ marks : List ℕ) → Marked notes marks₀ count → marks ≡ with_mark marks₀ (path_hash (take n (drop at t))) → Marked after marks (count + 1)
  marked_more marks₀ marks m q = subst (λ (ms : List ℕ). Marked after ms (count + 1)) (sym q) (marked_after marks₀ m)
