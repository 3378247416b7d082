-- The tests and positions as code makes them, and what a move and a withdrawal leave as it was.
use mathlib.Core.Path.{◌≡◌, refl, sym, ap, subst, ◌∙◌}
use mathlib.Core.Bool.{Bool, true, false, not, cond, ◌&&◌, ◌||◌}
use mathlib.Core.Logic.{◌⊎◌, inl, inr}
use Prim.Native.Nat.{ℕ, ◌*◌, ◌%◌, ◌/◌, ◌^◌, ◌-◌, ◌<◌, ◌≤◌}
use native.Mathlib.Decide.{dec_lt}
use native.Mathlib.Omega.{arith}
use lib.Bits.{bit_and, bit_or, or_lt}
use lib.Pow.{pow-lt}
use lib.Dec.{eqb, ltb}
use borrow.Author.Tests.{lt-ltb, le-ltb, not-false}
use Rattle.lists.proofs.Bools.{decide, and_0, and_1, or_none}
use Rattle.rules.specs.Sets.{atom}
use Rattle.matrix.specs.Flows.{has}
use Rattle.matrix.proofs.RowBits.{one_bit, has_or, has_single, has_without, absorbed}
use Rattle.game.specs.declared.Position.{Position}
use Rattle.game.specs.Limits.{side_limit, read_count, right_count}
use Rattle.game.specs.Positions.{legal, moved, withdrawn, reached, subject_of, object_of, with_subject, with_object}
use Rattle.game.specs.Search.{adds, Searched}

-- ---- the tests of a position

module _ (p : Position) (k : ℕ) where
  pub legal_right : k < right_count → eqb (p.rights / 2 ^ k % 2) 1 ≡ legal p k
  unfolding legal has atom
  legal_right l = rw (lt-ltb k right_count l)

  pub legal_pass : right_count ≤ k → true ≡ legal p k
  unfolding legal
  legal_pass l = rw (le-ltb k right_count l)

  pub legal_is : k < right_count → legal p k ≡ has p.rights k
  unfolding legal
  legal_is l = rw (lt-ltb k right_count l)

  pub right_off : k < right_count
      → record { rights = bit_and p.rights (4294967295 - 1 * 2 ^ k % 4294967296); subjects = p.subjects; objects = p.objects } ≡ withdrawn p k
  unfolding withdrawn
  right_off l = let s : k < 32 = omega arith in rw (one_bit k s)

-- ---- what a withdrawal leaves

-- the right is gone, and no other
pub withdrawn_right : (p : Position) (k j : ℕ) → p.rights < 2 ^ 32 → k < right_count → has (withdrawn p k).rights j ≡ (has p.rights j && not (eqb k j))
unfolding withdrawn
withdrawn_right p k j h l =
    let m : k < 32 = omega arith in
    has_without 32 p.rights (2 ^ k) j h (pow-lt m)
    ∙ ap (λ (x : Bool). has p.rights j && not x) (has_single k j)

-- ---- what a move leaves

-- by its kind, and by whether the one that hands on the information holds it
module _ (p : Position) (k : ℕ) where
  pub read_hands : k < read_count → has p.objects (object_of k) ≡ true → moved p k ≡ with_subject p (subject_of k)
  unfolding moved
  read_hands l h = rw (lt-ltb k read_count l, h)

  pub read_keeps : k < read_count → has p.objects (object_of k) ≡ false → moved p k ≡ p
  unfolding moved
  read_keeps l h = rw (lt-ltb k read_count l, h)

  pub append_hands : read_count ≤ k → k < right_count → has p.subjects (subject_of k) ≡ true → moved p k ≡ with_object p (object_of k)
  unfolding moved
  append_hands l m h = rw (le-ltb k read_count l, lt-ltb k right_count m, h)

  pub append_keeps : read_count ≤ k → k < right_count → has p.subjects (subject_of k) ≡ false → moved p k ≡ p
  unfolding moved
  append_keeps l m h = rw (le-ltb k read_count l, lt-ltb k right_count m, h)

  pub pass_keeps : right_count ≤ k → moved p k ≡ p
  unfolding moved
  pass_keeps l = let m : read_count ≤ k = omega arith in rw (le-ltb k read_count m, le-ltb k right_count l)

-- a holder more
with_subject_lem : (p : Position) (s t : ℕ) → has (with_subject p s).subjects t ≡ (has p.subjects t || eqb s t)
unfolding with_subject
with_subject_lem p s t = has_or p.subjects (2 ^ s) t ∙ ap (λ (x : Bool). has p.subjects t || x) (has_single s t)

with_object_lem : (p : Position) (o t : ℕ) → has (with_object p o).objects t ≡ (has p.objects t || eqb o t)
unfolding with_object
with_object_lem p o t = has_or p.objects (2 ^ o) t ∙ ap (λ (x : Bool). has p.objects t || x) (has_single o t)

-- a property that a move keeps: it holds of the position as it was, and with the new holder
pub moved_has : (P : Position → Type 0) (p : Position) (k : ℕ) → P p
    → (k < read_count → has p.objects (object_of k) ≡ true → P (with_subject p (subject_of k)))
    → (read_count ≤ k → k < right_count → has p.subjects (subject_of k) ≡ true → P (with_object p (object_of k)))
    → P (moved p k)
moved_has P p k h r w = by (dec_lt k read_count) (dec_lt k right_count)
  where
    reads : k < read_count → (has p.objects (object_of k) ≡ true) ⊎ (has p.objects (object_of k) ≡ false) → P (moved p k)
    reads l (inl e) = subst P (sym (read_hands p k l e)) (r l e)
    reads l (inr e) = subst P (sym (read_keeps p k l e)) h

    appends : read_count ≤ k → k < right_count → (has p.subjects (subject_of k) ≡ true) ⊎ (has p.subjects (subject_of k) ≡ false) → P (moved p k)
    appends l m (inl e) = subst P (sym (append_hands p k l m e)) (w l m e)
    appends l m (inr e) = subst P (sym (append_keeps p k l m e)) h

    by : Dec (k < read_count) → Dec (k < right_count) → P (moved p k)
    by (yes l) d = reads l (decide (has p.objects (object_of k)))
    by (no l) (yes m) = let n : read_count ≤ k = omega arith in appends n m (decide (has p.subjects (subject_of k)))
    by (no l) (no m) = let n : right_count ≤ k = omega arith in subst P (sym (pass_keeps p k n)) h

pub moved_rights : (p : Position) (k : ℕ) → (moved p k).rights ≡ p.rights
unfolding with_subject with_object
moved_rights p k = moved_has (λ q. q.rights ≡ p.rights) p k refl (λ l e. refl) (λ l m e. refl)

-- who holds the information after a read, and after an append
module _ (p : Position) (k : ℕ) where
  pub read_holders : k < read_count → (s : ℕ)
      → has (moved p k).subjects s ≡ (has p.subjects s || (has p.objects (object_of k) && eqb (subject_of k) s))
  read_holders l s = by (decide (has p.objects (object_of k)))
    where
      by : (has p.objects (object_of k) ≡ true) ⊎ (has p.objects (object_of k) ≡ false)
          → has (moved p k).subjects s ≡ (has p.subjects s || (has p.objects (object_of k) && eqb (subject_of k) s))
      by (inl e) = rw (read_hands p k l e, e) (with_subject_lem p (subject_of k) s)
      by (inr e) = rw (read_keeps p k l e, e) (sym (or_none (has p.subjects s)))

  pub read_objects : k < read_count → (moved p k).objects ≡ p.objects
  unfolding with_subject
  read_objects l = moved_has (λ q. q.objects ≡ p.objects) p k refl (λ m e. refl) (λ m n e. absurd (omega arith))

  pub append_holders : read_count ≤ k → k < right_count → (o : ℕ)
      → has (moved p k).objects o ≡ (has p.objects o || (has p.subjects (subject_of k) && eqb (object_of k) o))
  append_holders l m o = by (decide (has p.subjects (subject_of k)))
    where
      by : (has p.subjects (subject_of k) ≡ true) ⊎ (has p.subjects (subject_of k) ≡ false)
          → has (moved p k).objects o ≡ (has p.objects o || (has p.subjects (subject_of k) && eqb (object_of k) o))
      by (inl e) = rw (append_hands p k l m e, e) (with_object_lem p (object_of k) o)
      by (inr e) = rw (append_keeps p k l m e, e) (sym (or_none (has p.objects o)))

  pub append_subjects : read_count ≤ k → (moved p k).subjects ≡ p.subjects
  unfolding with_object
  append_subjects l = moved_has (λ q. q.subjects ≡ p.subjects) p k refl (λ m e. absurd (omega arith)) (λ m n e. refl)

-- ---- moves that add a holder

module _ (p : Position) (k : ℕ) where
  pub adds_right : adds p k ≡ true → has p.rights k ≡ true
  unfolding adds
  adds_right h =
      and_0 (has p.rights k)
      (cond (ltb k read_count) (has p.objects (object_of k) && not (has p.subjects (subject_of k)))
      (has p.subjects (subject_of k) && not (has p.objects (object_of k)))) h

  pub adds_legal : k < right_count → adds p k ≡ true → legal p k ≡ true
  adds_legal l h = legal_is p k l ∙ adds_right h

  pub read_moves : k < read_count → adds p k ≡ true → moved p k ≡ with_subject p (subject_of k)
  unfolding adds
  read_moves l h =
      let z : (has p.objects (object_of k) && not (has p.subjects (subject_of k))) ≡ true = rw (lt-ltb k read_count l) at (and_1 (has p.rights k) h) in
      read_hands p k l (and_0 (has p.objects (object_of k)) (not (has p.subjects (subject_of k))) z)

  pub append_moves : read_count ≤ k → k < right_count → adds p k ≡ true → moved p k ≡ with_object p (object_of k)
  unfolding adds
  append_moves l m h =
      let z : (has p.subjects (subject_of k) && not (has p.objects (object_of k))) ≡ true = rw (le-ltb k read_count l) at (and_1 (has p.rights k) h) in
      append_hands p k l m (and_0 (has p.subjects (subject_of k)) (not (has p.objects (object_of k))) z)

  -- the same as code makes it
  pub read_made : k < read_count → adds p k ≡ true
      → record { rights = p.rights; subjects = bit_or p.subjects (1 * 2 ^ (k / 3) % 4294967296); objects = p.objects } ≡ moved p k
  unfolding with_subject subject_of
  read_made l h =
      let e : k / 3 ≡ k % 9 / 3 = omega arith in
      let s : k % 9 / 3 < 32 = omega arith in
      rw (read_moves l h, e, one_bit (k % 9 / 3) s)

  pub append_made : read_count ≤ k → k < right_count → adds p k ≡ true
      → record { rights = p.rights; subjects = p.subjects; objects = bit_or p.objects (1 * 2 ^ (k % 3) % 4294967296) } ≡ moved p k
  unfolding with_object object_of
  append_made l m h = let s : k % 3 < 32 = omega arith in rw (append_moves l m h, one_bit (k % 3) s)

-- ---- a move that adds none leaves the position as it is

-- what is not so with one is without it
given_one : (a b : Bool) → a ≡ true → (a && not b) ≡ false → b ≡ true
given_one a b h e = not-false b (sym (ap (λ (x : Bool). x && not b) h) ∙ e)

subject_idle : (p : Position) (s : ℕ) → has p.subjects s ≡ true → with_subject p s ≡ p
unfolding with_subject
subject_idle p s h = rw (absorbed p.subjects s h)

object_idle : (p : Position) (o : ℕ) → has p.objects o ≡ true → with_object p o ≡ p
unfolding with_object
object_idle p o h = rw (absorbed p.objects o h)

pub idle_stays : (p : Position) (k : ℕ) → legal p k ≡ true → (k < right_count → adds p k ≡ false) → moved p k ≡ p
unfolding adds
idle_stays p k h e = moved_has (λ q. q ≡ p) p k refl reading appending
  where
    right : k < right_count → has p.rights k ≡ true
    right l = sym (legal_is p k l) ∙ h

    reading : k < read_count → has p.objects (object_of k) ≡ true → with_subject p (subject_of k) ≡ p
    reading l o =
        let m : k < right_count = omega arith in
        let y : (has p.objects (object_of k) && not (has p.subjects (subject_of k))) ≡ false = rw (right m, lt-ltb k read_count l) at (e m) in
        subject_idle p (subject_of k) (given_one (has p.objects (object_of k)) (has p.subjects (subject_of k)) o y)

    appending : read_count ≤ k → k < right_count → has p.subjects (subject_of k) ≡ true → with_object p (object_of k) ≡ p
    appending l m s =
        let y : (has p.subjects (subject_of k) && not (has p.objects (object_of k))) ≡ false = rw (right m, le-ltb k read_count l) at (e m) in
        object_idle p (object_of k) (given_one (has p.subjects (subject_of k)) (has p.objects (object_of k)) s y)

-- ---- what the search is given stays so

or_small : (x k : ℕ) → x < 2 ^ side_limit → k < side_limit → bit_or x (2 ^ k) < 2 ^ side_limit
or_small x k h l = or_lt side_limit x (2 ^ k) h (pow-lt l)

module _ (rounds b : ℕ) (p : Position) where
  pub moved_searched : (k : ℕ) → k < right_count → adds p k ≡ true → Searched rounds b p → reached b (moved p k) ≡ false → Searched rounds b (moved p k)
  moved_searched k l h s a = by (dec_lt k read_count)
    where
      by : Dec (k < read_count) → Searched rounds b (moved p k)
      by (yes m) =
          let e : moved p k ≡ with_subject p (subject_of k) = read_moves p k m h in
          let j : subject_of k < side_limit = unfold subject_of in (omega arith) in
          record {
            some = s.some;
            target = s.target;
            subjects = rw e (unfold with_subject in (or_small p.subjects (subject_of k) s.subjects j));
            objects = rw e (unfold with_subject in s.objects);
            apart = a;
          }
      by (no m) =
          let n : read_count ≤ k = omega arith in
          let e : moved p k ≡ with_object p (object_of k) = append_moves p k n l h in
          let j : object_of k < side_limit = unfold object_of in (omega arith) in
          record {
            some = s.some;
            target = s.target;
            subjects = rw e (unfold with_object in s.subjects);
            objects = rw e (unfold with_object in (or_small p.objects (object_of k) s.objects j));
            apart = a;
          }

  pub withdrawn_searched : (k left : ℕ) → 1 ≤ left → Searched rounds b p → Searched left b (withdrawn p k)
  unfolding withdrawn reached
  withdrawn_searched k left l s = record { some = l; target = s.target; subjects = s.subjects; objects = s.objects; apart = s.apart }

  pub left_searched : (left : ℕ) → 1 ≤ left → Searched rounds b p → Searched left b p
  left_searched left l s = record { some = l; target = s.target; subjects = s.subjects; objects = s.objects; apart = s.apart }
