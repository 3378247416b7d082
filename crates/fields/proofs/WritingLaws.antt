-- Bytes written into a buffer: no byte, one, a copy, one part behind the other, a number by its width.
use Prim.Native.Nat.{ℕ, suc, ◌+◌, ◌≤◌, ◌<◌}
use native.Mathlib.Nat.{add_assoc}
use native.Mathlib.Omega.{arith}
use mathlib.Core.Path.{◌≡◌, refl, sym, ap, ap₂, ◌∙◌, subst}
use mathlib.Core.List.{List, [], ◌∷◌, ◌++◌, append_assoc}
use lib.ListN.{length, take, drop, set, length-append, length-drop}
use lib.Seq.{length-take-le, take_at, drop-append-add, drop-drop, take-set-le, drop-set-lt, drop-cons, get_or-set_same, lt-length-set, paste, paste-zero, take_all, sets-eq}
use borrow.Rule.Slice.PartMut.{put_mid}
use Rattle.fields.specs.Bytes.{bytes_of}
use Rattle.fields.specs.Writing.{overwritten, Wrote}
use Rattle.fields.proofs.ByteLaws.{bytes_length}

-- ---- the buffer with bytes at a place

pub overwritten_none : (at : ℕ) (b : List ℕ) → overwritten [] at b ≡ b
unfolding overwritten
overwritten_none at b = sym (paste-zero b at [])

-- one byte after the other
pub overwritten_sets : (x b : List ℕ) (at : ℕ) → at + length x ≤ length b → lib.Seq.sets b at x ≡ overwritten x at b
unfolding overwritten
overwritten_sets x b at h = sets-eq x b at h

pub overwritten_length : (x b : List ℕ) (at : ℕ) → at + length x ≤ length b → length (overwritten x at b) ≡ length b
unfolding overwritten
overwritten_length x b at h =
    let e : length (take at b) ≡ at = length-take-le at b (omega arith) in
    simp length-append (omega (arith, e, length-drop (at + length x) b))

drop_set : (b : List ℕ) (i d : ℕ) → i < length b → drop i (set b i d) ≡ d ∷ drop (suc i) b
drop_set b i d h =
    drop-cons (set b i d) i 0 (lt-length-set b i d h)
    ∙ ap₂ (λ (x : ℕ) (l : List ℕ). x ∷ l) (get_or-set_same b i d 0 h) (drop-set-lt (suc i) b i d (omega arith))

-- the last byte may be written first
pub overwritten_back : (x : List ℕ) (d at : ℕ) (b : List ℕ) → at + length x < length b
    → overwritten x at (set b (at + length x) d) ≡ overwritten (x ++ (d ∷ [])) at b
unfolding overwritten
overwritten_back x d at b h =
    let e : at + length (x ++ (d ∷ [])) ≡ suc (at + length x) = omega (arith, length-append x (d ∷ [])) in
    rw (take-set-le at b (at + length x) d (omega arith), drop_set b (at + length x) d h, e) (simp append_assoc)

overwritten_join : (x y : List ℕ) (at : ℕ) (b : List ℕ) → at ≤ length b → overwritten y (at + length x) (overwritten x at b) ≡ overwritten (x ++ y) at b
unfolding overwritten
overwritten_join x y at b h =
    let p : List ℕ = take at b ++ x in
    let r : List ℕ = drop (at + length x) b in
    let e : length p ≡ at + length x = length-append (take at b) x ∙ ap (λ (k : ℕ). k + length x) (length-take-le at b h) in
    let f : drop (at + length x + length y) (p ++ r) ≡ drop (at + length (x ++ y)) b =
    ap (λ (k : ℕ). drop (k + length y) (p ++ r)) (sym e)
    ∙ drop-append-add p r (length y)
    ∙ drop-drop (length y) (at + length x) b
    ∙ ap (λ (k : ℕ). drop k b) (add_assoc at (length x) (length y) ∙ ap (λ (k : ℕ). at + k) (sym (length-append x y))) in
    ap₂ (λ (l m : List ℕ). l ++ y ++ m) (take_at p r (at + length x) e) f
    ∙ ap (λ (l : List ℕ). l ++ drop (at + length (x ++ y)) b) (append_assoc (take at b) x y)

-- ---- what was written

pub wrote_none : (at : ℕ) (b : List ℕ) → Wrote [] b b at at
wrote_none at b = record { buffer = sym (overwritten_none at b); ends = omega arith }

-- one byte
pub wrote_byte : (d at : ℕ) (b : List ℕ) → at < length b → Wrote (d ∷ []) b (set b at d) at (at + 1)
wrote_byte d at b h = record { buffer = overwritten_sets (d ∷ []) b at (omega arith); ends = refl }

-- a copy of the whole of x
pub wrote_paste : (x b a : List ℕ) (at i : ℕ) → i ≡ length x → a ≡ paste b at x i → Wrote x b a at (at + length x)
unfolding overwritten
wrote_paste x b a at i e p =
    record {
      buffer =
          p
          ∙ ap (λ (j : ℕ). paste b at x j) e
          ∙ ap (λ (t : List ℕ). take at b ++ t ++ drop (at + length x) b) (take_all (length x) x (omega arith));
      ends = refl;
    }

-- a copy over a part that was lent of the buffer
pub wrote_part : (x b : List ℕ) (at k n : ℕ) → k ≡ length x → n ≡ at + length x → Wrote x b (put_mid at k b x) at n
unfolding overwritten
wrote_part x b at k n e f =
    record {
      buffer =
          ap (λ (t : List ℕ). take at b ++ (x ++ t)) (ap (λ (n : ℕ). drop n (drop at b)) e ∙ drop-drop (length x) at b)
          ∙ sym (append_assoc (take at b) x (drop (at + length x) b));
      ends = f;
    }

-- two parts, one behind the other
pub wrote_join : {x y b m a : List ℕ} {at n k : ℕ} → at ≤ length b → Wrote x b m at n → Wrote y m a n k → Wrote (x ++ y) b a at k
wrote_join {x} {y} {b} {m} {a} {at} {n} {k} h p q =
    record {
      buffer = q.buffer ∙ ap₂ (λ (i : ℕ) (l : List ℕ). overwritten y i l) p.ends p.buffer ∙ overwritten_join x y at b h;
      ends = omega (arith, length-append x y);
    }

-- the same bytes, said otherwise
pub wrote_as : {x y b a : List ℕ} {at n : ℕ} → x ≡ y → Wrote x b a at n → Wrote y b a at n
wrote_as {b = b} {a = a} {at = at} {n = n} e p = subst (λ (t : List ℕ). Wrote t b a at n) e p

pub wrote_length : {x b a : List ℕ} {at n : ℕ} → at + length x ≤ length b → Wrote x b a at n → length a ≡ length b
wrote_length {x} {b} {a} {at} {n} h p = ap length p.buffer ∙ overwritten_length x b at h

-- ---- numbers

-- the place behind a number of w bytes
pub wrote_ends : (w v : ℕ) {b a : List ℕ} {at n : ℕ} → Wrote (bytes_of w v) b a at n → n ≡ at + w
wrote_ends w v {b} {a} {at} {n} p = p.ends ∙ ap (λ (k : ℕ). at + k) (bytes_length w v)
