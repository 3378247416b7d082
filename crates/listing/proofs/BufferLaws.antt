-- Texts written with bytes behind them that do not count. Only this crate cites it.
use Prim.Native.Nat.{ℕ, ◌+◌, ◌-◌, ◌≤◌, ◌<◌}
use native.Mathlib.Nat.{add-zero}
use native.Mathlib.Omega.{arith}
use mathlib.Core.Path.{◌≡◌, refl, sym, ap, ap₂, ◌∙◌, subst}
use mathlib.Core.List.{List, [], ◌∷◌, ◌++◌, append_assoc}
use lib.ListN.{length, take, drop, set, length-append, length-drop, take-append-drop}
use lib.Seq.{length-take-le, take_at, drop-append-add, drop-drop, take-length}
use Rattle.fields.specs.Writing.{overwritten, Wrote}
use Rattle.fields.proofs.WritingLaws.{wrote_byte, wrote_as}
use Rattle.listing.specs.Buffer.{WroteWithSpare, ListedText, line_limit}

-- a text whose last bytes do not count
spare_part : (x y b a : List ℕ) (at n k : ℕ) → at ≤ length b → Wrote (x ++ y) b a at n → length y ≤ k → WroteWithSpare x k b a at (at + length x)
unfolding overwritten
spare_part x y b a at n k h p l =
    let q : List ℕ = take at b ++ x in
    let r : List ℕ = drop (at + length (x ++ y)) b in
    let e : length q ≡ at + length x = length-append (take at b) x ∙ ap (λ (j : ℕ). j + length x) (length-take-le at b h) in
    let f : a ≡ q ++ (y ++ r) = p.buffer ∙ simp append_assoc in
    let g : length (q ++ y) ≡ at + length x + length y = length-append q y ∙ ap (λ (j : ℕ). j + length y) e in
    let m : at + length x + k ≡ length (q ++ y) + (k - length y) = omega (arith, g) in
    let w : at + length (x ++ y) + (k - length y) ≡ at + length x + k = omega (arith, length-append x y) in
    record {
      starts = ap (λ (z : List ℕ). take (at + length x) z) f ∙ take_at q (y ++ r) (at + length x) e;
      rest =
          ap₂ (λ (j : ℕ) (z : List ℕ). drop j z) m (f ∙ sym (append_assoc q y r))
          ∙ drop-append-add (q ++ y) r (k - length y)
          ∙ drop-drop (k - length y) (at + length (x ++ y)) b
          ∙ ap (λ (j : ℕ). drop j b) w;
      ends = refl;
    }

-- a text of which only the first bytes count
pub spare_front : (x y b a : List ℕ) (at n k m : ℕ) → at ≤ length b → take (length x) y ≡ x → length y ≤ length x + k → Wrote y b a at n
    → m ≡ at + length x → WroteWithSpare x k b a at m
spare_front x y b a at n k m h e l p q =
    let f : y ≡ x ++ drop (length x) y = sym (take-append-drop (length x) y) ∙ ap (λ (z : List ℕ). z ++ drop (length x) y) e in
    let g : length (drop (length x) y) ≤ k = omega (arith, length-drop (length x) y) in
    subst (λ (j : ℕ). WroteWithSpare x k b a at j) (sym q) (spare_part x (drop (length x) y) b a at n k h (wrote_as f p) g)

-- a text without such bytes
pub wrote_spare : {x b a : List ℕ} {at n : ℕ} → (k : ℕ) → at ≤ length b → Wrote x b a at n → WroteWithSpare x k b a at n
wrote_spare {x} {b} {a} {at} {n} k h p = spare_front x x b a at n k n h (take-length x) (omega arith) p p.ends

pub spare_none : {x b a : List ℕ} {at n : ℕ} → WroteWithSpare x 0 b a at n → Wrote x b a at n
unfolding overwritten
spare_none {x} {b} {a} {at} {n} w =
    record {
      buffer =
          sym (take-append-drop n a)
          ∙ ap₂ (λ (y z : List ℕ). y ++ z) w.starts (simp add-zero at w.rest)
          ∙ ap (λ (j : ℕ). take at b ++ x ++ drop j b) w.ends;
      ends = w.ends;
    }

-- two texts, of which the second overwrites what does not count behind the first
pub spare_join : {x y b m a : List ℕ} {at n e k : ℕ} → (l : ℕ) → k ≤ length y + l → WroteWithSpare x k b m at n → WroteWithSpare y l m a n e → WroteWithSpare (x ++ y) l b a at e
spare_join {x} {y} {b} {m} {a} {at} {n} {e} {k} l h p q =
    let j : ℕ = length y + l - k in
    let f : n + k + j ≡ e + l = omega (arith, q.ends) in
    record {
      starts = q.starts ∙ ap (λ (z : List ℕ). z ++ y) p.starts ∙ append_assoc (take at b) x y;
      rest =
          q.rest
          ∙ ap (λ (i : ℕ). drop i m) (sym f)
          ∙ sym (drop-drop j (n + k) m)
          ∙ ap (λ (z : List ℕ). drop j z) p.rest
          ∙ drop-drop j (n + k) b
          ∙ ap (λ (i : ℕ). drop i b) f;
      ends = omega (arith, p.ends, q.ends, length-append x y);
    }

-- the same text, decimal_value otherwise
pub spare_as : {x y b a : List ℕ} {at n k : ℕ} → x ≡ y → WroteWithSpare x k b a at n → WroteWithSpare y k b a at n
spare_as {b = b} {a = a} {at = at} {n = n} {k = k} e p = subst (λ (t : List ℕ). WroteWithSpare t k b a at n) e p

-- more bytes may not count
pub spare_more : {x b a : List ℕ} {at n k : ℕ} → (l : ℕ) → k ≤ l → WroteWithSpare x k b a at n → WroteWithSpare x l b a at n
spare_more {x} {b} {a} {at} {n} {k} l h p =
    let f : n + k + (l - k) ≡ n + l = omega arith in
    record {
      starts = p.starts;
      rest =
          ap (λ (i : ℕ). drop i a) (sym f)
          ∙ sym (drop-drop (l - k) (n + k) a)
          ∙ ap (λ (z : List ℕ). drop (l - k) z) p.rest
          ∙ drop-drop (l - k) (n + k) b
          ∙ ap (λ (i : ℕ). drop i b) f;
      ends = p.ends;
    }

-- a byte behind a text, over what does not count
pub spare_byte : {x b m : List ℕ} {at n k : ℕ} (d l : ℕ) → n < length m → k ≤ 1 + l → WroteWithSpare x k b m at n
    → WroteWithSpare (x ++ (d ∷ [])) l b (set m n d) at (n + 1)
spare_byte {m = m} {n = n} d l h f p =
    let g : n ≤ length m = omega arith in
    spare_join l f p (wrote_spare l g (wrote_byte d n m h))

-- ---- a text at the front of a buffer

-- one line is inside it
pub line_listed : {text before after : List ℕ} {end : ℕ} → length text ≤ line_limit → Wrote text before after 0 end → ListedText text before after end
line_listed l h = record { front = h; room = omega (arith, h.ends) }

-- the front of the buffer up to the end is the text
pub listed_front : (text before after : List ℕ) (end : ℕ) → ListedText text before after end → take end after ≡ text
unfolding Rattle.fields.specs.Writing.overwritten
listed_front text before after end h =
    let e : length text ≡ end = omega (arith, h.front.ends) in
    ap (λ (l : List ℕ). take end l) h.front.buffer ∙ take_at text (drop (0 + length text) before) end e
