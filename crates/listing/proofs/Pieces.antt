-- A list cut into pieces of k, the last of which may be shorter.
use Prim.Native.Nat.{ℕ, min}
use mathlib.Core.Path.{◌≡◌, sym, ap, ap₂, ◌∙◌}
use mathlib.Core.List.{List, ◌++◌}
use lib.ListN.{length, take, drop, length-take, take-append-drop}
use lib.Seq.{take-append_seam, drop-append_seam}

-- as many as there are of the first k
pub front_again : (k : ℕ) (x : List ℕ) → take (length (take k x)) x ≡ take k x
front_again k x =
    ap (λ (l : List ℕ). take (length (take k x)) l) (sym (take-append-drop k x)) ∙ take-append_seam (take k x) (drop k x)

module _ (k : ℕ) (r x q : List ℕ) (e : r ≡ x ++ q) (l : length x ≡ min k (length r)) where
  long : length (take k r) ≡ length x
  long = length-take k r ∙ sym l

  -- the next piece
  pub piece_front : take k r ≡ x
  piece_front = sym (front_again k r) ∙ ap₂ (λ (n : ℕ) (z : List ℕ). take n z) long e ∙ take-append_seam x q

  -- what is left behind it
  pub piece_behind : drop (length (take k r)) r ≡ q
  piece_behind = ap₂ (λ (n : ℕ) (z : List ℕ). drop n z) long e ∙ drop-append_seam x q
