-- Numbers written one after the other over the places of a list, from one place on.
use Prim.Native.Nat.{ℕ, ◌+◌, ◌≤◌, ◌<◌}
use mathlib.Core.Path.{◌≡◌, refl, sym, ap, ap₂, ◌∙◌}
use mathlib.Core.List.{List, [], ◌∷◌, ◌++◌, append-nil}
use native.Mathlib.Omega.{arith}
use native.Mathlib.Numerals.{add-one}
use lib.ListN.{length, get_or, take, set, length-set, drop_of_length-le}
use lib.Seq.{paste, paste-zero, paste-suc, take_all}

-- of the numbers of x, j are written from the place `at` on
pub record Copied (x out₀ out : List ℕ) (at j : ℕ) : Type 0 where
  pub place : j ≤ length x
  pub room : at + length x ≤ length out₀
  pub long : length out ≡ length out₀
  pub is : out ≡ paste out₀ at x j

pub copied_start : (x out : List ℕ) (at : ℕ) → at + length x ≤ length out → Copied x out out at 0
copied_start x out at h = record { place = omega arith; room = h; long = refl; is = paste-zero out at x }

module _ (x out₀ out : List ℕ) (at j : ℕ) (g : Copied x out₀ out at j) where
  pub copied_next : (k v : ℕ) → k ≡ at + j → j < length x → v ≡ get_or x j 0 → Copied x out₀ (set out k v) at (j + 1)
  copied_next k v p l e =
      record {
        place = omega arith;
        room = g.room;
        long = length-set out k v ∙ g.long;
        is =
            ap₂ (λ (i w : ℕ). set out i w) p e
            ∙ ap (λ (o : List ℕ). set o (at + j) (get_or x j 0)) g.is
            ∙ paste-suc out₀ at x j 0 (omega (arith, g.room)) l
            ∙ ap (paste out₀ at x) (sym (add-one j));
      }

  -- all are written, to the end
  pub copied_end : at + length x ≡ length out₀ → length x ≤ j → out ≡ take at out₀ ++ x
  copied_end e l =
      g.is
      ∙ ap₂ (λ (a b : List ℕ). take at out₀ ++ a ++ b) (take_all j x l) (drop_of_length-le out₀ {i = at + j} (omega arith))
      ∙ append-nil (take at out₀ ++ x)

-- over a whole list
pub copied_all : (x out₀ out : List ℕ) (j : ℕ) → Copied x out₀ out 0 j → length x ≡ length out₀ → length out ≤ j → out ≡ x
copied_all x out₀ out j g e l = let z : 0 + length x ≡ length out₀ = omega arith in copied_end x out₀ out 0 j g z (omega (arith, g.long))

-- behind the first number
pub copied_behind : (ws x out : List ℕ) (n j : ℕ) → 1 + length x ≡ length ws → Copied x (set ws 0 n) out 1 j → length x ≤ j → out ≡ n ∷ x
copied_behind [] x out n j e g l = absurd (omega arith)
copied_behind (w ∷ ws) x out n j e g l = copied_end x (n ∷ ws) out 1 j g e l
