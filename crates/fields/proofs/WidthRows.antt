-- Rows of one width, one behind the other, and the records of a section.
use Prim.Native.Nat.{ℕ, zero, suc, ◌*◌, ◌/◌, ◌≤◌, ◌<◌}
use mathlib.Core.Path.{◌≡◌, refl, ap, ap₂, ◌∙◌}
use mathlib.Core.Bool.{Bool, true}
use mathlib.Core.List.{List, [], ◌∷◌}
use native.Mathlib.Omega.{arith}
use native.Mathlib.Nat.{suc-mul, mul-div_cancel, div-mul-le_self}
use lib.Dec.{eqb}
use lib.ListN.{length, take, drop, length-append, length-take, length-drop}
use lib.Seq.{take_at, drop_at}
use borrow.Author.Tests.{eqb-true, eq-eqb}
use Rattle.lists.specs.Lists.{joined, every}
use Rattle.lists.proofs.Every.{every_0, every_1, every_nil, every_cons}
use Rattle.fields.specs.Bytes.{cut, records}

-- a row of w numbers
unfoldable pub wide : ℕ → List ℕ → Bool
wide w r = eqb (length r) w

pub wide_length : (w : ℕ) (r : List ℕ) → wide w r ≡ true → length r ≡ w
unfolding wide
wide_length w r h = eqb-true (length r) w h

pub length_wide : (w : ℕ) (r : List ℕ) → length r ≡ w → wide w r ≡ true
unfolding wide
length_wide w r e = eq-eqb (length r) w e

pub rows_length : (w : ℕ) (rows : List (List ℕ)) → every (wide w) rows ≡ true → length (joined rows) ≡ length rows * w
unfolding joined
rows_length w [] h = omega arith
rows_length w (r ∷ rows) h =
    length-append r (joined rows)
    ∙ omega (arith, wide_length w r (every_0 (wide w) r rows h), rows_length w rows (every_1 (wide w) r rows h), suc-mul (length rows) w)

cut_rows : (w : ℕ) (rows : List (List ℕ)) → every (wide w) rows ≡ true → cut w (length rows) (joined rows) ≡ rows
unfolding joined cut
cut_rows w [] h = refl
cut_rows w (r ∷ rows) h =
    let e : length r ≡ w = wide_length w r (every_0 (wide w) r rows h) in
    ap₂ ◌∷◌ (take_at r (joined rows) w e) (ap (cut w (length rows)) (drop_at r (joined rows) w e) ∙ cut_rows w rows (every_1 (wide w) r rows h))

-- rows one behind the other are read back
pub records_rows : (w : ℕ) (rows : List (List ℕ)) → 0 < w → every (wide w) rows ≡ true → records w (joined rows) ≡ rows
unfolding records
records_rows w rows p h =
    ap (λ (n : ℕ). cut w n (joined rows)) (ap (λ (n : ℕ). n / w) (rows_length w rows h) ∙ mul-div_cancel (length rows) p) ∙ cut_rows w rows h

cut_wide : (w n : ℕ) (s : List ℕ) → n * w ≤ length s → every (wide w) (cut w n s) ≡ true
unfolding cut
cut_wide w zero s h = every_nil (wide w)
cut_wide w (suc n) s h =
    every_cons (wide w) (take w s) (cut w n (drop w s))
    (length_wide w (take w s) (omega (arith, suc-mul n w, length-take w s)))
    (cut_wide w n (drop w s) (omega (arith, suc-mul n w, length-drop w s)))

-- each record has its width
pub records_wide : (w : ℕ) (s : List ℕ) → every (wide w) (records w s) ≡ true
unfolding records
records_wide w s = cut_wide w (length s / w) s (div-mul-le_self (length s) w)
