-- The digits of the tag's halves, one behind the other.
use Prim.Native.Nat.{ℕ, ◌≤◌}
use native.Mathlib.Omega.{arith}
use mathlib.Core.Path.{ap₂, ◌∙◌}
use mathlib.Core.List.{List, ◌++◌}
use lib.ListN.{length}
use Rattle.fields.proofs.ByteLaws.{bytes_length}
use Rattle.listing.proofs.NumberTexts.{hexadecimal_halves}
use Rattle.fields.proofs.WritingLaws.{wrote_join, wrote_as}
use Rattle.listing.proofs.put_hexadecimal.Goals as goal

pub put64-requires : goal.put64-requires
put64-requires c = omega (arith, bytes_length 8 c.eight_digits.result)

pub returns : goal.returns
returns c =
    let a = c.args in
    let h : a.at ≤ length a.out.now = omega arith in
    let high = c.eight_digits in
    let low = c.eight_digits-2 in
    wrote_as
    (ap₂ (λ (x y : List ℕ). x ++ y) high.ensures low.ensures ∙ hexadecimal_halves a.tag)
    (wrote_join h c.put64-next.ensures c.put64.ensures)
