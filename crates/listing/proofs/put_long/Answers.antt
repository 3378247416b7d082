use Prim.Native.Nat.{ℕ, ◌+◌, ◌%◌, ◌≤◌, ◌<◌}
use native.Mathlib.Omega.{arith}
use mathlib.Core.Path.{◌≡◌, sym, ap, ◌∙◌}
use lib.ListN.{length}
use Rattle.listing.specs.Text.{digits}
use Rattle.listing.proofs.NumberTexts.{digit_low, decimal_length, decimal_digits}
use Rattle.fields.proofs.WritingLaws.{wrote_as}
use Rattle.listing.proofs.Spelling.{spelling_start, spelling_next, spelling_end}
use Rattle.listing.proofs.put_long.Goals as goal

pub loop-i-init : goal.loop-i-init
loop-i-init c =
    let a = c.args in
    let r : a.at + c.decimal_places-k.result ≤ length a.out.now = omega (arith, decimal_length a.n) in
    spelling_start _ _ _ _ _ r

pub loop-i-preserved : goal.loop-i-preserved
loop-i-preserved c =
    let l = c.loop-i in
    let d : l.rest % 10 < 10 = omega arith in
    spelling_next l.invariant _ c.loop-i-test.true (sym (digit_low (l.rest % 10) d))

pub shape_of-out : goal.shape_of-out
shape_of-out c = c.loop-i.invariant.long

pub returns : goal.returns
returns c =
    let l = c.loop-i in
    let n = c.args.n in
    let e : l.i ≡ 0 = omega arith in
    wrote_as (ap (λ (k : ℕ). digits 10 k n) c.decimal_places-k.ensures ∙ decimal_digits n) (spelling_end l.invariant e)
