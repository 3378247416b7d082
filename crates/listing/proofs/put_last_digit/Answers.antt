-- `listing::put_last_digit`. Two bytes, one behind the other.
use Prim.Native.Nat.{◌+◌, ◌%◌, ◌≤◌, ◌<◌}
use native.Mathlib.Omega.{arith}
use mathlib.Core.Path.{◌≡◌, sym, subst, ap}
use mathlib.Core.List.{[], ◌∷◌}
use lib.ListN.{length, set, length-set}
use Rattle.fields.specs.Writing.{Wrote}
use Rattle.fields.proofs.WritingLaws.{wrote_join, wrote_byte, wrote_as}
use Rattle.listing.specs.Lines.{newline}
use Rattle.listing.proofs.NumberTexts.{zero_code, low_digit}
use Rattle.listing.proofs.put_last_digit.Goals as goal

pub returns : goal.returns
returns c =
    let a = c.args in
    let d = zero_code + a.n % 10 in
    let h : a.at ≤ length a.out.now = omega arith in
    let l : a.at < length a.out.now = omega arith in
    let m : a.at + 1 < length (set a.out.now a.at d) = simp length-set (omega arith) in
    let e : a.at + 1 + 1 ≡ a.at + 2 = omega arith in
    wrote_as (ap (λ x. x ∷ newline ∷ []) (sym (low_digit a.n)))
    (subst (λ k. Wrote (d ∷ newline ∷ []) a.out.now (set (set a.out.now a.at d) (a.at + 1) newline) a.at k) e
    (wrote_join h (wrote_byte d a.at a.out.now l) (wrote_byte newline (a.at + 1) (set a.out.now a.at d) m)))
