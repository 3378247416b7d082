-- Of the four bytes that are stored, the three digits count.
use Prim.Native.Nat.{ℕ, ◌+◌, ◌≤◌}
use native.Mathlib.Omega.{arith}
use mathlib.Core.Path.{◌≡◌, ap, ◌∙◌}
use lib.ListN.{length, take}
use Rattle.listing.specs.Text.{digits}
use Rattle.fields.specs.Bytes.{bytes_of}
use Rattle.listing.proofs.NumberTexts.{digits_length, group_digits}
use Rattle.fields.proofs.ByteLaws.{bytes_length, bytes_first}
use Rattle.listing.proofs.BufferLaws.{spare_front}
use Rattle.listing.proofs.put_group.Goals as goal

pub returns : goal.returns
returns c =
    let a = c.args in
    let p = c.put32 in
    let r : ℕ = c.three_digits.result in
    let h : a.at ≤ length a.out.now = omega arith in
    let l : length (digits 10 3 a.n) ≡ 3 = digits_length 10 3 a.n in
    let e : take (length (digits 10 3 a.n)) (bytes_of 4 r) ≡ digits 10 3 a.n =
    ap (λ (k : ℕ). take k (bytes_of 4 r)) l ∙ bytes_first 3 1 r ∙ c.three_digits.ensures ∙ group_digits a.n in
    spare_front (digits 10 3 a.n) (bytes_of 4 r) a.out.now p.new.out a.at p.result 1 (a.at + 3) h e
    (omega (arith, bytes_length 4 r))
    p.ensures
    (omega arith)
