-- Of the four bytes that are stored, those of the digits that the number needs count.
use Prim.Native.Nat.{ℕ, ◌+◌, ◌-◌, ◌*◌, ◌/◌, ◌^◌, ◌≤◌}
use native.Mathlib.Omega.{arith}
use lib.ListN.{length}
use Rattle.listing.specs.Text.{decimal}
use Rattle.fields.specs.Bytes.{bytes_of}
use Rattle.listing.proofs.NumberTexts.{decimal_some, short_number}
use Rattle.fields.proofs.ByteLaws.{bytes_length}
use Rattle.listing.proofs.BufferLaws.{spare_front}
use Rattle.listing.proofs.put_short_number.Goals as goal

pub returns : goal.returns
returns c =
    let a = c.args in
    let p = c.put32 in
    let u = c.unused_digits-k in
    let d = c.three_digits in
    let y : ℕ = d.result / 2 ^ (8 * u.result) in
    let h : a.at ≤ length a.out.now = omega arith in
    spare_front (decimal a.n) (bytes_of 4 y) a.out.now p.new.out a.at p.result 3 (a.at + (3 - u.result)) h
    (short_number a.n u.result d.result u.ensures d.ensures)
    (omega (arith, bytes_length 4 y, decimal_some a.n))
    p.ensures
    (omega arith)
