-- What the program computes is `coded` of the parted values; the law of Hexadecimal says what its bytes are.
use Prim.Native.Nat.{ℕ, ◌+◌, ◌/◌}
use native.Mathlib.Omega.{arith}
use lib.Bits.{and_le_r}
use Rattle.listing.proofs.Hexadecimal.{halves, quarters, eighths, eighths_most, eight_digits_lem}
use Rattle.listing.proofs.eight_digits.Goals as goal

pub overflow_mul-four : goal.overflow_mul-four
overflow_mul-four c = omega (arith, and_le_r (halves c.args.x) 0x000000ff000000ff)

pub overflow_add-four : goal.overflow_add-four
overflow_add-four c =
    omega (arith, and_le_r (halves c.args.x / 256) 0x000000ff000000ff, and_le_r (halves c.args.x) 0x000000ff000000ff)

pub overflow_mul-eight : goal.overflow_mul-eight
overflow_mul-eight c = omega (arith, and_le_r (quarters (halves c.args.x)) 0x000f000f000f000f)

pub overflow_add-eight : goal.overflow_add-eight
overflow_add-eight c = omega (arith, eighths_most (quarters (halves c.args.x)))

pub overflow_add-letters : goal.overflow_add-letters
overflow_add-letters c = omega (arith, eighths_most (quarters (halves c.args.x)))

pub overflow_add-result : goal.overflow_add-result
overflow_add-result c = omega (arith, eighths_most (quarters (halves c.args.x)))

pub overflow_mul-result : goal.overflow_mul-result
overflow_mul-result c =
    omega (arith, and_le_r ((eighths (quarters (halves c.args.x)) + 0x0606060606060606) / 16) 0x0101010101010101)

pub overflow_add-result-2 : goal.overflow_add-result-2
overflow_add-result-2 c =
    let y : ℕ = eighths (quarters (halves c.args.x)) in
    omega (arith, eighths_most (quarters (halves c.args.x)), and_le_r ((y + 0x0606060606060606) / 16) 0x0101010101010101)

pub returns : goal.returns
returns c = eight_digits_lem c.args.x c.requires
