-- The mark's bit is read, and put into its word.
use Prim.Native.Nat.{ℕ, ◌*◌, ◌/◌, ◌%◌, ◌^◌, ◌<◌}
use mathlib.Core.Path.{◌≡◌, refl, ap}
use native.Mathlib.Omega.{arith}
use lib.Bits.{bit_or}
use lib.ListN.{set}
use lib.Pow.{pow-lt}
use Rattle.profiles.specs.Marks.{word_bits, mark_of, mark_word, has_mark, with_mark}
use Rattle.profiles.proofs.HashMarks.{mark_bit}
use Rattle.profiles.proofs.notes.mark.Goals as goal

pub returns : goal.returns
unfolding mark_of mark_word has_mark with_mark
returns c =
    let l : 2 ^ (mark_of c.args.hash % word_bits) < 2 ^ word_bits = pow-lt (mark_bit c.args.hash) in
    let e : 1 * 2 ^ (mark_of c.args.hash % word_bits) % 2 ^ word_bits ≡ 2 ^ (mark_of c.args.hash % word_bits) = omega arith in
    (refl, ap (λ (b : ℕ). set c.args.marks.now (mark_of c.args.hash / word_bits) (bit_or (mark_word c.args.marks.now (mark_of c.args.hash)) b)) e)
