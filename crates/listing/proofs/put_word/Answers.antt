-- Of the eight bytes that are stored, the word's letters count, and the space stands behind them.
use Prim.Native.Nat.{◌+◌, ◌≤◌, ◌<◌}
use native.Mathlib.Omega.{arith}
use mathlib.Core.Path.{◌≡◌, ap}
use lib.ListN.{length, take}
use lib.Seq.{length-take-le}
use Rattle.fields.specs.Bytes.{bytes_of}
use Rattle.fields.proofs.ByteLaws.{bytes_length}
use Rattle.listing.specs.Lines.{space}
use Rattle.listing.specs.Buffer.{word_limit, letters_of}
use Rattle.listing.proofs.BufferLaws.{spare_front, spare_byte}
use Rattle.listing.proofs.put_word.Goals as goal

pub returns : goal.returns
returns c =
    let a = c.args in
    let p = c.put64 in
    let y = bytes_of word_limit a.word.letters in
    let e : length (letters_of a.word) ≡ a.word.length = length-take-le a.word.length y (omega (arith, bytes_length word_limit a.word.letters)) in
    let h : a.at ≤ length a.out.now = omega arith in
    let l : a.at + a.word.length < length p.new.out = omega arith in
    let f =
    spare_front (letters_of a.word) y a.out.now p.new.out a.at p.result 5 (a.at + a.word.length) h (ap (λ (k : _). take k y) e)
    (omega (arith, e, bytes_length word_limit a.word.letters))
    p.ensures
    (omega (arith, e)) in
    spare_byte space 4 l (omega arith) f
