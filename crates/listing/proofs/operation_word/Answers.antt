-- By the code: each word's letters and length are computed.
use mathlib.Core.Path.{refl}
use Rattle.fields.specs.Ascii.{ascii}
use Rattle.fields.specs.Bytes.{bytes_of}
use Rattle.listing.specs.Lines.{operation_word}
use Rattle.listing.proofs.ListingLines.{other_word}
use Rattle.std.proofs.Common.{arith}
use Rattle.listing.proofs.operation_word.Goals as goal

pub returns-in-1 : goal.returns-in-1
unfolding operation_word ascii bytes_of
returns-in-1 c = rw (c.in-1.is, c.word_of.ensures) (record { letters = refl; long = refl })

pub returns-in-2 : goal.returns-in-2
unfolding operation_word ascii bytes_of
returns-in-2 c = rw (c.in-2.is, c.word_of-in-2.ensures) (record { letters = refl; long = refl })

pub returns-in-3 : goal.returns-in-3
unfolding operation_word ascii bytes_of
returns-in-3 c = rw (c.in-3.is, c.word_of-in-3.ensures) (record { letters = refl; long = refl })

pub returns-in-4 : goal.returns-in-4
unfolding operation_word ascii bytes_of
returns-in-4 c = rw (c.in-4.is, c.word_of-in-4.ensures) (record { letters = refl; long = refl })

pub returns-in-5 : goal.returns-in-5
unfolding operation_word ascii bytes_of
returns-in-5 c = rw (c.in-5.is, c.word_of-in-5.ensures) (record { letters = refl; long = refl })

pub returns-in-6 : goal.returns-in-6
unfolding operation_word ascii bytes_of
returns-in-6 c = rw (c.in-6.is, c.word_of-in-6.ensures) (record { letters = refl; long = refl })

pub returns-in-7 : goal.returns-in-7
unfolding operation_word ascii bytes_of
returns-in-7 c = rw (c.in-7.is, c.word_of-in-7.ensures) (record { letters = refl; long = refl })

pub returns-in-8 : goal.returns-in-8
unfolding operation_word ascii bytes_of
returns-in-8 c = rw (c.in-8.is, c.word_of-in-8.ensures) (record { letters = refl; long = refl })

pub returns-in-9 : goal.returns-in-9
unfolding operation_word ascii bytes_of
returns-in-9 c = rw (c.in-9.is, c.word_of-in-9.ensures) (record { letters = refl; long = refl })

pub returns-in_default : goal.returns-in_default
unfolding ascii bytes_of
returns-in_default c =
    let e = other_word c.args.code (omega arith) (omega arith) (omega arith) (omega arith) (omega arith) (omega arith) (omega arith) (omega arith) (omega arith) in
    rw (e, c.word_of-in_default.ensures) (record { letters = refl; long = refl })
