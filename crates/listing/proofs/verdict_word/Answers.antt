-- By cases: each word's letters and length are computed.
use mathlib.Core.Path.{refl}
use Rattle.fields.specs.Ascii.{ascii}
use Rattle.fields.specs.Bytes.{bytes_of}
use Rattle.listing.specs.Lines.{verdict_word}
use Rattle.listing.proofs.verdict_word.Goals as goal

pub returns-in-Quiet : goal.returns-in-Quiet
unfolding verdict_word ascii bytes_of
returns-in-Quiet c = rw (c.in-Quiet.is, c.word_of.ensures) (record { letters = refl; long = refl })

pub returns-in-Alert : goal.returns-in-Alert
unfolding verdict_word ascii bytes_of
returns-in-Alert c = rw (c.in-Alert.is, c.word_of-in-Alert.ensures) (record { letters = refl; long = refl })

pub returns-in-Blocked : goal.returns-in-Blocked
unfolding verdict_word ascii bytes_of
returns-in-Blocked c = rw (c.in-Blocked.is, c.word_of-in-Blocked.ensures) (record { letters = refl; long = refl })
