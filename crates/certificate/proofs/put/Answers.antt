-- What is copied over the front, and the rest, are the numbers over the front.
use native.Mathlib.Nat.{zero-add}
use Rattle.fields.specs.Writing.{overwritten}
use Rattle.certificate.proofs.put.Goals as goal

pub returns : goal.returns
unfolding overwritten
returns c = rw (c.copy_from_slice.ensures.after, zero-add)
