-- The offset and the size are read; their part of the image is `part`.
use Rattle.image.specs.Image.{part, offset, section_length}
use native.Mathlib.Nat.{add-sub_cancel_left}
use native.Mathlib.Omega.{arith}
use Rattle.image.proofs.section.Goals as goal

pub slice_bounds-result-end : goal.slice_bounds-result-end
unfolding offset section_length
slice_bounds-result-end c = omega (arith, c.requires.2, c.read16-a.ensures.0, c.read16.ensures.0)

pub returns : goal.returns
unfolding part offset section_length
returns c = rw (add-sub_cancel_left, c.read16-a.ensures.0, c.read16.ensures.0)
