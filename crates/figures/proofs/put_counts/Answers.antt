use Rattle.figures.specs.Lines.{count_fields}
use Rattle.listing.proofs.ListingLines.{field_length}
use Rattle.figures.specs.Buffer.{counts_text}
use Rattle.figures.proofs.FigureLines.{placing_start, fields_room, placing_next, placing_end}
use Rattle.figures.proofs.put_counts.Goals as goal

pub loop-n-init : goal.loop-n-init
loop-n-init c = placing_start _ _ _ _ _ c.requires

pub put_count-next-requires : goal.put_count-next-requires
put_count-next-requires c = fields_room _ _ _ _ _ _ _ _ c.loop-n.invariant c.loop-n-test.true

pub loop-n-preserved : goal.loop-n-preserved
loop-n-preserved c =
    let loop = c.loop-n in
    let taken = c.loop-n-test.true in
    placing_next _ _ _ _ _ _ _ _ loop.invariant taken _ _ (field_length _) c.put_count-next.ensures

pub shape_of-out : goal.shape_of-out
shape_of-out c = c.loop-n.invariant.long

pub returns : goal.returns
unfolding counts_text count_fields
returns c = placing_end _ _ _ _ _ _ _ _ c.loop-n.invariant c.loop-n-test.false
