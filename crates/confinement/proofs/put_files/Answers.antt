use Rattle.confinement.proofs.PathRuleRows.{files_start, files_room, files_next, files_end}
use Rattle.confinement.proofs.put_files.Goals as goal

pub loop-k-init : goal.loop-k-init
loop-k-init c = files_start _ _ c.requires.1

pub put_container_record-at-requires : goal.put_container_record-at-requires
put_container_record-at-requires c = files_room c.loop-k.invariant c.loop-k-test.true

pub loop-k-preserved : goal.loop-k-preserved
loop-k-preserved c = files_next c.loop-k.invariant c.loop-k-test.true c.put_container_record-at.ensures

pub shape_of-out : goal.shape_of-out
shape_of-out c = c.loop-k.invariant.long

pub returns : goal.returns
returns c = files_end c.loop-k.invariant c.loop-k-test.false
