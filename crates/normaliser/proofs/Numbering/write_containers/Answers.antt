use native.Mathlib.Omega.{arith}
use Rattle.fields.proofs.RowWriting.{rows_start, rows_end}
use Rattle.normaliser.specs.Sections.{container_section}
use Rattle.normaliser.proofs.SectionRows.{both_at, container_rows_lem, containers_size, container_room, container_next}
use Rattle.normaliser.proofs.Numbering.write_containers.Goals as goal

pub loop-i-init : goal.loop-i-init
loop-i-init c =
    rows_start _ _ _ (omega (arith, c.requires.0, containers_size c.args.containers.now c.args.self.now.classes.now c.args.self.now.ranks.now))

pub number-permit-requires : goal.number-permit-requires
number-permit-requires c =
    rw c.read16.ensures.0 (both_at _ c.args.containers.now c.loop-i.i c.loop-i-test.true c.requires.1).0

pub number-run-requires : goal.number-run-requires
number-run-requires c =
    let loop = c.loop-i in
    let taken = c.loop-i-test.true in
    rw c.read16-in-loop-i.ensures.0 (both_at _ c.args.containers.now loop.i taken c.requires.1).1

pub put_container_record-at-requires : goal.put_container_record-at-requires
put_container_record-at-requires c =
    let loop = c.loop-i in
    let taken = c.loop-i-test.true in
    container_room c.args.containers.now c.args.self.now.classes.now c.args.self.now.ranks.now loop.invariant taken

pub loop-i-preserved : goal.loop-i-preserved
loop-i-preserved c =
    let loop = c.loop-i in
    let taken = c.loop-i-test.true in
    let read8 = c.read8-kind in
    let read82 = c.read8-atom in
    let read16 = c.read16 in
    let number = c.number-permit in
    let read162 = c.read16-in-loop-i in
    let number2 = c.number-run in
    let permit = rw read16.ensures.0 at number.ensures in
    let run = rw read162.ensures.0 at number2.ensures in
    container_next c.args.containers.now c.args.self.now.classes.now c.args.self.now.ranks.now loop.invariant taken permit run
    (rw (read8.ensures.0, read82.ensures.0) at c.put_container_record-at.ensures)

pub returns : goal.returns
unfolding container_section
returns c =
    rows_end c.loop-i.invariant (omega (arith, c.loop-i-test.false, container_rows_lem c.args.containers.now c.args.self.now.classes.now c.args.self.now.ranks.now))
