use native.Mathlib.Omega.{arith}
use lib.ListN.{length-map}
use Rattle.fields.proofs.RowWriting.{rows_start, rows_end}
use Rattle.image.specs.Normal.{container_bytes}
use Rattle.derivation.proofs.ContainerRows.{containers_size, container_room, container_next, object_files, objects_count, object_row}
use Rattle.derivation.proofs.put_objects.Goals as goal

pub loop-b-init : goal.loop-b-init
loop-b-init c =
    rows_start _ _ _ (omega (arith, c.requires.1, containers_size (object_files c.args.n), objects_count c.args.n))

pub put_container_record-at-requires : goal.put_container_record-at-requires
put_container_record-at-requires c =
    let loop = c.loop-b in
    let taken = c.loop-b-test.true in
    container_room (object_files c.args.n) loop.invariant (omega (arith, objects_count c.args.n)) _ (object_row c.args.n loop.b taken)

pub loop-b-preserved : goal.loop-b-preserved
loop-b-preserved c =
    let loop = c.loop-b in
    let taken = c.loop-b-test.true in
    container_next (object_files c.args.n) loop.invariant (omega (arith, objects_count c.args.n)) _
    (object_row c.args.n loop.b taken) c.put_container_record-at.ensures

pub shape_of-out : goal.shape_of-out
shape_of-out c = c.loop-b.invariant.long

pub returns : goal.returns
returns c =
    rows_end c.loop-b.invariant (omega (arith, c.loop-b-test.false, length-map (object_files c.args.n) container_bytes, objects_count c.args.n))
