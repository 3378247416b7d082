use native.Mathlib.Omega.{arith}
use lib.ListN.{replicate, length-map, length-replicate}
use Rattle.fields.proofs.RowWriting.{rows_start, rows_end}
use Rattle.image.specs.Policy.{Container}
use Rattle.image.specs.Normal.{container_bytes}
use Rattle.derivation.specs.Derived.{subject_process}
use Rattle.derivation.proofs.ContainerRows.{containers_size, container_room, container_next, subject_row}
use Rattle.derivation.proofs.put_subjects.Goals as goal

pub loop-init : goal.loop-init
loop-init c =
    rows_start _ _ _ (omega (arith, c.requires.1, containers_size (replicate c.args.n subject_process), length-replicate {A = Container} c.args.n subject_process))

pub put_container_record-at-requires : goal.put_container_record-at-requires
put_container_record-at-requires c =
    let loop = c.loop in
    let taken = c.loop-test.true in
    container_room (replicate c.args.n subject_process) loop.invariant
    (omega (arith, length-replicate {A = Container} c.args.n subject_process)) _ (subject_row c.args.n loop.counter taken)

pub loop-preserved : goal.loop-preserved
loop-preserved c =
    let loop = c.loop in
    let taken = c.loop-test.true in
    container_next (replicate c.args.n subject_process) loop.invariant
    (omega (arith, length-replicate {A = Container} c.args.n subject_process)) _ (subject_row c.args.n loop.counter taken)
    c.put_container_record-at.ensures

pub shape_of-out : goal.shape_of-out
shape_of-out c = c.loop.invariant.long

pub returns : goal.returns
returns c =
    rows_end c.loop.invariant
    (omega (
      arith,
      c.loop-test.false,
      length-map (replicate c.args.n subject_process) container_bytes,
      length-replicate {A = Container} c.args.n subject_process,
    ))
