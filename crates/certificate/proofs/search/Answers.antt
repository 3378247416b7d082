use Rattle.certificate.proofs.SearchLaws.{searching_start, searching_roomy, searching_count, skip, nothing, found, ended, inside_some, none_file}
use Rattle.certificate.proofs.search.Goals.{then-run_forbids+else-is_some, else-run_forbids}
use Rattle.certificate.proofs.search.Goals as goal

pub loop-f-init : goal.loop-f-init
loop-f-init c = searching_start _ _ _ _ _ _

pub find_file-found-requires : goal.find_file-found-requires
find_file-found-requires c =
    (c.requires.0, searching_roomy c.loop-f.invariant c.requires.1)

pub returns-then-is_some : goal.returns-then-is_some
returns-then-is_some c = (
  found c.args.image.bytes.now c.args.trace.now c.args.tag c.args.o c.loop-f.invariant c.args.image.accepted
      (searching_count c.args.image.bytes.now c.section-containers.ensures c.loop-f-test.true) c.run_forbids.ensures c.if-run_forbids.true c.find_file-found.ensures.0
      (inside_some _ c.find_file-found.ensures.1 c.is_some.ensures c.if-is_some.true),
  c.find_file-found.ensures.1,
)

pub loop-f-preserved : goal.loop-f-preserved
loop-f-preserved c =
    let count = searching_count c.args.image.bytes.now c.section-containers.ensures c.loop-f-test.true in
    elim c.if-run_forbids.branch [
      | then-run_forbids+else-is_some w ↦ rw (w.links-is, w.steps-is)
          (nothing c.args.image.bytes.now c.args.trace.now c.args.tag c.args.o c.loop-f.invariant c.args.image.accepted count c.run_forbids.ensures w.if-run_forbids.true
          w.find_file-found.ensures.0 (none_file _ w.is_some.ensures w.if-is_some.false))
      | else-run_forbids w ↦ rw (w.links-is, w.steps-is)
          (skip c.args.image.bytes.now c.args.trace.now c.args.tag c.args.o c.loop-f.invariant count c.run_forbids.ensures w.if-run_forbids.false)
    ]

pub returns : goal.returns
returns c =
    (ended c.args.image.bytes.now c.args.trace.now c.args.tag c.args.o c.loop-f.invariant c.section-containers.ensures c.loop-f-test.false, tt)
