use native.Mathlib.Omega.{arith}
use Rattle.confinement.specs.Tables.{path_at}
use Rattle.confinement.proofs.PathSearch.{search_start, search_hit, search_next, search_end}
use Rattle.confinement.proofs.scan.find.Goals as goal

pub loop-j-init : goal.loop-j-init
loop-j-init c =
    search_start c.args.text.now (path_at c.args.text.now c.args.start c.args.size) c.args.starts.now
    c.args.sizes.now c.args.n c.requires.0

pub bounds-starts-j : goal.bounds-starts-j
bounds-starts-j c = omega (arith, c.loop-j.invariant.spans.starts_long, c.loop-j.invariant.spans.few)

pub bounds-sizes-j : goal.bounds-sizes-j
bounds-sizes-j c = omega (arith, c.loop-j.invariant.spans.sizes_long, c.loop-j.invariant.spans.few)

pub same_path-requires : goal.same_path-requires
same_path-requires c =
    (c.requires.1, c.loop-j.invariant.spans.within _ c.loop-j-test.true)

pub returns-then-same_path : goal.returns-then-same_path
returns-then-same_path c =
    search_hit _ _ _ _ _ _ c.loop-j.invariant c.loop-j-test.true _ c.same_path.ensures c.if-same_path.true

pub loop-j-preserved : goal.loop-j-preserved
loop-j-preserved c =
    search_next _ _ _ _ _ _ c.loop-j.invariant c.loop-j-test.true _ c.same_path.ensures c.if-same_path.false

pub returns : goal.returns
returns c = search_end _ _ _ _ _ _ c.loop-j.invariant c.loop-j-test.false
