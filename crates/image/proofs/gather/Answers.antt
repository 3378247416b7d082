use Rattle.lists.proofs.Copying.{copied_start, copied_next, copied_all}
use Rattle.image.proofs.RulesByNumber.{from_length, from_at}
use Rattle.image.specs.Image.{mixtures_in}
use lib.ListN.{length, take, drop}
use mathlib.Core.Path.{◌∙◌}
use native.Mathlib.Omega.{arith}
use Rattle.image.proofs.gather.Goals as goal

pub loop-j-init : goal.loop-j-init
loop-j-init c =
    let n = length c.args.out.now in
    copied_start (take n (drop c.args.first (mixtures_in c.args.m.now))) c.args.out.now 0
    (omega (arith, from_length c.args.m.now c.args.first n c.requires))

pub loop-j-preserved : goal.loop-j-preserved
loop-j-preserved c =
    let n = length c.args.out.now in
    let at = c.loop-j in
    copied_next (take n (drop c.args.first (mixtures_in c.args.m.now))) c.args.out.now at.out 0 at.j at.invariant at.j c.mixture.result (omega arith)
    (omega (arith, from_length c.args.m.now c.args.first n c.requires, at.invariant.long))
    (c.mixture.ensures ∙ from_at c.args.m.now c.args.first n c.requires at.j (omega (arith, at.invariant.long)))

pub returns : goal.returns
returns c =
    let n = length c.args.out.now in
    let at = c.loop-j in
    copied_all (take n (drop c.args.first (mixtures_in c.args.m.now))) c.args.out.now at.out at.j at.invariant
    (from_length c.args.m.now c.args.first n c.requires) (omega (arith, c.loop-j-test.false, c.loop-j.auto.out))
