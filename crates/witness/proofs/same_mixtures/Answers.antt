use Rattle.witness.proofs.MixturesInPlace.{mixture_passed, mixture_stopped, mixture_ended}
use Rattle.witness.proofs.same_mixtures.Goals as goal

pub returns-then-read64-mixture : goal.returns-then-read64-mixture
returns-then-read64-mixture c =
    mixture_stopped c.args.m.now c.args.first c.args.rule.now c.loop-j.j c.requires c.loop-j.invariant c.loop-j-test.true _
    c.read64.ensures c.if-read64-mixture.true

pub loop-j-preserved : goal.loop-j-preserved
loop-j-preserved c =
    mixture_passed c.args.m.now c.args.first c.args.rule.now c.loop-j.j c.requires c.loop-j.invariant c.loop-j-test.true _
    c.read64.ensures c.if-read64-mixture.false

pub returns : goal.returns
returns c =
    mixture_ended c.args.m.now c.args.first c.args.rule.now c.loop-j.j c.requires c.loop-j.invariant c.loop-j-test.false
