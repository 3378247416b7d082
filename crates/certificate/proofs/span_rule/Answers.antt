use Prim.Native.Nat.{◌+◌}
use native.Mathlib.Omega.{arith}
use mathlib.Core.Path.{◌∙◌}
use lib.ListN.{take, drop}
use Rattle.lists.proofs.Copying.{copied_next}
use Rattle.image.specs.Image.{mixtures_in}
use Rattle.image.proofs.RecordsByPlace.{mixture_at}
use Rattle.image.proofs.RulesByNumber.{from_length, from_at}
use Rattle.certificate.proofs.NumbersLaws.{padded_start}
use Rattle.certificate.proofs.ImageRules.{span_end}
use Rattle.certificate.proofs.span_rule.Goals as goal

pub loop-j-init : goal.loop-j-init
loop-j-init c =
    padded_start (take c.args.count (drop c.args.first (mixtures_in c.args.m.now)))
    (omega (arith, c.requires, from_length c.args.m.now c.args.first c.args.count c.requires.1))

pub loop-j-preserved : goal.loop-j-preserved
loop-j-preserved c =
    copied_next _ _ _ _ _ c.loop-j.invariant _ _ (omega arith)
    (omega (arith, c.loop-j-test.true, from_length c.args.m.now c.args.first c.args.count c.requires.1))
    (c.read64.ensures ∙ mixture_at c.args.m.now (c.args.first + c.loop-j.j) (omega (arith, c.loop-j-test.true, c.requires)) ∙ from_at c.args.m.now
    c.args.first c.args.count c.requires.1 c.loop-j.j c.loop-j-test.true)

pub returns : goal.returns
returns c =
    span_end c.args.m.now c.args.first c.args.count _ _ c.requires.0 c.requires.1 c.loop-j.invariant c.loop-j-test.false
