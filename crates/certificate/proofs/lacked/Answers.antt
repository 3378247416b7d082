use native.Mathlib.Omega.{arith}
use mathlib.Core.Path.{sym, ◌∙◌}
use mathlib.Core.List.{map}
use lib.ListN.{length-map}
use Rattle.lists.proofs.Copying.{copied_next}
use Rattle.lists.proofs.Places.{map_at}
use Rattle.certificate.specs.Origins.{lacked_by}
use Rattle.certificate.proofs.NumbersLaws.{padded_start, padded_end}
use Rattle.certificate.proofs.lacked.Goals as goal

pub loop-i-init : goal.loop-i-init
loop-i-init c =
    padded_start (map (lacked_by c.args.tag) c.args.mixtures.now) (omega (arith, c.requires, length-map c.args.mixtures.now (lacked_by c.args.tag)))

pub loop-i-preserved : goal.loop-i-preserved
loop-i-preserved c =
    copied_next _ _ _ _ _ c.loop-i.invariant _ _ (omega arith) (omega (arith, c.loop-i-test.true, length-map c.args.mixtures.now (lacked_by c.args.tag)))
    (c.lacked_by.ensures ∙ sym (map_at (lacked_by c.args.tag) c.args.mixtures.now c.loop-i.i 0 0 c.loop-i-test.true))

pub returns : goal.returns
returns c =
    padded_end (map (lacked_by c.args.tag) c.args.mixtures.now) _ _ c.loop-i.invariant
    (omega (arith, c.loop-i-test.false, length-map c.args.mixtures.now (lacked_by c.args.tag)))
