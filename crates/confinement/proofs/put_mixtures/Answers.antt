use native.Mathlib.Omega.{arith}
use native.Mathlib.Nat.{add-sub_cancel_left}
use Prim.Native.Nat.{◌+◌, ◌-◌, ◌*◌}
use lib.ListN.{drop, length-take}
use Rattle.rules.specs.Answers.{data_width}
use Rattle.confinement.proofs.LoopLaws.{filling_start, filling_next, filling_end}
use Rattle.confinement.proofs.put_mixtures.Goals as goal

pub loop-j-init : goal.loop-j-init
loop-j-init c = filling_start _ _ _ c.requires.2

pub run_mixture-requires : goal.run_mixture-requires
run_mixture-requires c = (
  c.requires.5 _ c.loop-j-test.true,
  omega (
    arith,
    length-take (c.loop-j.j * data_width + c.args.n - c.loop-j.j * data_width) (drop (c.loop-j.j * data_width) c.args.modes.now),
  ),
)

pub loop-j-preserved : goal.loop-j-preserved
loop-j-preserved c =
    filling_next _ _ _ _ _ c.loop-j.invariant c.loop-j-test.true c.requires.1 (rw add-sub_cancel_left at c.run_mixture.ensures)

pub returns : goal.returns
returns c = filling_end _ _ _ _ c.loop-j.invariant c.loop-j-test.false
