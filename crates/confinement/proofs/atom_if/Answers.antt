-- `confinement::atom_if`. A shift by less than 64 loses nothing.
use native.Mathlib.Omega.{arith}
use lib.Pow.{pow-lt}
use Prim.Native.Nat.{◌^◌, ◌<◌}
use Rattle.rules.specs.Answers.{tag_width}
use Rattle.confinement.proofs.atom_if.Goals as goal

pub returns-then-there : goal.returns-then-there
returns-then-there c = let l : 2 ^ c.args.k < 2 ^ tag_width = pow-lt c.requires in rw c.if-there.true (omega arith)
