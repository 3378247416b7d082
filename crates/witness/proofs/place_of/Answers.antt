-- Data, then running.
use native.Mathlib.Omega.{arith}
use mathlib.Core.Path.{sym}
use Rattle.witness.proofs.ExplainLaws.{item_low, item_high}
use Rattle.witness.proofs.place_of.Goals as goal

pub returns-then-k-lt-DATA_WIDTH : goal.returns-then-k-lt-DATA_WIDTH
returns-then-k-lt-DATA_WIDTH c = (sym (item_low _ _ c.if-k-lt-DATA_WIDTH.true), omega (arith, c.requires))

pub returns : goal.returns
returns c = (sym (item_high _ _ c.if-k-lt-DATA_WIDTH.false), omega (arith, c.requires))
