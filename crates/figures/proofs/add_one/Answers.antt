-- `figures::add_one`. One place is set; a place behind the last changes none.
use Rattle.std.proofs.Common.{refl, sym}
use lib.Seq.{set_out}
use Rattle.figures.specs.Counters.{one_added}
use Rattle.figures.proofs.add_one.Goals as goal

pub returns-then-k-numbers : goal.returns-then-k-numbers
unfolding one_added
returns-then-k-numbers c = refl

pub returns-else-k-numbers : goal.returns-else-k-numbers
unfolding one_added
returns-else-k-numbers c = let a = c.args in sym (set_out a.numbers.now a.k _ c.if-k-numbers.false)
