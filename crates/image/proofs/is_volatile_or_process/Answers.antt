-- The tests, one after the other, are those of the disjunction.
use mathlib.Core.Path.{sym, ◌∙◌}
use Rattle.image.proofs.is_volatile_or_process.Goals as goal

pub returns-then-is_volatile : goal.returns-then-is_volatile
returns-then-is_volatile c = rw (sym c.is_volatile.ensures ∙ c.if-is_volatile.true)

pub returns : goal.returns
returns c = rw (sym c.is_volatile.ensures ∙ c.if-is_volatile.false) c.is_process.ensures
