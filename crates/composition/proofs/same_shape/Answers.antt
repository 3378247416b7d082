-- The containers decide, then the number of users.
use mathlib.Core.Path.{sym, ◌∙◌}
use Rattle.composition.proofs.ComposeCases.{shape_not, shape_if}
use Rattle.composition.proofs.same_shape.Goals as goal

pub returns-then-not-same_containers : goal.returns-then-not-same_containers
returns-then-not-same_containers c =
    shape_not c.args.first.bytes.now c.args.second.bytes.now
    (sym (rw (c.containers.ensures, c.containers-2.ensures) at c.same_containers.ensures) ∙ c.if-not-same_containers.true)

pub returns : goal.returns
returns c =
    rw (c.users.ensures, c.users-2.ensures)
    (shape_if c.args.first.bytes.now c.args.second.bytes.now
    (sym (rw (c.containers.ensures, c.containers-2.ensures) at c.same_containers.ensures) ∙ c.if-not-same_containers.false))
