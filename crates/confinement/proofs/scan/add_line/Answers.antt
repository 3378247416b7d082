-- Each way through the tests is one law of what is added.
use Rattle.confinement.proofs.LineAdditions.{no_number, no_program, program_added, modes_added}
use Rattle.confinement.proofs.scan.add_line.Goals as goal

pub returns-then-number-ge-PATHS : goal.returns-then-number-ge-PATHS
returns-then-number-ge-PATHS c =
    no_number _ _ _ _ _ c.requires.1 c.requires.2 c.if-number-ge-PATHS.true

pub returns-then-m-eq-PATHS : goal.returns-then-m-eq-PATHS
returns-then-m-eq-PATHS c =
    no_program _ _ _ _ _ c.requires.1 c.requires.2 c.if-number-ge-PATHS.false c.if-bits-eq0.true c.if-m-eq-PATHS.true

pub returns-then-bits-eq0 : goal.returns-then-bits-eq0
returns-then-bits-eq0 c =
    program_added _ _ _ _ _ c.requires.1 c.requires.2 c.requires.0 c.if-number-ge-PATHS.false c.if-bits-eq0.true c.if-m-eq-PATHS.false

pub overflow_sub-cell : goal.overflow_sub-cell
overflow_sub-cell c = c.requires.3 c.if-bits-eq0.false

pub returns : goal.returns
returns c =
    modes_added _ _ _ _ _ c.requires.1 c.requires.2 c.requires.0 c.if-number-ge-PATHS.false c.if-bits-eq0.false
