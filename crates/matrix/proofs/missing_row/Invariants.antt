-- The invariant: the flows of the subjects before s are in the two rows.
use Rattle.matrix.proofs.VerdictLoops.{Missing}
use Rattle.matrix.proofs.missing_row.Given as goal

abbrev pub invariant-loop-s : goal.invariant-loop-s
invariant-loop-s l = Missing l.reads l.writes l.reach l.a l.granted l.reached l.s
