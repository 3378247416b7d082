-- The invariant: of the subjects before s, those that reach more than they write are looked at.
use Rattle.matrix.proofs.VerdictLoops.{Growing}
use Rattle.matrix.proofs.grown_reads.Given as goal

abbrev pub invariant-loop-s : goal.invariant-loop-s
invariant-loop-s l = Growing l.reads l.writes l.reach l.grown l.s
