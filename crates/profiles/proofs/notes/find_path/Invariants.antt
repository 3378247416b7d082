-- The notes passed are of other paths.
use lib.ListN.{take, drop}
use Rattle.profiles.proofs.NoteLaws.{NotesPassed}
use Rattle.profiles.proofs.notes.find_path.Given as goal

abbrev pub invariant-loop-j : goal.invariant-loop-j
invariant-loop-j l = NotesPassed l.text l.notes (take l.length (drop l.at l.text)) l.j
