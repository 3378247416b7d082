-- `files::write_whole`. Invariant: the first bytes are handed on (`Writing`).
use Rattle.files.proofs.CallLaws.{Writing}
use Rattle.files.proofs.write_whole.Given as goal

abbrev pub invariant-loop : goal.invariant-loop
invariant-loop l = Writing l.bytes l.initial.sent l.sent l.done
