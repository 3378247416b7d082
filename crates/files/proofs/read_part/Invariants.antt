-- `files::read_part`. Invariant: the first bytes of the buffer are the next of the file (`Reading`).
use Rattle.files.proofs.CallLaws.{Reading}
use Rattle.files.proofs.read_part.Given as goal

abbrev pub invariant-loop : goal.invariant-loop
invariant-loop l = Reading l.name l.initial.buf l.initial.place l.buf l.place l.size
