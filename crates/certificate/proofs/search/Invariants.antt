-- Of the files before f none has a run rule that forbids and has a chain (`Searching`).
use Rattle.certificate.proofs.SearchLaws.{Searching}
use Rattle.certificate.proofs.search.Given as goal

abbrev pub invariant-loop-f : goal.invariant-loop-f
invariant-loop-f l = Searching l.image.bytes.now l.trace l.tag l.o l.initial.links l.initial.steps l.links l.steps l.f
