-- `watch::list_file`. Invariant: what is read is run, counted and its lines handed on (`Between`).
use Rattle.watch.proofs.ListedTrace.{Between}
use Rattle.watch.proofs.list_file.Given as goal

abbrev pub invariant-loop : goal.invariant-loop
invariant-loop l = Between l.name l.initial.session l.initial.sent l.session l.part l.tally l.place l.sent
