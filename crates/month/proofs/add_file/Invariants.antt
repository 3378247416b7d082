-- `month::add_file`. Invariant: what is read is counted and not too long (`Counting`).
use Rattle.month.proofs.CountedMonth.{Counting}
use Rattle.month.proofs.add_file.Given as goal

abbrev pub invariant-loop : goal.invariant-loop
invariant-loop l =
    Counting l.name l.initial.session l.initial.alerted l.session l.part l.records l.counts l.alerted l.place
