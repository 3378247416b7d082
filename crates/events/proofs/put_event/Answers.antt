-- `events::put_event`. Five numbers, one behind the other.
use native.Mathlib.Omega.{arith}
use mathlib.Core.Path.{sym}
use lib.ListN.{length-set}
use Rattle.events.specs.Events.{event_of}
use Rattle.events.proofs.EventWriting.{five_written}
use Rattle.events.proofs.put_event.Goals as goal

pub bounds-events-at-2 : goal.bounds-events-at-2
bounds-events-at-2 c = simp length-set (omega (arith, c.requires))

pub bounds-events-at-3 : goal.bounds-events-at-3
bounds-events-at-3 c = simp length-set (omega (arith, c.requires))

pub bounds-events-at-4 : goal.bounds-events-at-4
bounds-events-at-4 c = simp length-set (omega (arith, c.requires))

pub bounds-events-at-5 : goal.bounds-events-at-5
bounds-events-at-5 c = simp length-set (omega (arith, c.requires))

pub returns : goal.returns
unfolding event_of
returns c =
    rw (sym c.number.ensures, sym c.received_of-received.ensures) (five_written c.args.events.now c.args.at _ _ _ _ _ c.requires)
