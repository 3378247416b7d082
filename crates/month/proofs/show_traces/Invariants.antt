-- `month::show_traces`. Invariant: so many traces are shown (`Showing`); the names count up.
use Rattle.month.proofs.CountedMonth.{Showing}
use Rattle.figures.specs.Counters.{counters}
use Rattle.session.specs.Session.{start_of}
use Rattle.image.specs.Image.{policy_in}
use lib.ListN.{length}
use mathlib.Core.Path.{◌≡◌}
use Rattle.month.proofs.show_traces.Given as goal

abbrev pub invariant-loop-n : goal.invariant-loop-n
invariant-loop-n l =
    (length l.session ≡ length l.initial.session) × Showing (start_of (policy_in l.policy)) (counters l.total l.totals l.sums) l.n l.initial.sent l.sent
