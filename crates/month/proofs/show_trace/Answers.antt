-- `month::show_trace`. A new session, its counts, its line, its sum.
use Rattle.month.proofs.CountedMonth.{trace_shown}
use Rattle.files.specs.Calls.{handed_as}
use Rattle.listing.proofs.Theorems.{listed_front}
use Rattle.figures.specs.Counters.{no_counters, counters_of, values_below}
use Rattle.figures.specs.Figures.{no_figures, figures_of}
use Rattle.answers.specs.Tallies.{count_of}
use mathlib.Core.Path.{refl}
use borrow.Author.Rules.{rules}
use Rattle.month.proofs.show_trace.Goals as goal

pub add_file-requires : goal.add_file-requires
unfolding no_counters counters_of values_below no_figures figures_of count_of
add_file-requires c = (search (rules, c.requires.0), refl, refl)

pub returns : goal.returns
returns c =
    trace_shown _ _ _ _ _ _ _ _ _ _ c.requires.1 c.requires.2 c.start.ensures.1 c.in_ok-records.ensures
    (handed_as (listed_front _ _ _ _ c.put_trace-end.ensures) c.in_ok-write_front.ensures) c.add_total.ensures
