-- `month::show_month`. The lines and the total, one behind the other.
use Rattle.month.proofs.CountedMonth.{month_of}
use Rattle.files.specs.Calls.{handed_as}
use Rattle.files.proofs.CallLaws.{done_as}
use Rattle.listing.proofs.Theorems.{listed_front}
use Rattle.figures.specs.Counters.{no_counters, counters_of, values_below}
use Rattle.figures.specs.Figures.{no_figures, figures_of}
use Rattle.answers.specs.Tallies.{count_of}
use mathlib.Core.Path.{refl}
use Rattle.month.proofs.show_month.Goals as goal

pub show_traces-requires : goal.show_traces-requires
unfolding no_counters counters_of values_below no_figures figures_of count_of
show_traces-requires c = (c.requires.0, c.requires.1, refl, refl)

pub returns : goal.returns
returns c =
    done_as c.write_front.result
    (λ _ w. month_of _ _ _ _ _ c.in_ok-show_traces.ensures (handed_as (listed_front _ _ _ _ (c.put_total-end.ensures c.in_ok-show_traces.field-0)) w))
    c.write_front.ensures
