-- `figures::add_total`. Nothing is added of a trace that is too long; else number by number.
use Rattle.std.proofs.Common.{◌≡◌, ◌+◌, ◌%◌, ◌^◌, length, get_or, sym, ap, ◌∙◌, rules}
use Rattle.image.specs.Limits.{container_limit}
use Rattle.figures.specs.Figures.{count_limit, sum_of}
use Rattle.figures.specs.Counters.{values_below, counters_of, figures_in, total_with}
use Rattle.figures.proofs.add_total.Goals as goal

pub returns-then-too_long : goal.returns-then-too_long
unfolding total_with
returns-then-too_long c = rw (sym c.too_long.ensures ∙ c.if-too_long.true)

pub returns : goal.returns
unfolding total_with counters_of sum_of figures_in
returns c =
    let a = c.args in
    let k : length a.counts.now ≡ count_limit = search rules in
    let l : length a.alerted.now ≡ container_limit = search rules in
    rw (
      sym c.too_long.ensures ∙ c.if-too_long.false,
      c.add_numbers.ensures ∙ ap (values_below (λ i. (get_or a.totals.now i 0 + get_or a.counts.now i 0) % 2 ^ 32)) k,
      c.add_numbers-2.ensures ∙ ap (values_below (λ i. (get_or a.sums.now i 0 + get_or a.alerted.now i 0) % 2 ^ 32)) l,
    )
