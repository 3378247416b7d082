-- `figures::put_figures`. Counts, rate, containers and byte 10, one behind the other (`figures_text_lem`).
use Rattle.std.proofs.Common.{◌<◌, ◌≤◌, length, get_or, arith, length-set}
use Rattle.listing.specs.Lines.{newline}
use Rattle.fields.proofs.WritingLaws.{wrote_join, wrote_byte, wrote_as}
use Rattle.figures.specs.Counters.{counters}
use Rattle.figures.proofs.FigureLines.{counts_text_length, rate_length, alerted_text_length, figures_text_lem}
use Rattle.figures.proofs.put_figures.Goals as goal

pub put_rate-alerts-requires : goal.put_rate-alerts-requires
put_rate-alerts-requires c =
    let put_counts = c.put_counts-rate in
    omega (arith, counts_text_length c.args.counts.now, put_counts.ensures.ends)

pub put_alerted-end-requires : goal.put_alerted-end-requires
put_alerted-end-requires c =
    let n = c.args.counts.now in
    omega (
      arith,
      counts_text_length n,
      rate_length (get_or n 1 0) (get_or n 0 0),
      c.put_counts-rate.ensures.ends,
      c.put_rate-alerts.ensures.ends,
    )

pub bounds-out-end : goal.bounds-out-end
bounds-out-end c =
    let a = c.args in
    let n = a.counts.now in
    omega (
      arith,
      counts_text_length n,
      rate_length (get_or n 1 0) (get_or n 0 0),
      alerted_text_length a.alerted.now,
      c.put_counts-rate.ensures.ends,
      c.put_rate-alerts.ensures.ends,
      c.put_alerted-end.ensures.ends,
    )

pub overflow_add-result : goal.overflow_add-result
overflow_add-result c =
    let a = c.args in
    let p = c.put_alerted-end in
    let n = a.counts.now in
    let h : p.result < length p.new.out =
    omega (
      arith,
      counts_text_length n,
      rate_length (get_or n 1 0) (get_or n 0 0),
      alerted_text_length a.alerted.now,
      c.put_counts-rate.ensures.ends,
      c.put_rate-alerts.ensures.ends,
      c.put_alerted-end.ensures.ends,
    ) in
    omega (arith, h)

pub shape_of-out : goal.shape_of-out
shape_of-out c = let p = c.put_alerted-end in omega (arith, length-set p.new.out p.result newline)

pub returns : goal.returns
returns c records =
    let put_counts = c.put_counts-rate in
    let put_rate = c.put_rate-alerts in
    let a = c.args in
    let p = c.put_alerted-end in
    let n = a.counts.now in
    let h : a.at ≤ length a.out.now = omega arith in
    let room : p.result < length p.new.out =
    omega (
      arith,
      counts_text_length n,
      rate_length (get_or n 1 0) (get_or n 0 0),
      alerted_text_length a.alerted.now,
      put_counts.ensures.ends,
      put_rate.ensures.ends,
      p.ensures.ends,
    ) in
    wrote_as (figures_text_lem (counters records a.counts.now a.alerted.now))
    (wrote_join h (wrote_join h (wrote_join h put_counts.ensures put_rate.ensures) p.ensures)
    (wrote_byte newline p.result p.new.out room))
