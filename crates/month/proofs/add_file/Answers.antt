-- `month::add_file`. Invariant: what is read is counted and not too long (`Counting`).
use Rattle.month.proofs.CountedMonth.{counting_start, counting_next, counted_all_lem, counted_front}
use mathlib.Core.Path.{refl, sym, ◌∙◌}
use Rattle.month.proofs.add_file.Goals.{then-got-via-then-got, then-got-via-else-got+then-too_long}
use Rattle.month.proofs.add_file.Goals as goal

pub loop-init : goal.loop-init
loop-init c = counting_start _ _ _ _ _ c.requires.1 c.requires.2 refl

pub returns-then-got : goal.returns-then-got
returns-then-got c = elim c.then-got.branch [
  | then-got-via-then-got w ↦
      counted_all_lem _ _ _ _ _ _ _ _ _ c.loop.invariant _ _ _ c.in_ok-got.ensures c.read_part.auto.buf _ _ _ _ c.add_part-records.ensures w.if-got.true
  | then-got-via-else-got+then-too_long w ↦
      counted_front _ _ _ _ _ _ _ _ _ c.loop.invariant _ _ _ c.in_ok-got.ensures c.read_part.auto.buf _ _ _ _ c.add_part-records.ensures w.if-got.false
      (sym w.too_long.ensures ∙ w.if-too_long.true)
]

pub loop-preserved : goal.loop-preserved
loop-preserved c =
    counting_next _ _ _ _ _ _ _ _ _
    c.loop.invariant
    _ _ _
    c.in_ok-got.ensures
    c.read_part.auto.buf
    _ _ _ _
    c.add_part-records.ensures
    c.if-got.false
    (sym c.too_long.ensures ∙ c.if-too_long.false)
    c.add_part-records.auto.session
    c.add_part-records.auto.alerted
