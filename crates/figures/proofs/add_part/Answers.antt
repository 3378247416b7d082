-- `figures::add_part`. What is counted, and what is left of the part, is the whole of it (`Counting`).
use Rattle.std.proofs.Common.{ℕ, min, length, ap, ◌∙◌, rules}
use Rattle.std.specs.declared.slice.Chunks.{Chunks}
use Rattle.figures.proofs.CountedParts.{counting_start, counting_next, counting_end}
use Rattle.figures.proofs.add_part.Goals as goal

pub loop-bytes-init : goal.loop-bytes-init
loop-bytes-init c =
    let pieces = c.chunks-bytes-items.ensures in
    let same = c.into_iter-bytes-iterator.ensures.into_iter_gives in (
      ap (λ (p : Chunks ℕ). p.size) same ∙ pieces.size,
      counting_start _ _ _ _ (ap (λ (p : Chunks ℕ). p.rest.now) same ∙ pieces.rest),
    )

pub loop-bytes-preserved : goal.loop-bytes-preserved
loop-bytes-preserved c =
    let piece = c.in-Some.ensures.steps in
    let loop = c.loop-bytes in (
      piece.0 ∙ loop.invariant.0,
      counting_next _ _ _ _ _ _ loop.invariant.1 piece.1.2 _ _ _ _ _
          piece.1.0 (piece.1.1 ∙ ap (λ (n : ℕ). min n (length loop.bytes-iterator.rest.now)) loop.invariant.0)
          c.step-answer.ensures.0 c.step-answer.ensures.1 c.add_answer-records.ensures (search rules) (search rules),
    )

pub returns : goal.returns
returns c = counting_end _ _ _ _ _ _ c.loop-bytes.invariant.1 c.in-None.ensures.steps.1.0
