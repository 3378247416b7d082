-- `trace_listing::list_records`. What is written, and what is left of the part, is the whole of it (`Listing`).
use Prim.Native.Nat.{ℕ, min}
use mathlib.Core.Path.{refl, ap, ◌∙◌}
use lib.ListN.{length}
use Rattle.std.specs.declared.slice.Chunks.{Chunks}
use borrow.Author.Rules.{rules}
use Rattle.trace_listing.proofs.ListedParts.{listing_start, line_room, listing_next, listing_end}
use Rattle.trace_listing.proofs.list_records.Goals as goal

pub loop-bytes-init : goal.loop-bytes-init
loop-bytes-init c =
    let pieces = c.chunks-bytes-items.ensures in
    let same = c.into_iter-bytes-iterator.ensures.into_iter_gives in (
      ap (λ (p : Chunks ℕ). p.size) same ∙ pieces.size,
      listing_start _ _ _ _ _ _ c.requires.0 c.requires.1 refl refl (ap (λ (p : Chunks ℕ). p.rest.now) same ∙ pieces.rest),
    )

pub list_record-run-requires : goal.list_record-run-requires
list_record-run-requires c = line_room _ _ _ _ _ _ _ _ c.loop-bytes.invariant.1 c.in-Some.ensures.steps.1.2

pub loop-bytes-preserved : goal.loop-bytes-preserved
loop-bytes-preserved c =
    let piece = c.in-Some.ensures.steps in
    let loop = c.loop-bytes in (
      piece.0 ∙ loop.invariant.0,
      listing_next _ _ _ _ _ _ _ _ loop.invariant.1 piece.1.2 _ _ _ _ _ _
          piece.1.0 (piece.1.1 ∙ ap (λ (n : ℕ). min n (length loop.bytes-iterator.rest.now)) loop.invariant.0)
          c.step-answer.ensures.0 c.step-answer.ensures.1 c.list_record-run.ensures (search rules),
    )

pub returns : goal.returns
returns c = listing_end _ _ _ _ _ _ _ _ c.loop-bytes.invariant.1 c.in-None.ensures.steps.1.0
