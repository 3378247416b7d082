-- The mixtures are laid over zeros.
use Rattle.image.proofs.SpanWords.{span_clear_length, span_lent_length, span_words, span_long}
use Rattle.image.proofs.RulesByNumber.{from_length}
use Rattle.image.specs.Image.{mixtures_in}
use native.Mathlib.Omega.{arith}
use lib.ListN.{length-set}
use Rattle.image.proofs.put_span.Goals as goal

pub slice_bounds-clear-end : goal.slice_bounds-clear-end
slice_bounds-clear-end c = simp length-set (omega arith)

pub slice_bounds-gather-end : goal.slice_bounds-gather-end
slice_bounds-gather-end c =
    omega (
      arith,
      span_clear_length c.args.words.now c.clear.new.words c.args.count c.requires.0
          c.clear.ensures,
      c.requires.1,
    )

pub gather-requires : goal.gather-requires
gather-requires c =
    omega (
      arith,
      span_lent_length c.args.words.now c.clear.new.words c.args.count c.requires.0
          c.clear.ensures c.requires.1,
      c.requires.2,
    )

pub shape_of-words : goal.shape_of-words
shape_of-words c =
    span_long c.args.words.now c.clear.new.words c.gather.new.out
    (mixtures_in c.args.m.now) c.args.first c.args.count c.requires.0
    c.clear.ensures c.requires.1
    (from_length c.args.m.now c.args.first c.args.count c.requires.2) c.gather.ensures

pub returns : goal.returns
returns c =
    span_words c.args.words.now c.clear.new.words c.gather.new.out
    (mixtures_in c.args.m.now) c.args.first c.args.count c.requires.0
    c.clear.ensures c.requires.1
    (from_length c.args.m.now c.args.first c.args.count c.requires.2) c.gather.ensures
