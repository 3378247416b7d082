-- `operations::narrow`. What `set_single` wrote is read back by the judgement.
use mathlib.Core.Path.{refl}
use mathlib.Core.List.{[], ◌∷◌}
use Rattle.rules.specs.Answers.{bounded_of, padded}
use Rattle.operations.proofs.RowSteps.{content_judged, content_answer}
use Rattle.operations.proofs.narrow.Goals as goal

pub cover_answer-requires : goal.cover_answer-requires
unfolding bounded_of padded
cover_answer-requires c =
    content_judged c.args.row.now c.args.tag c.requires.0 (bounded_of (c.args.mixture ∷ [])) _
    c.set_single.ensures refl c.requires.1

pub returns : goal.returns
returns c = (
  content_answer c.args.row.now c.args.tag c.requires.0 (bounded_of (c.args.mixture ∷ []))
      _ c.set_single.ensures c.args.receiver _ c.cover_answer.ensures,
  c.set_single.ensures,
)
