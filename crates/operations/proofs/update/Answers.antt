-- `operations::update`. What `set_content` wrote is read back by the judgement.
use Rattle.operations.proofs.RowSteps.{content_judged, content_answer}
use borrow.Author.Rules.{rules}
use Rattle.operations.proofs.update.Goals as goal

pub cover_answer-requires : goal.cover_answer-requires
cover_answer-requires c =
    content_judged c.args.row.now c.args.tag c.requires.0 c.args.run _
    c.set_content.ensures (search rules) c.requires.1

pub returns : goal.returns
returns c = (
  content_answer c.args.row.now c.args.tag c.requires.0 c.args.run _
      c.set_content.ensures c.args.receiver _
      c.cover_answer.ensures,
  c.set_content.ensures,
)
