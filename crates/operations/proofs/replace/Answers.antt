-- `operations::replace`. What `put_row` wrote is read back by the judgement.
use Rattle.image.specs.Limits.{process_kind}
use Rattle.operations.specs.EarlyTests.{bounded_words, new_words}
use Rattle.operations.proofs.RowSteps.{new_judged, new_answer}
use borrow.Author.Rules.{rules}
use Rattle.operations.proofs.replace.Goals as goal

pub cover_answer-requires : goal.cover_answer-requires
unfolding new_words bounded_words
cover_answer-requires c =
    new_judged process_kind c.args.tag c.args.permit c.args.run c.args.behalf (search rules) _
    c.put_row.ensures (search rules) c.requires.1

pub returns : goal.returns
unfolding new_words bounded_words
returns c = (
  new_answer process_kind c.args.tag c.args.permit c.args.run c.args.behalf (search rules) _
      c.put_row.ensures c.args.receiver _
      c.cover_answer.ensures,
  c.put_row.ensures,
)
