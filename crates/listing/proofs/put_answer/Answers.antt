-- By cases of the answer.
use mathlib.Core.Path.{sym, ap}
use Rattle.fields.specs.Ascii.{ascii}
use Rattle.answers.specs.declared.Answer.{Answer}
use Rattle.fields.proofs.WritingLaws.{wrote_as}
use Rattle.listing.specs.Lines.{line, answer_word, answer_fields}
use Rattle.listing.proofs.put_answer.Goals as goal

pub returns-in-Given : goal.returns-in-Given
unfolding answer_word answer_fields
returns-in-Given c =
    wrote_as
    (ap (λ (x : Answer). line (answer_word x) (answer_fields x)) (sym c.in-Given.is))
    c.put_verdict.ensures

pub returns-in-Refused : goal.returns-in-Refused
unfolding line answer_word answer_fields ascii
returns-in-Refused c =
    wrote_as
    (ap (λ (x : Answer). line (answer_word x) (answer_fields x)) (sym c.in-Refused.is))
    c.put_named.ensures
