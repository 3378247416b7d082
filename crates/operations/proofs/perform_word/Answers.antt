-- `operations::perform_word`. What `perform` ensures of the request that the number asks for: the answer's number is handed on, and
-- what it received unless it is a refusal.
use mathlib.Core.Path.{sym, ap, ◌∙◌}
use Rattle.fields.specs.Bytes.{bytes_of}
use Rattle.answers.specs.Answers.{is_refused, received_of, answer_number}
use Rattle.records.specs.Records.{record_length}
use Rattle.operations.proofs.PerformLaws.{named, performed_record}
use borrow.Author.Rules.{rules}
use Rattle.operations.proofs.perform_word.Goals as goal

pub code_at-need-requires : goal.code_at-need-requires
code_at-need-requires c =
    let n = named c.args.s.now (bytes_of record_length c.args.w) c.requires.0 c.requires.1 _ c.request_in-q.ensures in
    (n.asked.code_low, n.asked.code_high)

pub perform-answer-requires : goal.perform-answer-requires
perform-answer-requires c =
    (named _ (bytes_of record_length c.args.w) c.requires.0 c.requires.1 _ c.request_in-q.ensures, c.code_at-need.ensures)

pub returns-then-is_refused : goal.returns-then-is_refused
returns-then-is_refused c =
    let done = performed_record _ (bytes_of record_length c.args.w) _ c.request_in-q.ensures _ _ c.perform-answer.ensures in
    let refuses = ap is_refused (sym done.0) ∙ sym c.is_refused.ensures ∙ c.if-is_refused.true in
    (c.number.ensures ∙ ap answer_number done.0, done.1, rw refuses, λ l. l)

pub returns : goal.returns
returns c =
    let done = performed_record _ (bytes_of record_length c.args.w) _ c.request_in-q.ensures _ _ c.perform-answer.ensures in
    let gives = ap is_refused (sym done.0) ∙ sym c.is_refused.ensures ∙ c.if-is_refused.false in
    (c.number-2.ensures ∙ ap answer_number done.0, done.1, rw gives (c.received_of-e.ensures ∙ ap received_of done.0), λ l. search (rules, c.received_of-e.type_inv))
