-- `explain::Explainer::show_record`. Only what is forbidden is explained.
use mathlib.Core.Path.{sym, ap, ◌∙◌}
use borrow.Author.Tests.{not-true, not-false}
use Rattle.answers.specs.declared.Answer.{Answer}
use Rattle.answers.specs.Answers.{is_blocked}
use Rattle.files.proofs.CallLaws.{done_as}
use Rattle.explain.specs.Texts.{explanation_text}
use Rattle.explain.proofs.ExplainedRecords.{asked, record_quiet, record_found}
use Rattle.explain.proofs.Explainer.show_record.Goals as goal

pub returns-then-not-is_forbidden : goal.returns-then-not-is_forbidden
returns-then-not-is_forbidden c =
    record_quiet c.args.answer (explanation_text c.args.given.now.image.now c.args.given.now.trace.now c.args.n) _
    (sym c.is_forbidden.ensures ∙ not-true _ c.if-not-is_forbidden.true-raw)

pub show_explanation-requires : goal.show_explanation-requires
show_explanation-requires c = (
  asked _ _ _ c.args.given.now.accepted c.args.given.now.few c.requires (sym c.is_forbidden.ensures ∙ not-false _ c.if-not-is_forbidden.false-raw),
  c.is_blocked.ensures ∙ ap (λ (v : Answer). is_blocked v) c.requires,
)

pub returns : goal.returns
returns c =
    done_as c.show_explanation.result
    (λ _. record_found c.args.answer (explanation_text c.args.given.now.image.now c.args.given.now.trace.now c.args.n)
    (sym c.is_forbidden.ensures ∙ not-false _ c.if-not-is_forbidden.false-raw)) c.show_explanation.ensures
