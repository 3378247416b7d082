-- `operations::perform`. 10 to 14 and 18 refuse, or the step is ready for its operation.
use Rattle.operations.proofs.PerformLaws.{perform_refused, perform_done, ready}
use Rattle.records.specs.Records.{step_in}
use Rattle.answers.proofs.Outcomes.{accepted, refused_by, not_accepted}
use mathlib.Core.Path.{sym, ◌∙◌}
use Rattle.operations.proofs.perform.Goals as goal

pub by_code-requires : goal.by_code-requires
by_code-requires c = (
  c.requires.0,
  ready c.args.s.now c.args.q c.requires.0 (accepted c.early_refusal.ensures c.in-Ok.is),
)

pub returns-in-Ok : goal.returns-in-Ok
returns-in-Ok c = perform_done c.args.s.now (step_in c.args.q) (accepted c.early_refusal.ensures c.in-Ok.is) _ _ c.by_code.ensures

pub returns-in-Err : goal.returns-in-Err
returns-in-Err c =
    let told = refused_by c.early_refusal.ensures c.in-Err.is in
    perform_refused c.args.s.now (step_in c.args.q) _ (c.number.ensures ∙ sym told)
    (λ z. not_accepted c.early_refusal.ensures c.in-Err.is (told ∙ sym c.number.ensures ∙ z))
