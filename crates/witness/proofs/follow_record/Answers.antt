-- A step is carried, another record leaves all as it was.
use mathlib.Core.Path.{sym, subst}
use Rattle.records.specs.declared.Request.{Request}
use Rattle.records.specs.Records.{Asked}
use Rattle.witness.proofs.TrackLaws.{took, left_out, took_long, took_asked, on_step, on_none}
use Rattle.witness.proofs.follow_record.Goals as goal

pub request_of-requires : goal.request_of-requires
request_of-requires c =
    took_long _ _ _ (took _ _ _ _ _ c.step-answer.ensures.0 c.is_step.ensures c.if-is_step.true)

pub carry-requires : goal.carry-requires
carry-requires c = (
  c.requires.0,
  c.requires.1,
  subst (λ (q : Request). Asked q) (sym c.request_of.ensures) (took_asked _ _ _ (took _ _ _ _ _ c.step-answer.ensures.0 c.is_step.ensures c.if-is_step.true)),
)

pub returns-then-is_step : goal.returns-then-is_step
returns-then-is_step c = (
  on_step _ _ _ _ _ _ _ _ _ _ (took _ _ _ _ _ c.step-answer.ensures.0 c.is_step.ensures c.if-is_step.true) c.request_of.ensures c.carry.ensures.0
      c.carry.ensures.1,
  c.step-answer.ensures.1,
)

pub returns-else-is_step : goal.returns-else-is_step
returns-else-is_step c =
    (on_none _ _ _ _ _ _ _ (left_out _ _ _ _ _ c.step-answer.ensures.0 c.is_step.ensures c.if-is_step.false), c.step-answer.ensures.1)
