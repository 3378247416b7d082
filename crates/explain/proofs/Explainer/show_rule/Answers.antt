-- `explain::Explainer::show_rule`. The line, as the numbers say it.
use Rattle.files.specs.Calls.{handed_as}
use Rattle.files.proofs.CallLaws.{done_as}
use Rattle.explanations.proofs.ExplanationLines.{wrote_front}
use Rattle.explain.proofs.WhyAnswers.{rule_shown}
use Rattle.explain.proofs.Explainer.show_rule.Goals as goal

pub returns : goal.returns
returns c = done_as c.hand_line.result (λ _. handed_as (rule_shown _ _ _ (wrote_front c.put_rule-end.ensures))) c.hand_line.ensures
