-- `capi::yaslaurel_matrix_game`. The values are handed on, the move's numbers unless the game is refused.
use mathlib.Core.Path.{ap, ◌∙◌}
use borrow.Author.Tests.{lt-ltb, le-ltb}
use Rattle.game.specs.declared.OutcomeValues.{OutcomeValues}
use Rattle.capi.proofs.yaslaurel_matrix_game.Goals as goal

pub returns-then-values-gt-DESK : goal.returns-then-values-gt-DESK
returns-then-values-gt-DESK c =
    let e = c.outcome_values-values.ensures ∙ c.play-outcome.ensures.0 in
    let refused = lt-ltb 1 _ c.if-values-gt-DESK.true in
    (ap (λ (x : OutcomeValues). x.number) e, rw (← e, refused), rw (← e, refused), rw (← e, refused))

pub returns : goal.returns
returns c =
    let e = c.outcome_values-values.ensures ∙ c.play-outcome.ensures.0 in
    let given = le-ltb 1 _ c.if-values-gt-DESK.false in
    (ap (λ (x : OutcomeValues). x.number) e, rw (← e, given), rw (← e, given), rw (← e, given))
