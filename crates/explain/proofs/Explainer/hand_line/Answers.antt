-- `explain::Explainer::hand_line`. What stands in front, the steps, byte 10, one behind the other.
use Prim.Native.Nat.{ℕ}
use mathlib.Core.Path.{◌≡◌, ap}
use mathlib.Core.List.{List}
use lib.ListN.{length}
use Rattle.listing.specs.Lines.{leading}
use Rattle.explanations.specs.Lines.{step_fields}
use Rattle.explanations.specs.Buffer.{ended}
use Rattle.files.specs.Calls.{handed_then, handed_as}
use Rattle.files.proofs.CallLaws.{done_as}
use Rattle.explain.specs.Runs.{record_limit}
use Rattle.explain.proofs.HandLaws.{all_behind}
use borrow.Author.Rules.{rules}
use Rattle.explain.proofs.Explainer.hand_line.Goals as goal

pub returns : goal.returns
unfolding ended
returns c =
    let steps = c.args.self.now.steps in
    let long : length steps ≡ record_limit = search rules in
    done_as c.write_whole.result
    (λ _ w. handed_then c.in_ok-write_front.ensures
    (handed_then (handed_as (ap (λ (x : List ℕ). leading (step_fields x)) (all_behind record_limit c.args.first steps long)) c.in_ok-hand_steps.ensures) w))
    c.write_whole.ensures
