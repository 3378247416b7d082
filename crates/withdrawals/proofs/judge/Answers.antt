-- Each answer is the judgement that the tests before it leave.
use mathlib.Core.Path.{refl, ◌∙◌}
use Rattle.lists.proofs.Bools.{passes_test, fails_test}
use Rattle.withdrawals.proofs.JudgementTests.{old_even, required_even, proposed_is, judged_8, judged_1, judged_2, judged_flows}
use Rattle.withdrawals.proofs.judge.Goals as goal

pub returns-then-not-comparable : goal.returns-then-not-comparable
returns-then-not-comparable c = (judged_8 _ _ _ (fails_test c.comparable.ensures c.if-not-comparable.true-raw), refl)

pub rights_held-requires : goal.rights_held-requires
rights_held-requires c = old_even _ _ _ (passes_test c.comparable.ensures c.if-not-comparable.false-raw)

pub returns-then-not-rights_held : goal.returns-then-not-rights_held
returns-then-not-rights_held c =
    (judged_1 _ _ _ (passes_test c.comparable.ensures c.if-not-comparable.false-raw) (fails_test c.rights_held.ensures c.if-not-rights_held.true-raw), tt)

pub rights_held-requires-2 : goal.rights_held-requires-2
rights_held-requires-2 c = required_even _ _ _ (passes_test c.comparable.ensures c.if-not-comparable.false-raw)

pub returns-then-not-rights_held-2 : goal.returns-then-not-rights_held-2
returns-then-not-rights_held-2 c = (
  judged_2 _ _ _ (passes_test c.comparable.ensures c.if-not-comparable.false-raw) (passes_test c.rights_held.ensures c.if-not-rights_held.false-raw)
      (fails_test c.rights_held-2.ensures c.if-not-rights_held-2.true-raw),
  tt,
)

pub judge_flows-requires : goal.judge_flows-requires
judge_flows-requires c = proposed_is _ _ _ (passes_test c.comparable.ensures c.if-not-comparable.false-raw)

pub returns : goal.returns
returns c = (
  c.judge_flows.ensures
      ∙ judged_flows _ _ _ (passes_test c.comparable.ensures c.if-not-comparable.false-raw) (passes_test c.rights_held.ensures c.if-not-rights_held.false-raw)
      (passes_test c.rights_held-2.ensures c.if-not-rights_held-2.false-raw) _,
  tt,
)
