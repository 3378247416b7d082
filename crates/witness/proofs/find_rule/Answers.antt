-- The nodes after the trace, and the way back from one.
use native.Mathlib.Omega.{arith}
use mathlib.Core.Path.{refl}
use Rattle.chains.specs.Chains.{run_rule}
use Rattle.witness.specs.Explains.{rule_witness, rule_found, rule_steps}
use Rattle.witness.proofs.ExplainLaws.{held_backed, held_told}
use Rattle.witness.proofs.find_rule.Goals as goal

pub trace_back-requires : goal.trace_back-requires
trace_back-requires c =
    let t = c.follow.ensures.0 in
    (omega (arith, t.low c.args.c, c.requires.1), held_backed _ _ _ _ _ _ _ t (run_rule c.args.rule.now) refl c.args.c c.requires.3 _ refl _ c.requires.2)

pub returns : goal.returns
unfolding rule_witness rule_found rule_steps
returns c =
    let f = c.follow.ensures in
    let told = held_told _ _ _ _ _ _ _ f.0 (run_rule c.args.rule.now) refl c.args.c c.requires.3 _ refl _ c.requires.2 c.args.steps.now refl _ _
    c.trace_back.ensures.0 in
    (told.0, told.1, f.1, c.trace_back.ensures.1)
