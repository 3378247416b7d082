-- The words pass the row test of a rule, or the sieve makes them; both are the normal form.
use mathlib.Core.Path.{sym, ap, ◌∙◌}
use native.Mathlib.Omega.{arith}
use lib.ListN.{length}
use Rattle.derivation.proofs.PermitWords.{settle_long, settle_count, settle_kept, settle_made, settle_there}
use Rattle.derivation.proofs.settle.Goals as goal

pub kept_well-requires : goal.kept_well-requires
kept_well-requires c = settle_long c.args.words.now c.requires.0 c.requires.1

pub returns-then-kept_well : goal.returns-then-kept_well
returns-then-kept_well c = settle_kept c.args.words.now c.requires.0 c.requires.1 (sym c.kept_well.ensures ∙ c.if-kept_well.true)

pub rule_of-requires : goal.rule_of-requires
rule_of-requires c =
    (settle_long c.args.words.now c.requires.0 c.requires.1, settle_count c.args.words.now c.requires.0 c.requires.1)

pub normal-requires : goal.normal-requires
normal-requires c = omega (arith, c.requires.0, ap length c.rule_of.ensures)

pub put_rule-requires : goal.put_rule-requires
put_rule-requires c = settle_long c.args.words.now c.requires.0 c.requires.1

pub returns-in-Some : goal.returns-in-Some
returns-in-Some c =
    settle_made c.args.words.now c.requires.0 c.requires.1 c.rule_of.ensures c.normal.ensures c.in-Some.is c.put_rule.ensures

pub returns-in_default : goal.returns-in_default
returns-in_default c = absurd (settle_there c.args.words.now c.requires.0 c.requires.1 c.rule_of.ensures c.normal.ensures c.in_default.is)
