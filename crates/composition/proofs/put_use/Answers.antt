-- The words of the rule, then its owner.
use native.Mathlib.Omega.{arith}
use Rattle.rule_words.specs.Words.{rule_width}
use Rattle.normaliser.proofs.FormRows.{front_long}
use Rattle.composition.proofs.UseRows.{named_in, use_row}
use Rattle.composition.proofs.put_use.Goals as goal

pub put_rule_at-requires : goal.put_rule_at-requires
put_rule_at-requires c = (
  front_long c.args.row.now rule_width (omega (arith, c.requires.0)),
  rw c.rules-rules.ensures.0 (named_in c.args.policy.bytes.now c.args.policy.accepted c.args.n c.requires.1),
)

pub owner_at-requires : goal.owner_at-requires
owner_at-requires c = rw c.rules-rules.ensures.0 (named_in c.args.policy.bytes.now c.args.policy.accepted c.args.n c.requires.1)

pub returns : goal.returns
returns c =
    use_row c.args.policy.bytes.now c.args.policy.accepted c.args.n c.requires.1 c.args.row.now c.requires.0
    (rw (c.rules-rules.ensures.0, c.rules-rules.ensures.1) at c.put_rule_at.ensures) (rw c.rules-rules.ensures.0 at c.owner_at.ensures)
