-- The words of the rule, then its owner.
use Rattle.std.proofs.Common.{arith}
use Rattle.rule_words.specs.Words.{rule_width}
use Rattle.normaliser.proofs.FormRows.{front_long, row_done}
use Rattle.normaliser.proofs.Sections.put_row.Goals as goal

pub put_own_rule-requires : goal.put_own_rule-requires
put_own_rule-requires c = (front_long c.args.row.now rule_width (omega (arith, c.requires.0)), c.requires.1)

pub returns : goal.returns
returns c =
    row_done c.args.self.now.rules.records.now c.args.self.now.rules.mixtures.now c.args.self.now.rules.good _ c.requires.1 c.args.row.now c.requires.0
    c.put_own_rule.ensures c.read16.ensures.0
