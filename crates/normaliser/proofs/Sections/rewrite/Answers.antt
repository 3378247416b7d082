-- Without any use of a rule the normal image is a header alone. An image has at most as many rules as the large tables do for.
use Rattle.std.proofs.Common.{arith}
use mathlib.Core.Path.{sym, ◌∙◌}
use Rattle.normaliser.proofs.FormRows.{rules_few}
use Rattle.normaliser.proofs.NormalCases.{header_alone}
use Rattle.normaliser.proofs.Sections.rewrite.Goals as goal

pub returns-then-names_nothing : goal.returns-then-names_nothing
returns-then-names_nothing c =
    header_alone c.args.self.now.containers.now c.args.self.now.users.now _ (sym c.names_nothing.ensures ∙ c.if-names_nothing.true) c.write_header.ensures

pub rewrite_sized-requires-else-rule_count-le-FEW_RULES : goal.rewrite_sized-requires-else-rule_count-le-FEW_RULES
rewrite_sized-requires-else-rule_count-le-FEW_RULES c =
    let few = rules_few c.args.self.now.accepted in
    (omega arith, omega arith, omega arith, omega arith, omega arith, omega arith, c.requires)
