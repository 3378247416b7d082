-- Small tables do for few rules, and the large ones for as many as are handed over.
use Rattle.std.proofs.Common.{arith}
use Rattle.normaliser.proofs.RuleForms.{forms_few}
use Rattle.normaliser.proofs.write_policy.Goals as goal

pub write_sized-requires-else-forms-le-FEW_RULES : goal.write_sized-requires-else-forms-le-FEW_RULES
write_sized-requires-else-forms-le-FEW_RULES c =
    (forms_few c.requires.0, omega arith, omega arith, omega arith, c.requires.1)
