-- `operations::rule_copy`. The words behind the count are the mixtures, and the unused ones are 0 (`words_copied`).
use Rattle.operations.proofs.RowSteps.{words_copied}
use Rattle.operations.proofs.rule_copy.Goals as goal

pub returns : goal.returns
returns c = words_copied c.args.ws.now c.requires
