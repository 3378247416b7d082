-- `operations::placewise_words`. The words behind the count as they meet, and what is unused in both is 0 (`words_met`).
use Rattle.operations.proofs.RowSteps.{words_met}
use Rattle.operations.proofs.placewise_words.Goals as goal

pub returns : goal.returns
returns c =
    words_met c.args.a.now c.args.b.now c.requires.0 c.requires.1 c.requires.2
