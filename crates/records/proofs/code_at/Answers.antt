-- `records::code_at`. The constant table is the paper's, row by row (`row_at`).
use Rattle.records.proofs.CodeLaws.{row_at}
use Rattle.records.proofs.code_at.Goals as goal

pub returns : goal.returns
returns c = row_at c.args.code _ c.requires.0 c.requires.1
