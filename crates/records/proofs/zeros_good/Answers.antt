-- `records::zeros_good`. The zero byte, then the upper byte of the process, then that of the object.
use Rattle.records.proofs.TestLaws.{zero_set, process_over, by_object}
use Rattle.records.proofs.zeros_good.Goals as goal

pub returns-then-w-ne0 : goal.returns-then-w-ne0
returns-then-w-ne0 c = zero_set c.args.w c.if-w-ne0.true

pub returns-then-w-ne0-2 : goal.returns-then-w-ne0-2
returns-then-w-ne0-2 c = process_over c.args.w c.if-w-ne0.false c.if-w-ne0-2.true

pub returns : goal.returns
returns c = by_object c.args.w c.if-w-ne0.false c.if-w-ne0-2.false
