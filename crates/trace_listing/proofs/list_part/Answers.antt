-- `trace_listing::list_part`. The first n bytes of the part are lent, or all of them.
use native.Mathlib.Omega.{arith}
use lib.ListN.{length-take}
use lib.Seq.{take_all}
use borrow.Author.Rules.{rules}
use Rattle.trace_listing.proofs.list_part.Goals as goal

pub slice_bounds-list_records-end : goal.slice_bounds-list_records-end
slice_bounds-list_records-end c =
    omega (arith, length-take c.args.n c.args.part.now)

pub list_records-requires : goal.list_records-requires
list_records-requires c =
    (omega (arith, length-take c.args.n c.args.part.now), search rules)

pub returns-then-n-whole : goal.returns-then-n-whole
returns-then-n-whole c = (search rules, c.list_records.ensures)

pub returns : goal.returns
returns c =
    (search rules, rw (take_all c.args.n c.args.part.now (omega arith)) c.list_records-2.ensures)
