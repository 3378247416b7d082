-- `operations::new_volatile`. The row is made new, and a new volatile is not judged (`volatile_done`).
use Rattle.operations.proofs.EffectLaws.{volatile_done}
use Rattle.operations.specs.EarlyTests.{new_words, bounded_words}
use Rattle.chains.specs.Table.{entry}
use borrow.Author.Rules.{rules}
use Rattle.operations.proofs.new_volatile.Goals as goal

pub overflow_mul-b : goal.overflow_mul-b
unfolding entry
overflow_mul-b c = search rules

pub overflow_add-b : goal.overflow_add-b
unfolding entry
overflow_add-b c = search rules

pub offset_bounds-s-b : goal.offset_bounds-s-b
unfolding entry
offset_bounds-s-b c = search rules

pub slice_bounds-put_row-end : goal.slice_bounds-put_row-end
unfolding entry
slice_bounds-put_row-end c = search rules

pub returns : goal.returns
unfolding entry new_words bounded_words
returns c =
    let unrestricted = c.unrestricted-all in
    volatile_done c.args.s.now c.args.p c.args.o _ unrestricted.ensures _ c.put_row.ensures
