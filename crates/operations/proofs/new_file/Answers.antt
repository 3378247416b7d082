-- `operations::new_file`. The row is made new, and a new file is not judged (`file_done`).
use Rattle.operations.proofs.ReadyLaws.{ready_user}
use Rattle.operations.proofs.RowSteps.{user_kept_as, copied}
use Rattle.operations.proofs.EffectLaws.{file_done}
use native.Mathlib.Omega.{arith}
use mathlib.Core.Path.{refl}
use Rattle.operations.specs.EarlyTests.{new_words, bounded_words}
use Rattle.chains.specs.History.{new_file}
use Rattle.chains.specs.Table.{entry}
use borrow.Author.Rules.{rules}
use Rattle.operations.proofs.new_file.Goals as goal

pub overflow_mul-u : goal.overflow_mul-u
unfolding entry
overflow_mul-u c = omega (arith, c.requires.user c.args.u refl)

pub overflow_add-u : goal.overflow_add-u
unfolding entry
overflow_add-u c = omega (arith, c.requires.user c.args.u refl)

pub overflow_add-u-2 : goal.overflow_add-u-2
unfolding entry
overflow_add-u-2 c = omega (arith, c.requires.user c.args.u refl)

pub rule_at-permit-requires : goal.rule_at-permit-requires
unfolding entry
rule_at-permit-requires c =
    (user_kept_as c.args.s.now c.args.u
    (ready_user c.args.s.now (new_file c.args.p c.args.o c.args.u) c.requires c.args.u refl)).kept

pub overflow_mul-b : goal.overflow_mul-b
unfolding entry
overflow_mul-b c = search rules

pub overflow_add-b : goal.overflow_add-b
unfolding entry
overflow_add-b c = search rules

pub offset_bounds-s-b : goal.offset_bounds-s-b
unfolding entry
offset_bounds-s-b c = search rules

pub slice_bounds-put_row-end : goal.slice_bounds-put_row-end
unfolding entry
slice_bounds-put_row-end c = search rules

pub returns : goal.returns
unfolding entry new_words bounded_words
returns c =
    let s = c.args.s.now in
    file_done s c.args.p c.args.o c.args.u c.requires _ (copied s _ _ _ (user_kept_as s
    c.args.u (ready_user s (new_file c.args.p c.args.o c.args.u) c.requires
    c.args.u refl)) c.rule_at-permit.ensures) _
    c.unrestricted-all.ensures _ c.put_row.ensures
    _ c.empty_position-position.ensures
