-- Nothing more than they read comes to the subjects, or it is worked out.
use native.Mathlib.Omega.{arith}
use mathlib.Core.Path.{sym, ◌∙◌}
use lib.Seq.{length-take-le}
use Rattle.matrix.proofs.GoodLaws.{good_parts}
use Rattle.silence.proofs.ExchangeLaws.{read_closed, whole_good_lem, whole_silent}
use Rattle.silence.proofs.matrix_quiet.Goals as goal

pub rows_closed-requires : goal.rows_closed-requires
rows_closed-requires c = sym (good_parts _ _ _ c.requires).even

pub all_quiet-requires : goal.all_quiet-requires
all_quiet-requires c = read_closed _ _ _ c.requires (sym c.rows_closed.ensures ∙ c.if-rows_closed.true)

pub slice_bounds-composed_quiet-end : goal.slice_bounds-composed_quiet-end
slice_bounds-composed_quiet-end c = sym (length-take-le _ _ (omega arith))

pub slice_bounds-composed_quiet-end-then-m-lt-SUBJECT_LIMIT : goal.slice_bounds-composed_quiet-end-then-m-lt-SUBJECT_LIMIT
slice_bounds-composed_quiet-end-then-m-lt-SUBJECT_LIMIT c = sym (length-take-le _ _ (omega (arith, (good_parts _ _ _ c.requires).even)))

pub composed_quiet-requires : goal.composed_quiet-requires
composed_quiet-requires c = whole_good_lem _ _ _ c.requires

pub returns-then-m-lt-SUBJECT_LIMIT : goal.returns-then-m-lt-SUBJECT_LIMIT
returns-then-m-lt-SUBJECT_LIMIT c = c.composed_quiet.ensures ∙ whole_silent _ _ _ c.requires

pub slice_bounds-composed_quiet-end-2 : goal.slice_bounds-composed_quiet-end-2
slice_bounds-composed_quiet-end-2 c = sym (length-take-le _ _ (omega arith))

pub slice_bounds-composed_quiet-end-3 : goal.slice_bounds-composed_quiet-end-3
slice_bounds-composed_quiet-end-3 c = sym (length-take-le _ _ (omega (arith, (good_parts _ _ _ c.requires).even)))

pub composed_quiet-requires-2 : goal.composed_quiet-requires-2
composed_quiet-requires-2 c = whole_good_lem _ _ _ c.requires

pub returns : goal.returns
returns c = c.composed_quiet-2.ensures ∙ whole_silent _ _ _ c.requires
