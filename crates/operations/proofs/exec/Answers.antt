-- `operations::exec`. The meet of o's run rule and u's rule has one mixture, or fits, or not (`exec_over`, `exec_done`).
use mathlib.Core.Path.{sym, ap, ◌∙◌}
use native.Mathlib.Omega.{arith}
use Rattle.rules.specs.Answers.{bounded_if_fits}
use Rattle.operations.proofs.RowSteps.{made_some, made_one, made_none}
use Rattle.operations.proofs.EffectLaws.{exec_places, exec_run, exec_user, exec_met, exec_over, exec_fit, exec_done}
use Rattle.operations.proofs.exec.Goals as goal

pub overflow_mul-x : goal.overflow_mul-x
overflow_mul-x c = omega (arith, exec_places c.args.s.now _ _ _ c.requires)

pub overflow_add-x : goal.overflow_add-x
overflow_add-x c = omega (arith, exec_places c.args.s.now _ _ _ c.requires)

pub overflow_mul-y : goal.overflow_mul-y
overflow_mul-y c = omega (arith, exec_places c.args.s.now _ _ _ c.requires)

pub overflow_add-y : goal.overflow_add-y
overflow_add-y c = omega (arith, exec_places c.args.s.now _ _ _ c.requires)

pub overflow_add-y-2 : goal.overflow_add-y-2
overflow_add-y-2 c = omega (arith, exec_places c.args.s.now _ _ _ c.requires)

pub offset_bounds-s-x : goal.offset_bounds-s-x
offset_bounds-s-x c = omega (arith, exec_places c.args.s.now _ _ _ c.requires)

pub bounds-s-x : goal.bounds-s-x
bounds-s-x c = omega (arith, exec_places c.args.s.now _ _ _ c.requires)

pub offset_bounds-s-y : goal.offset_bounds-s-y
offset_bounds-s-y c = omega (arith, exec_places c.args.s.now _ _ _ c.requires)

pub bounds-s-y : goal.bounds-s-y
bounds-s-y c = omega (arith, exec_places c.args.s.now _ _ _ c.requires)

pub mixture_at-requires : goal.mixture_at-requires
mixture_at-requires c =
    let s = c.args.s.now in (
      (exec_run s c.args.p c.args.o c.args.u c.requires).kept,
      (exec_user s c.args.p c.args.o c.args.u c.requires).kept,
      sym c.both_single.ensures ∙ c.if-both_single.true,
    )

pub launch-requires : goal.launch-requires
launch-requires c =
    let s = c.args.s.now in
    exec_fit s c.args.p c.args.o c.args.u c.requires _
    (made_one _ _ c.one-permit.ensures (c.mixture_at.ensures ∙ exec_met s c.args.p c.args.o c.args.u c.requires))

pub returns-then-both_single : goal.returns-then-both_single
returns-then-both_single c =
    let s = c.args.s.now in
    exec_done s c.args.p c.args.o c.args.u c.requires _
    (made_one _ _ c.one-permit.ensures (c.mixture_at.ensures ∙ exec_met s c.args.p c.args.o c.args.u c.requires))
    _ _ c.launch.ensures

pub meet_at-requires : goal.meet_at-requires
meet_at-requires c =
    let s = c.args.s.now in
    ((exec_run s c.args.p c.args.o c.args.u c.requires).kept, (exec_user s c.args.p c.args.o c.args.u c.requires).kept)

pub returns-in_default : goal.returns-in_default
returns-in_default c =
    let s = c.args.s.now in
    exec_over s c.args.p c.args.o c.args.u c.requires
    (made_none _ (c.meet_at.ensures ∙ ap bounded_if_fits (exec_met s c.args.p c.args.o c.args.u c.requires)) c.in_default.is)

pub launch-requires-2 : goal.launch-requires-2
launch-requires-2 c =
    let s = c.args.s.now in
    exec_fit s c.args.p c.args.o c.args.u c.requires _
    (made_some _ (c.meet_at.ensures ∙ ap bounded_if_fits (exec_met s c.args.p c.args.o c.args.u c.requires)) c.in-Some.is)

pub returns : goal.returns
returns c =
    let s = c.args.s.now in
    exec_done s c.args.p c.args.o c.args.u c.requires _
    (made_some _ (c.meet_at.ensures ∙ ap bounded_if_fits (exec_met s c.args.p c.args.o c.args.u c.requires)) c.in-Some.is)
    _ _ c.launch-2.ensures
