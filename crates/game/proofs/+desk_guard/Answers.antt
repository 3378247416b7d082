use mathlib.Core.Path.{sym, subst, ◌∙◌}
use native.Mathlib.Omega.{arith}
use borrow.Author.Rules.{rules}
use Rattle.lists.proofs.Below.{failing_next, passing_next}
use Rattle.game.specs.Search.{Searched}
use Rattle.game.proofs.MoveSetLaws.{set_has, set_lacks}
use Rattle.game.proofs.DeskLaws.{set_reaches, last_round, set_searched, addition_judged, addition_barred, desk_found, desk_none}
use Rattle.game.proofs.GamePositions.{withdrawn_searched}
use Rattle.game.proofs.Turns.{guard_over, guard_passes, guard_spent, guard_found, guard_none, reply_barred, reply_judged}
use Rattle.game.proofs.+desk_guard.Goals as goal
use Rattle.game.proofs.+desk_guard.Goals.{desk-else-moves-k-eq1-via-then-moves-k-eq1+else-guard, desk-else-moves-k-eq1-via-else-moves-k-eq1}
use Rattle.game.proofs.+desk_guard.Goals.{guard-else-legal-via-then-legal+else-not-desk-2, guard-else-legal-via-else-legal}

-- ---- the desk

pub desk-returns-then-reaches : goal.desk-returns-then-reaches
desk-returns-then-reaches t c =
    set_reaches _ _ _ _ c.requires c.additions-moves.ensures c.reaches.ensures c.if-reaches.true

pub desk-returns-then-rounds-eq1 : goal.desk-returns-then-rounds-eq1
desk-returns-then-rounds-eq1 t c =
    last_round _ _ _ _ c.requires c.additions-moves.ensures c.reaches.ensures c.if-reaches.false c.if-rounds-eq1.true

pub desk-moved-requires : goal.desk-moved-requires
desk-moved-requires t c =
    let l = c.loop-k-test.true in
    (l, set_has _ _ c.additions-moves.ensures l c.if-moves-k-eq1.true)

pub desk-guard-requires : goal.desk-guard-requires
desk-guard-requires t c =
    let l = c.loop-k-test.true in
    let e = c.additions-moves.ensures in (
      search rules,
      set_searched _ _ 0 _ c.requires e c.reaches.ensures c.if-reaches.false _ l
          (set_has _ _ e l c.if-moves-k-eq1.true) c.moved.ensures,
    )

pub desk-returns-then-guard : goal.desk-returns-then-guard
desk-returns-then-guard t c =
    let l = c.loop-k-test.true in
    let e = c.additions-moves.ensures in
    desk_found _ _ _ _ c.requires _ l
    (addition_judged _ _ _ _ c.requires e c.reaches.ensures c.if-reaches.false _ l
    (set_has _ _ e l c.if-moves-k-eq1.true) c.moved.ensures c.guard.ensures ∙ c.if-guard.true)

pub desk-loop-k-preserved : goal.desk-loop-k-preserved
desk-loop-k-preserved t c =
    let l = c.loop-k-test.true in
    let e = c.additions-moves.ensures in
    failing_next _ _ _ c.loop-k.invariant l
    (elim c.else-moves-k-eq1.branch [
      | desk-else-moves-k-eq1-via-then-moves-k-eq1+else-guard w ↦
          addition_judged _ _ _ _ c.requires e c.reaches.ensures c.if-reaches.false _ l
          (set_has _ _ e l w.if-moves-k-eq1.true) w.moved.ensures w.guard.ensures ∙ w.if-guard.false
      | desk-else-moves-k-eq1-via-else-moves-k-eq1 w ↦ addition_barred _ _ _ _ _ (set_lacks _ _ e l w.if-moves-k-eq1.false)
    ])

pub desk-returns : goal.desk-returns
desk-returns t c = desk_none _ _ _ _ c.requires _ c.loop-k.invariant c.loop-k-test.false

-- ---- the guard

pub guard-returns-then-rounds-eq1 : goal.guard-returns-then-rounds-eq1
guard-returns-then-rounds-eq1 t c = sym (guard_over _ _ _ _ c.if-rounds-eq1.true)

pub guard-returns-then-not-desk : goal.guard-returns-then-not-desk
guard-returns-then-not-desk t c = guard_passes _ _ _ _ c.requires.some (sym c.desk.ensures ∙ c.if-not-desk.true)

pub guard-returns-then-left-eq0 : goal.guard-returns-then-left-eq0
guard-returns-then-left-eq0 t c = guard_spent _ _ _ _ c.requires.some (sym c.desk.ensures ∙ c.if-not-desk.false) c.if-left-eq0.true

pub guard-desk-requires-then-legal : goal.guard-desk-requires-then-legal
guard-desk-requires-then-legal t c =
    let s = c.requires in
    (omega arith, subst (Searched _ _) (sym c.withdrawn.ensures) (withdrawn_searched _ _ _ _ _ (omega (arith, s.some, c.if-rounds-eq1.false)) s))

pub guard-returns-then-not-desk-2 : goal.guard-returns-then-not-desk-2
guard-returns-then-not-desk-2 t c =
    guard_found _ _ _ _ c.requires.some _ (sym c.desk.ensures ∙ c.if-not-desk.false) c.if-left-eq0.false c.loop-k-test.true
    (reply_judged _ _ _ _ _ c.legal.ensures c.if-legal.true c.withdrawn.ensures c.desk-then-legal.ensures ∙ c.if-not-desk-2.true)

pub guard-loop-k-preserved : goal.guard-loop-k-preserved
guard-loop-k-preserved t c =
    passing_next _ _ _ c.loop-k.invariant c.loop-k-test.true
    (elim c.else-legal.branch [
      | guard-else-legal-via-then-legal+else-not-desk-2 w ↦
          reply_judged _ _ _ _ _ c.legal.ensures w.if-legal.true w.withdrawn.ensures w.desk-then-legal.ensures ∙ w.if-not-desk-2.false
      | guard-else-legal-via-else-legal w ↦ reply_barred _ _ _ _ _ c.legal.ensures w.if-legal.false
    ])

pub guard-returns : goal.guard-returns
guard-returns t c =
    guard_none _ _ _ _ c.requires.some _ (sym c.desk.ensures ∙ c.if-not-desk.false) c.if-left-eq0.false c.loop-k.invariant c.loop-k-test.false
