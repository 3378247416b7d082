-- A move that adds no holder wins as an idle one, any other through the guard's replies.
use Rattle.game.proofs.FirstMoves.{set_below, set_adds, first_barred, first_idle, first_reaches, first_searched, first_judged}
use Rattle.game.proofs.move_wins.Goals as goal

pub returns-then-not-legal : goal.returns-then-not-legal
returns-then-not-legal c = first_barred _ _ _ _ _ c.legal.ensures c.if-not-legal.true-raw

pub returns-then-moves-k-eq0 : goal.returns-then-moves-k-eq0
returns-then-moves-k-eq0 c =
    let s = c.requires in
    first_idle _ _ _ _ _ c.legal.ensures c.if-not-legal.false-raw s.0.apart s.3 s.2 c.if-moves-k-eq0.true

pub moved-q-requires : goal.moved-q-requires
moved-q-requires c = let s = c.requires in (set_below _ _ s.2 c.if-moves-k-eq0.false, set_adds _ _ s.2 c.if-moves-k-eq0.false)

pub returns-then-q-b-eq1 : goal.returns-then-q-b-eq1
returns-then-q-b-eq1 c =
    first_reaches _ _ _ _ _ c.legal.ensures c.if-not-legal.false-raw c.moved-q.ensures c.if-q-b-eq1.true

pub guard-requires : goal.guard-requires
guard-requires c =
    let s = c.requires in
    first_searched _ _ 0 _ _ s.0 s.2 c.if-moves-k-eq0.false c.moved-q.ensures c.if-q-b-eq1.false

pub returns : goal.returns
returns c =
    first_judged _ _ _ _ _ c.legal.ensures c.if-not-legal.false-raw c.moved-q.ensures c.if-q-b-eq1.false c.guard.ensures
