-- The container is there, and what is followed starts in it.
use native.Mathlib.Nat.{add-sub_cancel_left}
use Rattle.witness.proofs.BeginLaws.{accepted_container, start_past, start_none, start_own}
use borrow.Author.Rules.{rules}
use Rattle.witness.proofs.start_node.Goals as goal

pub returns-then-containers-c : goal.returns-then-containers-c
returns-then-containers-c c = start_past _ c.section-containers.ensures _ _ c.if-containers-c.true

pub starts-requires : goal.starts-requires
starts-requires c =
    (search rules, rw add-sub_cancel_left (accepted_container _ c.section-containers.ensures _ c.args.image.accepted c.if-containers-c.false), c.requires.1)

pub returns-then-not-starts : goal.returns-then-not-starts
returns-then-not-starts c =
    start_none _ c.section-containers.ensures _ _ c.if-containers-c.false (rw add-sub_cancel_left at c.starts.ensures) c.if-not-starts.true

pub returns : goal.returns
returns c =
    start_own _ c.section-containers.ensures _ _ c.if-containers-c.false (rw add-sub_cancel_left at c.starts.ensures) c.if-not-starts.false
