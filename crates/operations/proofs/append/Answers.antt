-- `operations::append`. The object absorbs what the process has (`append_done`), unless it guards itself from the tag (`append_blocked`).
use mathlib.Core.Path.{refl, sym, ap₂, ◌∙◌}
use lib.Bits.{bit_or}
use Rattle.chains.specs.History.{append}
use Rattle.chains.specs.Table.{entry}
use Rattle.operations.proofs.ReadyLaws.{ready_process, ready_object}
use Rattle.operations.proofs.EffectLaws.{append_done, append_blocked}
use Rattle.operations.proofs.append.Goals as goal

pub tag_of-held-requires : goal.tag_of-held-requires
unfolding entry
tag_of-held-requires c = (c.requires.long, c.requires.process)

pub tag_of-stored-requires : goal.tag_of-stored-requires
unfolding entry
tag_of-stored-requires c = (c.requires.long, c.requires.object)

pub guards-requires : goal.guards-requires
unfolding entry
guards-requires c =
    ready_object c.args.s.now (append c.args.p c.args.o) c.requires refl

pub withheld-requires : goal.withheld-requires
unfolding entry
withheld-requires c =
    let s = c.args.s.now in
    let t = append c.args.p c.args.o in (ready_object s t c.requires refl, ready_process s t c.requires)

pub returns-then-guards : goal.returns-then-guards
returns-then-guards c =
    append_blocked c.args.s.now c.args.p c.args.o _
    (ap₂ bit_or c.tag_of-stored.ensures c.tag_of-held.ensures)
    (sym c.guards.ensures ∙ c.if-guards.true) _ c.withheld.ensures

pub absorb-requires : goal.absorb-requires
unfolding entry
absorb-requires c =
    let s = c.args.s.now in
    let t = append c.args.p c.args.o in (ready_object s t c.requires refl, ready_process s t c.requires)

pub returns : goal.returns
returns c =
    append_done c.args.s.now c.args.p c.args.o _
    (ap₂ bit_or c.tag_of-stored.ensures c.tag_of-held.ensures)
    (sym c.guards.ensures ∙ c.if-guards.false) _ _ c.absorb.ensures
