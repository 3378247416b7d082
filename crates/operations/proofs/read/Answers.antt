-- `operations::read`. The process absorbs what the object has (`read_done`).
use Prim.Native.Nat.{ℕ}
use mathlib.Core.Path.{refl, ap₂, ◌∙◌}
use lib.Bits.{bit_or}
use Rattle.rules.specs.Sets.{data_of}
use Rattle.rules.specs.Answers.{data_width}
use Rattle.chains.specs.History.{read}
use Rattle.chains.specs.Table.{entry}
use Rattle.operations.proofs.ReadyLaws.{ready_process, ready_object}
use Rattle.operations.proofs.EffectLaws.{read_done}
use Rattle.operations.proofs.read.Goals as goal

pub tag_of-held-requires : goal.tag_of-held-requires
unfolding entry
tag_of-held-requires c = (c.requires.long, c.requires.process)

pub tag_of-stored-requires : goal.tag_of-stored-requires
unfolding entry
tag_of-stored-requires c = (c.requires.long, c.requires.object)

pub absorb-requires : goal.absorb-requires
unfolding entry
absorb-requires c =
    let s = c.args.s.now in (
      ready_process s (read c.args.p c.args.o) c.requires,
      ready_object s (read c.args.p
          c.args.o) c.requires refl,
    )

pub returns : goal.returns
returns c =
    read_done c.args.s.now c.args.p c.args.o c.requires _
    (c.add_data_atoms-tag.ensures ∙ ap₂ (λ (x y : ℕ). bit_or x (data_of data_width y)) c.tag_of-held.ensures c.tag_of-stored.ensures) _ _ c.absorb.ensures
