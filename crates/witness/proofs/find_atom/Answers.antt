-- The nodes after the trace, and the way back from one.
use native.Mathlib.Omega.{arith}
use mathlib.Core.Path.{refl}
use Rattle.witness.specs.Told.{item_of}
use Rattle.witness.specs.Explains.{atom_witness, atom_found, atom_steps}
use Rattle.witness.proofs.ExplainLaws.{item_family, held_backed, held_told}
use Rattle.witness.proofs.find_atom.Goals as goal

pub trace_back-requires : goal.trace_back-requires
trace_back-requires c =
    let t = c.follow.ensures.0 in
    let k = c.place_of in (
      omega (arith, t.low k.result, c.requires.0),
      held_backed _ _ _ _ _ _ _ t (item_of c.args.k) (item_family c.args.k c.requires.3) c.args.c c.requires.2 _ k.ensures.0 _ c.requires.1,
    )

pub returns : goal.returns
unfolding atom_witness atom_found atom_steps
returns c =
    let f = c.follow.ensures in
    let told = held_told _ _ _ _ _ _ _ f.0 (item_of c.args.k) (item_family c.args.k c.requires.3) c.args.c c.requires.2 _ c.place_of.ensures.0 _ c.requires.1
    c.args.steps.now refl _ _ c.trace_back.ensures.0 in
    (told.0, told.1, f.1, c.trace_back.ensures.1)
