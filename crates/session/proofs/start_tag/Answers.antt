-- No atom is the empty tag, an atom the set of it alone.
use native.Mathlib.Omega.{arith}
use Rattle.session.proofs.WrittenRows.{tag_none, atom_small, tag_some}
use Rattle.session.proofs.start_tag.Goals as goal

pub returns-then-atom-eq-NO_ATOM : goal.returns-then-atom-eq-NO_ATOM
returns-then-atom-eq-NO_ATOM c = tag_none _ c.if-atom-eq-NO_ATOM.true

pub overflow_shl-result : goal.overflow_shl-result
overflow_shl-result c = omega (arith, atom_small _ c.requires c.if-atom-eq-NO_ATOM.false)

pub returns : goal.returns
returns c = tag_some _ (atom_small _ c.requires c.if-atom-eq-NO_ATOM.false) c.if-atom-eq-NO_ATOM.false
