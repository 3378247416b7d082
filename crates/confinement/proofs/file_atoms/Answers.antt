-- `confinement::file_atoms`. By definition.
use Rattle.confinement.specs.Tables.{file_bits}
use Rattle.confinement.proofs.file_atoms.Goals as goal

pub returns : goal.returns
unfolding file_bits
returns c = rw (c.atom_if-2.ensures, c.atom_if.ensures, c.meets-2.ensures, c.meets.ensures)
