-- `files::read_some`. What the system put into the buffer, and that the file ends: TO BE BELIEVED.
use Rattle.std.proofs.Common.{◌≤◌, length, arith}
use Rattle.files.specs.Calls.{taken_by_system, ends_by_system}
use Rattle.files.proofs.read_some.Goals as goal

pub returns-in-Ok : goal.returns-in-Ok
returns-in-Ok c =
    let l : c.in-Ok.n ≤ length c.read.new.buf = omega (arith, c.in-Ok.ensures.bound) in
    (l, taken_by_system c.args.name.now c.read.new.buf c.in-Ok.n c.args.place.now l, λ _ _. ends_by_system c.args.name.now _)
