-- `files::write_some`. What the system took of the bytes: TO BE BELIEVED.
use Rattle.std.proofs.Common.{◌≤◌, length}
use Rattle.files.specs.Calls.{handed_by_system}
use Rattle.files.proofs.write_some.Goals as goal

pub returns-in-Ok : goal.returns-in-Ok
returns-in-Ok c =
    let l : c.in-Ok.n ≤ length c.args.bytes.now = c.in-Ok.ensures.bound in
    (l, handed_by_system c.args.bytes.now c.in-Ok.n c.args.sent.now l)
