-- Row by row over zeros.
use Rattle.session.proofs.RowsOfOneWidth.{Rowed}
use Rattle.image.specs.Limits.{user_limit}
use Rattle.session.specs.Limits.{user_width}
use Rattle.session.proofs.RecordRows.{user_rows}
use Rattle.session.proofs.fill_users.Given as goal

abbrev pub invariant-loop-i : goal.invariant-loop-i
invariant-loop-i l = Rowed user_width user_limit (user_rows l.users l.rules.records.now l.rules.mixtures.now) l.initial.out l.out l.i
