-- Row by row over zeros.
use Rattle.session.proofs.RowsOfOneWidth.{Rowed}
use Rattle.image.specs.Limits.{container_limit}
use Rattle.session.specs.Limits.{row_width}
use Rattle.session.proofs.RecordRows.{container_rows}
use Rattle.session.proofs.fill_containers.Given as goal

abbrev pub invariant-loop-i : goal.invariant-loop-i
invariant-loop-i l = Rowed row_width container_limit (container_rows l.cs l.rules.records.now l.rules.mixtures.now) l.initial.out l.out l.i
