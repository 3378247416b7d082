-- `figures::put_places`. Invariant: the fields of the containers below c are written (`Placing`).
use Rattle.std.proofs.Common.{◌*◌, get_or}
use Rattle.image.specs.Limits.{container_limit}
use Rattle.figures.specs.Lines.{container_fields}
use Rattle.listing.specs.Buffer.{field_limit}
use Rattle.figures.proofs.FigureLines.{Placing}
use Rattle.figures.proofs.put_alerted.Given as goal

abbrev pub invariant-loop-c : goal.invariant-loop-c
invariant-loop-c l = Placing (λ i. container_fields i (get_or l.alerted i 0)) (2 * field_limit) container_limit l.initial.out l.out l.at l.next l.c
