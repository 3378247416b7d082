-- `figures::put_counts`. Invariant: the fields of the counts below k are written (`Placing`).
use Rattle.std.proofs.Common.{[], ◌∷◌, get_or}
use Rattle.listing.specs.Text.{decimal}
use Rattle.figures.specs.Figures.{count_limit}
use Rattle.listing.specs.Buffer.{field_limit}
use Rattle.figures.proofs.FigureLines.{Placing}
use Rattle.figures.proofs.put_counts.Given as goal

abbrev pub invariant-loop-n : goal.invariant-loop-n
invariant-loop-n l = Placing (λ i. decimal (get_or l.counts i 0) ∷ []) field_limit count_limit l.initial.out l.out l.at l.next l.n-index
