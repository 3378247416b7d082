-- The invariant: the bytes of the first i mixtures are written.
use mathlib.Core.List.{map}
use Rattle.fields.specs.Bytes.{bytes_of}
use Rattle.fields.proofs.RowWriting.{RowsWritten}
use Rattle.image.specs.Limits.{mixture_size}
use Rattle.normaliser.proofs.write_rule.Given as goal

abbrev pub invariant-loop-mixture : goal.invariant-loop-mixture
invariant-loop-mixture l = RowsWritten (map (bytes_of mixture_size) l.rule) l.initial.out l.start l.out l.at l.mixture-index
