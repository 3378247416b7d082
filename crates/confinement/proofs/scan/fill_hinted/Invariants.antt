-- Each line's path takes its number; then the line adds a program, or modes to the last one.
use mathlib.Core.Path.{◌≡◌}
use lib.ListN.{length}
use Rattle.confinement.specs.Scans.{hint_count}
use Rattle.confinement.proofs.FilledTables.{TextScan}
use Rattle.confinement.proofs.scan.fill_hinted.Given as goal

abbrev pub invariant-loop-word : goal.invariant-loop-word
invariant-loop-word l =
    TextScan l.text l.words l.starts l.sizes l.own l.modes l.word-index l.n l.m × (length l.hints ≡ hint_count)
