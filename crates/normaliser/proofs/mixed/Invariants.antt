-- The invariant: what is left of the words, mixed into h, makes the whole.
use mathlib.Core.Path.{◌≡◌}
use lib.ListN.{drop}
use Rattle.normaliser.specs.Hashes.{mixed}
use Rattle.normaliser.proofs.mixed.Given as goal

abbrev pub invariant-loop-word : goal.invariant-loop-word
invariant-loop-word l = mixed l.h (drop l.word-index l.words) ≡ mixed 0 l.words
