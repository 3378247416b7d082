-- The sum of the definition.
use mathlib.Core.Path.{refl}
use Rattle.profiles.specs.LineWords.{line_word}
use Rattle.profiles.proofs.line_word.Goals as goal

pub returns : goal.returns
unfolding line_word
returns c = refl
