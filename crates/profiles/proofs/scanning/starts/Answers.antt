-- `profiles::scanning::starts`. The library compares the first bytes.
use native.Mathlib.Omega.{arith}
use mathlib.Core.Path.{ap, ◌∙◌}
use lib.ListN.{drop, length-drop}
use lib.Seq.{take_all}
use Rattle.profiles.specs.Tokens.{starts}
use Rattle.profiles.proofs.WordScans.{starts_pointwise}
use Rattle.profiles.proofs.scanning.starts.Goals as goal

pub returns : goal.returns
returns c =
    c.starts_with.ensures.value ∙ starts_pointwise _ _
    ∙ ap (starts c.args.word.now) (take_all _ (drop c.args.at c.args.text.now) (omega (arith, length-drop c.args.at c.args.text.now)))
