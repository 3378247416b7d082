-- `explain::Explainer::show_file`. The trace is the bytes that were read.
use mathlib.Core.Path.{refl}
use native.Mathlib.Omega.{arith}
use lib.ListN.{length-take}
use Rattle.fields.specs.Ascii.{ascii}
use Rattle.files.proofs.CallLaws.{done_as}
use Rattle.explain.proofs.WholeText.{trace_shown}
use borrow.Author.Rules.{rules}
use Rattle.explain.proofs.Explainer.show_file.Goals as goal

pub returns : goal.returns
unfolding ascii
returns c =
    done_as c.show_trace.result
    (λ _. trace_shown _ _ _ _ refl (search rules) c.in_ok-n.ensures.1 (simp length-take (omega arith)))
    c.show_trace.ensures
