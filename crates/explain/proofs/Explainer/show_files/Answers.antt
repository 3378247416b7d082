-- `explain::Explainer::show_files`. The policy is the bytes that were read.
use Prim.Native.Nat.{◌+◌}
use mathlib.Core.Path.{◌≡◌, refl}
use lib.ListN.{length}
use Rattle.explain.specs.Runs.{trace_size}
use Rattle.fields.specs.Ascii.{ascii}
use Rattle.files.proofs.CallLaws.{done_as}
use Rattle.explain.proofs.WholeText.{started, shown_refused, shown_explained}
use borrow.Author.Rules.{rules}
use Rattle.explain.proofs.Explainer.show_files.Goals as goal

pub returns-in-Err : goal.returns-in-Err
unfolding ascii
returns-in-Err c =
    done_as c.refuse.result
    (λ _. shown_refused _ _ refl c.load.auto.buf c.in_ok-n.ensures.1 refl _ c.start.ensures.0 _ c.in-Err.is _ _) c.refuse.ensures

pub show_file-requires : goal.show_file-requires
unfolding ascii
show_file-requires c =
    let h = started _ _ refl c.load.auto.buf c.in_ok-n.ensures.1 refl _ c.start.ensures.0 _ c.in_default.is _ c.start.ensures.1 in
    let long : length c.args.trace.now ≡ trace_size + 1 = search rules in
    (h.0, h.1, long)

pub returns : goal.returns
unfolding ascii
returns c =
    done_as c.show_file.result
    (λ _. shown_explained _ _ refl c.load.auto.buf c.in_ok-n.ensures.1 refl _ c.start.ensures.0 _ c.in_default.is _ _) c.show_file.ensures
