-- `watch::show_listing`. The policy is the bytes that were read.
use Rattle.watch.proofs.ListedTrace.{shown_refused, shown_listing}
use Rattle.files.proofs.CallLaws.{done_as}
use Rattle.fields.specs.Ascii.{ascii}
use mathlib.Core.Path.{refl}
use Rattle.watch.proofs.show_listing.Goals as goal

pub returns-in-Err : goal.returns-in-Err
unfolding ascii
returns-in-Err c =
    done_as c.refuse.result
    (λ _. shown_refused _ _ refl c.load.auto.buf c.in_ok-n.ensures.1 refl _ c.start.ensures.0 _ c.in-Err.is _ _) c.refuse.ensures

pub returns : goal.returns
unfolding ascii
returns c =
    done_as c.watch.result
    (λ _. shown_listing _ _ refl c.load.auto.buf c.in_ok-n.ensures.1 refl _ c.start.ensures.0 _ c.in_default.is _ _ _ c.start.ensures.1)
    c.watch.ensures
