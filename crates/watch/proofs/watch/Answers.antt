-- `watch::watch`. Heading, lines, total, one behind the other.
use Rattle.watch.proofs.ListedTrace.{all_watched}
use Rattle.files.specs.Calls.{handed_as}
use Rattle.listing.proofs.Theorems.{listed_front}
use Rattle.files.proofs.CallLaws.{done_as}
use Rattle.fields.specs.Ascii.{ascii}
use mathlib.Core.Path.{refl}
use Rattle.watch.proofs.watch.Goals as goal

pub returns : goal.returns
unfolding ascii
returns c =
    done_as c.write_front-2.result
    (λ _ w.
    all_watched _ _ _ _ _ _ _ refl (handed_as (listed_front _ _ _ _ c.list_heading-heading.ensures) c.in_ok-write_front.ensures) c.in_ok-tally.ensures
    (handed_as (listed_front _ _ _ _ c.list_total-total.ensures) w))
    c.write_front-2.ensures
