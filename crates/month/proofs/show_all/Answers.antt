-- `month::show_all`. The policy is the bytes that were read.
use Rattle.month.proofs.CountedMonth.{shown_refused, shown_month}
use Rattle.answers.proofs.Outcomes.{accepted}
use Rattle.files.proofs.CallLaws.{done_as}
use Rattle.fields.specs.Ascii.{ascii}
use mathlib.Core.Path.{refl}
use Rattle.month.proofs.show_all.Goals as goal

pub returns-in-Err : goal.returns-in-Err
unfolding ascii
returns-in-Err c =
    done_as c.refuse.result (λ _. shown_refused _ refl c.load.auto.buf c.in_ok-n.ensures.1 _ c.check.ensures _ c.in-Err.is _ _) c.refuse.ensures

pub show_month-requires : goal.show_month-requires
show_month-requires c = (accepted c.check.ensures c.in_default.is, refl)

pub returns : goal.returns
unfolding ascii
returns c =
    done_as c.show_month.result (λ _. shown_month _ refl c.load.auto.buf c.in_ok-n.ensures.1 _ c.check.ensures _ c.in_default.is _ _)
    c.show_month.ensures
