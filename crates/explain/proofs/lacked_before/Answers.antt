-- `explain::lacked_before`. The numbers before it are lent.
use native.Mathlib.Nat.{add-sub_cancel_left}
use Rattle.explain.proofs.lacked_before.Goals as goal

pub returns : goal.returns
returns c = rw add-sub_cancel_left at c.is_among.ensures
