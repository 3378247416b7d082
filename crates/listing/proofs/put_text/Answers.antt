-- `listing::put_text`. The text in its place is the buffer overwritten.
use Prim.Native.Nat.{ℕ, ◌+◌}
use native.Mathlib.Omega.{arith}
use mathlib.Core.Path.{refl, sym, ap₂, ◌∙◌}
use mathlib.Core.List.{List, ◌++◌, append_assoc}
use lib.ListN.{length, take, drop}
use borrow.Rule.Slice.PartMut.{Post-is}
use Rattle.fields.specs.Writing.{overwritten}
use Rattle.listing.proofs.put_text.Goals as goal

pub returns : goal.returns
unfolding overwritten
returns c =
    let b = c.args.out.now in
    let x = c.args.text.now in
    let at = c.args.at in
    record {
      buffer =
          ap₂ (λ (y z : List ℕ). take at b ++ (y ++ z)) c.copy_from_slice.ensures.after (Post-is at (at + length x) b (omega arith))
          ∙ sym (append_assoc (take at b) x (drop (at + length x) b));
      ends = refl;
    }
