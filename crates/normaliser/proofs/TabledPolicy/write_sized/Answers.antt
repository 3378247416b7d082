-- Tables of zeros for so many rules.
use native.Mathlib.Omega.{arith}
use lib.ListN.{length-replicate}
use Prim.Native.Nat.{ℕ}
use Rattle.normaliser.proofs.HashLaws.{zeros_at, hashed_start}
use Rattle.normaliser.proofs.TabledPolicy.write_sized.Goals as goal

pub write_by-requires : goal.write_by-requires
write_by-requires g c =
    let long = length-replicate {A = ℕ} g.row.USES 0 in (
      record {
        classes_room = omega (arith, long);
        classes_few = omega (arith, long);
        hashed = hashed_start _ g.row.SLOTS c.requires.2 c.requires.3;
        order_room = omega (arith, long);
        order_few = omega (arith, long);
        ranks_room = omega (arith, long);
        zero = λ v. zeros_at g.row.USES v;
      },
      c.requires.4,
    )
