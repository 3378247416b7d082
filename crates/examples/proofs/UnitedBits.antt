-- Why both containers of a record can be tested at once, by the union of their bits.
use Prim.Native.Nat.{ℕ, ◌<◌}
use native.Mathlib.Omega.{arith}
use mathlib.Core.Path.{◌≡◌}
use mathlib.Core.Bool.{◌&&◌}
use lib.Bits.{bit_or, and_le_l, and_le_r, or_lt, or_add_and}
use lib.Dec.{ltb}
use borrow.Author.Tests.{lt-ltb, ltb-true}
use Rattle.lists.proofs.Bools.{and_in, and_0, and_1, same_test}
use Rattle.image.specs.Limits.{container_limit}

-- two containers are in their limit exactly if the union of their bits is
pub or_low : (a b : ℕ) → ltb (bit_or a b) container_limit ≡ (ltb a container_limit && ltb b container_limit)
or_low a b =
    same_test (ltb (bit_or a b) container_limit) (ltb a container_limit && ltb b container_limit)
    (λ h.
    let l : bit_or a b < container_limit = ltb-true (bit_or a b) container_limit h in
    and_in (lt-ltb a container_limit (omega (arith, l, or_add_and a b, and_le_r a b))) (lt-ltb b container_limit (omega (arith, l, or_add_and a b, and_le_l a b))))
    (λ h.
    let l : a < container_limit = ltb-true a container_limit (and_0 (ltb a container_limit) (ltb b container_limit) h) in
    let k : b < container_limit = ltb-true b container_limit (and_1 (ltb a container_limit) h) in
    lt-ltb (bit_or a b) container_limit (or_lt 8 a b l k))
