-- The five numbers of an event, written one behind the other.
use Prim.Native.Nat.{ℕ, ◌+◌, ◌≤◌, ◌<◌}
use native.Mathlib.Omega.{arith}
use mathlib.Core.Path.{◌≡◌}
use mathlib.Core.List.{List, [], ◌∷◌, ◌++◌}
use lib.ListN.{length, set}
use Rattle.fields.specs.Writing.{Wrote}
use Rattle.fields.proofs.WritingLaws.{wrote_byte, wrote_join, wrote_length}
use Rattle.events.specs.Events.{event_length}

-- one more number behind those that were written
one_more : {x b m : List ℕ} {at n : ℕ} (d k : ℕ) → at ≤ length b → n < length m → k ≡ n + 1 → Wrote x b m at n → Wrote (x ++ (d ∷ [])) b (set m n d) at k
one_more {x} {b} {m} {at} {n} d k h l e w = rw e (wrote_join h w (wrote_byte d n m l))

pub five_written : (b : List ℕ) (at v w x y z : ℕ) → at + event_length ≤ length b
    → Wrote (v ∷ w ∷ x ∷ y ∷ z ∷ []) b (set (set (set (set (set b at v) (at + 1) w) (at + 2) x) (at + 3) y) (at + 4) z) at (at + 5)
five_written b at v w x y z h =
    let w1 = wrote_byte v at b (omega arith) in
    let l1 = wrote_length {x = v ∷ []} (omega arith) w1 in
    let w2 = one_more w (at + 2) (omega arith) (omega (arith, l1)) (omega arith) w1 in
    let l2 = wrote_length {x = v ∷ w ∷ []} (omega arith) w2 in
    let w3 = one_more x (at + 3) (omega arith) (omega (arith, l2)) (omega arith) w2 in
    let l3 = wrote_length {x = v ∷ w ∷ x ∷ []} (omega arith) w3 in
    let w4 = one_more y (at + 4) (omega arith) (omega (arith, l3)) (omega arith) w3 in
    let l4 = wrote_length {x = v ∷ w ∷ x ∷ y ∷ []} (omega arith) w4 in
    one_more z (at + 5) (omega arith) (omega (arith, l4)) (omega arith) w4
