-- Positions of the game, and what a move and a withdrawal make of them. A position has the rights that stand, by their numbers, and the
-- subjects and objects that hold a's information, each as a set of bits.
use Rattle.std.specs.Prelude.{ℕ, ◌/◌, ◌%◌, ◌^◌, ◌-◌, Bool, true, cond, ltb}
use Rattle.std.specs.Int.Bits.{bit_and, bit_or}
use Rattle.matrix.specs.Flows.{has}
use Rattle.game.specs.Limits.{side_limit, read_count, right_count}
use Rattle.game.specs.declared.Position.{Position}

-- the subject and the object of a right, and of the move that uses it
unfoldable pub subject_of : ℕ → ℕ
subject_of k = k % read_count / side_limit

unfoldable pub object_of : ℕ → ℕ
object_of k = k % side_limit

-- "one read or append whose right still stands, or passes"
unfoldable pub legal : Position → ℕ → Bool
legal p k = cond (ltb k right_count) (has p.rights k) true

-- the subject holds the information too
unfoldable pub with_subject : Position → ℕ → Position
with_subject p s = record { rights = p.rights; subjects = bit_or p.subjects (2 ^ s); objects = p.objects }

-- the object holds it too
unfoldable pub with_object : Position → ℕ → Position
with_object p o = record { rights = p.rights; subjects = p.subjects; objects = bit_or p.objects (2 ^ o) }

-- a read hands the information from an object that holds it to the subject, an append from a subject that holds it to the object;
-- every other move is idle
unfoldable pub moved : Position → ℕ → Position
moved p k =
    cond (ltb k read_count)
    (cond (has p.objects (object_of k)) (with_subject p (subject_of k)) p)
    (cond (ltb k right_count) (cond (has p.subjects (subject_of k)) (with_object p (object_of k)) p) p)

-- "the guard withdraws one right for good"
unfoldable pub withdrawn : Position → ℕ → Position
withdrawn p k = record { rights = bit_and p.rights (2 ^ 32 - 1 - 2 ^ k); subjects = p.subjects; objects = p.objects }

-- "on reaching b"
unfoldable pub reached : ℕ → Position → Bool
reached b p = has p.objects b
