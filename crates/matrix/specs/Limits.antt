-- The numbers of the paper's section "Matrix", each named once.
use Rattle.std.specs.Prelude.{ℕ}

-- "1 to 8 subjects"
abbrev pub subject_limit : ℕ
subject_limit = 8

-- "1 to 32 objects"
abbrev pub object_limit : ℕ
object_limit = 32
