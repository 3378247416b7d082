-- "One table of codes gives the kind that each code needs" (the paper, "Operations"): the codes, the step that each asks for, and
-- what the table of steps (crate chains, specs/Table) says of it.
use Rattle.std.specs.Prelude.{ℕ, Bool, cond, ◌&&◌, eqb, ltb}
use Rattle.std.proofs.Math.Option.{none}
use Rattle.chains.specs.History.{Step, read, write, append, exec, fork, new_file, new_volatile, end, delete}
use Rattle.chains.specs.Table.{State, free_row, entry, is_some}
use Rattle.records.specs.declared.Code.{Code}

-- ---- the codes

abbrev pub read_code : ℕ
read_code = 1

abbrev pub write_code : ℕ
write_code = 2

abbrev pub append_code : ℕ
append_code = 3

abbrev pub exec_code : ℕ
exec_code = 4

abbrev pub fork_code : ℕ
fork_code = 5

abbrev pub new_file_code : ℕ
new_file_code = 6

abbrev pub new_volatile_code : ℕ
new_volatile_code = 7

abbrev pub end_code : ℕ
end_code = 8

abbrev pub delete_code : ℕ
delete_code = 9

-- the places of the table: one for each code, and place 0, which is no code
abbrev pub code_count : ℕ
code_count = 10

unfoldable pub is_code : ℕ → Bool
is_code n = ltb 0 n && ltb n code_count

-- the step that a code asks for
unfoldable pub step_with : ℕ → ℕ → ℕ → ℕ → Step
step_with code p o u =
    cond (eqb code read_code) (read p o)
    (cond (eqb code write_code) (write p o)
    (cond (eqb code append_code) (append p o)
    (cond (eqb code exec_code) (exec p o u)
    (cond (eqb code fork_code) (fork p o)
    (cond (eqb code new_file_code) (new_file p o u)
    (cond (eqb code new_volatile_code) (new_volatile p o)
    (cond (eqb code end_code) (end p)
    (delete p o))))))))

-- ---- the table by codes: what each needs of its object, as the set of the kinds that serve, and whether it names a user ("u is 65535
-- except for codes 4 and 6")

-- rows do not matter to either
unfoldable pub no_rows : State
no_rows = record { row = λ c. free_row; user = λ u. none }

unfoldable pub code_at : ℕ → Code
code_at n =
    record {
      object = (entry no_rows (step_with n 0 0 0)).need;
      user = is_some (entry no_rows (step_with n 0 0 0)).user;
    }
