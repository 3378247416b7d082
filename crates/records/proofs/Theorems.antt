-- What is proved of codes and records (the paper, "Operations"). The definitions are in specs/.
use Prim.Native.Nat.{ℕ, ◌+◌, ◌*◌, ◌≤◌, ◌<◌}
use mathlib.Core.Path.{◌≡◌}
use mathlib.Core.Logic.{◌⊎◌, ◌↔◌, ◌≢◌}
use mathlib.Core.Bool.{true, false}
use mathlib.Core.List.{List, [], ◌∷◌}
use mathlib.Core.Option.{none, some}
use lib.ListN.{length, get_or}
use Rattle.fields.specs.Bytes.{field}
use Rattle.records.specs.declared.Code.{Code}
use Rattle.records.specs.Codes.{exec_code, new_file_code, end_code, code_count, code_at}
use Rattle.records.specs.Records.{no_user, request_in, step_in, record_good, step_of}
use Rattle.records.proofs.CodeLaws.{request, rows, row_at}
use Rattle.records.proofs.RecordLaws.{record_spelling, record_step, request_bytes}

-- the table of codes: what each needs of its object, and whether it names a user, as `rows` lists them
pub code_table : (n : ℕ) (z : Code) → 1 ≤ n → n < code_count → get_or rows n z ≡ code_at n
code_table = row_at

-- 7 is not given exactly if the record has 8 bytes, a code from 1 to 9, the zero byte, a user up to 15 with codes 4 and 6 and
-- 65535 with the others, containers up to 255, and with code 8 its process as its object
pub record_good_lem : (r : List ℕ) → (record_good r ≡ true)
    ↔ ((length r ≡ 8) × (1 ≤ (request_in r).code) × ((request_in r).code ≤ 9) × (field r 1 1 ≡ 0)
    × (((request_in r).code ≡ exec_code) ⊎ ((request_in r).code ≡ new_file_code) → (request_in r).u ≤ 15)
    × ((request_in r).code ≢ exec_code → (request_in r).code ≢ new_file_code → (request_in r).u ≡ no_user)
    × ((request_in r).p ≤ 255) × ((request_in r).o ≤ 255) × ((request_in r).code ≡ end_code → (request_in r).o ≡ (request_in r).p))
record_good_lem = record_spelling

-- then it spells the step that its request asks for, else none
pub record_spelled : (r : List ℕ) → record_good r ≡ true → step_of r ≡ some (step_in (request_in r))
record_spelled = record_step

pub record_unspelled : (r : List ℕ) → record_good r ≡ false → step_of r ≡ none
unfolding step_of
record_unspelled r e = rw e

-- the numbers of its eight bytes
pub record_bytes : (c z p p' o o' u u' : ℕ)
    → request_in (c ∷ z ∷ p ∷ p' ∷ o ∷ o' ∷ u ∷ u' ∷ []) ≡ request c (p + 256 * p') (o + 256 * o') (u + 256 * u')
record_bytes = request_bytes
