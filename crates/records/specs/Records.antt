-- "A record has 8 bytes: code and a zero (8 bits each), process p, object o, user u (16 bits each)" (the paper, "Operations").
use Rattle.std.specs.Prelude.{ℕ, ◌≤◌, ◌<◌, ◌≡◌, Bool, true, cond, ◌&&◌, List, eqb, ltb, length}
use Rattle.std.proofs.Math.Option.{Option, none, some}
use Rattle.image.specs.Limits.{container_limit, user_limit}
use Rattle.fields.specs.Bytes.{field}
use Rattle.chains.specs.History.{Step}
use Rattle.records.specs.declared.Request.{Request}
use Rattle.records.specs.Codes.{end_code, is_code, code_count, code_at, step_with}

-- ---- the layout of a record, in bytes

abbrev pub record_length : ℕ
record_length = 8

abbrev pub record_code_at : ℕ
record_code_at = 0

abbrev pub record_zero_at : ℕ
record_zero_at = 1

abbrev pub record_process_at : ℕ
record_process_at = 2

abbrev pub record_object_at : ℕ
record_object_at = 4

abbrev pub record_user_at : ℕ
record_user_at = 6

-- "8 bits"
abbrev pub code_size : ℕ
code_size = 1

-- "16 bits each"
abbrev pub number_size : ℕ
number_size = 2

-- "u is 65535 except for codes 4 and 6"
abbrev pub no_user : ℕ
no_user = 65535

-- ---- what a record asks for

unfoldable pub request_in : List ℕ → Request
request_in r =
    record {
      code = field r record_code_at code_size;
      p = field r record_process_at number_size;
      o = field r record_object_at number_size;
      u = field r record_user_at number_size;
    }

unfoldable pub step_in : Request → Step
step_in q = step_with q.code q.p q.o q.u

-- the code names a user below 16 exactly if the table says that it names one
unfoldable pub user_fits : Request → Bool
user_fits q = cond (code_at q.code).user (ltb q.u user_limit) (eqb q.u no_user)

-- "Code 8 ends process p, with o equal to p" (change request No. 4)
unfoldable pub own_object : Request → Bool
own_object q = cond (eqb q.code end_code) (eqb q.o q.p) true

-- "u set wrongly, container over 255, user over 15"; "7 also covers code 8 with another o"
unfoldable pub numbers_good : Request → Bool
numbers_good q = user_fits q && (ltb q.p container_limit && (ltb q.o container_limit && own_object q))

-- "7 operation record (not 8 bytes, code, zero byte, u set wrongly, container over 255, user over 15)"
unfoldable pub record_good : List ℕ → Bool
record_good r = eqb (length r) record_length && (is_code (request_in r).code && (eqb (field r record_zero_at code_size) 0 && numbers_good (request_in r)))

-- the step that a record spells, if it is a record
unfoldable pub step_of : List ℕ → Option Step
step_of r = cond (record_good r) (some (step_in (request_in r))) none

-- what a request has that comes of a good record: a code, containers and, where the code names one, a user of the session; the
-- object of an end is its process
pub record Asked (q : Request) : Type 0 where
  pub code_low : 1 ≤ q.code
  pub code_high : q.code < code_count
  pub process : q.p < container_limit
  pub object : q.o < container_limit
  pub user : (code_at q.code).user ≡ true → q.u < user_limit
  pub own : q.code ≡ end_code → q.o ≡ q.p
