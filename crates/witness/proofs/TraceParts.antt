-- How many records a trace has, and which of them is the last.
use Prim.Native.Nat.{ℕ, ◌+◌, ◌-◌, ◌/◌, ◌%◌}
use native.Mathlib.Omega.{arith}
use mathlib.Core.Path.{◌≡◌, ◌∙◌}
use mathlib.Core.Bool.{Bool, true, false}
use mathlib.Core.List.{List, [], ◌∷◌}
use lib.Dec.{eqb}
use lib.ListN.{length}
use Rattle.std.proofs.Common.{min}
use borrow.Author.Tests.{eq-eqb, ne_eqb}
use Rattle.fields.proofs.SectionRecords.{cut_count}
use Rattle.records.specs.Records.{record_length}
use Rattle.records.specs.Traces.{trace_records}
use Rattle.witness.specs.Nodes.{is_none, is_last}

pub records_count : (t : List ℕ) → length (trace_records t) ≡ (length t + (record_length - 1)) / record_length
unfolding trace_records
records_count t = cut_count record_length ((length t + (record_length - 1)) / record_length) t

-- as the code counts them
pub ceil_count : (t : List ℕ) {n : ℕ} → n ≡ length t / record_length + min 1 (length t % record_length) → n ≡ length (trace_records t)
ceil_count t e = omega (arith, e, records_count t)

-- the record behind which so many are left is the last of an explanation, as the code tests it
pub last_told : {told : Bool} {n m all : ℕ} (t : List ℕ) (rs : List (List ℕ)) → told ≡ true → n + 1 + length rs ≡ length (trace_records t) → m ≡ n
    → all ≡ length (trace_records t) → eqb (m + 1) all ≡ is_last told rs
unfolding is_last
last_told {told} {n} {m} {all} t rs e l z c = rw e (on rs l)
  where
    on : (rs : List (List ℕ)) → n + 1 + length rs ≡ length (trace_records t) → eqb (m + 1) all ≡ is_none rs
    on [] l = eq-eqb (m + 1) all (omega (arith, l, z, c))
    on (r ∷ rs) l = ne_eqb (m + 1) all (λ y. absurd (omega (arith, l, z, c, y)))

pub last_plain : {told b : Bool} (rs : List (List ℕ)) → told ≡ false → b ≡ told → b ≡ is_last told rs
unfolding is_last
last_plain rs e eb = rw e (eb ∙ e)
