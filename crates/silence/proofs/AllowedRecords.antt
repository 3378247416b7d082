-- Allowed steps as records, and allowed records are not refused.
use Prim.Native.Nat.{ℕ, ◌+◌, ◌*◌, ◌<◌}
use native.Mathlib.Omega.{arith}
use mathlib.Core.Path.{◌≡◌, refl, sym, subst}
use mathlib.Core.Logic.{◌⊎◌, inl, inr}
use mathlib.Core.Bool.{Bool, true, false, cond}
use mathlib.Core.List.{List, [], ◌∷◌}
use mathlib.Core.Option.{none, some}
use borrow.Author.Tests.{lt-ltb}
use Rattle.lists.specs.Lists.{elem}
use Rattle.lists.specs.Conditions.{AllHold, first_failed, numbers_of, numbers_distinct}
use Rattle.lists.proofs.Bools.{decide}
use Rattle.lists.proofs.Conditions.{given_none}
use Rattle.lists.proofs.Places.{some_inj, none_some}
use Rattle.fields.specs.Bytes.{number_in, field}
use Rattle.image.specs.Limits.{container_limit}
use Rattle.answers.specs.Answers.{is_refused}
use Rattle.chains.specs.History.{Step, read, write, append}
use Rattle.chains.specs.Table.{State, early_conditions, table_conditions, entry}
use Rattle.records.specs.Codes.{is_code, code_at, step_with}
use Rattle.records.specs.Records.{request_in, step_in, user_fits, own_object, record_good, step_of}
use Rattle.records.specs.Records as records
use Rattle.operations.specs.View.{view}
use Rattle.operations.specs.Effects.{rows_good}
use Rattle.operations.proofs.PlacedRows.{Valid}
use Rattle.monitor.specs.Steps.{step_asked}
use Rattle.monitor.specs.Runs.{step_on}
use Rattle.monitor.proofs.Theorems.{length_good, refused_10, not_refused, answer_given}
use Rattle.monitor.proofs.RunHistories.{never_10}

-- ---- the record of a step on low numbers

abbrev pub low_record : ℕ → ℕ → ℕ → List ℕ
low_record code p o = code ∷ 0 ∷ p ∷ 0 ∷ o ∷ 0 ∷ 255 ∷ 255 ∷ []

low_request : (code p o : ℕ) → request_in (low_record code p o) ≡ record { code = code; p = p; o = o; u = 65535 }
unfolding request_in field number_in
low_request code p o =
    let a : code + 256 * 0 ≡ code = omega arith in
    let b : p + 256 * (0 + 256 * 0) ≡ p = omega arith in
    let c : o + 256 * (0 + 256 * 0) ≡ o = omega arith in
    λ i. record { code = a i; p = b i; o = c i; u = 65535 }

module _ (p o : ℕ) (lp : p < container_limit) (lo : o < container_limit) where
  pub read_spelled : step_of (low_record 1 p o) ≡ some (read p o)
  unfolding step_of record_good step_in step_with records.numbers_good user_fits own_object is_code code_at entry field number_in
  read_spelled = rw (low_request 1 p o, lt-ltb p container_limit lp, lt-ltb o container_limit lo) refl

  pub write_spelled : step_of (low_record 2 p o) ≡ some (write p o)
  unfolding step_of record_good step_in step_with records.numbers_good user_fits own_object is_code code_at entry field number_in
  write_spelled = rw (low_request 2 p o, lt-ltb p container_limit lp, lt-ltb o container_limit lo) refl

  pub append_spelled : step_of (low_record 3 p o) ≡ some (append p o)
  unfolding step_of record_good step_in step_with records.numbers_good user_fits own_object is_code code_at entry field number_in
  append_spelled = rw (low_request 3 p o, lt-ltb p container_limit lp, lt-ltb o container_limit lo) refl

-- ---- a record that the table does not refuse is accepted, on a session as "Session" says

pub spelled_good : (r : List ℕ) (t : Step) → step_of r ≡ some t → (record_good r ≡ true) × (step_asked r ≡ t)
unfolding step_of step_asked
spelled_good r t e = by (record_good r) refl e
  where
    by : (b : Bool) → record_good r ≡ b → cond b (some (step_in (request_in r))) none ≡ some t → (record_good r ≡ true) × (step_in (request_in r) ≡ t)
    by true q e = (q, some_inj e)
    by false q e = absurd (none_some e)

table_numbers : (σ : State) (t : Step) → numbers_distinct (numbers_of (table_conditions σ t)) ≡ true
unfolding table_conditions early_conditions numbers_of numbers_distinct elem
table_numbers σ t = refl

pub accepts : (s r : List ℕ) (t : Step) → Valid s → step_of r ≡ some t → first_failed (table_conditions (view s) t) ≡ 0 → is_refused (step_on s r).1 ≡ false
unfolding step_on table_conditions early_conditions
accepts s r t v e z =
    (answer_given s r).1
    ((not_refused s r).1 (
      (length_good s).1 v.long,
      (good, (rows, tail (subst (λ (u : Step). first_failed (table_conditions (view s) u) ≡ 0) (sym (spelled_good r t e).1) z))),
    ))
  where
    good : record_good r ≡ true
    good = (spelled_good r t e).0

    rows : rows_good s (step_asked r) ≡ true
    rows = by (decide (rows_good s (step_asked r)))
      where
        by : (rows_good s (step_asked r) ≡ true) ⊎ (rows_good s (step_asked r) ≡ false) → rows_good s (step_asked r) ≡ true
        by (inl x) = x
        by (inr x) = absurd (never_10 s v r ((refused_10 s r).1 ((length_good s).1 v.long, (good, x))))

    tail : first_failed (table_conditions (view s) (step_asked r)) ≡ 0 → AllHold (table_conditions (view s) (step_asked r))
    tail q = (given_none (table_conditions (view s) (step_asked r)) (table_numbers (view s) (step_asked r))).0 q
