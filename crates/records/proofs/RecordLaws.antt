-- What a record that is not refused by 7 asks for.
use Prim.Native.Nat.{ℕ, ◌+◌, ◌*◌, ◌≤◌, ◌<◌, suc-le-suc}
use native.Mathlib.Omega.{arith}
use native.Mathlib.Decide.{ℕ_discrete}
use native.Mathlib.Nat.{le_of_suc-le-suc}
use mathlib.Core.Path.{◌≡◌, refl}
use mathlib.Core.Logic.{◌⊎◌, inl, inr, ⊎_elim, ◌↔◌, ◌≢◌}
use mathlib.Core.Bool.{true, false, cond, ◌&&◌}
use mathlib.Core.List.{List, [], ◌∷◌}
use mathlib.Core.Option.{some}
use lib.Dec.{eqb, ltb}
use lib.ListN.{length}
use borrow.Author.Tests.{ltb-true, eqb-true, eq-eqb, ne_eqb, lt-ltb}
use Rattle.lists.proofs.Bools.{and_in, and_0, and_1}
use Rattle.image.specs.Limits.{container_limit, user_limit}
use Rattle.fields.specs.Bytes.{number_in, field}
use Rattle.records.specs.declared.Request.{Request}
use Rattle.chains.specs.Table.{entry}
use Rattle.records.specs.Codes.{read_code, write_code, append_code, exec_code, fork_code, new_file_code, new_volatile_code, end_code, delete_code, code_count, step_with, no_rows, code_at, is_code}
use Rattle.records.specs.Records.{record_length, record_zero_at, code_size, no_user, request_in, step_in, user_fits, own_object, numbers_good, record_good, step_of, Asked}
use Rattle.records.proofs.CodeLaws.{request, by_code}

-- "Code 8 .., with o equal to p"
own_set : (q : Request) → (own_object q ≡ true) ↔ (q.code ≡ end_code → q.o ≡ q.p)
unfolding own_object
own_set q = by (ℕ_discrete q.code end_code)
  where
    by : Dec (q.code ≡ end_code) → (cond (eqb q.code end_code) (eqb q.o q.p) true ≡ true) ↔ (q.code ≡ end_code → q.o ≡ q.p)
    by (yes e) = rw (eq-eqb q.code end_code e) (λ h z. eqb-true q.o q.p h, λ k. eq-eqb q.o q.p (k e))
    by (no n) = rw (ne_eqb q.code end_code n) (λ h z. absurd (n z), λ k. refl)

-- bytes that are not 8 are no record
pub record_short : (r : List ℕ) → (length r ≡ record_length → ⊥) → record_good r ≡ false
unfolding record_good
record_short r h = simp (ne_eqb (length r) record_length h)

module _ (r : List ℕ) (h : record_good r ≡ true) where
  behind_length : (is_code (request_in r).code && (eqb (field r record_zero_at code_size) 0 && numbers_good (request_in r))) ≡ true
  unfolding record_good
  behind_length = and_1 (eqb (length r) record_length) h

  record_code : is_code (request_in r).code ≡ true
  record_code = and_0 (is_code (request_in r).code) _ behind_length

  behind_zero : (user_fits (request_in r) && (ltb (request_in r).p container_limit && (ltb (request_in r).o container_limit && own_object (request_in r)))) ≡ true
  unfolding numbers_good
  behind_zero = and_1 (eqb (field r record_zero_at code_size) 0) (and_1 (is_code (request_in r).code) behind_length)

  behind_user : (ltb (request_in r).p container_limit && (ltb (request_in r).o container_limit && own_object (request_in r))) ≡ true
  behind_user = and_1 (user_fits (request_in r)) behind_zero

  behind_process : (ltb (request_in r).o container_limit && own_object (request_in r)) ≡ true
  behind_process = and_1 (ltb (request_in r).p container_limit) behind_user

  pub record_own : own_object (request_in r) ≡ true
  record_own = and_1 (ltb (request_in r).o container_limit) behind_process

  pub record_long : length r ≡ record_length
  unfolding record_good
  record_long = eqb-true (length r) record_length (and_0 (eqb (length r) record_length) _ h)

  pub asked : Asked (request_in r)
  unfolding is_code user_fits
  asked = record {
    code_low = ltb-true 0 (request_in r).code (and_0 (ltb 0 (request_in r).code) _ record_code);
    code_high = ltb-true (request_in r).code code_count (and_1 (ltb 0 (request_in r).code) record_code);
    process = ltb-true (request_in r).p container_limit (and_0 (ltb (request_in r).p container_limit) _ behind_user);
    object = ltb-true (request_in r).o container_limit (and_0 (ltb (request_in r).o container_limit) _ behind_process);
    user = λ c. ltb-true (request_in r).u user_limit (rw c at (and_0 (user_fits (request_in r)) _ behind_zero));
    own = (own_set (request_in r)).0 record_own;
  }

  pub record_step : step_of r ≡ some (step_in (request_in r))
  unfolding step_of
  record_step = rw h

-- ---- refusal 7 in the paper's words

-- "u is 65535 except for codes 4 and 6"; "user over 15"
record UserSet (q : Request) : Type 0 where
  pub named : (q.code ≡ exec_code) ⊎ (q.code ≡ new_file_code) → q.u < user_limit
  pub unnamed : q.code ≢ exec_code → q.code ≢ new_file_code → q.u ≡ no_user

user_set : (q : Request) → 1 ≤ q.code → q.code < code_count → (user_fits q ≡ true) ↔ UserSet q
unfolding user_fits code_at step_with entry no_rows
user_set = by_code (λ q. (user_fits q ≡ true) ↔ UserSet q) (λ p o u. none read_code p o u (λ e. omega arith) (λ e. omega arith)) (λ p o u. none write_code p o u (λ e. omega arith) (λ e. omega arith))
    (λ p o u. none append_code p o u (λ e. omega arith) (λ e. omega arith)) (λ p o u. one exec_code p o u (inl refl)) (λ p o u. none fork_code p o u (λ e. omega arith) (λ e. omega arith))
    (λ p o u. one new_file_code p o u (inr refl)) (λ p o u. none new_volatile_code p o u (λ e. omega arith) (λ e. omega arith))
    (λ p o u. none end_code p o u (λ e. omega arith) (λ e. omega arith)) (λ p o u. none delete_code p o u (λ e. omega arith) (λ e. omega arith))
  where
    one : (n p o u : ℕ) → (n ≡ exec_code) ⊎ (n ≡ new_file_code) → (ltb u user_limit ≡ true) ↔ UserSet (request n p o u)
    one n p o u c = (λ h. record { named = λ e. ltb-true u user_limit h; unnamed = λ a b. absurd (⊎_elim a b c) }, λ k. lt-ltb u user_limit (k.named c))

    none : (n p o u : ℕ) → n ≢ exec_code → n ≢ new_file_code → (eqb u no_user ≡ true) ↔ UserSet (request n p o u)
    none n p o u a b = (λ h. record { named = λ c. absurd (⊎_elim a b c); unnamed = λ x y. eqb-true u no_user h }, λ k. eq-eqb u no_user (k.unnamed a b))

-- "not 8 bytes, code, zero byte, u set wrongly, container over 255, user over 15", "code 8 with another o"
record Spells (r : List ℕ) : Type 0 where
  pub eight : length r ≡ record_length
  pub code_low : read_code ≤ (request_in r).code
  pub code_high : (request_in r).code ≤ delete_code
  pub zero_byte : field r record_zero_at code_size ≡ 0
  pub user : UserSet (request_in r)
  pub process : (request_in r).p < container_limit
  pub object : (request_in r).o < container_limit
  pub own : (request_in r).code ≡ end_code → (request_in r).o ≡ (request_in r).p

record_spells : (r : List ℕ) → (record_good r ≡ true) ↔ Spells r
unfolding record_good is_code numbers_good
record_spells r = (to, back)
  where
    to : record_good r ≡ true → Spells r
    to h = record {
      eight = record_long r h;
      code_low = (asked r h).code_low;
      code_high = le_of_suc-le-suc (asked r h).code_high;
      zero_byte = eqb-true (field r record_zero_at code_size) 0 (and_0 (eqb (field r record_zero_at code_size) 0) _ (and_1 (is_code (request_in r).code) (behind_length r h)));
      user = (user_set (request_in r) (asked r h).code_low (asked r h).code_high).0 (and_0 (user_fits (request_in r)) _ (behind_zero r h));
      process = (asked r h).process;
      object = (asked r h).object;
      own = (asked r h).own;
    }

    back : Spells r → record_good r ≡ true
    back k =
        let c : is_code (request_in r).code ≡ true = and_in (lt-ltb 0 (request_in r).code k.code_low) (lt-ltb (request_in r).code code_count (suc-le-suc k.code_high)) in
        and_in (eq-eqb (length r) record_length k.eight)
        (and_in c
        (and_in (eq-eqb (field r record_zero_at code_size) 0 k.zero_byte)
        (and_in ((user_set (request_in r) k.code_low (suc-le-suc k.code_high)).1 k.user)
        (and_in (lt-ltb (request_in r).p container_limit k.process)
        (and_in (lt-ltb (request_in r).o container_limit k.object) ((own_set (request_in r)).1 k.own))))))

pub record_spelling : (r : List ℕ) → (record_good r ≡ true)
    ↔ ((length r ≡ 8) × (1 ≤ (request_in r).code) × ((request_in r).code ≤ 9) × (field r record_zero_at code_size ≡ 0)
    × (((request_in r).code ≡ exec_code) ⊎ ((request_in r).code ≡ new_file_code) → (request_in r).u ≤ 15)
    × ((request_in r).code ≢ exec_code → (request_in r).code ≢ new_file_code → (request_in r).u ≡ no_user)
    × ((request_in r).p ≤ 255) × ((request_in r).o ≤ 255) × ((request_in r).code ≡ end_code → (request_in r).o ≡ (request_in r).p))
record_spelling r = (
  λ h.
      let k : Spells r = (record_spells r).0 h in
      (k.eight, k.code_low, k.code_high, k.zero_byte, λ c. le_of_suc-le-suc (k.user.named c), k.user.unnamed, le_of_suc-le-suc k.process, le_of_suc-le-suc k.object, k.own),
  λ y.
      (record_spells r).1
      (record {
        eight = y.0;
        code_low = y.1;
        code_high = y.2;
        zero_byte = y.3;
        user = record { named = λ c. suc-le-suc (y.4 c); unnamed = y.5 };
        process = suc-le-suc y.6;
        object = suc-le-suc y.7;
        own = y.8;
      }),
)

-- the numbers that eight bytes spell
pub request_bytes : (c z p p' o o' u u' : ℕ)
    → request_in (c ∷ z ∷ p ∷ p' ∷ o ∷ o' ∷ u ∷ u' ∷ []) ≡ request c (p + 256 * p') (o + 256 * o') (u + 256 * u')
unfolding request_in field number_in
request_bytes c z p p' o o' u u' =
    let ec : c + 256 * 0 ≡ c = omega arith in
    let ep : p + 256 * (p' + 256 * 0) ≡ p + 256 * p' = omega arith in
    let eo : o + 256 * (o' + 256 * 0) ≡ o + 256 * o' = omega arith in
    let eu : u + 256 * (u' + 256 * 0) ≡ u + 256 * u' = omega arith in
    λ i. request (ec i) (ep i) (eo i) (eu i)
