-- A record read field by field in the number that its bytes spell, and tested condition by condition: what each test found decides
-- `record_good`.
use Prim.Native.Nat.{ℕ, ◌+◌, ◌/◌, ◌%◌, ◌^◌, ◌≤◌, ◌<◌}
use native.Mathlib.Omega.{arith}
use native.Mathlib.Nat.{le_of_eq, div-div-eq-div-mul}
use mathlib.Core.Path.{◌≡◌, refl, sym, ap, ◌∙◌}
use mathlib.Core.Bool.{Bool, true, false, ◌&&◌}
use mathlib.Core.List.{List}
use lib.Dec.{eqb, ltb}
use lib.ListN.{length, take}
use lib.Seq.{take_all}
use borrow.Author.Tests.{eqb-true, eq-eqb, ne_eqb, ltb-true, lt-ltb, le-ltb}
use Rattle.lists.proofs.Bools.{same_test}
use Rattle.image.specs.Limits.{container_limit, user_limit}
use Rattle.fields.specs.Bytes.{number_in, bytes_of, field, Bytes}
use Rattle.fields.proofs.ByteLaws.{bytes_length, bytes_first, bytes_rest, bytes_number}
use Rattle.records.specs.declared.Request.{Request}
use Rattle.records.specs.Codes.{end_code, code_count, is_code, code_at}
use Rattle.records.specs.Records.{record_length, record_code_at, record_zero_at, record_process_at, record_object_at, record_user_at, code_size}
use Rattle.records.specs.Records.{number_size, no_user, request_in, user_fits, own_object, numbers_good, record_good}
use Rattle.records.specs.Numbers.{zeros_good}

-- ---- the fields of the number

-- eight bytes are those of the number that they spell
pub word_bytes : (r : List ℕ) → Bytes r → length r ≡ record_length → (w : ℕ) → w ≡ field r 0 record_length → bytes_of record_length w ≡ r
unfolding field
word_bytes r b l w e =
    let whole : take record_length r ≡ r = take_all record_length r (le_of_eq l) in
    ap (bytes_of record_length) (e ∙ ap number_in whole) ∙ ap (λ (n : ℕ). bytes_of n (number_in r)) (sym l) ∙ bytes_number r b

-- some bytes of a number
part : (at k j w : ℕ) → field (bytes_of (at + (k + j)) w) at k ≡ number_in (bytes_of k (w / 256 ^ at))
unfolding field
part at k j w = ap (λ (x : List ℕ). number_in (take k x)) (bytes_rest at (k + j) w) ∙ ap number_in (bytes_first k j (w / 256 ^ at))

one : (n : ℕ) → number_in (bytes_of 1 n) ≡ n % 256
unfolding number_in bytes_of
one n = omega arith

two : (n : ℕ) → number_in (bytes_of 2 n) ≡ n % 65536
unfolding number_in bytes_of
two n = omega arith

module _ (w : ℕ) where
  pub code_field : w % 256 ≡ field (bytes_of record_length w) record_code_at code_size
  code_field = let e : w / 1 ≡ w = omega arith in sym (part 0 1 7 w ∙ one (w / 1) ∙ ap (λ (n : ℕ). n % 256) e)

  pub zero_field : w / 256 % 256 ≡ field (bytes_of record_length w) record_zero_at code_size
  zero_field = sym (part 1 1 6 w ∙ one (w / 256))

  pub process_field : w / 65536 % 65536 ≡ field (bytes_of record_length w) record_process_at number_size
  process_field = sym (part 2 2 4 w ∙ two (w / 65536))

  pub object_field : w / 4294967296 % 65536 ≡ field (bytes_of record_length w) record_object_at number_size
  object_field = sym (part 4 2 2 w ∙ two (w / 4294967296))

  pub user_field : w < 2 ^ 64 → w / 281474976710656 ≡ field (bytes_of record_length w) record_user_at number_size
  user_field l = let e : w / 281474976710656 % 65536 ≡ w / 281474976710656 = omega arith in sym (part 6 2 0 w ∙ two (w / 281474976710656) ∙ e)

  pub request_is : w < 2 ^ 64
      → ◌≡◌ {A = Request} (record { code = w % 256; p = w / 65536 % 65536; o = w / 4294967296 % 65536; u = w / 281474976710656 }) (request_in (bytes_of record_length w))
  unfolding request_in
  request_is l = λ i. record { code = code_field i; p = process_field i; o = object_field i; u = user_field l i }

-- ---- the bytes that are 0

-- a field of two bytes is below 256 exactly if its upper byte is 0
high : (n : ℕ) → (n / 256 % 256 ≡ 0 → ⊥) → container_limit ≤ n % 65536
high n h = omega (arith, h)

low : (n : ℕ) → n / 256 % 256 ≡ 0 → n % 65536 < container_limit
low n h = omega (arith, h)

upper : (n : ℕ) → n % 65536 < container_limit → n / 256 % 256 ≡ 0
upper n h = omega (arith, h)

module _ (w : ℕ) where
  process_byte : w / 65536 / 256 % 256 ≡ w / 16777216 % 256
  process_byte = ap (λ (n : ℕ). n % 256) (div-div-eq-div-mul w 65536 256)

  object_byte : w / 4294967296 / 256 % 256 ≡ w / 1099511627776 % 256
  object_byte = ap (λ (n : ℕ). n % 256) (div-div-eq-div-mul w 4294967296 256)

  pub zero_set : (w / 256 % 256 ≡ 0 → ⊥) → false ≡ zeros_good (bytes_of record_length w)
  unfolding zeros_good
  zero_set h = sym (rw (← zero_field w, ne_eqb (w / 256 % 256) 0 h))

  module _ (z : w / 256 % 256 ≡ 0) where
    pub process_over : (w / 16777216 % 256 ≡ 0 → ⊥) → false ≡ zeros_good (bytes_of record_length w)
    unfolding zeros_good request_in
    process_over h =
        let l : container_limit ≤ w / 65536 % 65536 = high (w / 65536) (λ e. h (sym process_byte ∙ e)) in
        sym (rw (← zero_field w, eq-eqb (w / 256 % 256) 0 z, ← process_field w, le-ltb (w / 65536 % 65536) container_limit l))

    pub by_object : w / 16777216 % 256 ≡ 0 → eqb (w / 1099511627776 % 256) 0 ≡ zeros_good (bytes_of record_length w)
    unfolding zeros_good request_in
    by_object h =
        let l : w / 65536 % 65536 < container_limit = low (w / 65536) (process_byte ∙ h) in
        sym (rw (← zero_field w, eq-eqb (w / 256 % 256) 0 z, ← process_field w, lt-ltb (w / 65536 % 65536) container_limit l, ← object_field w)
        (same_test (ltb (w / 4294967296 % 65536) container_limit) (eqb (w / 1099511627776 % 256) 0)
        (λ b. eq-eqb (w / 1099511627776 % 256) 0 (sym object_byte ∙ upper (w / 4294967296) (ltb-true (w / 4294967296 % 65536) container_limit b)))
        (λ b. lt-ltb (w / 4294967296 % 65536) container_limit (low (w / 4294967296) (object_byte ∙ eqb-true (w / 1099511627776 % 256) 0 b)))))

-- ---- the user field, and the object of an end

module _ (q : Request) where
  -- a code that names a user is no end
  pub user_named : (code_at q.code).user ≡ true → (q.code ≡ end_code → ⊥) → ltb q.u user_limit ≡ (user_fits q && own_object q)
  unfolding user_fits own_object
  user_named h n = rw (h, ne_eqb q.code end_code n) (kept (ltb q.u user_limit))
    where
      kept : (b : Bool) → b ≡ (b && true)
      kept true = refl
      kept false = refl

  module _ (h : (code_at q.code).user ≡ false) where
    pub user_set : (q.u ≡ no_user → ⊥) → false ≡ (user_fits q && own_object q)
    unfolding user_fits
    user_set n = sym (simp (h, ne_eqb q.u no_user n))

    pub by_own : q.u ≡ no_user → own_object q ≡ (user_fits q && own_object q)
    unfolding user_fits
    by_own e = sym (simp (h, eq-eqb q.u no_user e))

  pub own_end : q.code ≡ end_code → eqb q.o q.p ≡ own_object q
  unfolding own_object
  own_end e = sym (simp (eq-eqb q.code end_code e))

  pub own_other : (q.code ≡ end_code → ⊥) → true ≡ own_object q
  unfolding own_object
  own_other n = sym (simp (ne_eqb q.code end_code n))

-- ---- the conditions in their order

module _ (w : ℕ) (q : Request) (e : q ≡ request_in (bytes_of record_length w)) where
  -- those of the bytes that are 0 before those of the user
  opened : record_good (bytes_of record_length w) ≡ (is_code q.code && (zeros_good (bytes_of record_length w) && (user_fits q && own_object q)))
  unfolding record_good numbers_good zeros_good
  opened = rw e (simp (eq-eqb (length (bytes_of record_length w)) record_length (bytes_length record_length w))
      (ap (λ (b : Bool). is_code (request_in (bytes_of record_length w)).code && b)
      (turned (eqb (field (bytes_of record_length w) record_zero_at code_size) 0) (user_fits (request_in (bytes_of record_length w)))
      (ltb (request_in (bytes_of record_length w)).p container_limit) (ltb (request_in (bytes_of record_length w)).o container_limit)
      (own_object (request_in (bytes_of record_length w))))))
    where
      turned : (z u p o k : Bool) → (z && (u && (p && (o && k)))) ≡ ((z && (p && o)) && (u && k))
      turned false u p o k = refl
      turned true true true true k = refl
      turned true true true false k = refl
      turned true true false o k = refl
      turned true false true true k = refl
      turned true false true false k = refl
      turned true false false o k = refl

  pub code_none : q.code ≡ 0 → false ≡ record_good (bytes_of record_length w)
  unfolding is_code
  code_none z = sym (opened ∙ simp z)

  code_some : (q.code ≡ 0 → ⊥) → ltb 0 q.code ≡ true
  code_some h = let l : 0 < q.code = omega (arith, h) in lt-ltb 0 q.code l

  pub code_over : (q.code ≡ 0 → ⊥) → code_count ≤ q.code → false ≡ record_good (bytes_of record_length w)
  unfolding is_code
  code_over h o = sym (opened ∙ simp (code_some h, le-ltb q.code code_count o))

  module _ (low : q.code ≡ 0 → ⊥) (high : q.code < code_count) where
    code_good : is_code q.code ≡ true
    unfolding is_code
    code_good = simp (code_some low, lt-ltb q.code code_count high)

    pub byte_set : zeros_good (bytes_of record_length w) ≡ false → false ≡ record_good (bytes_of record_length w)
    byte_set h = sym (opened ∙ simp (code_good, h))

    pub by_user : zeros_good (bytes_of record_length w) ≡ true → (user_fits q && own_object q) ≡ record_good (bytes_of record_length w)
    by_user h = sym (opened ∙ simp (code_good, h))
