-- The records of a trace one by one: the record that begins at a place, and those behind it.
use Prim.Native.Nat.{ℕ, zero, suc, ◌+◌, ◌-◌, ◌*◌, ◌/◌, ◌%◌, ◌≤◌, ◌<◌, min}
use native.Mathlib.Omega.{arith}
use native.Mathlib.Decide.{dec_lt}
use native.Mathlib.Nat.{add-sub_cancel_left, suc-mul}
use mathlib.Core.Path.{◌≡◌, refl, sym, ap, ap₂, ◌∙◌}
use mathlib.Core.List.{List, [], ◌∷◌, ◌++◌, append-nil}
use lib.ListN.{length, take, drop, length-append, length-take, length-drop, drop_of_length-le}
use lib.Seq.{take_all, take_at, drop_at, drop-drop, drop-nil, take-append-le, drop-append-le}
use Rattle.std.proofs.lemmas.List.{nil_from_length}
use Rattle.fields.specs.Bytes.{cut}
use Rattle.records.specs.Records.{record_length}
use Rattle.records.specs.Traces.{trace_records}

-- fewer than 8 bytes are left
pub short_record : (t : List ℕ) (at : ℕ) → length t - at < record_length → take (length t - at) (drop at t) ≡ take record_length (drop at t)
short_record t at h =
    take_all (length t - at) (drop at t) (omega (arith, length-drop at t))
    ∙ sym (take_all record_length (drop at t) (omega (arith, length-drop at t)))

pub whole_record : (t : List ℕ) (at : ℕ) → take (at + record_length - at) (drop at t) ≡ take record_length (drop at t)
whole_record t at = rw add-sub_cancel_left

one_more : (x : List ℕ) → 0 < length x → trace_records x ≡ take record_length x ∷ trace_records (drop record_length x)
unfolding trace_records cut
one_more x h =
    let e : (length x + (record_length - 1)) / record_length ≡ suc ((length (drop record_length x) + (record_length - 1)) / record_length) = omega (arith, length-drop record_length x) in
    ap (λ (n : ℕ). cut record_length n x) e

behind : (t : List ℕ) (at : ℕ) → drop record_length (drop at t) ≡ drop (at + length (take record_length (drop at t))) t
behind t at = drop-drop record_length at t ∙ by (dec_lt (length t) (at + record_length))
  where
    by : Dec (length t < at + record_length) → drop (at + record_length) t ≡ drop (at + length (take record_length (drop at t))) t
    by (yes h) =
        drop_of_length-le t {i = at + record_length} (omega arith)
        ∙ sym (drop_of_length-le t {i = at + length (take record_length (drop at t))} (omega (arith, length-take record_length (drop at t), length-drop at t)))
    by (no h) =
        let e : at + record_length ≡ at + length (take record_length (drop at t)) = omega (arith, length-take record_length (drop at t), length-drop at t) in
        ap (λ (n : ℕ). drop n t) e

pub next_record : (t : List ℕ) (at : ℕ) → at < length t → trace_records (drop at t) ≡ take record_length (drop at t) ∷ trace_records (drop (at + length (take record_length (drop at t))) t)
next_record t at h =
    one_more (drop at t) (omega (arith, length-drop at t)) ∙ ap (λ (x : List ℕ). take record_length (drop at t) ∷ trace_records x) (behind t at)

pub no_record : (t : List ℕ) (at : ℕ) → length t ≤ at → trace_records (drop at t) ≡ []
unfolding trace_records cut
no_record t at h = rw (drop_of_length-le t {i = at} h)

-- a record has a byte or more, and lies in the trace
pub record_length_lem : (t x : List ℕ) (at : ℕ) → at < length t → x ≡ take record_length (drop at t) → (1 ≤ length x) × (at + length x ≤ length t)
record_length_lem t x at l xe =
    let e : length x ≡ length (take record_length (drop at t)) = ap length xe in
    (omega (arith, length-take record_length (drop at t), length-drop at t), omega (arith, length-take record_length (drop at t), length-drop at t))

-- ---- the same in chunks of 8 bytes

-- x is the first chunk of t, and rest is left
pub record FirstChunk (t x rest : List ℕ) : Type 0 where
  pub parts : t ≡ x ++ rest
  pub size : length x ≡ min record_length (length t)
  pub some : 0 < length t

-- what a step of the library's iterator gives
pub first_chunk : {t x rest : List ℕ} {n : ℕ} → n ≡ record_length → (t ≡ x ++ rest) × (length x ≡ min n (length t)) × (0 < length t) → FirstChunk t x rest
first_chunk e g = record { parts = g.0; size = rw e at g.1; some = g.2 }

-- a chunk has a byte or more, and the others are left
pub chunk_length : {t x rest : List ℕ} → FirstChunk t x rest → (1 ≤ length x) × (length x + length rest ≡ length t)
chunk_length {t} {x} {rest} g = (omega (arith, g.size, g.some), sym (length-append x rest) ∙ sym (ap length g.parts))

-- the first chunk is the first record, and what is left has the others
pub next_chunk : {t x rest : List ℕ} → FirstChunk t x rest → trace_records t ≡ x ∷ trace_records rest
next_chunk {t} {x} {rest} g = one_more t g.some ∙ by (dec_lt (length t) record_length)
  where
    by : Dec (length t < record_length) → take record_length t ∷ trace_records (drop record_length t) ≡ x ∷ trace_records rest
    by (yes h) =
        let none : rest ≡ [] = nil_from_length rest (omega (arith, g.size, chunk_length g)) in
        let all : t ≡ x = g.parts ∙ ap (λ (r : List ℕ). x ++ r) none ∙ append-nil x in
        ap₂ (λ (y z : List ℕ). y ∷ trace_records z) (take_all record_length t (omega arith) ∙ all) (drop_of_length-le t {i = record_length} (omega arith) ∙ sym none)
    by (no h) =
        let whole : length x ≡ record_length = omega (arith, g.size) in
        ap₂ (λ (y z : List ℕ). y ∷ trace_records z) (ap (take record_length) g.parts ∙ take_at x rest record_length whole) (ap (drop record_length) g.parts ∙ drop_at x rest record_length whole)

pub no_chunk : (t : List ℕ) → length t ≡ 0 → trace_records t ≡ []
no_chunk t h = no_record t 0 (omega arith)

-- the records behind the first n are those of the bytes behind them
pub records_rest : (n : ℕ) (t : List ℕ) → drop n (trace_records t) ≡ trace_records (drop (n * record_length) t)
records_rest zero t = refl
records_rest (suc n) [] = unfold trace_records cut in (rw (drop-nil {A = ℕ}))
records_rest (suc n) (b ∷ t) =
    let e : record_length + n * record_length ≡ suc n * record_length = omega arith in
    ap (drop (suc n)) (one_more (b ∷ t) (omega arith))
    ∙ records_rest n (drop record_length (b ∷ t))
    ∙ ap trace_records (drop-drop (n * record_length) record_length (b ∷ t) ∙ ap (λ (k : ℕ). drop k (b ∷ t)) e)

-- ---- a trace cut between records

cut_append : (w k n : ℕ) (x y : List ℕ) → length x ≡ k * w → cut w (k + n) (x ++ y) ≡ cut w k x ++ cut w n y
unfolding cut
cut_append w zero n [] y h = let z : 0 + n ≡ n = omega arith in rw z
cut_append w zero n (b ∷ x) y h = absurd (omega arith)
cut_append w (suc k) n x y h =
    let l : w ≤ length x = omega (arith, suc-mul k w) in
    let z : suc k + n ≡ suc (k + n) = omega arith in
    let e : length (drop w x) ≡ k * w = omega (arith, suc-mul k w, length-drop w x) in
    rw z (ap₂ ◌∷◌ (take-append-le w x y l) (ap (cut w (k + n)) (drop-append-le w x y l) ∙ cut_append w k n (drop w x) y e))

-- the records of a part that ends with a whole record, then those behind it
pub records_append : (x y : List ℕ) → length x % record_length ≡ 0 → trace_records (x ++ y) ≡ trace_records x ++ trace_records y
unfolding trace_records
records_append x y h =
    let k : ℕ = length x / record_length in
    let n : ℕ = (length y + (record_length - 1)) / record_length in
    let e : (length (x ++ y) + (record_length - 1)) / record_length ≡ k + n = omega (arith, length-append x y) in
    let f : (length x + (record_length - 1)) / record_length ≡ k = omega arith in
    let g : length x ≡ k * record_length = omega arith in
    ap (λ (m : ℕ). cut record_length m (x ++ y)) e
    ∙ cut_append record_length k n x y g
    ∙ ap (λ (m : ℕ). cut record_length m x ++ cut record_length n y) (sym f)
