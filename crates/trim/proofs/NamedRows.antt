-- The rows that the records of a trace can change stand at the front of the session.
use Prim.Native.Nat.{ℕ, ◌+◌, ◌-◌, ◌*◌, ◌/◌, ◌%◌, ◌≤◌, ◌<◌}
use native.Mathlib.Omega.{arith}
use native.Mathlib.Decide.{dec_lt}
use mathlib.Core.Path.{◌≡◌, ap, ◌∙◌}
use mathlib.Core.Logic.{⊎_elim}
use mathlib.Core.Bool.{true}
use mathlib.Core.List.{List, ◌++◌}
use lib.ListN.{length, take, drop, drop_of_length-le}
use lib.Seq.{drop-drop, drop-append-add, length-take-le}
use Rattle.lists.proofs.Bools.{decide}
use Rattle.lists.proofs.Conditions.{zero_or_not}
use Rattle.fields.specs.Bytes.{number_in, field}
use Rattle.image.specs.Limits.{container_limit}
use Rattle.session.specs.Limits.{row_width, users_at}
use Rattle.session.specs.Rows.{row_words, put_row}
use Rattle.chains.specs.History.{receiver}
use Rattle.chains.specs.Table.{entry, blocks}
use Rattle.records.specs.declared.Request.{Request}
use Rattle.records.specs.Codes.{step_with}
use Rattle.records.specs.Records.{record_length, request_in, step_in, record_good, Asked}
use Rattle.records.proofs.CodeLaws.{by_code, receiver_bound}
use Rattle.records.proofs.RecordLaws.{asked}
use Rattle.operations.specs.View.{view}
use Rattle.monitor.specs.Steps.{step_asked, refusal_of, step_effect}
use Rattle.monitor.proofs.StepLaws.{refused_effect, step_long, step_record, step_laid, blocked_effect, made_effect_lem}
use Rattle.trim.specs.Trims.{record_at}
use Rattle.trim.specs.Replays.{Leaves}

-- ---- a row that is put leaves what stands behind it

put_leaves : (s : List ℕ) (c : ℕ) (ws : List ℕ) (m : ℕ) → length ws ≡ row_width → c * row_width + row_width ≤ m → m ≤ length s → drop m (put_row s c ws) ≡ drop m s
unfolding put_row
put_leaves s c ws m e l k =
    let a : ℕ = c * row_width in
    let j : ℕ = m - (a + row_width) in
    let h : length (take a s) ≡ a = length-take-le a s (omega arith) in
    let z : List ℕ = drop row_width (drop a s) in
    let i : m ≡ length (take a s) + (length ws + j) = omega (arith, h, e) in
    let n : a + (row_width + j) ≡ m = omega arith in
    ap (λ (x : ℕ). drop x (take a s ++ (ws ++ z))) i
    ∙ drop-append-add (take a s) (ws ++ z) (length ws + j)
    ∙ drop-append-add ws z j
    ∙ drop-drop j row_width (drop a s)
    ∙ drop-drop (row_width + j) a s
    ∙ ap (λ (x : ℕ). drop x s) n

-- the receiver is one of the two
receiver_most : (q : Request) → Asked q → (n : ℕ) → q.p ≤ n → q.o ≤ n → receiver (step_in q) ≤ n
unfolding step_in step_with
receiver_most q a n =
    by_code (λ q. q.p ≤ n → q.o ≤ n → receiver (step_in q) ≤ n)
    (λ p o u hp ho. hp) (λ p o u hp ho. ho) (λ p o u hp ho. ho) (λ p o u hp ho. hp) (λ p o u hp ho. ho) (λ p o u hp ho. ho) (λ p o u hp ho. ho)
    (λ p o u hp ho. hp) (λ p o u hp ho. ho) q a.code_low a.code_high

-- ---- a record, and a trace

record_leaves : (s r : List ℕ) (m : ℕ) → m ≤ users_at → (record_good r ≡ true → receiver (step_asked r) * row_width + row_width ≤ m) → drop m (step_effect s r) ≡ drop m s
record_leaves s r m w h = ⊎_elim made (λ n. ap (drop m) (refused_effect s r n)) (zero_or_not (refusal_of s r))
  where
    made : refusal_of s r ≡ 0 → drop m (step_effect s r) ≡ drop m s
    made e =
        ⊎_elim (λ b. ap (drop m) (blocked_effect s r e b))
        (λ b. ap (drop m) (made_effect_lem s r e b)
        ∙ put_leaves s (receiver (step_asked r)) (row_words (entry (view s) (step_asked r)).row) m (step_laid s r e).long (h (step_record s r e)) (omega (arith, w, step_long s r e)))
        (decide (blocks (step_asked r) (entry (view s) (step_asked r)).row))

-- no record names a container over n
abbrev pub NamesUpTo : List ℕ → ℕ → Type 0
NamesUpTo t n = (k : ℕ) → ((request_in (record_at t k)).p ≤ n) × ((request_in (record_at t k)).o ≤ n)

pub leaves_named : (t : List ℕ) (n : ℕ) → NamesUpTo t n → n < container_limit → Leaves t ((n + 1) * row_width)
leaves_named t n h l s k =
    record_leaves s (record_at t k) ((n + 1) * row_width) (omega arith)
    (λ g. let m : receiver (step_asked (record_at t k)) ≤ n = unfold step_asked in (receiver_most (request_in (record_at t k)) (asked (record_at t k) g) n (h k).0 (h k).1) in omega (arith, m))

-- nor one that the session has not
pub leaves_all : (t : List ℕ) → Leaves t users_at
leaves_all t s k =
    record_leaves s (record_at t k) users_at (omega arith)
    (λ g. let m : receiver (step_asked (record_at t k)) < container_limit = unfold step_asked in receiver_bound (request_in (record_at t k)) (asked (record_at t k) g) in omega (arith, m))

-- ---- the loop: the first i records are looked at

pub record Looked (t : List ℕ) (n most i : ℕ) : Type 0 where
  pub place : i ≤ n
  pub whole : n * record_length ≡ length t
  pub named : (k : ℕ) → k < i → ((request_in (record_at t k)).p ≤ most) × ((request_in (record_at t k)).o ≤ most)

pub looked_start : (t : List ℕ) (n : ℕ) → n ≡ length t / record_length → length t % record_length ≡ 0 → Looked t n 0 0
looked_start t n e h = record { place = omega arith; whole = omega arith; named = λ k l. absurd (omega arith) }

pub looked_next : (t : List ℕ) (n most i more : ℕ) (q : Request) → Looked t n most i → i < n → q ≡ request_in (record_at t i) → most ≤ more → q.p ≤ more → q.o ≤ more
    → Looked t n more (i + 1)
looked_next t n most i more q g l e a b c = record { place = omega arith; whole = g.whole; named = λ k m. by k (dec_lt k i) m }
  where
    here : ((request_in (record_at t i)).p ≤ more) × ((request_in (record_at t i)).o ≤ more)
    here = rw (← e) (b, c)

    by : (k : ℕ) → Dec (k < i) → k < i + 1 → ((request_in (record_at t k)).p ≤ more) × ((request_in (record_at t k)).o ≤ more)
    by k (yes h) m = (omega (arith, (g.named k h).0), omega (arith, (g.named k h).1))
    by k (no h) m = let z : k ≡ i = omega arith in rw z here

-- behind the last there is no record, and no bytes name container 0
pub looked_all : (t : List ℕ) (n most i : ℕ) → Looked t n most i → n ≤ i → NamesUpTo t most
unfolding record_at
looked_all t n most i g l k = by (dec_lt k i)
  where
    by : Dec (k < i) → ((request_in (record_at t k)).p ≤ most) × ((request_in (record_at t k)).o ≤ most)
    by (yes h) = g.named k h
    by (no h) = rw (drop_of_length-le t {i = k * record_length} (omega (arith, g.whole))) (unfold request_in field number_in in (omega arith, omega arith))
