-- A trace followed record by record: the marks, and the last answer. The least atom that a mixture lacks, looked for from 0 on.
use Prim.Native.Nat.{ℕ, ◌+◌, ◌/◌, ◌%◌, ◌^◌, ◌≤◌, ◌<◌}
use native.Mathlib.Omega.{arith}
use native.Mathlib.Numerals.{add-one}
use native.Mathlib.Nat.{zero-add}
use mathlib.Core.Path.{◌≡◌, refl, sym, ap, subst, ◌∙◌}
use mathlib.Core.Bool.{Bool, true, false, not}
use mathlib.Core.List.{List}
use lib.Dec.{eqb}
use lib.ListN.{length, get_or, set}
use Rattle.lists.proofs.Bools.{passes_test, fails_test}
use Rattle.lists.proofs.Below.{Failing, least_is, least_none}
use Rattle.answers.specs.declared.Answer.{Answer}
use Rattle.answers.specs.Answers.{quiet, accepted}
use Rattle.rules.specs.Sets.{atom}
use Rattle.rules.specs.Answers.{tag_width}
use Rattle.rules.proofs.SetLaws.{atom_le}
use Rattle.image.specs.Limits.{container_limit}
use Rattle.chains.specs.History.{receiver}
use Rattle.records.specs.declared.Request.{Request}
use Rattle.records.specs.Codes.{exec_code, new_file_code, fork_code, new_volatile_code, step_with}
use Rattle.records.specs.Records.{record_length, request_in, step_in, Asked}
use Rattle.records.specs.Traces.{trace_records}
use Rattle.records.proofs.CodeLaws.{by_code, step_exec, step_file, step_fork}
use Rattle.records.proofs.RecordLaws.{record_long}
use Rattle.records.proofs.TraceRecords.{FirstChunk, next_chunk, no_chunk}
use Rattle.monitor.specs.Steps.{step_asked, step_answer, step_effect}
use Rattle.monitor.specs.Runs.{step_on, run_answers, run_effect}
use Rattle.monitor.proofs.StepLaws.{step_record, accepted_zero}
use Rattle.witness.proofs.TraceParts.{records_count}
use Rattle.certificate.specs.Origins.{lacks_at, lacked_by}
use Rattle.certificate.specs.Whys.{last_from, last_answer}
use Rattle.certificate.specs.Marks.{nowhere_mark, record_mark, next_mark, marks_after, marks_on, marks_all}
use Rattle.certificate.proofs.MarkLaws.{accepted_asked}

-- ---- the atom that a mixture lacks

module _ (t m k : ℕ) where
  pub lacks_none : t / 2 ^ k % 2 ≡ 0 → false ≡ lacks_at t m k
  unfolding lacks_at atom
  lacks_none e = rw e

  pub lacks_one : (t / 2 ^ k % 2 ≡ 0 → ⊥) → eqb (m / 2 ^ k % 2) 0 ≡ lacks_at t m k
  unfolding lacks_at atom
  lacks_one d = let e : t / 2 ^ k % 2 ≡ 1 = omega (arith, atom_le t k) in rw e

module _ (t m k : ℕ) (g : Failing (lacks_at t m) tag_width k) where
  pub lacked_here : {b : Bool} → b ≡ lacks_at t m k → b ≡ true → k < tag_width → k ≡ lacked_by t m
  unfolding lacked_by
  lacked_here {b} e h l = sym (least_is (lacks_at t m) tag_width k l (sym e ∙ h) g.done)

  pub lacked_none : tag_width ≤ k → tag_width ≡ lacked_by t m
  unfolding lacked_by
  lacked_none l = sym (least_none (lacks_at t m) tag_width (λ j i. g.done j (omega arith)))

-- ---- the mark that a request leaves, by its code

module _ (marks : List ℕ) (n : ℕ) (q : Request) where
  pub mark_exec : q.code ≡ exec_code → record_mark n ≡ next_mark marks n (step_in q)
  unfolding next_mark
  mark_exec e = rw (step_exec q e)

  pub mark_file : q.code ≡ new_file_code → record_mark n ≡ next_mark marks n (step_in q)
  unfolding next_mark
  mark_file e = rw (step_file q e)

  pub mark_fork : q.code ≡ fork_code → get_or marks q.p 0 ≡ next_mark marks n (step_in q)
  unfolding next_mark
  mark_fork e = rw (step_fork q e)

  pub mark_leaves : Asked q → new_volatile_code ≤ q.code → nowhere_mark ≡ next_mark marks n (step_in q)
  unfolding step_in step_with next_mark
  mark_leaves a =
      by_code (λ q. new_volatile_code ≤ q.code → nowhere_mark ≡ next_mark marks n (step_in q))
      (λ p o u l. absurd (omega arith)) (λ p o u l. absurd (omega arith)) (λ p o u l. absurd (omega arith)) (λ p o u l. absurd (omega arith)) (λ p o u l. absurd (omega arith))
      (λ p o u l. absurd (omega arith)) (λ p o u l. refl) (λ p o u l. refl) (λ p o u l. refl)
      q a.code_low a.code_high

  pub mark_stays : Asked q → (q.code ≡ exec_code → ⊥) → (q.code ≡ new_file_code → ⊥) → (q.code ≡ fork_code → ⊥) → q.code < new_volatile_code
      → {to : ℕ} → to ≡ receiver (step_in q) → get_or marks to 0 ≡ next_mark marks n (step_in q)
  mark_stays a n4 n6 n5 l {to} e = ap (λ (c : ℕ). get_or marks c 0) e ∙ by n4 n6 n5 l
    where
      by : (q.code ≡ exec_code → ⊥) → (q.code ≡ new_file_code → ⊥) → (q.code ≡ fork_code → ⊥) → q.code < new_volatile_code
          → get_or marks (receiver (step_in q)) 0 ≡ next_mark marks n (step_in q)
      by =
          unfold step_in step_with next_mark in
          (by_code
          (λ q. (q.code ≡ exec_code → ⊥) → (q.code ≡ new_file_code → ⊥) → (q.code ≡ fork_code → ⊥) → q.code < new_volatile_code
          → get_or marks (receiver (step_in q)) 0 ≡ next_mark marks n (step_in q))
          (λ p o u n4 n6 n5 l. refl) (λ p o u n4 n6 n5 l. refl) (λ p o u n4 n6 n5 l. refl) (λ p o u n4 n6 n5 l. absurd (n4 refl))
          (λ p o u n4 n6 n5 l. absurd (n5 refl)) (λ p o u n4 n6 n5 l. absurd (n6 refl)) (λ p o u n4 n6 n5 l. absurd (omega arith))
          (λ p o u n4 n6 n5 l. absurd (omega arith)) (λ p o u n4 n6 n5 l. absurd (omega arith))
          q a.code_low a.code_high)

-- ---- one record, as the code tests it

module _ (s r : List ℕ) {a : Answer} {b : Bool} (ea : a ≡ step_answer s r) (eb : b ≡ accepted a) where
  pub took : not b ≡ false → accepted (step_answer s r) ≡ true
  took h = ap accepted (sym ea) ∙ passes_test eb h

  pub left : (marks : List ℕ) (n : ℕ) → not b ≡ true → marks ≡ marks_on marks n s r
  unfolding marks_on
  left marks n h = let e : accepted (step_answer s r) ≡ false = ap accepted (sym ea) ∙ fails_test eb h in rw e

pub took_long : (s r : List ℕ) → accepted (step_answer s r) ≡ true → length r ≡ record_length
took_long s r a = record_long r (step_record s r (accepted_zero s r a))

pub took_asked : (s r : List ℕ) {q : Request} → accepted (step_answer s r) ≡ true → q ≡ request_in r → Asked q
took_asked s r {q} a e = subst (λ (x : Request). Asked x) (sym e) (accepted_asked s r a)

pub took_marks : (s r marks : List ℕ) (n : ℕ) {q : Request} {to m : ℕ} → accepted (step_answer s r) ≡ true → q ≡ request_in r → to ≡ receiver (step_in q) → m ≡ next_mark marks n (step_in q)
    → set marks to m ≡ marks_on marks n s r
unfolding marks_on marks_after step_asked
took_marks s r marks n {q} {to} {m} a eq et em = rw (em, et, eq, a)

-- ---- the loop over the records of a trace

-- the first n records are followed, and the bytes of `rest` are left; `answer` is that of the last of them
pub record Following (trace marks₀ s₀ s marks : List ℕ) (answer : Answer) (n : ℕ) (rest : List ℕ) : Type 0 where
  pub long : length marks ≡ container_limit
  pub count : n + length (trace_records rest) ≡ length (trace_records trace)
  pub same : marks_all marks n s (trace_records rest) ≡ marks_all marks₀ 0 s₀ (trace_records trace)
  pub leaves : run_effect s (trace_records rest) ≡ run_effect s₀ (trace_records trace)
  pub last : last_from answer (run_answers s (trace_records rest)) ≡ last_answer (run_answers s₀ (trace_records trace))

pub following_start : {trace marks s : List ℕ} {n : ℕ} {rest : List ℕ} → length marks ≡ container_limit → n ≡ 0 → rest ≡ trace → Following trace marks s s marks (quiet 0 0 0) n rest
unfolding last_answer
following_start {trace} l z e = rw (z, e) (record { long = l; count = zero-add (length (trace_records trace)); same = refl; leaves = refl; last = refl })

module _ {trace marks₀ s₀ s marks : List ℕ} {answer : Answer} {n : ℕ} {rest : List ℕ} (h : Following trace marks₀ s₀ s marks answer n rest) where
  module _ {x rest' : List ℕ} (d : FirstChunk rest x rest') where
    pub following_few : length trace < 2 ^ 64 → n < 2 ^ 62
    following_few l = omega (arith, l, h.count, ap length (next_chunk d), records_count trace)

    pub following_next : {s' marks' : List ℕ} {answer' : Answer} {m n' : ℕ} → m ≡ n → n' ≡ n + 1 → answer' ≡ step_answer s x → s' ≡ step_effect s x
        → marks' ≡ marks_on marks m s x → length marks' ≡ length marks → Following trace marks₀ s₀ s' marks' answer' n' rest'
    unfolding marks_all run_effect last_from run_answers step_on
    following_next em en ea es ek el =
        record {
          long = el ∙ h.long;
          count = omega (arith, en, h.count, ap length (next_chunk d));
          same = rw (ek, es, em, en, add-one n) (rw (next_chunk d) at h.same);
          leaves = rw es (rw (next_chunk d) at h.leaves);
          last = rw (ea, es) (rw (next_chunk d) at h.last);
        }

  pub following_end : length rest ≡ 0
      → (answer ≡ last_answer (run_answers s₀ (trace_records trace))) × (s ≡ run_effect s₀ (trace_records trace)) × (marks ≡ marks_all marks₀ 0 s₀ (trace_records trace))
  unfolding marks_all run_effect last_from run_answers
  following_end l = (rw (no_chunk rest l) at h.last, rw (no_chunk rest l) at h.leaves, rw (no_chunk rest l) at h.same)
