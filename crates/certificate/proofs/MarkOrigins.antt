-- What a mark stands for is read from the bytes of its record.
use Prim.Native.Nat.{ℕ, zero, suc, ◌+◌, ◌-◌, ◌*◌, ◌≤◌, ◌<◌}
use native.Mathlib.Omega.{arith}
use native.Mathlib.Decide.{dec_lt}
use mathlib.Core.Path.{◌≡◌, refl, sym, ap, ap₂, ◌∙◌}
use mathlib.Core.List.{List, [], ◌∷◌}
use mathlib.Core.Option.{some}
use lib.ListN.{length, take, drop, get_or, get_elem?, length-take, length-drop}
use borrow.Author.Tests.{eq-eqb, ne_eqb, lt-ltb, le-ltb}
use Rattle.lists.proofs.Places.{some_inj, none_some}
use Rattle.image.specs.Limits.{container_limit}
use Rattle.chains.specs.History.{Step, exec, new_file}
use Rattle.records.specs.declared.Request.{Request}
use Rattle.records.specs.Codes.{exec_code, new_file_code, step_with}
use Rattle.records.specs.Records.{record_length, request_in, step_in, Asked}
use Rattle.records.specs.Traces.{trace_records}
use Rattle.records.proofs.CodeLaws.{by_code}
use Rattle.records.proofs.RecordLaws.{record_long}
use Rattle.records.proofs.TraceRecords.{records_rest, next_record, no_record}
use Rattle.monitor.specs.Steps.{step_asked}
use Rattle.monitor.specs.Runs.{run_effect}
use Rattle.monitor.proofs.StepLaws.{step_record, accepted_zero}
use Rattle.certificate.specs.Origins.{Origin, own, made, started, nowhere}
use Rattle.certificate.specs.Marks.{nowhere_mark, record_mark, record_of, request_origin, mark_origin, MarkGood}
use Rattle.certificate.proofs.MarkLaws.{accepted_asked, Marked, AcceptedRecord}

-- ---- the record at a place

element_drop : {A : Type 0} (l : List A) (n : ℕ) → get_elem? l n ≡ get_elem? (drop n l) 0
element_drop l zero = refl
element_drop [] (suc n) = refl
element_drop (x ∷ l) (suc n) = element_drop l n

pub record_of_lem : (t : List ℕ) (n : ℕ) (r : List ℕ) → get_elem? (trace_records t) n ≡ some r → record_of t n ≡ r
unfolding record_of
record_of_lem t n r e = on (dec_lt (n * record_length) (length t))
  where
    at : get_elem? (trace_records (drop (n * record_length) t)) 0 ≡ some r
    at = ap (λ (l : List (List ℕ)). get_elem? l 0) (sym (records_rest n t)) ∙ sym (element_drop (trace_records t) n) ∙ e

    on : Dec (n * record_length < length t) → take record_length (drop (n * record_length) t) ≡ r
    on (yes l) = some_inj (ap (λ (x : List (List ℕ)). get_elem? x 0) (sym (next_record t (n * record_length) l)) ∙ at)
    on (no l) = absurd (none_some (ap (λ (x : List (List ℕ)). get_elem? x 0) (sym (no_record t (n * record_length) (omega arith))) ∙ at))

-- ---- an exec and a new file by their fields

differ : {X : Type 0} → ◌≡◌ {A = ℕ} 0 1 → X
differ e = absurd (omega arith)

module _ (p o u : ℕ) where
  exec_spelled : (q : Request) → Asked q → step_in q ≡ exec p o u → (q.code ≡ exec_code) × (q.o ≡ o) × (q.u ≡ u)
  unfolding step_in step_with
  exec_spelled q a =
      by_code (λ q. step_in q ≡ exec p o u → (q.code ≡ exec_code) × (q.o ≡ o) × (q.u ≡ u))
      (λ x y z e. differ cc) (λ x y z e. differ cc) (λ x y z e. differ cc) (λ x y z e. (refl, cc, cc)) (λ x y z e. differ cc)
      (λ x y z e. differ cc) (λ x y z e. differ cc) (λ x y z e. differ cc) (λ x y z e. differ cc)
      q a.code_low a.code_high

  file_spelled : (q : Request) → Asked q → step_in q ≡ new_file p o u → (q.code ≡ new_file_code) × (q.u ≡ u)
  unfolding step_in step_with
  file_spelled q a =
      by_code (λ q. step_in q ≡ new_file p o u → (q.code ≡ new_file_code) × (q.u ≡ u))
      (λ x y z e. differ cc) (λ x y z e. differ cc) (λ x y z e. differ cc) (λ x y z e. differ cc) (λ x y z e. differ cc)
      (λ x y z e. (refl, cc)) (λ x y z e. differ cc) (λ x y z e. differ cc) (λ x y z e. differ cc)
      q a.code_low a.code_high

-- ---- the origin with the records of the steps

abbrev pub renumbered : List ℕ → Origin → Origin
renumbered ns (own c) = own c
renumbered ns (made i u) = made (get_or ns i 0) u
renumbered ns (started i o u) = started (get_or ns i 0) o u
renumbered ns nowhere = nowhere

module _ (t s : List ℕ) where
  -- record number n of the trace, accepted
  module _ (n : ℕ) (r : List ℕ) (is : AcceptedRecord s (trace_records t) n r) where
    here : record_of t n ≡ r
    here = record_of_lem t n r is.0

    asks_here : Asked (request_in (record_of t n))
    asks_here = rw here (accepted_asked (run_effect s (take n (trace_records t))) r is.1)

    long_here : n * record_length + record_length ≤ length t
    unfolding record_of
    long_here =
        let e : length (take record_length (drop (n * record_length) t)) ≡ record_length =
        ap length here ∙ record_long r (step_record (run_effect s (take n (trace_records t))) r (accepted_zero (run_effect s (take n (trace_records t))) r is.1)) in
        omega (arith, e, length-take record_length (drop (n * record_length) t), length-drop (n * record_length) t)

    good_here : (v : ℕ) → v ≡ record_mark n → MarkGood t v
    good_here v e =
        let z : v - record_mark 0 ≡ n = omega arith in
        record { inside = λ l. rw z long_here; object = λ l. rw z asks_here.object }

    spelled_here : (x : Step) → step_asked r ≡ x → step_in (request_in (record_of t n)) ≡ x
    unfolding step_asked
    spelled_here x e = rw here e

  origin_here : (n : ℕ) (v : ℕ) → v ≡ record_mark n → mark_origin t v ≡ request_origin n (request_in (record_of t n))
  unfolding mark_origin
  origin_here n v e =
      let z : v - record_mark 0 ≡ n = omega arith in
      let l : container_limit ≤ v = omega arith in
      let d : ¬ (v ≡ nowhere_mark) = λ q. absurd (omega arith) in
      rw (le-ltb v container_limit l, ne_eqb v nowhere_mark d, z)

  pub mark_origin_lem : (ns : List ℕ) (v : ℕ) (a : Origin) → Marked (AcceptedRecord s (trace_records t)) ns v a → mark_origin t v ≡ renumbered ns a
  unfolding mark_origin request_origin
  mark_origin_lem ns v (own c) (e, l) = let m : v < container_limit = omega arith in rw (lt-ltb v container_limit m) (ap own e)
  mark_origin_lem ns v (made i u) (l, e, (p, o, (r, is, k))) =
      let f = file_spelled p o u (request_in (record_of t (get_or ns i 0))) (asks_here (get_or ns i 0) r is) (spelled_here (get_or ns i 0) r is (new_file p o u) k) in
      rw (origin_here (get_or ns i 0) v e, eq-eqb (request_in (record_of t (get_or ns i 0))).code new_file_code f.0) (ap (made (get_or ns i 0)) f.1)
  mark_origin_lem ns v (started i o u) (l, e, (p, (r, is, k))) =
      let f = exec_spelled p o u (request_in (record_of t (get_or ns i 0))) (asks_here (get_or ns i 0) r is) (spelled_here (get_or ns i 0) r is (exec p o u) k) in
      let d : ¬ ((request_in (record_of t (get_or ns i 0))).code ≡ new_file_code) = λ q. absurd (omega (arith, f.0, q)) in
      rw (origin_here (get_or ns i 0) v e, ne_eqb (request_in (record_of t (get_or ns i 0))).code new_file_code d)
      (ap₂ (λ (x y : ℕ). started (get_or ns i 0) x y) f.1 f.2)
  mark_origin_lem ns v nowhere e =
      let l : container_limit ≤ v = omega arith in
      rw (le-ltb v container_limit l, eq-eqb v nowhere_mark e)

  pub mark_good : (ns : List ℕ) (v : ℕ) (a : Origin) → Marked (AcceptedRecord s (trace_records t)) ns v a → MarkGood t v
  mark_good ns v (own c) (e, l) = record { inside = λ k. absurd (omega arith); object = λ k. absurd (omega arith) }
  mark_good ns v (made i u) (l, e, (p, o, (r, is, k))) = good_here (get_or ns i 0) r is v e
  mark_good ns v (started i o u) (l, e, (p, (r, is, k))) = good_here (get_or ns i 0) r is v e
  mark_good ns v nowhere e = record { inside = λ k. absurd (omega arith); object = λ k. absurd (omega arith) }
