-- What is told by the mark of a container: of an exec the user's rule or a run rule, on the records before it.
use Prim.Native.Nat.{ℕ, ◌+◌, ◌-◌, ◌*◌, ◌≤◌, ◌<◌}
use native.Mathlib.Omega.{arith}
use native.Mathlib.Nat.{add-sub_cancel_left}
use mathlib.Core.Path.{◌≡◌, refl, sym, ap, ◌∙◌}
use mathlib.Core.Bool.{Bool, true, false, not}
use mathlib.Core.List.{List, [], ◌++◌}
use mathlib.Core.Option.{Option, none, some}
use lib.ListN.{length, take, drop, length-take, take-append-drop}
use lib.Seq.{take_at}
use borrow.Author.Tests.{eq-eqb, ne_eqb, lt-ltb, le-ltb}
use Rattle.lists.proofs.Bools.{passes_test, fails_test}
use Rattle.image.specs.Limits.{container_limit}
use Rattle.image.specs.Policy.{Container, Policy, rule_at}
use Rattle.image.specs.Image.{policy_in, check_of}
use Rattle.session.specs.Session.{start_of}
use Rattle.chains.specs.Chains.{run_rule}
use Rattle.chains.specs.History.{History}
use Rattle.chains.specs.Demand.{history_of}
use Rattle.records.specs.declared.Request.{Request}
use Rattle.records.specs.Codes.{new_file_code}
use Rattle.records.specs.Records.{record_length, request_in, step_of}
use Rattle.records.specs.Traces.{trace_records}
use Rattle.records.proofs.TraceRecords.{records_append}
use Rattle.monitor.specs.Runs.{step_on}
use Rattle.witness.specs.Found.{Found}
use Rattle.witness.specs.Witness.{Witness}
use Rattle.witness.specs.Told.{chain_file, chain_records, found_in, at_end}
use Rattle.witness.specs.Explains.{rule_numbers}
use Rattle.witness.proofs.TraceParts.{records_count}
use Rattle.certificate.specs.declared.Told.{Told}
use Rattle.certificate.specs.Origins.{made, started}
use Rattle.certificate.specs.Whys.{user_number, covers_by, run_forbids, run_witness, Reason, no_reason, own_reason, user_reason, run_reason, exec_reason, made_origin, user_origin}
use Rattle.certificate.specs.Marks.{nowhere_mark, record_mark, record_of, request_origin, mark_origin, MarkGood}
use Rattle.certificate.specs.Marks.{search_chain, searched_links, Roomy, Searched, told_of, run_told, exec_at, exec_links, mark_reason, mark_links}
use Rattle.certificate.proofs.SearchLaws.{chain_file_lem, no_steps}
use Rattle.certificate.proofs.ReasonRight.{found_from}

-- nothing is put at the end
pub end_none : (steps : List ℕ) → steps ≡ at_end [] steps
end_none steps = sym (no_steps [] steps) ∙ (unfold chain_records in refl)

-- ---- a run rule that was found

found_told : (P : Policy) (ns : List ℕ) (n : ℕ) (steps : List ℕ) (v : Option Witness) → ((w : Witness) → v ≡ some w → w.file < container_limit)
    → run_told P n (found_in ns v steps) ≡ told_of (length steps) (run_reason P ns n v)
unfolding run_told found_in chain_file chain_records
found_told P ns n steps none low = refl
found_told P ns n steps (some w) low = let d : ¬ (w.file ≡ container_limit) = λ e. absurd (omega (arith, e, low w refl)) in rw (ne_eqb w.file container_limit d)

chain_same : (P : Policy) (ns : List ℕ) (n : ℕ) (v : Option Witness) → chain_records ns v ≡ (run_reason P ns n v).chain
chain_same P ns n none = unfold chain_records in refl
chain_same P ns n (some w) = refl

search_low : (i t : List ℕ) (tag o : ℕ) → check_of i ≡ 0 → (w : Witness) → search_chain i t tag o ≡ some w → w.file < container_limit
unfolding search_chain
search_low i t tag o ok w e = on (found_from (policy_in i) history tag o (policy_in i).containers w e)
  where
    history : History
    history = history_of step_on step_of (start_of (policy_in i)) (trace_records t)

    on : (K : Container) × (run_forbids (policy_in i) tag K ≡ true) × (run_witness (policy_in i) history o K ≡ some w) → w.file < container_limit
    on (K, b, g) = chain_file_lem i ok history (run_rule (rule_at (policy_in i).rules K.run)) o w (unfold run_witness in g)

-- ---- an exec

module _ (i t : List ℕ) (n o u tag : ℕ) {m : ℕ} {d : Bool} (em : m ≡ user_number (policy_in i) u) (ed : d ≡ covers_by (policy_in i) m tag) where
  told_covers : d ≡ covers_by (policy_in i) (user_number (policy_in i) u) tag
  told_covers = ed ∙ ap (λ (k : ℕ). covers_by (policy_in i) k tag) em

  module _ (h : not d ≡ true) where
    exec_user_is : exec_at i t n o u tag ≡ user_reason (policy_in i) user_origin n u
    unfolding exec_at exec_reason
    exec_user_is = let e : covers_by (policy_in i) (user_number (policy_in i) u) tag ≡ false = fails_test told_covers h in rw e

    pub exec_user : (links steps : List ℕ) {r : Told} → r ≡ told_of (length steps) (user_reason (policy_in i) user_origin n u)
        → (r ≡ told_of (length steps) (exec_at i t n o u tag)) × (steps ≡ at_end (exec_at i t n o u tag).chain steps) × (links ≡ exec_links i t o u tag links)
    unfolding exec_links
    exec_user links steps {r} e =
        let c : covers_by (policy_in i) (user_number (policy_in i) u) tag ≡ false = fails_test told_covers h in
        (rw exec_user_is e, rw exec_user_is (end_none steps), rw c)

  module _ (h : not d ≡ false) where
    exec_run_is : exec_at i t n o u tag ≡ run_reason (policy_in i) (rule_numbers i t) n (search_chain i t tag o)
    unfolding exec_at exec_reason rule_numbers
    exec_run_is = let e : covers_by (policy_in i) (user_number (policy_in i) u) tag ≡ true = passes_test told_covers h in rw e

    pub exec_run : check_of i ≡ 0 → (links steps : List ℕ) {links' steps' : List ℕ} {f : Found} {r : Told} → Searched i t tag o links steps f links' steps'
        → r ≡ run_told (policy_in i) n f
        → (r ≡ told_of (length steps) (exec_at i t n o u tag)) × (steps' ≡ at_end (exec_at i t n o u tag).chain steps) × (links' ≡ exec_links i t o u tag links)
    unfolding exec_links
    exec_run ok links steps {links'} {steps'} {f} {r} g e =
        let c : covers_by (policy_in i) (user_number (policy_in i) u) tag ≡ true = passes_test told_covers h in (
          rw exec_run_is
              (e ∙ ap (run_told (policy_in i) n) g.found ∙ found_told (policy_in i) (rule_numbers i t) n steps (search_chain i t tag o) (search_low i t tag o ok)),
          rw exec_run_is (g.in_steps ∙ ap (λ (x : List ℕ). at_end x steps) (chain_same (policy_in i) (rule_numbers i t) n (search_chain i t tag o))),
          rw c g.in_links,
        )

-- ---- the records before an exec

pub front_is : (t : List ℕ) (n : ℕ) → n * record_length ≤ length t → trace_records (take (n * record_length - 0) (drop 0 t)) ≡ take n (trace_records t)
front_is t n l =
    let z : n * record_length - 0 ≡ n * record_length = omega arith in
    let w : length (take (n * record_length) t) ≡ n * record_length = omega (arith, length-take (n * record_length) t) in
    let c : length (trace_records (take (n * record_length) t)) ≡ n = omega (arith, records_count (take (n * record_length) t), w) in
    let e : trace_records t ≡ trace_records (take (n * record_length) t) ++ trace_records (drop (n * record_length) t) =
    ap trace_records (sym (take-append-drop (n * record_length) t)) ∙ records_append (take (n * record_length) t) (drop (n * record_length) t) (omega (arith, w)) in
    rw z (sym (ap (take n) e ∙ take_at (trace_records (take (n * record_length) t)) (trace_records (drop (n * record_length) t)) n c))

-- ---- by a mark

module _ (i t : List ℕ) (tag v : ℕ) (links steps : List ℕ) where
  -- of no exec
  abbrev Plain : Told → Type 0
  Plain r =
      (r ≡ told_of (length steps) (mark_reason i t tag v)) × (steps ≡ at_end (mark_reason i t tag v).chain steps) × (links ≡ mark_links i t tag v links)

  pub mark_own : {r : Told} → v < container_limit → r ≡ told_of (length steps) (own_reason (policy_in i) v) → Plain r
  unfolding mark_reason mark_links mark_origin
  mark_own {r} l e = rw (lt-ltb v container_limit l) (e, end_none steps, refl)

  pub mark_nowhere : {r : Told} → container_limit ≤ v → v ≡ nowhere_mark → r ≡ told_of (length steps) no_reason → Plain r
  unfolding mark_reason mark_links mark_origin
  mark_nowhere {r} l d e = rw (le-ltb v container_limit l, eq-eqb v nowhere_mark d) (e, end_none steps, refl)

  -- a record's
  module _ (l : container_limit ≤ v) (d : v ≡ nowhere_mark → ⊥) (g : MarkGood t v) where
    later : record_mark 0 ≤ v
    later = omega arith

    pub mark_room : (v - record_mark 0) * record_length + record_length ≤ length t
    mark_room = g.inside later

    origin_is : mark_origin t v ≡ request_origin (v - record_mark 0) (request_in (record_of t (v - record_mark 0)))
    unfolding mark_origin
    origin_is = rw (le-ltb v container_limit l, ne_eqb v nowhere_mark d)

    module _ {q : Request} (eq : q ≡ request_in (take ((v - record_mark 0) * record_length + record_length - (v - record_mark 0) * record_length) (drop ((v - record_mark 0) * record_length) t))) where
      request_is : q ≡ request_in (record_of t (v - record_mark 0))
      unfolding record_of
      request_is = rw add-sub_cancel_left at eq

      pub mark_object : q.o < container_limit
      mark_object = rw request_is (g.object later)

      made_is : q.code ≡ new_file_code → mark_origin t v ≡ made (v - record_mark 0) q.u
      unfolding request_origin
      made_is e = rw (origin_is, ← request_is, eq-eqb q.code new_file_code e)

      exec_is : (q.code ≡ new_file_code → ⊥) → mark_origin t v ≡ started (v - record_mark 0) q.o q.u
      unfolding request_origin
      exec_is n = rw (origin_is, ← request_is, ne_eqb q.code new_file_code n)

      pub mark_made : {r : Told} → q.code ≡ new_file_code → r ≡ told_of (length steps) (user_reason (policy_in i) made_origin (v - record_mark 0) q.u) → Plain r
      unfolding mark_reason mark_links
      mark_made {r} c e = rw (made_is c) (e, end_none steps, refl)

      front_here : trace_records (take ((v - record_mark 0) * record_length - 0) (drop 0 t)) ≡ take (v - record_mark 0) (trace_records t)
      front_here = front_is t (v - record_mark 0) (omega (arith, mark_room))

      pub mark_roomy : Roomy t links steps → Roomy (take ((v - record_mark 0) * record_length - 0) (drop 0 t)) links steps
      mark_roomy r =
          let e : length (trace_records (take ((v - record_mark 0) * record_length - 0) (drop 0 t))) ≡ length (take (v - record_mark 0) (trace_records t)) = ap length front_here in
          record {
            for_links = omega (arith, e, length-take (v - record_mark 0) (trace_records t), r.for_links);
            for_steps = omega (arith, e, length-take (v - record_mark 0) (trace_records t), r.for_steps);
          }

      module _ (n : q.code ≡ new_file_code → ⊥) where
        reason_is : exec_at i (take ((v - record_mark 0) * record_length - 0) (drop 0 t)) (v - record_mark 0) q.o q.u tag ≡ mark_reason i t tag v
        unfolding exec_at mark_reason search_chain
        reason_is = rw (exec_is n, front_here)

        links_is : exec_links i (take ((v - record_mark 0) * record_length - 0) (drop 0 t)) q.o q.u tag links ≡ mark_links i t tag v links
        unfolding exec_links mark_links searched_links
        links_is = rw (exec_is n, front_here)

        pub mark_exec : {r : Told} {links' steps' : List ℕ}
            → r ≡ told_of (length steps) (exec_at i (take ((v - record_mark 0) * record_length - 0) (drop 0 t)) (v - record_mark 0) q.o q.u tag)
            → steps' ≡ at_end (exec_at i (take ((v - record_mark 0) * record_length - 0) (drop 0 t)) (v - record_mark 0) q.o q.u tag).chain steps
            → links' ≡ exec_links i (take ((v - record_mark 0) * record_length - 0) (drop 0 t)) q.o q.u tag links
            → (r ≡ told_of (length steps) (mark_reason i t tag v)) × (steps' ≡ at_end (mark_reason i t tag v).chain steps) × (links' ≡ mark_links i t tag v links)
        mark_exec {r} {links'} {steps'} a b c =
            (a ∙ ap (told_of (length steps)) reason_is, b ∙ ap (λ (w : Reason). at_end w.chain steps) reason_is, c ∙ links_is)
