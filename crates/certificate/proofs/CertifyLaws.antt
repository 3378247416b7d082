-- What `why` tells is a certificate.
use Prim.Native.Nat.{ℕ, zero, suc, ◌+◌, ◌-◌, ◌≤◌, ◌<◌}
use native.Mathlib.Omega.{arith}
use mathlib.Core.Path.{◌≡◌, refl, ap, subst, ◌∙◌}
use mathlib.Core.Bool.{true, false, ◌||◌}
use mathlib.Core.List.{List, [], ◌∷◌, ◌++◌, map}
use mathlib.Core.Logic.{◌⊎◌, inl, inr, ◌↔◌}
use mathlib.Core.Option.{Option, none, some}
use lib.Dec.{eqb}
use lib.ListN.{length, drop, get_or, length-map, get_or-append}
use lib.Seq.{get_or-append-add}
use borrow.Author.Tests.{eq-eqb}
use Rattle.lists.specs.Lists.{elem}
use Rattle.lists.proofs.Bools.{or_cases, decide, clash}
use Rattle.lists.proofs.Places.{map_at}
use Rattle.lists.proofs.Elem.{elem_here, elem_there}
use Rattle.fields.specs.Bytes.{Bytes}
use Rattle.fields.specs.Writing.{overwritten}
use Rattle.answers.specs.declared.Answer.{Answer}
use Rattle.answers.specs.Answers.{is_alert, is_blocked, receiver_of, tag_of}
use Rattle.answers.proofs.Cases.{alert_accepted}
use Rattle.rules.specs.Sets.{atom}
use Rattle.rules.specs.Answers.{mixture_limit, padded}
use Rattle.rules.proofs.BoundedLaws.{padded_length}
use Rattle.image.specs.Limits.{container_limit}
use Rattle.image.specs.Policy.{Policy, Sound, rule_at, owner_at}
use Rattle.image.specs.Image.{policy_in, check_of}
use Rattle.image.proofs.Decode.{accepted_sound}
use Rattle.session.specs.Session.{start_of}
use Rattle.chains.specs.History.{Step, History, ◌▸◌, receiver}
use Rattle.chains.specs.Chains.{Item, Chain, Reaches, Forbidden}
use Rattle.chains.specs.Demand.{judged, history_of, GivenAt, BlockedTold}
use Rattle.chains.proofs.GuardLaws.{writing_judged}
use Rattle.records.specs.Records.{step_of}
use Rattle.records.specs.Traces.{trace_records}
use Rattle.monitor.specs.Steps.{step_asked, step_answer}
use Rattle.monitor.specs.Runs.{step_on, run_effect}
use Rattle.monitor.proofs.Theorems.{answer_new, given_spelled}
use Rattle.monitor.proofs.Guarded.{blocked_step, blocked_exactly}
use Rattle.monitor.proofs.RunHistories.{record_last, answer_last, take_before}
use Rattle.witness.specs.Witness.{Witness, witness}
use Rattle.witness.specs.Told.{told_history, told_numbers, item_of, chain_file, found_in, at_end}
use Rattle.witness.specs.Explains.{atom_witness, atom_found}
use Rattle.witness.specs.Tells.{Right}
use Rattle.witness.proofs.Theorems.{witness_right, told_given}
use Rattle.certificate.specs.Origins.{origin, Certificate, lacked_by}
use Rattle.certificate.specs.Whys.{Reason, reason_of, reason_numbers, why_numbers, answered, reason_in, forbidden_last}
use Rattle.certificate.specs.Whys.{why_length, why_refusal, why_effect, why_steps, why_receiver_at, why_tag_at, why_kind_at}
use Rattle.certificate.specs.Whys.{why_record_at, why_holder_at, why_rule_at, why_owner_at, why_chain_at, why_count_at, why_atoms_at}
use Rattle.certificate.specs.Certified.{ComesFrom, Certified}
use Rattle.certificate.proofs.LackLaws.{Wide, lacked_out, uncovered_held}
use Rattle.witness.proofs.ExplainFacts.{end_back}
use Rattle.witness.proofs.LowLaws.{reaches_low, reaches_item}
use Rattle.certificate.proofs.CertificateLaws.{Uncovered, uncovered, certified}
use Rattle.certificate.proofs.ImageRules.{rule_short}
use Rattle.certificate.proofs.SearchLaws.{chain_file_lem}
use Rattle.certificate.proofs.ReasonRight.{ReasonRight, reason_right, comes_from}
use Rattle.certificate.proofs.WhyCases.{none_refused}
use Rattle.certificate.proofs.WhyLaws.{Last, last_of}

-- ---- an answer that forbids is one to a step that is judged

forbidden_judged : (s r : List ℕ) → (is_alert (step_answer s r) || is_blocked (step_answer s r)) ≡ true → judged (step_asked r) ≡ true
forbidden_judged s r f = on (or_cases (is_alert (step_answer s r)) f) (decide (judged (step_asked r)))
  where
    on : (is_alert (step_answer s r) ≡ true) ⊎ (is_blocked (step_answer s r) ≡ true) → (judged (step_asked r) ≡ true) ⊎ (judged (step_asked r) ≡ false) → judged (step_asked r) ≡ true
    on x (inl j) = j
    on (inl e) (inr j) = clash e (ap is_alert (answer_new s r (alert_accepted (step_answer s r) e) j))
    on (inr e) (inr j) = writing_judged (step_asked r) (blocked_step s r e)

-- ---- a certificate of what is told of an answer: the tag has what reaches the receiver, which is forbidden what it holds

module _ (P : Policy) (ok : Sound P) (h : History) (c t : ℕ) (told : (k : ℕ) → (atom t k ≡ 1) ↔ Reaches P h k c) where
  pub wide_told : Wide t
  wide_told k e = reaches_low P ok h k c ((told k).0 e)

  pub certified_told : Forbidden P h c → Certificate P h c
  certified_told f = certified P h c t wide_told told (uncovered P h c t wide_told told f)

pub certified_given : (P : Policy) → Sound P → (h : History) (x : Step) (a : Answer) → BlockedTold P h x a → (is_alert a || is_blocked a) ≡ true → Certificate P (h ▸ x) (receiver x)
certified_given P ok h x a T f = certified_told P ok (h ▸ x) (receiver x) (tag_of a) T.tag (T.told.0 f)

-- ---- the last record of a trace

module _ (i t : List ℕ) (bytes : Bytes i) (ok : check_of i ≡ 0) (f : forbidden_last i t ≡ true) where
  x : Last i t
  x = last_of i t f

  given_at : GivenAt step_on step_of (start_of (policy_in i)) (x.front ++ (x.last ∷ [])) (length x.front) (step_asked x.last) (step_answer (run_effect (start_of (policy_in i)) x.front) x.last)
  unfolding step_on
  given_at =
      record {
        spelled = (x.last, record_last x.front x.last, given_spelled (run_effect (start_of (policy_in i)) x.front) x.last x.given);
        answered = answer_last (start_of (policy_in i)) x.front x.last;
        given = x.given;
      }

  blocked_told : BlockedTold (policy_in i) (history_of step_on step_of (start_of (policy_in i)) x.front) (step_asked x.last) (step_answer (run_effect (start_of (policy_in i)) x.front) x.last)
  blocked_told =
      subst
      (λ (k : List (List ℕ)). BlockedTold (policy_in i) (history_of step_on step_of (start_of (policy_in i)) k) (step_asked x.last)
      (step_answer (run_effect (start_of (policy_in i)) x.front) x.last))
      (take_before x.front x.last)
      (blocked_exactly i bytes ok (x.front ++ (x.last ∷ [])) (length x.front) (step_asked x.last) (step_answer (run_effect (start_of (policy_in i)) x.front) x.last) given_at
      (forbidden_judged (run_effect (start_of (policy_in i)) x.front) x.last x.forbids))

  told_is : told_history (start_of (policy_in i)) (trace_records t) ≡ history_of step_on step_of (start_of (policy_in i)) x.front ▸ step_asked x.last
  told_is = ap (told_history (start_of (policy_in i))) x.is ∙ told_given (start_of (policy_in i)) x.front x.last x.given

  receiver_is : receiver_of (answered i t) ≡ receiver (step_asked x.last)
  receiver_is = ap receiver_of x.answer ∙ blocked_told.at

  pub last_told : (k : ℕ) → (atom (tag_of (answered i t)) k ≡ 1) ↔ Reaches (policy_in i) (told_history (start_of (policy_in i)) (trace_records t)) k (receiver_of (answered i t))
  last_told k = rw (told_is, receiver_is, x.answer) (blocked_told.tag k)

  last_forbidden : Forbidden (policy_in i) (told_history (start_of (policy_in i)) (trace_records t)) (receiver_of (answered i t))
  last_forbidden = rw (told_is, receiver_is) (blocked_told.told.0 x.forbids)

  last_wide : Wide (tag_of (answered i t))
  last_wide =
      wide_told (policy_in i) (accepted_sound i bytes ok) (told_history (start_of (policy_in i)) (trace_records t)) (receiver_of (answered i t)) (tag_of (answered i t)) last_told

  last_uncovered : Uncovered (policy_in i) (told_history (start_of (policy_in i)) (trace_records t)) (receiver_of (answered i t)) (tag_of (answered i t))
  last_uncovered = uncovered (policy_in i) (told_history (start_of (policy_in i)) (trace_records t)) (receiver_of (answered i t)) (tag_of (answered i t)) last_wide last_told last_forbidden

  pub last_certified : Certificate (policy_in i) (told_history (start_of (policy_in i)) (trace_records t)) (receiver_of (answered i t))
  last_certified =
      certified (policy_in i) (told_history (start_of (policy_in i)) (trace_records t)) (receiver_of (answered i t)) (tag_of (answered i t)) last_wide last_told last_uncovered

  -- its reason is right
  last_right : ReasonRight (policy_in i) (told_history (start_of (policy_in i)) (trace_records t)) (told_numbers (start_of (policy_in i)) (trace_records t)) (tag_of (answered i t))
      (origin (told_history (start_of (policy_in i)) (trace_records t)) (receiver_of (answered i t))) (reason_in i t)
  unfolding reason_in reason_of
  last_right =
      reason_right (policy_in i) (told_history (start_of (policy_in i)) (trace_records t)) (told_numbers (start_of (policy_in i)) (trace_records t)) (tag_of (answered i t)) last_wide
      (origin (told_history (start_of (policy_in i)) (trace_records t)) (receiver_of (answered i t))) last_uncovered.rule last_uncovered.from last_uncovered.uncovers

  -- the rule that is told
  abbrev rule : List ℕ
  rule = rule_at (policy_in i).rules (reason_in i t).rule

  last_lacked : (k : ℕ) → k < length rule
      → (atom (tag_of (answered i t)) (lacked_by (tag_of (answered i t)) (get_or rule k 0)) ≡ 1) × (atom (get_or rule k 0) (lacked_by (tag_of (answered i t)) (get_or rule k 0)) ≡ 0)
  last_lacked k l =
      lacked_out (tag_of (answered i t)) (get_or rule k 0) last_wide (uncovered_held rule (tag_of (answered i t)) (get_or rule k 0) last_right.uncovers (element_in rule k l))
    where
      element_in : (r : List ℕ) (k : ℕ) → k < length r → elem (get_or r k 0) r ≡ true
      element_in [] k l = absurd (omega arith)
      element_in (m ∷ r) zero l = elem_here m r
      element_in (m ∷ r) (suc k) l = elem_there (get_or r k 0) m r (element_in r k (omega arith))

-- ---- the numbers

module _ (P : Policy) (c t room : ℕ) (w : Reason) where
  pub numbers_long : length (rule_at P.rules w.rule) ≤ mixture_limit → length (reason_numbers P c t room w) ≡ why_length
  unfolding reason_numbers
  numbers_long l =
      omega (
        arith,
        padded_length (map (lacked_by t) (rule_at P.rules w.rule)) (omega (arith, length-map (rule_at P.rules w.rule) (lacked_by t), l)),
      )

  pub number_lacked : (k : ℕ) → k < length (rule_at P.rules w.rule) → get_or (reason_numbers P c t room w) (9 + k) 0 ≡ lacked_by t (get_or (rule_at P.rules w.rule) k 0)
  unfolding reason_numbers padded
  number_lacked k l =
      get_or-append-add
      (c ∷ t ∷ w.kind ∷ w.at ∷ w.holder ∷ w.rule ∷ owner_at P.owners w.rule ∷ (room - length w.chain) ∷ length (rule_at P.rules w.rule) ∷ [])
      (padded (map (lacked_by t) (rule_at P.rules w.rule))) k 0
      ∙ get_or-append (map (lacked_by t) (rule_at P.rules w.rule)) _ 0 k (omega (arith, length-map (rule_at P.rules w.rule) (lacked_by t), l))
      ∙ map_at (lacked_by t) (rule_at P.rules w.rule) k 0 0 l

put_at : (x out : List ℕ) (k : ℕ) → k < length x → get_or (overwritten x 0 out) k 0 ≡ get_or x k 0
unfolding overwritten
put_at x out k l = get_or-append x (drop (0 + length x) out) 0 k l

-- ---- what is left in the output and the steps

module _ (i t links steps out : List ℕ) (bytes : Bytes i) (z : why_refusal i t links steps out ≡ 0) where
  ok : check_of i ≡ 0
  ok = ((none_refused i t links steps out).0 z).1

  pub forbids : forbidden_last i t ≡ true
  forbids = ((none_refused i t links steps out).0 z).2

  passes : eqb (why_refusal i t links steps out) 0 ≡ true
  passes = eq-eqb (why_refusal i t links steps out) 0 z

  told : List ℕ
  told = reason_numbers (policy_in i) (receiver_of (answered i t)) (tag_of (answered i t)) (length steps) (reason_in i t)

  short : length (rule_at (policy_in i).rules (reason_in i t).rule) ≤ mixture_limit
  short = rule_short i (reason_in i t).rule ok

  out_is : why_effect i t links steps out ≡ overwritten (reason_numbers (policy_in i) (receiver_of (answered i t)) (tag_of (answered i t)) (length steps) (reason_in i t)) 0 out
  unfolding why_effect why_numbers reason_in
  out_is = rw passes

  steps_is : why_steps i t links steps out ≡ at_end (reason_in i t).chain steps
  unfolding why_steps
  steps_is = rw passes

  number_at : (k : ℕ) → k < why_length
      → get_or (why_effect i t links steps out) k 0
      ≡ get_or (reason_numbers (policy_in i) (receiver_of (answered i t)) (tag_of (answered i t)) (length steps) (reason_in i t)) k 0
  number_at k l =
      ap (λ (x : List ℕ). get_or x k 0) out_is
      ∙ put_at (reason_numbers (policy_in i) (receiver_of (answered i t)) (tag_of (answered i t)) (length steps) (reason_in i t)) out k
      (omega (arith, numbers_long (policy_in i) (receiver_of (answered i t)) (tag_of (answered i t)) (length steps) (reason_in i t) short, l))

  is_receiver : get_or (why_effect i t links steps out) why_receiver_at 0 ≡ receiver_of (answered i t)
  unfolding reason_numbers
  is_receiver = number_at 0 (omega arith)

  is_tag : get_or (why_effect i t links steps out) why_tag_at 0 ≡ tag_of (answered i t)
  unfolding reason_numbers
  is_tag = number_at 1 (omega arith)

  is_kind : get_or (why_effect i t links steps out) why_kind_at 0 ≡ (reason_in i t).kind
  unfolding reason_numbers
  is_kind = number_at 2 (omega arith)

  is_at : get_or (why_effect i t links steps out) why_record_at 0 ≡ (reason_in i t).at
  unfolding reason_numbers
  is_at = number_at 3 (omega arith)

  is_holder : get_or (why_effect i t links steps out) why_holder_at 0 ≡ (reason_in i t).holder
  unfolding reason_numbers
  is_holder = number_at 4 (omega arith)

  is_rule : get_or (why_effect i t links steps out) why_rule_at 0 ≡ (reason_in i t).rule
  unfolding reason_numbers
  is_rule = number_at 5 (omega arith)

  is_owner : get_or (why_effect i t links steps out) why_owner_at 0 ≡ owner_at (policy_in i).owners (reason_in i t).rule
  unfolding reason_numbers
  is_owner = number_at 6 (omega arith)

  is_first : get_or (why_effect i t links steps out) why_chain_at 0 ≡ length steps - length (reason_in i t).chain
  unfolding reason_numbers
  is_first = number_at 7 (omega arith)

  is_count : get_or (why_effect i t links steps out) why_count_at 0 ≡ length (rule_at (policy_in i).rules (reason_in i t).rule)
  unfolding reason_numbers
  is_count = number_at 8 (omega arith)

  is_lacked : (k : ℕ) → k < length (rule_at (policy_in i).rules (reason_in i t).rule)
      → get_or (why_effect i t links steps out) (why_atoms_at + k) 0 ≡ lacked_by (tag_of (answered i t)) (get_or (rule_at (policy_in i).rules (reason_in i t).rule) k 0)
  is_lacked k l =
      number_at (9 + k) (omega (arith, short, l)) ∙ number_lacked (policy_in i) (receiver_of (answered i t)) (tag_of (answered i t)) (length steps) (reason_in i t) k l

  is_chain : drop (get_or (why_effect i t links steps out) why_chain_at 0) (why_steps i t links steps out) ≡ (reason_in i t).chain
  is_chain = rw (is_first, steps_is) (end_back (reason_in i t).chain steps)

  counted : (k : ℕ) → k < get_or (why_effect i t links steps out) why_count_at 0 → k < length (rule_at (policy_in i).rules (reason_in i t).rule)
  counted k l = omega (arith, is_count, l)

  comes : ComesFrom (policy_in i) (told_history (start_of (policy_in i)) (trace_records t)) (told_numbers (start_of (policy_in i)) (trace_records t))
      (origin (told_history (start_of (policy_in i)) (trace_records t)) (receiver_of (answered i t)))
      (rule_at (policy_in i).rules (get_or (why_effect i t links steps out) why_rule_at 0)) (get_or (why_effect i t links steps out) why_kind_at 0)
      (get_or (why_effect i t links steps out) why_record_at 0) (get_or (why_effect i t links steps out) why_holder_at 0)
      (drop (get_or (why_effect i t links steps out) why_chain_at 0) (why_steps i t links steps out))
  comes = rw (is_chain, is_rule, is_kind, is_at, is_holder) (last_right i t bytes ok forbids).comes

  pub certifies : Certified (policy_in i) (told_history (start_of (policy_in i)) (trace_records t)) (told_numbers (start_of (policy_in i)) (trace_records t)) (answered i t)
      (why_effect i t links steps out) (why_steps i t links steps out)
  certifies =
      record {
        receiver = is_receiver;
        tag = is_tag;
        comes = comes;
        from =
            comes_from (policy_in i) (told_history (start_of (policy_in i)) (trace_records t)) (told_numbers (start_of (policy_in i)) (trace_records t))
            (origin (told_history (start_of (policy_in i)) (trace_records t)) (receiver_of (answered i t)))
            (rule_at (policy_in i).rules (get_or (why_effect i t links steps out) why_rule_at 0)) (get_or (why_effect i t links steps out) why_kind_at 0)
            (get_or (why_effect i t links steps out) why_record_at 0) (get_or (why_effect i t links steps out) why_holder_at 0)
            (drop (get_or (why_effect i t links steps out) why_chain_at 0) (why_steps i t links steps out)) comes;
        owner = rw is_rule is_owner;
        mixtures = rw is_rule is_count;
        lacks = λ k l. rw (is_rule, is_lacked k (counted k l)) (last_lacked i t bytes ok forbids k (counted k l)).1;
        holds = λ k l. rw (is_lacked k (counted k l)) (last_lacked i t bytes ok forbids k (counted k l)).0;
        reaches = λ k l.
            rw (is_lacked k (counted k l))
            ((last_told i t bytes ok forbids (lacked_by (tag_of (answered i t)) (get_or (rule_at (policy_in i).rules (reason_in i t).rule) k 0))).0
            (last_lacked i t bytes ok forbids k (counted k l)).0);
      }

  -- an atom that reaches the receiver has a chain, which begins in a container
  pub explained : (k : ℕ) → k < get_or (why_effect i t links steps out) why_count_at 0 → (buffer : List ℕ)
      → (atom_found i t (receiver_of (answered i t)) (get_or (why_effect i t links steps out) (why_atoms_at + k) 0) buffer).file < container_limit
  unfolding atom_found found_in atom_witness
  explained k l buffer = on (witness (policy_in i) history item c) refl (witness_right (policy_in i) history item c)
    where
      history : History
      history = told_history (start_of (policy_in i)) (trace_records t)

      item : Item
      item = item_of (get_or (why_effect i t links steps out) (why_atoms_at + k) 0)

      c : ℕ
      c = receiver_of (answered i t)

      chain : Chain (policy_in i) history item c
      chain = (reaches_item (policy_in i) (accepted_sound i bytes ok) history (get_or (why_effect i t links steps out) (why_atoms_at + k) 0) c).0 (certifies.reaches k l)

      on : (v : Option Witness) → witness (policy_in i) history item c ≡ v → Right (policy_in i) history item c v → chain_file v < container_limit
      on none e n = absurd (n chain)
      on (some w) e n = unfold chain_file in (chain_file_lem i ok history item c w e)
