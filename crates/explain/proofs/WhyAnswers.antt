-- What `explain` and `why` answer where nothing is refused.
use Prim.Native.Nat.{ℕ, ◌+◌, ◌-◌, ◌/◌, ◌≤◌, ◌<◌}
use native.Mathlib.Omega.{arith}
use mathlib.Core.Path.{◌≡◌, refl, sym, ap, ap₂, ◌∙◌}
use mathlib.Core.Bool.{Bool, true}
use mathlib.Core.List.{List, ◌++◌, map, append_assoc}
use lib.ListN.{length, take, drop, get_or, length-map}
use lib.Seq.{take_at}
use borrow.Author.Tests.{eq-eqb, le-leb}
use Rattle.lists.proofs.Bools.{and_in}
use Rattle.std.specs.Prelude.{Result, Ok, Err, is_ok}
use Rattle.fields.specs.Ascii.{ascii}
use Rattle.answers.specs.declared.Refusal.{Refusal}
use Rattle.answers.specs.Outcomes.{refusal_number}
use Rattle.answers.proofs.Outcomes.{refusal_number_positive}
use Rattle.witness.specs.declared.Found.{Found}
use Rattle.fields.specs.Bytes.{Bytes}
use Rattle.fields.specs.Writing.{overwritten}
use Rattle.fields.proofs.SectionRecords.{cut_count}
use Rattle.answers.specs.Answers.{is_blocked, receiver_of, tag_of}
use Rattle.rules.specs.Answers.{tag_width, padded}
use Rattle.image.specs.Limits.{container_limit}
use Rattle.image.specs.Image.{check_of, policy_in}
use Rattle.records.specs.Records.{record_length}
use Rattle.records.specs.Traces.{trace_records}
use Rattle.image.proofs.Decode.{accepted_sound}
use Rattle.witness.proofs.LowLaws.{reaches_low}
use Rattle.witness.proofs.ExplainLaws.{both_there}
use Rattle.witness.proofs.ExplainFacts as explains
use Rattle.witness.proofs.ExplainFacts.{end_back}
use Rattle.certificate.proofs.WhyCases as whys
use Rattle.certificate.proofs.LastAnswer.{answered_low}
use Rattle.certificate.proofs.Theorems.{why_certifies}
use Rattle.witness.specs.Links.{node_of}
use Rattle.witness.specs.Told.{chain_file, chain_records, found_in, at_end}
use Rattle.witness.specs.Explains.{atom_witness, atom_numbers, atom_found, atom_steps, lent_good, explain_refusal, Explained, explain_answer, explain_steps, explained as outcome}
use Rattle.certificate.specs.Whys.{answered, reason_in, reason_numbers, why_numbers, room_good, why_length, why_refusal, why_effect, why_steps}
use Rattle.certificate.specs.Whys.{why_receiver_at, why_kind_at, why_record_at, why_holder_at, why_rule_at, why_owner_at, why_chain_at, why_count_at, why_atoms_at}
use Rattle.explanations.specs.Lines.{found_line, rule_fields, way_fields}
use Rattle.explanations.specs.Buffer.{opened, ended}
use Rattle.explanations.proofs.ExplanationLines.{rule_text_lem, way_text_lem}
use Rattle.files.specs.Calls.{Handed, handed_then, handed_as}
use Rattle.explain.specs.Texts.{way_text, mixtures_of, lacked_in, rule_text, mixtures_text, explanation_text}
use Rattle.explain.specs.Runs.{record_limit, trace_size, Asked, WhyNumbers, rule_told}
use Rattle.explain.proofs.LackedMixtures.{atom_in}

-- ---- what is lent

abbrev pub links_length : ℕ
links_length = node_of record_limit

pub few_records : (t : List ℕ) → length t ≤ trace_size → length (trace_records t) ≤ record_limit
unfolding trace_records
few_records t h = omega (arith, cut_count record_length ((length t + (record_length - 1)) / record_length) t)

lent_good_lem : (t links steps : List ℕ) → length t ≤ trace_size → length links ≡ links_length → length steps ≡ record_limit → lent_good t links steps ≡ true
unfolding lent_good
lent_good_lem t links steps h l m =
    and_in (le-leb (node_of (length (trace_records t))) (length links) (omega (arith, few_records t h, l)))
    (le-leb (length (trace_records t)) (length steps) (omega (arith, few_records t h, m)))

-- ---- how an atom came into a container

module _ (i t links steps : List ℕ) (c k : ℕ) (a : check_of i ≡ 0) (f : length t ≤ trace_size) (l : length links ≡ links_length) (m : length steps ≡ record_limit)
    (x : c < container_limit) (y : k < tag_width) where
  not_refused : explain_refusal i t c k links steps ≡ 0
  not_refused = (explains.none_refused i t c k links steps).1 (lent_good_lem t links steps f l m, a, both_there c k x y)

  -- so a chain is given
  pub given_found : (o : Result Found Refusal) → outcome o ≡ explain_answer i t c k links steps → is_ok o ≡ true
  unfolding explain_answer
  given_found (Ok r) e = refl
  given_found (Err r) e =
      let none : refusal_number r ≡ 0 = ap (λ (z : Explained). z.refusal) e ∙ rw (eq-eqb (explain_refusal i t c k links steps) 0 not_refused) refl in
      absurd (omega (arith, refusal_number_positive r))

  pub way_file : (r : Explained) → r ≡ explain_answer i t c k links steps → r.file ≡ chain_file (atom_witness i t c k)
  unfolding explain_answer atom_found found_in
  way_file r e = ap (λ (z : Explained). z.file) e ∙ rw (eq-eqb (explain_refusal i t c k links steps) 0 not_refused) refl

  pub way_first : (r : Explained) → r ≡ explain_answer i t c k links steps → r.first ≡ length steps - length (chain_records (atom_numbers i t) (atom_witness i t c k))
  unfolding explain_answer atom_found found_in
  way_first r e = ap (λ (z : Explained). z.first) e ∙ rw (eq-eqb (explain_refusal i t c k links steps) 0 not_refused) refl

  pub way_chain : (r : Explained) (steps' : List ℕ) → r ≡ explain_answer i t c k links steps → steps' ≡ explain_steps i t c k links steps
      → drop r.first steps' ≡ chain_records (atom_numbers i t) (atom_witness i t c k)
  unfolding explain_steps atom_steps
  way_chain r steps' e g =
      let xs : List ℕ = chain_records (atom_numbers i t) (atom_witness i t c k) in
      let s : steps' ≡ at_end xs steps = g ∙ rw (eq-eqb (explain_refusal i t c k links steps) 0 not_refused) refl in
      ap₂ (λ (n : ℕ) (z : List ℕ). drop n z) (way_first r e) s ∙ end_back xs steps

  pub way_shown : (r : Explained) (steps' front : List ℕ) → r ≡ explain_answer i t c k links steps → steps' ≡ explain_steps i t c k links steps
      → front ≡ opened (ascii "way") (way_fields k r.file) → ended front (drop r.first steps') ≡ way_text i t c k
  unfolding way_text
  way_shown r steps' front e g z =
      ap₂ (λ (y x : List ℕ). ended y x) (z ∙ ap (λ (n : ℕ). opened (ascii "way") (way_fields k n)) (way_file r e)) (way_chain r steps' e g)
      ∙ way_text_lem k (chain_file (atom_witness i t c k)) (chain_records (atom_numbers i t) (atom_witness i t c k))

-- ---- why

module _ (i t links steps out : List ℕ) (a : Asked i t) (l : length links ≡ links_length) (m : length steps ≡ record_limit) (o : length out ≡ why_length) where
  room_good_lem : room_good t links steps out ≡ true
  unfolding room_good
  room_good_lem = and_in (lent_good_lem t links steps a.few l m) (le-leb why_length (length out) (omega (arith, o)))

  why_given : why_refusal i t links steps out ≡ 0
  why_given = (whys.none_refused i t links steps out).1 (room_good_lem, a.accepted, a.forbidden)

  abbrev numbers : List ℕ
  numbers = reason_numbers (policy_in i) (receiver_of (answered i t)) (tag_of (answered i t)) (length steps) (reason_in i t)

  module _ (out' : List ℕ) (e : out' ≡ why_effect i t links steps out) where
    written : out' ≡ numbers ++ drop (0 + length numbers) out
    unfolding why_effect why_numbers reason_in overwritten
    written = e ∙ rw (eq-eqb (why_refusal i t links steps out) 0 why_given) refl

    atoms_written : take (length (mixtures_of i t)) (drop why_atoms_at out') ≡ map (lacked_in i t) (mixtures_of i t)
    unfolding mixtures_of lacked_in reason_numbers padded
    atoms_written =
        let xs : List ℕ = map (lacked_in i t) (mixtures_of i t) in
        rw written
        (rw (append_assoc {A = ℕ}) (take_at xs _ (length (mixtures_of i t)) (length-map (mixtures_of i t) (lacked_in i t))))

    pub why_first : get_or out' 7 0 ≡ record_limit - length (reason_in i t).chain
    unfolding reason_numbers
    why_first = rw (written, m) refl

    count_told : get_or out' 8 0 ≡ length (mixtures_of i t)
    unfolding mixtures_of reason_numbers
    count_told = rw written refl

    -- each mixture lacks an atom of the tag
    small_told : Bytes i → (j : ℕ) → j < length (mixtures_of i t) → lacked_in i t (get_or (mixtures_of i t) j 0) < tag_width
    small_told y j l =
        let k : j < get_or (why_effect i t links steps out) why_count_at 0 = omega (arith, ap (λ (x : List ℕ). get_or x 8 0) e, count_told) in
        let r = (why_certifies i t links steps out y why_given).reaches j k in
        omega (arith, reaches_low (policy_in i) (accepted_sound i y a.accepted) _ _ _ r, ap (λ (x : List ℕ). get_or x (9 + j) 0) e, atom_in i t out' atoms_written j l)

    pub why_told : Bytes i → length out' ≡ why_length → WhyNumbers i t out'
    unfolding reason_numbers
    why_told y z =
        record {
          long = z;
          receiver = rw written refl;
          kind = rw written refl;
          made = rw written refl;
          holder = rw written refl;
          rule = rw written refl;
          owner = rw written refl;
          count = count_told;
          atoms = atoms_written;
          container = answered_low i t;
          small = small_told y;
        }

    pub why_chain : (steps' : List ℕ) → steps' ≡ why_steps i t links steps out → drop (get_or out' 7 0) steps' ≡ (reason_in i t).chain
    unfolding why_steps
    why_chain steps' g =
        let xs : List ℕ = (reason_in i t).chain in
        let s : steps' ≡ at_end xs steps = g ∙ rw (eq-eqb (why_refusal i t links steps out) 0 why_given) refl in
        ap₂ (λ (n : ℕ) (z : List ℕ). drop n z) (why_first ∙ ap (λ (n : ℕ). n - length xs) (sym m)) s ∙ end_back xs steps

pub rule_shown : (why steps front : List ℕ)
    → front
    ≡ opened (ascii "rule")
    (rule_fields (get_or why why_kind_at 0) (get_or why why_rule_at 0) (get_or why why_owner_at 0) (get_or why why_record_at 0) (get_or why why_holder_at 0))
    → ended front (drop (get_or why why_chain_at 0) steps) ≡ rule_told why steps
unfolding rule_told
rule_shown why steps front e =
    ap (λ (y : List ℕ). ended y (drop (get_or why why_chain_at 0) steps)) e
    ∙ rule_text_lem (get_or why why_kind_at 0) (get_or why why_rule_at 0) (get_or why why_owner_at 0) (get_or why why_record_at 0) (get_or why why_holder_at 0) (drop (get_or why why_chain_at 0) steps)

pub rule_is_told : (i t why steps : List ℕ) → WhyNumbers i t why → drop (get_or why why_chain_at 0) steps ≡ (reason_in i t).chain → rule_told why steps ≡ rule_text i t
unfolding rule_told rule_text
rule_is_told i t why steps h e = rw (h.kind, h.rule, h.owner, h.made, h.holder, e) refl

-- the lines of an explanation, one behind the other
pub explained : (i t why steps front : List ℕ) (n a b d e : ℕ) (blocked : Bool) → WhyNumbers i t why → drop (get_or why why_chain_at 0) steps
    ≡ (reason_in i t).chain → blocked ≡ is_blocked (answered i t)
    → front ≡ found_line blocked n (get_or why why_receiver_at 0) → Handed front a b → Handed (rule_told why steps) b d → Handed (mixtures_text i t) d e → Handed (explanation_text i t n) a e
unfolding explanation_text
explained i t why steps front n a b d e blocked h g k f x y z =
    handed_then (handed_as (f ∙ ap₂ (λ (p : Bool) (c : ℕ). found_line p n c) k h.receiver) x)
    (handed_then (handed_as (rule_is_told i t why steps h g) y) z)
