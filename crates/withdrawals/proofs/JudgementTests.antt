-- The judgement from the tests that lead to it.
use Prim.Native.Nat.{ℕ}
use mathlib.Core.Path.{◌≡◌, refl, sym, ap, ◌∙◌}
use mathlib.Core.Bool.{true, false, cond, ◌&&◌}
use mathlib.Core.List.{List}
use lib.Dec.{eqb}
use lib.ListN.{length}
use borrow.Author.Tests.{eq-eqb, eqb-true}
use Rattle.lists.specs.Conditions.{first_failed}
use Rattle.lists.proofs.Bools.{and_in, and_0, and_1}
use Rattle.std.proofs.Common.{Result, Ok, Err}
use Rattle.answers.specs.Refusals.{matrix}
use Rattle.answers.specs.declared.Refusal.{Refusal}
use Rattle.answers.specs.declared.Refusal.TheVariants as V
use Rattle.matrix.specs.Flows.{matrix_good, Matrix, matrix_of, well_formed}
use Rattle.matrix.specs.Verdicts.{consistent, MatrixAlone}
use Rattle.matrix.proofs.GoodLaws.{good_parts}
use Rattle.withdrawals.specs.declared.Judgement.{Judgement}
use Rattle.withdrawals.specs.declared.Judgement.TheVariants.{Accepted, RightAdded, RightLost, Inconsistent, NotMinimal}
use Rattle.withdrawals.specs.Judgements.{same_counts, comparable, rows_held, none_added, all_kept, stays_consistent, read_needed}
use Rattle.withdrawals.specs.Judgements.{write_needed, subject_needed, minimal, judgement_conditions, judgement_of, judgement_number}
use Rattle.withdrawals.specs.Rights.{Comparable}
use Rattle.withdrawals.specs.Returns.{Proposed, flow_judgement}

-- ---- what is known of three matrices that are not refused

module _ (old required proposed : Matrix) where
  pub comparable_parts : comparable old required proposed ≡ true → Comparable old required proposed
  unfolding comparable well_formed same_counts
  comparable_parts h =
      let h1 = and_1 (well_formed old) h in
      let h2 = and_1 (well_formed required) h1 in
      let h3 = and_1 (well_formed proposed) h2 in
      let r = and_0 (same_counts old required) (same_counts old proposed) h3 in
      let p = and_1 (same_counts old required) h3 in
      record {
        old_good = and_0 (well_formed old) _ h;
        required_good = and_0 (well_formed required) _ h1;
        proposed_good = and_0 (well_formed proposed) _ h2;
        required_subjects = eqb-true (length old.reads) (length required.reads) (and_0 (eqb (length old.reads) (length required.reads)) _ r);
        required_objects = eqb-true old.objects required.objects (and_1 (eqb (length old.reads) (length required.reads)) r);
        proposed_subjects = eqb-true (length old.reads) (length proposed.reads) (and_0 (eqb (length old.reads) (length proposed.reads)) _ p);
        proposed_objects = eqb-true old.objects proposed.objects (and_1 (eqb (length old.reads) (length proposed.reads)) p);
      }

  pub parts_comparable : Comparable old required proposed → comparable old required proposed ≡ true
  unfolding comparable well_formed same_counts
  parts_comparable c =
      and_in c.old_good
      (and_in c.required_good
      (and_in c.proposed_good
      (and_in (and_in (eq-eqb (length old.reads) (length required.reads) c.required_subjects) (eq-eqb old.objects required.objects c.required_objects))
      (and_in (eq-eqb (length old.reads) (length proposed.reads) c.proposed_subjects) (eq-eqb old.objects proposed.objects c.proposed_objects)))))

  -- the write rows are as many as the read rows
  writes_even : (m : Matrix) → matrix_good m.reads m.writes m.objects ≡ true → length m.writes ≡ length m.reads
  writes_even m g = (good_parts m.reads m.writes m.objects g).even

  pub old_even : comparable old required proposed ≡ true → (length old.reads ≡ length proposed.reads) × (length old.writes ≡ length proposed.writes)
  old_even h =
      let c = comparable_parts h in
      (c.proposed_subjects, writes_even old c.old_good ∙ c.proposed_subjects ∙ sym (writes_even proposed c.proposed_good))

  pub required_even : comparable old required proposed ≡ true → (length proposed.reads ≡ length required.reads) × (length proposed.writes ≡ length required.writes)
  required_even h =
      let c = comparable_parts h in
      let e : length proposed.reads ≡ length required.reads = sym c.proposed_subjects ∙ c.required_subjects in
      (e, writes_even proposed c.proposed_good ∙ e ∙ sym (writes_even required c.required_good))

  pub proposed_is : comparable old required proposed ≡ true → Proposed old.reads old.writes proposed.reads proposed.writes proposed.objects
  proposed_is h =
      let c = comparable_parts h in
      let g = good_parts proposed.reads proposed.writes proposed.objects c.proposed_good in
      record {
        old_reads_even = c.proposed_subjects;
        old_writes_even = writes_even old c.old_good ∙ c.proposed_subjects;
        even = g.even;
        few = g.few;
        good = g.writes_good;
      }

  -- ---- the judgement

  pub judged_8 : comparable old required proposed ≡ false → matrix ≡ judgement_of old required proposed
  unfolding judgement_of judgement_conditions first_failed
  judged_8 h = rw h

  module _ (c : comparable old required proposed ≡ true) where
    pub judged_1 : (rows_held old.reads proposed.reads && rows_held old.writes proposed.writes) ≡ false → 1 ≡ judgement_of old required proposed
    unfolding judgement_of judgement_conditions first_failed none_added
    judged_1 h = rw (c, h)

    module _ (h1 : (rows_held old.reads proposed.reads && rows_held old.writes proposed.writes) ≡ true) where
      pub judged_2 : (rows_held proposed.reads required.reads && rows_held proposed.writes required.writes) ≡ false → 2 ≡ judgement_of old required proposed
      unfolding judgement_of judgement_conditions first_failed none_added all_kept
      judged_2 h = rw (c, h1, h)

      module _ (h2 : (rows_held proposed.reads required.reads && rows_held proposed.writes required.writes) ≡ true) where
        pub judged_flows : (n : ℕ) → flow_judgement (matrix_of old.reads old.writes n) proposed ≡ judgement_of old required proposed
        unfolding judgement_of judgement_conditions first_failed none_added all_kept flow_judgement minimal subject_needed read_needed write_needed
        judged_flows n = rw (c, h1, h2)

-- ---- the conditions on flows

module _ (old_reads old_writes reads writes : List ℕ) (n : ℕ) where
  pub flows_3 : consistent reads writes n ≡ false → 3 ≡ flow_judgement (matrix_of old_reads old_writes n) (matrix_of reads writes n)
  unfolding flow_judgement stays_consistent
  flows_3 h = rw h

  module _ (k : consistent reads writes n ≡ true) where
    pub flows_4 : minimal (matrix_of old_reads old_writes n) (matrix_of reads writes n) ≡ false → 4 ≡ flow_judgement (matrix_of old_reads old_writes n) (matrix_of reads writes n)
    unfolding flow_judgement stays_consistent
    flows_4 h = rw (k, h)

    pub flows_0 : minimal (matrix_of old_reads old_writes n) (matrix_of reads writes n) ≡ true → 0 ≡ flow_judgement (matrix_of old_reads old_writes n) (matrix_of reads writes n)
    unfolding flow_judgement stays_consistent
    flows_0 h = rw (k, h)

-- ---- the cases of the answer

-- the case of a number
case_of : ℕ → Result Judgement Refusal
case_of n =
    cond (eqb n 0) (Ok Accepted)
    (cond (eqb n 1) (Ok RightAdded) (cond (eqb n 2) (Ok RightLost) (cond (eqb n 3) (Ok Inconsistent) (cond (eqb n 4) (Ok NotMinimal) (Err V.Matrix)))))

case_back : (j : Result Judgement Refusal) → MatrixAlone j → case_of (judgement_number j) ≡ j
unfolding case_of
case_back (Ok Accepted) h = refl
case_back (Ok RightAdded) h = refl
case_back (Ok RightLost) h = refl
case_back (Ok Inconsistent) h = refl
case_back (Ok NotMinimal) h = refl
case_back (Err refusal) h = rw h

pub numbers_apart : (i j : Result Judgement Refusal) → MatrixAlone i → MatrixAlone j → judgement_number i ≡ judgement_number j → i ≡ j
numbers_apart i j h k e = sym (case_back i h) ∙ ap case_of e ∙ case_back j k
