-- The parts of a well-formed matrix. Other crates may cite this file.
use Prim.Native.Nat.{ℕ, ◌≤◌}
use mathlib.Core.Path.{◌≡◌, sym}
use mathlib.Core.Bool.{true}
use mathlib.Core.List.{List}
use lib.Dec.{eqb, leb}
use lib.ListN.{length}
use borrow.Author.Tests.{eq-eqb, le-leb, eqb-true, leb-true}
use Rattle.lists.proofs.Bools.{and_in, and_0, and_1}
use Rattle.matrix.specs.Limits.{subject_limit, object_limit}
use Rattle.matrix.specs.Flows.{rows_within, count_good, matrix_good}

pub record Good (reads writes : List ℕ) (objects : ℕ) : Type 0 where
  pub even : length writes ≡ length reads
  pub few : objects ≤ object_limit
  pub some : 1 ≤ objects
  pub some_subjects : 1 ≤ length reads
  pub subjects : length reads ≤ subject_limit
  pub reads_good : rows_within objects reads ≡ true
  pub writes_good : rows_within objects writes ≡ true

pub good_parts : (reads writes : List ℕ) (objects : ℕ) → matrix_good reads writes objects ≡ true → Good reads writes objects
unfolding matrix_good count_good
good_parts reads writes objects h =
    let h1 = and_1 (eqb (length reads) (length writes)) h in
    let s = and_0 (count_good subject_limit (length reads)) _ h1 in
    let h2 = and_1 (count_good subject_limit (length reads)) h1 in
    let o = and_0 (count_good object_limit objects) _ h2 in
    let h3 = and_1 (count_good object_limit objects) h2 in
    record {
      even = sym (eqb-true (length reads) (length writes) (and_0 (eqb (length reads) (length writes)) _ h));
      few = leb-true objects object_limit (and_1 (leb 1 objects) o);
      some = leb-true 1 objects (and_0 (leb 1 objects) (leb objects object_limit) o);
      some_subjects = leb-true 1 (length reads) (and_0 (leb 1 (length reads)) (leb (length reads) subject_limit) s);
      subjects = leb-true (length reads) subject_limit (and_1 (leb 1 (length reads)) s);
      reads_good = and_0 (rows_within objects reads) (rows_within objects writes) h3;
      writes_good = and_1 (rows_within objects reads) h3;
    }

pub parts_good : (reads writes : List ℕ) (objects : ℕ) → length reads ≡ length writes → 1 ≤ length reads → length reads ≤ subject_limit → 1 ≤ objects → objects ≤ object_limit
    → rows_within objects reads ≡ true → rows_within objects writes ≡ true → matrix_good reads writes objects ≡ true
unfolding matrix_good count_good
parts_good reads writes objects e s t o p r w =
    and_in (eq-eqb (length reads) (length writes) e)
    (and_in (and_in (le-leb 1 (length reads) s) (le-leb (length reads) subject_limit t))
    (and_in (and_in (le-leb 1 objects o) (le-leb objects object_limit p)) (and_in r w)))

pub count_good_most : (most n : ℕ) → count_good most n ≡ true → n ≤ most
unfolding count_good
count_good_most most n h = leb-true n most (and_1 (leb 1 n) h)
