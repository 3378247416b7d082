-- Each case is the definition's; the bytes of the containers and of the user and the words of the rules go to the writer.
use mathlib.Core.Path.{sym}
use native.Mathlib.Omega.{arith}
use Prim.Native.Nat.{◌*◌}
use Rattle.normaliser.specs.Writer.{form_width}
use Rattle.matrix.specs.Limits.{object_limit}
use Rattle.lists.proofs.Bools.{passes_test, fails_test}
use Rattle.matrix.proofs.GoodLaws.{good_parts}
use Rattle.derivation.proofs.DeriveCases.{refusal_short, refusal_matrix, refusal_none}
use Rattle.derivation.proofs.DeriveCases.{derive_short, derive_refused, derive_done, zeros_front, words_end, objects_end, containers_end, derive_tabled, derive_wrote, derived_small}
use borrow.Author.Rules.{rules}
use Rattle.derivation.proofs.derive.Goals as goal

-- ---- the places where a part has been written, and the matrix that was tested

-- ---- the needs

pub returns-then-out-lt-OUTPUT_BOUND : goal.returns-then-out-lt-OUTPUT_BOUND
returns-then-out-lt-OUTPUT_BOUND c =
    let a = c.args in
    let told = derive_short _ _ _ _ c.if-out-lt-OUTPUT_BOUND.true in
    (told.0, told.1, sym (refusal_short a.reads.now a.writes.now a.objects a.out.now c.if-out-lt-OUTPUT_BOUND.true))

pub returns-then-not-matrix_good : goal.returns-then-not-matrix_good
returns-then-not-matrix_good c =
    let a = c.args in
    let bad = fails_test c.matrix_good.ensures c.if-not-matrix_good.true-raw in
    let told = derive_refused _ _ _ _ c.if-out-lt-OUTPUT_BOUND.false bad in
    (told.0, told.1, sym (refusal_matrix a.reads.now a.writes.now a.objects a.out.now c.if-out-lt-OUTPUT_BOUND.false bad))

pub put_objects-subjects-requires : goal.put_objects-subjects-requires
put_objects-subjects-requires c = let g = good_parts _ _ _ (passes_test c.matrix_good.ensures c.if-not-matrix_good.false-raw) in (g.few, omega (arith, g.few))

pub put_subjects-end-requires : goal.put_subjects-end-requires
put_subjects-end-requires c =
    let g = good_parts _ _ _ (passes_test c.matrix_good.ensures c.if-not-matrix_good.false-raw) in
    let a = c.args in
    (g.subjects, omega (arith, g.few, g.subjects, objects_end a.reads.now a.writes.now a.objects (passes_test c.matrix_good.ensures c.if-not-matrix_good.false-raw) c.put_objects-subjects.ensures))

pub slice_bounds-words-end : goal.slice_bounds-words-end
slice_bounds-words-end c = omega (arith, (good_parts _ _ _ (passes_test c.matrix_good.ensures c.if-not-matrix_good.false-raw)).few)

pub put_permits-requires : goal.put_permits-requires
put_permits-requires c =
    let g = good_parts _ _ _ (passes_test c.matrix_good.ensures c.if-not-matrix_good.false-raw) in
    (g.few, zeros_front (c.args.objects * form_width) (object_limit * form_width) (omega (arith, g.few)))

pub invariant_of-put_permits : goal.invariant_of-put_permits
invariant_of-put_permits c = let g = good_parts _ _ _ (passes_test c.matrix_good.ensures c.if-not-matrix_good.false-raw) in record { even = g.even; few = g.subjects }

pub slice_bounds-write_policy-end : goal.slice_bounds-write_policy-end
slice_bounds-write_policy-end c =
    let g = good_parts _ _ _ (passes_test c.matrix_good.ensures c.if-not-matrix_good.false-raw) in
    let a = c.args in
    omega (
      arith,
      g.few,
      g.subjects,
      containers_end a.reads.now a.writes.now a.objects (passes_test c.matrix_good.ensures c.if-not-matrix_good.false-raw) c.put_objects-subjects.ensures c.put_subjects-end.ensures,
    )

pub slice_bounds-write_policy-end-3 : goal.slice_bounds-write_policy-end-3
slice_bounds-write_policy-end-3 c =
    let a = c.args in
    words_end a.reads.now a.writes.now a.objects (passes_test c.matrix_good.ensures c.if-not-matrix_good.false-raw) _ _ c.put_permits.ensures

pub write_policy-requires : goal.write_policy-requires
write_policy-requires c =
    let a = c.args in (
      derive_tabled a.reads.now a.writes.now a.objects (passes_test c.matrix_good.ensures c.if-not-matrix_good.false-raw) c.put_objects-subjects.ensures
          c.put_subjects-end.ensures c.put16.ensures (search rules) _ _ c.put_permits.ensures,
      c.if-out-lt-OUTPUT_BOUND.false,
    )

pub overflow_cast-result : goal.overflow_cast-result
overflow_cast-result c =
    let a = c.args in
    omega (
      arith,
      derived_small a.reads.now a.writes.now a.objects (passes_test c.matrix_good.ensures c.if-not-matrix_good.false-raw)
          (derive_wrote a.reads.now a.writes.now a.objects (passes_test c.matrix_good.ensures c.if-not-matrix_good.false-raw) c.put_objects-subjects.ensures
          c.put_subjects-end.ensures c.put16.ensures (search rules) _ _ c.put_permits.ensures
          c.write_policy.ensures),
    )

pub returns : goal.returns
returns c =
    let a = c.args in
    let good = passes_test c.matrix_good.ensures c.if-not-matrix_good.false-raw in
    let told =
    derive_done _ _ _ _ c.if-out-lt-OUTPUT_BOUND.false good
    (derive_wrote a.reads.now a.writes.now a.objects good c.put_objects-subjects.ensures
    c.put_subjects-end.ensures c.put16.ensures (search rules) _ _ c.put_permits.ensures
    c.write_policy.ensures) in
    (told.0, told.1, sym (refusal_none a.reads.now a.writes.now a.objects a.out.now c.if-out-lt-OUTPUT_BOUND.false good))
