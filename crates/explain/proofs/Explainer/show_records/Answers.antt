-- `explain::Explainer::show_records`. Invariant: the records before `at` are run and explained (`Explaining`).
use native.Mathlib.Omega.{arith}
use lib.ListN.{length-take}
use Rattle.records.proofs.TraceRecords.{record_length_lem}
use Rattle.explain.proofs.ExplainedRecords.{explaining_start, few, found_few, answer_is, explaining_next, explaining_end}
use Rattle.explain.proofs.Explainer.show_records.Goals as goal

pub loop-at-init : goal.loop-at-init
loop-at-init c = explaining_start _ _ _ _ c.requires

pub overflow_add-at : goal.overflow_add-at
overflow_add-at c = omega (arith, record_length_lem _ _ _ c.loop-at-test.true c.record_at-bytes.ensures)

pub slice_bounds-up_to-end : goal.slice_bounds-up_to-end
slice_bounds-up_to-end c =
    let trace = c.args.given.now.trace.now in
    simp length-take (omega (arith, record_length_lem _ _ _ c.loop-at-test.true c.record_at-bytes.ensures))

pub show_record-requires : goal.show_record-requires
show_record-requires c =
    answer_is _ _ _ _ _ _ _ _ c.loop-at.invariant c.loop-at-test.true c.args.given.now.few _ _ _ c.record_at-bytes.ensures
    c.step-answer.ensures.0 c.step-answer.ensures.1

pub explained_with-explained-requires : goal.explained_with-explained-requires
explained_with-explained-requires c =
    found_few _ _ _ _ _ _ _ _ c.loop-at.invariant c.loop-at-test.true c.args.given.now.few

pub overflow_add-records : goal.overflow_add-records
overflow_add-records c =
    omega (arith, few _ _ _ _ _ _ _ _ c.loop-at.invariant c.loop-at-test.true c.args.given.now.few)

pub loop-at-smaller : goal.loop-at-smaller
loop-at-smaller c =
    omega (arith, record_length_lem _ _ _ c.loop-at-test.true c.record_at-bytes.ensures)

pub loop-at-preserved : goal.loop-at-preserved
loop-at-preserved c =
    explaining_next _ _ _ _ _ _ _ _ c.loop-at.invariant c.loop-at-test.true c.args.given.now.few _ _ _ c.record_at-bytes.ensures c.step-answer.ensures.0 c.step-answer.ensures.1 _ _
    c.explained_with-explained.ensures c.in_ok-show_record.ensures

pub returns : goal.returns
returns c = explaining_end _ _ _ _ _ _ _ _ c.loop-at.invariant c.loop-at-test.false
