-- Each answer by the tests before it.
use Rattle.game.proofs.OutcomeLaws.{many_subjects, many_objects, no_source, no_target, same_object, few_rounds, many_rounds, withdrawals_left}
use Rattle.game.proofs.game_good.Goals as goal

pub returns-then-subjects-gt-SUBJECT_LIMIT : goal.returns-then-subjects-gt-SUBJECT_LIMIT
returns-then-subjects-gt-SUBJECT_LIMIT c = many_subjects _ _ _ _ _ _ c.if-subjects-gt-SUBJECT_LIMIT.true

pub returns-then-objects-gt-OBJECT_LIMIT : goal.returns-then-objects-gt-OBJECT_LIMIT
returns-then-objects-gt-OBJECT_LIMIT c = many_objects _ _ _ _ _ _ c.if-subjects-gt-SUBJECT_LIMIT.false c.if-objects-gt-OBJECT_LIMIT.true

pub returns-then-objects-a : goal.returns-then-objects-a
returns-then-objects-a c = no_source _ _ _ _ _ _ c.if-subjects-gt-SUBJECT_LIMIT.false c.if-objects-gt-OBJECT_LIMIT.false c.if-objects-a.true

pub returns-then-objects-b : goal.returns-then-objects-b
returns-then-objects-b c = no_target _ _ _ _ _ _ c.if-subjects-gt-SUBJECT_LIMIT.false c.if-objects-gt-OBJECT_LIMIT.false c.if-objects-a.false c.if-objects-b.true

pub returns-then-a-b : goal.returns-then-a-b
returns-then-a-b c =
    same_object _ _ _ _ _ _ c.if-subjects-gt-SUBJECT_LIMIT.false c.if-objects-gt-OBJECT_LIMIT.false c.if-objects-a.false c.if-objects-b.false c.if-a-b.true

pub returns-then-rounds-lt1 : goal.returns-then-rounds-lt1
returns-then-rounds-lt1 c =
    few_rounds _ _ _ _ _ _ c.if-subjects-gt-SUBJECT_LIMIT.false c.if-objects-gt-OBJECT_LIMIT.false c.if-objects-a.false c.if-objects-b.false c.if-a-b.false c.if-rounds-lt1.true

pub returns-then-rounds-gt-ROUND_LIMIT : goal.returns-then-rounds-gt-ROUND_LIMIT
returns-then-rounds-gt-ROUND_LIMIT c =
    many_rounds _ _ _ _ _ _ c.if-subjects-gt-SUBJECT_LIMIT.false c.if-objects-gt-OBJECT_LIMIT.false c.if-objects-a.false
    c.if-objects-b.false c.if-a-b.false c.if-rounds-lt1.false c.if-rounds-gt-ROUND_LIMIT.true

pub returns : goal.returns
returns c =
    withdrawals_left _ _ _ _ _ _ c.if-subjects-gt-SUBJECT_LIMIT.false c.if-objects-gt-OBJECT_LIMIT.false c.if-objects-a.false
    c.if-objects-b.false c.if-a-b.false c.if-rounds-lt1.false c.if-rounds-gt-ROUND_LIMIT.false
