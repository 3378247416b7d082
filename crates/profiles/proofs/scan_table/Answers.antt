-- What is judged, with zeros behind the numbers, or zeros alone.
use borrow.Author.Rules.{rules}
use native.Mathlib.Omega.{arith}
use Rattle.profiles.proofs.NumberTable.{refused_table, good_table, good_room}
use Rattle.profiles.proofs.scan_table.Goals as goal

pub returns-in_default : goal.returns-in_default
returns-in_default c = refused_table _ _ (search rules) (rw c.in_default.is at c.judge_text.ensures) _ (c.fill.ensures.after (λ y e. e))

pub offset_bounds-words-count : goal.offset_bounds-words-count
offset_bounds-words-count c = omega (arith, good_room _ _ (search rules) _ (rw c.in-Some.is at c.judge_text.ensures))

pub slice_bounds-fill-start : goal.slice_bounds-fill-start
slice_bounds-fill-start c = omega (arith, good_room _ _ (search rules) _ (rw c.in-Some.is at c.judge_text.ensures))

pub returns : goal.returns
returns c = good_table _ _ (search rules) _ (rw c.in-Some.is at c.judge_text.ensures) _ (c.fill-2.ensures.after (λ y e. e))
