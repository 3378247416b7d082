use mathlib.Core.Path.{sym, ◌∙◌}
use lib.ListN.{take, drop}
use native.Mathlib.Omega.{arith}
use borrow.Author.Tests.{not-true}
use Rattle.lists.proofs.Every.{every_get_d}
use Rattle.profiles.specs.Notes.{note_good}
use Rattle.profiles.proofs.NoteLaws.{notes_start, notes_found, notes_next, notes_end}
use Rattle.profiles.proofs.notes.find_path.Goals as goal

pub loop-j-init : goal.loop-j-init
loop-j-init c =
    notes_start c.args.text.now c.args.notes.now (take c.args.length (drop c.args.at c.args.text.now))

pub is_noted-requires : goal.is_noted-requires
is_noted-requires c =
    (c.requires.0, every_get_d (note_good c.args.text.now) c.args.notes.now c.loop-j.j 0 c.loop-j-test.true c.requires.1)

pub returns-then-not-possible : goal.returns-then-not-possible
returns-then-not-possible c = c.requires.2 (not-true _ c.if-not-possible.true-raw)

pub returns-then-is_noted : goal.returns-then-is_noted
returns-then-is_noted c = notes_found _ _ _ _ c.loop-j.invariant c.loop-j-test.true (sym c.is_noted.ensures ∙ c.if-is_noted.true)

pub loop-j-preserved : goal.loop-j-preserved
loop-j-preserved c = notes_next _ _ _ _ c.loop-j.invariant c.loop-j-test.true (sym c.is_noted.ensures ∙ c.if-is_noted.false)

pub returns : goal.returns
returns c = omega (arith, notes_end _ _ _ _ c.loop-j.invariant c.loop-j-test.false)
