-- The tests of the definition in its order.
use mathlib.Core.Path.{sym, ◌∙◌}
use borrow.Author.Tests.{eq-eqb, ne_eqb}
use Rattle.profiles.specs.Profiles.{is_digit, is_letter, is_path_byte}
use Rattle.profiles.proofs.scanning.is_path_byte.Goals as goal

pub returns-then-is_between : goal.returns-then-is_between
unfolding is_path_byte is_letter
returns-then-is_between c = simp (sym c.is_between.ensures ∙ c.if-is_between.true)

pub returns-then-is_between-2 : goal.returns-then-is_between-2
unfolding is_path_byte is_letter
returns-then-is_between-2 c = simp (sym c.is_between.ensures ∙ c.if-is_between.false, sym c.is_between-2.ensures ∙ c.if-is_between-2.true)

pub returns-then-is_between-3 : goal.returns-then-is_between-3
unfolding is_path_byte is_letter is_digit
returns-then-is_between-3 c =
    simp (
      sym c.is_between.ensures ∙ c.if-is_between.false,
      sym c.is_between-2.ensures ∙ c.if-is_between-2.false,
      sym c.is_between-3.ensures ∙ c.if-is_between-3.true,
    )

pub returns-then-b-eq-DOT : goal.returns-then-b-eq-DOT
unfolding is_path_byte is_letter is_digit
returns-then-b-eq-DOT c =
    simp (
      sym c.is_between.ensures ∙ c.if-is_between.false,
      sym c.is_between-2.ensures ∙ c.if-is_between-2.false,
      sym c.is_between-3.ensures ∙ c.if-is_between-3.false,
      eq-eqb _ _ c.if-b-eq-DOT.true,
    )

pub returns : goal.returns
unfolding is_path_byte is_letter is_digit
returns c =
    simp (
      sym c.is_between.ensures ∙ c.if-is_between.false,
      sym c.is_between-2.ensures ∙ c.if-is_between-2.false,
      sym c.is_between-3.ensures ∙ c.if-is_between-3.false,
      ne_eqb _ _ c.if-b-eq-DOT.false,
    )
