-- `explanations::put_origin`. The texts, computed.
use mathlib.Core.Path.{sym}
use Rattle.fields.specs.Ascii.{ascii}
use Rattle.fields.proofs.WritingLaws.{wrote_as}
use Rattle.explanations.proofs.ExplanationLines.{own_word, made_word, user_word, run_word}
use Rattle.explanations.proofs.put_origin.Goals as goal

pub returns-then-origin-eq-OWN_ORIGIN : goal.returns-then-origin-eq-OWN_ORIGIN
unfolding ascii
returns-then-origin-eq-OWN_ORIGIN c = wrote_as (sym (own_word _ c.if-origin-eq-OWN_ORIGIN.true)) c.put_text.ensures

pub returns-then-origin-eq-MADE_ORIGIN : goal.returns-then-origin-eq-MADE_ORIGIN
unfolding ascii
returns-then-origin-eq-MADE_ORIGIN c =
    wrote_as (sym (made_word _ c.if-origin-eq-OWN_ORIGIN.false c.if-origin-eq-MADE_ORIGIN.true)) c.put_text-then-origin-eq-MADE_ORIGIN.ensures

pub returns-then-origin-eq-USER_ORIGIN : goal.returns-then-origin-eq-USER_ORIGIN
unfolding ascii
returns-then-origin-eq-USER_ORIGIN c =
    wrote_as (sym (user_word _ c.if-origin-eq-OWN_ORIGIN.false c.if-origin-eq-MADE_ORIGIN.false c.if-origin-eq-USER_ORIGIN.true)) c.put_text-then-origin-eq-USER_ORIGIN.ensures

pub returns : goal.returns
unfolding ascii
returns c =
    wrote_as (sym (run_word _ c.if-origin-eq-OWN_ORIGIN.false c.if-origin-eq-MADE_ORIGIN.false c.if-origin-eq-USER_ORIGIN.false)) c.put_text-2.ensures
