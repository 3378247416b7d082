-- `records::user_good`. Codes 4 and 6 name a user; of the others, an end is asked for its object.
use native.Mathlib.Omega.{arith}
use mathlib.Core.Path.{sym, ◌∙◌}
use borrow.Author.Tests.{eq-eqb, ne_eqb}
use Rattle.records.proofs.CodeLaws.{names_exec, names_other}
use Rattle.records.proofs.TestLaws.{user_named, user_set, by_own, own_end, own_other}
use Rattle.records.proofs.user_good.Goals as goal

pub returns-then-q-eq-EXEC_CODE : goal.returns-then-q-eq-EXEC_CODE
returns-then-q-eq-EXEC_CODE c = user_named _ (sym (names_exec _ c.if-q-eq-EXEC_CODE.true)) (λ e. omega (arith, e, c.if-q-eq-EXEC_CODE.true))

pub returns-then-q-eq-NEW_FILE_CODE : goal.returns-then-q-eq-NEW_FILE_CODE
returns-then-q-eq-NEW_FILE_CODE c =
    user_named _ (sym (names_other _ c.requires.0 c.requires.1 c.if-q-eq-EXEC_CODE.false) ∙ eq-eqb _ _ c.if-q-eq-NEW_FILE_CODE.true) (λ e. omega (arith, e, c.if-q-eq-NEW_FILE_CODE.true))

pub returns-then-q-ne-NO_USER : goal.returns-then-q-ne-NO_USER
returns-then-q-ne-NO_USER c =
    user_set _ (sym (names_other _ c.requires.0 c.requires.1 c.if-q-eq-EXEC_CODE.false) ∙ ne_eqb _ _ c.if-q-eq-NEW_FILE_CODE.false) c.if-q-ne-NO_USER.true

pub returns-then-q-eq-END_CODE : goal.returns-then-q-eq-END_CODE
returns-then-q-eq-END_CODE c =
    own_end _ c.if-q-eq-END_CODE.true
    ∙ by_own _ (sym (names_other _ c.requires.0 c.requires.1 c.if-q-eq-EXEC_CODE.false) ∙ ne_eqb _ _ c.if-q-eq-NEW_FILE_CODE.false) c.if-q-ne-NO_USER.false

pub returns : goal.returns
returns c =
    own_other _ c.if-q-eq-END_CODE.false
    ∙ by_own _ (sym (names_other _ c.requires.0 c.requires.1 c.if-q-eq-EXEC_CODE.false) ∙ ne_eqb _ _ c.if-q-eq-NEW_FILE_CODE.false) c.if-q-ne-NO_USER.false
