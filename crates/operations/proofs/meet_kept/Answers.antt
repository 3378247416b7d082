-- `operations::meet_kept`. Place by place where that is the meet. A rule that refines the other is their meet; else the meet is formed.
use Prim.Native.Nat.{ℕ}
use mathlib.Core.Path.{sym, ap₂, ◌∙◌}
use mathlib.Core.List.{List}
use Rattle.rules.specs.Rules.{meet, refines}
use Rattle.rules.specs.Answers.{bounded_if_fits}
use native.Mathlib.Omega.{arith}
use Rattle.rules.proofs.PlacewiseLaws.{placewise_length}
use Rattle.rule_words.proofs.KeptWords.{kept_short, kept_normal}
use Rattle.operations.specs.EarlyTests.{meets_placewise}
use Rattle.operations.proofs.RowSteps.{made_short, kept_readable, meet_first, meet_second, equally_many, placewise_meet}
use Rattle.operations.proofs.meet_kept.Goals as goal

pub rule_of-r-requires : goal.rule_of-r-requires
rule_of-r-requires c = kept_readable c.args.a.now c.requires.0

pub rule_of-v-requires : goal.rule_of-v-requires
rule_of-v-requires c = kept_readable c.args.b.now c.requires.1

pub placewise_words-requires : goal.placewise_words-requires
placewise_words-requires c =
    let told = sym (c.meets_placewise.ensures ∙ ap₂ meets_placewise c.rule_of-r.ensures c.rule_of-v.ensures) ∙ c.if-meets_placewise.true in
    (c.requires.0, c.requires.1, equally_many _ _ told)

pub returns-then-meets_placewise : goal.returns-then-meets_placewise
returns-then-meets_placewise c =
    let told = sym (c.meets_placewise.ensures ∙ ap₂ meets_placewise c.rule_of-r.ensures c.rule_of-v.ensures)
    ∙ c.if-meets_placewise.true in
    made_short _ _ c.placewise_words.ensures (placewise_meet _ _ told (kept_normal c.args.a.now c.requires.0.well))
    (omega (arith, placewise_length _ _ (equally_many _ _ told), kept_short c.args.a.now c.requires.0.well))

pub refines-requires : goal.refines-requires
refines-requires c =
    rw c.rule_of-v.ensures (kept_short c.args.b.now c.requires.1.well)

pub returns-then-refines : goal.returns-then-refines
returns-then-refines c =
    made_short _ _ c.rule_copy.ensures (meet_first c.args.a.now c.args.b.now c.requires.0 (sym
    (c.refines.ensures ∙ ap₂ refines c.rule_of-r.ensures
    c.rule_of-v.ensures) ∙ c.if-refines.true)) (kept_short c.args.a.now c.requires.0.well)

pub refines-requires-2 : goal.refines-requires-2
refines-requires-2 c =
    rw c.rule_of-r.ensures (kept_short c.args.a.now c.requires.0.well)

pub returns-then-refines-2 : goal.returns-then-refines-2
returns-then-refines-2 c =
    made_short _ _ c.rule_copy-then-refines-2.ensures (meet_second c.args.b.now c.args.a.now c.requires.1 (sym
    (c.refines-2.ensures ∙ ap₂ refines c.rule_of-v.ensures
    c.rule_of-r.ensures) ∙ c.if-refines-2.true)) (kept_short c.args.b.now c.requires.1.well)

pub meet-requires : goal.meet-requires
meet-requires c = (
  rw c.rule_of-r.ensures (kept_short c.args.a.now c.requires.0.well),
  rw c.rule_of-v.ensures (kept_short c.args.b.now c.requires.1.well),
)

pub returns : goal.returns
returns c =
    let rule_of = c.rule_of-r in
    let rule_of2 = c.rule_of-v in
    c.meet.ensures ∙ ap₂ (λ (x y : List ℕ). bounded_if_fits (meet x y)) rule_of.ensures rule_of2.ensures
