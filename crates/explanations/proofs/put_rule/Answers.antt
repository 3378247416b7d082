-- `explanations::put_rule`. The word, two numbers and, but for an own rule, two more.
use Prim.Native.Nat.{ℕ, ◌≤◌}
use native.Mathlib.Omega.{arith}
use mathlib.Core.Path.{ap}
use mathlib.Core.List.{[], ◌∷◌}
use lib.ListN.{length}
use Rattle.fields.proofs.WritingLaws.{wrote_join, wrote_as}
use Rattle.listing.specs.Text.{decimal}
use Rattle.listing.specs.Lines.{leading}
use Rattle.explanations.proofs.ExplanationLines.{pair_length, word_length, own_fields, other_fields}
use Rattle.explanations.proofs.put_rule.Goals as goal

pub put_pair-next-requires : goal.put_pair-next-requires
put_pair-next-requires c = let a = c.args in omega (arith, word_length a.origin, c.put_origin-word.ensures.ends)

pub returns-then-origin-eq-OWN_ORIGIN : goal.returns-then-origin-eq-OWN_ORIGIN
returns-then-origin-eq-OWN_ORIGIN c =
    let a = c.args in
    let h : a.at ≤ length a.out.now = omega arith in
    wrote_as (own_fields a.origin a.rule a.owner a.n a.holder c.if-origin-eq-OWN_ORIGIN.true) (wrote_join h c.put_origin-word.ensures c.put_pair-next.ensures)

pub put_pair-requires : goal.put_pair-requires
put_pair-requires c =
    let a = c.args in
    omega (arith, word_length a.origin, pair_length a.rule a.owner, c.put_origin-word.ensures.ends, c.put_pair-next.ensures.ends)

pub returns : goal.returns
returns c =
    let a = c.args in
    let h : a.at ≤ length a.out.now = omega arith in
    wrote_as (other_fields a.origin a.rule a.owner a.n a.holder c.if-origin-eq-OWN_ORIGIN.false)
    (wrote_join h (wrote_join h c.put_origin-word.ensures c.put_pair-next.ensures)
    (wrote_as (ap (λ (n : ℕ). leading (decimal n ∷ decimal a.holder ∷ [])) c.more.ensures) c.put_pair.ensures))
