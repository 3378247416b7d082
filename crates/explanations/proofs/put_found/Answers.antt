-- `explanations::put_found`. A named number and a number, one behind the other.
use Prim.Native.Nat.{ℕ, ◌≤◌}
use native.Mathlib.Omega.{arith}
use mathlib.Core.Path.{ap}
use mathlib.Core.List.{[], ◌∷◌, ◌++◌}
use lib.ListN.{length}
use Rattle.fields.specs.Ascii.{ascii}
use Rattle.fields.proofs.WritingLaws.{wrote_join, wrote_as}
use Rattle.listing.specs.Text.{decimal}
use Rattle.listing.specs.Lines.{space}
use Rattle.listing.proofs.ListingLines.{number_length}
use Rattle.explanations.proofs.ExplanationLines.{blocked_text, alert_text}
use Rattle.explanations.proofs.put_found.Goals as goal

pub put_number-requires : goal.put_number-requires
put_number-requires c = omega (arith, number_length c.more-step.result space)

pub returns-then-blocked : goal.returns-then-blocked
unfolding ascii
returns-then-blocked c =
    let a = c.args in
    let h : a.at ≤ length a.out.now = omega arith in
    let t = c.if-blocked.true in
    rw t
    (wrote_as (blocked_text a.n a.c)
    (wrote_join h (wrote_as (ap (λ (n : ℕ). ascii "blocked " ++ (decimal n ++ (space ∷ []))) c.more-step.ensures) c.put_named-next.ensures) c.put_number.ensures))

pub put_number-requires-2 : goal.put_number-requires-2
put_number-requires-2 c = omega (arith, number_length c.more-step.result space)

pub returns : goal.returns
unfolding ascii
returns c =
    let a = c.args in
    let h : a.at ≤ length a.out.now = omega arith in
    let t = c.if-blocked.false in
    rw t
    (wrote_as (alert_text a.n a.c)
    (wrote_join h (wrote_as (ap (λ (n : ℕ). ascii "alert " ++ (decimal n ++ (space ∷ []))) c.more-step.ensures) c.put_named-next-2.ensures) c.put_number-2.ensures))
