-- The access and the answer; the answer is longer than what does not count behind the access.
use Prim.Native.Nat.{ℕ, ◌≤◌}
use native.Mathlib.Omega.{arith}
use mathlib.Core.List.{List, [], ◌∷◌}
use lib.ListN.{length}
use Rattle.listing.specs.Text.{decimal}
use Rattle.listing.specs.Lines.{spaced, operation_word}
use Rattle.listing.proofs.BufferLaws.{wrote_spare, spare_none, spare_join, spare_as}
use Rattle.listing.proofs.ListingLines.{step_text, access_length, answer_least}
use Rattle.listing.proofs.put_step.Goals as goal

pub put_answer-requires : goal.put_answer-requires
put_answer-requires c =
    let a = c.args in
    omega (arith, access_length a.step a.code a.p a.o)

pub returns : goal.returns
returns c =
    let a = c.args in
    let access = c.put_access-next in
    let x : List ℕ = spaced (decimal a.step ∷ operation_word a.code ∷ decimal a.p ∷ decimal a.o ∷ []) in
    let h : access.result ≤ length access.new.out = omega (arith, access_length a.step a.code a.p a.o) in
    let answer = wrote_spare 0 h c.put_answer.ensures in
    spare_none
    (spare_as
    (step_text a.step a.code a.p a.o a.answer)
    (spare_join {x = x} 0 (omega (arith, answer_least a.answer)) access.ensures answer))
