-- The four fields one behind the other, each over what does not count behind the one before.
use Prim.Native.Nat.{◌+◌, ◌≤◌}
use native.Mathlib.Omega.{arith}
use mathlib.Core.List.{[], ◌∷◌, ◌++◌}
use lib.ListN.{length}
use Rattle.listing.specs.Text.{decimal}
use Rattle.listing.specs.Lines.{space, operation_word}
use Rattle.listing.proofs.BufferLaws.{spare_join, spare_as}
use Rattle.listing.proofs.ListingLines.{access_text, number_length, number_least, operation_length}
use Rattle.listing.proofs.put_access.Goals as goal

pub put_operation-subject-requires : goal.put_operation-subject-requires
put_operation-subject-requires c = omega (arith, number_length c.args.step space)

pub put_container_number-object-requires : goal.put_container_number-object-requires
put_container_number-object-requires c =
    let a = c.args in
    omega (arith, number_length a.step space, operation_length a.code)

pub put_container_number-requires : goal.put_container_number-requires
put_container_number-requires c =
    let a = c.args in
    omega (arith, number_length a.step space, operation_length a.code, number_length a.p space)

pub returns : goal.returns
returns c =
    let a = c.args in
    let step = c.put_step_number-op in
    let operation = c.put_operation-subject in
    let subject = c.put_container_number-object in
    let object = c.put_container_number in
    let p : 4 ≤ length (decimal a.p ++ (space ∷ [])) + 2 = omega (arith, number_least a.p space) in
    let first = spare_join 4 (omega arith) step.ensures operation.ensures in
    let second = spare_join 2 p first subject.ensures in
    spare_as
    (access_text (decimal a.step) (operation_word a.code) (decimal a.p) (decimal a.o))
    (spare_join 2 (omega arith) second object.ensures)
