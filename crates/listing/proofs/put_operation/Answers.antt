-- The word of the table, written.
use native.Mathlib.Omega.{arith}
use mathlib.Core.Path.{ap}
use mathlib.Core.List.{List, [], ◌∷◌, ◌++◌}
use Prim.Native.Nat.{ℕ}
use Rattle.listing.specs.Lines.{space}
use Rattle.listing.proofs.BufferLaws.{spare_as}
use Rattle.listing.proofs.ListingLines.{operation_bounds}
use Rattle.listing.proofs.put_operation.Goals as goal

pub put_word-requires : goal.put_word-requires
put_word-requires c =
    let b = operation_bounds c.args.code in
    let w = c.operation_word.ensures in
    (omega (arith, b, w.long), omega (arith, b, w.long), omega arith)

pub returns : goal.returns
returns c =
    spare_as
    (ap (λ (x : List ℕ). x ++ (space ∷ [])) c.operation_word.ensures.letters)
    c.put_word.ensures
