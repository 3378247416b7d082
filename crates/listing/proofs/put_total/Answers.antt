-- Three named numbers, one behind the other.
use Prim.Native.Nat.{◌≤◌}
use native.Mathlib.Omega.{arith}
use lib.ListN.{length}
use Rattle.fields.specs.Ascii.{ascii}
use Rattle.listing.specs.Lines.{space}
use Rattle.fields.proofs.WritingLaws.{wrote_join, wrote_as}
use Rattle.listing.proofs.ListingLines.{total_text, number_length}
use Rattle.listing.proofs.put_total.Goals as goal

pub put_named-third-requires : goal.put_named-third-requires
put_named-third-requires c = omega (arith, number_length c.args.records space)

pub put_named-requires : goal.put_named-requires
put_named-requires c =
    let a = c.args in
    omega (arith, number_length a.records space, number_length a.alerts space)

pub returns : goal.returns
unfolding ascii
returns c =
    let a = c.args in
    let h : a.at ≤ length a.out.now = omega arith in
    let records = c.put_named-second in
    let alerts = c.put_named-third in
    wrote_as
    (total_text a.records a.alerts a.refused)
    (wrote_join h (wrote_join h records.ensures alerts.ensures) c.put_named.ensures)
