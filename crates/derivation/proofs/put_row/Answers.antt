-- The words of the rule, then nobody.
use native.Mathlib.Omega.{arith}
use mathlib.Core.Path.{ap, ◌∙◌}
use lib.ListN.{length, length-replicate}
use Prim.Native.Nat.{ℕ}
use Rattle.normaliser.specs.Writer.{form_width}
use Rattle.derivation.proofs.PermitWords.{row_done}
use Rattle.derivation.proofs.put_row.Goals as goal

pub slice_bounds-put_permit-end : goal.slice_bounds-put_permit-end
slice_bounds-put_permit-end c =
    omega (arith, ap length c.requires.1 ∙ length-replicate {A = ℕ} form_width 0)

pub bounds-row-9 : goal.bounds-row-9
bounds-row-9 c =
    omega (arith, c.put_permit.auto.words, ap length c.requires.1 ∙ length-replicate {A = ℕ} form_width 0)

pub returns : goal.returns
returns c =
    row_done c.args.rights.reads.now c.args.rights.writes.now 0 c.args.rights.few c.args.b c.args.row.now
    (ap length c.requires.1 ∙ length-replicate {A = ℕ} form_width 0) c.put_permit.ensures
