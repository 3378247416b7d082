use native.Mathlib.Omega.{arith}
use lib.ListN.{length-map}
use Rattle.fields.specs.Bytes.{bytes_of}
use Rattle.fields.proofs.RowWriting.{rows_start, rows_next, rows_end}
use Rattle.image.specs.Limits.{mixture_size}
use Rattle.normaliser.specs.Sections.{mixture_bytes}
use Rattle.normaliser.proofs.RuleRows.{mixture_rows_fit, mixture_room, mixture_at}
use Rattle.normaliser.proofs.write_rule.Goals as goal

pub loop-mixture-init : goal.loop-mixture-init
loop-mixture-init c = rows_start _ _ _ (mixture_rows_fit c.args.rule.now _ _ c.requires)

pub put64-at-requires : goal.put64-at-requires
put64-at-requires c = mixture_room c.args.rule.now c.loop-mixture.invariant c.loop-mixture-test.true

pub loop-mixture-preserved : goal.loop-mixture-preserved
loop-mixture-preserved c =
    let loop = c.loop-mixture in
    let taken = c.loop-mixture-test.true in
    rows_next loop.invariant (omega (arith, length-map c.args.rule.now (bytes_of mixture_size))) (mixture_at c.args.rule.now _ taken)
    c.put64-at.ensures

pub returns : goal.returns
unfolding mixture_bytes
returns c =
    rows_end c.loop-mixture.invariant (omega (arith, length-map c.args.rule.now (bytes_of mixture_size), c.loop-mixture-test.false))
