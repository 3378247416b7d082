use native.Mathlib.Omega.{arith}
use Rattle.lists.proofs.Bools.{passes_test, fails_test}
use Rattle.profiles.proofs.WordScans.{path_start, path_next, path_stop, path_end_lem}
use Rattle.profiles.proofs.scanning.path_end.Goals as goal

pub loop-i-init : goal.loop-i-init
loop-i-init c = path_start c.args.text.now c.args.at c.requires

pub returns-then-not-is_path_byte : goal.returns-then-not-is_path_byte
returns-then-not-is_path_byte c = path_stop _ _ _ c.loop-i.invariant c.loop-i-test.true (fails_test c.is_path_byte.ensures c.if-not-is_path_byte.true-raw)

pub loop-i-preserved : goal.loop-i-preserved
loop-i-preserved c = path_next _ _ _ c.loop-i.invariant c.loop-i-test.true (passes_test c.is_path_byte.ensures c.if-not-is_path_byte.false-raw)

pub returns : goal.returns
returns c = omega (arith, path_end_lem _ _ _ c.loop-i.invariant c.loop-i-test.false, c.requires)
