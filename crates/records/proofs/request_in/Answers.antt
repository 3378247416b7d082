-- `records::request_in`. Field by field, as quotients and remainders of the number.
use Prim.Native.Nat.{◌^◌, ◌<◌}
use native.Mathlib.Omega.{arith}
use Rattle.records.proofs.TestLaws.{request_is}
use Rattle.records.proofs.request_in.Goals as goal

pub returns : goal.returns
returns c = let l : c.args.w < 2 ^ 64 = omega (arith, c.ranges.w) in request_is c.args.w l
