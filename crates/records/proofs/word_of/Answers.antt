-- `records::word_of`. Eight bytes are those of the number that they spell.
use Rattle.records.proofs.TestLaws.{word_bytes}
use native.Mathlib.Omega.{arith}
use Rattle.records.proofs.word_of.Goals as goal

pub returns : goal.returns
returns c = word_bytes c.args.bytes.now (λ k. omega (arith, c.shared_slice_known-1.given k)) c.requires _ c.read64.ensures
