-- The mixtures before place j are read.
use lib.ListN.{take, drop}
use Rattle.lists.proofs.Copying.{Copied}
use Rattle.image.specs.Image.{mixtures_in}
use Rattle.certificate.proofs.span_rule.Given as goal

abbrev pub invariant-loop-j : goal.invariant-loop-j
invariant-loop-j l = Copied (take l.count (drop l.first (mixtures_in l.m))) l.initial.mixtures l.mixtures 0 l.j
