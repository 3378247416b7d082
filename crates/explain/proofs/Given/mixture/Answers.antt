-- `explain::Given::mixture`. The rule as it stands in the image (`mixture_is`).
use native.Mathlib.Omega.{arith}
use Rattle.certificate.proofs.ImageRules.{rule_short}
use Rattle.explain.proofs.LackedMixtures.{mixture_is}
use Rattle.explain.proofs.Given.mixture.Goals as goal

pub offset_bounds-mixtures-j : goal.offset_bounds-mixtures-j
offset_bounds-mixtures-j c = let short = rule_short _ c.args.rule c.args.self.now.accepted in omega (arith, short, c.requires)

pub bounds-mixtures-j : goal.bounds-mixtures-j
bounds-mixtures-j c = let short = rule_short _ c.args.rule c.args.self.now.accepted in omega (arith, short, c.requires)

pub returns : goal.returns
returns c = let short = rule_short _ c.args.rule c.args.self.now.accepted in mixture_is _ _ _ short
    c.rule_at-bounded.ensures c.requires
