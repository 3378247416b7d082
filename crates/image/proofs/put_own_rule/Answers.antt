-- The record is good, so its mixtures are there; their words are brought to normal form.
use Rattle.rule_words.proofs.WordLaws.{words_good, normal_out}
use Rattle.image.proofs.RulesByNumber.{own_rule}
use Rattle.image.proofs.RecordsByPlace.{rule_fits}
use Rattle.image.specs.Image.{mixtures_in}
use native.Mathlib.Omega.{arith}
use lib.ListN.{drop, length-take}
use Rattle.image.proofs.put_own_rule.Goals as goal

pub put_span-requires : goal.put_span-requires
put_span-requires c = (
  c.requires.0,
  omega (
    arith,
    rule_fits c.args.rules.records.now c.args.rules.mixtures.now c.args.rules.good c.args.n c.requires.1,
    c.read16-first.ensures.0,
    c.read16-count.ensures.0,
  ),
  omega (
    arith,
    rule_fits c.args.rules.records.now c.args.rules.mixtures.now c.args.rules.good c.args.n c.requires.1,
    c.read16-first.ensures.0,
    c.read16-count.ensures.0,
  ),
)

pub make_normal-requires : goal.make_normal-requires
make_normal-requires c =
    words_good _ _ c.put_span.ensures
    (omega (
      arith,
      length-take c.read16-count.result
          (drop c.read16-first.result (mixtures_in c.args.rules.mixtures.now)),
      rule_fits c.args.rules.records.now c.args.rules.mixtures.now c.args.rules.good c.args.n c.requires.1,
      c.read16-first.ensures.0,
      c.read16-count.ensures.0,
    ))

pub returns : goal.returns
returns c =
    normal_out _ _ _ _ c.make_normal.ensures c.put_span.ensures
    (own_rule c.args.rules.records.now c.args.rules.mixtures.now c.args.n _ _ c.args.rules.good c.requires.1
    c.read16-first.ensures.0
    c.read16-count.ensures.0)
