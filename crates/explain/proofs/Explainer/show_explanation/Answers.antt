-- `explain::Explainer::show_explanation`. What `why` tells is what the text says (`explained`).
use mathlib.Core.Path.{◌≡◌, refl}
use native.Mathlib.Omega.{arith}
use lib.ListN.{length}
use Rattle.files.proofs.CallLaws.{done_as}
use Rattle.explanations.proofs.ExplanationLines.{wrote_front}
use Rattle.explain.specs.Runs.{record_limit}
use Rattle.explain.proofs.WhyAnswers.{links_length, why_first, why_told, why_chain, explained}
use borrow.Author.Rules.{rules}
use Rattle.explain.proofs.Explainer.show_explanation.Goals as goal

pub show_rule-requires : goal.show_rule-requires
show_rule-requires c =
    let sized : (length c.args.self.now.links ≡ links_length) × (length c.args.self.now.steps ≡ record_limit) = (search rules, search rules) in
    omega (arith, why_first _ _ _ _ _ c.requires.0 sized.0 sized.1 refl _ c.why.ensures.1)

pub show_mixtures-requires : goal.show_mixtures-requires
show_mixtures-requires c =
    let sized : (length c.args.self.now.links ≡ links_length) × (length c.args.self.now.steps ≡ record_limit) = (search rules, search rules) in
    (c.requires.0, why_told _ _ _ _ _ c.requires.0 sized.0 sized.1 refl _ c.why.ensures.1 c.args.given.now.bytes c.why.auto.out)

pub returns : goal.returns
returns c =
    let sized : (length c.args.self.now.links ≡ links_length) × (length c.args.self.now.steps ≡ record_limit) = (search rules, search rules) in
    done_as c.show_mixtures.result
    (λ _. explained _ _ _ _ _ _ _ _ _ _ _ (why_told _ _ _ _ _ c.requires.0 sized.0 sized.1 refl _ c.why.ensures.1 c.args.given.now.bytes
    c.why.auto.out)
    (why_chain _ _ _ _ _ c.requires.0 sized.0 sized.1 refl _ c.why.ensures.1 _ c.why.ensures.2) c.requires.1
    (wrote_front c.put_found-end.ensures) c.in_ok-write_front.ensures c.in_ok-show_rule.ensures)
    c.show_mixtures.ensures
