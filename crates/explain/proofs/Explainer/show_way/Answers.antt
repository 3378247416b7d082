-- `explain::Explainer::show_way`. The chain is the one that `explain` tells (`way_shown`).
use mathlib.Core.Path.{◌≡◌}
use native.Mathlib.Omega.{arith}
use lib.ListN.{length}
use Rattle.files.specs.Calls.{handed_as}
use Rattle.files.proofs.CallLaws.{done_as}
use Rattle.explanations.proofs.ExplanationLines.{wrote_front}
use Rattle.witness.specs.Found.{file_number}
use Rattle.explain.specs.Runs.{record_limit}
use Rattle.explain.proofs.WhyAnswers.{links_length, given_found, way_first, way_shown}
use borrow.Author.Rules.{rules}
use Rattle.explain.proofs.Explainer.show_way.Goals as goal

pub unwrap-found-requires : goal.unwrap-found-requires
unwrap-found-requires c =
    let g = c.args.given.now in
    let sized : (length c.args.self.now.links ≡ links_length) × (length c.args.self.now.steps ≡ record_limit) = (search rules, search rules) in
    given_found _ _ _ _ _ _ g.accepted g.few sized.0 sized.1 c.requires.0 c.requires.1 _ c.explain-explained.ensures.0

pub hand_line-requires : goal.hand_line-requires
hand_line-requires c =
    let g = c.args.given.now in
    let sized : (length c.args.self.now.links ≡ links_length) × (length c.args.self.now.steps ≡ record_limit) = (search rules, search rules) in
    let told = rw c.unwrap-found.ensures at c.explain-explained.ensures.0 in
    omega (arith, sized.1, way_first _ _ _ _ _ _ g.accepted g.few sized.0 sized.1 c.requires.0 c.requires.1 _ told)

pub returns : goal.returns
returns c =
    let g = c.args.given.now in
    let sized : (length c.args.self.now.links ≡ links_length) × (length c.args.self.now.steps ≡ record_limit) = (search rules, search rules) in
    let told = rw c.unwrap-found.ensures at c.explain-explained.ensures.0 in
    let file : c.unwrap_or-file.result ≡ file_number c.unwrap-found.result.file = search rules in
    done_as c.hand_line.result
    (λ _. handed_as (way_shown _ _ _ _ _ _ g.accepted g.few sized.0 sized.1 c.requires.0 c.requires.1 _ _ _ told
    c.explain-explained.ensures.2 (rw file at (wrote_front c.put_way-end.ensures)))) c.hand_line.ensures
