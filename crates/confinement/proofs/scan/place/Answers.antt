-- A path that is found has its number; another takes the next one.
use mathlib.Core.Path.{◌∙◌}
use lib.ListN.{length-set}
use Rattle.confinement.proofs.FilledTables.{place_old, place_full, place_new}
use Rattle.confinement.proofs.scan.place.Goals as goal

pub returns-then-number-n : goal.returns-then-number-n
returns-then-number-n c =
    place_old _ _ _ _ c.args.start c.args.size c.requires.0 c.requires.1 _ c.number_of-number.ensures
    _ (length-set c.args.hints.now _ _ ∙ c.requires.2) c.if-number-n.true

pub returns-then-n-eq-PATHS : goal.returns-then-n-eq-PATHS
returns-then-n-eq-PATHS c =
    place_full _ _ _ _ c.args.start c.args.size c.requires.0 c.requires.1 _ c.number_of-number.ensures
    _ (length-set c.args.hints.now _ _ ∙ c.requires.2) c.if-number-n.false c.if-n-eq-PATHS.true

pub returns : goal.returns
returns c =
    place_new _ _ _ _ c.args.start c.args.size c.requires.0 c.requires.1 _ c.number_of-number.ensures
    _ (length-set c.args.hints.now _ _ ∙ c.requires.2) c.if-number-n.false c.if-n-eq-PATHS.false
