-- Conditions 4 to 6, each tested once those before it have passed.
use Prim.Native.Nat.{ℕ, ◌/◌}
use native.Mathlib.Omega.{arith}
use mathlib.Core.Path.{sym, ap₂, ◌∙◌}
use mathlib.Core.List.{List}
use lib.ListN.{length}
use Rattle.lists.specs.Lists.{every}
use Rattle.lists.proofs.Bools.{passes_test, fails_test}
use Rattle.lists.proofs.Conditions.{passed, failed, none_left}
use Rattle.image.specs.Limits.{rule_size}
use Rattle.image.specs.Image.{users_in, rule_records_good, rules_good, containers_good, users_good, image_conditions}
use Rattle.image.specs.Policy.{named}
use Rattle.image.proofs.AcceptedImage.{part_ends}
use Rattle.image.proofs.check_records.Goals as goal

-- ---- what each test tells

-- ---- the needs

pub section-rules-requires : goal.section-rules-requires
section-rules-requires c = ((c.requires.0, (omega arith), part_ends c.args.image.now c.requires.1 2 (omega arith)))

pub section-mixtures-requires : goal.section-mixtures-requires
section-mixtures-requires c = ((c.requires.0, (omega arith), part_ends c.args.image.now c.requires.1 3 (omega arith)))

pub section-users-requires : goal.section-users-requires
section-users-requires c = ((c.requires.0, (omega arith), part_ends c.args.image.now c.requires.1 1 (omega arith)))

pub returns-then-not-rules_good : goal.returns-then-not-rules_good
unfolding image_conditions rule_records_good rules_good
returns-then-not-rules_good c = sym (failed _ _ (fails_test ((rw (c.section-rules.ensures, c.section-mixtures.ensures, c.section-users.ensures) at c.rules_good.ensures)) c.if-not-rules_good.true-raw))

pub section-requires : goal.section-requires
section-requires c = ((c.requires.0, (omega arith), part_ends c.args.image.now c.requires.1 0 (omega arith)))

pub returns-then-not-containers_good : goal.returns-then-not-containers_good
unfolding image_conditions containers_good rule_records_good rules_good
returns-then-not-containers_good c =
    sym (passed _ _ (passes_test ((rw (c.section-rules.ensures, c.section-mixtures.ensures, c.section-users.ensures) at c.rules_good.ensures)) c.if-not-rules_good.false-raw)
    ∙ failed _ _ (fails_test ((
    rw (c.section.ensures, c.section-rules.ensures) at c.containers_good.ensures)) c.if-not-containers_good.true-raw))

pub returns-then-not-users_good : goal.returns-then-not-users_good
unfolding image_conditions containers_good rule_records_good rules_good users_good
returns-then-not-users_good c =
    sym
    (passed _ _ (passes_test ((rw (c.section-rules.ensures, c.section-mixtures.ensures, c.section-users.ensures) at c.rules_good.ensures)) c.if-not-rules_good.false-raw)
    ∙ passed _ _ (passes_test ((
    rw (c.section.ensures, c.section-rules.ensures) at c.containers_good.ensures)) c.if-not-containers_good.false-raw)
    ∙ failed _ _ (fails_test ((
    c.users_good.ensures
    ∙ ap₂ (λ (x y : List ℕ). every (named (length x / rule_size)) (users_in y)) c.section-rules.ensures c.section-users.ensures)) c.if-not-users_good.true-raw))

pub returns : goal.returns
unfolding image_conditions containers_good rule_records_good rules_good users_good
returns c =
    sym
    (passed _ _ (passes_test ((rw (c.section-rules.ensures, c.section-mixtures.ensures, c.section-users.ensures) at c.rules_good.ensures)) c.if-not-rules_good.false-raw)
    ∙ passed _ _ (passes_test ((
    rw (c.section.ensures, c.section-rules.ensures) at c.containers_good.ensures)) c.if-not-containers_good.false-raw)
    ∙ passed _ _ (passes_test ((
    c.users_good.ensures
    ∙ ap₂ (λ (x y : List ℕ). every (named (length x / rule_size)) (users_in y)) c.section-rules.ensures c.section-users.ensures)) c.if-not-users_good.false-raw)
    ∙ none_left)
