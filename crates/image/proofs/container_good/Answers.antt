-- The fields are read, and the tests, one after the other, are those of `container_good`.
use Rattle.lists.proofs.Bools.{passes_test, fails_test}
use Rattle.image.specs.Policy.{container_good}
use Rattle.image.specs.Image.{container_in}
use borrow.Author.Tests.{eq-eqb, ne_eqb}
use mathlib.Core.Path.{sym, ◌∙◌}
use Rattle.image.proofs.container_good.Goals as goal

pub returns-then-not-is_atom : goal.returns-then-not-is_atom
unfolding container_good container_in
returns-then-not-is_atom c =
    simp (
      ← c.read8-kind.ensures.0,
      ← c.read8-atom.ensures.0,
      ← c.read16-permit.ensures.0,
      ← c.read16-run.ensures.0,
      sym c.is_file.ensures ∙ c.if-is_file.true,
      fails_test c.is_atom.ensures c.if-not-is_atom.true-raw,
    )

pub returns-then-not-is_named : goal.returns-then-not-is_named
unfolding container_good container_in
returns-then-not-is_named c =
    simp (
      ← c.read8-kind.ensures.0,
      ← c.read8-atom.ensures.0,
      ← c.read16-permit.ensures.0,
      ← c.read16-run.ensures.0,
      sym c.is_file.ensures ∙ c.if-is_file.true,
      passes_test c.is_atom.ensures c.if-not-is_atom.false-raw,
      fails_test c.is_named.ensures c.if-not-is_named.true-raw,
    )

pub returns-then-is_file : goal.returns-then-is_file
unfolding container_good container_in
returns-then-is_file c =
    simp (
      ← c.read8-kind.ensures.0,
      ← c.read8-atom.ensures.0,
      ← c.read16-permit.ensures.0,
      ← c.read16-run.ensures.0,
      sym c.is_file.ensures ∙ c.if-is_file.true,
      passes_test c.is_atom.ensures c.if-not-is_atom.false-raw,
      passes_test c.is_named.ensures c.if-not-is_named.false-raw,
    )
    c.is_named-then-is_file.ensures

pub returns-then-not-is_volatile_or_process : goal.returns-then-not-is_volatile_or_process
unfolding container_good container_in
returns-then-not-is_volatile_or_process c =
    simp (
      ← c.read8-kind.ensures.0,
      ← c.read8-atom.ensures.0,
      ← c.read16-permit.ensures.0,
      ← c.read16-run.ensures.0,
      sym c.is_file.ensures ∙ c.if-is_file.false,
      fails_test c.is_volatile_or_process.ensures c.if-not-is_volatile_or_process.true-raw,
    )

pub returns-then-atom-ne-NO_ATOM : goal.returns-then-atom-ne-NO_ATOM
unfolding container_good container_in
returns-then-atom-ne-NO_ATOM c =
    simp (
      ← c.read8-kind.ensures.0,
      ← c.read8-atom.ensures.0,
      ← c.read16-permit.ensures.0,
      ← c.read16-run.ensures.0,
      sym c.is_file.ensures ∙ c.if-is_file.false,
      passes_test c.is_volatile_or_process.ensures c.if-not-is_volatile_or_process.false-raw,
      ne_eqb _ _ c.if-atom-ne-NO_ATOM.true,
    )

pub returns-then-permit-ne-UNRESTRICTED_NUMBER : goal.returns-then-permit-ne-UNRESTRICTED_NUMBER
unfolding container_good container_in
returns-then-permit-ne-UNRESTRICTED_NUMBER c =
    simp (
      ← c.read8-kind.ensures.0,
      ← c.read8-atom.ensures.0,
      ← c.read16-permit.ensures.0,
      ← c.read16-run.ensures.0,
      sym c.is_file.ensures ∙ c.if-is_file.false,
      passes_test c.is_volatile_or_process.ensures c.if-not-is_volatile_or_process.false-raw,
      eq-eqb _ _ c.if-atom-ne-NO_ATOM.false,
      ne_eqb _ _ c.if-permit-ne-UNRESTRICTED_NUMBER.true,
    )

pub returns : goal.returns
unfolding container_good container_in
returns c =
    simp (
      ← c.read8-kind.ensures.0,
      ← c.read8-atom.ensures.0,
      ← c.read16-permit.ensures.0,
      ← c.read16-run.ensures.0,
      sym c.is_file.ensures ∙ c.if-is_file.false,
      passes_test c.is_volatile_or_process.ensures c.if-not-is_volatile_or_process.false-raw,
      eq-eqb _ _ c.if-atom-ne-NO_ATOM.false,
      eq-eqb _ _ c.if-permit-ne-UNRESTRICTED_NUMBER.false,
    )
