-- The fields are read, and the row is kind, tag and the words of two rules.
use mathlib.Core.Path.{ap, ◌∙◌}
use native.Mathlib.Omega.{arith}
use lib.ListN.{length-set}
use Rattle.session.proofs.WrittenRows.{lent_permit, lent_run, row_mid, row_put, row_long}
use Rattle.session.proofs.RecordRows.{permit_named, run_named, atom_good, container_row}
use Rattle.session.specs.Limits.{nobody}
use Rattle.session.specs.Session.{start_tag}
use Rattle.session.proofs.put_container_row.Goals as goal

-- ---- where the permit rule is put: the start, the numbers before it, and its words

-- ---- the needs

pub start_tag-requires : goal.start_tag-requires
start_tag-requires c =
    rw c.read8-2.ensures.0 (atom_good c.args.r.now c.args.rules.records.now c.args.rules.mixtures.now c.requires.2 c.args.rules.good)

pub slice_bounds-put_rule_at-end : goal.slice_bounds-put_rule_at-end
slice_bounds-put_rule_at-end c = simp length-set (omega arith)

pub put_rule_at-requires : goal.put_rule_at-requires
put_rule_at-requires c = (
  lent_permit c.args.row.now nobody c.read8.result c.start_tag.result c.requires.0,
  rw c.read16.ensures.0 (permit_named c.args.r.now c.args.rules.records.now c.args.rules.mixtures.now c.requires.2 c.args.rules.good),
)

pub slice_bounds-put_rule_at-end-2 : goal.slice_bounds-put_rule_at-end-2
slice_bounds-put_rule_at-end-2 c =
    omega (
      arith,
      row_mid c.args.row.now c.put_rule_at.new.words nobody c.read8.result c.start_tag.result c.requires.0
          ((c.put_rule_at.auto.words ∙ lent_permit c.args.row.now nobody c.read8.result c.start_tag.result c.requires.0)),
    )

pub put_rule_at-requires-2 : goal.put_rule_at-requires-2
put_rule_at-requires-2 c = (
  lent_run c.args.row.now c.put_rule_at.new.words nobody c.read8.result c.start_tag.result c.requires.0
      ((c.put_rule_at.auto.words ∙ lent_permit c.args.row.now nobody c.read8.result c.start_tag.result c.requires.0)),
  rw c.read16-2.ensures.0 (run_named c.args.r.now c.args.rules.records.now c.args.rules.mixtures.now c.requires.2 c.args.rules.good),
)

pub shape_of-row : goal.shape_of-row
shape_of-row c =
    row_long c.args.row.now c.put_rule_at.new.words nobody c.read8.result c.start_tag.result c.requires.0
    ((c.put_rule_at.auto.words ∙ lent_permit c.args.row.now nobody c.read8.result c.start_tag.result c.requires.0)) c.put_rule_at-2.new.words
    (c.put_rule_at-2.auto.words ∙ lent_run c.args.row.now c.put_rule_at.new.words nobody c.read8.result c.start_tag.result c.requires.0
    ((c.put_rule_at.auto.words ∙ lent_permit c.args.row.now nobody c.read8.result c.start_tag.result c.requires.0)))

pub returns : goal.returns
returns c =
    row_put c.args.row.now c.put_rule_at.new.words nobody c.read8.result c.start_tag.result c.requires.0
    ((c.put_rule_at.auto.words ∙ lent_permit c.args.row.now nobody c.read8.result c.start_tag.result c.requires.0)) c.put_rule_at-2.new.words
    ∙ container_row c.args.r.now c.args.rules.records.now c.args.rules.mixtures.now c.requires.2 c.args.rules.good _ _ _ _
    c.read8.ensures.0
    (c.start_tag.ensures ∙ ap start_tag c.read8-2.ensures.0)
    (rw c.read16.ensures.0 at c.put_rule_at.ensures)
    (rw c.read16-2.ensures.0 at c.put_rule_at-2.ensures)
