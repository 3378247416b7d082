use native.Mathlib.Omega.{arith}
use Rattle.fields.proofs.RowWriting.{rows_start, rows_end}
use Rattle.normaliser.specs.Sections.{user_section}
use Rattle.normaliser.proofs.SectionRows.{one_at, user_rows_lem, users_size, user_room, user_next}
use Rattle.normaliser.proofs.Numbering.write_users.Goals as goal

pub loop-i-init : goal.loop-i-init
loop-i-init c =
    rows_start _ _ _ (omega (arith, c.requires.0, users_size c.args.users.now c.args.self.now.classes.now c.args.self.now.ranks.now))

pub number-rule-requires : goal.number-rule-requires
number-rule-requires c =
    rw c.read16.ensures.0 (one_at _ c.args.users.now c.loop-i.i c.loop-i-test.true c.requires.1)

pub put16-at-requires : goal.put16-at-requires
put16-at-requires c =
    user_room c.args.users.now c.args.self.now.classes.now c.args.self.now.ranks.now c.loop-i.invariant c.loop-i-test.true

pub loop-i-preserved : goal.loop-i-preserved
loop-i-preserved c =
    let loop = c.loop-i in
    let taken = c.loop-i-test.true in
    let read16 = c.read16 in
    let number = c.number-rule in
    let told = rw read16.ensures.0 at number.ensures in
    user_next c.args.users.now c.args.self.now.classes.now c.args.self.now.ranks.now loop.invariant taken _ told
    c.put16-at.ensures

pub returns : goal.returns
unfolding user_section
returns c =
    rows_end c.loop-i.invariant (omega (arith, c.loop-i-test.false, user_rows_lem c.args.users.now c.args.self.now.classes.now c.args.self.now.ranks.now))
