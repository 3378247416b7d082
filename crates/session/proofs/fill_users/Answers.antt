use Prim.Native.Nat.{ℕ, ◌*◌}
use mathlib.Core.Path.{ap, ◌∙◌}
use native.Mathlib.Omega.{arith}
use native.Mathlib.Nat.{add-sub_cancel_left}
use lib.ListN.{length, length-replicate, length-take, length-drop}
use Rattle.session.proofs.RowsOfOneWidth.{rowed_start}
use Rattle.image.specs.Limits.{user_limit}
use Rattle.session.specs.Limits.{user_width}
use Rattle.session.proofs.RecordRows.{user_rows, user_named, users_next, users_end}
use Rattle.session.specs.Rows.{user_words}
use Rattle.image.specs.Image.{rules_in}
use Rattle.image.specs.Normal.{normal_at}
use Rattle.session.proofs.fill_users.Goals as goal

pub loop-i-init : goal.loop-i-init
loop-i-init c =
    rowed_start user_width user_limit (user_rows c.args.users.now c.args.rules.records.now c.args.rules.mixtures.now) c.args.out.now
    (ap length c.requires.0 ∙ length-replicate {A = ℕ} (user_limit * user_width) 0)

pub put_user-requires : goal.put_user-requires
put_user-requires c = (
  simp (length-take, length-drop, add-sub_cancel_left) (omega (arith, c.loop-i.invariant.long, c.requires.1)),
  rw c.read16.ensures.0
      (user_named c.args.users.now c.args.rules.records.now c.args.rules.mixtures.now c.requires.2 c.args.rules.good
      c.loop-i.i c.loop-i-test.true),
)

pub loop-i-preserved : goal.loop-i-preserved
loop-i-preserved c =
    users_next c.args.users.now c.args.rules.records.now c.args.rules.mixtures.now c.requires.2 c.args.rules.good c.args.out.now
    c.loop-i.out c.loop-i.i
    c.loop-i.invariant
    (omega (arith, c.loop-i-test.true, c.requires.1))
    c.loop-i-test.true _
    (c.put_user.ensures
    ∙ ap (λ (n : ℕ). user_words (normal_at (rules_in c.args.rules.records.now c.args.rules.mixtures.now) n)) c.read16.ensures.0)

pub shape_of-out : goal.shape_of-out
shape_of-out c = c.loop-i.invariant.same

pub returns : goal.returns
returns c =
    users_end c.args.users.now c.args.rules.records.now c.args.rules.mixtures.now c.requires.2 c.args.rules.good c.args.out.now
    c.loop-i.out c.loop-i.i c.loop-i.invariant c.loop-i-test.false c.requires.0
