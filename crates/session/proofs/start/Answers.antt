-- The image is judged, the session cleared, and its two parts filled from the sections.
use Rattle.std.proofs.Common.{rules, Err, ◌≡◌, sym, ap, ◌∙◌, length}
use Rattle.answers.proofs.Outcomes.{refused_by, not_accepted}
use Rattle.image.specs.Image.{check_of}
use Rattle.session.proofs.StartSteps.{rows_part_length, containers_lent, users_lent, rows_read, users_read, cleared_long, first_part, second_part, both_parts, wrong_length}
use Rattle.session.proofs.StartSteps.{refused_image, started}
use Rattle.session.proofs.start.Goals as goal

pub returns-then-session-ne-SESSION_LENGTH : goal.returns-then-session-ne-SESSION_LENGTH
returns-then-session-ne-SESSION_LENGTH c = wrong_length c.args.image.now c.args.session.now c.if-session-ne-SESSION_LENGTH.true

pub returns-in_err-policy : goal.returns-in_err-policy
returns-in_err-policy c =
    let same : c.from_residual.result ≡ Err c.in_err-policy.field-0.0 = search rules in
    let told = refused_by c.accept.ensures.0 c.in_err-policy.was in
    rw same (refused_image c.args.image.now c.args.session.now c.if-session-ne-SESSION_LENGTH.false _ (sym told)
    (λ z. not_accepted c.accept.ensures.0 c.in_err-policy.was (told ∙ z)))

pub fill_containers-requires : goal.fill_containers-requires
fill_containers-requires c =
    let policy = c.in_ok-policy.policy in
    let rows = containers_lent policy.bytes.now _ _ c.rules-rules.ensures.0 c.rules-rules.ensures.1 policy.accepted _ c.containers.ensures in
    (first_part c.args.session.now c.clear.new.words c.if-session-ne-SESSION_LENGTH.false c.clear.ensures, rows.0, rows.1)

pub fill_users-requires : goal.fill_users-requires
fill_users-requires c =
    let policy = c.in_ok-policy.policy in
    let rows = users_lent policy.bytes.now _ _ c.rules-rules.ensures.0 c.rules-rules.ensures.1 policy.accepted _ c.users.ensures in
    let filled = rows_read policy.bytes.now _ _ c.rules-rules.ensures.0 c.rules-rules.ensures.1 _ c.fill_containers.new.out c.containers.ensures c.fill_containers.ensures in (
      second_part c.args.session.now c.clear.new.words c.if-session-ne-SESSION_LENGTH.false c.clear.ensures c.fill_containers.new.out
          (ap length filled ∙ rows_part_length policy.bytes.now policy.accepted),
      rows.0,
      rows.1,
    )

pub returns : goal.returns
returns c =
    let policy = c.in_ok-policy.policy in
    let image : policy.bytes.now ≡ c.args.image.now = search rules in
    let good : check_of c.args.image.now ≡ 0 = rw image at policy.accepted in
    let long = c.if-session-ne-SESSION_LENGTH.false in
    let rules2 = rw image at c.rules-rules.ensures.0 in
    let rules3 = rw image at c.rules-rules.ensures.1 in
    started c.args.image.now c.args.session.now long good _
    (both_parts c.args.image.now c.clear.new.words c.fill_containers.new.out c.fill_users.new.out good
    (cleared_long c.args.session.now c.clear.new.words long c.clear.ensures)
    (rows_read c.args.image.now _ _ rules2 rules3 _ c.fill_containers.new.out (rw image at c.containers.ensures) c.fill_containers.ensures)
    (users_read c.args.image.now _ _ rules2 rules3 _ c.fill_users.new.out (rw image at c.users.ensures) c.fill_users.ensures))
