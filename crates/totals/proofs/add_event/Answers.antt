-- `totals::add_event`. The count of the answer, and of an alert that of its receiver; no number stands behind the last container.
use Rattle.std.proofs.Common.{ℕ, ◌+◌, List, ap, ◌∙◌, ap₂, arith}
use Rattle.lists.proofs.Bools.{passes_test, fails_test}
use Rattle.answers.specs.declared.Received.{Received}
use Rattle.totals.specs.Places.{container_counts_at, one_counted}
use Rattle.totals.proofs.CountedEvents.{place_below, event_other, event_alert, event_beyond}
use Rattle.totals.proofs.add_event.Goals as goal

pub add_at-requires : goal.add_at-requires
add_at-requires c =
    omega (arith, c.count_place.ensures, place_below c.args.answer, c.requires)

pub returns-then-not-is_alert : goal.returns-then-not-is_alert
returns-then-not-is_alert c =
    let counted = c.add_at.ensures ∙ ap (one_counted c.args.figures.now) c.count_place.ensures in
    counted ∙ event_other _ _ (fails_test c.is_alert.ensures c.if-not-is_alert.true-raw)

pub returns-then-receiver-lt-CONTAINER_LIMIT : goal.returns-then-receiver-lt-CONTAINER_LIMIT
returns-then-receiver-lt-CONTAINER_LIMIT c =
    let counted = c.add_at.ensures ∙ ap (one_counted c.args.figures.now) c.count_place.ensures in
    let receiver = ap (λ (x : Received). x.receiver) c.received_of-received.ensures in
    c.add_at-then-receiver-lt-CONTAINER_LIMIT.ensures
    ∙ ap₂ (λ (f : List ℕ) (r : ℕ). one_counted f (container_counts_at + r)) counted receiver
    ∙ event_alert _ _ (passes_test c.is_alert.ensures c.if-not-is_alert.false-raw)

pub returns-else-receiver-lt-CONTAINER_LIMIT : goal.returns-else-receiver-lt-CONTAINER_LIMIT
returns-else-receiver-lt-CONTAINER_LIMIT c =
    let counted = c.add_at.ensures ∙ ap (one_counted c.args.figures.now) c.count_place.ensures in
    let receiver = ap (λ (x : Received). x.receiver) c.received_of-received.ensures in
    counted ∙ event_beyond _ _ (passes_test c.is_alert.ensures c.if-not-is_alert.false-raw) c.requires (omega (arith, receiver, c.if-receiver-lt-CONTAINER_LIMIT.false))
