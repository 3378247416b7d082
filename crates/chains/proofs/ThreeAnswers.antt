-- The three answers to a step that is not refused.
use mathlib.Core.Path.{◌≡◌, refl, sym, subst, ap}
use mathlib.Core.Logic.{⊎_elim}
use mathlib.Core.Bool.{Bool, true, false, cond, ◌&&◌, ◌||◌}
use Rattle.lists.proofs.Bools.{decide, clash, and_1, or_cases}
use Rattle.rules.specs.Rules.{cover_place}
use Rattle.image.specs.Limits.{is_guarded}
use Rattle.chains.specs.History.{Step, receiver}
use Rattle.answers.specs.declared.Answer.{Answer}
use Rattle.answers.specs.Answers.{quiet, alert, blocked, is_quiet, is_alert, is_blocked, is_refused, accepted, receiver_of, tag_of, position_of}
use Rattle.chains.specs.Table.{State, alerts, blocks, verdict, placed, left}
use Rattle.session.specs.Rows.{Row}

module _ (s : Step) (w : Row) where
  pub verdict_blocked : blocks s w ≡ true → verdict s w ≡ blocked (receiver s) w.tag (cover_place w.permit w.tag)
  unfolding verdict
  verdict_blocked e = rw e

  pub verdict_alert : blocks s w ≡ false → alerts s w ≡ true → verdict s w ≡ alert (receiver s) w.tag (cover_place w.permit w.tag)
  unfolding verdict
  verdict_alert b e = rw (b, e)

  pub verdict_quiet : alerts s w ≡ false → verdict s w ≡ quiet (receiver s) w.tag (cover_place w.permit w.tag)
  unfolding verdict blocks
  verdict_quiet e = rw e (by (is_guarded w.kind))
    where
      by : (g : Bool) → ◌≡◌ {A = Answer} (cond (g && false) blocked quiet (receiver s) w.tag (cover_place w.permit w.tag)) (quiet (receiver s) w.tag (cover_place w.permit w.tag))
      by true = refl
      by false = refl

  pub blocks_alerts : blocks s w ≡ true → alerts s w ≡ true
  unfolding blocks
  blocks_alerts e = and_1 (is_guarded w.kind) e

  -- by the three of them
  by_verdict : (C : Answer → Type 0)
      → (blocks s w ≡ true → C (blocked (receiver s) w.tag (cover_place w.permit w.tag)))
      → (blocks s w ≡ false → alerts s w ≡ true → C (alert (receiver s) w.tag (cover_place w.permit w.tag)))
      → (alerts s w ≡ false → C (quiet (receiver s) w.tag (cover_place w.permit w.tag))) → C (verdict s w)
  by_verdict C kb ka kq =
      ⊎_elim (λ b. subst C (sym (verdict_blocked b)) (kb b))
      (λ b. ⊎_elim (λ e. subst C (sym (verdict_alert b e)) (ka b e)) (λ e. subst C (sym (verdict_quiet e)) (kq e)) (decide (alerts s w)))
      (decide (blocks s w))

  -- none is a refusal, and each gives the receiver, the tag and the position
  pub verdict_given : is_refused (verdict s w) ≡ false
  verdict_given = by_verdict (λ a. is_refused a ≡ false) (λ b. refl) (λ b e. refl) (λ e. refl)

  pub verdict_receiver : receiver_of (verdict s w) ≡ receiver s
  verdict_receiver = by_verdict (λ a. receiver_of a ≡ receiver s) (λ b. refl) (λ b e. refl) (λ e. refl)

  pub verdict_tag : tag_of (verdict s w) ≡ w.tag
  verdict_tag = by_verdict (λ a. tag_of a ≡ w.tag) (λ b. refl) (λ b e. refl) (λ e. refl)

  pub verdict_position : position_of (verdict s w) ≡ cover_place w.permit w.tag
  verdict_position = by_verdict (λ a. position_of a ≡ cover_place w.permit w.tag) (λ b. refl) (λ b e. refl) (λ e. refl)

  -- what does not block is accepted, and nothing else
  pub blocked_blocks : is_blocked (verdict s w) ≡ true → blocks s w ≡ true
  blocked_blocks = by_verdict (λ a. is_blocked a ≡ true → blocks s w ≡ true) (λ b e. b) (λ b e k. clash k refl) (λ e k. clash k refl)

  pub verdict_accepted : blocks s w ≡ false → accepted (verdict s w) ≡ true
  verdict_accepted f = by_verdict (λ a. accepted a ≡ true) (λ b. clash b f) (λ b e. refl) (λ e. refl)

  pub accepted_put : accepted (verdict s w) ≡ true → blocks s w ≡ false
  accepted_put a = ⊎_elim (λ e. clash a (ap accepted (verdict_blocked e))) (λ e. e) (decide (blocks s w))

  pub alert_alerts : is_alert (verdict s w) ≡ true → alerts s w ≡ true
  alert_alerts = by_verdict (λ a. is_alert a ≡ true → alerts s w ≡ true) (λ b k. clash k refl) (λ b e k. e) (λ e k. clash k refl)

  pub quiet_rests : is_quiet (verdict s w) ≡ true → alerts s w ≡ false
  quiet_rests = by_verdict (λ a. is_quiet a ≡ true → alerts s w ≡ false) (λ b k. clash k refl) (λ b e k. clash k refl) (λ e k. e)

  pub forbidden_alerts : (is_alert (verdict s w) || is_blocked (verdict s w)) ≡ true → alerts s w ≡ true
  forbidden_alerts k = ⊎_elim alert_alerts (λ b. blocks_alerts (blocked_blocks b)) (or_cases (is_alert (verdict s w)) k)

  -- the state that is left
  pub left_put : (σ : State) → blocks s w ≡ false → left σ s w ≡ placed σ (receiver s) w
  unfolding left
  left_put σ b = rw b

  pub left_blocked : (σ : State) → blocks s w ≡ true → left σ s w ≡ σ
  unfolding left
  left_blocked σ b = rw b
