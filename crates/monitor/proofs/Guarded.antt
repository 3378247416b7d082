-- GUARDED FILES (change request No. 9, "Stop it instead"): what is proved of accesses that are blocked, and of the files that are guarded.
use Prim.Native.Nat.{ℕ}
use mathlib.Core.Path.{◌≡◌, refl, sym, ap, ◌∙◌}
use mathlib.Core.Logic.{◌⊎◌, inl, ◌↔◌}
use mathlib.Core.Bool.{true, false, not, cond}
use mathlib.Core.List.{List, [], ◌∷◌, ◌++◌}
use lib.Bits.{bit_or}
use lib.ListN.{take}
use borrow.Author.Tests.{not-true}
use Rattle.lists.proofs.Bools.{and_in, and_0, and_1, clash, refuted}
use Rattle.fields.specs.Bytes.{Bytes}
use Rattle.answers.specs.Answers.{quiet, alert, blocked, is_blocked, is_refused}
use Rattle.answers.proofs.Cases.{blocked_given}
use Rattle.rules.specs.Rules.{covers, no_position, cover_place}
use Rattle.rules.proofs.SetLaws.{or_has}
use Rattle.rules.proofs.CoverLaws.{place_missed}
use Rattle.image.specs.Limits.{is_guarded}
use Rattle.image.specs.Image.{check_of, policy_in}
use Rattle.image.proofs.Decode.{accepted_sound}
use Rattle.session.specs.Rows.{Row}
use Rattle.session.specs.Session.{start_of, start_answer, start_effect}
use Rattle.session.proofs.Canonical.{effect_start}
use Rattle.chains.specs.History.{append, History, ◌▸◌, receiver}
use Rattle.chains.specs.Chains.{Forbidden}
use Rattle.chains.specs.Guards.{guarded, writing, written_into}
use Rattle.chains.specs.Demand.{judged, history_of, BlockedTold, BlockedExactly, GuardedHolds, GuardedSpared}
use Rattle.chains.specs.Table.{State, append_row, entry, meet_good, alerts, blocks}
use Rattle.chains.proofs.Exact.{covers_in, covers_out}
use Rattle.chains.proofs.TableStates.{passed}
use Rattle.chains.proofs.ThreeAnswers.{verdict_blocked, blocks_alerts, blocked_blocks}
use Rattle.chains.proofs.GuardLaws.{guarded_written, writing_judged, written_kind}
use Rattle.chains.proofs.Theorems as chains
use Rattle.records.specs.Records.{step_of}
use Rattle.records.specs.Traces.{trace_records}
use Rattle.operations.specs.View.{view}
use Rattle.operations.proofs.PlacedRows.{Valid}
use Rattle.monitor.specs.Steps.{step_asked, refusal_of, step_answer, step_effect}
use Rattle.monitor.specs.Runs.{step_on, run_answers, run_effect, history_in}
use Rattle.monitor.specs.Stops.{ran}
use Rattle.monitor.proofs.StepLaws.{step_table, step_meet, made_answer_lem, blocked_effect, answered_zero, faithful}
use Rattle.monitor.proofs.AnswerNumbers.{verdict_judged}
use Rattle.monitor.proofs.StartView.{start_valid, start_view}
use Rattle.monitor.proofs.RunHistories.{run_effect_append}
use Rattle.monitor.proofs.DemandLaws.{blocked_last}
use Rattle.monitor.proofs.StopLaws as stops

-- ---- one step: of any session and any record

module _ (s r : List ℕ) where
  abbrev row : Row
  row = (entry (view s) (step_asked r)).row

  module _ (b : is_blocked (step_answer s r) ≡ true) where
    -- "15 being tested before it", as is every other refusal
    pub blocked_unrefused : refusal_of s r ≡ 0
    blocked_unrefused = answered_zero s r (blocked_given (step_answer s r) b)

    pub blocked_behind_15 : meet_good (view s) (step_asked r) ≡ true
    blocked_behind_15 = step_meet s r blocked_unrefused

    blocking : blocks (step_asked r) row ≡ true
    blocking = blocked_blocks (step_asked r) row (ap is_blocked (sym (made_answer_lem s r blocked_unrefused)) ∙ b)

    -- "A write or append"
    pub blocked_step : writing (step_asked r) ≡ true
    unfolding blocks
    blocked_step = guarded_written (view s) (step_asked r) (passed (view s) (step_asked r) (step_table s r blocked_unrefused)) (and_0 (is_guarded row.kind) (alerts (step_asked r) row) blocking)

    -- "with the receiver and the tag it would have had", and no position
    pub blocked_answer : step_answer s r ≡ blocked (receiver (step_asked r)) (entry (view s) (step_asked r)).row.tag no_position
    unfolding alerts
    blocked_answer =
        let uncovered = not-true (covers row.permit row.tag) (and_1 (judged (step_asked r)) (blocks_alerts (step_asked r) row blocking)) in
        made_answer_lem s r blocked_unrefused ∙ verdict_blocked (step_asked r) row blocking
        ∙ ap (blocked (receiver (step_asked r)) row.tag) (place_missed row.permit row.tag uncovered)

    -- "and changes nothing"
    pub blocked_nothing : step_effect s r ≡ s
    blocked_nothing = blocked_effect s r blocked_unrefused blocking

  -- Codes 1 to 5 that are not refused: quiet if the permit rule covers the tag, else blocked or alert by the receiver's kind.
  pub answer_given_judged : refusal_of s r ≡ 0 → judged (step_asked r) ≡ true
      → step_answer s r
      ≡ cond (covers (entry (view s) (step_asked r)).row.permit (entry (view s) (step_asked r)).row.tag) quiet
      (cond (is_guarded (entry (view s) (step_asked r)).row.kind) blocked alert) (receiver (step_asked r)) (entry (view s) (step_asked r)).row.tag
      (cover_place (entry (view s) (step_asked r)).row.permit (entry (view s) (step_asked r)).row.tag)
  answer_given_judged e j = made_answer_lem s r e ∙ verdict_judged (step_asked r) row j

  -- "Blocked is given in just those cases", by the rows: a write or an append is not refused, its object is guarded, and its permit rule
  -- does not cover the tag that it would have
  pub answer_blocked : (is_blocked (step_answer s r) ≡ true)
      ↔ ((refusal_of s r ≡ 0) × (writing (step_asked r) ≡ true) × (is_guarded ((view s).row (receiver (step_asked r))).kind ≡ true)
      × (covers (entry (view s) (step_asked r)).row.permit (entry (view s) (step_asked r)).row.tag ≡ false))
  unfolding blocks alerts
  answer_blocked = (to, from)
    where
      to : is_blocked (step_answer s r) ≡ true
          → (refusal_of s r ≡ 0) × (writing (step_asked r) ≡ true) × (is_guarded ((view s).row (receiver (step_asked r))).kind ≡ true) × (covers row.permit row.tag ≡ false)
      to b = (
        blocked_unrefused b,
        blocked_step b,
        ap is_guarded (sym (written_kind (view s) (step_asked r) (blocked_step b))) ∙ and_0 (is_guarded row.kind) (alerts (step_asked r) row) (blocking b),
        not-true (covers row.permit row.tag) (and_1 (judged (step_asked r)) (blocks_alerts (step_asked r) row (blocking b))),
      )

      from : (refusal_of s r ≡ 0) × (writing (step_asked r) ≡ true) × (is_guarded ((view s).row (receiver (step_asked r))).kind ≡ true) × (covers row.permit row.tag ≡ false)
          → is_blocked (step_answer s r) ≡ true
      from (e, w, g, c) =
          ap is_blocked
          (made_answer_lem s r e
          ∙ verdict_blocked (step_asked r) row (and_in (ap is_guarded (written_kind (view s) (step_asked r) w) ∙ g) (and_in (writing_judged (step_asked r) w) (ap not c))))

-- A guarded file that is not permitted what it holds, as one whose own atom its permit rule leaves out, blocks every append, of nothing too.
pub append_unpermitted : (s r : List ℕ) (p o : ℕ) → step_asked r ≡ append p o → refusal_of s r ≡ 0 → is_guarded ((view s).row o).kind ≡ true
    → covers ((view s).row o).permit ((view s).row o).tag ≡ false → is_blocked (step_answer s r) ≡ true
unfolding entry append_row
append_unpermitted s r p o e h g c =
    (answer_blocked s r).1 (rw e (
      h,
      refl,
      g,
      refuted (covers ((view s).row o).permit (bit_or ((view s).row o).tag ((view s).row p).tag)) (λ k.
          let q = covers_out ((view s).row o).permit (bit_or ((view s).row o).tag ((view s).row p).tag) k in
          clash (covers_in ((view s).row o).permit ((view s).row o).tag q.0 q.1 (λ i a. q.2 i ((or_has ((view s).row o).tag ((view s).row p).tag i).1 (inl a)))) c),
    ))

-- ---- from the session that an image starts which is not refused

module _ (image : List ℕ) (bytes : Bytes image) (ok : check_of image ≡ 0) where
  -- "Blocked is given in just those cases", by chains: of any list of records, each read, write, append, exec or fork that is not refused is
  -- answered alert or blocked exactly when its receiver would be forbidden what it would hold, and blocked exactly when the receiver is
  -- guarded too; with the receiver, and exactly the information for which there would be a chain into it
  pub blocked_exactly : BlockedExactly step_on step_of (start_of (policy_in image)) (policy_in image)
  blocked_exactly =
      chains.blocked_exactly step_on step_of view Valid faithful (policy_in image) (accepted_sound image bytes ok) (start_of (policy_in image))
      (start_valid (policy_in image) (accepted_sound image bytes ok)) (start_view (policy_in image) (accepted_sound image bytes ok))

  -- "Statement files should never receive a forbidden mixture"
  pub guarded_holds : GuardedHolds step_on step_of (start_of (policy_in image)) (policy_in image)
  guarded_holds =
      chains.guarded_holds step_on step_of view Valid faithful (policy_in image) (accepted_sound image bytes ok) (start_of (policy_in image))
      (start_valid (policy_in image) (accepted_sound image bytes ok)) (start_view (policy_in image) (accepted_sound image bytes ok))

  -- and no accepted record raises an alert at a guarded file
  pub guarded_spared : GuardedSpared step_on step_of (start_of (policy_in image)) (policy_in image)
  guarded_spared =
      chains.guarded_spared step_on step_of view Valid faithful (policy_in image) (accepted_sound image bytes ok) (start_of (policy_in image))
      (start_valid (policy_in image) (accepted_sound image bytes ok)) (start_view (policy_in image) (accepted_sound image bytes ok))

  module _ (rs : List (List ℕ)) (c : ℕ) where
    -- Whatever is run, a row has kind 4 exactly if the history says that its container is guarded.
    pub guarded_kind : is_guarded ((view (run_effect (start_of (policy_in image)) rs)).row c).kind ≡ guarded (policy_in image) (history_of step_on step_of (start_of (policy_in image)) rs) c
    unfolding run_effect
    guarded_kind =
        chains.guarded_kind step_on step_of view Valid faithful (policy_in image) (accepted_sound image bytes ok) (start_of (policy_in image))
        (start_valid (policy_in image) (accepted_sound image bytes ok)) (start_view (policy_in image) (accepted_sound image bytes ok)) rs c

    -- The permit rule of a guarded file covers its tag, or nothing was written into it and its tag is the one with which it started.
    pub guarded_covered : is_guarded ((view (run_effect (start_of (policy_in image)) rs)).row c).kind ≡ true
        → (covers ((view (run_effect (start_of (policy_in image)) rs)).row c).permit ((view (run_effect (start_of (policy_in image)) rs)).row c).tag ≡ true)
        ⊎ ((written_into (history_of step_on step_of (start_of (policy_in image)) rs) c ≡ false)
        × (((view (run_effect (start_of (policy_in image)) rs)).row c).tag ≡ ((view (start_of (policy_in image))).row c).tag))
    unfolding run_effect
    guarded_covered g =
        rw (ap (λ (σ : State). (σ.row c).tag) (start_view (policy_in image) (accepted_sound image bytes ok)))
        (chains.guarded_covered step_on step_of view Valid faithful (policy_in image) (accepted_sound image bytes ok) (start_of (policy_in image))
        (start_valid (policy_in image) (accepted_sound image bytes ok)) (start_view (policy_in image) (accepted_sound image bytes ok)) rs c (sym guarded_kind ∙ g))

-- The same from the session as the start left it, whatever stood there, if the start did not refuse.
module _ (image lent : List ℕ) (bytes : Bytes image) (ok : start_answer image lent ≡ 0) where
  pub blocked_exactly_started : BlockedExactly step_on step_of (start_effect image lent) (policy_in image)
  blocked_exactly_started = rw (effect_start image lent ok).1 (blocked_exactly image bytes (effect_start image lent ok).0)

  pub guarded_holds_started : GuardedHolds step_on step_of (start_effect image lent) (policy_in image)
  guarded_holds_started = rw (effect_start image lent ok).1 (guarded_holds image bytes (effect_start image lent ok).0)

  pub guarded_spared_started : GuardedSpared step_on step_of (start_effect image lent) (policy_in image)
  guarded_spared_started = rw (effect_start image lent ok).1 (guarded_spared image bytes (effect_start image lent ok).0)

  module _ (rs : List (List ℕ)) (c : ℕ) where
    pub guarded_kind_started : is_guarded ((view (run_effect (start_effect image lent) rs)).row c).kind ≡ guarded (policy_in image) (history_of step_on step_of (start_effect image lent) rs) c
    guarded_kind_started = rw (effect_start image lent ok).1 (guarded_kind image bytes (effect_start image lent ok).0 rs c)

    pub guarded_covered_started : is_guarded ((view (run_effect (start_effect image lent) rs)).row c).kind ≡ true
        → (covers ((view (run_effect (start_effect image lent) rs)).row c).permit ((view (run_effect (start_effect image lent) rs)).row c).tag ≡ true)
        ⊎ ((written_into (history_of step_on step_of (start_effect image lent) rs) c ≡ false)
        × (((view (run_effect (start_effect image lent) rs)).row c).tag ≡ ((view (start_effect image lent)).row c).tag))
    guarded_covered_started = rw (effect_start image lent ok).1 (guarded_covered image bytes (effect_start image lent ok).0 rs c)

  -- Of one step on the session that a run has left: h is the history of the records and their answers before it.
  pub blocked_next : (rs : List (List ℕ)) (r : List ℕ)
      → is_refused (step_answer (run_effect (start_effect image lent) rs) r) ≡ false → judged (step_asked r) ≡ true
      → BlockedTold (policy_in image) (history_in rs (run_answers (start_effect image lent) rs)) (step_asked r) (step_answer (run_effect (start_effect image lent) rs) r)
  blocked_next rs r e j = blocked_last (start_effect image lent) (policy_in image) rs r e blocked_exactly_started j

  -- Of a run that stops: the records rs were run, then those of the bytes t, of which qs and r were taken. If r is not refused, the run's
  -- answer is blocked exactly if r would be forbidden at a guarded receiver.
  pub ran_blocked : (rs : List (List ℕ)) (s : List ℕ) → run_effect (start_effect image lent) rs ≡ s
      → (t : List ℕ) (qs : List (List ℕ)) (r : List ℕ) → take (ran s t).taken (trace_records t) ≡ qs ++ (r ∷ [])
      → is_refused (step_answer (run_effect s qs) r) ≡ false → judged (step_asked r) ≡ true
      → (h : History) → history_in (rs ++ qs) (run_answers (start_effect image lent) (rs ++ qs)) ≡ h
      → (is_blocked (ran s t).answer ≡ true)
      ↔ (Forbidden (policy_in image) (h ▸ step_asked r) (receiver (step_asked r)) × (guarded (policy_in image) (h ▸ step_asked r) (receiver (step_asked r)) ≡ true))
  ran_blocked rs s es t qs r et e j h eh =
      let m : run_effect (start_effect image lent) (rs ++ qs) ≡ run_effect s qs = run_effect_append (start_effect image lent) rs qs ∙ ap (λ (x : List ℕ). run_effect x qs) es in
      rw (stops.ran_blocked s t qs r et, ← m, ← eh) (blocked_next (rs ++ qs) r (ap (λ (x : List ℕ). is_refused (step_answer x r)) m ∙ e) j).blocks
