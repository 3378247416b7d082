-- THE MONITOR: what is proved of it, stated in full and proved by citation. The definitions are in specs/ of this crate
-- (the step, runs), of crates records (codes, records), operations (the table on a session's numbers), session and chains (chains,
-- governing rules, the table). A session is a list of numbers, an image or a record a list of bytes; a record may have any bytes
-- and any length.
use Prim.Native.Nat.{ℕ, suc, ◌*◌, ◌<◌}
use native.Mathlib.Omega.{arith}
use mathlib.Core.Path.{◌≡◌, refl, sym, ap, ◌∙◌}
use mathlib.Core.Logic.{◌⊎◌, ◌↔◌, ◌≢◌, ⊎_elim}
use mathlib.Core.Bool.{true, false, cond, ◌||◌}
use mathlib.Core.List.{List, [], ◌∷◌, ◌++◌}
use mathlib.Core.Option.{Option, some}
use lib.Dec.{eqb}
use lib.ListN.{length, take, drop, get_elem?}
use borrow.Author.Tests.{eqb-true, eq-eqb}
use Rattle.lists.specs.Lists.{elem, every}
use Rattle.lists.specs.Conditions.{numbers_of, number_at}
use Rattle.lists.proofs.Bools.{clash}
use Rattle.lists.proofs.Conditions.{given_among, given_none}
use Rattle.fields.specs.Bytes.{Bytes}
use Rattle.answers.specs.Refusals.{operation_record, lent_length, row, no_process, wrong_kind, not_free, not_declared, other_user, over_limit}
use Rattle.answers.specs.declared.Answer.{Answer}
use Rattle.answers.specs.Answers.{quiet, alert, refused, is_quiet, is_alert, is_blocked, is_refused, accepted, receiver_of, tag_of, position_of, answer_number}
use Rattle.answers.proofs.Cases.{given_cases, accepted_unblocked, alert_number_lem, blocked_number_lem, accepted_number}
use Rattle.rules.specs.Sets.{atom}
use Rattle.rules.specs.Rules.{covers, no_position, cover_place}
use Rattle.rules.specs.Answers.{mixture_limit}
use Rattle.image.specs.Limits.{container_limit, user_limit, is_free, is_file, is_store}
use Rattle.image.specs.Image.{check_of, policy_in}
use Rattle.image.specs.Normal.{meaning}
use Rattle.session.specs.Limits.{session_length, nobody}
use Rattle.session.specs.Rows.{Row, row_words, container_row_good, user_row_good, container_row, user_row}
use Rattle.session.specs.Session.{start_of, start_answer, start_effect, session_length_good}
use Rattle.image.proofs.Decode.{accepted_sound}
use Rattle.session.proofs.Canonical.{effect_start}
use Rattle.chains.specs.History.{Step, read, write, append, exec, fork, new_file, new_volatile, end, delete, History, receiver}
use Rattle.chains.specs.Chains.{Governs, Reaches, Forbidden}
use Rattle.chains.specs.Behalf.{on_behalf}
use Rattle.chains.specs.Demand.{judged, history_of, Demand3, TagTold, TakenAnew}
use Rattle.chains.specs.Table.{State, rule_or, entry, is_some, process_good, object_good, kind_good, free_good, user_good, behalf_fits, meet_good, early_conditions, table_conditions, begin}
use Rattle.image.proofs.KindLaws.{process_used, free_kinds_lem, process_kinds_lem}
use Rattle.chains.proofs.Theorems as chains
use Rattle.records.specs.Records.{record_length, record_good, step_of}
use Rattle.records.specs.Traces.{trace_records}
use Rattle.records.proofs.RecordLaws.{record_step}
use Rattle.operations.specs.View.{view}
use Rattle.operations.specs.Effects.{rows_good, session_conditions}
use Rattle.operations.proofs.PlacedRows.{Valid, placed_row, placed_other, placed_user}
use Rattle.monitor.specs.Steps.{step_asked, step_conditions, refusal_of, step_answer, step_effect}
use Rattle.monitor.specs.Runs.{step_on, run_answers, run_effect, history_in}
use Rattle.monitor.specs.Stops.{ran, ran_effect}
use Rattle.monitor.proofs.StepLaws.{numbers, refused_at, refused_answer, refused_effect, step_long, step_record, step_receiver, step_laid, effect_long}
use Rattle.monitor.proofs.StepLaws.{made_answer_lem, made_effect_lem, answered, answered_zero, accepted_zero, accepted_free, faithful}
use Rattle.monitor.proofs.AnswerNumbers as answers
use Rattle.monitor.proofs.AnswerPositions as positions
use Rattle.monitor.proofs.AnswerNumbers.{verdict_put, new_quiet}
use Rattle.monitor.proofs.BehalfLaws.{Other, behalf_fails, other_same, process_named}
use Rattle.monitor.proofs.StartView.{start_valid, start_view, begun_declared}
use Rattle.monitor.proofs.UserLaws.{Users, reached_recorded}
use Rattle.monitor.proofs.RunHistories.{valid_run, never_10, run_effect_append}
use Rattle.monitor.proofs.DemandLaws.{alert_at_lem, tag_at, alert_last}
use Rattle.monitor.proofs.TraceCuts.{answers_length}
use Rattle.monitor.proofs.StopLaws.{stopped, all_quiet, quiet_stop, ran_good, ran_alert, number_9, number_0, number_256, number_257, answers_split, effect_split}

-- ---- DEMAND 3 (the paper, "Chains")

module _ (image : List ℕ) (bytes : Bytes image) (ok : check_of image ≡ 0) where
  -- From the session that an image starts which is not refused: of any list of records, each accepted read, write, append, exec
  -- or fork is answered by an alert exactly when its receiver is forbidden what it holds.
  pub demand3 : Demand3 step_on step_of (start_of (policy_in image)) (policy_in image)
  demand3 =
      chains.demand3 step_on step_of view Valid faithful (policy_in image) (accepted_sound image bytes ok) (start_of (policy_in image))
      (start_valid (policy_in image) (accepted_sound image bytes ok)) (start_view (policy_in image) (accepted_sound image bytes ok))

  -- and with its receiver, and exactly the information for which there is a chain into it
  pub tag_told : TagTold step_on step_of (start_of (policy_in image)) (policy_in image)
  tag_told =
      chains.tag_told step_on step_of view Valid faithful (policy_in image) (accepted_sound image bytes ok) (start_of (policy_in image))
      (start_valid (policy_in image) (accepted_sound image bytes ok)) (start_view (policy_in image) (accepted_sound image bytes ok))

  -- and a fork, new file or new volatile takes a number to which nothing of its past comes back
  pub number_taken : TakenAnew step_on step_of (start_of (policy_in image)) (policy_in image)
  number_taken =
      chains.number_taken step_on step_of view Valid faithful (policy_in image) (accepted_sound image bytes ok) (start_of (policy_in image))
      (start_valid (policy_in image) (accepted_sound image bytes ok)) (start_view (policy_in image) (accepted_sound image bytes ok))

-- The same from the session as the start left it, whatever stood there, if the start did not refuse.
module _ (image lent : List ℕ) (bytes : Bytes image) (ok : start_answer image lent ≡ 0) where
  pub demand3_started : Demand3 step_on step_of (start_effect image lent) (policy_in image)
  demand3_started = rw (effect_start image lent ok).1 (demand3 image bytes (effect_start image lent ok).0)

  pub tag_told_started : TagTold step_on step_of (start_effect image lent) (policy_in image)
  tag_told_started = rw (effect_start image lent ok).1 (tag_told image bytes (effect_start image lent ok).0)

  pub number_taken_started : TakenAnew step_on step_of (start_effect image lent) (policy_in image)
  number_taken_started = rw (effect_start image lent ok).1 (number_taken image bytes (effect_start image lent ok).0)

-- Demand 3 spelled out, over the bytes of the image and of the records, and which answers accept. The start did not
-- refuse, and filled a lent session; a list of records was answered on it. Record number n is r, its answer a accepts it, and
-- it spells t: a read, write, append, exec or fork. h is the history up to and with it. Then a is an alert exactly if some rule
-- governs the receiver of which no mixture holds all the atoms that have a chain into the receiver.
pub alert_exactly : (image lent : List ℕ) → Bytes image → start_answer image lent ≡ 0
    → (rs : List (List ℕ)) (given : List Answer) → run_answers (start_effect image lent) rs ≡ given
    → (n : ℕ) (r : List ℕ) (a : Answer) → get_elem? rs n ≡ some r → get_elem? given n ≡ some a → accepted a ≡ true
    → (t : Step) → step_of r ≡ some t → judged t ≡ true
    → (h : History) → history_in (take (suc n) rs) (take (suc n) given) ≡ h
    → (is_alert a ≡ true)
    ↔ ((rule : List ℕ) × Governs (policy_in image) h (receiver t) rule
    × ((m : ℕ) → elem m rule ≡ true → ¬ ((k : ℕ) → Reaches (policy_in image) h k (receiver t) → atom m k ≡ 1)))
alert_exactly image lent bytes ok rs given g n r a er ea k t et j h eh =
    alert_at_lem (start_effect image lent) (policy_in image) rs given g n r a er ea k t et h eh (demand3_started image lent bytes ok) j

-- The tag spelled out in the same way, for all nine codes: the answer names the receiver, and exactly the atoms that have a chain
-- into it.
pub tag_exactly : (image lent : List ℕ) → Bytes image → start_answer image lent ≡ 0
    → (rs : List (List ℕ)) (given : List Answer) → run_answers (start_effect image lent) rs ≡ given
    → (n : ℕ) (r : List ℕ) (a : Answer) → get_elem? rs n ≡ some r → get_elem? given n ≡ some a → accepted a ≡ true
    → (t : Step) → step_of r ≡ some t
    → (h : History) → history_in (take (suc n) rs) (take (suc n) given) ≡ h
    → (receiver_of a ≡ receiver t) × ((k : ℕ) → (atom (tag_of a) k ≡ 1) ↔ Reaches (policy_in image) h k (receiver t))
tag_exactly image lent bytes ok rs given g n r a er ea k t et h eh =
    tag_at (start_effect image lent) (policy_in image) rs given g n r a er ea k t et h eh (tag_told_started image lent bytes ok)

-- Demand 3 of one step on the session that a run has left.
pub alert_next : (image lent : List ℕ) → Bytes image → start_answer image lent ≡ 0 → (rs : List (List ℕ)) (r : List ℕ)
    → accepted (step_answer (run_effect (start_effect image lent) rs) r) ≡ true → judged (step_asked r) ≡ true
    → (is_alert (step_answer (run_effect (start_effect image lent) rs) r) ≡ true)
    ↔ Forbidden (policy_in image) (history_in (rs ++ (r ∷ [])) (run_answers (start_effect image lent) (rs ++ (r ∷ [])))) (receiver (step_asked r))
alert_next image lent bytes ok rs r e j = alert_last (start_effect image lent) (policy_in image) rs r e (demand3_started image lent bytes ok) j

-- ---- a run that stops, `run`: of any session and any bytes

-- the number that a host sees: 0 exactly if the session has its length and each record is answered quiet, 256 exactly if it is an alert,
-- 257 exactly if it is blocked
pub ran_0 : (s t : List ℕ) → (answer_number (ran s t).answer ≡ 0) ↔ ((session_length_good s ≡ true) × (every is_quiet (run_answers s (trace_records t)) ≡ true))
ran_0 s t = (number_0 s t, λ h. rw (ran_good s t h.0, quiet_stop (run_answers s (trace_records t)) h.1))

pub ran_256 : (s t : List ℕ) → (answer_number (ran s t).answer ≡ 256) ↔ (is_alert (ran s t).answer ≡ true)
ran_256 s t = (number_256 s t, alert_number_lem (ran s t).answer)

pub ran_257 : (s t : List ℕ) → (answer_number (ran s t).answer ≡ 257) ↔ (is_blocked (ran s t).answer ≡ true)
ran_257 s t = (number_257 s t, blocked_number_lem (ran s t).answer)

-- 9 exactly if the session has not its length; then nothing is taken, and nothing changed
pub ran_9 : (s t : List ℕ) → (answer_number (ran s t).answer ≡ lent_length) ↔ (session_length_good s ≡ false)
unfolding ran
ran_9 s t = (number_9 s t, λ g. rw g)

pub ran_9_nothing : (s t : List ℕ) → session_length_good s ≡ false → ((ran s t).taken ≡ 0) × (ran_effect s t ≡ s)
unfolding ran ran_effect run_effect
ran_9_nothing s t g = (rw g, rw g)

module _ (s t : List ℕ) (g : session_length_good s ≡ true) where
  -- It stops behind the record number n, the first that is not answered quiet: `answer` is that record's.
  pub ran_stopped : is_quiet (ran s t).answer ≡ false
      → (n : ℕ) × ((ran s t).taken ≡ suc n)
      × (every is_quiet (take n (run_answers s (trace_records t))) ≡ true) × (get_elem? (run_answers s (trace_records t)) n ≡ some (ran s t).answer)
  ran_stopped q = rw (ran_good s t g) (stopped (run_answers s (trace_records t)) (rw (ran_good s t g) at q))

  -- Or all records are taken, and each is answered quiet.
  pub ran_through : is_quiet (ran s t).answer ≡ true
      → ((ran s t).answer ≡ quiet 0 0 0) × ((ran s t).taken ≡ length (trace_records t)) × (every is_quiet (run_answers s (trace_records t)) ≡ true)
  ran_through q =
      let h = all_quiet (run_answers s (trace_records t)) (rw (ran_good s t g) at q) in
      rw (ran_good s t g) (h.0, h.1 ∙ answers_length s (trace_records t), h.2)

-- The rest of the bytes, run on the session that is left, goes on where it stopped.
pub ran_on : (s t : List ℕ)
    → (run_answers s (trace_records t) ≡ run_answers s (take (ran s t).taken (trace_records t)) ++ run_answers (ran_effect s t) (trace_records (drop ((ran s t).taken * record_length) t)))
    × (run_effect s (trace_records t) ≡ run_effect (ran_effect s t) (trace_records (drop ((ran s t).taken * record_length) t)))
unfolding ran_effect
ran_on s t = (answers_split s t (ran s t).taken, effect_split s t (ran s t).taken)

-- Demand 3 of it. The start did not refuse, the records rs were run, then those of the bytes t, of which qs and r were taken. If r
-- is accepted and has a code of 1 to 5, an alert is given exactly when its receiver is forbidden what it holds after that history.
pub ran_exactly : (image lent : List ℕ) → Bytes image → start_answer image lent ≡ 0 → (rs : List (List ℕ)) (s : List ℕ) → run_effect (start_effect image lent) rs ≡ s
    → (t : List ℕ) (qs : List (List ℕ)) (r : List ℕ) → take (ran s t).taken (trace_records t) ≡ qs ++ (r ∷ [])
    → accepted (step_answer (run_effect s qs) r) ≡ true → judged (step_asked r) ≡ true
    → (is_alert (ran s t).answer ≡ true)
    ↔ Forbidden (policy_in image) (history_in ((rs ++ qs) ++ (r ∷ [])) (run_answers (start_effect image lent) ((rs ++ qs) ++ (r ∷ [])))) (receiver (step_asked r))
ran_exactly image lent bytes ok rs s es t qs r et e j =
    let m : run_effect (start_effect image lent) (rs ++ qs) ≡ run_effect s qs = run_effect_append (start_effect image lent) rs qs ∙ ap (λ (x : List ℕ). run_effect x qs) es in
    rw (ran_alert s t qs r et, ← m) (alert_next image lent bytes ok (rs ++ qs) r (ap (λ (x : List ℕ). accepted (step_answer x r)) m ∙ e) j)

-- ---- each refusal has its condition, and is given only under it: of any session and any record (the paper, "Refused ..")

-- the session's length is 5,536
pub length_good : (s : List ℕ) → (session_length_good s ≡ true) ↔ (length s ≡ session_length)
unfolding session_length_good
length_good s = (eqb-true (length s) session_length, eq-eqb (length s) session_length)

module _ (s r : List ℕ) where
  pub refused_9 : (refusal_of s r ≡ lent_length) ↔ (session_length_good s ≡ false)
  unfolding step_conditions session_conditions table_conditions early_conditions number_at numbers_of
  refused_9 = refused_at s r 0 (omega arith)

  pub refused_7 : (refusal_of s r ≡ operation_record) ↔ ((session_length_good s ≡ true) × (record_good r ≡ false))
  unfolding step_conditions session_conditions table_conditions early_conditions number_at numbers_of
  refused_7 = refused_at s r 1 (omega arith)

  pub refused_10 : (refusal_of s r ≡ row) ↔ ((session_length_good s ≡ true) × ((record_good r ≡ true) × (rows_good s (step_asked r) ≡ false)))
  unfolding step_conditions session_conditions table_conditions early_conditions number_at numbers_of
  refused_10 = refused_at s r 2 (omega arith)

  pub refused_11 : (refusal_of s r ≡ no_process)
      ↔ ((session_length_good s ≡ true) × ((record_good r ≡ true) × ((rows_good s (step_asked r) ≡ true)
      × (process_good (view s) (step_asked r) ≡ false))))
  unfolding step_conditions session_conditions table_conditions early_conditions number_at numbers_of
  refused_11 = refused_at s r 3 (omega arith)

  pub refused_12 : (refusal_of s r ≡ wrong_kind)
      ↔ ((session_length_good s ≡ true) × ((record_good r ≡ true) × ((rows_good s (step_asked r) ≡ true)
      × ((process_good (view s) (step_asked r) ≡ true) × (kind_good (view s) (step_asked r) ≡ false)))))
  unfolding step_conditions session_conditions table_conditions early_conditions number_at numbers_of
  refused_12 = refused_at s r 4 (omega arith)

  pub refused_13 : (refusal_of s r ≡ not_free)
      ↔ ((session_length_good s ≡ true) × ((record_good r ≡ true) × ((rows_good s (step_asked r) ≡ true)
      × ((process_good (view s) (step_asked r) ≡ true) × ((kind_good (view s) (step_asked r) ≡ true)
      × (free_good (view s) (step_asked r) ≡ false))))))
  unfolding step_conditions session_conditions table_conditions early_conditions number_at numbers_of
  refused_13 = refused_at s r 5 (omega arith)

  pub refused_14 : (refusal_of s r ≡ not_declared)
      ↔ ((session_length_good s ≡ true) × ((record_good r ≡ true) × ((rows_good s (step_asked r) ≡ true)
      × ((process_good (view s) (step_asked r) ≡ true) × ((kind_good (view s) (step_asked r) ≡ true)
      × ((free_good (view s) (step_asked r) ≡ true) × (user_good (view s) (step_asked r) ≡ false)))))))
  unfolding step_conditions session_conditions table_conditions early_conditions number_at numbers_of
  refused_14 = refused_at s r 6 (omega arith)

  pub refused_18 : (refusal_of s r ≡ other_user)
      ↔ ((session_length_good s ≡ true) × ((record_good r ≡ true) × ((rows_good s (step_asked r) ≡ true)
      × ((process_good (view s) (step_asked r) ≡ true) × ((kind_good (view s) (step_asked r) ≡ true)
      × ((free_good (view s) (step_asked r) ≡ true) × ((user_good (view s) (step_asked r) ≡ true)
      × (behalf_fits (view s) (step_asked r) ≡ false))))))))
  unfolding step_conditions session_conditions table_conditions early_conditions number_at numbers_of
  refused_18 = refused_at s r 7 (omega arith)

  pub refused_15 : (refusal_of s r ≡ over_limit)
      ↔ ((session_length_good s ≡ true) × ((record_good r ≡ true) × ((rows_good s (step_asked r) ≡ true)
      × ((process_good (view s) (step_asked r) ≡ true) × ((kind_good (view s) (step_asked r) ≡ true)
      × ((free_good (view s) (step_asked r) ≡ true) × ((user_good (view s) (step_asked r) ≡ true)
      × ((behalf_fits (view s) (step_asked r) ≡ true) × (meet_good (view s) (step_asked r) ≡ false)))))))))
  unfolding step_conditions session_conditions table_conditions early_conditions number_at numbers_of
  refused_15 = refused_at s r 8 (omega arith)

  pub not_refused : (refusal_of s r ≡ 0)
      ↔ ((session_length_good s ≡ true) × ((record_good r ≡ true) × ((rows_good s (step_asked r) ≡ true)
      × ((process_good (view s) (step_asked r) ≡ true) × ((kind_good (view s) (step_asked r) ≡ true)
      × ((free_good (view s) (step_asked r) ≡ true) × ((user_good (view s) (step_asked r) ≡ true)
      × ((behalf_fits (view s) (step_asked r) ≡ true) × (meet_good (view s) (step_asked r) ≡ true)))))))))
  unfolding refusal_of step_conditions session_conditions table_conditions early_conditions
  not_refused = given_none (step_conditions s r) (numbers s r)

  -- no other number is given
  pub refusals : elem (refusal_of s r) (0 ∷ lent_length ∷ operation_record ∷ row ∷ no_process ∷ wrong_kind ∷ not_free ∷ not_declared ∷ other_user ∷ over_limit ∷ []) ≡ true
  unfolding refusal_of step_conditions session_conditions table_conditions early_conditions numbers_of
  refusals = given_among (step_conditions s r)

  -- the answer is the refusal, or one that is not refused
  pub answer_refused : refusal_of s r ≢ 0 → step_answer s r ≡ refused (refusal_of s r)
  answer_refused = refused_answer s r

  pub answer_given : (is_refused (step_answer s r) ≡ false) ↔ (refusal_of s r ≡ 0)
  answer_given = (answered_zero s r, answered s r)

  -- what is neither refused nor blocked is accepted
  pub answer_accepted : (accepted (step_answer s r) ≡ true) ↔ ((refusal_of s r ≡ 0) × (is_blocked (step_answer s r) ≡ false))
  answer_accepted = (
    λ a. (accepted_zero s r a, accepted_unblocked (step_answer s r) a),
    λ h. ⊎_elim (λ a. a) (λ b. clash b h.1) (given_cases (step_answer s r) (answered s r h.0)),
  )

-- ---- what 12 and 13 ask of the object o, code by code: of any rows ("Operations", the column "o"; 8 and 9: change request No. 4)

module _ (σ : State) (p o : ℕ) where
  -- 1, 2, 3: 12 unless o is a file or a volatile
  pub object_read : (kind_good σ (read p o) ≡ is_store (σ.row o).kind) × (free_good σ (read p o) ≡ true)
  unfolding kind_good free_good object_good entry is_store
  object_read = (refl, refl)

  pub object_write : (kind_good σ (write p o) ≡ is_store (σ.row o).kind) × (free_good σ (write p o) ≡ true)
  unfolding kind_good free_good object_good entry is_store
  object_write = (refl, refl)

  pub object_append : (kind_good σ (append p o) ≡ is_store (σ.row o).kind) × (free_good σ (append p o) ≡ true)
  unfolding kind_good free_good object_good entry is_store
  object_append = (refl, refl)

  -- 4: 12 unless o is a file
  pub object_exec : (u : ℕ) → (kind_good σ (exec p o u) ≡ is_file (σ.row o).kind) × (free_good σ (exec p o u) ≡ true)
  unfolding kind_good free_good object_good entry is_file
  object_exec u = (refl, refl)

  -- 5, 6, 7: 13 unless the row of o is free
  pub object_fork : (kind_good σ (fork p o) ≡ true) × (free_good σ (fork p o) ≡ is_free (σ.row o).kind)
  unfolding kind_good free_good object_good entry
  object_fork = (refl, free_kinds_lem (σ.row o).kind)

  pub object_file : (u : ℕ) → (kind_good σ (new_file p o u) ≡ true) × (free_good σ (new_file p o u) ≡ is_free (σ.row o).kind)
  unfolding kind_good free_good object_good entry
  object_file u = (refl, free_kinds_lem (σ.row o).kind)

  pub object_volatile : (kind_good σ (new_volatile p o) ≡ true) × (free_good σ (new_volatile p o) ≡ is_free (σ.row o).kind)
  unfolding kind_good free_good object_good entry
  object_volatile = (refl, free_kinds_lem (σ.row o).kind)

  -- 9: 12 unless o is a file or a volatile
  pub object_delete : (kind_good σ (delete p o) ≡ is_store (σ.row o).kind) × (free_good σ (delete p o) ≡ true)
  unfolding kind_good free_good object_good entry is_store
  object_delete = (refl, refl)

-- 8: no more than 11 asks of p, so that 12 and 13 are never given
pub object_end : (σ : State) (p : ℕ) → (kind_good σ (end p) ≡ process_good σ (end p)) × (free_good σ (end p) ≡ true)
unfolding kind_good free_good object_good entry process_good
object_end σ p = (process_kinds_lem (σ.row p).kind, refl)

pub end_never_12 : (s r : List ℕ) (p : ℕ) → step_asked r ≡ end p → refusal_of s r ≢ wrong_kind
end_never_12 s r p e h =
    let k = ((refused_12 s r).0 h).1.1.1 in
    clash ((object_end (view s) p).0 ∙ ap (process_good (view s)) (sym e) ∙ k.0) (ap (kind_good (view s)) (sym e) ∙ k.1)

-- ---- the session stays as the paper's section "Session" says

module _ (image : List ℕ) (bytes : Bytes image) (ok : check_of image ≡ 0) (rs : List (List ℕ)) where
  pub reached : Valid (run_effect (start_of (policy_in image)) rs)
  reached = valid_run (start_of (policy_in image)) (start_valid (policy_in image) (accepted_sound image bytes ok)) rs

  pub reached_length : length (run_effect (start_of (policy_in image)) rs) ≡ session_length
  reached_length = reached.long

  pub reached_rows : (c : ℕ) → c < container_limit → container_row_good (container_row (run_effect (start_of (policy_in image)) rs) c) ≡ true
  reached_rows = reached.rows

  pub reached_users : (u : ℕ) → u < user_limit → user_row_good (user_row (run_effect (start_of (policy_in image)) rs) u) ≡ true
  reached_users = reached.users

  -- so no record is refused by 9 or by 10
  pub reached_never_9 : (r : List ℕ) → refusal_of (run_effect (start_of (policy_in image)) rs) r ≢ 9
  reached_never_9 r e = clash ((length_good (run_effect (start_of (policy_in image)) rs)).1 reached_length) ((refused_9 (run_effect (start_of (policy_in image)) rs) r).0 e)

  pub reached_never_10 : (r : List ℕ) → refusal_of (run_effect (start_of (policy_in image)) rs) r ≢ 10
  reached_never_10 = never_10 (run_effect (start_of (policy_in image)) rs) reached

-- ---- on whose behalf a process runs (change request No. 5)

module _ (image : List ℕ) (bytes : Bytes image) (ok : check_of image ≡ 0) (rs : List (List ℕ)) where
  -- On every session reached from a start, the 21st number of a row in use is what the history says: the user of the last exec,
  -- through forks, or nobody.
  pub behalf_told : (c : ℕ) → is_free ((view (run_effect (start_of (policy_in image)) rs)).row c).kind ≡ false
      → ((view (run_effect (start_of (policy_in image)) rs)).row c).behalf ≡ on_behalf (history_of step_on step_of (start_of (policy_in image)) rs) c
  unfolding run_effect
  behalf_told =
      chains.behalf_told step_on step_of view Valid faithful (policy_in image) (accepted_sound image bytes ok) (start_of (policy_in image))
      (start_valid (policy_in image) (accepted_sound image bytes ok)) (start_view (policy_in image) (accepted_sound image bytes ok)) rs

  -- Of records that 9, 7 and 10 to 14 do not refuse, 18 refuses exactly a new file for a user other than the one on whose behalf
  -- its process runs, where that is not nobody.
  pub refused_18_told : (r : List ℕ) → record_good r ≡ true
      → rows_good (run_effect (start_of (policy_in image)) rs) (step_asked r) ≡ true
      → process_good (view (run_effect (start_of (policy_in image)) rs)) (step_asked r) ≡ true
      → kind_good (view (run_effect (start_of (policy_in image)) rs)) (step_asked r) ≡ true
      → free_good (view (run_effect (start_of (policy_in image)) rs)) (step_asked r) ≡ true
      → user_good (view (run_effect (start_of (policy_in image)) rs)) (step_asked r) ≡ true
      → (refusal_of (run_effect (start_of (policy_in image)) rs) r ≡ other_user) ↔ Other (on_behalf (history_of step_on step_of (start_of (policy_in image)) rs)) (step_asked r)
  refused_18_told r g7 g10 g11 g12 g13 g14 = (to, back)
    where
      s : List ℕ
      s = run_effect (start_of (policy_in image)) rs

      runs : (p o u : ℕ) → step_asked r ≡ new_file p o u → ((view s).row p).behalf ≡ on_behalf (history_of step_on step_of (start_of (policy_in image)) rs) p
      runs p o u e = behalf_told p (process_used ((view s).row p).kind (process_named (view s) p o u (ap (process_good (view s)) (sym e) ∙ g11)))

      to : refusal_of s r ≡ other_user → Other (on_behalf (history_of step_on step_of (start_of (policy_in image)) rs)) (step_asked r)
      to e =
          other_same (λ p. ((view s).row p).behalf) (on_behalf (history_of step_on step_of (start_of (policy_in image)) rs)) (step_asked r) runs
          ((behalf_fails (view s) (step_asked r)).0 ((refused_18 s r).0 e).1.1.1.1.1.1.1)

      back : Other (on_behalf (history_of step_on step_of (start_of (policy_in image)) rs)) (step_asked r) → refusal_of s r ≡ other_user
      back x =
          (refused_18 s r).1 (
            (length_good s).1 (reached_length image bytes ok rs),
            (
              g7,
              (
                g10,
                (
                  g11,
                  (
                    g12,
                    (
                      g13,
                      (
                        g14,
                        (behalf_fails (view s) (step_asked r)).1
                            (other_same (on_behalf (history_of step_on step_of (start_of (policy_in image)) rs)) (λ p. ((view s).row p).behalf) (step_asked r) (λ p o u e. sym (runs p o u e)) x),
                      ),
                    ),
                  ),
                ),
              ),
            ),
          )

module _ (image : List ℕ) (bytes : Bytes image) (ok : check_of image ≡ 0) (rs : List (List ℕ)) where
  recorded : Users (begin (policy_in image)).user (view (run_effect (start_of (policy_in image)) rs))
  recorded = reached_recorded (policy_in image) (accepted_sound image bytes ok) rs

  -- Whatever is run, the users of a session are those of the policy, each with its rule in normal form.
  pub user_rules_told : (u : ℕ) → (view (run_effect (start_of (policy_in image)) rs)).user u ≡ get_elem? (meaning (policy_in image)).users u
  unfolding begin
  user_rules_told u = ap (λ (f : ℕ → Option (List ℕ)). f u) recorded.stay

  -- So 14 asks of a user that it is below the number of users that the policy declares.
  pub declared_exactly : (u : ℕ) → (is_some ((view (run_effect (start_of (policy_in image)) rs)).user u) ≡ true) ↔ (u < length (policy_in image).users)
  declared_exactly u = rw recorded.stay (begun_declared (policy_in image) (accepted_sound image bytes ok) u)

  -- And a user that is recorded is a declared one: the 21st number of a row in use is nobody, or such a user.
  pub behalf_declared : (c : ℕ) → is_free ((view (run_effect (start_of (policy_in image)) rs)).row c).kind ≡ false
      → (((view (run_effect (start_of (policy_in image)) rs)).row c).behalf ≢ nobody)
      ↔ (((view (run_effect (start_of (policy_in image)) rs)).row c).behalf < length (policy_in image).users)
  behalf_declared c used = (
    λ n. (declared_exactly ((view (run_effect (start_of (policy_in image)) rs)).row c).behalf).0 (recorded.named c used n),
    λ l e. omega (arith, (accepted_sound image bytes ok).few_users, l, e),
  )

-- The same from the session as the start left it, if the start did not refuse.
module _ (image lent : List ℕ) (bytes : Bytes image) (ok : start_answer image lent ≡ 0) (rs : List (List ℕ)) where
  pub behalf_told_started : (c : ℕ) → is_free ((view (run_effect (start_effect image lent) rs)).row c).kind ≡ false
      → ((view (run_effect (start_effect image lent) rs)).row c).behalf ≡ on_behalf (history_of step_on step_of (start_effect image lent) rs) c
  behalf_told_started = rw (effect_start image lent ok).1 (behalf_told image bytes (effect_start image lent ok).0 rs)

  pub declared_exactly_started : (u : ℕ) → (is_some ((view (run_effect (start_effect image lent) rs)).user u) ≡ true) ↔ (u < length (policy_in image).users)
  declared_exactly_started = rw (effect_start image lent ok).1 (declared_exactly image bytes (effect_start image lent ok).0 rs)

  pub behalf_declared_started : (c : ℕ) → is_free ((view (run_effect (start_effect image lent) rs)).row c).kind ≡ false
      → (((view (run_effect (start_effect image lent) rs)).row c).behalf ≢ nobody)
      ↔ (((view (run_effect (start_effect image lent) rs)).row c).behalf < length (policy_in image).users)
  behalf_declared_started = rw (effect_start image lent ok).1 (behalf_declared image bytes (effect_start image lent ok).0 rs)

-- ---- what one step changes: of any session and any record

-- "A refusal .. changes no lent memory"
pub refused_nothing : (s r : List ℕ) → refusal_of s r ≢ 0 → step_effect s r ≡ s
refused_nothing = refused_effect

-- an accepted step writes the receiver's row, which is then as "Session" says, and nothing else
module _ (s r : List ℕ) (a : accepted (step_answer s r) ≡ true) where
  e : refusal_of s r ≡ 0
  e = accepted_zero s r a

  pub effect_row : container_row (step_effect s r) (receiver (step_asked r)) ≡ row_words (entry (view s) (step_asked r)).row
  effect_row =
      rw (made_effect_lem s r e (accepted_free s r a))
      (placed_row s (step_long s r e) (receiver (step_asked r)) (step_receiver s r e) (entry (view s) (step_asked r)).row (step_laid s r e))

  pub effect_good : container_row_good (container_row (step_effect s r) (receiver (step_asked r))) ≡ true
  effect_good = ap container_row_good effect_row ∙ (step_laid s r e).good

  pub effect_others : (d : ℕ) → d ≢ receiver (step_asked r) → container_row (step_effect s r) d ≡ container_row s d
  effect_others d n =
      rw (made_effect_lem s r e (accepted_free s r a))
      (placed_other s (step_long s r e) (receiver (step_asked r)) (step_receiver s r e) (entry (view s) (step_asked r)).row (step_laid s r e) d n)

  pub effect_users : (u : ℕ) → user_row (step_effect s r) u ≡ user_row s u
  effect_users u =
      rw (made_effect_lem s r e (accepted_free s r a))
      (placed_user s (step_long s r e) (receiver (step_asked r)) (step_receiver s r e) (entry (view s) (step_asked r)).row (step_laid s r e) u)

  pub effect_length : length (step_effect s r) ≡ session_length
  effect_length = effect_long s r e

  -- "Codes 1 to 5 answer alert if the receiver's permit rule does not cover its tag afterwards, else quiet"
  pub answer_judged : judged (step_asked r) ≡ true
      → step_answer s r
      ≡ cond (covers (entry (view s) (step_asked r)).row.permit (entry (view s) (step_asked r)).row.tag) quiet alert (receiver (step_asked r))
      (entry (view s) (step_asked r)).row.tag
      (cover_place (entry (view s) (step_asked r)).row.permit (entry (view s) (step_asked r)).row.tag)
  answer_judged j = made_answer_lem s r e ∙ verdict_put (step_asked r) (entry (view s) (step_asked r)).row j (accepted_free s r a)

  -- "6 and 7 answer quiet", with "empty tag"; 8 and 9 "answer quiet with tag 0"
  pub answer_new : judged (step_asked r) ≡ false
      → step_answer s r ≡ quiet (receiver (step_asked r)) 0 (cover_place (entry (view s) (step_asked r)).row.permit 0)
  answer_new j = made_answer_lem s r e ∙ new_quiet (view s) (step_asked r) j

-- ---- the position (change request No. 12): of every step that is not refused, whether it was made or blocked

module _ (s r : List ℕ) (g : is_refused (step_answer s r) ≡ false) where
  -- it is that of the first mixture that covers, in the permit rule and for the tag of the row that the step makes or, blocked, would have
  -- made
  pub position_told : position_of (step_answer s r) ≡ cover_place (entry (view s) (step_asked r)).row.permit (entry (view s) (step_asked r)).row.tag
  position_told = positions.told s r (answered_zero s r g)

  -- of an accepted step, in the session afterwards
  pub position_held : accepted (step_answer s r) ≡ true
      → position_of (step_answer s r)
      ≡ cover_place ((view (step_effect s r)).row (receiver (step_asked r))).permit ((view (step_effect s r)).row (receiver (step_asked r))).tag
  position_held a = position_told ∙ ap (λ (w : Row). cover_place w.permit w.tag) (sym (positions.seen s r (answered_zero s r g) a))

  -- "0 to 7 .. or 255"
  pub position_range : (position_of (step_answer s r) < mixture_limit) ⊎ (position_of (step_answer s r) ≡ no_position)
  position_range = positions.ranged s r (answered_zero s r g)

  -- codes 1 to 5 answer quiet exactly if it is the place of a mixture of the permit rule
  pub position_quiet : judged (step_asked r) ≡ true
      → (is_quiet (step_answer s r) ≡ true) ↔ (position_of (step_answer s r) < length (entry (view s) (step_asked r)).row.permit)
  position_quiet = positions.quiet_within s r (answered_zero s r g)

  -- an alert has 255, and so has what is blocked
  pub position_none : (is_alert (step_answer s r) || is_blocked (step_answer s r)) ≡ true → position_of (step_answer s r) ≡ no_position
  position_none = positions.forbidden_none s r (answered_zero s r g)

  -- codes 6 and 7: each mixture covers the empty tag, so it is the first; 255 where the user's rule has none
  pub position_file : (p o u : ℕ) → step_asked r ≡ new_file p o u → position_of (step_answer s r) ≡ cond (eqb (length (rule_or ((view s).user u))) 0) no_position 0
  position_file = positions.file_told s r (answered_zero s r g)

  pub position_volatile : (p o : ℕ) → step_asked r ≡ new_volatile p o → position_of (step_answer s r) ≡ 0
  position_volatile = positions.volatile_told s r (answered_zero s r g)

  -- "codes 8 and 9 giving 255"
  pub position_left : (p o : ℕ) → (step_asked r ≡ end p) ⊎ (step_asked r ≡ delete p o) → position_of (step_answer s r) ≡ no_position
  position_left = positions.left_told s r (answered_zero s r g)

-- the answer as one number: 0 quiet, 256 alert, 257 blocked, else the refusal, which is none of these
pub number_accepted : (s r : List ℕ) → accepted (step_answer s r) ≡ true → answer_number (step_answer s r) ≡ cond (is_alert (step_answer s r)) 256 0
number_accepted s r a = accepted_number (step_answer s r) a

pub number_blocked : (s r : List ℕ) → is_blocked (step_answer s r) ≡ true → answer_number (step_answer s r) ≡ 257
number_blocked s r b = blocked_number_lem (step_answer s r) b

pub number_refused : (s r : List ℕ) → refusal_of s r ≢ 0 → (answer_number (step_answer s r) ≡ refusal_of s r) × (refusal_of s r ≢ 256) × (refusal_of s r ≢ 257)
number_refused = answers.number_refused

-- "zeros elsewhere", and the position 0
pub refused_zeros : (s r : List ℕ) → refusal_of s r ≢ 0
    → (is_alert (step_answer s r) ≡ false) × (receiver_of (step_answer s r) ≡ 0) × (tag_of (step_answer s r) ≡ 0) × (position_of (step_answer s r) ≡ 0)
refused_zeros = answers.refused_zeros

-- each accepted record spells a step, so that the history has it
pub accepted_spelled : (s r : List ℕ) → accepted (step_answer s r) ≡ true → step_of r ≡ some (step_asked r)
unfolding step_asked
accepted_spelled s r a = record_step r (step_record s r (accepted_zero s r a))

pub given_spelled : (s r : List ℕ) → is_refused (step_answer s r) ≡ false → step_of r ≡ some (step_asked r)
unfolding step_asked
given_spelled s r a = record_step r (step_record s r (answered_zero s r a))
