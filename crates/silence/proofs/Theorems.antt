-- SILENT (change request No. 8): what is proved of it, stated in full, of every matrix that is not refused. The definitions are in specs/
-- of this crate (silent, allowed accesses), of crates matrix (composed flows) and derivation (permit rules, the derived image). A session
-- is a list of numbers, an image or a record a list of bytes.
use Prim.Native.Nat.{ℕ, ◌+◌, ◌≤◌, ◌<◌}
use mathlib.Core.Path.{◌≡◌, refl, sym, subst}
use mathlib.Core.Logic.{◌⊎◌, inl, inr, ◌↔◌}
use mathlib.Core.Bool.{true, false}
use mathlib.Core.List.{List, [], ◌∷◌, ◌++◌}
use mathlib.Core.Option.{some}
use lib.ListN.{length, get_or}
use Rattle.lists.specs.Lists.{elem, every}
use Rattle.lists.proofs.Bools.{clash, decide}
use Rattle.lists.proofs.Below.{all_at, all_in}
use Rattle.answers.specs.Answers.{accepted, is_alert}
use Rattle.answers.specs.Refusals.{matrix}
use Rattle.image.specs.Policy.{Policy}
use Rattle.image.specs.Image.{policy_in}
use Rattle.session.specs.Limits.{session_length}
use Rattle.session.specs.Session.{start_of, start_answer, start_effect}
use Rattle.session.proofs.Canonical.{effect_start}
use Rattle.session.proofs.Theorems.{start_accepted}
use Rattle.matrix.specs.Limits.{object_limit}
use Rattle.matrix.specs.Flows.{has, matrix_good, Composed}
use Rattle.matrix.specs.Verdicts.{consistent}
use Rattle.derivation.specs.Derived.{derived_image}
use Rattle.derivation.proofs.Theorems.{derived_read}
use Rattle.chains.specs.History.{Step, read, write, append, receiver}
use Rattle.chains.specs.Chains.{Forbidden}
use Rattle.chains.specs.Demand.{answers, judged}
use Rattle.chains.specs.Table.{begin, operate}
use Rattle.chains.proofs.TableMonitor.{itself}
use Rattle.records.specs.Records.{step_of}
use Rattle.operations.specs.View.{view}
use Rattle.operations.proofs.PlacedRows.{Valid}
use Rattle.monitor.specs.Steps.{step_asked, step_answer}
use Rattle.monitor.specs.Runs.{step_on, run_answers, run_effect, history_in}
use Rattle.monitor.proofs.StepLaws.{faithful}
use Rattle.monitor.proofs.DemandLaws.{alert_last}
use Rattle.monitor.proofs.Theorems.{length_good}
use Rattle.silence.specs.Silent.{quiet_object, silent, matrix_silence}
use Rattle.silence.specs.Sessions.{Allowed, may_read, may_write, may_append, AllAllowed, no_alert}
use Rattle.silence.proofs.AllowedRecords.{accepts, spelled_good}
use Rattle.silence.proofs.DerivedSession.{g, valid, holding, owning, begun_holding, begun_owning, derived_demand, spell, table_gives, allowed_last, allowed_rights, right_of, allowed_judged}
use Rattle.silence.proofs.MonitorLaws as monitors
use Rattle.silence.proofs.OneWriter as writers
use Rattle.silence.proofs.SilenceLaws as numbers

-- ---- which accesses the matrix allows subject s, container objects + s, to object k: for writes and appends it is the write right

module _ (reads writes : List ℕ) (objects s k : ℕ) (ls : s < length reads) (lk : k < objects) where
  pub allowed_read : Allowed reads writes objects (read (objects + s) k) ↔ (has (get_or reads s 0) k ≡ true)
  allowed_read = (λ a. right_of reads (length reads) objects s k (allowed_rights reads writes objects (read (objects + s) k) a), λ h. may_read ls lk h)

  pub allowed_write : Allowed reads writes objects (write (objects + s) k) ↔ (has (get_or writes s 0) k ≡ true)
  allowed_write = (λ a. right_of writes (length reads) objects s k (allowed_rights reads writes objects (write (objects + s) k) a), λ h. may_write ls lk h)

  pub allowed_append : Allowed reads writes objects (append (objects + s) k) ↔ (has (get_or writes s 0) k ≡ true)
  allowed_append = (λ a. right_of writes (length reads) objects s k (allowed_rights reads writes objects (append (objects + s) k) a), λ h. may_append ls lk h)

module _ (reads writes : List ℕ) (objects : ℕ) (good : matrix_good reads writes objects ≡ true) where
  -- the derived policy, as its image spells it
  abbrev pub P : Policy
  P = policy_in (derived_image reads writes objects)

  abbrev even : length writes ≡ length reads
  even = (g reads writes objects good).even

  abbrev few : objects ≤ object_limit
  few = (g reads writes objects good).few

  -- ---- sessions of accesses that the matrix allows

  -- Each record that the matrix allows is accepted, wherever it stands.
  pub allowed_accepted : (rs : List (List ℕ)) → AllAllowed step_of reads writes objects rs → every accepted (run_answers (start_of P) rs) ≡ true
  unfolding run_answers
  allowed_accepted rs A =
      monitors.all_accepted step_on step_of view Valid faithful accepts reads writes objects even few (start_of P) (valid reads writes objects good)
      (holding reads writes objects good) rs A

  -- SILENT exactly when no session from the derived policy, of accesses that the matrix allows, raises an alert.
  pub silent_exactly : (silent reads writes objects ≡ true)
      ↔ ((rs : List (List ℕ)) → AllAllowed step_of reads writes objects rs → no_alert (run_answers (start_of P) rs) ≡ true)
  unfolding run_answers
  silent_exactly =
      monitors.silent_exactly step_on step_of view Valid faithful accepts reads writes objects even few (spell reads writes objects good) (start_of P)
      (valid reads writes objects good) (holding reads writes objects good) (owning reads writes objects good)

  -- Not silent: there are allowed records of which the last is answered by an alert.
  pub not_silent_alerts : silent reads writes objects ≡ false
      → (rs : List (List ℕ)) × (r : List ℕ) × AllAllowed step_of reads writes objects (rs ++ (r ∷ [])) × (is_alert (step_answer (run_effect (start_of P) rs) r) ≡ true)
  unfolding run_effect
  not_silent_alerts e =
      let k : monitors.Alerting step_on step_of view Valid faithful accepts reads writes objects even few (start_of P) =
      monitors.not_silent_alerts step_on step_of view Valid faithful accepts reads writes objects even few (spell reads writes objects good) (start_of P)
      (valid reads writes objects good) (holding reads writes objects good) (owning reads writes objects good) e in
      (k.front, k.last, k.allowed, unfold step_on in k.alert)

  -- The same of the table itself, on steps.
  pub table_silent : (silent reads writes objects ≡ true)
      ↔ ((ts : List Step) → AllAllowed some reads writes objects ts → no_alert (answers operate (begin P) ts) ≡ true)
  table_silent =
      monitors.silent_exactly operate some (λ σ. σ) (λ σ. Unit {0}) itself (λ σ r t v e z. table_gives σ r t e z) reads writes objects even few (λ t a. (t, refl)) (begin P) tt
      (begun_holding reads writes objects good) (begun_owning reads writes objects good)

  -- ---- the same from the session as the start left it, whatever stood there; it refuses the derived image for the session's length alone

  pub derived_starts : (lent : List ℕ) → (start_answer (derived_image reads writes objects) lent ≡ 0) ↔ (length lent ≡ session_length)
  derived_starts lent = (
    λ e. (length_good lent).0 ((start_accepted (derived_image reads writes objects) lent).0 e).0,
    λ e. (start_accepted (derived_image reads writes objects) lent).1 ((length_good lent).1 e, (derived_read reads writes objects good).0),
  )

  pub silent_started : (lent : List ℕ) → start_answer (derived_image reads writes objects) lent ≡ 0
      → (silent reads writes objects ≡ true)
      ↔ ((rs : List (List ℕ)) → AllAllowed step_of reads writes objects rs → no_alert (run_answers (start_effect (derived_image reads writes objects) lent) rs) ≡ true)
  silent_started lent ok = rw (effect_start (derived_image reads writes objects) lent ok).1 silent_exactly

  -- ---- by demand 3: silent exactly when the receiver of no allowed record is forbidden what it then holds

  module _ (rs : List (List ℕ)) (r : List ℕ) (A : AllAllowed step_of reads writes objects (rs ++ (r ∷ []))) where
    last_accepted : accepted (step_answer (run_effect (start_of P) rs) r) ≡ true
    last_accepted =
        unfold run_effect step_on in
        (monitors.every_last step_on step_of view Valid faithful accepts reads writes objects even few accepted (start_of P) rs r (unfold run_answers in (allowed_accepted (rs ++ (r ∷ [])) A)))

    last_judged : judged (step_asked r) ≡ true
    last_judged =
        let z = allowed_last step_of reads writes objects rs r A in
        subst (λ (t : Step). judged t ≡ true) (sym (spelled_good r z.0 z.1).1) (allowed_judged reads writes objects z.0 z.2)

    last_forbidden : (is_alert (step_answer (run_effect (start_of P) rs) r) ≡ true)
        ↔ Forbidden P (history_in (rs ++ (r ∷ [])) (run_answers (start_of P) (rs ++ (r ∷ [])))) (receiver (step_asked r))
    last_forbidden = alert_last (start_of P) P rs r last_accepted (derived_demand reads writes objects good) last_judged

  pub silent_unforbidden : (silent reads writes objects ≡ true)
      ↔ ((rs : List (List ℕ)) (r : List ℕ) → AllAllowed step_of reads writes objects (rs ++ (r ∷ []))
      → ¬ Forbidden P (history_in (rs ++ (r ∷ [])) (run_answers (start_of P) (rs ++ (r ∷ [])))) (receiver (step_asked r)))
  silent_unforbidden = (to, λ h. from h (decide (silent reads writes objects)))
    where
      to : silent reads writes objects ≡ true → (rs : List (List ℕ)) (r : List ℕ) → AllAllowed step_of reads writes objects (rs ++ (r ∷ []))
          → ¬ Forbidden P (history_in (rs ++ (r ∷ [])) (run_answers (start_of P) (rs ++ (r ∷ [])))) (receiver (step_asked r))
      to e rs r A f = clash ((last_forbidden rs r A).1 f) quiet
        where
          quiet : is_alert (step_answer (run_effect (start_of P) rs) r) ≡ false
          quiet = unfold run_effect step_on in
              (monitors.quiet_last step_on step_of view Valid faithful accepts reads writes objects even few (start_of P) rs r
              (unfold run_answers in (silent_exactly.0 e (rs ++ (r ∷ [])) A)))

      from : ((rs : List (List ℕ)) (r : List ℕ) → AllAllowed step_of reads writes objects (rs ++ (r ∷ []))
          → ¬ Forbidden P (history_in (rs ++ (r ∷ [])) (run_answers (start_of P) (rs ++ (r ∷ [])))) (receiver (step_asked r)))
          → (silent reads writes objects ≡ true) ⊎ (silent reads writes objects ≡ false) → silent reads writes objects ≡ true
      from h (inl e) = e
      from h (inr e) = let z = not_silent_alerts e in absurd (h z.0 z.1 z.2 ((last_forbidden z.0 z.1 z.2).0 z.3))

  -- ---- in plain words

  -- silent: each object is quiet
  pub silent_objects : (silent reads writes objects ≡ true) ↔ ((b : ℕ) → b < objects → quiet_object reads writes objects b ≡ true)
  unfolding silent
  silent_objects = (λ e b l. all_at (quiet_object reads writes objects) objects b e l, all_in (quiet_object reads writes objects) objects)

  -- an object is so exactly if, where it has a writer, ONE writer reads every other object with a composed flow into it
  pub quiet_words : (b : ℕ) → b < objects
      → (quiet_object reads writes objects b ≡ true)
      ↔ ((s : ℕ) → s < length reads → has (get_or writes s 0) b ≡ true
      → (w : ℕ) × (w < length reads) × (has (get_or writes w 0) b ≡ true)
      × ((a : ℕ) → Composed reads writes objects a b → (a ≡ b) ⊎ (has (get_or reads w 0) a ≡ true)))
  quiet_words b l = writers.quiet_exactly reads writes objects b even l

  -- "Consistent is too weak": silent is the stronger of the two
  pub silent_consistent : silent reads writes objects ≡ true → consistent reads writes objects ≡ true
  silent_consistent = writers.silent_consistent reads writes objects even

-- ---- the answer: each of its numbers exactly, and no other

-- 8 exactly if the matrix is malformed, as the verdict
pub silence_8 : (reads writes : List ℕ) (objects : ℕ) → (matrix_silence reads writes objects ≡ matrix) ↔ (matrix_good reads writes objects ≡ false)
silence_8 = numbers.silence_8

pub silence_1 : (reads writes : List ℕ) (objects : ℕ) → (matrix_silence reads writes objects ≡ 1) ↔ ((matrix_good reads writes objects ≡ true) × (silent reads writes objects ≡ true))
silence_1 = numbers.silence_1

pub silence_0 : (reads writes : List ℕ) (objects : ℕ) → (matrix_silence reads writes objects ≡ 0) ↔ ((matrix_good reads writes objects ≡ true) × (silent reads writes objects ≡ false))
silence_0 = numbers.silence_0

pub silence_among : (reads writes : List ℕ) (objects : ℕ) → elem (matrix_silence reads writes objects) (0 ∷ 1 ∷ matrix ∷ []) ≡ true
silence_among = numbers.silence_among
