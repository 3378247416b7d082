-- PROCESSES THAT END AND FILES THAT ARE DELETED (change request No. 4): what is proved of the row and of the number that they
-- leave, on the session's numbers. What it means for chains and rules is in Theorems of crate chains; that whoever takes the number
-- has nothing of its past is `number_taken` in Theorems.
use Prim.Native.Nat.{ℕ, ◌<◌}
use native.Mathlib.Decide.{ℕ_discrete}
use mathlib.Core.Path.{◌≡◌, refl, sym, ap, ◌∙◌}
use mathlib.Core.Logic.{◌⊎◌, ◌↔◌}
use mathlib.Core.Bool.{true, false, cond, ◌||◌}
use mathlib.Core.List.{List, [], ◌∷◌, ◌++◌}
use lib.Dec.{eqb}
use lib.ListN.{length, get_or, replicate}
use Rattle.lists.specs.Lists.{every}
use Rattle.lists.proofs.Bools.{clash}
use Rattle.fields.specs.Bytes.{Bytes}
use Rattle.answers.specs.Refusals.{not_declared, other_user}
use Rattle.answers.specs.Answers.{accepted}
use Rattle.image.specs.Limits.{is_free, is_process}
use Rattle.image.specs.Image.{policy_in}
use Rattle.session.specs.Limits.{session_length, row_width, kind_at, nobody}
use Rattle.session.specs.Rows.{row_words, container_row_good, user_row_good, container_row, user_row}
use Rattle.session.specs.Session.{start_answer, start_effect}
use Rattle.session.proofs.RowMeaning.{row_kind}
use Rattle.session.proofs.Canonical.{effect_start}
use Rattle.chains.specs.History.{Step, fork, new_file, new_volatile, end, delete, History, receiver}
use Rattle.chains.specs.Behalf.{on_behalf}
use Rattle.chains.specs.Demand.{history_of}
use Rattle.chains.specs.Table.{entry, is_some, process_good, user_good, behalf_fits, meet_good}
use Rattle.image.proofs.KindLaws.{process_used}
use Rattle.records.specs.Records.{record_good, step_of}
use Rattle.operations.specs.View.{view}
use Rattle.operations.proofs.PlacedRows.{Valid}
use Rattle.monitor.specs.Steps.{step_asked, refusal_of, step_answer, step_effect}
use Rattle.monitor.specs.Runs.{step_on, run_effect}
use Rattle.monitor.proofs.RunHistories.{run_last}
use Rattle.monitor.proofs.BehalfLaws.{behalf_either}
use Rattle.monitor.proofs.LeavingLaws.{free_words_lem, zeros_free, free_left, left_free, free_taken, valid_taken}
use Rattle.monitor.proofs.Theorems.{not_refused, answer_accepted, object_fork, object_file, object_volatile, reached, effect_row, effect_others, declared_exactly_started, behalf_told_started}

-- the step ends the process c, or deletes the file or volatile c
abbrev pub Frees : Step → ℕ → Type 0
Frees t c = (t ≡ end c) ⊎ ((p : ℕ) × (t ≡ delete p c))

-- ---- the row that is left: of any session and any record

module _ (s r : List ℕ) (a : accepted (step_answer s r) ≡ true) where
  -- "The row becomes free": an accepted end or delete of c leaves 21 zeros as its row.
  pub freed_row : (c : ℕ) → Frees (step_asked r) c → container_row (step_effect s r) c ≡ replicate row_width 0
  freed_row c f =
      let k = left_free (view s) (step_asked r) c f in
      ap (container_row (step_effect s r)) (sym k.0) ∙ effect_row s r a ∙ ap row_words k.1 ∙ free_words_lem

  -- A number in use becomes free by nothing else.
  pub freed_exactly : (c : ℕ) → is_free ((view s).row c).kind ≡ false → (container_row (step_effect s r) c ≡ replicate row_width 0) ↔ Frees (step_asked r) c
  unfolding is_free
  freed_exactly c used = (to (ℕ_discrete c (receiver (step_asked r))), freed_row c)
    where
      to : Dec (c ≡ receiver (step_asked r)) → container_row (step_effect s r) c ≡ replicate row_width 0 → Frees (step_asked r) c
      to (no n) z = clash (zeros_free s c (sym (effect_others s r a c n) ∙ z)) used
      to (yes e) z =
          let held = ((not_refused s r).0 ((answer_accepted s r).0 a).0).1.1.1 in
          let words : row_words (entry (view s) (step_asked r)).row ≡ replicate row_width 0 = sym (effect_row s r a) ∙ ap (container_row (step_effect s r)) (sym e) ∙ z in
          let kind : (entry (view s) (step_asked r)).row.kind ≡ 0 = sym (row_kind (entry (view s) (step_asked r)).row) ∙ ap (λ (ws : List ℕ). get_or ws kind_at 0) words in
          rw e (free_left (view s) (step_asked r) held.0 held.1.0 (rw kind))

-- ---- the number can be taken again: on any session of 5,536 numbers, the row of c being 21 zeros and that of p a process's which
-- is as "Session" says

module _ (s r : List ℕ) (long : length s ≡ session_length) (good : record_good r ≡ true) (p c : ℕ)
    (zeros : container_row s c ≡ replicate row_width 0) (row : container_row_good (container_row s p) ≡ true) (runs : is_process ((view s).row p).kind ≡ true) where
  -- a fork and a new volatile are not refused
  pub free_fork : step_asked r ≡ fork p c → refusal_of s r ≡ 0
  unfolding entry user_good behalf_fits
  free_fork e = free_taken s r long good p c zeros row runs (fork p c) e refl refl refl refl refl

  pub free_volatile : step_asked r ≡ new_volatile p c → refusal_of s r ≡ 0
  unfolding entry user_good behalf_fits
  free_volatile e = free_taken s r long good p c zeros row runs (new_volatile p c) e refl refl refl refl refl

  -- a new file only because of its user: by 14 if u is not declared, else by 18 if p runs for another user
  pub free_file : (u : ℕ) → step_asked r ≡ new_file p c u → user_row_good (user_row s u) ≡ true
      → refusal_of s r ≡ cond (is_some ((view s).user u)) (cond (eqb ((view s).row p).behalf nobody || eqb ((view s).row p).behalf u) 0 other_user) not_declared
  unfolding entry user_good behalf_fits
  free_file u e g = free_taken s r long good p c zeros row runs (new_file p c u) e refl refl refl refl g

-- ---- the same of every session from an accepted image

-- The start did not refuse, and the records rs were run. The record q was accepted, an end or a delete of c, and left the session
-- s. r is a record of the process p that would take the number c.
module _ (image lent : List ℕ) (bytes : Bytes image) (ok : start_answer image lent ≡ 0) (rs : List (List ℕ)) (q : List ℕ)
    (a : accepted (step_answer (run_effect (start_effect image lent) rs) q) ≡ true) (c : ℕ) (f : Frees (step_asked q) c)
    (s : List ℕ) (es : run_effect (start_effect image lent) (rs ++ (q ∷ [])) ≡ s) (r : List ℕ) (good : record_good r ≡ true) (p : ℕ) where
  valid : Valid s
  valid = rw (← es, (effect_start image lent ok).1) (reached image bytes (effect_start image lent ok).0 (rs ++ (q ∷ [])))

  free : is_free ((view s).row c).kind ≡ true
  free = zeros_free s c (rw (← es, run_last (start_effect image lent) rs q) (freed_row (run_effect (start_effect image lent) rs) q a c f))

  -- A fork and a new volatile are accepted exactly if p is a process.
  pub freed_fork : step_asked r ≡ fork p c → (accepted (step_answer s r) ≡ true) ↔ (is_process ((view s).row p).kind ≡ true)
  unfolding entry process_good user_good behalf_fits meet_good every
  freed_fork e =
      let h = valid_taken s r valid good (fork p c) e (object_fork (view s) p c).0 ((object_fork (view s) p c).1 ∙ free) refl refl in
      (λ x. (h.0 x).0, λ k. h.1 (k, refl, refl))

  pub freed_volatile : step_asked r ≡ new_volatile p c → (accepted (step_answer s r) ≡ true) ↔ (is_process ((view s).row p).kind ≡ true)
  unfolding entry process_good user_good behalf_fits meet_good every
  freed_volatile e =
      let h = valid_taken s r valid good (new_volatile p c) e (object_volatile (view s) p c).0 ((object_volatile (view s) p c).1 ∙ free) refl refl in
      (λ x. (h.0 x).0, λ k. h.1 (k, refl, refl))

  -- A new file is accepted exactly if p is a process, the policy declares the user u, and p runs for nobody or for u.
  pub freed_file : (u : ℕ) → step_asked r ≡ new_file p c u → (h : History) → history_of step_on step_of (start_effect image lent) (rs ++ (q ∷ [])) ≡ h
      → (accepted (step_answer s r) ≡ true)
      ↔ ((is_process ((view s).row p).kind ≡ true) × (u < length (policy_in image).users) × ((on_behalf h p ≡ nobody) ⊎ (on_behalf h p ≡ u)))
  unfolding entry process_good user_good behalf_fits meet_good every
  freed_file u e h eh = (
    λ x. let k = taken.0 x in (k.0, declared.0 k.1, (allowed k.0).0 k.2),
    λ k. taken.1 (k.0, declared.1 k.1, (allowed k.0).1 k.2),
  )
    where
      behalf : ℕ
      behalf = ((view s).row p).behalf

      taken : (accepted (step_answer s r) ≡ true) ↔ ((is_process ((view s).row p).kind ≡ true) × (is_some ((view s).user u) ≡ true) × ((eqb behalf nobody || eqb behalf u) ≡ true))
      taken = valid_taken s r valid good (new_file p c u) e (object_file (view s) p c u).0 ((object_file (view s) p c u).1 ∙ free) refl refl

      declared : (is_some ((view s).user u) ≡ true) ↔ (u < length (policy_in image).users)
      declared = rw (← es) (declared_exactly_started image lent bytes ok (rs ++ (q ∷ [])) u)

      told : is_free ((view s).row p).kind ≡ false → behalf ≡ on_behalf h p
      told = rw (← es, ← eh) (behalf_told_started image lent bytes ok (rs ++ (q ∷ [])) p)

      allowed : is_process ((view s).row p).kind ≡ true → ((eqb behalf nobody || eqb behalf u) ≡ true) ↔ ((on_behalf h p ≡ nobody) ⊎ (on_behalf h p ≡ u))
      allowed k = rw (told (process_used ((view s).row p).kind k)) (behalf_either (on_behalf h p) u)
