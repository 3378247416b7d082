-- Rows that are 21 zeros, and the steps that leave one. Leaving states what a host gets from it.
use Prim.Native.Nat.{ℕ, ◌<◌}
use native.Mathlib.Decide.{dec_lt}
use native.Mathlib.Omega.{arith}
use mathlib.Core.Path.{◌≡◌, refl, sym, ap, ◌∙◌}
use mathlib.Core.Logic.{◌⊎◌, inl, inr, ◌↔◌}
use mathlib.Core.Bool.{true, false, cond}
use mathlib.Core.List.{List, []}
use lib.ListN.{length, replicate}
use borrow.Author.Tests.{eq-eqb}
use Rattle.lists.specs.Lists.{every}
use Rattle.lists.specs.Conditions.{first_failed}
use Rattle.lists.proofs.Bools.{clash, refuted}
use Rattle.answers.specs.Refusals.{not_declared, other_user}
use Rattle.answers.specs.Answers.{is_blocked, accepted}
use Rattle.rules.specs.Answers.{padded}
use Rattle.rule_words.specs.Words.{words_of}
use Rattle.image.specs.Limits.{container_limit, is_free, is_process, free_kinds, is_store}
use Rattle.session.specs.Limits.{session_length, row_width}
use Rattle.session.specs.Rows.{row_words, row_of, container_row_good, container_row}
use Rattle.session.specs.Session.{session_length_good}
use Rattle.chains.specs.History.{Step, read, write, append, exec, fork, new_file, new_volatile, end, delete, receiver}
use Rattle.chains.specs.Guards.{writing}
use Rattle.chains.specs.Table.{
  State,
  free_row,
  read_row,
  write_row,
  append_row,
  exec_row,
  fork_row,
  new_file_row,
  new_volatile_row,
  entry,
  process_good,
  object_good,
  kind_good,
  free_good,
  user_good,
  behalf_fits,
  meet_good,
  early_conditions,
  table_conditions,
}
use Rattle.image.proofs.KindLaws.{process_used, store_used, free_kinds_lem}
use Rattle.records.specs.Records.{record_good}
use Rattle.operations.specs.View.{view}
use Rattle.operations.specs.Effects.{user_named_good, rows_good, session_conditions}
use Rattle.operations.proofs.ViewLaws.{view_row, view_no_row}
use Rattle.operations.proofs.RowsKept.{laid_free}
use Rattle.operations.proofs.PlacedRows.{Valid}
use Rattle.monitor.specs.Steps.{step_asked, step_conditions, refusal_of, step_answer}
use Rattle.monitor.proofs.RunHistories.{record_rows}
use Rattle.monitor.proofs.Guarded.{blocked_step}
use Rattle.monitor.proofs.Theorems.{length_good, not_refused, answer_accepted}

-- ---- 21 zeros

pub free_words_lem : row_words free_row ≡ replicate row_width 0
unfolding row_words free_row words_of padded
free_words_lem = refl

zeros_good : container_row_good (replicate row_width 0) ≡ true
zeros_good = ap container_row_good (sym free_words_lem) ∙ laid_free.good

pub zeros_free : (s : List ℕ) (c : ℕ) → container_row s c ≡ replicate row_width 0 → is_free ((view s).row c).kind ≡ true
unfolding is_free row_of free_row
zeros_free s c z = by (dec_lt c container_limit)
  where
    by : Dec (c < container_limit) → is_free ((view s).row c).kind ≡ true
    by (yes l) = rw (view_row s c l, z)
    by (no n) = rw (view_no_row s c (omega arith))

-- ---- which step leaves a free row

-- one that passes 11 and 12 and is neither an end nor a delete leaves a row in use
pub free_left : (σ : State) (t : Step) → process_good σ t ≡ true → kind_good σ t ≡ true → is_free (entry σ t).row.kind ≡ true
    → (t ≡ end (receiver t)) ⊎ ((p : ℕ) × (t ≡ delete p (receiver t)))
unfolding entry process_good kind_good object_good is_store read_row write_row append_row exec_row fork_row new_file_row new_volatile_row is_free
free_left σ (read p o) hp hk f = clash f (process_used (σ.row p).kind hp)
free_left σ (write p o) hp hk f = clash f (store_used (σ.row o).kind hk)
free_left σ (append p o) hp hk f = clash f (store_used (σ.row o).kind hk)
free_left σ (exec p o u) hp hk f = clash f (process_used (σ.row p).kind hp)
free_left σ (fork p o) hp hk f = clash f (process_used (σ.row p).kind hp)
free_left σ (new_file p o u) hp hk f = clash f refl
free_left σ (new_volatile p o) hp hk f = clash f refl
free_left σ (end p) hp hk f = inl refl
free_left σ (delete p o) hp hk f = inr (p, refl)

-- an end and a delete do, at their receiver
pub left_free : (σ : State) (t : Step) (c : ℕ) → (t ≡ end c) ⊎ ((p : ℕ) × (t ≡ delete p c)) → (receiver t ≡ c) × ((entry σ t).row ≡ free_row)
unfolding entry
left_free σ t c (inl e) = rw e (refl, refl)
left_free σ t c (inr (p, e)) = rw e (refl, refl)

-- ---- what takes a free number

-- It is refused for nothing but its process, its user and on whose behalf it is made: the number passes 12 and 13, and there is
-- no meet.
module _ (s r : List ℕ) (long : length s ≡ session_length) (good : record_good r ≡ true) (p c : ℕ)
    (zeros : container_row s c ≡ replicate row_width 0) (row : container_row_good (container_row s p) ≡ true) (runs : is_process ((view s).row p).kind ≡ true) where
  pub free_taken : (t : Step) → step_asked r ≡ t → (entry (view s) t).process ≡ p → (entry (view s) t).object ≡ c → (entry (view s) t).need ≡ free_kinds
      → (entry (view s) t).meets ≡ [] → user_named_good s (entry (view s) t).user ≡ true
      → refusal_of s r ≡ cond (user_good (view s) t) (cond (behalf_fits (view s) t) 0 other_user) not_declared
  unfolding refusal_of step_conditions session_conditions table_conditions early_conditions session_length_good rows_good process_good kind_good free_good object_good meet_good every first_failed
  free_taken t e ep eo en em gu =
      rw (e, ep, eo, en, em, eq-eqb (length s) session_length long, good, row, zeros, zeros_good, gu, runs, free_kinds_lem, zeros_free s c zeros)

-- On a valid session a step that passes 12, 13 and 15 and is no write or append is left to its process, its user and on whose behalf it is made.
pub valid_taken : (s r : List ℕ) → Valid s → record_good r ≡ true → (t : Step) → step_asked r ≡ t
    → kind_good (view s) t ≡ true → free_good (view s) t ≡ true → meet_good (view s) t ≡ true → writing t ≡ false
    → (accepted (step_answer s r) ≡ true) ↔ ((process_good (view s) t ≡ true) × (user_good (view s) t ≡ true) × (behalf_fits (view s) t ≡ true))
valid_taken s r v good t e hk hf hm hw = rw (← e) (to, back)
  where
    to : accepted (step_answer s r) ≡ true → (process_good (view s) (step_asked r) ≡ true) × (user_good (view s) (step_asked r) ≡ true) × (behalf_fits (view s) (step_asked r) ≡ true)
    to a = let h = ((not_refused s r).0 ((answer_accepted s r).0 a).0).1.1.1 in (h.0, h.1.1.1.0, h.1.1.1.1.0)

    back : (process_good (view s) (step_asked r) ≡ true) × (user_good (view s) (step_asked r) ≡ true) × (behalf_fits (view s) (step_asked r) ≡ true) → accepted (step_answer s r) ≡ true
    back (hp, hu, hb) =
        (answer_accepted s r).1 (
          (not_refused s r).1
              ((length_good s).1 v.long, (good, (record_rows s v r good, (hp, (ap (kind_good (view s)) e ∙ hk, (ap (free_good (view s)) e ∙ hf, (hu, (hb, ap (meet_good (view s)) e ∙ hm)))))))),
          refuted (is_blocked (step_answer s r)) (λ b. clash (blocked_step s r b) (ap writing e ∙ hw)),
        )
