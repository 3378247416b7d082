-- The users of a session, over a run: their rows stay, and a user that a row records is declared.
use Prim.Native.Nat.{ℕ}
use mathlib.Core.Path.{◌≡◌, refl, sym, subst, ap, ◌∙◌}
use mathlib.Core.Logic.{◌⊎◌, inl, inr, ⊎_elim, ◌≢◌}
use mathlib.Core.Bool.{Bool, true, false, cond}
use mathlib.Core.List.{List, [], ◌∷◌}
use mathlib.Core.Option.{Option, none, some}
use lib.Dec.{eqb}
use lib.ListN.{get_elem?}
use Rattle.lists.specs.Conditions.{first_failed}
use Rattle.lists.proofs.Bools.{clash, decide}
use Rattle.answers.specs.declared.Answer.{Answer}
use Rattle.answers.specs.Answers.{is_refused}
use Rattle.image.specs.Limits.{is_free}
use Rattle.image.specs.Policy.{Policy, Sound}
use Rattle.image.specs.Normal.{Place, meaning}
use Rattle.session.specs.Limits.{nobody}
use Rattle.session.specs.Rows.{Row}
use Rattle.session.specs.Session.{start_row, start_of}
use Rattle.chains.specs.History.{Step, read, write, append, exec, fork, new_file, new_volatile, end, delete, receiver}
use Rattle.chains.specs.Table.{State, free_row, read_row, write_row, append_row, exec_row, fork_row, new_file_row, new_volatile_row, entry, is_some}
use Rattle.chains.specs.Table.{process_good, user_good, table_conditions, blocks, placed, left, operate, start_row_of, begin}
use Rattle.chains.proofs.TableStates.{Passed, passed, operate_done, operate_given}
use Rattle.chains.proofs.ThreeAnswers.{left_put, left_blocked}
use Rattle.records.specs.Records.{step_of}
use Rattle.operations.specs.View.{view}
use Rattle.operations.proofs.PlacedRows.{Valid}
use Rattle.monitor.specs.Runs.{step_on, run_effect}
use Rattle.monitor.proofs.StepLaws.{faithful}
use Rattle.monitor.proofs.StartView.{start_valid, start_view}

-- the user that a row in use records, if it is not nobody, has a rule
abbrev pub Recorded : (ℕ → Option (List ℕ)) → Row → Type 0
Recorded user w = is_free w.kind ≡ false → w.behalf ≢ nobody → is_some (user w.behalf) ≡ true

-- so of each row
abbrev pub AllRecorded : State → Type 0
AllRecorded σ = (c : ℕ) → Recorded σ.user (σ.row c)

-- ---- the start

start_recorded : (user : ℕ → Option (List ℕ)) (m : Option Place) → Recorded user (start_row_of m)
unfolding free_row is_free start_row
start_recorded user none f n = clash refl f
start_recorded user (some K) f n = absurd (n refl)

begin_recorded : (P : Policy) → AllRecorded (begin P)
unfolding begin
begin_recorded P c = start_recorded (λ u. get_elem? (meaning P).users u) (get_elem? (meaning P).places c)

-- ---- one step, and a run

-- the row of the table, by its clauses: 14 is what an exec has passed
entry_recorded : (σ : State) → AllRecorded σ → (t : Step) → Passed σ t → Recorded σ.user (entry σ t).row
unfolding entry read_row write_row append_row exec_row fork_row new_file_row new_volatile_row free_row is_free process_good user_good
entry_recorded σ I (read p o) g f n = I p f n
entry_recorded σ I (write p o) g f n = I o f n
entry_recorded σ I (append p o) g f n = I o f n
entry_recorded σ I (exec p o u) g f n = g.user
entry_recorded σ I (fork p o) g f n = I p f n
entry_recorded σ I (new_file p o u) g f n = absurd (n refl)
entry_recorded σ I (new_volatile p o) g f n = absurd (n refl)
entry_recorded σ I (end p) g f n = clash refl f
entry_recorded σ I (delete p o) g f n = clash refl f

placed_recorded : (σ : State) → AllRecorded σ → (c : ℕ) (w : Row) → Recorded σ.user w → AllRecorded (placed σ c w)
unfolding placed
placed_recorded σ I c w W d = at (eqb d c)
  where
    at : (b : Bool) → Recorded σ.user (cond b w (σ.row d))
    at true = W
    at false = I d

-- the users that a state declares, and what its rows record
pub record Users (user : ℕ → Option (List ℕ)) (σ : State) : Type 0 where
  pub stay : σ.user ≡ user
  pub named : AllRecorded σ

-- blocked, or with the row of the table
left_users : (user : ℕ → Option (List ℕ)) (σ : State) → Users user σ → (t : Step) (w : Row) → Recorded σ.user w → Users user (left σ t w)
unfolding placed
left_users user σ U t w W =
    ⊎_elim (λ b. subst (Users user) (sym (left_blocked t w σ b)) U)
    (λ b. subst (Users user) (sym (left_put t w σ b)) (record { stay = U.stay; named = placed_recorded σ U.named (receiver t) w W }))
    (decide (blocks t w))

operate_users : (user : ℕ → Option (List ℕ)) (σ : State) → Users user σ → (t : Step) → is_refused (operate σ t).1 ≡ false → Users user (operate σ t).0
operate_users user σ U t a =
    let e : first_failed (table_conditions σ t) ≡ 0 = operate_given σ t a in
    subst (λ (x : State × Answer). Users user x.0) (sym (operate_done σ t e))
    (left_users user σ U t (entry σ t).row (entry_recorded σ U.named t (passed σ t e)))

step_users : (user : ℕ → Option (List ℕ)) (s : List ℕ) → Valid s → Users user (view s) → (r : List ℕ) → Users user (view (step_on s r).0)
step_users user s v U r = by (decide (is_refused (step_on s r).1))
  where
    by : (is_refused (step_on s r).1 ≡ true) ⊎ (is_refused (step_on s r).1 ≡ false) → Users user (view (step_on s r).0)
    by (inl e) = subst (Users user) (sym (faithful.refusing s r v e)) U
    by (inr e) =
        let f : (t : Step) × (step_of r ≡ some t) × (view (step_on s r).0 ≡ (operate (view s) t).0) × ((step_on s r).1 ≡ (operate (view s) t).1) = faithful.answering s r v e in
        subst (Users user) (sym f.2) (operate_users user (view s) U f.0 (ap is_refused (sym f.3) ∙ e))

run_users : (user : ℕ → Option (List ℕ)) (s : List ℕ) → Valid s → Users user (view s) → (rs : List (List ℕ)) → Users user (view (run_effect s rs))
unfolding run_effect
run_users user s v U [] = U
run_users user s v U (r ∷ rs) = run_users user (step_on s r).0 (faithful.stays s r v) (step_users user s v U r) rs

-- of every session reached from a start
pub reached_recorded : (P : Policy) → Sound P → (rs : List (List ℕ)) → Users (begin P).user (view (run_effect (start_of P) rs))
reached_recorded P ok rs =
    run_users (begin P).user (start_of P) (start_valid P ok)
    (subst (Users (begin P).user) (sym (start_view P ok)) (record { stay = refl; named = begin_recorded P })) rs
