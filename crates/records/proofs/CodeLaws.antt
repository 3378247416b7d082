-- A request has one of the codes: what holds of each of them holds of all. What the table says of a code, whatever the rows.
use Prim.Native.Nat.{ℕ, zero, suc, ◌≤◌, ◌<◌}
use native.Mathlib.Omega.{arith}
use native.Mathlib.Decide.{ℕ_discrete}
use mathlib.Core.Path.{◌≡◌, refl, sym, ap}
use mathlib.Core.Logic.{◌⊎◌, inl, inr}
use mathlib.Core.Bool.{true, false, cond, ◌||◌}
use mathlib.Core.List.{List, [], ◌∷◌}
use mathlib.Core.Option.{none, some}
use lib.Dec.{eqb}
use lib.ListN.{get_or}
use Rattle.lists.proofs.Bools.{clash}
use Rattle.image.specs.Limits.{no_kinds, free_kinds, file_kinds, store_kinds, process_kinds, container_limit}
use Rattle.session.specs.Limits.{nobody}
use Rattle.chains.specs.History.{read, write, append, exec, fork, new_file, new_volatile, end, delete, receiver}
use Rattle.chains.specs.Table.{State, entry, behalf_fits}
use Rattle.records.specs.declared.Code.{Code}
use Rattle.records.specs.declared.Request.{Request}
use Rattle.records.specs.Codes.{read_code, write_code, append_code, exec_code, fork_code, new_file_code, new_volatile_code, end_code, delete_code, code_count, step_with, no_rows, code_at}
use Rattle.records.specs.Records.{step_in, Asked}

abbrev pub request : ℕ → ℕ → ℕ → ℕ → Request
request n p o u = record { code = n; p = p; o = o; u = u }

-- ---- code by code

module _ (P : Request → Type 0) (reads : (p o u : ℕ) → P (request read_code p o u)) (writes : (p o u : ℕ) → P (request write_code p o u))
    (appends : (p o u : ℕ) → P (request append_code p o u)) (execs : (p o u : ℕ) → P (request exec_code p o u)) (forks : (p o u : ℕ) → P (request fork_code p o u))
    (files : (p o u : ℕ) → P (request new_file_code p o u)) (volatiles : (p o u : ℕ) → P (request new_volatile_code p o u))
    (ends : (p o u : ℕ) → P (request end_code p o u)) (deletes : (p o u : ℕ) → P (request delete_code p o u)) where
  at_code : (n p o u : ℕ) → 1 ≤ n → n < code_count → P (request n p o u)
  at_code zero p o u low high = absurd (omega arith)
  at_code (suc zero) p o u low high = reads p o u
  at_code (suc (suc zero)) p o u low high = writes p o u
  at_code (suc (suc (suc zero))) p o u low high = appends p o u
  at_code (suc (suc (suc (suc zero)))) p o u low high = execs p o u
  at_code (suc (suc (suc (suc (suc zero))))) p o u low high = forks p o u
  at_code (suc (suc (suc (suc (suc (suc zero)))))) p o u low high = files p o u
  at_code (suc (suc (suc (suc (suc (suc (suc zero))))))) p o u low high = volatiles p o u
  at_code (suc (suc (suc (suc (suc (suc (suc (suc zero)))))))) p o u low high = ends p o u
  at_code (suc (suc (suc (suc (suc (suc (suc (suc (suc zero))))))))) p o u low high = deletes p o u
  at_code (suc (suc (suc (suc (suc (suc (suc (suc (suc (suc n)))))))))) p o u low high = absurd (omega arith)

  pub by_code : (q : Request) → 1 ≤ q.code → q.code < code_count → P q
  by_code q low high = at_code q.code q.p q.o q.u low high

-- ---- what the table says of the step of a request

-- it names p and o, and u if the code names a user; what it needs is the code's
pub record Entered (σ : State) (q : Request) : Type 0 where
  pub process : (entry σ (step_in q)).process ≡ q.p
  pub object : (entry σ (step_in q)).object ≡ q.o
  pub user : (entry σ (step_in q)).user ≡ cond (code_at q.code).user (some q.u) none
  pub need : (code_at q.code).object ≡ (entry σ (step_in q)).need

pub entered : (σ : State) (q : Request) → Asked q → Entered σ q
unfolding step_in step_with entry code_at no_rows
entered σ q a =
    by_code (λ q. (q.code ≡ end_code → q.o ≡ q.p) → Entered σ q)
    (λ p o u own. record { process = refl; object = refl; user = refl; need = refl })
    (λ p o u own. record { process = refl; object = refl; user = refl; need = refl })
    (λ p o u own. record { process = refl; object = refl; user = refl; need = refl })
    (λ p o u own. record { process = refl; object = refl; user = refl; need = refl })
    (λ p o u own. record { process = refl; object = refl; user = refl; need = refl })
    (λ p o u own. record { process = refl; object = refl; user = refl; need = refl })
    (λ p o u own. record { process = refl; object = refl; user = refl; need = refl })
    (λ p o u own. record { process = refl; object = sym (own refl); user = refl; need = refl })
    (λ p o u own. record { process = refl; object = refl; user = refl; need = refl })
    q a.code_low a.code_high a.own

-- the codes that name a user
pub names_exec : (n : ℕ) → n ≡ exec_code → true ≡ (code_at n).user
unfolding code_at step_with entry no_rows
names_exec n e = rw e

pub names_other : (n : ℕ) → 1 ≤ n → n < code_count → (n ≡ exec_code → ⊥) → eqb n new_file_code ≡ (code_at n).user
unfolding code_at step_with entry no_rows
names_other n low high ne =
    by_code (λ q. (q.code ≡ exec_code → ⊥) → eqb q.code new_file_code ≡ (code_at q.code).user)
    (λ p o u n. refl) (λ p o u n. refl) (λ p o u n. refl) (λ p o u n. absurd (n refl)) (λ p o u n. refl) (λ p o u n. refl) (λ p o u n. refl) (λ p o u n. refl) (λ p o u n. refl)
    (request n 0 0 0) low high ne

-- what 18 asks: nothing unless the code is that of a new file
pub behalf_other : (σ : State) (q : Request) → Asked q → (q.code ≡ new_file_code → ⊥) → behalf_fits σ (step_in q) ≡ true
unfolding step_in step_with behalf_fits
behalf_other σ q a ne =
    by_code (λ q. (q.code ≡ new_file_code → ⊥) → behalf_fits σ (step_in q) ≡ true)
    (λ p o u n. refl) (λ p o u n. refl) (λ p o u n. refl) (λ p o u n. refl) (λ p o u n. refl) (λ p o u n. absurd (n refl)) (λ p o u n. refl) (λ p o u n. refl) (λ p o u n. refl)
    q a.code_low a.code_high ne

pub behalf_file : (σ : State) (q : Request) → q.code ≡ new_file_code → behalf_fits σ (step_in q) ≡ (eqb (σ.row q.p).behalf nobody || eqb (σ.row q.p).behalf q.u)
unfolding step_in step_with behalf_fits
behalf_file σ q e = rw e

-- the code of a new file names a user
pub unnamed_other : (q : Request) → (code_at q.code).user ≡ false → q.code ≡ new_file_code → ⊥
unfolding code_at step_with entry no_rows
unnamed_other q f e = clash (ap (λ (n : ℕ). (code_at n).user) e) f

-- the receiver is p or o
pub receiver_bound : (q : Request) → Asked q → receiver (step_in q) < container_limit
unfolding step_in step_with
receiver_bound q a =
    by_code (λ q. q.p < container_limit → q.o < container_limit → receiver (step_in q) < container_limit)
    (λ p o u hp ho. hp) (λ p o u hp ho. ho) (λ p o u hp ho. ho) (λ p o u hp ho. hp) (λ p o u hp ho. ho) (λ p o u hp ho. ho) (λ p o u hp ho. ho)
    (λ p o u hp ho. hp) (λ p o u hp ho. ho) q a.code_low a.code_high a.process a.object

-- ---- the step of a request, by its code

module _ (q : Request) where
  pub step_read : q.code ≡ read_code → step_in q ≡ read q.p q.o
  unfolding step_in step_with
  step_read e = rw e

  pub step_write : q.code ≡ write_code → step_in q ≡ write q.p q.o
  unfolding step_in step_with
  step_write e = rw e

  pub step_append : q.code ≡ append_code → step_in q ≡ append q.p q.o
  unfolding step_in step_with
  step_append e = rw e

  pub step_exec : q.code ≡ exec_code → step_in q ≡ exec q.p q.o q.u
  unfolding step_in step_with
  step_exec e = rw e

  pub step_fork : q.code ≡ fork_code → step_in q ≡ fork q.p q.o
  unfolding step_in step_with
  step_fork e = rw e

  pub step_file : q.code ≡ new_file_code → step_in q ≡ new_file q.p q.o q.u
  unfolding step_in step_with
  step_file e = rw e

  pub step_volatile : q.code ≡ new_volatile_code → step_in q ≡ new_volatile q.p q.o
  unfolding step_in step_with
  step_volatile e = rw e

  -- the codes that are none of the first seven
  pub step_leaves : Asked q → (q.code ≡ read_code → ⊥) → (q.code ≡ write_code → ⊥) → (q.code ≡ append_code → ⊥) → (q.code ≡ exec_code → ⊥)
      → (q.code ≡ fork_code → ⊥) → (q.code ≡ new_file_code → ⊥) → (q.code ≡ new_volatile_code → ⊥)
      → (step_in q ≡ end q.o) ⊎ (step_in q ≡ delete q.p q.o)
  unfolding step_in step_with
  step_leaves a h1 h2 h3 h4 h5 h6 h7 = by (ℕ_discrete q.code end_code)
    where
      above : {n k : ℕ} → k ≤ n → (n ≡ k → ⊥) → suc k ≤ n
      above l ne = omega (arith, l, ne)

      late : end_code ≤ q.code
      late = above (above (above (above (above (above (above a.code_low h1) h2) h3) h4) h5) h6) h7

      by : Dec (q.code ≡ end_code) → (step_with q.code q.p q.o q.u ≡ end q.o) ⊎ (step_with q.code q.p q.o q.u ≡ delete q.p q.o)
      by (yes e) = inl (rw (a.own e, e))
      by (no n) = let e : q.code ≡ delete_code = omega (arith, a.code_high, above late n) in inr (rw e)

-- ---- the table as the code has it

abbrev pub rows : List Code
rows =
    record { object = no_kinds; user = false }
    ∷ record { object = store_kinds; user = false }
    ∷ record { object = store_kinds; user = false }
    ∷ record { object = store_kinds; user = false }
    ∷ record { object = file_kinds; user = true }
    ∷ record { object = free_kinds; user = false }
    ∷ record { object = free_kinds; user = true }
    ∷ record { object = free_kinds; user = false }
    ∷ record { object = process_kinds; user = false }
    ∷ record { object = store_kinds; user = false }
    ∷ []

pub row_at : (n : ℕ) (z : Code) → 1 ≤ n → n < code_count → get_or rows n z ≡ code_at n
unfolding code_at step_with entry no_rows
row_at n z low high =
    by_code (λ q. get_or rows q.code z ≡ code_at q.code)
    (λ p o u. refl) (λ p o u. refl) (λ p o u. refl) (λ p o u. refl) (λ p o u. refl) (λ p o u. refl) (λ p o u. refl) (λ p o u. refl) (λ p o u. refl) (request n 0 0 0) low high
