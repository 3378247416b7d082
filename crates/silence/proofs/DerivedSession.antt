-- The session that the derived policy starts, and the records that spell allowed steps.
use Prim.Native.Nat.{ℕ, ◌+◌, ◌<◌}
use native.Mathlib.Omega.{arith}
use mathlib.Core.Path.{◌≡◌, refl, sym, subst, ap, ◌∙◌}
use mathlib.Core.Bool.{true, false}
use mathlib.Core.List.{List, [], ◌∷◌, ◌++◌}
use mathlib.Core.Option.{Option, some}
use lib.ListN.{length, get_or}
use Rattle.lists.specs.Conditions.{first_failed}
use Rattle.lists.proofs.Places.{some_inj}
use Rattle.answers.specs.declared.Answer.{Answer}
use Rattle.answers.specs.Answers.{is_refused}
use Rattle.image.specs.Policy.{Policy, Sound}
use Rattle.image.specs.Image.{policy_in}
use Rattle.image.specs.Normal.{owned, normal_policy}
use Rattle.image.proofs.WrittenOwners.{owned_ownable, policy_sound}
use Rattle.session.specs.Session.{start_of}
use Rattle.matrix.specs.Flows.{has, matrix_good}
use Rattle.matrix.proofs.GoodLaws.{Good, good_parts}
use Rattle.derivation.specs.Derived.{derived_policy, derived_image}
use Rattle.derivation.proofs.Theorems.{derived_read, derived_sound}
use Rattle.chains.specs.History.{Step, read, write, append, exec, fork, new_file, new_volatile, end, delete}
use Rattle.chains.specs.Demand.{judged, Demand3}
use Rattle.chains.specs.Table.{State, entry, table_conditions, begin, operate}
use Rattle.chains.proofs.TableStates.{operate_done}
use Rattle.chains.proofs.ThreeAnswers.{verdict_given}
use Rattle.chains.proofs.Theorems as chains
use Rattle.records.specs.Records.{step_of}
use Rattle.operations.specs.View.{view}
use Rattle.operations.proofs.PlacedRows.{Valid}
use Rattle.monitor.specs.Runs.{step_on}
use Rattle.monitor.proofs.StepLaws.{faithful}
use Rattle.monitor.proofs.StartView.{start_valid, start_view}
use Rattle.silence.specs.Sessions.{Allowed, may_read, may_write, may_append, AllAllowed}
use Rattle.silence.proofs.HeldSources.{Holding}
use Rattle.silence.proofs.GatherLaws.{Owning}
use Rattle.silence.proofs.DerivedStart.{begin_holding, begin_owning}
use Rattle.silence.proofs.AllowedRecords.{low_record, read_spelled, write_spelled, append_spelled}

-- what the conditions of the table let through is not refused
pub table_gives : (σ : State) (s t : Step) → some s ≡ some t → first_failed (table_conditions σ t) ≡ 0 → is_refused (operate σ s).1 ≡ false
table_gives σ s t e z =
    let q : first_failed (table_conditions σ s) ≡ 0 = subst (λ (u : Step). first_failed (table_conditions σ u) ≡ 0) (sym (some_inj e)) z in
    ap (λ (x : State × Answer). is_refused x.1) (operate_done σ s q) ∙ verdict_given s (entry σ s).row

-- the last record of a list of allowed ones is allowed
pub allowed_last : {R : Type 0} (spelt : R → Option Step) (reads writes : List ℕ) (objects : ℕ) (rs : List R) (r : R)
    → AllAllowed spelt reads writes objects (rs ++ (r ∷ [])) → (t : Step) × (spelt r ≡ some t) × Allowed reads writes objects t
allowed_last spelt reads writes objects [] r (a, A) = a
allowed_last spelt reads writes objects (q ∷ rs) r (a, A) = allowed_last spelt reads writes objects rs r A

-- what an allowed step asks: the right of the subject to the object, a write right for writes and appends; no other step is allowed
abbrev pub RightTo : List ℕ → ℕ → ℕ → ℕ → ℕ → Type 0
RightTo rows subjects objects p k = (s : ℕ) × (p ≡ objects + s) × (s < subjects) × (k < objects) × (has (get_or rows s 0) k ≡ true)

abbrev pub Rights : List ℕ → List ℕ → ℕ → Step → Type 0
Rights reads writes objects (read p o) = RightTo reads (length reads) objects p o
Rights reads writes objects (write p o) = RightTo writes (length reads) objects p o
Rights reads writes objects (append p o) = RightTo writes (length reads) objects p o
Rights reads writes objects (exec p o u) = ⊥
Rights reads writes objects (fork p o) = ⊥
Rights reads writes objects (new_file p o u) = ⊥
Rights reads writes objects (new_volatile p o) = ⊥
Rights reads writes objects (end p) = ⊥
Rights reads writes objects (delete p o) = ⊥

pub allowed_rights : (reads writes : List ℕ) (objects : ℕ) (t : Step) → Allowed reads writes objects t → Rights reads writes objects t
allowed_rights reads writes objects (read p o) (may_read {s} {k} l m h) = (s, refl, l, m, h)
allowed_rights reads writes objects (write p o) (may_write {s} {k} l m h) = (s, refl, l, m, h)
allowed_rights reads writes objects (append p o) (may_append {s} {k} l m h) = (s, refl, l, m, h)
allowed_rights reads writes objects (fork p o) h = elim h [ ]
allowed_rights reads writes objects (new_volatile p o) h = elim h [ ]
allowed_rights reads writes objects (delete p o) h = elim h [ ]
allowed_rights reads writes objects (exec p o u) h = elim h [ ]
allowed_rights reads writes objects (new_file p o u) h = elim h [ ]
allowed_rights reads writes objects (end p) h = elim h [ ]

-- the subject's number tells the subject
pub right_of : (rows : List ℕ) (subjects objects s k : ℕ) → RightTo rows subjects objects (objects + s) k → has (get_or rows s 0) k ≡ true
right_of rows subjects objects s k (i, e, l, m, h) =
    let q : i ≡ s = omega (arith, e) in
    subst (λ (x : ℕ). has (get_or rows x 0) k ≡ true) q h

-- each is judged
pub allowed_judged : (reads writes : List ℕ) (objects : ℕ) (t : Step) → Allowed reads writes objects t → judged t ≡ true
allowed_judged reads writes objects (read p o) (may_read l m h) = refl
allowed_judged reads writes objects (write p o) (may_write l m h) = refl
allowed_judged reads writes objects (append p o) (may_append l m h) = refl
allowed_judged reads writes objects (fork p o) h = elim h [ ]
allowed_judged reads writes objects (new_volatile p o) h = elim h [ ]
allowed_judged reads writes objects (delete p o) h = elim h [ ]
allowed_judged reads writes objects (exec p o u) h = elim h [ ]
allowed_judged reads writes objects (new_file p o u) h = elim h [ ]
allowed_judged reads writes objects (end p) h = elim h [ ]

module _ (reads writes : List ℕ) (objects : ℕ) (good : matrix_good reads writes objects ≡ true) where
  pub g : Good reads writes objects
  g = good_parts reads writes objects good

  abbrev pub P : Policy
  P = policy_in (derived_image reads writes objects)

  P_is : P ≡ normal_policy (derived_policy reads writes objects)
  P_is = (derived_read reads writes objects good).1

  P_sound : Sound P
  P_sound =
      subst Sound (sym P_is)
      (unfold normal_policy in
      policy_sound (owned (derived_policy reads writes objects))
      (owned_ownable (derived_policy reads writes objects) (derived_sound reads writes objects good)))

  pub valid : Valid (start_of P)
  valid = start_valid P P_sound

  pub begun_holding : Holding reads writes objects (begin P)
  begun_holding = subst (λ (q : Policy). Holding reads writes objects (begin q)) (sym P_is) (begin_holding reads writes objects g)

  pub begun_owning : Owning reads writes objects g.even g.few (begin P)
  begun_owning = subst (λ (q : Policy). Owning reads writes objects g.even g.few (begin q)) (sym P_is) (begin_owning reads writes objects g)

  pub holding : Holding reads writes objects (view (start_of P))
  holding = subst (Holding reads writes objects) (sym (start_view P P_sound)) begun_holding

  pub owning : Owning reads writes objects g.even g.few (view (start_of P))
  owning = subst (Owning reads writes objects g.even g.few) (sym (start_view P P_sound)) begun_owning

  pub derived_demand : Demand3 step_on step_of (start_of P) P
  derived_demand = chains.demand3 step_on step_of view Valid faithful P P_sound (start_of P) valid (start_view P P_sound)

  pub spell : (t : Step) → Allowed reads writes objects t → (r : List ℕ) × (step_of r ≡ some t)
  spell (read p o) (may_read {s} {k} l m h) = (low_record 1 (objects + s) k, read_spelled (objects + s) k (omega (arith, l, g.few, g.subjects)) (omega (arith, m, g.few)))
  spell (write p o) (may_write {s} {k} l m h) = (low_record 2 (objects + s) k, write_spelled (objects + s) k (omega (arith, l, g.few, g.subjects)) (omega (arith, m, g.few)))
  spell (append p o) (may_append {s} {k} l m h) = (low_record 3 (objects + s) k, append_spelled (objects + s) k (omega (arith, l, g.few, g.subjects)) (omega (arith, m, g.few)))
  spell (fork p o) h = elim h [ ]
  spell (new_volatile p o) h = elim h [ ]
  spell (delete p o) h = elim h [ ]
  spell (exec p o u) h = elim h [ ]
  spell (new_file p o u) h = elim h [ ]
  spell (end p) h = elim h [ ]
