-- When a new file is refused by 18. Theorems states it of the history.
use Prim.Native.Nat.{ℕ}
use mathlib.Core.Path.{◌≡◌, refl, sym, subst, ap, ◌∙◌}
use mathlib.Core.Logic.{◌⊎◌, inl, inr, ⊎_elim, ◌↔◌, ◌≢◌}
use mathlib.Core.Bool.{Bool, true, false, ◌||◌}
use lib.Dec.{eqb}
use borrow.Author.Tests.{eqb-true, eq-eqb, ne_eqb}
use Rattle.lists.proofs.Bools.{clash, or_0, or_1, or_cases}
use Rattle.lists.proofs.Places.{some_inj}
use Rattle.image.specs.Limits.{is_process}
use Rattle.session.specs.Limits.{nobody}
use Rattle.chains.specs.History.{Step, read, write, append, exec, fork, new_file, new_volatile, end, delete}
use Rattle.chains.specs.Table.{State, entry, process_good, behalf_fits}

-- the step makes a file for a user other than that of its process, which has one
abbrev pub Other : (ℕ → ℕ) → Step → Type 0
Other behalf t = (p : ℕ) × (o : ℕ) × (u : ℕ) × (t ≡ new_file p o u) × (behalf p ≢ nobody) × (behalf p ≢ u)

abbrev is_new_file : Step → Bool
is_new_file (read p o) = false
is_new_file (write p o) = false
is_new_file (append p o) = false
is_new_file (exec p o u) = false
is_new_file (fork p o) = false
is_new_file (new_file p o u) = true
is_new_file (new_volatile p o) = false
is_new_file (end p) = false
is_new_file (delete p o) = false

-- a number that 18 lets pass for the user u
pub behalf_either : (b u : ℕ) → ((eqb b nobody || eqb b u) ≡ true) ↔ ((b ≡ nobody) ⊎ (b ≡ u))
behalf_either b u = (
  λ e. ⊎_elim (λ z. inl (eqb-true b nobody z)) (λ z. inr (eqb-true b u z)) (or_cases (eqb b nobody) e),
  λ x. ⊎_elim (λ z. or_0 (eqb b nobody) (eqb b u) (eq-eqb b nobody z)) (λ z. or_1 (eqb b nobody) (eqb b u) (eq-eqb b u z)) x,
)

module _ (σ : State) where
  abbrev pub behalf : ℕ → ℕ
  behalf p = (σ.row p).behalf

  both : (b u : ℕ) → (eqb b nobody || eqb b u) ≡ false → (b ≢ nobody) × (b ≢ u)
  both b u e = (
    λ z. clash (or_0 (eqb b nobody) (eqb b u) (eq-eqb b nobody z)) e,
    λ z. clash (or_1 (eqb b nobody) (eqb b u) (eq-eqb b u z)) e,
  )

  none_other : (t : Step) → is_new_file t ≡ false → ¬ Other behalf t
  none_other t f (p, o, u, e, ne, nu) = clash (ap is_new_file e) f

  pub behalf_fails : (t : Step) → (behalf_fits σ t ≡ false) ↔ Other behalf t
  unfolding behalf_fits entry
  behalf_fails (read p o) = (λ e. clash refl e, λ x. absurd (none_other (read p o) refl x))
  behalf_fails (write p o) = (λ e. clash refl e, λ x. absurd (none_other (write p o) refl x))
  behalf_fails (append p o) = (λ e. clash refl e, λ x. absurd (none_other (append p o) refl x))
  behalf_fails (exec p o u) = (λ e. clash refl e, λ x. absurd (none_other (exec p o u) refl x))
  behalf_fails (fork p o) = (λ e. clash refl e, λ x. absurd (none_other (fork p o) refl x))
  behalf_fails (new_file p o u) = (λ e. (p, o, u, refl, (both (σ.row p).behalf u e).0, (both (σ.row p).behalf u e).1), back)
    where
      back : Other behalf (new_file p o u) → (eqb (σ.row p).behalf nobody || eqb (σ.row p).behalf u) ≡ false
      back (q, r, v, e, ne, nu) =
          let ep : q ≡ p = sym (ap (λ (t : Step). (entry σ t).process) e) in
          let eu : v ≡ u = sym (some_inj (ap (λ (t : Step). (entry σ t).user) e)) in
          let some : (σ.row p).behalf ≢ nobody = subst (λ (x : ℕ). (σ.row x).behalf ≢ nobody) ep ne in
          let other : (σ.row p).behalf ≢ v = subst (λ (x : ℕ). (σ.row x).behalf ≢ v) ep nu in
          rw (ne_eqb (σ.row p).behalf nobody some, ne_eqb (σ.row p).behalf u (subst (λ (x : ℕ). (σ.row p).behalf ≢ x) eu other))
  behalf_fails (new_volatile p o) = (λ e. clash refl e, λ x. absurd (none_other (new_volatile p o) refl x))
  behalf_fails (end p) = (λ e. clash refl e, λ x. absurd (none_other (end p) refl x))
  behalf_fails (delete p o) = (λ e. clash refl e, λ x. absurd (none_other (delete p o) refl x))

-- the same by other numbers that agree on the process of the step
pub other_same : (f g : ℕ → ℕ) (t : Step) → ((p o u : ℕ) → t ≡ new_file p o u → f p ≡ g p) → Other f t → Other g t
other_same f g t h (p, o, u, e, ne, nu) = (p, o, u, e, (λ z. ne (h p o u e ∙ z)), (λ z. nu (h p o u e ∙ z)))

-- the process of a new file is one
pub process_named : (σ : State) (p o u : ℕ) → process_good σ (new_file p o u) ≡ true → is_process (σ.row p).kind ≡ true
unfolding process_good entry
process_named σ p o u h = h
