-- The rules of the origin are the rules that govern; a certificate shows that an alert is right, and each alert has one.
use Prim.Native.Nat.{ℕ, ◌<◌}
use native.Mathlib.Omega.{arith}
use mathlib.Core.Path.{◌≡◌, refl, sym, subst, ap}
use mathlib.Core.Bool.{Bool, true, false, cond}
use mathlib.Core.List.{List}
use mathlib.Core.Logic.{◌⊎◌, inl, inr, ◌↔◌, ◌≢◌}
use lib.Dec.{eqb}
use borrow.Author.Tests.{eqb-true, eqb-false, eq-eqb, ne_eqb}
use Rattle.image.specs.Policy.{Policy}
use Rattle.chains.specs.History.{Step, read, write, append, exec, fork, new_file, new_volatile, end, delete, History, start, ◌▸◌, step_count}
use Rattle.chains.specs.Chains.{UserRule, run_rule, Chain, Governs, Forbidden}
use Rattle.certificate.specs.Origins.{Origin, own, made, started, nowhere, origin, before, From, Certificate}

-- ---- the history before a step

pub before_last : (h : History) (s : Step) → before (step_count h) (h ▸ s) ≡ h
unfolding before
before_last h s = ap (λ (b : Bool). cond b h (before (step_count h) h)) (eq-eqb (step_count h) (step_count h) refl)

pub before_earlier : (i : ℕ) (h : History) (s : Step) → i < step_count h → before i (h ▸ s) ≡ before i h
unfolding before
before_earlier i h s l = ap (λ (b : Bool). cond b h (before i h)) (ne_eqb i (step_count h) (λ e. absurd (omega arith)))

pub before_size : (i : ℕ) (h : History) → i < step_count h → step_count (before i h) ≡ i
unfolding before
before_size i start l = absurd (omega arith)
before_size i (h ▸ s) l = on (eqb i (step_count h)) refl (λ m. before_size i h m)
  where
    on : (b : Bool) → eqb i (step_count h) ≡ b → (i < step_count h → step_count (before i h) ≡ i) → step_count (cond b h (before i h)) ≡ i
    on true e ih = sym (eqb-true i (step_count h) e)
    on false e ih = let d = eqb-false i (step_count h) e in ih (omega arith)

-- the exec of an origin lies in the history
abbrev pub Inside : History → Origin → Type 0
Inside h (own c) = Unit {0}
Inside h (made i u) = i < step_count h
Inside h (started i o u) = i < step_count h
Inside h nowhere = Unit {0}

inside_more : (h : History) (s : Step) (a : Origin) → Inside h a → Inside (h ▸ s) a
inside_more h s (own c) l = tt
inside_more h s (made i u) l = omega arith
inside_more h s (started i o u) l = omega arith
inside_more h s nowhere l = tt

inside_cond : (h : History) (b : Bool) (x y : Origin) → Inside h x → Inside h y → Inside h (cond b x y)
inside_cond h true x y p q = p
inside_cond h false x y p q = q

pub inside : (h : History) (c : ℕ) → Inside h (origin h c)
unfolding origin
inside start c = tt
inside (h ▸ read p o) c = inside_more h (read p o) (origin h c) (inside h c)
inside (h ▸ write p o) c = inside_more h (write p o) (origin h c) (inside h c)
inside (h ▸ append p o) c = inside_more h (append p o) (origin h c) (inside h c)
inside (h ▸ exec p o u) c = inside_cond (h ▸ exec p o u) (eqb c p) (started (step_count h) o u) (origin h c) (omega arith) (inside_more h (exec p o u) (origin h c) (inside h c))
inside (h ▸ fork p o) c = inside_cond (h ▸ fork p o) (eqb c o) (origin h p) (origin h c) (inside_more h (fork p o) (origin h p) (inside h p)) (inside_more h (fork p o) (origin h c) (inside h c))
inside (h ▸ new_file p o u) c = inside_cond (h ▸ new_file p o u) (eqb c o) (made (step_count h) u) (origin h c) (omega arith) (inside_more h (new_file p o u) (origin h c) (inside h c))
inside (h ▸ new_volatile p o) c = inside_cond (h ▸ new_volatile p o) (eqb c o) nowhere (origin h c) tt (inside_more h (new_volatile p o) (origin h c) (inside h c))
inside (h ▸ end p) c = inside_cond (h ▸ end p) (eqb c p) nowhere (origin h c) tt (inside_more h (end p) (origin h c) (inside h c))
inside (h ▸ delete p o) c = inside_cond (h ▸ delete p o) (eqb c o) nowhere (origin h c) tt (inside_more h (delete p o) (origin h c) (inside h c))

module _ (P : Policy) where
  -- the rules of an earlier origin stay the same
  from_more : (h : History) (s : Step) (a : Origin) (r : List ℕ) → Inside h a → From P (h ▸ s) a r ↔ From P h a r
  from_more h s (own c) r l = (λ x. x, λ x. x)
  from_more h s (made i u) r l = (λ x. x, λ x. x)
  from_more h s (started i o u) r l = (to, back)
    where
      e : before i (h ▸ s) ≡ before i h
      e = before_earlier i h s l

      to : UserRule P u r ⊎ Chain P (before i (h ▸ s)) (run_rule r) o → UserRule P u r ⊎ Chain P (before i h) (run_rule r) o
      to (inl x) = inl x
      to (inr x) = inr (subst (λ (z : History). Chain P z (run_rule r) o) e x)

      back : UserRule P u r ⊎ Chain P (before i h) (run_rule r) o → UserRule P u r ⊎ Chain P (before i (h ▸ s)) (run_rule r) o
      back (inl x) = inl x
      back (inr x) = inr (subst (λ (z : History). Chain P z (run_rule r) o) (sym e) x)
  from_more h s nowhere r l = (λ x. x, λ x. x)

  -- a step that changes the rules of the container q alone
  change : (h : History) (s : Step) (c q : ℕ) (r : List ℕ) (a : Origin) (G : Type 0) → (From P (h ▸ s) a r ↔ G)
      → (Governs P h c r ↔ From P h (origin h c) r)
      → ((((c ≡ q) × G) ⊎ ((c ≢ q) × Governs P h c r)) ↔ From P (h ▸ s) (cond (eqb c q) a (origin h c)) r)
  change h s c q r a G new old = on (eqb c q) refl
    where
      m : From P (h ▸ s) (origin h c) r ↔ From P h (origin h c) r
      m = from_more h s (origin h c) r (inside h c)

      on : (b : Bool) → eqb c q ≡ b → ((((c ≡ q) × G) ⊎ ((c ≢ q) × Governs P h c r)) ↔ From P (h ▸ s) (cond b a (origin h c)) r)
      on true e = (to, λ x. inl (eqb-true c q e, new.0 x))
        where
          to : ((c ≡ q) × G) ⊎ ((c ≢ q) × Governs P h c r) → From P (h ▸ s) a r
          to (inl x) = new.1 x.1
          to (inr x) = absurd (x.0 (eqb-true c q e))
      on false e = (to, λ x. inr (eqb-false c q e, old.1 (m.0 x)))
        where
          to : ((c ≡ q) × G) ⊎ ((c ≢ q) × Governs P h c r) → From P (h ▸ s) (origin h c) r
          to (inl x) = absurd (eqb-false c q e x.0)
          to (inr x) = m.1 (old.0 x.1)

  -- one that leaves none
  leave : (h : History) (s : Step) (c q : ℕ) (r : List ℕ) → (Governs P h c r ↔ From P h (origin h c) r)
      → (((c ≢ q) × Governs P h c r) ↔ From P (h ▸ s) (cond (eqb c q) nowhere (origin h c)) r)
  leave h s c q r old =
      let t = change h s c q r nowhere ⊥ (λ x. x, λ x. x) old in (λ x. t.0 (inr x), λ x. on (t.1 x))
    where
      on : ((c ≡ q) × ⊥) ⊎ ((c ≢ q) × Governs P h c r) → (c ≢ q) × Governs P h c r
      on (inl x) = absurd x.1
      on (inr x) = x

  same : (h : History) (s : Step) (c : ℕ) (r : List ℕ) → (Governs P h c r ↔ From P h (origin h c) r) → (Governs P h c r ↔ From P (h ▸ s) (origin h c) r)
  same h s c r old =
      let m = from_more h s (origin h c) r (inside h c) in (λ x. m.1 (old.0 x), λ x. old.1 (m.0 x))

  exec_from : (h : History) (p o u : ℕ) (r : List ℕ) → From P (h ▸ exec p o u) (started (step_count h) o u) r ↔ (UserRule P u r ⊎ Chain P h (run_rule r) o)
  exec_from h p o u r =
      subst (λ (z : History). (UserRule P u r ⊎ Chain P z (run_rule r) o) ↔ (UserRule P u r ⊎ Chain P h (run_rule r) o)) (sym (before_last h (exec p o u))) (λ x. x, λ x. x)

  -- the rules that govern are those of the origin
  pub governs_from : (h : History) (c : ℕ) (r : List ℕ) → Governs P h c r ↔ From P h (origin h c) r
  unfolding origin
  governs_from start c r = (λ x. x, λ x. x)
  governs_from (h ▸ read p o) c r = same h (read p o) c r (governs_from h c r)
  governs_from (h ▸ write p o) c r = same h (write p o) c r (governs_from h c r)
  governs_from (h ▸ append p o) c r = same h (append p o) c r (governs_from h c r)
  governs_from (h ▸ exec p o u) c r = change h (exec p o u) c p r (started (step_count h) o u) (UserRule P u r ⊎ Chain P h (run_rule r) o) (exec_from h p o u r) (governs_from h c r)
  governs_from (h ▸ fork p o) c r =
      let g = governs_from h p r in
      let m = from_more h (fork p o) (origin h p) r (inside h p) in
      change h (fork p o) c o r (origin h p) (Governs P h p r) (λ x. g.1 (m.0 x), λ x. m.1 (g.0 x)) (governs_from h c r)
  governs_from (h ▸ new_file p o u) c r = change h (new_file p o u) c o r (made (step_count h) u) (UserRule P u r) (λ x. x, λ x. x) (governs_from h c r)
  governs_from (h ▸ new_volatile p o) c r = leave h (new_volatile p o) c o r (governs_from h c r)
  governs_from (h ▸ end p) c r = leave h (end p) c p r (governs_from h c r)
  governs_from (h ▸ delete p o) c r = leave h (delete p o) c o r (governs_from h c r)

  -- a certificate shows that the container is forbidden what it holds
  pub certificate_right : (h : History) (c : ℕ) → Certificate P h c → Forbidden P h c
  certificate_right h c C =
      (C.rule, (governs_from h c C.rule).1 C.from, λ m mem all. absurd (omega (arith, all (C.lacked m) (C.reaches m mem), C.lacks m mem)))
