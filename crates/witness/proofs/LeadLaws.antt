-- One more step, of explicit chains: one that stays, and one that the step carries on.
use Prim.Native.Nat.{ℕ, suc, ◌≤◌}
use native.Mathlib.Omega.{arith}
use mathlib.Core.Path.{refl, sym, subst}
use mathlib.Core.List.{List, [], ◌∷◌, ◌++◌}
use mathlib.Core.Logic.{inl, inr}
use Rattle.chains.specs.History.{Step, History, ◌▸◌, step_count}
use Rattle.chains.specs.Chains.{Item, Carries, Ends, Stands, Leads}
use Rattle.chains.proofs.ChainLaws.{at_lt}

module _ (h : History) (t : Step) where
  stands_more : (lo hi a : ℕ) (k : Item) → hi ≤ step_count h → Stands h lo hi a k → Stands (h ▸ t) lo hi a k
  stands_more lo hi a k le st j s l g (inl e) = absurd (omega arith)
  stands_more lo hi a k le st j s l g (inr e) = st j s l g e

  stands_last : (lo a : ℕ) (k : Item) → Stands h lo (step_count h) a k → ¬ Ends t a k → Stands (h ▸ t) lo (suc (step_count h)) a k
  stands_last lo a k st ne j s l g (inl e) = subst (λ (x : Step). ¬ Ends x a k) e.1 ne
  stands_last lo a k st ne j s l g (inr e) = st j s l (at_lt h j s e) e

  pub leads_stay : (lo a : ℕ) (k : Item) (is : List ℕ) (c : ℕ) (l : Item) → Leads h lo a k is c l → ¬ Ends t c l → Leads (h ▸ t) lo a k is c l
  leads_stay lo a k [] c l (ea, ek, st) ne = (
    ea,
    ek,
    stands_last lo a k st
        (subst (λ (x : ℕ). ¬ Ends t x k) (sym ea) (subst (λ (x : Item). ¬ Ends t c x) (sym ek) ne)),
  )
  leads_stay lo a k (i ∷ is) c l (s, b, m, li, e, st, ca, w) ne =
      (s, b, m, li, inr e, stands_more lo i a k (omega (arith, at_lt h i s e)) st, ca, leads_stay (suc i) b m is c l w ne)

  pub leads_carry : (lo a : ℕ) (k : Item) (is : List ℕ) (b : ℕ) (m : Item) (c : ℕ) (l : Item) → lo ≤ step_count h → Leads h lo a k is b m → Carries t b m c l
      → Leads (h ▸ t) lo a k (is ++ (step_count h ∷ [])) c l
  leads_carry lo a k [] b m c l le (ea, ek, st) ca = (
    t,
    c,
    l,
    le,
    inl (refl, refl),
    stands_more lo (step_count h) a k (omega arith) st,
    subst (λ (x : ℕ). Carries t x k c l) (sym ea) (subst (λ (x : Item). Carries t b x c l) (sym ek) ca),
    (refl, refl, λ j s l g e. absurd (omega arith)),
  )
  leads_carry lo a k (i ∷ is) b m c l le (s, b', m', li, e, st, cb, w) ca =
      (s, b', m', li, inr e, stands_more lo i a k (omega (arith, at_lt h i s e)) st, cb, leads_carry (suc i) b' m' is b m c l (at_lt h i s e) w ca)
