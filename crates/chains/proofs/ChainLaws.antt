-- What one more step does to the chains of a history.
use Prim.Native.Nat.{ℕ, suc, zero, ◌≤◌, ◌<◌}
use native.Mathlib.Omega.{arith}
use mathlib.Core.Path.{◌≡◌, refl, sym, subst, ◌∙◌}
use mathlib.Core.List.{List, [], ◌∷◌, ◌++◌}
use mathlib.Core.Logic.{◌⊎◌, inl, inr}
use Rattle.image.specs.Policy.{Policy}
use Rattle.chains.specs.History.{Step, History, start, ◌▸◌, step_count, StepAt}
use Rattle.chains.specs.Chains.{Item, Starts, Carries, Ends, Stands, Leads, Chain}

pub at_lt : (h : History) (i : ℕ) (s : Step) → StepAt h i s → i < step_count h
at_lt start i s e = absurd e
at_lt (h ▸ t) i s (inl e) = omega arith
at_lt (h ▸ t) i s (inr e) = omega (arith, at_lt h i s e)

-- one number, one step
pub at_same : (h : History) (i : ℕ) (s t : Step) → StepAt h i s → StepAt h i t → s ≡ t
at_same start i s t a b = absurd a
at_same (h ▸ u) i s t (inl (e, a)) (inl (f, b)) = sym a ∙ b
at_same (h ▸ u) i s t (inl (e, a)) (inr b) = absurd (omega (arith, e, at_lt h i t b))
at_same (h ▸ u) i s t (inr a) (inl (f, b)) = absurd (omega (arith, f, at_lt h i s a))
at_same (h ▸ u) i s t (inr a) (inr b) = at_same h i s t a b

module _ (h : History) (t : Step) where
  -- the last step is on the chain, or passed over
  abbrev Passed : ℕ → ℕ → Item → ℕ → Item → Type 0
  Passed lo a k c l = (is : List ℕ) × Leads h lo a k is c l × ¬ Ends t c l

  abbrev Taken : ℕ → ℕ → Item → ℕ → Item → Type 0
  Taken lo a k c l = (is : List ℕ) × (b : ℕ) × (m : Item) × Leads h lo a k is b m × Carries t b m c l

  stands_less : (lo hi a : ℕ) (k : Item) (hi' : ℕ) → hi ≤ hi' → Stands (h ▸ t) lo hi' a k → Stands h lo hi a k
  stands_less lo hi a k hi' le st j s l g e = st j s l (omega arith) (inr e)

  stands_more : (lo hi a : ℕ) (k : Item) → hi ≤ step_count h → Stands h lo hi a k → Stands (h ▸ t) lo hi a k
  stands_more lo hi a k le st j s l g (inl e) = absurd (omega arith)
  stands_more lo hi a k le st j s l g (inr e) = st j s l g e

  stands_last : (lo a : ℕ) (k : Item) → Stands h lo (step_count h) a k → ¬ Ends t a k → Stands (h ▸ t) lo (suc (step_count h)) a k
  stands_last lo a k st ne j s l g (inl e) = subst (λ (x : Step). ¬ Ends x a k) e.1 ne
  stands_last lo a k st ne j s l g (inr e) = st j s l (at_lt h j s e) e

  -- a chain that the last step ends
  no_more : (a : ℕ) (k : Item) (is : List ℕ) (c : ℕ) (l : Item) → Leads (h ▸ t) (suc (step_count h)) a k is c l → (a ≡ c) × (k ≡ l)
  no_more a k [] c l w = (w.0, w.1)
  no_more a k (i ∷ is) c l w = absurd (omega (arith, w.3, at_lt (h ▸ t) i w.0 w.4))

  split : (lo a : ℕ) (k : Item) (is : List ℕ) (c : ℕ) (l : Item) → lo ≤ step_count h → Leads (h ▸ t) lo a k is c l
      → Passed lo a k c l ⊎ Taken lo a k c l
  split lo a k [] c l le w =
      inl (
        [],
        (w.0, w.1, stands_less lo (step_count h) a k (suc (step_count h)) (omega arith) w.2),
        subst (λ (x : ℕ). ¬ Ends t x l) w.0
            (subst (λ (x : Item). ¬ Ends t a x) w.1 (w.2 (step_count h) t le (omega arith) (inl (refl, refl)))),
      )
  split lo a k (i ∷ is) c l le (s, b, m, li, inl e, st, ca, w) =
      let u : (b ≡ c) × (m ≡ l) = no_more b m is c l (subst (λ (x : ℕ). Leads (h ▸ t) (suc x) b m is c l) e.0 w) in
      inr (
        [],
        a,
        k,
        (refl, refl, stands_less lo (step_count h) a k i (omega arith) st),
        subst (λ (x : Step). Carries x a k c l) (sym e.1)
            (subst (λ (x : ℕ). Carries s a k x l) u.0 (subst (λ (x : Item). Carries s a k b x) u.1 ca)),
      )
  split lo a k (i ∷ is) c l le (s, b, m, li, inr e, st, ca, w) =
      on (split (suc i) b m is c l (at_lt h i s e) w)
    where
      on : Passed (suc i) b m c l ⊎ Taken (suc i) b m c l → Passed lo a k c l ⊎ Taken lo a k c l
      on (inl (js, v, ne)) = inl (i ∷ js, (s, b, m, li, e, stands_less lo i a k i (omega arith) st, ca, v), ne)
      on (inr (js, b', m', v, cb)) = inr (i ∷ js, b', m', (s, b, m, li, e, stands_less lo i a k i (omega arith) st, ca, v), cb)

  pass : (lo a : ℕ) (k : Item) (is : List ℕ) (c : ℕ) (l : Item) → Leads h lo a k is c l → ¬ Ends t c l → Leads (h ▸ t) lo a k is c l
  pass lo a k [] c l (ea, ek, st) ne = (
    ea,
    ek,
    stands_last lo a k st
        (subst (λ (x : ℕ). ¬ Ends t x k) (sym ea) (subst (λ (x : Item). ¬ Ends t c x) (sym ek) ne)),
  )
  pass lo a k (i ∷ is) c l (s, b, m, li, e, st, ca, w) ne =
      (s, b, m, li, inr e, stands_more lo i a k (omega (arith, at_lt h i s e)) st, ca, pass (suc i) b m is c l w ne)

  take : (lo a : ℕ) (k : Item) (is : List ℕ) (b : ℕ) (m : Item) (c : ℕ) (l : Item) → lo ≤ step_count h → Leads h lo a k is b m → Carries t b m c l
      → Leads (h ▸ t) lo a k (is ++ (step_count h ∷ [])) c l
  take lo a k [] b m c l le (ea, ek, st) ca = (
    t,
    c,
    l,
    le,
    inl (refl, refl),
    stands_more lo (step_count h) a k (omega arith) st,
    subst (λ (x : ℕ). Carries t x k c l) (sym ea) (subst (λ (x : Item). Carries t b x c l) (sym ek) ca),
    (refl, refl, λ j s l g e. absurd (omega arith)),
  )
  take lo a k (i ∷ is) b m c l le (s, b', m', li, e, st, cb, w) ca =
      (s, b', m', li, inr e, stands_more lo i a k (omega (arith, at_lt h i s e)) st, cb, take (suc i) b' m' is b m c l (at_lt h i s e) w ca)

-- The chains of a history with one more step: those that it passes over and does not end, and those that it carries on.
pub chain_snoc : (P : Policy) (h : History) (t : Step) (y : Item) (c : ℕ) → Chain P (h ▸ t) y c
    → (Chain P h y c × ¬ Ends t c y) ⊎ ((b : ℕ) × (x : Item) × Chain P h x b × Carries t b x c y)
chain_snoc P h t y c (f, x, sx, is, w) = on (split h t zero f x is c y (omega arith) w)
  where
    on : Passed h t zero f x c y ⊎ Taken h t zero f x c y
        → (Chain P h y c × ¬ Ends t c y) ⊎ ((b : ℕ) × (x : Item) × Chain P h x b × Carries t b x c y)
    on (inl (js, v, ne)) = inl ((f, x, sx, js, v), ne)
    on (inr (js, b, m, v, cb)) = inr (b, m, (f, x, sx, js, v), cb)

pub chain_stay : (P : Policy) (h : History) (t : Step) (y : Item) (c : ℕ) → Chain P h y c → ¬ Ends t c y → Chain P (h ▸ t) y c
chain_stay P h t y c (f, x, sx, is, w) ne = (f, x, sx, is, pass h t zero f x is c y w ne)

pub chain_carry : (P : Policy) (h : History) (t : Step) (x y : Item) (b c : ℕ) → Chain P h x b → Carries t b x c y → Chain P (h ▸ t) y c
chain_carry P h t x y b c (f, z, sz, is, w) ca =
    (f, z, sz, is ++ (step_count h ∷ []), take h t zero f z is b x c y (omega arith) w ca)

pub chain_none : (P : Policy) (y : Item) (c : ℕ) → Chain P start y c → Starts P c y
chain_none P y c (f, x, sx, [], w) = subst (λ (z : ℕ). Starts P z y) w.0 (subst (λ (z : Item). Starts P f z) w.1 sx)
chain_none P y c (f, x, sx, i ∷ is, w) = absurd w.4

pub chain_here : (P : Policy) (y : Item) (c : ℕ) → Starts P c y → Chain P start y c
chain_here P y c sy = (c, y, sy, [], (refl, refl, λ j s l g e. absurd e))
