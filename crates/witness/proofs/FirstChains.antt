-- The chain that is shown is the first: none arrives earlier.
use Prim.Native.Nat.{ℕ, suc, zero, ◌≤◌}
use native.Mathlib.Omega.{arith}
use mathlib.Core.Path.{◌≡◌, refl, sym, subst, ◌∙◌, ap}
use mathlib.Core.Bool.{Bool, true, false, cond}
use mathlib.Core.List.{List, [], ◌∷◌, ◌++◌}
use mathlib.Core.Logic.{◌⊎◌, inl, inr, ◌≢◌}
use mathlib.Core.Option.{Option, none, some}
use lib.Dec.{eqb}
use lib.ListN.{get_elem?}
use borrow.Author.Tests.{eqb-true, eqb-false}
use Rattle.image.specs.Policy.{Policy}
use Rattle.chains.specs.History.{Step, History, start, ◌▸◌, step_count, receiver}
use Rattle.chains.specs.Chains.{Item, Starts, Carries, Ends, Stands, Leads}
use Rattle.chains.proofs.ChainLaws.{at_lt}
use Rattle.witness.specs.Witness.{takes_up, ends_item, starts_in, Witness, rising, stays, carried_on, first_of, witness, arrival}
use Rattle.witness.specs.Tells.{Right, First}
use Rattle.witness.proofs.WitnessLaws.{right, carries_takes, told_ends}

arrival_last : (xs : List ℕ) (i : ℕ) → arrival (xs ++ (i ∷ [])) ≡ suc i
unfolding arrival
arrival_last [] i = refl
arrival_last (x ∷ []) i = refl
arrival_last (x ∷ z ∷ xs) i = arrival_last (z ∷ xs) i

leads_bound : (h : History) (lo a : ℕ) (x : Item) (is : List ℕ) (c : ℕ) (y : Item) → Leads h lo a x is c y → arrival is ≤ step_count h
unfolding arrival
leads_bound h lo a x [] c y w = omega arith
leads_bound h lo a x (i ∷ []) c y w = at_lt h i w.0 w.4
leads_bound h lo a x (i ∷ j ∷ is) c y w = leads_bound h (suc i) w.1 w.2 (j ∷ is) c y w.7

module _ (h : History) (t : Step) where
  -- the last step is passed over, or the last of the chain
  Split : ℕ → ℕ → Item → List ℕ → ℕ → Item → Type 0
  Split lo a k is c l =
      (Leads h lo a k is c l × ¬ Ends t c l)
      ⊎ ((js : List ℕ) × (is ≡ js ++ (step_count h ∷ [])) × (b : ℕ) × (m : Item) × Leads h lo a k js b m × Carries t b m c l)

  stands_less : (lo hi a : ℕ) (k : Item) (hi' : ℕ) → hi ≤ hi' → Stands (h ▸ t) lo hi' a k → Stands h lo hi a k
  stands_less lo hi a k hi' le st j s l g e = st j s l (omega arith) (inr e)

  no_more : (a : ℕ) (k : Item) (is : List ℕ) (c : ℕ) (l : Item) → Leads (h ▸ t) (suc (step_count h)) a k is c l → (is ≡ []) × (a ≡ c) × (k ≡ l)
  no_more a k [] c l w = (refl, w.0, w.1)
  no_more a k (i ∷ is) c l w = absurd (omega (arith, w.3, at_lt (h ▸ t) i w.0 w.4))

  split : (lo a : ℕ) (k : Item) (is : List ℕ) (c : ℕ) (l : Item) → lo ≤ step_count h → Leads (h ▸ t) lo a k is c l → Split lo a k is c l
  unfolding Split
  split lo a k [] c l le w =
      inl (
        (w.0, w.1, stands_less lo (step_count h) a k (suc (step_count h)) (omega arith) w.2),
        subst (λ (x : ℕ). ¬ Ends t x l) w.0
            (subst (λ (x : Item). ¬ Ends t a x) w.1 (w.2 (step_count h) t le (omega arith) (inl (refl, refl)))),
      )
  split lo a k (i ∷ is) c l le (s, b, m, li, inl e, st, ca, w) =
      let u : (is ≡ []) × (b ≡ c) × (m ≡ l) = no_more b m is c l (subst (λ (x : ℕ). Leads (h ▸ t) (suc x) b m is c l) e.0 w) in
      inr (
        [],
        ap (λ (x : ℕ). x ∷ is) e.0 ∙ ap (λ (xs : List ℕ). step_count h ∷ xs) u.0,
        a,
        k,
        (refl, refl, stands_less lo (step_count h) a k i (omega arith) st),
        subst (λ (x : Step). Carries x a k c l) (sym e.1)
            (subst (λ (x : ℕ). Carries s a k x l) u.1 (subst (λ (x : Item). Carries s a k b x) u.2 ca)),
      )
  split lo a k (i ∷ is) c l le (s, b, m, li, inr e, st, ca, w) = on (split (suc i) b m is c l (at_lt h i s e) w)
    where
      on : Split (suc i) b m is c l → Split lo a k (i ∷ is) c l
      on (inl (v, ne)) = inl ((s, b, m, li, e, stands_less lo i a k i (omega arith) st, ca, v), ne)
      on (inr (js, q, b', m', v, cb)) = inr (i ∷ js, ap (λ (xs : List ℕ). i ∷ xs) q, b', m', (s, b, m, li, e, stands_less lo i a k i (omega arith) st, ca, v), cb)

module _ (P : Policy) where
  first_other : (h : History) (s : Step) (y : Item) (c : ℕ) → c ≢ receiver s → (w : Option Witness) → First P h y c w → First P (h ▸ s) y c w
  unfolding Split
  first_other h s y c ne none F = tt
  first_other h s y c ne (some w) F = λ f x is sx L. on f x is sx (split h s zero f x is c y (omega arith) L)
    where
      on : (f : ℕ) (x : Item) (is : List ℕ) → Starts P f x → Split h s zero f x is c y → arrival (rising w.falling) ≤ arrival is
      on f x is sx (inl (v, z)) = F f x is sx v
      on f x is sx (inr (js, q, b, m, v, ca)) = absurd (ne (carries_takes ca).0)

  -- what arrives by the last step arrives last
  first_last : (h : History) (s : Step) (y : Item) (c : ℕ) → c ≡ receiver s → (w : Option Witness) → Right P (h ▸ s) y c w
      → ((f : ℕ) (x : Item) (is : List ℕ) → Starts P f x → Leads h zero f x is c y → ¬ Ends s c y → ⊥) → First P (h ▸ s) y c w
  unfolding Split
  first_last h s y c ec none r gone = tt
  first_last h s y c ec (some w) r gone = λ f x is sx L. on f x is sx (split h s zero f x is c y (omega arith) L)
    where
      on : (f : ℕ) (x : Item) (is : List ℕ) → Starts P f x → Split h s zero f x is c y → arrival (rising w.falling) ≤ arrival is
      on f x is sx (inl (v, z)) = absurd (gone f x is sx v z)
      on f x is sx (inr (js, q, b, m, v, ca)) =
          let e : arrival is ≡ suc (step_count h) = ap arrival q ∙ arrival_last js (step_count h) in
          omega (arith, e, leads_bound (h ▸ s) zero w.file w.item (rising w.falling) c y r.1)

  first_stays : (h : History) (s : Step) (y : Item) (c : ℕ) (w : Witness) → First P h y c (some w) → Right P (h ▸ s) y c (some w) → First P (h ▸ s) y c (some w)
  unfolding Split
  first_stays h s y c w F r f x is sx L = on (split h s zero f x is c y (omega arith) L)
    where
      on : Split h s zero f x is c y → arrival (rising w.falling) ≤ arrival is
      on (inl (v, z)) = F f x is sx v
      on (inr (js, q, b, m, v, ca)) =
          let e : arrival is ≡ suc (step_count h) = ap arrival q ∙ arrival_last js (step_count h) in
          omega (arith, e, leads_bound (h ▸ s) zero w.file w.item (rising w.falling) c y r.1)

  first_receiver : (h : History) (s : Step) (y : Item) (c : ℕ) → c ≡ receiver s → (own : Option Witness) → Right P h y c own → First P h y c own
      → (b : Bool) → ends_item s y ≡ b → (v : Option Witness) → Right P (h ▸ s) y c (first_of (stays b own) v) → First P (h ▸ s) y c (first_of (stays b own) v)
  first_receiver h s y c ec own r F true e v rr =
      first_last h s y c ec v rr (λ f x is sx L ne. ne (subst (λ (z : ℕ). Ends s z y) (sym ec) (told_ends s y e)))
  first_receiver h s y c ec none r F false e v rr = first_last h s y c ec v rr (λ f x is sx L ne. r (f, x, sx, is, L))
  first_receiver h s y c ec (some w) r F false e v rr = first_stays h s y c w F rr

  first_start : (y : Item) (c : ℕ) (b : Bool) → First P start y c (cond b (some (record { file = c; item = y; falling = [] })) none)
  unfolding arrival
  first_start y c true = λ f x is sx L. omega arith
  first_start y c false = tt

  pub first_arrival : (h : History) (y : Item) (c : ℕ) → First P h y c (witness P h y c)
  unfolding witness
  first_arrival start y c = first_start y c (starts_in P.rules y (get_elem? P.containers c))
  first_arrival (h ▸ s) y c = on (eqb c (receiver s)) refl (first_arrival h y c) (right P (h ▸ s) y c)
    where
      on : (b : Bool) → eqb c (receiver s) ≡ b → First P h y c (witness P h y c)
          → Right P (h ▸ s) y c (cond (eqb c (receiver s)) (first_of (stays (ends_item s y) (witness P h y c)) (carried_on (λ x b. witness P h x b) (step_count h) (takes_up s y))) (witness P h y c))
          → First P (h ▸ s) y c (cond b (first_of (stays (ends_item s y) (witness P h y c)) (carried_on (λ x b. witness P h x b) (step_count h) (takes_up s y))) (witness P h y c))
      on true e F rr =
          first_receiver h s y c (eqb-true c (receiver s) e) (witness P h y c) (right P h y c) F (ends_item s y) refl (carried_on (λ x b. witness P h x b) (step_count h) (takes_up s y)) (rw e at rr)
      on false e F rr = first_other h s y c (eqb-false c (receiver s) e) (witness P h y c) F
