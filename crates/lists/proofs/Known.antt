-- Members of a list and their places, by a test of what is the same: of any type.
use Prim.Native.Nat.{suc, ◌+◌, ◌≤◌, ◌<◌}
use mathlib.Core.Path.{◌≡◌, refl, sym, ap, ◌∙◌}
use mathlib.Core.Bool.{Bool, true, false, cond, ◌||◌}
use mathlib.Core.List.{List, [], ◌∷◌, ◌++◌}
use mathlib.Core.Logic.{⊎_elim}
use native.Mathlib.Omega.{arith}
use lib.ListN.{length, get_or}
use Rattle.lists.specs.Lists.{every, known_by, position_by}
use Rattle.lists.proofs.Bools.{or_0, or_1, or_cases, clash}
use Rattle.lists.proofs.Every.{every_0, every_1}

module _ {A : Type 0} (same : A → A → Bool) where
  -- ---- members

  known_append : (r : A) (t s : List A) → known_by same r (t ++ s) ≡ (known_by same r t || known_by same r s)
  unfolding known_by
  known_append r [] s = refl
  known_append r (x ∷ t) s = by (same r x) (known_append r t s)
    where
      by : (b : Bool) → known_by same r (t ++ s) ≡ (known_by same r t || known_by same r s) → (b || known_by same r (t ++ s)) ≡ (b || known_by same r t || known_by same r s)
      by true ih = refl
      by false ih = ih

  pub known_more : (r : A) (t s : List A) → known_by same r t ≡ true → known_by same r (t ++ s) ≡ true
  known_more r t s h = known_append r t s ∙ or_0 (known_by same r t) (known_by same r s) h

  pub known_last : (r : A) (t : List A) → same r r ≡ true → known_by same r (t ++ (r ∷ [])) ≡ true
  unfolding known_by
  known_last r t e = known_append r t (r ∷ []) ∙ or_1 (known_by same r t) (same r r || false) (or_0 (same r r) false e)

  -- ---- places

  pub position_lt : (r : A) (t : List A) → known_by same r t ≡ true → position_by same r t < length t
  unfolding known_by position_by
  position_lt r [] h = clash h refl
  position_lt r (x ∷ t) h = by (same r x) h (position_lt r t)
    where
      by : (b : Bool) → (b || known_by same r t) ≡ true → (known_by same r t ≡ true → position_by same r t < length t) → cond b 0 (suc (position_by same r t)) < suc (length t)
      by true k ih = omega arith
      by false k ih = omega (arith, ih k)

  pub position_most : (r : A) (t : List A) → position_by same r t ≤ length t
  unfolding position_by
  position_most r [] = omega arith
  position_most r (x ∷ t) = by (same r x) (position_most r t)
    where
      by : (b : Bool) → position_by same r t ≤ length t → cond b 0 (suc (position_by same r t)) ≤ suc (length t)
      by true h = omega arith
      by false h = omega arith

  pub position_stays : (r : A) (us vs : List A) → known_by same r us ≡ true → position_by same r (us ++ vs) ≡ position_by same r us
  unfolding known_by position_by
  position_stays r [] vs h = clash h refl
  position_stays r (x ∷ us) vs h = by (same r x) h (position_stays r us vs)
    where
      by : (b : Bool)
          → (b || known_by same r us) ≡ true → (known_by same r us ≡ true → position_by same r (us ++ vs) ≡ position_by same r us)
          → cond b 0 (suc (position_by same r (us ++ vs))) ≡ cond b 0 (suc (position_by same r us))
      by true k ih = refl
      by false k ih = ap suc (ih k)

  -- what is not among us comes behind them
  pub position_behind : (r : A) (us vs : List A) → known_by same r us ≡ false → length us ≤ position_by same r (us ++ vs)
  unfolding known_by position_by
  position_behind r [] vs h = omega arith
  position_behind r (x ∷ us) vs h = by (same r x) h (position_behind r us vs)
    where
      by : (b : Bool) → (b || known_by same r us) ≡ false → (known_by same r us ≡ false → length us ≤ position_by same r (us ++ vs)) → suc (length us) ≤ cond b 0 (suc (position_by same r (us ++ vs)))
      by true k ih = clash refl k
      by false k ih = omega (arith, ih k)

  -- ---- if the test tells equal ones

  module _ (eq : (x y : A) → same x y ≡ true → x ≡ y) where
    pub position_at : (d : A) (r : A) (t : List A) → known_by same r t ≡ true → get_or t (position_by same r t) d ≡ r
    unfolding known_by position_by
    position_at d r [] h = clash h refl
    position_at d r (x ∷ t) h = by (same r x) refl h (position_at d r t)
      where
        by : (b : Bool) → same r x ≡ b → (b || known_by same r t) ≡ true → (known_by same r t ≡ true → get_or t (position_by same r t) d ≡ r)
            → get_or (x ∷ t) (cond b 0 (suc (position_by same r t))) d ≡ r
        by true e k ih = sym (eq r x e)
        by false e k ih = ih k

    pub known_every : (f : A → Bool) (r : A) (us : List A) → known_by same r us ≡ true → every f us ≡ true → f r ≡ true
    unfolding known_by
    known_every f r [] h e = clash h refl
    known_every f r (x ∷ us) h e = ⊎_elim (λ p. ap f (eq r x p) ∙ every_0 f x us e) (λ p. known_every f r us p (every_1 f x us e)) (or_cases (same r x) h)
