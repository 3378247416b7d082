-- Passes end, and what they leave is minimal.
use Prim.Native.Nat.{ℕ, zero, suc, ◌+◌, ◌≤◌, ◌<◌}
use mathlib.Core.Path.{◌≡◌, refl, sym, ap, ◌∙◌}
use mathlib.Core.Bool.{Bool, true, false, cond}
use mathlib.Core.List.{List, [], ◌∷◌, ◌++◌, append-nil, append_assoc}
use mathlib.Core.Logic.{◌⊎◌, inl, inr}
use native.Mathlib.Omega.{arith}
use lib.ListN.{length, length-append}
use Rattle.lists.proofs.Bools.{clash, refuted}
use Rattle.lists.specs.Lists.{same_list, every}
use Rattle.lists.proofs.Every.{every_0, every_1, every_cons}
use Rattle.lists.proofs.Same.{same_refl, same_eq}
use Rattle.trim.specs.Cuts.{pass_from, pass, trim_in, Minimal, Cut, none, keep, drop}

-- k at the end of what is kept, and in front of the rest
moved : (kept : List ℕ) (k : ℕ) (rest : List ℕ) → (kept ++ (k ∷ [])) ++ rest ≡ kept ++ (k ∷ rest)
moved kept k rest = append_assoc kept (k ∷ []) rest

-- ---- a pass leaves a cut

cut_refl : (ks : List ℕ) → Cut ks ks
cut_refl [] = none
cut_refl (k ∷ ks) = keep (cut_refl ks)

cut_trans : {xs ys zs : List ℕ} → Cut xs ys → Cut ys zs → Cut xs zs
cut_trans h none = h
cut_trans (keep h) (keep g) = keep (cut_trans h g)
cut_trans (drop h) (keep g) = drop (cut_trans h g)
cut_trans h (drop g) = drop (cut_trans h g)

cut_front : (xs : List ℕ) {ks ls : List ℕ} → Cut ks ls → Cut (xs ++ ks) (xs ++ ls)
cut_front [] h = h
cut_front (x ∷ xs) h = keep (cut_front xs h)

-- shorter, or the same
kept_length : (k : ℕ) (ks ls : List ℕ) → (length ks < length ls) ⊎ (ks ≡ ls) → (length (k ∷ ks) < length (k ∷ ls)) ⊎ (k ∷ ks ≡ k ∷ ls)
kept_length k ks ls (inl l) = inl (omega arith)
kept_length k ks ls (inr e) = inr (ap (λ (x : List ℕ). k ∷ x) e)

cut_le : {ks ls : List ℕ} → Cut ks ls → length ks ≤ length ls
cut_le none = omega arith
cut_le (keep h) = omega (arith, cut_le h)
cut_le (drop h) = omega (arith, cut_le h)

pub cut_length : {ks ls : List ℕ} → Cut ks ls → (length ks < length ls) ⊎ (ks ≡ ls)
cut_length none = inr refl
cut_length (keep h) = kept_length _ _ _ (cut_length h)
cut_length (drop h) = inl (omega (arith, cut_le h))

-- what holds of each that is given holds of each that is kept
pub cut_every : (f : ℕ → Bool) {ks ls : List ℕ} → Cut ks ls → every f ls ≡ true → every f ks ≡ true
cut_every f none h = h
cut_every f (keep {k} {ks} {ls} c) h = every_cons f k ks (every_0 f k ls h) (cut_every f c (every_1 f k ls h))
cut_every f (drop {k} {ks} {ls} c) h = cut_every f c (every_1 f k ls h)

module _ (counts : List ℕ → Bool) where
  pub pass_cut : (kept todo : List ℕ) → Cut (pass_from counts kept todo) (kept ++ todo)
  unfolding pass_from
  pass_cut kept [] = rw (append-nil kept) (cut_refl kept)
  pass_cut kept (k ∷ rest) = by (counts (kept ++ rest)) (pass_cut kept rest) (pass_cut (kept ++ (k ∷ [])) rest)
    where
      by : (b : Bool) → Cut (pass_from counts kept rest) (kept ++ rest) → Cut (pass_from counts (kept ++ (k ∷ [])) rest) ((kept ++ (k ∷ [])) ++ rest)
          → Cut (cond b (pass_from counts kept rest) (pass_from counts (kept ++ (k ∷ [])) rest)) (kept ++ (k ∷ rest))
      by true h g = cut_trans h (cut_front kept (drop (cut_refl rest)))
      by false h g = rw (moved kept k rest) at g

  -- ---- what counted before a pass counts after it

  pub pass_counts : (kept todo : List ℕ) → counts (kept ++ todo) ≡ true → counts (pass_from counts kept todo) ≡ true
  unfolding pass_from
  pass_counts kept [] h = rw (append-nil kept) at h
  pass_counts kept (k ∷ rest) h = by (counts (kept ++ rest)) refl (pass_counts kept rest) (pass_counts (kept ++ (k ∷ [])) rest)
    where
      by : (b : Bool) → counts (kept ++ rest) ≡ b → (counts (kept ++ rest) ≡ true → counts (pass_from counts kept rest) ≡ true)
          → (counts ((kept ++ (k ∷ [])) ++ rest) ≡ true → counts (pass_from counts (kept ++ (k ∷ [])) rest) ≡ true)
          → counts (cond b (pass_from counts kept rest) (pass_from counts (kept ++ (k ∷ [])) rest)) ≡ true
      by true e f g = f e
      by false e f g = g (ap counts (moved kept k rest) ∙ h)

  -- ---- a pass that drops nothing found nothing that can go

  nothing_dropped : (kept : List ℕ) (k : ℕ) (rest : List ℕ) → pass_from counts kept (k ∷ rest) ≡ kept ++ (k ∷ rest)
      → (counts (kept ++ rest) ≡ false) × (pass_from counts (kept ++ (k ∷ [])) rest ≡ (kept ++ (k ∷ [])) ++ rest)
  unfolding pass_from
  nothing_dropped kept k rest h = by (counts (kept ++ rest)) refl h
    where
      by : (b : Bool) → counts (kept ++ rest) ≡ b → cond b (pass_from counts kept rest) (pass_from counts (kept ++ (k ∷ [])) rest) ≡ kept ++ (k ∷ rest)
          → (counts (kept ++ rest) ≡ false) × (pass_from counts (kept ++ (k ∷ [])) rest ≡ (kept ++ (k ∷ [])) ++ rest)
      by true e z = absurd (shorter (cut_length (pass_cut kept rest)))
        where
          long : length (pass_from counts kept rest) ≡ length kept + suc (length rest)
          long = ap length z ∙ length-append kept (k ∷ rest)

          shorter : (length (pass_from counts kept rest) < length (kept ++ rest)) ⊎ (pass_from counts kept rest ≡ kept ++ rest) → ⊥
          shorter (inl l) = omega (arith, l, long, length-append kept rest)
          shorter (inr g) = let y : length (pass_from counts kept rest) ≡ length (kept ++ rest) = ap length g in omega (arith, y, long, length-append kept rest)
      by false e z = (e, z ∙ sym (moved kept k rest))

  fixed_from : (kept xs : List ℕ) (k : ℕ) (ys : List ℕ) → pass_from counts kept (xs ++ (k ∷ ys)) ≡ kept ++ (xs ++ (k ∷ ys)) → counts (kept ++ (xs ++ ys)) ≡ false
  fixed_from kept [] k ys h = (nothing_dropped kept k ys h).0
  fixed_from kept (x ∷ xs) k ys h =
      sym (ap counts (moved kept x (xs ++ ys))) ∙ fixed_from (kept ++ (x ∷ [])) xs k ys (nothing_dropped kept x (xs ++ (k ∷ ys)) h).1

  pub pass_minimal : (ks : List ℕ) → pass counts ks ≡ ks → Minimal counts ks
  unfolding pass
  pass_minimal ks h xs k ys e = fixed_from [] xs k ys (ap (pass_from counts []) e ∙ h ∙ sym e)

  -- ---- the passes end

  pub pass_shorter : (ks : List ℕ) → (length (pass counts ks) < length ks) ⊎ (pass counts ks ≡ ks)
  unfolding pass
  pass_shorter ks = cut_length (pass_cut [] ks)

  -- passes from one for each position on do the same
  one_same : (n m : ℕ) (ks : List ℕ) → length ks ≤ suc n → length ks ≤ suc m
      → (length (pass counts ks) ≤ n → length (pass counts ks) ≤ m → trim_in counts n (pass counts ks) ≡ trim_in counts m (pass counts ks))
      → trim_in counts (suc n) ks ≡ trim_in counts (suc m) ks
  unfolding trim_in
  one_same n m ks l h ih = by (same_list (pass counts ks) ks) refl (pass_shorter ks)
    where
      by : (b : Bool) → same_list (pass counts ks) ks ≡ b → (length (pass counts ks) < length ks) ⊎ (pass counts ks ≡ ks)
          → cond b ks (trim_in counts n (pass counts ks)) ≡ cond b ks (trim_in counts m (pass counts ks))
      by true e d = refl
      by false e (inl s) = ih (omega arith) (omega arith)
      by false e (inr s) = clash (ap (λ (x : List ℕ). same_list x ks) s ∙ same_refl ks) e

  settled : (n : ℕ) → trim_in counts n [] ≡ []
  unfolding trim_in pass pass_from same_list
  settled zero = refl
  settled (suc n) = refl

  trim_same : (n m : ℕ) (ks : List ℕ) → length ks ≤ n → length ks ≤ m → trim_in counts n ks ≡ trim_in counts m ks
  trim_same zero m [] l h = settled zero ∙ sym (settled m)
  trim_same zero m (k ∷ ks) l h = absurd (omega arith)
  trim_same (suc n) zero [] l h = settled (suc n) ∙ sym (settled zero)
  trim_same (suc n) zero (k ∷ ks) l h = absurd (omega arith)
  trim_same (suc n) (suc m) ks l h = one_same n m ks l h (trim_same n m (pass counts ks))

  pub trim_fixed : (n : ℕ) (ks : List ℕ) → length ks ≤ n → pass counts (trim_in counts n ks) ≡ trim_in counts n ks
  unfolding trim_in pass pass_from
  trim_fixed zero [] l = refl
  trim_fixed zero (k ∷ ks) l = absurd (omega arith)
  trim_fixed (suc n) ks l = by (same_list (pass counts ks) ks) refl (pass_shorter ks) (trim_fixed n (pass counts ks))
    where
      by : (b : Bool) → same_list (pass counts ks) ks ≡ b → (length (pass counts ks) < length ks) ⊎ (pass counts ks ≡ ks)
          → (length (pass counts ks) ≤ n → pass counts (trim_in counts n (pass counts ks)) ≡ trim_in counts n (pass counts ks))
          → pass counts (cond b ks (trim_in counts n (pass counts ks))) ≡ cond b ks (trim_in counts n (pass counts ks))
      by true e d ih = same_eq (pass counts ks) ks e
      by false e (inl s) ih = ih (omega arith)
      by false e (inr s) ih = clash (ap (λ (x : List ℕ). same_list x ks) s ∙ same_refl ks) e

  -- passes that drop something are followed by those that what is left wants
  pub trim_next : (n : ℕ) (ks : List ℕ) → length ks ≤ n → length (pass counts ks) < length ks → trim_in counts n ks ≡ trim_in counts (length (pass counts ks)) (pass counts ks)
  unfolding trim_in
  trim_next zero ks l s = absurd (omega arith)
  trim_next (suc n) ks l s =
      let e : same_list (pass counts ks) ks ≡ false =
      refuted (same_list (pass counts ks) ks)
      (λ q. let z : length (pass counts ks) ≡ length ks = ap length (same_eq (pass counts ks) ks q) in omega (arith, z, s)) in
      rw e (trim_same n (length (pass counts ks)) (pass counts ks) (omega arith) (omega arith))

  -- a pass that drops nothing is the last
  pub trim_still : (n : ℕ) (ks : List ℕ) → pass counts ks ≡ ks → trim_in counts n ks ≡ ks
  unfolding trim_in
  trim_still zero ks e = refl
  trim_still (suc n) ks e = let b : same_list (pass counts ks) ks ≡ true = ap (λ (x : List ℕ). same_list x ks) e ∙ same_refl ks in rw b

  pub trim_minimal : (n : ℕ) (ks : List ℕ) → length ks ≤ n → Minimal counts (trim_in counts n ks)
  trim_minimal n ks l = pass_minimal (trim_in counts n ks) (trim_fixed n ks l)

  -- ---- what is left is a cut, and counts

  pub trim_counts : (n : ℕ) (ks : List ℕ) → counts ks ≡ true → counts (trim_in counts n ks) ≡ true
  unfolding trim_in pass
  trim_counts zero ks h = h
  trim_counts (suc n) ks h = by (same_list (pass counts ks) ks) (trim_counts n (pass counts ks) (pass_counts [] ks h))
    where
      by : (b : Bool) → counts (trim_in counts n (pass counts ks)) ≡ true → counts (cond b ks (trim_in counts n (pass counts ks))) ≡ true
      by true g = h
      by false g = g

  pub trim_cut : (n : ℕ) (ks : List ℕ) → Cut (trim_in counts n ks) ks
  unfolding trim_in pass
  trim_cut zero ks = cut_refl ks
  trim_cut (suc n) ks = by (same_list (pass counts ks) ks) (trim_cut n (pass counts ks)) (pass_cut [] ks)
    where
      by : (b : Bool) → Cut (trim_in counts n (pass counts ks)) (pass counts ks) → Cut (pass counts ks) ks → Cut (cond b ks (trim_in counts n (pass counts ks))) ks
      by true h g = cut_refl ks
      by false h g = cut_trans h g

  -- more passes change nothing
  pub trim_enough : (n m : ℕ) (ks : List ℕ) → length ks ≤ n → trim_in counts m (trim_in counts n ks) ≡ trim_in counts n ks
  trim_enough n m ks l = trim_still m (trim_in counts n ks) (trim_fixed n ks l)
