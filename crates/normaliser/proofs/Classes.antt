-- The rules of a table: numbering their classes is numbering the rules.
use Prim.Native.Nat.{ℕ, zero, suc, ◌≤◌, ◌<◌}
use mathlib.Core.Path.{◌≡◌, refl, sym, ap, ap₂, ◌∙◌}
use mathlib.Core.Bool.{Bool, true, false, not, cond, ◌||◌}
use mathlib.Core.List.{List, [], ◌∷◌, ◌++◌, map}
use mathlib.Core.Logic.{⊎_elim}
use native.Mathlib.Omega.{arith}
use lib.Dec.{eqb, ltb}
use lib.ListN.{length, get_or}
use borrow.Author.Tests.{eqb-true, eq-eqb, ltb-true}
use Rattle.lists.proofs.Bools.{or_0, or_1, or_cases, clash, same_test}
use Rattle.lists.specs.Lists.{elem, every, known_by, position_by}
use Rattle.image.specs.Limits.{unrestricted_number}
use Rattle.image.specs.Policy.{named}
use Rattle.image.specs.Normal.{Use, same_use, free_use, noted, numbered, number_of}
use Rattle.lists.proofs.Every.{every_0, every_1, every_nil, every_cons, every_append}
use Rattle.image.proofs.Numbering.{use_refl, use_eq, use_in, settled, number_use}
use Rattle.normaliser.specs.Tables.{with_class, with_classes, index_of, place_in}

known_at : (rules : List Use) (n : ℕ) → n < length rules → known_by same_use (get_or rules n free_use) rules ≡ true
unfolding known_by
known_at [] n h = absurd (omega arith)
known_at (r ∷ rules) zero h = or_0 (same_use r r) (known_by same_use r rules) (use_refl r)
known_at (r ∷ rules) (suc n) h = or_1 (same_use (get_or rules n free_use) r) (known_by same_use (get_or rules n free_use) rules) (known_at rules n (omega arith))

-- a rule that is named is among the rules, or unrestricted without an owner
pub settled_at : (rules : List Use) (k : ℕ) → named (length rules) k ≡ true → settled rules (use_in rules k) ≡ true
unfolding settled use_in named
settled_at rules k h = by (eqb k unrestricted_number) h
  where
    by : (b : Bool) → (ltb k (length rules) || b) ≡ true
        → (same_use (cond b free_use (get_or rules k free_use)) free_use || known_by same_use (cond b free_use (get_or rules k free_use)) rules) ≡ true
    by true e = or_0 (same_use free_use free_use) (known_by same_use free_use rules) (use_refl free_use)
    by false e =
        or_1 (same_use (get_or rules k free_use) free_use) (known_by same_use (get_or rules k free_use) rules)
        (known_at rules k (⊎_elim (λ p. ltb-true k (length rules) p) (λ p. clash p refl) (or_cases (ltb k (length rules)) e)))

module _ (F : List Use) (few : length F ≤ unrestricted_number) where
  -- the numbers of two rules are the same just if the rules are
  pub number_same : (r s : Use) → settled F r ≡ true → settled F s ≡ true → eqb (number_of F r) (number_of F s) ≡ same_use r s
  number_same r s h k =
      same_test (eqb (number_of F r) (number_of F s)) (same_use r s)
      (λ e. let q : r ≡ s = sym (number_use F few r h) ∙ ap (use_in F) (eqb-true (number_of F r) (number_of F s) e) ∙ number_use F few s k in rw q (use_refl s))
      (λ e. let q : r ≡ s = use_eq r s e in rw q (eq-eqb (number_of F s) (number_of F s) refl))

  number_none : number_of F free_use ≡ unrestricted_number
  unfolding number_of
  number_none = rw (use_refl free_use)

  settled_none : settled F free_use ≡ true
  unfolding settled
  settled_none = or_0 (same_use free_use free_use) (known_by same_use free_use F) (use_refl free_use)

  pub number_unrestricted : (r : Use) → settled F r ≡ true → eqb (number_of F r) unrestricted_number ≡ same_use r free_use
  number_unrestricted r h = ap (eqb (number_of F r)) (sym number_none) ∙ number_same r free_use h settled_none

  elem_known : (r : Use) (T : List Use) → settled F r ≡ true → every (settled F) T ≡ true → elem (number_of F r) (map (number_of F) T) ≡ known_by same_use r T
  unfolding elem known_by
  elem_known r [] h k = refl
  elem_known r (s ∷ T) h k =
      ap₂ ◌||◌ (number_same r s h (every_0 (settled F) s T k)) (elem_known r T h (every_1 (settled F) s T k))

  index_position : (r : Use) (T : List Use) → settled F r ≡ true → every (settled F) T ≡ true → index_of (number_of F r) (map (number_of F) T) ≡ position_by same_use r T
  unfolding index_of position_by
  index_position r [] h k = refl
  index_position r (s ∷ T) h k =
      ap₂ (λ (b : Bool) (n : ℕ). cond b 0 (suc n)) (number_same r s h (every_0 (settled F) s T k)) (index_position r T h (every_1 (settled F) s T k))

  pub place_number : (r : Use) (T : List Use) → settled F r ≡ true → every (settled F) T ≡ true
      → place_in (number_of F r) (map (number_of F) T) ≡ cond (known_by same_use r T) (suc (position_by same_use r T)) 0
  unfolding place_in
  place_number r T h k = ap₂ (λ (b : Bool) (n : ℕ). cond b (suc n) 0) (elem_known r T h k) (index_position r T h k)

  with_class_noted : (r : Use) (T : List Use) → settled F r ≡ true → every (settled F) T ≡ true → with_class (map (number_of F) T) (number_of F r) ≡ map (number_of F) (noted T r)
  unfolding with_class noted
  with_class_noted r T h k =
      ap₂ (λ (a b : Bool). cond (a || b) (map (number_of F) T) (map (number_of F) T ++ (number_of F r ∷ []))) (number_unrestricted r h) (elem_known r T h k)
      ∙ by (same_use r free_use || known_by same_use r T)
    where
      map_behind : (l : List Use) → map (number_of F) (l ++ (r ∷ [])) ≡ map (number_of F) l ++ (number_of F r ∷ [])
      map_behind [] = refl
      map_behind (s ∷ l) = ap (λ (x : List ℕ). number_of F s ∷ x) (map_behind l)

      by : (b : Bool) → cond b (map (number_of F) T) (map (number_of F) T ++ (number_of F r ∷ [])) ≡ map (number_of F) (cond b T (T ++ (r ∷ [])))
      by true = refl
      by false = sym (map_behind T)

  noted_settled : (r : Use) (T : List Use) → settled F r ≡ true → every (settled F) T ≡ true → every (settled F) (noted T r) ≡ true
  unfolding noted
  noted_settled r T h k = by (same_use r free_use || known_by same_use r T)
    where
      by : (b : Bool) → every (settled F) (cond b T (T ++ (r ∷ []))) ≡ true
      by true = k
      by false = every_append (settled F) T (r ∷ []) k (every_cons (settled F) r [] h (every_nil (settled F)))

  pub all_numbered : (rs T : List Use) → every (settled F) rs ≡ true → every (settled F) T ≡ true → with_classes (map (number_of F) T) (map (number_of F) rs) ≡ map (number_of F) (numbered T rs)
  unfolding with_classes numbered
  all_numbered [] T h k = refl
  all_numbered (r ∷ rs) T h k =
      let a : settled F r ≡ true = every_0 (settled F) r rs h in
      ap (λ (t : List ℕ). with_classes t (map (number_of F) rs)) (with_class_noted r T a k) ∙ all_numbered rs (noted T r) (every_1 (settled F) r rs h) (noted_settled r T a k)

-- no unrestricted rule without an owner is written
unfoldable pub restricted : Use → Bool
restricted r = not (same_use r free_use)

pub numbered_restricted : (rs T : List Use) → every restricted T ≡ true → every restricted (numbered T rs) ≡ true
unfolding numbered
numbered_restricted [] T h = h
numbered_restricted (r ∷ rs) T h = numbered_restricted rs (noted T r) (one (same_use r free_use) refl)
  where
    one : (b : Bool) → same_use r free_use ≡ b → every restricted (noted T r) ≡ true
    one true e = unfold noted in (rw e h)
    one false e = more (known_by same_use r T)
      where
        behind : every restricted (T ++ (r ∷ [])) ≡ true
        behind = every_append restricted T (r ∷ []) h (every_cons restricted r [] (unfold restricted in (rw e)) (every_nil restricted))

        by : (b : Bool) → every restricted (cond b T (T ++ (r ∷ []))) ≡ true
        by true = h
        by false = behind

        more : (b : Bool) → every restricted (noted T r) ≡ true
        more b = unfold noted in (rw e (by (known_by same_use r T)))
