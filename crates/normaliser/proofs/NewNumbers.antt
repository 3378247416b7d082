-- The new numbers are those of the normal policy.
use Prim.Native.Nat.{ℕ, suc, ◌-◌, ◌*◌, ◌/◌, ◌≤◌, ◌<◌}
use mathlib.Core.Path.{◌≡◌, refl, sym, ap, ap₂, ◌∙◌}
use mathlib.Core.Bool.{Bool, true, false, not, cond, ◌&&◌, ◌||◌}
use mathlib.Core.List.{List, [], ◌∷◌, ◌++◌, map, map-append}
use mathlib.Core.Logic.{⊎_elim}
use native.Mathlib.Omega.{arith}
use lib.Dec.{eqb, ltb, leb}
use lib.ListN.{length, get_or, take, length-append, length-map}
use borrow.Author.Tests.{eq-eqb, ne_eqb, ltb-true, lt-ltb, le-leb, leb-true, not-true}
use Rattle.lists.proofs.Bools.{and_in, and_0, and_1, or_0, or_1, or_cases, clash}
use Rattle.lists.specs.Lists.{joined, every, known_by, position_by}
use Rattle.image.specs.Limits.{unrestricted_number}
use Rattle.rules.specs.Answers.{mixture_limit}
use Rattle.image.specs.Policy.{Container, Policy, named}
use Rattle.image.specs.Image.{containers_in, users_in}
use Rattle.image.specs.Normal.{Use, use_at, owned_place, owned, place_uses, uses, same_use, free_use, numbered, number_of, container_of}
use Rattle.lists.proofs.Every.{every_0, every_1, every_nil, every_cons, every_imp, every_append, every_left, every_right, every_both, every_map, map_back}
use Rattle.image.proofs.Numbering.{settled, all_settled, numbered_every, numbered_few, number_named, use_in, number_use}
use Rattle.normaliser.specs.Tables.{use_of, form_at, form_good, Classified, class_at, class_named, with_classes, place_in, Ordered, new_number, found}
use Rattle.normaliser.specs.Writer.{form_width, forms_in, policy_given, policy_at, container_uses, Tabled}
use Rattle.normaliser.specs.Sections.{renumbered}
use Rattle.normaliser.proofs.FirstUse.{classes_append}
use Rattle.image.proofs.RulesByNumber.{named_own}
use Rattle.normaliser.proofs.Classes.{settled_at, number_unrestricted, place_number, all_numbered, restricted, numbered_restricted}
use Rattle.normaliser.proofs.SectionRows.{uses_both}
use Rattle.normaliser.proofs.RuleForms.{short_use, forms_count, form_at_lem, form_short, count_form, class_at_lem, use_at_lem}

-- rules of at most 8 mixtures, one behind the other
joined_short : (rules : List (List ℕ)) → every (λ r. leb (length r) mixture_limit) rules ≡ true → length (joined rules) ≤ length rules * mixture_limit
unfolding joined
joined_short [] h = omega arith
joined_short (r ∷ rules) h =
    omega (
      arith,
      length-append r (joined rules),
      leb-true (length r) mixture_limit (every_0 (λ r. leb (length r) mixture_limit) r rules h),
      joined_short rules (every_1 (λ r. leb (length r) mixture_limit) r rules h),
    )

-- ---- the rule numbers in use

pub every_unmap : {A B : Type 0} (f : B → Bool) (e : A → B) (xs : List A) → every f (map e xs) ≡ true → every (λ x. f (e x)) xs ≡ true
every_unmap f e [] h = every_nil (λ x. f (e x))
every_unmap f e (x ∷ xs) h = every_cons (λ x. f (e x)) x xs (every_0 f (e x) (map e xs) h) (every_unmap f e xs (every_1 f (e x) (map e xs) h))

place_uses_lem : (p : Policy) (cs : List Container) → place_uses (map (owned_place p) cs) ≡ map (use_at p) (container_uses cs)
unfolding place_uses owned_place container_uses
place_uses_lem p [] = refl
place_uses_lem p (c ∷ cs) = ap (λ (l : List Use). use_at p c.permit ∷ use_at p c.run ∷ l) (place_uses_lem p cs)

wider : (m n v : ℕ) → m ≤ n → named m v ≡ true → named n v ≡ true
unfolding named
wider m n v l q =
    ⊎_elim (λ p. or_0 (ltb v n) (eqb v unrestricted_number) (lt-ltb v n (omega (arith, ltb-true v m p)))) (λ p. or_1 (ltb v n) (eqb v unrestricted_number) p)
    (or_cases (ltb v m) q)

module _ (containers users forms : List ℕ) (t : Tabled containers users forms) where
  abbrev pub F : List Use
  F = forms_in forms

  abbrev P : Policy
  P = policy_at containers users forms

  abbrev pub ks : List ℕ
  ks = container_uses (containers_in containers) ++ users_in users

  count_same : length (map (λ u. u.mixtures) F) ≡ length F
  count_same = length-map F (λ u. u.mixtures)

  few : length F ≤ unrestricted_number
  unfolding policy_at policy_given
  few = omega (arith, t.usable.few_rules, count_same)

  containers_named_lem : every (named (length F)) (container_uses (containers_in containers)) ≡ true
  unfolding policy_at policy_given
  containers_named_lem = rw count_same at t.usable.containers_named

  users_named_lem : every (named (length F)) (users_in users) ≡ true
  unfolding policy_at policy_given
  users_named_lem = rw count_same at t.usable.users_named

  pub all_named : every (named (length F)) ks ≡ true
  all_named = every_append (named (length F)) (container_uses (containers_in containers)) (users_in users) containers_named_lem users_named_lem

  -- the rules that are written
  pub T : List Use
  T = numbered [] (map (use_at P) ks)

  pub uses_are : numbered [] (uses (owned P)) ≡ T
  unfolding uses owned policy_at policy_given T
  uses_are =
      ap (numbered [])
      (ap (λ (l : List Use). l ++ map (use_at P) (users_in users)) (place_uses_lem P (containers_in containers))
      ∙ sym (map-append (use_at P) (container_uses (containers_in containers)) (users_in users)))

  settled_normal : (k : ℕ) → named (length F) k ≡ true → settled F (use_at P k) ≡ true
  settled_normal k h = rw (use_at_lem forms t.good containers users k h) (settled_at F k h)

  uses_settled : every (settled F) (map (use_at P) ks) ≡ true
  uses_settled = every_map (named (length F)) (settled F) (use_at P) ks settled_normal all_named

  T_settled : every (settled F) T ≡ true
  unfolding T
  T_settled = numbered_every (settled F) [] (map (use_at P) ks) (every_nil (settled F)) uses_settled

  T_restricted : every restricted T ≡ true
  unfolding T
  T_restricted = numbered_restricted (map (use_at P) ks) [] (every_nil restricted)

  pub T_few : length T ≤ length F
  unfolding T
  T_few = numbered_few (map (use_at P) ks) F uses_settled

  uses_placed : every (λ k. settled T (use_at P k)) ks ≡ true
  unfolding T
  uses_placed = every_unmap (settled T) (use_at P) ks (all_settled [] (map (use_at P) ks))

  -- ---- the tables

  form_good_lem : (v : ℕ) → v < length F → form_good forms v ≡ true
  unfolding form_good
  form_good_lem v l =
      let k : v < length forms / form_width = omega (arith, forms_count forms) in
      and_in (lt-ltb v (length forms / form_width) k)
      (le-leb (get_or forms (v * form_width) 0) mixture_limit (omega (arith, count_form forms t.good v k, form_short forms t.good v k)))

  number_small : (r : Use) → (settled F r && restricted r) ≡ true → number_of F r < length F
  unfolding restricted
  number_small r h =
      let a : settled F r ≡ true = and_0 (settled F r) (not (same_use r free_use)) h in
      let d : same_use r free_use ≡ false = not-true (same_use r free_use) (and_1 (settled F r) h) in
      named_own (length F) (number_of F r) (number_named F few r a)
      (λ e. clash (sym (number_unrestricted F few r a) ∙ eq-eqb (number_of F r) unrestricted_number e) d)

  T_both : every (λ r. settled F r && restricted r) T ≡ true
  T_both = every_both (settled F) restricted T T_settled T_restricted

  form_back : (r : Use) → (settled F r && restricted r) ≡ true → use_of forms (number_of F r) ≡ r
  form_back r h =
      let l : number_of F r < length F = number_small r h in
      let k : number_of F r < length forms / form_width = omega (arith, forms_count forms) in
      sym (form_at_lem forms (number_of F r) k) ∙ sym (some (number_of F r) (λ e. omega (arith, few))) ∙ number_use F few r (and_0 (settled F r) (restricted r) h)
    where
      some : (v : ℕ) → (v ≡ unrestricted_number → ⊥) → use_in F v ≡ get_or F v free_use
      some v d = unfold use_in in (rw (ne_eqb v unrestricted_number d))

  -- the rules by their classes are the rules that are written
  pub forms_back : map (use_of forms) (map (number_of F) T) ≡ T
  forms_back = map_back (λ r. settled F r && restricted r) (number_of F) (use_of forms) T form_back T_both

  rule_short : (r : Use) → (settled F r && restricted r) ≡ true → short_use r ≡ true
  unfolding form_at
  rule_short r h =
      let l : number_of F r < length F = number_small r h in
      let k : number_of F r < length forms / form_width = omega (arith, forms_count forms) in
      le-leb (length r.mixtures) mixture_limit (omega (arith, ap (λ (u : Use). length u.mixtures) (form_back r h), form_short forms t.good (number_of F r) k))

  pub T_short : length (joined (map (λ u. u.mixtures) T)) ≤ length T * mixture_limit
  T_short =
      omega (
        arith,
        joined_short (map (λ u. u.mixtures) T) (every_map (λ r. settled F r && restricted r) (λ r. leb (length r) mixture_limit) (λ u. u.mixtures) T rule_short T_both),
        length-map T (λ u. u.mixtures),
      )

  pub forms_good_lem : every (form_good forms) (map (number_of F) T) ≡ true
  forms_good_lem = every_map (λ r. settled F r && restricted r) (form_good forms) (number_of F) T (λ r h. form_good_lem (number_of F r) (number_small r h)) T_both

  module _ (classes : List ℕ) (told : Classified forms classes (length forms / form_width)) where
    class_normal : (k : ℕ) → named (length F) k ≡ true → class_at classes k ≡ number_of F (use_at P k)
    class_normal k h = class_at_lem forms t.good classes told k h ∙ ap (number_of F) (sym (use_at_lem forms t.good containers users k h))

    class_named_lem : (k : ℕ) → named (length F) k ≡ true → named (length F) (class_at classes k) ≡ true
    class_named_lem k h = rw (class_normal k h) (number_named F few (use_at P k) (settled_normal k h))

    pub all_classes : (w : ℕ) → length F ≤ length classes → length F ≤ w → every (class_named classes w) ks ≡ true
    all_classes w h l = every_imp (named (length F)) (class_named classes w) ks one all_named
      where
        one : (k : ℕ) → named (length F) k ≡ true → class_named classes w k ≡ true
        one k n = unfold class_named in (and_in (wider (length F) (length classes) k h n) (wider (length F) w (class_at classes k) l (class_named_lem k n)))

    -- the classes by first use are the numbers of the rules that are written
    pub order_is : with_classes (with_classes [] (map (class_at classes) (container_uses (containers_in containers)))) (map (class_at classes) (users_in users)) ≡ map (number_of F) T
    unfolding T
    order_is =
        sym (classes_append [] (map (class_at classes) (container_uses (containers_in containers))) (map (class_at classes) (users_in users)))
        ∙ ap (with_classes []) (sym (map-append (class_at classes) (container_uses (containers_in containers)) (users_in users)) ∙ same ks all_named)
        ∙ all_numbered F few (map (use_at P) ks) [] uses_settled (every_nil (settled F))
      where
        same : (l : List ℕ) → every (named (length F)) l ≡ true → map (class_at classes) l ≡ map (number_of F) (map (use_at P) l)
        same [] h = refl
        same (k ∷ l) h = ap₂ ◌∷◌ (class_normal k (every_0 (named (length F)) k l h)) (same l (every_1 (named (length F)) k l h))

    module _ (order ranks : List ℕ) (m : ℕ) (g : Ordered order ranks m) (e : take m order ≡ map (number_of F) T) (room : length F ≤ length ranks) where
      module _ (k : ℕ) (h : named (length F) k ≡ true) (s : settled T (use_at P k) ≡ true) where
        is_none : eqb (class_at classes k) unrestricted_number ≡ same_use (use_at P k) free_use
        is_none = ap (λ (v : ℕ). eqb v unrestricted_number) (class_normal k h) ∙ number_unrestricted F few (use_at P k) (settled_normal k h)

        known_some : same_use (use_at P k) free_use ≡ false → known_by same_use (use_at P k) T ≡ true
        unfolding settled
        known_some d = ⊎_elim (λ p. clash p d) (λ p. p) (or_cases (same_use (use_at P k) free_use) s)

        place_is : same_use (use_at P k) free_use ≡ false → get_or ranks (class_at classes k) 0 ≡ suc (position_by same_use (use_at P k) T)
        place_is d =
            let l : class_at classes k < length F = named_own (length F) (class_at classes k) (class_named_lem k h) (λ q. clash (sym is_none ∙ eq-eqb (class_at classes k) unrestricted_number q) d) in
            g.is (class_at classes k) (omega (arith, room))
            ∙ ap₂ place_in (class_normal k h) e
            ∙ place_number F few (use_at P k) T (settled_normal k h) T_settled
            ∙ ap (λ (b : Bool). cond b (suc (position_by same_use (use_at P k) T)) 0) (known_some d)

        number_at : new_number classes ranks k ≡ number_of T (use_at P k)
        unfolding new_number number_of
        number_at = ap (λ (b : Bool). cond b unrestricted_number (get_or ranks (class_at classes k) 0 - 1)) is_none ∙ by (same_use (use_at P k) free_use) refl
          where
            by : (b : Bool) → same_use (use_at P k) free_use ≡ b → cond b unrestricted_number (get_or ranks (class_at classes k) 0 - 1)
                ≡ cond b unrestricted_number (position_by same_use (use_at P k) T)
            by true d = refl
            by false d = omega (arith, place_is d)

        number_found : length F ≤ length classes → found classes ranks k ≡ true
        unfolding found
        number_found w =
            and_in (wider (length F) (length classes) k w h)
            (and_in (wider (length F) (length ranks) (class_at classes k) room (class_named_lem k h)) (by (same_use (use_at P k) free_use) refl))
          where
            by : (b : Bool) → same_use (use_at P k) free_use ≡ b → (eqb (class_at classes k) unrestricted_number || ltb 0 (get_or ranks (class_at classes k) 0)) ≡ true
            by true d = or_0 (eqb (class_at classes k) unrestricted_number) (ltb 0 (get_or ranks (class_at classes k) 0)) (is_none ∙ d)
            by false d = or_1 (eqb (class_at classes k) unrestricted_number) (ltb 0 (get_or ranks (class_at classes k) 0)) (lt-ltb 0 (get_or ranks (class_at classes k) 0) (omega (arith, place_is d)))

      -- k names a rule that is in the table
      abbrev known : ℕ → Bool
      known k = named (length F) k && settled T (use_at P k)

      both : every known ks ≡ true
      both = every_both (named (length F)) (λ k. settled T (use_at P k)) ks all_named uses_placed

      -- each use has its number
      pub all_found : length F ≤ length classes → every (found classes ranks) ks ≡ true
      all_found w = every_imp known (found classes ranks) ks
          (λ k h. number_found k (and_0 (named (length F) k) (settled T (use_at P k)) h) (and_1 (named (length F) k) h) w) both

      -- it is that of the normal policy
      pub containers_are : map (renumbered classes ranks) (containers_in containers) ≡ map (container_of T) (map (owned_place P) (containers_in containers))
      containers_are =
          go (containers_in containers)
          (uses_both known (containers_in containers) (every_left known (container_uses (containers_in containers)) (users_in users) both))
        where
          number : (k : ℕ) → known k ≡ true → new_number classes ranks k ≡ number_of T (use_at P k)
          number k h = number_at k (and_0 (named (length F) k) (settled T (use_at P k)) h) (and_1 (named (length F) k) h)

          one : (c : Container) → (known c.permit && known c.run) ≡ true → renumbered classes ranks c ≡ container_of T (owned_place P c)
          one c h =
              let permit = number c.permit (and_0 (known c.permit) (known c.run) h) in
              let run = number c.run (and_1 (known c.permit) h) in
              unfold renumbered container_of owned_place in
              (λ i. record { kind = c.kind; atom = c.atom; permit = permit i; run = run i })

          go : (cs : List Container) → every (λ c. known c.permit && known c.run) cs ≡ true
              → map (renumbered classes ranks) cs ≡ map (container_of T) (map (owned_place P) cs)
          go [] h = refl
          go (c ∷ cs) h =
              ap₂ ◌∷◌ (one c (every_0 (λ c. (named (length F) c.permit && settled T (use_at P c.permit)) && (named (length F) c.run && settled T (use_at P c.run))) c cs h))
              (go cs (every_1 (λ c. (named (length F) c.permit && settled T (use_at P c.permit)) && (named (length F) c.run && settled T (use_at P c.run))) c cs h))

      pub users_are : map (new_number classes ranks) (users_in users) ≡ map (number_of T) (map (use_at P) (users_in users))
      users_are = go (users_in users) (every_right (λ k. named (length F) k && settled T (use_at P k)) (container_uses (containers_in containers)) (users_in users) both)
        where
          go : (us : List ℕ) → every (λ k. named (length F) k && settled T (use_at P k)) us ≡ true → map (new_number classes ranks) us ≡ map (number_of T) (map (use_at P) us)
          go [] h = refl
          go (k ∷ us) h =
              let q : (named (length F) k && settled T (use_at P k)) ≡ true = every_0 (λ k. named (length F) k && settled T (use_at P k)) k us h in
              ap₂ ◌∷◌ (number_at k (and_0 (named (length F) k) (settled T (use_at P k)) q) (and_1 (named (length F) k) q))
              (go us (every_1 (λ k. named (length F) k && settled T (use_at P k)) k us h))
