-- The test of a rule: mixtures that ascend, none held by a later one.
use Prim.Native.Nat.{ℕ, zero, suc, ◌+◌, ◌-◌, ◌≤◌, ◌<◌}
use mathlib.Core.Path.{◌≡◌, refl, sym, ap, ◌∙◌}
use mathlib.Core.Bool.{Bool, true, false, not, ◌&&◌, ◌||◌}
use mathlib.Core.List.{List, [], ◌∷◌, ◌++◌}
use mathlib.Core.Logic.{◌⊎◌, inl, inr, ⊎_elim}
use native.Mathlib.Omega.{arith}
use native.Mathlib.Numerals.{add-one}
use lib.Bits.{bit_and}
use lib.ListN.{length, get_or, take, drop, drop_of_length-le}
use lib.Seq.{take-suc, take_all, drop-cons, take-add, length-take-le, get_or-take}
use lib.Dec.{ltb}
use borrow.Author.Tests.{ltb-true, ltb-false}
use Rattle.lists.proofs.Bools.{or_0, or_1, or_cases, or_none, or_assoc, clash, refuted}
use Rattle.rules.proofs.SetLaws.{holds_is, holds_not, holds_le}
use Rattle.lists.proofs.Elem.{elem_here, elem_there, elem_cases, elem_none}
use Rattle.rules.proofs.RuleLaws.{is_normal_lem, normal_ascends, normal_antichain}
use Rattle.rules.specs.Order.{Ascending, Antichain}
use Rattle.rules.specs.Sets.{holds}
use Rattle.lists.specs.Lists.{elem}
use Rattle.rules.specs.Rules.{normal}
use Rattle.rule_words.proofs.WordLaws.{normal_is, is_normal_of}
use Rattle.rule_words.specs.Words.{is_normal}
use Rattle.rule_words.specs.InPlace.{holds_one}

-- ---- one of l is held

module _ (l : List ℕ) (x i : ℕ) (inv : holds_one x (drop i l) ≡ holds_one x l) where
  held_turn : i < length l → holds_one x (drop i l) ≡ (holds x (get_or l i 0) || holds_one x (drop (i + 1) l))
  unfolding holds_one
  held_turn h = rw (add-one, drop-cons l i 0)

  pub held_found : i < length l → bit_and x (get_or l i 0) ≡ get_or l i 0 → true ≡ holds_one x l
  held_found h e = sym (rw (holds_is x (get_or l i 0) e) at (held_turn h)) ∙ inv

  pub held_passed : i < length l → (bit_and x (get_or l i 0) ≡ get_or l i 0 → ⊥) → holds_one x (drop (i + 1) l) ≡ holds_one x l
  held_passed h e = sym (rw (holds_not x (get_or l i 0) e) at (held_turn h)) ∙ inv

  pub held_none : length l ≤ i → false ≡ holds_one x l
  unfolding holds_one
  held_none h = rw (drop_of_length-le l h) at inv

held_by : (x m : ℕ) (l : List ℕ) → elem m l ≡ true → holds x m ≡ true → holds_one x l ≡ true
unfolding holds_one
held_by x m [] e h = elem_none m e
held_by x m (n ∷ l) e h = ⊎_elim (λ q. or_0 (holds x n) (holds_one x l) (rw (← q) h)) (λ q. or_1 (holds x n) (holds_one x l) (held_by x m l q h)) (elem_cases m n l e)

-- the mixtures in two parts
held_both : (x : ℕ) (l m : List ℕ) → holds_one x (l ++ m) ≡ (holds_one x l || holds_one x m)
unfolding holds_one
held_both x [] m = refl
held_both x (n ∷ l) m = ap (λ (t : Bool). holds x n || t) (held_both x l m) ∙ sym (or_assoc (holds x n) (holds_one x l) (holds_one x m))

module _ (x : ℕ) (r : List ℕ) (k j : ℕ) (h : k ≤ j) where
  held_parts : holds_one x (take j r) ≡ (holds_one x (take k r) || holds_one x (take (j - k) (drop k r)))
  held_parts =
      let e : j ≡ k + (j - k) = omega arith in
      ap (λ (i : ℕ). holds_one x (take i r)) e ∙ ap (holds_one x) (take-add k (j - k) r) ∙ held_both x (take k r) (take (j - k) (drop k r))

  pub held_first : holds_one x (take k r) ≡ true → holds_one x (take j r) ≡ true
  held_first f = held_parts ∙ rw f

  pub held_rest : holds_one x (take k r) ≡ false → holds_one x (take (j - k) (drop k r)) ≡ holds_one x (take j r)
  held_rest f = sym (rw f at held_parts)

pub record Held (x : ℕ) (l : List ℕ) : Type 0 where
  pub one : ℕ
  pub among : elem one l ≡ true
  pub under : holds x one ≡ true

held_one : (x : ℕ) (l : List ℕ) → holds_one x l ≡ true → Held x l
unfolding holds_one
held_one x [] h = clash h refl
held_one x (n ∷ l) h =
    ⊎_elim (λ q. record { one = n; among = elem_here n l; under = q })
    (λ q. let g : Held x l = held_one x l q in record { one = g.one; among = elem_there g.one n l g.among; under = g.under })
    (or_cases (holds x n) h)

-- ---- ascending, one at a time

elem_snoc_cases : (m n : ℕ) (r : List ℕ) → elem m (r ++ (n ∷ [])) ≡ true → (m ≡ n) ⊎ (elem m r ≡ true)
elem_snoc_cases m n [] h = elem_cases m n [] h
elem_snoc_cases m n (k ∷ r) h =
    ⊎_elim (λ p. inr (rw p (elem_here k r))) (λ q. ⊎_elim inl (λ s. inr (elem_there m k r s)) (elem_snoc_cases m n r q)) (elem_cases m k (r ++ (n ∷ [])) h)

asc_snoc : (l : List ℕ) (x : ℕ) → Ascending l → ((m : ℕ) → elem m l ≡ true → m < x) → Ascending (l ++ (x ∷ []))
asc_snoc [] x a f = ((λ n h. elem_none n h), tt)
asc_snoc (y ∷ l) x a f =
    ((λ n h. ⊎_elim (λ q. rw q (f y (elem_here y l))) (λ q. a.0 n q) (elem_snoc_cases n x l h)), asc_snoc l x a.1 (λ m h. f m (elem_there m y l h)))

anti_snoc : (l : List ℕ) (x : ℕ) → Antichain l → ((m : ℕ) → elem m l ≡ true → m < x) → holds_one x l ≡ false → Antichain (l ++ (x ∷ []))
anti_snoc l x a f e m n p q h =
    ⊎_elim
    (λ u. ⊎_elim (λ v. v ∙ sym u) (λ v. absurd (omega (arith, f n v, holds_le n m h))) (elem_snoc_cases n x l q))
    (λ u. ⊎_elim (λ v. clash (held_by x m l u (rw v at h)) e) (λ v. a m n u v h) (elem_snoc_cases n x l q))
    (elem_snoc_cases m x l p)

asc_at : (r : List ℕ) (i : ℕ) → Ascending r → suc i < length r → get_or r i 0 < get_or r (suc i) 0
asc_at [] i a h = absurd (omega arith)
asc_at (m ∷ []) i a h = absurd (omega arith)
asc_at (m ∷ n ∷ r) zero a h = a.0 n (elem_here n r)
asc_at (m ∷ n ∷ r) (suc i) a h = asc_at (n ∷ r) i a.1 (omega arith)

pub elem_at : (r : List ℕ) (i : ℕ) → i < length r → elem (get_or r i 0) r ≡ true
elem_at [] i h = absurd (omega arith)
elem_at (m ∷ r) zero h = elem_here m r
elem_at (m ∷ r) (suc i) h = elem_there (get_or r i 0) m r (elem_at r i (omega arith))

elem_take : (m i : ℕ) (r : List ℕ) → elem m (take i r) ≡ true → elem m r ≡ true
elem_take m zero r h = elem_none m h
elem_take m (suc i) [] h = h
elem_take m (suc i) (n ∷ r) h = ⊎_elim (λ q. rw q (elem_here n r)) (λ q. elem_there m n r (elem_take m i r q)) (elem_cases m n (take i r) h)

-- the first j mixtures rise, none holds another, and the last of them is the largest
pub record NormalFront (r : List ℕ) (j : ℕ) : Type 0 where
  pub some : 1 ≤ j
  pub asc : Ascending (take j r)
  pub anti : Antichain (take j r)
  pub below : (m : ℕ) → elem m (take j r) ≡ true → m ≤ get_or r (j - 1) 0

pub front_start : (r : List ℕ) → NormalFront r 1
front_start [] = record { some = omega arith; asc = tt; anti = λ m n p q h. elem_none m p; below = λ m h. elem_none m h }
front_start (x ∷ r) =
    record {
      some = omega arith;
      asc = ((λ n h. elem_none n h), tt);
      anti = λ m n p q h. ⊎_elim (λ e. ⊎_elim (λ f. e ∙ sym f) (λ f. elem_none m f) (elem_cases m x [] p)) (λ e. elem_none n e) (elem_cases n x [] q);
      below = λ m h. ⊎_elim (λ e. omega arith) (λ e. elem_none m e) (elem_cases m x [] h);
    }

-- the last of ascending mixtures is the largest
asc_last : (r : List ℕ) (m k : ℕ) → length r ≡ suc k → Ascending r → elem m r ≡ true → m ≤ get_or r k 0
asc_last [] m k l a h = elem_none m h
asc_last (x ∷ []) m zero l a h = ⊎_elim (λ e. omega arith) (λ e. elem_none m e) (elem_cases m x [] h)
asc_last (x ∷ []) m (suc k) l a h = absurd (omega arith)
asc_last (x ∷ y ∷ r) m zero l a h = absurd (omega arith)
asc_last (x ∷ y ∷ r) m (suc k) l a h =
    ⊎_elim
    (λ e. omega (arith, a.0 y (elem_here y r), asc_last (y ∷ r) y k (omega arith) a.1 (elem_here y r)))
    (λ e. asc_last (y ∷ r) m k (omega arith) a.1 e)
    (elem_cases m x (y ∷ r) h)

asc_take : (j : ℕ) (r : List ℕ) → Ascending r → Ascending (take j r)
asc_take zero r a = tt
asc_take (suc j) [] a = tt
asc_take (suc j) (m ∷ r) a = ((λ n h. a.0 n (elem_take n j r h)), asc_take j r a.1)

normal_eq : (r : List ℕ) → is_normal r ≡ true → r ≡ normal r
normal_eq r h = sym (normal_is r h)

-- mixtures that ascend, none holding another, are their own normal form
normal_by : (r : List ℕ) → Ascending r → Antichain r → is_normal r ≡ true
normal_by r a c = is_normal_of r (sym (is_normal_lem r r a c (λ t. refl)))

module _ (r : List ℕ) (j : ℕ) where
  pub front_not : is_normal (take j r) ≡ false → false ≡ is_normal r
  front_not f = sym (refuted (is_normal r) (λ k. clash (whole (rw (← normal_eq r k) at (normal_ascends r)) (rw (← normal_eq r k) at (normal_antichain r))) f))
    where
      whole : Ascending r → Antichain r → is_normal (take j r) ≡ true
      whole a c = normal_by (take j r) (asc_take j r a) (λ m n p q h. c m n (elem_take m j r p) (elem_take n j r q) h)

  pub front_of : 1 ≤ j → j ≤ length r → is_normal (take j r) ≡ true → NormalFront r j
  front_of p l k =
      let i : length (take j r) ≡ suc (j - 1) = omega (arith, length-take-le j r l) in
      let a : Ascending (take j r) = rw (← normal_eq (take j r) k) at (normal_ascends (take j r)) in
      record {
        some = p;
        asc = a;
        anti = rw (← normal_eq (take j r) k) at (normal_antichain (take j r));
        below = λ m h. omega (arith, get_or-take j r (j - 1) 0 (omega arith), asc_last (take j r) m (j - 1) i a h);
      }

module _ (r : List ℕ) (j : ℕ) (s : NormalFront r j) where
  pub front_end : length r ≤ j → true ≡ is_normal r
  front_end h =
      let q : take j r ≡ r = take_all j r h in
      sym (normal_by r (rw q at s.asc) (rw q at s.anti))

  module _ (h : j < length r) where
    pub front_falls : get_or r j 0 ≤ get_or r (j - 1) 0 → false ≡ is_normal r
    front_falls e = sym (refuted (is_normal r) (λ k. no (rw (← normal_eq r k) at (normal_ascends r))))
      where
        no : Ascending r → ⊥
        no a =
            let i : suc (j - 1) ≡ j = omega (arith, s.some) in
            let u : get_or r (j - 1) 0 < get_or r (suc (j - 1)) 0 = asc_at r (j - 1) a (omega (arith, s.some)) in
            omega (arith, rw i at u)

    module _ (e : get_or r (j - 1) 0 < get_or r j 0) where
      less : (m : ℕ) → elem m (take j r) ≡ true → m < get_or r j 0
      less m p = omega (arith, s.below m p)

      pub front_held : holds_one (get_or r j 0) (take j r) ≡ true → false ≡ is_normal r
      front_held g = sym (refuted (is_normal r) (λ k. no (rw (← normal_eq r k) at (normal_antichain r)) (held_one (get_or r j 0) (take j r) g)))
        where
          no : Antichain r → Held (get_or r j 0) (take j r) → ⊥
          no a w = omega (arith, less w.one w.among, a w.one (get_or r j 0) (elem_take w.one j r w.among) (elem_at r j h) w.under)

      pub front_next : holds_one (get_or r j 0) (take j r) ≡ false → NormalFront r (j + 1)
      front_next g =
          let q : take (j + 1) r ≡ take j r ++ (get_or r j 0 ∷ []) = ap (λ (k : ℕ). take k r) (add-one j) ∙ take-suc r j 0 h in
          let o : j + 1 - 1 ≡ j = omega arith in
          record {
            some = omega arith;
            asc = rw q (asc_snoc (take j r) (get_or r j 0) s.asc less);
            anti = rw q (anti_snoc (take j r) (get_or r j 0) s.anti less g);
            below = λ m p. rw o (⊎_elim (λ u. omega arith) (λ u. omega (arith, less m u)) (elem_snoc_cases m (get_or r j 0) (take j r) (rw q at p)));
          }

-- ---- a rule of few mixtures, from the front

-- the last mixture of a rule is larger than the one before it and holds none
front_last : (r : List ℕ) (j : ℕ) → 1 ≤ j → length r ≡ j + 1
    → is_normal r ≡ (is_normal (take j r) && (ltb (get_or r (j - 1) 0) (get_or r j 0) && not (holds_one (get_or r j 0) (take j r))))
front_last r j p e = by (is_normal (take j r)) (ltb (get_or r (j - 1) 0) (get_or r j 0)) (holds_one (get_or r j 0) (take j r)) refl refl refl
  where
    next : (h : Bool) → holds_one (get_or r j 0) (take j r) ≡ h → get_or r (j - 1) 0 < get_or r j 0 → NormalFront r j → is_normal r ≡ not h
    next true g u s = sym (front_held r j s (omega arith) u g)
    next false g u s = sym (front_end r (j + 1) (front_next r j s (omega arith) u g) (omega arith))

    by : (n l h : Bool) → is_normal (take j r) ≡ n → ltb (get_or r (j - 1) 0) (get_or r j 0) ≡ l → holds_one (get_or r j 0) (take j r) ≡ h → is_normal r ≡ (n && (l && not h))
    by false l h n u g = sym (front_not r j n)
    by true false h n u g = sym (front_falls r j (front_of r j p (omega arith) n) (omega arith) (ltb-false (get_or r (j - 1) 0) (get_or r j 0) u))
    by true true h n u g = next h g (ltb-true (get_or r (j - 1) 0) (get_or r j 0) u) (front_of r j p (omega arith) n)

single : (a : ℕ) → is_normal (a ∷ []) ≡ true
single a = sym (front_end (a ∷ []) 1 (front_start (a ∷ [])) (omega arith))

pub two_are : (a b : ℕ) → is_normal (a ∷ b ∷ []) ≡ (ltb a b && not (holds b a))
unfolding holds_one
two_are a b = front_last (a ∷ b ∷ []) 1 (omega arith) refl ∙ rw (single a, or_none (holds b a))

pub three_are : (a b c : ℕ) → is_normal (a ∷ b ∷ c ∷ []) ≡ (is_normal (a ∷ b ∷ []) && (is_normal (b ∷ c ∷ []) && not (holds c a)))
unfolding holds_one
three_are a b c =
    front_last (a ∷ b ∷ c ∷ []) 2 (omega arith) refl
    ∙ ap (λ (t : Bool). is_normal (a ∷ b ∷ []) && t) (apart (ltb b c) (holds c a) (holds c b) ∙ ap (λ (t : Bool). t && not (holds c a)) (sym (two_are b c)))
  where
    apart : (l x y : Bool) → (l && not (x || (y || false))) ≡ ((l && not y) && not x)
    apart false x y = refl
    apart true true true = refl
    apart true true false = refl
    apart true false true = refl
    apart true false false = refl

pub four_are : (a b c d : ℕ)
    → is_normal (a ∷ b ∷ c ∷ d ∷ []) ≡ (is_normal (a ∷ b ∷ c ∷ []) && (is_normal (c ∷ d ∷ []) && (not (holds d a) && not (holds d b))))
unfolding holds_one
four_are a b c d =
    front_last (a ∷ b ∷ c ∷ d ∷ []) 3 (omega arith) refl
    ∙ ap (λ (t : Bool). is_normal (a ∷ b ∷ c ∷ []) && t)
    (apart (ltb c d) (holds d a) (holds d b) (holds d c) ∙ ap (λ (t : Bool). t && (not (holds d a) && not (holds d b))) (sym (two_are c d)))
  where
    apart : (l x y z : Bool) → (l && not (x || (y || (z || false)))) ≡ ((l && not z) && (not x && not y))
    apart false x y z = refl
    apart true true y true = refl
    apart true true y false = refl
    apart true false true true = refl
    apart true false true false = refl
    apart true false false true = refl
    apart true false false false = refl
