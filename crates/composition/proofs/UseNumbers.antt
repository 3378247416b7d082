-- The rule numbers in use of an accepted image, one by one.
use Prim.Native.Nat.{ℕ, zero, suc, ◌+◌, ◌-◌, ◌*◌, ◌/◌, ◌%◌, ◌≤◌, ◌<◌}
use mathlib.Core.Path.{◌≡◌, refl, sym, ap, ap₂, ◌∙◌}
use mathlib.Core.Bool.{true}
use mathlib.Core.List.{List, [], ◌∷◌, ◌++◌, map, map-append}
use native.Mathlib.Omega.{arith}
use lib.ListN.{length, get_or, take, drop, length-append, length-map, get_or-append}
use Rattle.lists.specs.Lists.{every}
use Rattle.lists.proofs.Every.{every_0, every_1, every_nil, every_cons, every_append, every_get_d}
use Rattle.lists.proofs.Places.{map_at}
use Rattle.fields.specs.Bytes.{number_in, field}
use Rattle.fields.proofs.FieldLaws.{field_record}
use Rattle.fields.proofs.SectionRecords.{record_at}
use Rattle.image.specs.Limits.{container_size, user_size, rule_size, size8, size16, container_kind_at, container_atom_at, container_permit_at, container_run_at}
use Rattle.image.specs.Policy.{Container, Policy, named, container_good}
use Rattle.image.specs.Image.{part, container_in, containers_in, users_in, policy_in, check_of}
use Rattle.image.specs.Normal.{Use, use_at, owned_place, owned, place_uses, uses, free_use}
use Rattle.image.proofs.AcceptedImage.{accepted_containers, accepted_users}
use Rattle.image.proofs.RecordsByPlace.{containers_count, users_count, rules_count}
use Rattle.image.proofs.WrittenMeaning.{container_named}
use Rattle.normaliser.specs.Writer.{container_uses}
use Rattle.composition.specs.Tables.{used_numbers, Paired, pair_uses, use_count}
use Rattle.composition.specs.Composed.{composed_use}
use Rattle.composition.proofs.UseLaws.{Matched, alike_uses, uses_at, uses_count}
use Rattle.composition.proofs.ImageLaws.{matched}

-- ---- the numbers of containers

abbrev pub no_container : Container
no_container = record { kind = 0; atom = 0; permit = 0; run = 0 }

numbers_count : (cs : List Container) → length (container_uses cs) ≡ 2 * length cs
unfolding container_uses
numbers_count [] = refl
numbers_count (c ∷ cs) = omega (arith, numbers_count cs)

permit_at : (cs : List Container) (i : ℕ) → i < length cs → get_or (container_uses cs) (2 * i) 0 ≡ (get_or cs i no_container).permit
unfolding container_uses
permit_at [] i l = absurd (omega arith)
permit_at (c ∷ cs) zero l = refl
permit_at (c ∷ cs) (suc i) l =
    let e : 2 * suc i ≡ suc (suc (2 * i)) = omega arith in
    ap (λ (k : ℕ). get_or (c.permit ∷ c.run ∷ container_uses cs) k 0) e ∙ permit_at cs i (omega arith)

run_at : (cs : List Container) (i : ℕ) → i < length cs → get_or (container_uses cs) (2 * i + 1) 0 ≡ (get_or cs i no_container).run
unfolding container_uses
run_at [] i l = absurd (omega arith)
run_at (c ∷ cs) zero l = refl
run_at (c ∷ cs) (suc i) l =
    let e : 2 * suc i + 1 ≡ suc (suc (2 * i + 1)) = omega arith in
    ap (λ (k : ℕ). get_or (c.permit ∷ c.run ∷ container_uses cs) k 0) e ∙ run_at cs i (omega arith)

module _ (s : List ℕ) (i : ℕ) (l : i < length s / container_size) where
  record_is : get_or (containers_in s) i no_container ≡ container_in (take container_size (drop (i * container_size) s))
  unfolding containers_in
  record_is = record_at container_in container_size i s no_container l

  pub kind_at : (get_or (containers_in s) i no_container).kind ≡ field s (i * container_size + container_kind_at) size8
  unfolding container_in
  kind_at = ap (λ (c : Container). c.kind) record_is ∙ field_record s (i * container_size) container_size container_kind_at size8 (omega arith)

  pub atom_at : (get_or (containers_in s) i no_container).atom ≡ field s (i * container_size + container_atom_at) size8
  unfolding container_in
  atom_at = ap (λ (c : Container). c.atom) record_is ∙ field_record s (i * container_size) container_size container_atom_at size8 (omega arith)

  permit_field : (get_or (containers_in s) i no_container).permit ≡ field s (i * container_size + container_permit_at) size16
  unfolding container_in
  permit_field = ap (λ (c : Container). c.permit) record_is ∙ field_record s (i * container_size) container_size container_permit_at size16 (omega arith)

  run_field : (get_or (containers_in s) i no_container).run ≡ field s (i * container_size + container_run_at) size16
  unfolding container_in
  run_field = ap (λ (c : Container). c.run) record_is ∙ field_record s (i * container_size) container_size container_run_at size16 (omega arith)

get_d_right : (xs ys : List ℕ) (k : ℕ) → get_or (xs ++ ys) (length xs + k) 0 ≡ get_or ys k 0
get_d_right [] ys k = let z : 0 + k ≡ k = omega arith in ap (λ (j : ℕ). get_or ys j 0) z
get_d_right (x ∷ xs) ys k =
    let e : suc (length xs) + k ≡ suc (length xs + k) = omega arith in ap (λ (j : ℕ). get_or (x ∷ xs ++ ys) j 0) e ∙ get_d_right xs ys k

module _ (a : List ℕ) where
  numbers_long : length (container_uses (containers_in (part a 0))) ≡ 2 * (length (part a 0) / container_size)
  numbers_long = omega (arith, numbers_count (containers_in (part a 0)), containers_count (part a 0))

  pub use_count_lem : use_count a ≡ 2 * (length (part a 0) / container_size) + length (part a 1) / user_size
  unfolding use_count used_numbers policy_in
  use_count_lem = omega (arith, length-append (container_uses (containers_in (part a 0))) (users_in (part a 1)), numbers_long, users_count (part a 1))

  module _ (k : ℕ) where
    pub number_permit : k < 2 * (length (part a 0) / container_size) → k % 2 ≡ 0 → {r : ℕ}
        → r ≡ field (part a 0) (k / 2 * container_size + container_permit_at) size16 → r ≡ get_or (used_numbers (policy_in a)) k 0
    unfolding used_numbers policy_in
    number_permit l e {r} f =
        let n : 2 * (k / 2) ≡ k = omega arith in
        let h : k / 2 < length (part a 0) / container_size = omega arith in
        f ∙ sym (get_or-append (container_uses (containers_in (part a 0))) (users_in (part a 1)) 0 k (omega (arith, numbers_long))
        ∙ ap (λ (j : ℕ). get_or (container_uses (containers_in (part a 0))) j 0) (sym n)
        ∙ permit_at (containers_in (part a 0)) (k / 2) (omega (arith, containers_count (part a 0))) ∙ permit_field (part a 0) (k / 2) h)

    pub number_run : k < 2 * (length (part a 0) / container_size) → (k % 2 ≡ 0 → ⊥) → {r : ℕ}
        → r ≡ field (part a 0) (k / 2 * container_size + container_run_at) size16 → r ≡ get_or (used_numbers (policy_in a)) k 0
    unfolding used_numbers policy_in
    number_run l d {r} f =
        let n : 2 * (k / 2) + 1 ≡ k = omega arith in
        let h : k / 2 < length (part a 0) / container_size = omega arith in
        f ∙ sym (get_or-append (container_uses (containers_in (part a 0))) (users_in (part a 1)) 0 k (omega (arith, numbers_long))
        ∙ ap (λ (j : ℕ). get_or (container_uses (containers_in (part a 0))) j 0) (sym n)
        ∙ run_at (containers_in (part a 0)) (k / 2) (omega (arith, containers_count (part a 0))) ∙ run_field (part a 0) (k / 2) h)

    pub number_user : 2 * (length (part a 0) / container_size) ≤ k → k < use_count a → {r : ℕ}
        → r ≡ field (part a 1) ((k - 2 * (length (part a 0) / container_size)) * user_size) size16 → r ≡ get_or (used_numbers (policy_in a)) k 0
    unfolding used_numbers policy_in users_in field
    number_user l h {r} f =
        let n : length (container_uses (containers_in (part a 0))) + (k - 2 * (length (part a 0) / container_size)) ≡ k = omega (arith, numbers_long) in
        f ∙ sym (ap (λ (j : ℕ). get_or (container_uses (containers_in (part a 0)) ++ users_in (part a 1)) j 0) (sym n)
        ∙ get_d_right (container_uses (containers_in (part a 0))) (users_in (part a 1)) (k - 2 * (length (part a 0) / container_size))
        ∙ record_at number_in user_size (k - 2 * (length (part a 0) / container_size)) (part a 1) 0 (omega (arith, use_count_lem)))

-- ---- each names a rule

numbers_named : (n : ℕ) (cs : List Container) → every (container_good n) cs ≡ true → every (named n) (container_uses cs) ≡ true
unfolding container_uses
numbers_named n [] h = every_nil (named n)
numbers_named n (c ∷ cs) h =
    let g = container_named n c (every_0 (container_good n) c cs h) in
    every_cons (named n) c.permit (c.run ∷ container_uses cs) g.0
    (every_cons (named n) c.run (container_uses cs) g.1 (numbers_named n cs (every_1 (container_good n) c cs h)))

module _ (a : List ℕ) (e : check_of a ≡ 0) where
  all_named : every (named (length (part a 2) / rule_size)) (used_numbers (policy_in a)) ≡ true
  unfolding used_numbers policy_in
  all_named =
      every_append (named (length (part a 2) / rule_size)) (container_uses (containers_in (part a 0))) (users_in (part a 1))
      (numbers_named (length (part a 2) / rule_size) (containers_in (part a 0)) (accepted_containers a e)) (accepted_users a e)

  pub number_named : (k : ℕ) → k < use_count a → {n : ℕ} → n ≡ get_or (used_numbers (policy_in a)) k 0 → named (length (policy_in a).rules) n ≡ true
  unfolding use_count
  number_named k l {n} f =
      ap₂ named rules f ∙ every_get_d (named (length (part a 2) / rule_size)) (used_numbers (policy_in a)) k 0 l all_named
    where
      rules : length (policy_in a).rules ≡ length (part a 2) / rule_size
      rules = unfold policy_in in (rules_count (part a 2) (part a 3))

-- ---- the uses of a policy, by their numbers

places_numbers : (p : Policy) (cs : List Container) → place_uses (map (owned_place p) cs) ≡ map (use_at p) (container_uses cs)
unfolding place_uses owned_place container_uses
places_numbers p [] = refl
places_numbers p (c ∷ cs) = ap (λ (l : List Use). use_at p c.permit ∷ use_at p c.run ∷ l) (places_numbers p cs)

pub uses_numbers : (p : Policy) → uses (owned p) ≡ map (use_at p) (used_numbers p)
unfolding uses owned used_numbers
uses_numbers p =
    ap (λ (l : List Use). l ++ map (use_at p) p.users) (places_numbers p p.containers) ∙ sym (map-append (use_at p) (container_uses p.containers) p.users)

uses_long : (a : List ℕ) → length (uses (owned (policy_in a))) ≡ use_count a
unfolding use_count
uses_long a = ap length (uses_numbers (policy_in a)) ∙ length-map (used_numbers (policy_in a)) (use_at (policy_in a))

module _ (a b : List ℕ) (h : Paired a b) where
  uses_same : length (uses (owned (policy_in a))) ≡ length (uses (owned (policy_in b)))
  unfolding uses
  uses_same =
      let m : Matched (owned (policy_in a)) (owned (policy_in b)) = matched (policy_in a) (policy_in b) h.shape in
      omega (
        arith,
        length-append (place_uses (owned (policy_in a)).places) (owned (policy_in a)).users,
        length-append (place_uses (owned (policy_in b)).places) (owned (policy_in b)).users,
        alike_uses (owned (policy_in a)).places (owned (policy_in b)).places m.places,
        m.users,
      )

  pub counts_same : use_count a ≡ use_count b
  counts_same = sym (uses_long a) ∙ uses_same ∙ uses_long b

  pub pair_count : (c : ℕ) → length (pair_uses c a b) ≡ use_count a
  unfolding pair_uses
  pair_count c = uses_count c (uses (owned (policy_in a))) (uses (owned (policy_in b))) uses_same ∙ uses_long a

  use_here : (i : List ℕ) (k : ℕ) → k < use_count i → get_or (uses (owned (policy_in i))) k free_use ≡ use_at (policy_in i) (get_or (used_numbers (policy_in i)) k 0)
  unfolding use_count
  use_here i k l = ap (λ (x : List Use). get_or x k free_use) (uses_numbers (policy_in i)) ∙ map_at (use_at (policy_in i)) (used_numbers (policy_in i)) k 0 free_use l

  pub pair_at : (c k : ℕ) → k < use_count a → {i j : ℕ} → i ≡ get_or (used_numbers (policy_in a)) k 0 → j ≡ get_or (used_numbers (policy_in b)) k 0
      → composed_use c (use_at (policy_in a) i) (use_at (policy_in b) j) ≡ get_or (pair_uses c a b) k free_use
  unfolding pair_uses
  pair_at c k l {i} {j} p q =
      sym (uses_at c (uses (owned (policy_in a))) (uses (owned (policy_in b))) k (omega (arith, uses_long a)) (omega (arith, uses_long b, counts_same))
      ∙ ap₂ (composed_use c) (use_here a k l ∙ ap (use_at (policy_in a)) (sym p)) (use_here b k (omega (arith, counts_same)) ∙ ap (use_at (policy_in b)) (sym q)))
