-- The rules of an image by their numbers, in the image's own order.
use Prim.Native.Nat.{ℕ, zero, suc, ◌+◌, ◌-◌, ◌*◌, ◌/◌, ◌≤◌, ◌<◌}
use native.Mathlib.Omega.{arith}
use native.Mathlib.Decide.{dec_lt, ℕ_discrete}
use mathlib.Core.Path.{◌≡◌, refl, sym, ap, ◌∙◌}
use mathlib.Core.Bool.{Bool, true, false, not}
use mathlib.Core.List.{List, [], ◌∷◌, map}
use mathlib.Core.Option.{Option, none, some}
use lib.ListN.{length, take, drop, get_or, get_elem?, replicate, length-map, length-take, get_or-eq_default}
use borrow.Author.Tests.{eq-eqb, ne_eqb}
use Rattle.lists.proofs.Bools.{passes_test, fails_test}
use Rattle.lists.proofs.Copying.{Copied}
use Rattle.fields.specs.Bytes.{number_in, field, records}
use Rattle.fields.proofs.FieldLaws.{field_record}
use Rattle.fields.proofs.SectionRecords.{records_count, record_at}
use Rattle.rules.specs.declared.Bounded.{Bounded}
use Rattle.rules.specs.Rules.{covers, unrestricted}
use Rattle.rules.specs.Answers.{tag_width, mixture_limit, padded, bounded_of}
use Rattle.rules.proofs.BoundedLaws.{padded_take, padded_length, bounded_is}
use Rattle.image.specs.Limits.{container_size, user_size, rule_size, mixture_size, size8, size16, container_kind_at, container_permit_at}
use Rattle.image.specs.Limits.{container_run_at, rule_count_at, rule_owner_at, unrestricted_number, no_owner, is_file}
use Rattle.image.specs.Policy.{Container, unrestricted_rule, rule_at, owner_at}
use Rattle.image.specs.Image.{part, container_in, containers_in, users_in, rules_in, owners_in, mixtures_in, policy_in, check_of}
use Rattle.image.proofs.AcceptedImage.{accepted_spans}
use Rattle.image.proofs.RecordsByPlace.{containers_count, users_count, rules_count, owners_count, rule_fits, rule_at_lem, owner_at_lem}
use Rattle.image.proofs.RulesByNumber.{from_length}
use Rattle.certificate.specs.Whys.{permit_of, run_of, user_number, covers_by, run_forbids}
use Rattle.certificate.specs.Marks.{forbids_at}
use Rattle.certificate.proofs.NumbersLaws.{padded_end}

-- ---- a place of a list

pub element_there : {A : Type 0} (l : List A) (n : ℕ) (d : A) → n < length l → get_elem? l n ≡ some (get_or l n d)
element_there [] n d l = absurd (omega arith)
element_there (x ∷ xs) zero d l = refl
element_there (x ∷ xs) (suc n) d l = element_there xs n d (omega arith)

pub element_missing : {A : Type 0} (l : List A) (n : ℕ) → length l ≤ n → get_elem? l n ≡ none
element_missing [] n l = refl
element_missing (x ∷ xs) zero l = absurd (omega arith)
element_missing (x ∷ xs) (suc n) l = element_missing xs n (omega arith)

-- ---- users

module _ (i : List ℕ) (u : ℕ) where
  pub user_there : {s : List ℕ} {n : ℕ} → s ≡ part i 1 → u < length s / user_size → n ≡ field s (u * user_size) size16 → n ≡ user_number (policy_in i) u
  unfolding policy_in user_number users_in field
  user_there {s} {n} e l f =
      f ∙ ap (λ (x : List ℕ). number_in (take size16 (drop (u * user_size) x))) e
      ∙ sym (record_at number_in user_size u (part i 1) unrestricted_number (rw e at l))

  pub user_missed : {s : List ℕ} → s ≡ part i 1 → length s / user_size ≤ u → unrestricted_number ≡ user_number (policy_in i) u
  unfolding policy_in user_number
  user_missed {s} e l = sym (get_or-eq_default (users_in (part i 1)) unrestricted_number {n = u} (omega (arith, users_count (part i 1), ap length e, l)))

-- ---- containers

module _ (i : List ℕ) (c : ℕ) {s : List ℕ} (e : s ≡ part i 0) where
  abbrev Of : Option Container
  Of = get_elem? (policy_in i).containers c

  container_missing : length s / container_size ≤ c → get_elem? (policy_in i).containers c ≡ none
  unfolding policy_in
  container_missing l = element_missing (containers_in (part i 0)) c (omega (arith, containers_count (part i 0), ap length e, l))

  container_there : c < length s / container_size → get_elem? (policy_in i).containers c ≡ some (container_in (take container_size (drop (c * container_size) s)))
  unfolding policy_in containers_in
  container_there l =
      let m : c < length (part i 0) / container_size = omega (arith, ap length e, l) in
      let n : c < length (map container_in (records container_size (part i 0))) =
      omega (arith, m, length-map (records container_size (part i 0)) container_in, records_count container_size (part i 0)) in
      let d : Container = container_in [] in
      element_there (map container_in (records container_size (part i 0))) c d n
      ∙ ap some (record_at container_in container_size c (part i 0) d m)
      ∙ ap (λ (x : List ℕ). some (container_in (take container_size (drop (c * container_size) x)))) (sym e)

  pub permit_missed : length s / container_size ≤ c → unrestricted_number ≡ permit_of (get_elem? (policy_in i).containers c)
  permit_missed l = ap permit_of (sym (container_missing l))

  pub permit_there : {n : ℕ} → c < length s / container_size → n ≡ field s (c * container_size + container_permit_at) size16 → n ≡ permit_of (get_elem? (policy_in i).containers c)
  unfolding container_in
  permit_there {n} l f = f ∙ sym (ap permit_of (container_there l) ∙ field_record s (c * container_size) container_size container_permit_at size16 (omega arith))

  pub run_missed : length s / container_size ≤ c → unrestricted_number ≡ run_of (get_elem? (policy_in i).containers c)
  run_missed l = ap run_of (sym (container_missing l))

  pub run_there : {n : ℕ} → c < length s / container_size → n ≡ field s (c * container_size + container_run_at) size16 → n ≡ run_of (get_elem? (policy_in i).containers c)
  unfolding container_in
  run_there {n} l f = f ∙ sym (ap run_of (container_there l) ∙ field_record s (c * container_size) container_size container_run_at size16 (omega arith))

  -- ---- whether its run rule forbids

  pub forbids_missed : (t : ℕ) → length s / container_size ≤ c → false ≡ forbids_at (policy_in i) t (get_elem? (policy_in i).containers c)
  forbids_missed t l = ap (forbids_at (policy_in i) t) (sym (container_missing l))

  kind_there : {k : ℕ} → k ≡ field s (c * container_size + container_kind_at) size8 → k ≡ (container_in (take container_size (drop (c * container_size) s))).kind
  unfolding container_in
  kind_there {k} f = f ∙ sym (field_record s (c * container_size) container_size container_kind_at size8 (omega arith))

  pub forbids_no_file : (t : ℕ) {k : ℕ} {b : Bool} → c < length s / container_size → k ≡ field s (c * container_size + container_kind_at) size8 → b ≡ is_file k → not b ≡ true
      → false ≡ forbids_at (policy_in i) t (get_elem? (policy_in i).containers c)
  unfolding run_forbids
  forbids_no_file t {k} {b} l f g h =
      let q : is_file (container_in (take container_size (drop (c * container_size) s))).kind ≡ false = ap is_file (sym (kind_there f)) ∙ fails_test g h in
      rw (container_there l, q)

  pub forbids_file : (t : ℕ) {k n : ℕ} {b d : Bool} → c < length s / container_size → k ≡ field s (c * container_size + container_kind_at) size8 → b ≡ is_file k → not b ≡ false
      → n ≡ run_of (get_elem? (policy_in i).containers c) → d ≡ covers_by (policy_in i) n t → not d ≡ forbids_at (policy_in i) t (get_elem? (policy_in i).containers c)
  unfolding run_forbids
  forbids_file t {k} {n} {b} {d} l f g h r o =
      let q : is_file (container_in (take container_size (drop (c * container_size) s))).kind ≡ true = ap is_file (sym (kind_there f)) ∙ passes_test g h in
      let z : n ≡ (container_in (take container_size (drop (c * container_size) s))).run = r ∙ ap run_of (container_there l) in
      rw (container_there l, q, o, z)

-- ---- rules

module _ (i : List ℕ) (n : ℕ) where
  pub owner_nobody : n ≡ unrestricted_number → no_owner ≡ owner_at (policy_in i).owners n
  unfolding owner_at
  owner_nobody e = rw (eq-eqb n unrestricted_number e)

  module _ (d : n ≡ unrestricted_number → ⊥) {s : List ℕ} (e : s ≡ part i 2) where
    pub owner_missed : length s / rule_size ≤ n → no_owner ≡ owner_at (policy_in i).owners n
    unfolding owner_at policy_in
    owner_missed l =
        rw (ne_eqb n unrestricted_number d) (sym (get_or-eq_default (owners_in (part i 2)) no_owner {n = n} (omega (arith, owners_count (part i 2), ap length e, l))))

    pub owner_there : {x : ℕ} → n < length s / rule_size → x ≡ field s (n * rule_size + rule_owner_at) size16 → x ≡ owner_at (policy_in i).owners n
    unfolding owner_at policy_in
    owner_there {x} l f =
        rw (ne_eqb n unrestricted_number d) (f ∙ ap (λ (y : List ℕ). field y (n * rule_size + rule_owner_at) size16) e ∙ sym (owner_at_lem (part i 2) n (rw e at l)))

  -- the mixtures of the rule with the number n
  pub rule_all : n ≡ unrestricted_number → rule_at (policy_in i).rules n ≡ unrestricted tag_width
  unfolding rule_at unrestricted_rule
  rule_all e = rw (eq-eqb n unrestricted_number e)

  module _ (ok : check_of i ≡ 0) (d : n ≡ unrestricted_number → ⊥) where
    pub rule_missed : length (part i 2) / rule_size ≤ n → rule_at (policy_in i).rules n ≡ []
    unfolding rule_at policy_in
    rule_missed l = rw (ne_eqb n unrestricted_number d) (get_or-eq_default (rules_in (part i 2) (part i 3)) [] {n = n} (omega (arith, rules_count (part i 2) (part i 3), l)))

    pub rule_there : n < length (part i 2) / rule_size
        → rule_at (policy_in i).rules n ≡ take (field (part i 2) (n * rule_size + rule_count_at) size16) (drop (field (part i 2) (n * rule_size) size16) (mixtures_in (part i 3)))
    unfolding rule_at policy_in
    rule_there l = rw (ne_eqb n unrestricted_number d) (rule_at_lem (part i 2) (part i 3) (accepted_spans i ok) n l)

    pub rule_room : n < length (part i 2) / rule_size
        → (field (part i 2) (n * rule_size + rule_count_at) size16 ≤ mixture_limit)
        × (field (part i 2) (n * rule_size) size16 + field (part i 2) (n * rule_size + rule_count_at) size16 ≤ length (part i 3) / mixture_size)
    rule_room l = rule_fits (part i 2) (part i 3) (accepted_spans i ok) n l

  pub rule_short : check_of i ≡ 0 → length (rule_at (policy_in i).rules n) ≤ mixture_limit
  rule_short ok = on (ℕ_discrete n unrestricted_number) (dec_lt n (length (part i 2) / rule_size))
    where
      on : Dec (n ≡ unrestricted_number) → Dec (n < length (part i 2) / rule_size) → length (rule_at (policy_in i).rules n) ≤ mixture_limit
      on (yes e) x = rw (rule_all e) (unfold unrestricted in (omega arith))
      on (no d) (yes l) =
          rw (rule_there ok d l)
          (omega (arith, length-take (field (part i 2) (n * rule_size + rule_count_at) size16) (drop (field (part i 2) (n * rule_size) size16) (mixtures_in (part i 3))), rule_room ok d l))
      on (no d) (no l) = rw (rule_missed ok d (omega arith)) (omega arith)

-- ---- a rule at the 8 places for its mixtures

module _ (r : List ℕ) (l : length r ≤ mixture_limit) {b : Bounded} (e : b ≡ bounded_of r) where
  is_bounded : b ≡ record { count = length r; mixtures = padded r }
  unfolding bounded_of
  is_bounded = e

  pub bounded_count : b.count ≡ length r
  bounded_count = ap (λ (x : Bounded). x.count) is_bounded

  pub bounded_places : length b.mixtures ≡ mixture_limit
  bounded_places = ap (λ (x : Bounded). length x.mixtures) is_bounded ∙ padded_length r l

  pub bounded_take : take (b.count - 0) (drop 0 b.mixtures) ≡ r
  bounded_take =
      let z : length r - 0 ≡ length r = omega arith in
      ap (λ (x : Bounded). take (x.count - 0) (drop 0 x.mixtures)) is_bounded ∙ ap (λ (n : ℕ). take n (padded r)) z ∙ padded_take r (length r) refl

pub span_end : (m : List ℕ) (first count : ℕ) (out : List ℕ) (j : ℕ) → count ≤ mixture_limit → first + count ≤ length m / mixture_size
    → Copied (take count (drop first (mixtures_in m))) (replicate mixture_limit 0) out 0 j → count ≤ j
    → ◌≡◌ {A = Bounded} (record { count = count; mixtures = out }) (bounded_of (take count (drop first (mixtures_in m))))
span_end m first count out j l h g k =
    bounded_is (take count (drop first (mixtures_in m))) (take count (drop first (mixtures_in m))) out count refl (from_length m first count h)
    (padded_end (take count (drop first (mixtures_in m))) out j g (omega (arith, from_length m first count h, k)))

-- ---- as the code reads it

module _ (i : List ℕ) (n : ℕ) where
  pub told_all : {b : Bounded} → n ≡ unrestricted_number → b ≡ bounded_of (unrestricted tag_width) → b ≡ bounded_of (rule_at (policy_in i).rules n)
  told_all {b} e f = f ∙ ap bounded_of (sym (rule_all i n e))

  module _ (ok : check_of i ≡ 0) (d : n ≡ unrestricted_number → ⊥) {s m : List ℕ} (es : s ≡ part i 2) (em : m ≡ part i 3) where
    pub told_none : {b : Bounded} → length s / rule_size ≤ n → b ≡ bounded_of (take 0 (drop 0 (mixtures_in m))) → b ≡ bounded_of (rule_at (policy_in i).rules n)
    told_none {b} l f = f ∙ ap bounded_of (sym (rule_missed i n ok d (rw es at l)))

    module _ (l : n < length s / rule_size) {first count : ℕ} (ef : first ≡ field s (n * rule_size) size16) (ec : count ≡ field s (n * rule_size + rule_count_at) size16) where
      pub told_room : (count ≤ mixture_limit) × (first + count ≤ length m / mixture_size)
      told_room = rw (ef, ec, es, em) (rule_room i n ok d (rw es at l))

      pub told_some : {b : Bounded} → b ≡ bounded_of (take count (drop first (mixtures_in m))) → b ≡ bounded_of (rule_at (policy_in i).rules n)
      told_some {b} f = f ∙ ap bounded_of (rw (ef, ec, es, em) (sym (rule_there i n ok d (rw es at l))))

  module _ (ok : check_of i ≡ 0) {b : Bounded} (e : b ≡ bounded_of (rule_at (policy_in i).rules n)) where
    pub read_count : b.count ≤ mixture_limit
    read_count = omega (arith, bounded_count (rule_at (policy_in i).rules n) (rule_short i n ok) e, rule_short i n ok)

    pub read_places : length b.mixtures ≡ mixture_limit
    read_places = bounded_places (rule_at (policy_in i).rules n) (rule_short i n ok) e

    pub read_rule : take (b.count - 0) (drop 0 b.mixtures) ≡ rule_at (policy_in i).rules n
    read_rule = bounded_take (rule_at (policy_in i).rules n) (rule_short i n ok) e

    pub read_short : length (take (b.count - 0) (drop 0 b.mixtures)) ≤ mixture_limit
    read_short = omega (arith, length-take (b.count - 0) (drop 0 b.mixtures), read_count)

    pub read_covers : (t : ℕ) {r : Bool} → r ≡ covers (take (b.count - 0) (drop 0 b.mixtures)) t → r ≡ covers_by (policy_in i) n t
    unfolding covers_by
    read_covers t {r} f = f ∙ ap (λ (x : List ℕ). covers x t) read_rule
