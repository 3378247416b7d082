-- The records of a section: how many there are, and one by its place.
use Prim.Native.Nat.{ℕ, zero, suc, ◌+◌, ◌*◌, ◌/◌, ◌≤◌, ◌<◌}
use mathlib.Core.Path.{◌≡◌, refl, sym, ap, ◌∙◌}
use mathlib.Core.Bool.{true, ◌&&◌}
use mathlib.Core.List.{List, [], ◌∷◌, map}
use native.Mathlib.Omega.{arith}
use lib.Dec.{leb}
use lib.ListN.{length, get_or, take, drop, length-map}
use borrow.Author.Tests.{leb-true}
use Rattle.lists.proofs.Bools.{and_0, and_1}
use Rattle.fields.specs.Bytes.{number_in, field, records}
use Rattle.image.specs.Image.{Span, container_in, containers_in, users_in, span_in, spans_in, rule_in, rules_in, owners_in, mixtures_in, spans_good, rule_records_good}
use Rattle.fields.proofs.FieldLaws.{field_record}
use Rattle.fields.proofs.SectionRecords.{records_count, record_at}
use Rattle.lists.proofs.Places.{map_at}
use Rattle.image.specs.Limits.{container_size, user_size, rule_size, mixture_size, size16, rule_first_at, rule_count_at, rule_owner_at, no_owner}
use Rattle.rules.specs.Answers.{mixture_limit}

-- ---- how many there are

pub containers_count : (s : List ℕ) → length (containers_in s) ≡ length s / container_size
unfolding containers_in
containers_count s = length-map (records container_size s) container_in ∙ records_count container_size s

pub users_count : (s : List ℕ) → length (users_in s) ≡ length s / user_size
unfolding users_in
users_count s = length-map (records user_size s) number_in ∙ records_count user_size s

spans_count : (r : List ℕ) → length (spans_in r) ≡ length r / rule_size
unfolding spans_in
spans_count r = length-map (records rule_size r) span_in ∙ records_count rule_size r

pub rules_count : (r m : List ℕ) → length (rules_in r m) ≡ length r / rule_size
unfolding rules_in
rules_count r m = length-map (spans_in r) (rule_in (mixtures_in m)) ∙ spans_count r

pub owners_count : (r : List ℕ) → length (owners_in r) ≡ length r / rule_size
unfolding owners_in
owners_count r = length-map (spans_in r) (λ s. s.owner) ∙ spans_count r

pub mixtures_count : (m : List ℕ) → length (mixtures_in m) ≡ length m / mixture_size
unfolding mixtures_in
mixtures_count m = length-map (records mixture_size m) number_in ∙ records_count mixture_size m

-- ---- by place

pub mixture_at : (m : List ℕ) (k : ℕ) → k < length m / mixture_size → field m (k * mixture_size) mixture_size ≡ get_or (mixtures_in m) k 0
unfolding mixtures_in field
mixture_at m k h = sym (record_at number_in mixture_size k m 0 h)

-- the fields of rule record n
abbrev pub rule_first : List ℕ → ℕ → ℕ
rule_first r n = field r (n * rule_size) size16

abbrev pub rule_count : List ℕ → ℕ → ℕ
rule_count r n = field r (n * rule_size + rule_count_at) size16

abbrev pub rule_owner : List ℕ → ℕ → ℕ
rule_owner r n = field r (n * rule_size + rule_owner_at) size16

pub first_record : (r : List ℕ) (n : ℕ) → (span_in (take rule_size (drop (n * rule_size) r))).first ≡ rule_first r n
unfolding span_in
first_record r n =
    let z : n * rule_size + 0 ≡ n * rule_size = omega arith in
    field_record r (n * rule_size) rule_size rule_first_at size16 (omega arith) ∙ ap (λ (x : ℕ). field r x size16) z

pub count_record : (r : List ℕ) (n : ℕ) → (span_in (take rule_size (drop (n * rule_size) r))).count ≡ rule_count r n
unfolding span_in
count_record r n = field_record r (n * rule_size) rule_size rule_count_at size16 (omega arith)

pub owner_record : (r : List ℕ) (n : ℕ) → (span_in (take rule_size (drop (n * rule_size) r))).owner ≡ rule_owner r n
unfolding span_in
owner_record r n = field_record r (n * rule_size) rule_size rule_owner_at size16 (omega arith)

span_zero : Span
span_zero = record { first = 0; count = 0; owner = no_owner }

span_at : (r : List ℕ) (n : ℕ) → n < length r / rule_size
    → get_or (spans_in r) n span_zero ≡ record { first = rule_first r n; count = rule_count r n; owner = rule_owner r n }
unfolding spans_in
span_at r n h =
    record_at span_in rule_size n r span_zero h
    ∙ (λ i. record { first = first_record r n i; count = count_record r n i; owner = owner_record r n i })

good_at : (m from : ℕ) (rs : List Span) (n : ℕ) (d : Span) → spans_good m from rs ≡ true → n < length rs → ((get_or rs n d).count ≤ mixture_limit) × ((get_or rs n d).first + (get_or rs n d).count ≤ m)
unfolding spans_good
good_at m from [] n d h l = absurd (omega arith)
good_at m from (r ∷ rs) zero d h l =
    let g : (leb r.count mixture_limit && (leb (r.first + r.count) m && spans_good m r.first rs)) ≡ true = and_1 (leb from r.first) h in
    (leb-true r.count mixture_limit (and_0 (leb r.count mixture_limit) _ g), leb-true (r.first + r.count) m (and_0 (leb (r.first + r.count) m) _ (and_1 (leb r.count mixture_limit) g)))
good_at m from (r ∷ rs) (suc n) d h l =
    good_at m r.first rs n d (and_1 (leb (r.first + r.count) m) (and_1 (leb r.count mixture_limit) (and_1 (leb from r.first) h))) (omega arith)

module _ (r m : List ℕ) (h : rule_records_good r m ≡ true) (n : ℕ) (l : n < length r / rule_size) where
  inside : n < length (spans_in r)
  inside = omega (arith, spans_count r)

  pub rule_fits : (rule_count r n ≤ mixture_limit) × (rule_first r n + rule_count r n ≤ length m / mixture_size)
  unfolding rule_records_good
  rule_fits =
      let g = good_at (length m / mixture_size) 0 (spans_in r) n span_zero h inside in
      (rw (span_at r n l) at g.0, rw (span_at r n l) at g.1)

  pub rule_at_lem : get_or (rules_in r m) n [] ≡ take (rule_count r n) (drop (rule_first r n) (mixtures_in m))
  unfolding rules_in
  rule_at_lem = map_at (rule_in (mixtures_in m)) (spans_in r) n span_zero [] inside ∙ ap (rule_in (mixtures_in m)) (span_at r n l) ∙ (unfold rule_in in refl)

-- the owners, record by record
pub owners_are : (r : List ℕ) → owners_in r ≡ map (λ x. (span_in x).owner) (records rule_size r)
unfolding owners_in spans_in
owners_are r = by (records rule_size r)
  where
    by : (l : List (List ℕ)) → map (λ s. s.owner) (map span_in l) ≡ map (λ x. (span_in x).owner) l
    by [] = refl
    by (x ∷ l) = ap (λ (k : List ℕ). (span_in x).owner ∷ k) (by l)

-- the owner of rule n
pub owner_at_lem : (r : List ℕ) (n : ℕ) → n < length r / rule_size → get_or (owners_in r) n no_owner ≡ rule_owner r n
unfolding owners_in
owner_at_lem r n l = map_at (λ s. s.owner) (spans_in r) n span_zero no_owner (omega (arith, spans_count r)) ∙ ap (λ (s : Span). s.owner) (span_at r n l)
