-- The policy image: what it is refused for, and the policy that it spells (the paper, "Policy image" and "Refused because of the input").
use Rattle.std.specs.Prelude.{ℕ, ◌+◌, ◌/◌, ◌%◌, Bool, true, ◌&&◌, List, [], ◌∷◌, map, eqb, leb, length, take, drop}
use Rattle.fields.specs.Bytes.{number_in, field, records}
use Rattle.lists.specs.Lists.{every}
use Rattle.lists.specs.Conditions.{Condition, ◌or_refuse◌, first_failed}
use Rattle.answers.specs.Refusals.{image_length, sections, record_count, rule_record, container_record, user_rule}
use Rattle.rules.specs.Answers.{mixture_limit}
use Rattle.image.specs.Limits.{
  container_limit,
  user_limit,
  rule_limit,
  mixture_total,
  container_size,
  user_size,
  rule_size,
  mixture_size,
  size8,
  size16,
  container_kind_at,
  container_atom_at,
  container_permit_at,
  container_run_at,
  rule_first_at,
  rule_count_at,
  rule_owner_at,
  offset_at,
  size_at,
  leading_number,
  header_size,
  image_limit,
}
use Rattle.image.specs.Policy.{Container, Policy, container_good, named, owner_good}

-- ---- the four pairs and their sections: 0 containers, 1 users, 2 rules, 3 mixtures

unfoldable pub offset : List ℕ → ℕ → ℕ
offset i k = field i (offset_at k) size16

unfoldable pub section_length : List ℕ → ℕ → ℕ
section_length i k = field i (size_at k) size16

unfoldable pub part : List ℕ → ℕ → List ℕ
part i k = take (section_length i k) (drop (offset i k) i)

-- ---- the records

unfoldable pub container_in : List ℕ → Container
container_in r =
    record {
      kind = field r container_kind_at size8;
      atom = field r container_atom_at size8;
      permit = field r container_permit_at size16;
      run = field r container_run_at size16;
    }

-- a rule record: its first mixture, its count and its owner
pub record Span : Type 0 where
  pub first : ℕ
  pub count : ℕ
  pub owner : ℕ

unfoldable pub span_in : List ℕ → Span
span_in r = record { first = field r rule_first_at size16; count = field r rule_count_at size16; owner = field r rule_owner_at size16 }

unfoldable pub rule_in : List ℕ → Span → List ℕ
rule_in mixtures r = take r.count (drop r.first mixtures)

unfoldable pub containers_in : List ℕ → List Container
containers_in s = map container_in (records container_size s)

unfoldable pub users_in : List ℕ → List ℕ
users_in s = map number_in (records user_size s)

unfoldable pub spans_in : List ℕ → List Span
spans_in s = map span_in (records rule_size s)

unfoldable pub mixtures_in : List ℕ → List ℕ
mixtures_in s = map number_in (records mixture_size s)

-- the rules of the sections of rules and mixtures
unfoldable pub rules_in : List ℕ → List ℕ → List (List ℕ)
rules_in r m = map (rule_in (mixtures_in m)) (spans_in r)

-- the owners of the rules
unfoldable pub owners_in : List ℕ → List ℕ
owners_in r = map (λ s. s.owner) (spans_in r)

unfoldable pub policy_in : List ℕ → Policy
policy_in i =
    record {
      containers = containers_in (part i 0);
      users = users_in (part i 1);
      rules = rules_in (part i 2) (part i 3);
      owners = owners_in (part i 2);
    }

-- ---- the tests

-- 1: "image under 18 or over 20,480 bytes"
unfoldable pub image_length_good : List ℕ → Bool
image_length_good i = leb header_size (length i) && leb (length i) image_limit

-- "Each section starts at or after the previous end .. and ends within the image": section k, the previous end being given
unfoldable pub part_good : List ℕ → ℕ → ℕ → Bool
part_good i from k = leb from (offset i k) && leb (offset i k + section_length i k) (length i)

-- 2: the leading number "or the pairs"; "Every image now leads with a 16-bit 5, and 2 refuses the old 4" (change request No. 10)
unfoldable pub pairs_good : List ℕ → Bool
pairs_good i =
    eqb (field i 0 size16) leading_number
    && (part_good i header_size 0
    && (part_good i (offset i 0 + section_length i 0) 1
    && (part_good i (offset i 1 + section_length i 1) 2
    && part_good i (offset i 2 + section_length i 2) 3)))

-- a section has whole records of w bytes, and no more than most
unfoldable pub whole_good : ℕ → ℕ → List ℕ → Bool
whole_good w most s = eqb (length s % w) 0 && leb (length s / w) most

-- 3: "section length no multiple, or too many records"
unfoldable pub sections_good : List ℕ → Bool
sections_good i =
    whole_good container_size container_limit (part i 0)
    && (whole_good user_size user_limit (part i 1)
    && (whole_good rule_size rule_limit (part i 2) && whole_good mixture_size mixture_total (part i 3)))

-- 4: "firsts never fall, ranges may overlap, first plus count is at most the number of mixtures", among m mixtures
unfoldable pub spans_good : ℕ → ℕ → List Span → Bool
spans_good m from [] = true
spans_good m from (r ∷ rs) =
    leb from r.first && (leb r.count mixture_limit && (leb (r.first + r.count) m && spans_good m r.first rs))

-- so are the records of the section r of rules, among the mixtures of the section m: the rules of an image are accepted
unfoldable pub rule_records_good : List ℕ → List ℕ → Bool
rule_records_good r m = spans_good (length m / mixture_size) 0 (spans_in r)

-- and each owner is "a declared user or 65535 for nobody"
unfoldable pub rules_good : List ℕ → Bool
rules_good i = rule_records_good (part i 2) (part i 3) && every (owner_good (length (part i 1) / user_size)) (owners_in (part i 2))

-- 5: "container record"
unfoldable pub containers_good : List ℕ → Bool
containers_good i = every (container_good (length (part i 2) / rule_size)) (containers_in (part i 0))

-- 6: "user's rule number"
unfoldable pub users_good : List ℕ → Bool
users_good i = every (named (length (part i 2) / rule_size)) (users_in (part i 1))

-- "In this order"; each is judged for the whole image before the next
unfoldable pub image_conditions : List ℕ → List Condition
image_conditions i =
    (image_length_good i or_refuse image_length)
    ∷ (pairs_good i or_refuse sections)
    ∷ (sections_good i or_refuse record_count)
    ∷ (rules_good i or_refuse rule_record)
    ∷ (containers_good i or_refuse container_record)
    ∷ (users_good i or_refuse user_rule)
    ∷ []

-- the refusal of an image, 0 for none
unfoldable pub check_of : List ℕ → ℕ
check_of i = first_failed (image_conditions i)
