-- What an image that is not refused has passed, in the words of those who read it.
use Prim.Native.Nat.{ℕ, zero, suc, ◌+◌, ◌/◌, ◌%◌, ◌≤◌, ◌<◌}
use mathlib.Core.Path.{◌≡◌}
use mathlib.Core.Bool.{true, ◌&&◌}
use mathlib.Core.List.{List}
use native.Mathlib.Omega.{arith}
use lib.Dec.{eqb, leb}
use lib.ListN.{length}
use borrow.Author.Tests.{leb-true}
use Rattle.lists.proofs.Bools.{and_0, and_1}
use Rattle.lists.specs.Lists.{every}
use Rattle.fields.specs.Bytes.{field}
use Rattle.image.specs.Limits.{
  section_count,
  container_limit,
  user_limit,
  rule_limit,
  mixture_total,
  container_size,
  user_size,
  rule_size,
  mixture_size,
  size16,
  leading_number,
  header_size,
  image_limit,
}
use Rattle.image.specs.Policy.{named, owner_good, container_good}
use Rattle.image.specs.Image.{
  offset,
  section_length,
  part,
  containers_in,
  users_in,
  owners_in,
  image_length_good,
  part_good,
  pairs_good,
  whole_good,
  sections_good,
  rule_records_good,
  rules_good,
  containers_good,
  users_good,
  image_conditions,
  check_of,
}
use Rattle.image.proofs.ImageRefusals.{refused_by_none}

-- ---- good pairs: each section ends within the image

part_end : (i : List ℕ) (from k : ℕ) → part_good i from k ≡ true → offset i k + section_length i k ≤ length i
unfolding part_good
part_end i from k h = leb-true (offset i k + section_length i k) (length i) (and_1 (leb from (offset i k)) h)

module _ (i : List ℕ) (h : pairs_good i ≡ true) where
  after_0 : (part_good i header_size 0 &&
      (part_good i (offset i 0 + section_length i 0) 1 && (part_good i (offset i 1 + section_length i 1) 2 && part_good i (offset i 2 + section_length i 2) 3))) ≡ true
  unfolding pairs_good
  after_0 = and_1 (eqb (field i 0 size16) leading_number) h

  after_1 : (part_good i (offset i 0 + section_length i 0) 1 && (part_good i (offset i 1 + section_length i 1) 2 && part_good i (offset i 2 + section_length i 2) 3)) ≡ true
  after_1 = and_1 (part_good i header_size 0) after_0

  after_2 : (part_good i (offset i 1 + section_length i 1) 2 && part_good i (offset i 2 + section_length i 2) 3) ≡ true
  after_2 = and_1 (part_good i (offset i 0 + section_length i 0) 1) after_1

  pub part_ends : (k : ℕ) → k < section_count → offset i k + section_length i k ≤ length i
  part_ends zero l = part_end i header_size 0 (and_0 (part_good i header_size 0) _ after_0)
  part_ends (suc zero) l = part_end i (offset i 0 + section_length i 0) 1 (and_0 (part_good i (offset i 0 + section_length i 0) 1) _ after_1)
  part_ends (suc (suc zero)) l = part_end i (offset i 1 + section_length i 1) 2 (and_0 (part_good i (offset i 1 + section_length i 1) 2) _ after_2)
  part_ends (suc (suc (suc zero))) l = part_end i (offset i 2 + section_length i 2) 3 (and_1 (part_good i (offset i 1 + section_length i 1) 2) after_2)
  part_ends (suc (suc (suc (suc k)))) l = absurd (omega arith)

-- ---- every test is passed

pub record Passes (i : List ℕ) : Type 0 where
  pub long : image_length_good i ≡ true
  pub pairs : pairs_good i ≡ true
  pub sections : sections_good i ≡ true
  pub rules : rules_good i ≡ true
  pub containers : containers_good i ≡ true
  pub users : users_good i ≡ true

pub passes : (i : List ℕ) → check_of i ≡ 0 → Passes i
unfolding image_conditions
passes i e =
    let h = (refused_by_none i).0 e in
    record { long = h.0; pairs = h.1.0; sections = h.1.1.0; rules = h.1.1.1.0; containers = h.1.1.1.1.0; users = h.1.1.1.1.1 }

whole_few : (w most : ℕ) (s : List ℕ) → whole_good w most s ≡ true → length s / w ≤ most
unfolding whole_good
whole_few w most s h = leb-true (length s / w) most (and_1 (eqb (length s % w) 0) h)

module _ (i : List ℕ) (e : check_of i ≡ 0) where
  tests : Passes i
  tests = passes i e

  pub accepted_long : header_size ≤ length i
  unfolding image_length_good
  accepted_long = leb-true header_size (length i) (and_0 (leb header_size (length i)) (leb (length i) image_limit) tests.long)

  -- section k can be lent
  pub accepted_section : (k : ℕ) → k < section_count → (header_size ≤ length i) × (k < section_count) × (offset i k + section_length i k ≤ length i)
  accepted_section k l = (accepted_long, l, part_ends i tests.pairs k l)

  pub accepted_spans : rule_records_good (part i 2) (part i 3) ≡ true
  unfolding rules_good
  accepted_spans =
      and_0 (rule_records_good (part i 2) (part i 3)) (every (owner_good (length (part i 1) / user_size)) (owners_in (part i 2))) tests.rules

  pub accepted_owners : every (owner_good (length (part i 1) / user_size)) (owners_in (part i 2)) ≡ true
  unfolding rules_good
  accepted_owners = and_1 (rule_records_good (part i 2) (part i 3)) tests.rules

  pub accepted_containers : every (container_good (length (part i 2) / rule_size)) (containers_in (part i 0)) ≡ true
  unfolding containers_good
  accepted_containers = tests.containers

  pub accepted_users : every (named (length (part i 2) / rule_size)) (users_in (part i 1)) ≡ true
  unfolding users_good
  accepted_users = tests.users

  pub few_containers_lem : length (part i 0) / container_size ≤ container_limit
  unfolding sections_good
  few_containers_lem = whole_few container_size container_limit (part i 0) (and_0 (whole_good container_size container_limit (part i 0)) _ tests.sections)

  after_containers : (whole_good user_size user_limit (part i 1) && (whole_good rule_size rule_limit (part i 2) && whole_good mixture_size mixture_total (part i 3))) ≡ true
  unfolding sections_good
  after_containers = and_1 (whole_good container_size container_limit (part i 0)) tests.sections

  pub few_users_lem : length (part i 1) / user_size ≤ user_limit
  few_users_lem = whole_few user_size user_limit (part i 1) (and_0 (whole_good user_size user_limit (part i 1)) _ after_containers)

  pub few_rules_lem : length (part i 2) / rule_size ≤ rule_limit
  few_rules_lem = whole_few rule_size rule_limit (part i 2) (and_0 (whole_good rule_size rule_limit (part i 2)) _ (and_1 (whole_good user_size user_limit (part i 1)) after_containers))
