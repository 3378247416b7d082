-- THE POLICY IMAGE: what is proved. Each statement is spelled out here and proved by a citation.
use Prim.Native.Nat.{ℕ, ◌/◌, ◌≤◌, ◌<◌}
use native.Mathlib.Omega.{arith}
use mathlib.Core.Path.{◌≡◌, refl, sym, ap, ◌∙◌}
use mathlib.Core.Bool.{true, false}
use mathlib.Core.List.{List, [], ◌∷◌, map}
use mathlib.Core.Logic.{◌↔◌, ◌≢◌}
use lib.ListN.{length, get_or}
use Rattle.lists.specs.Lists.{elem, every, known_by, position_by}
use Rattle.lists.specs.Conditions.{numbers_of, number_at}
use Rattle.lists.proofs.Conditions.{given_among}
use Rattle.lists.proofs.Bools.{clash}
use Rattle.lists.proofs.Known.{known_every}
use Rattle.answers.specs.Refusals.{image_length, sections, record_count, rule_record, container_record, user_rule}
use Rattle.fields.specs.Bytes.{Bytes}
use Rattle.rules.specs.Rules.{normal}
use Rattle.rule_words.proofs.WordLaws.{normal_is}
use Rattle.image.specs.Limits.{user_size, header_size, output_bound}
use Rattle.image.specs.Policy.{Policy, Sound, owner_good}
use Rattle.image.specs.Image.{part, owners_in, policy_in, rule_records_good, image_length_good, pairs_good, sections_good, rules_good, containers_good, users_good, image_conditions, check_of}
use Rattle.image.specs.Normal.{meaning, Owned, owned, uses, owners_at, same_use, free_use, written_uses, written_by, policy_of, normal_policy, encode, normal_image}
use Rattle.image.proofs.RuleRecordScan.{last_fails}
use Rattle.image.proofs.ImageRefusals.{refused_at, refused_by_none}
use Rattle.image.proofs.Encode as encoded
use Rattle.image.proofs.Decode as decoded
use Rattle.image.proofs.Numbering.{use_refl, use_eq}
use Rattle.image.proofs.WrittenOwners.{Ownable, owned_ownable, policy_sound, policy_owns}
use Rattle.image.proofs.OwnerLaws.{bare_of, meaning_owned}
use Rattle.image.proofs.FirstUses.{Firsts, firsts, use_normal, uses_normal}

-- ---- REFUSALS: an image is refused by a number exactly when its condition is the first of the six that fails

module _ (i : List ℕ) where
  pub refused_1 : (check_of i ≡ image_length) ↔ (image_length_good i ≡ false)
  unfolding image_conditions number_at numbers_of
  refused_1 = refused_at i 0 (omega arith)

  pub refused_2 : (check_of i ≡ sections) ↔ ((image_length_good i ≡ true) × (pairs_good i ≡ false))
  unfolding image_conditions number_at numbers_of
  refused_2 = refused_at i 1 (omega arith)

  pub refused_3 : (check_of i ≡ record_count) ↔ ((image_length_good i ≡ true) × ((pairs_good i ≡ true) × (sections_good i ≡ false)))
  unfolding image_conditions number_at numbers_of
  refused_3 = refused_at i 2 (omega arith)

  pub refused_4 : (check_of i ≡ rule_record) ↔ ((image_length_good i ≡ true) × ((pairs_good i ≡ true) × ((sections_good i ≡ true) × (rules_good i ≡ false))))
  unfolding image_conditions number_at numbers_of
  refused_4 = refused_at i 3 (omega arith)

  -- "a declared user or 65535 for nobody; 4 checks it" (change request No. 10), of every rule record, used or not
  pub refused_4_owner : image_length_good i ≡ true → pairs_good i ≡ true → sections_good i ≡ true
      → every (owner_good (length (part i 1) / user_size)) (owners_in (part i 2)) ≡ false → check_of i ≡ rule_record
  unfolding rules_good
  refused_4_owner a b c e =
      refused_4.1 (a, (b, (c, sym (last_fails (rule_records_good (part i 2) (part i 3)) (sym e)))))

  pub refused_5 : (check_of i ≡ container_record)
      ↔ ((image_length_good i ≡ true) × ((pairs_good i ≡ true) × ((sections_good i ≡ true) × ((rules_good i ≡ true) × (containers_good i ≡ false)))))
  unfolding image_conditions number_at numbers_of
  refused_5 = refused_at i 4 (omega arith)

  pub refused_6 : (check_of i ≡ user_rule)
      ↔ ((image_length_good i ≡ true) × ((pairs_good i ≡ true) × ((sections_good i ≡ true) × ((rules_good i ≡ true) × ((containers_good i ≡ true) × (users_good i ≡ false))))))
  unfolding image_conditions number_at numbers_of
  refused_6 = refused_at i 5 (omega arith)

  -- it is accepted exactly when all six hold
  pub not_refused : (check_of i ≡ 0)
      ↔ ((image_length_good i ≡ true) × ((pairs_good i ≡ true) × ((sections_good i ≡ true) × ((rules_good i ≡ true) × ((containers_good i ≡ true) × (users_good i ≡ true))))))
  unfolding image_conditions
  not_refused = refused_by_none i

  -- and no other number is given
  pub no_other : elem (check_of i) (0 ∷ image_length ∷ sections ∷ record_count ∷ rule_record ∷ container_record ∷ user_rule ∷ []) ≡ true
  unfolding check_of image_conditions numbers_of
  no_other = given_among (image_conditions i)

-- ---- IMAGES AND POLICIES

-- the bytes of every sound policy are accepted, and spell it
pub encode_accepted : (p : Policy) → Sound p → check_of (encode p) ≡ 0
encode_accepted = encoded.check_encode

pub encode_spells : (p : Policy) → Sound p → policy_in (encode p) ≡ p
encode_spells = encoded.policy_encode

-- what an accepted image spells is sound
pub accepted_sound : (i : List ℕ) → Bytes i → check_of i ≡ 0 → Sound (policy_in i)
accepted_sound = decoded.accepted_sound

-- ---- THE NORMAL IMAGE of an accepted image

module _ (i : List ℕ) (b : Bytes i) (e : check_of i ≡ 0) where
  ownable : Ownable (owned (policy_in i))
  ownable = owned_ownable (policy_in i) (accepted_sound i b e)

  normal_sound : Sound (normal_policy (policy_in i))
  unfolding normal_policy
  normal_sound = policy_sound (owned (policy_in i)) ownable

  -- it is accepted, and spells the normal policy
  pub normal_accepted : check_of (normal_image (policy_in i)) ≡ 0
  unfolding normal_image
  normal_accepted = encode_accepted (normal_policy (policy_in i)) normal_sound

  pub normal_spells : policy_in (normal_image (policy_in i)) ≡ normal_policy (policy_in i)
  unfolding normal_image
  normal_spells = encode_spells (normal_policy (policy_in i)) normal_sound

  -- it is bytes, at least the 18 of the header; "must hold 19,506 bytes"
  pub normal_bytes : Bytes (normal_image (policy_in i))
  unfolding normal_image
  normal_bytes = encoded.encode_bytes (normal_policy (policy_in i))

  pub normal_long : header_size ≤ length (normal_image (policy_in i))
  unfolding normal_image
  normal_long = omega (arith, encoded.encode_length (normal_policy (policy_in i)) normal_sound)

  pub normal_short : length (normal_image (policy_in i)) ≤ output_bound
  unfolding normal_image
  normal_short = encoded.encode_short (normal_policy (policy_in i)) normal_sound

  -- the normal policy owns the same, so it means the same and has the same owners
  pub normal_owned : owned (normal_policy (policy_in i)) ≡ owned (policy_in i)
  unfolding normal_policy
  normal_owned = policy_owns (owned (policy_in i)) ownable

  pub normal_means : meaning (normal_policy (policy_in i)) ≡ meaning (policy_in i)
  normal_means = meaning_owned (normal_policy (policy_in i)) ∙ ap bare_of normal_owned ∙ sym (meaning_owned (policy_in i))

  -- the owner at every use of a rule is kept
  pub normal_owners : owners_at (policy_in (normal_image (policy_in i))) ≡ owners_at (policy_in i)
  normal_owners = ap owners_at normal_spells ∙ (unfold owners_at in ap (λ (m : Owned). map (λ u. u.owner) (uses m)) normal_owned)

  -- it is its own normal image
  pub normal_fixed : normal_image (policy_in (normal_image (policy_in i))) ≡ normal_image (policy_in i)
  normal_fixed = ap normal_image normal_spells ∙ (unfold normal_image normal_policy in ap (λ (m : Owned). encode (policy_of m)) normal_owned)

-- ---- ITS RULES with their owners, of any policy: in the order of their first use among the containers' rules and then the users'

module _ (p : Policy) where
  rules_firsts : Firsts (written_uses (owned p)) (uses (owned p))
  unfolding written_uses
  rules_firsts = firsts (uses (owned p))

  -- these are the rules and the owners that are written
  pub rules_mixtures : (normal_policy p).rules ≡ map (λ u. u.mixtures) (written_uses (owned p))
  unfolding normal_policy policy_of written_by
  rules_mixtures = refl

  pub rules_owners : (normal_policy p).owners ≡ map (λ u. u.owner) (written_uses (owned p))
  unfolding normal_policy policy_of written_by
  rules_owners = refl

  -- "unused rules dropped"
  pub rules_used : (k : ℕ) → k < length (written_uses (owned p)) → known_by same_use (get_or (written_uses (owned p)) k free_use) (uses (owned p)) ≡ true
  rules_used = rules_firsts.used

  -- "rules in normal form"
  pub rules_normal : (k : ℕ) → k < length (written_uses (owned p)) → normal (get_or (written_uses (owned p)) k free_use).mixtures ≡ (get_or (written_uses (owned p)) k free_use).mixtures
  rules_normal k l =
      normal_is (get_or (written_uses (owned p)) k free_use).mixtures
      (unfold use_normal in known_every same_use use_eq use_normal (get_or (written_uses (owned p)) k free_use) (uses (owned p)) (rules_used k l) (uses_normal p))

  -- "An unrestricted rule becomes 65535 only without an owner": none that is written is unrestricted without an owner
  pub rules_restricted : (k : ℕ) → k < length (written_uses (owned p)) → get_or (written_uses (owned p)) k free_use ≢ free_use
  rules_restricted k l e = clash (rw e (use_refl free_use)) (rules_firsts.restricted k l)

  -- "numbered by first use"
  pub rules_rising : (j k : ℕ) → j < k → k < length (written_uses (owned p))
      → position_by same_use (get_or (written_uses (owned p)) j free_use) (uses (owned p)) < position_by same_use (get_or (written_uses (owned p)) k free_use) (uses (owned p))
  rules_rising = rules_firsts.rising

  -- "equal rules written once": equal in mixtures and owner
  pub rules_once : (j k : ℕ) → j < k → k < length (written_uses (owned p)) → get_or (written_uses (owned p)) j free_use ≢ get_or (written_uses (owned p)) k free_use
  rules_once j k l m e = let h = rules_rising j k l m in omega (arith, rw e at h)
