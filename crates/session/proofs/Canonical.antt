-- The normal image of a policy tells what the session that it starts and the owners at its uses of rules tell.
use Prim.Native.Nat.{ℕ}
use mathlib.Core.Path.{◌≡◌, sym, ap, ◌∙◌}
use mathlib.Core.List.{List}
use lib.ListN.{length}
use native.Mathlib.Omega.{arith}
use borrow.Author.Tests.{eq-eqb}
use Rattle.image.specs.Policy.{Policy, Sound}
use Rattle.image.specs.Image.{check_of, policy_in}
use Rattle.image.specs.Normal.{meaning, Owned, owned, owners_at, policy_of, normal_policy, encode, normal_image}
use Rattle.image.proofs.Encode.{check_encode, policy_encode}
use Rattle.image.proofs.WrittenMeaning.{Encodable, meaning_encodable}
use Rattle.image.proofs.WrittenOwners.{Ownable, owned_ownable, policy_sound, policy_owns}
use Rattle.image.proofs.OwnerLaws.{owned_parts}
use Rattle.session.specs.Limits.{session_length}
use Rattle.session.specs.Session.{session_of, start_of, start_answer, start_effect}
use Rattle.session.proofs.StartRefusals.{length_good, given_by_image}
use Rattle.session.proofs.StartedSession.{session_apart}

module _ (p : Policy) (h : Sound p) where
  encodable : Encodable (meaning p)
  encodable = meaning_encodable p h

  ownable : Ownable (owned p)
  ownable = owned_ownable p h

  normal_sound : Sound (normal_policy p)
  unfolding normal_policy
  normal_sound = policy_sound (owned p) ownable

  pub normal_check : check_of (normal_image p) ≡ 0
  unfolding normal_image
  normal_check = check_encode (normal_policy p) normal_sound

  normal_policy_lem : policy_in (normal_image p) ≡ normal_policy p
  unfolding normal_image
  normal_policy_lem = policy_encode (normal_policy p) normal_sound

  normal_owned : owned (normal_policy p) ≡ owned p
  unfolding normal_policy
  normal_owned = policy_owns (owned p) ownable

  pub normal_same_start : start_of (policy_in (normal_image p)) ≡ start_of p
  normal_same_start = ap start_of normal_policy_lem ∙ (unfold start_of in ap session_of ((owned_parts (normal_policy p) p).0 normal_owned).0)

  pub normal_same_owners : owners_at (policy_in (normal_image p)) ≡ owners_at p
  normal_same_owners = ap owners_at normal_policy_lem ∙ ((owned_parts (normal_policy p) p).0 normal_owned).1

module _ (p q : Policy) (h : Sound p) (k : Sound q) where
  pub same_start : normal_image p ≡ normal_image q → start_of p ≡ start_of q
  same_start e = sym (normal_same_start p h) ∙ ap (λ (i : List ℕ). start_of (policy_in i)) e ∙ normal_same_start q k

  pub same_owners : normal_image p ≡ normal_image q → owners_at p ≡ owners_at q
  same_owners e = sym (normal_same_owners p h) ∙ ap (λ (i : List ℕ). owners_at (policy_in i)) e ∙ normal_same_owners q k

  same_meaning : start_of p ≡ start_of q → meaning p ≡ meaning q
  unfolding start_of
  same_meaning e = session_apart (meaning p) (meaning q) (encodable p h) (encodable q k) e

  pub same_image : start_of p ≡ start_of q → owners_at p ≡ owners_at q → normal_image p ≡ normal_image q
  unfolding normal_image normal_policy
  same_image e f = ap (λ (m : Owned). encode (policy_of m)) ((owned_parts p q).1 (same_meaning e, f))

-- what a start that is not refused leaves
pub effect_start : (i s : List ℕ) → start_answer i s ≡ 0 → (check_of i ≡ 0) × (start_effect i s ≡ start_of (policy_in i))
unfolding start_effect
effect_start i s e = (((given_by_image i s 0 (λ z. omega arith)).0 e).1, rw (eq-eqb (start_answer i s) 0 e))

pub started_effect : (i s : List ℕ) → check_of i ≡ 0 → length s ≡ session_length → start_effect i s ≡ start_of (policy_in i)
started_effect i s e l = (effect_start i s ((given_by_image i s 0 (λ z. omega arith)).1 ((length_good s).1 l, e))).1
