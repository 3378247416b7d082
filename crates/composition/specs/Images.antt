-- Two images composed: what they are refused for, the answer, and the output afterwards (change request No. 11).
use Rattle.std.specs.Prelude.{ℕ, zero, suc, Bool, true, false, ◌&&◌, List, [], ◌∷◌, ◌++◌, Result, Ok, Err, eqb, leb, length}
use Rattle.lists.specs.Lists.{every}
use Rattle.lists.specs.Conditions.{Condition, ◌or_refuse◌, first_failed}
use Rattle.answers.specs.Refusals.{lent_length, composition_input, composition_limit}
use Rattle.answers.specs.declared.Refusal.{Refusal}
use Rattle.answers.specs.Outcomes.{refusal_number}
use Rattle.rules.specs.Answers.{mixture_limit}
use Rattle.image.specs.Limits.{output_bound, rule_limit}
use Rattle.image.specs.Policy.{Container, Policy}
use Rattle.image.specs.Image.{policy_in, image_conditions}
use Rattle.image.specs.Normal.{Use, Owned, owned, uses, policy_of, encode}
use Rattle.normaliser.specs.Normaliser.{written_unless}
use Rattle.composition.specs.Composed.{consent_good, consenting, composed_owned}

-- ---- the shapes of two policies: "containers differ in number, kind or atom, users differ in number"

unfoldable pub same_containers : List Container → List Container → Bool
same_containers [] [] = true
same_containers [] (d ∷ ds) = false
same_containers (c ∷ cs) [] = false
same_containers (c ∷ cs) (d ∷ ds) = eqb c.kind d.kind && (eqb c.atom d.atom && same_containers cs ds)

unfoldable pub same_shape : Policy → Policy → Bool
same_shape p q = same_containers p.containers q.containers && eqb (length p.users) (length q.users)

-- ---- what is written

-- what the composed policy owns
unfoldable pub composed : List ℕ → List ℕ → List ℕ → Owned
composed a b consent = composed_owned (consenting consent) (owned (policy_in a)) (owned (policy_in b))

-- "The normal image is written"
unfoldable pub composed_image : List ℕ → List ℕ → List ℕ → List ℕ
composed_image a b consent = encode (policy_of (composed a b consent))

-- a use whose rule has at most 8 mixtures
abbrev pub short_use : Use → Bool
short_use u = leb (length u.mixtures) mixture_limit

-- "a place has over 8 mixtures in normal form"
unfoldable pub uses_short : Owned → Bool
uses_short m = every short_use (uses m)

-- "over 256 rules are needed"
unfoldable pub rules_few : Owned → Bool
rules_few m = leb (length (policy_of m).rules) rule_limit

-- ---- what is refused

-- 20: "containers differ in number, kind or atom, users differ in number, the consent input is not 32 bytes, or a consent byte is neither 0
-- nor 1"
unfoldable pub input_good : List ℕ → List ℕ → List ℕ → Bool
input_good a b consent = same_shape (policy_in a) (policy_in b) && consent_good consent

-- 21: "a place has over 8 mixtures in normal form or over 256 rules are needed"
unfoldable pub limit_good : Owned → Bool
limit_good m = uses_short m && rules_few m

unfoldable pub pair_conditions : List ℕ → List ℕ → List ℕ → List Condition
pair_conditions a b consent =
    (input_good a b consent or_refuse composition_input) ∷ (limit_good (composed a b consent) or_refuse composition_limit) ∷ []

-- 9, as for every output; "the first image is judged before the second"; 20 and 21, "both after 6"
unfoldable pub compose_conditions : List ℕ → List ℕ → List ℕ → List ℕ → List Condition
compose_conditions a b consent out =
    (leb output_bound (length out) or_refuse lent_length) ∷ (image_conditions a ++ (image_conditions b ++ pair_conditions a b consent))

-- ---- the answer, and the output afterwards

-- the refusal, 0 if there is none, and the length of the image that was written; apart, for a length of 20 there is
pub record Composition : Type 0 where
  pub refusal : ℕ
  pub length : ℕ

-- the same as the function answers it
abbrev pub composition_of : Result ℕ Refusal → Composition
composition_of (Ok n) = record { refusal = 0; length = n }
composition_of (Err r) = record { refusal = refusal_number r; length = 0 }

unfoldable pub answer_unless : ℕ → List ℕ → Composition
answer_unless zero image = record { refusal = 0; length = length image }
answer_unless (suc n) image = record { refusal = suc n; length = 0 }

unfoldable pub compose_answer : List ℕ → List ℕ → List ℕ → List ℕ → Composition
compose_answer a b consent out = answer_unless (first_failed (compose_conditions a b consent out)) (composed_image a b consent)

unfoldable pub compose_effect : List ℕ → List ℕ → List ℕ → List ℕ → List ℕ
compose_effect a b consent out = written_unless (first_failed (compose_conditions a b consent out)) (composed_image a b consent) out
