-- The cases of `normalise`: a short output, a refused image, an accepted one, and one that names no rule.
use Prim.Native.Nat.{ℕ, ◌≤◌, ◌<◌}
use mathlib.Core.Path.{◌≡◌, refl, sym, ap, ◌∙◌}
use mathlib.Core.Bool.{true, ◌&&◌}
use mathlib.Core.List.{List, [], ◌∷◌}
use native.Mathlib.Omega.{arith}
use lib.Dec.{eqb, leb}
use lib.ListN.{length}
use borrow.Author.Tests.{eqb-true, le-leb, lt-leb}
use Rattle.lists.specs.Lists.{joined}
use Rattle.lists.proofs.Bools.{and_0, and_1}
use Rattle.lists.specs.Conditions.{first_failed, ◌or_refuse◌}
use Rattle.lists.proofs.Conditions.{passed, failed}
use Rattle.answers.specs.Refusals.{lent_length}
use Rattle.fields.specs.Bytes.{Bytes, bytes_of, cut, records}
use Rattle.fields.specs.Writing.{Wrote}
use Rattle.image.specs.Limits.{output_bound}
use Rattle.image.specs.Image.{containers_in, users_in, part, policy_in, image_conditions, check_of}
use Rattle.image.specs.Normal.{Use, owned, place_uses, uses, numbered, written_by, written_uses, policy_of, normal_policy, spans_of, pair, header, framed, encode, normal_image}
use Rattle.image.proofs.AcceptedImage.{accepted_spans}
use Rattle.image.proofs.Decode.{accepted_sound}
use Rattle.normaliser.specs.Normaliser.{normal_conditions, normal_answer, normal_effect}
use Rattle.normaliser.specs.Writer.{policy_given}
use Rattle.normaliser.specs.Sections.{pair_bytes, header_bytes, owned_in, SectionsAccepted}
use Rattle.normaliser.proofs.FormRows.{owned_mixtures, owned_owners}
use Rattle.normaliser.proofs.WriterLaws.{normal_short}
use Rattle.normaliser.proofs.WrittenAnswers.{refused_answer, refused_effect, wrote_answer}

-- the refusal, 0 for none
abbrev pub normal_refusal : List ℕ → List ℕ → ℕ
normal_refusal i out = first_failed (normal_conditions i out)

pub refusal_short : (i out : List ℕ) → length out < output_bound → normal_refusal i out ≡ lent_length
unfolding normal_conditions
refusal_short i out h = failed (leb output_bound (length out) or_refuse lent_length) (image_conditions i) (lt-leb output_bound (length out) h)

pub refusal_image : (i out : List ℕ) → output_bound ≤ length out → normal_refusal i out ≡ check_of i
unfolding normal_conditions check_of
refusal_image i out h = passed (leb output_bound (length out) or_refuse lent_length) (image_conditions i) (le-leb output_bound (length out) h)

module _ (i out : List ℕ) where
  refused : {r : ℕ} → r ≡ normal_refusal i out → (r ≡ 0 → ⊥) → (r ≡ normal_answer i out) × (out ≡ normal_effect i out)
  unfolding normal_answer normal_effect
  refused {r} e d = (
    e ∙ sym (refused_answer (normal_refusal i out) (normal_image (policy_in i)) out (λ z. d (e ∙ z))),
    sym (refused_effect (normal_refusal i out) (normal_image (policy_in i)) out (λ z. d (e ∙ z))),
  )

  pub short_output : length out < output_bound → (lent_length ≡ normal_answer i out) × (out ≡ normal_effect i out)
  short_output h = refused (sym (refusal_short i out h)) (λ z. omega arith)

  pub image_refused : output_bound ≤ length out → {r : ℕ} → r ≡ check_of i → (r ≡ 0 → ⊥) → (r ≡ normal_answer i out) × (out ≡ normal_effect i out)
  image_refused l e d = refused (e ∙ sym (refusal_image i out l)) d

  pub image_written : output_bound ≤ length out → check_of i ≡ 0 → {n : ℕ} {after : List ℕ} → Wrote (normal_image (policy_in i)) out after 0 n
      → (n ≡ normal_answer i out) × (after ≡ normal_effect i out)
  unfolding normal_answer normal_effect
  image_written l e w = wrote_answer (refusal_image i out l ∙ e) w

-- what an image that is not refused gives
module _ (i : List ℕ) (e : check_of i ≡ 0) where
  pub sections_policy : policy_given (part i 0) (part i 1) (owned_in (part i 2) (part i 3)) ≡ policy_in i
  unfolding policy_given policy_in
  sections_policy =
      λ j. record {
        containers = containers_in (part i 0);
        users = users_in (part i 1);
        rules = owned_mixtures (part i 2) (part i 3) j;
        owners = owned_owners (part i 2) (part i 3) j;
      }

  module _ (b : Bytes i) where
    pub sections_accepted : SectionsAccepted (part i 0) (part i 1) (part i 2) (part i 3)
    sections_accepted = record { sound = rw sections_policy (accepted_sound i b e); spans = accepted_spans i e }

    pub written_small : {before after : List ℕ} {n : ℕ} → Wrote (normal_image (policy_in i)) before after 0 n → n ≤ output_bound
    written_small w = omega (arith, w.ends, normal_short (policy_in i) (accepted_sound i b e))

-- ---- a policy that names no rule

empty_policy : (rules : List Use) → normal_policy (policy_given [] [] rules) ≡ record { containers = []; users = []; rules = []; owners = [] }
unfolding normal_policy policy_of written_uses written_by uses place_uses numbered owned policy_given containers_in users_in records cut
empty_policy rules = refl

empty_image : (rules : List Use) → normal_image (policy_given [] [] rules) ≡ header_bytes 0 0 0 0
unfolding normal_image encode framed header pair spans_of joined header_bytes pair_bytes bytes_of
empty_image rules = ap encode (empty_policy rules)

no_bytes : (s : List ℕ) → length s ≡ 0 → s ≡ []
no_bytes [] h = refl
no_bytes (b ∷ s) h = absurd (omega arith)

pub header_alone : (containers users : List ℕ) (rules : List Use) {before after : List ℕ} {n : ℕ} → (eqb (length containers) 0 && eqb (length users) 0) ≡ true
    → Wrote (header_bytes 0 0 0 0) before after 0 n → Wrote (normal_image (policy_given containers users rules)) before after 0 n
header_alone containers users rules {before} {after} {n} h w =
    let c : containers ≡ [] = no_bytes containers (eqb-true (length containers) 0 (and_0 (eqb (length containers) 0) (eqb (length users) 0) h)) in
    let u : users ≡ [] = no_bytes users (eqb-true (length users) 0 (and_1 (eqb (length containers) 0) h)) in
    rw (c, u, empty_image rules) w
