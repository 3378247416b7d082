-- The image that is written of a text, and what a text is refused for (change request No. 1).
use Rattle.std.specs.Prelude.{ℕ, Bool, ◌&&◌, List, [], ◌∷◌, leb, length}
use Rattle.std.proofs.Math.Option.{Option, none, some}
use Rattle.lists.specs.Lists.{every}
use Rattle.lists.specs.Conditions.{Condition, ◌or_refuse◌, first_failed}
use Rattle.answers.specs.Refusals.{lent_length, profile_text, profile_limit}
use Rattle.rules.specs.Answers.{data_width, mixture_limit}
use Rattle.image.specs.Limits.{output_bound}
use Rattle.image.specs.Normal.{normal_image}
use Rattle.normaliser.specs.Normaliser.{length_unless, written_unless}
use Rattle.profiles.specs.Profiles.{Profile}
use Rattle.profiles.specs.Reading.{reading_of}
use Rattle.profiles.specs.Texts.{text_good}
use Rattle.confinement.specs.Confinement.{paths_of, rules_of, profile_policy}

-- the profiles of a text; none if it has no reading
unfoldable pub read_profiles : Option (List Profile) → List Profile
read_profiles none = []
read_profiles (some ps) = ps

unfoldable pub profiles_in : List ℕ → List Profile
profiles_in t = read_profiles (reading_of t)

-- "over 32 paths or a rule over 8 mixtures in normal form": a path for each data atom
unfoldable pub limits_good : List Profile → Bool
limits_good ps = leb (length (paths_of ps)) data_width && every (λ r. leb (length r) mixture_limit) (rules_of ps)

-- "16 when the text is too long, breaks the grammar or profiles a path twice, and 17 .., in that order after 9, which covers
-- this output too"
unfoldable pub profile_conditions : List ℕ → List ℕ → List Condition
profile_conditions t out =
    (leb output_bound (length out) or_refuse lent_length)
    ∷ (text_good t or_refuse profile_text)
    ∷ (limits_good (profiles_in t) or_refuse profile_limit)
    ∷ []

-- "the normal image is written"
unfoldable pub profile_image : List ℕ → List ℕ
profile_image t = normal_image (profile_policy (profiles_in t))

-- the refusal, 0 if there is none
abbrev pub profile_refusal : List ℕ → List ℕ → ℕ
profile_refusal t out = first_failed (profile_conditions t out)

-- the refusal, or the length of the image
unfoldable pub profile_answer : List ℕ → List ℕ → ℕ
profile_answer t out = length_unless (first_failed (profile_conditions t out)) (profile_image t)

unfoldable pub profile_effect : List ℕ → List ℕ → List ℕ
profile_effect t out = written_unless (first_failed (profile_conditions t out)) (profile_image t) out
