-- What a host may rely on from one call to another: the bytes that `yaslaurel_image_normalise` and `yaslaurel_matrix_policy` leave at the
-- front of the output and the numbers that `yaslaurel_session_start` leaves in the session (the paper, "Normal image"; change requests
-- No. 8 and No. 10). The crates that are called have the rest.
use Prim.Native.Nat.{ℕ, ◌≤◌}
use mathlib.Core.Path.{◌≡◌}
use mathlib.Core.Logic.{◌↔◌}
use mathlib.Core.Bool.{true}
use mathlib.Core.List.{List}
use lib.Dec.{eqb}
use lib.ListN.{length, take}
use borrow.Author.Tests.{le-leb}
use Rattle.lists.specs.Lists.{every}
use Rattle.fields.specs.Bytes.{Bytes}
use Rattle.image.specs.Limits.{no_owner, output_bound}
use Rattle.image.specs.Image.{policy_in, check_of}
use Rattle.image.specs.Normal.{owners_at}
use Rattle.normaliser.specs.Normaliser.{normal_answer, normal_effect}
use Rattle.normaliser.proofs.Theorems.{normal_written, normal_fixed}
use Rattle.session.specs.Limits.{session_length}
use Rattle.session.specs.Session.{start_effect}
use Rattle.session.proofs.Theorems.{canonical_effect, normal_effect_lem, normal_owners}
use Rattle.matrix.specs.Flows.{matrix_good}
use Rattle.derivation.specs.Derived.{derived_answer, derived_effect}
use Rattle.derivation.proofs.Theorems.{derive_accepted, derive_written, derived_unowned}
use Rattle.profiles.specs.Texts.{text_good}
use Rattle.confinement.specs.Images.{profiles_in, limits_good, profile_image, profile_answer, profile_effect}
use Rattle.confinement.proofs.Theorems as profiles
use Rattle.records.specs.Records.{step_of}
use Rattle.monitor.specs.Runs.{run_answers}
use Rattle.silence.specs.Silent.{matrix_silence}
use Rattle.silence.specs.Sessions.{AllAllowed, no_alert}
use Rattle.silence.proofs.Theorems.{derived_starts, silent_started, silence_1}

-- the bytes that are left, as many as the answer says
abbrev pub normalised : List ℕ → List ℕ → List ℕ
normalised i out = take (normal_answer i out) (normal_effect i out)

-- two accepted images leave the same bytes exactly when they leave equal sessions and have the same owner at every use of a rule
pub canonical : (i j s t out out' : List ℕ) → Bytes i → Bytes j → check_of i ≡ 0 → check_of j ≡ 0
    → length s ≡ session_length → length t ≡ session_length → output_bound ≤ length out → output_bound ≤ length out'
    → (normalised i out ≡ normalised j out') ↔ ((start_effect i s ≡ start_effect j t) × (owners_at (policy_in i) ≡ owners_at (policy_in j)))
canonical i j s t out out' b d e f l m o p = rw (normal_written i out o e, normal_written j out' p f) (canonical_effect i j s t b d e f l m)

-- the bytes that are left start that session too
pub normalised_starts : (i s out : List ℕ) → Bytes i → check_of i ≡ 0 → length s ≡ session_length → output_bound ≤ length out
    → start_effect (normalised i out) s ≡ start_effect i s
normalised_starts i s out b e l o = rw (normal_written i out o e) (normal_effect_lem i s b e l)

-- have the same owner at every use of a rule
pub normalised_owners : (i out : List ℕ) → Bytes i → check_of i ≡ 0 → output_bound ≤ length out → owners_at (policy_in (normalised i out)) ≡ owners_at (policy_in i)
normalised_owners i out b e o = rw (normal_written i out o e) (normal_owners i b e)

-- and, normalised again, are the same bytes
pub normalised_again : (i out out' : List ℕ) → Bytes i → output_bound ≤ length out → output_bound ≤ length out' → check_of i ≡ 0
    → normalised (normalised i out) out' ≡ normalised i out
normalised_again = normal_fixed

-- the derived policy's bytes, as many as the answer says
abbrev pub derived : List ℕ → List ℕ → ℕ → List ℕ → List ℕ
derived reads writes objects out = take (derived_answer reads writes objects out) (derived_effect reads writes objects out)

-- no rule in these bytes has an owner
pub derived_nobody : (reads writes : List ℕ) (objects : ℕ) (out : List ℕ) → matrix_good reads writes objects ≡ true → output_bound ≤ length out
    → every (eqb no_owner) (policy_in (derived reads writes objects out)).owners ≡ true
derived_nobody reads writes objects out g o =
    rw (derive_written reads writes objects out ((derive_accepted reads writes objects out).1 (le-leb output_bound (length out) o, g)))
    (derived_unowned reads writes objects g)

-- nor in those of the policy that a text of profiles stands for
abbrev pub profiled : List ℕ → List ℕ → List ℕ
profiled text out = take (profile_answer text out) (profile_effect text out)

pub profiled_nobody : (text out : List ℕ) → output_bound ≤ length out → text_good text ≡ true → limits_good (profiles_in text) ≡ true
    → every (eqb no_owner) (policy_in (profiled text out)).owners ≡ true
profiled_nobody text out o g k =
    rw (profiles.derive_written text out ((profiles.derive_accepted text out).1 (le-leb output_bound (length out) o, (g, k))))
    (unfold profile_image in profiles.profile_unowned (profiles_in text) k)

-- a matrix that is not refused is answered 1 exactly when, on the session that those bytes start, no list of records that it allows
-- raises an alert
pub silent_exactly : (reads writes : List ℕ) (objects : ℕ) (out s : List ℕ) → matrix_good reads writes objects ≡ true
    → output_bound ≤ length out → length s ≡ session_length
    → (matrix_silence reads writes objects ≡ 1)
    ↔ ((rs : List (List ℕ)) → AllAllowed step_of reads writes objects rs → no_alert (run_answers (start_effect (derived reads writes objects out) s) rs) ≡ true)
silent_exactly reads writes objects out s g o l =
    rw (derive_written reads writes objects out ((derive_accepted reads writes objects out).1 (le-leb output_bound (length out) o, g)))
    (let e = silent_started reads writes objects g s ((derived_starts reads writes objects g s).1 l) in
    (λ n. e.0 ((silence_1 reads writes objects).0 n).1, λ h. (silence_1 reads writes objects).1 (g, e.1 h)))
