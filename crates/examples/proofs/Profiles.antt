-- The third demand for policies read from profiles (change request No. 1): it holds for the session that such a text's image starts,
-- with nothing more, and for the one that the bytes start which are left in the output.
use Prim.Native.Nat.{ℕ, ◌≤◌}
use mathlib.Core.Path.{◌≡◌, ◌∙◌, subst}
use mathlib.Core.Bool.{true}
use mathlib.Core.List.{List}
use lib.ListN.{length, take}
use borrow.Author.Tests.{eq-eqb}
use Rattle.image.specs.Limits.{header_size}
use Rattle.image.specs.Policy.{Policy}
use Rattle.image.specs.Image.{policy_in}
use Rattle.image.specs.Normal.{normal_policy, normal_image}
use Rattle.session.specs.Limits.{session_length}
use Rattle.session.specs.Session.{start_of, start_answer, start_effect, session_length_good}
use Rattle.session.proofs.StartRefusals.{length_passed}
use Rattle.chains.specs.Demand.{Demand3, TagTold}
use Rattle.records.specs.Records.{step_of}
use Rattle.monitor.specs.Runs.{step_on}
use Rattle.monitor.proofs.Theorems as monitor
use Rattle.profiles.specs.Profiles.{Profile}
use Rattle.lists.specs.Conditions.{first_failed}
use Rattle.confinement.specs.Confinement.{profile_policy}
use Rattle.confinement.specs.Images.{profiles_in, limits_good, profile_conditions, profile_image, profile_answer, profile_effect}
use Rattle.confinement.proofs.Theorems as confinement

module _ (ps : List Profile) (good : limits_good ps ≡ true) where
  read : policy_in (normal_image (profile_policy ps)) ≡ normal_policy (profile_policy ps)
  read = (confinement.profile_read ps good).1

  -- alerts
  pub profile_demand3 : Demand3 step_on step_of (start_of (normal_policy (profile_policy ps))) (normal_policy (profile_policy ps))
  profile_demand3 =
      subst (λ (p : Policy). Demand3 step_on step_of (start_of p) p) read
      (monitor.demand3 (normal_image (profile_policy ps)) (confinement.profile_bytes ps good) (confinement.profile_read ps good).0)

  -- tags
  pub profile_tag_told : TagTold step_on step_of (start_of (normal_policy (profile_policy ps))) (normal_policy (profile_policy ps))
  profile_tag_told =
      subst (λ (p : Policy). TagTold step_on step_of (start_of p) p) read
      (monitor.tag_told (normal_image (profile_policy ps)) (confinement.profile_bytes ps good) (confinement.profile_read ps good).0)

-- Of a text that is not refused: its image starts a session, whatever stood there.
module _ (text out lent : List ℕ) (accepted : first_failed (profile_conditions text out) ≡ 0) (long : length lent ≡ session_length) where
  good : limits_good (profiles_in text) ≡ true
  good = ((confinement.derive_accepted text out).0 accepted).1.1

  pub text_starts : start_answer (profile_image text) lent ≡ 0
  unfolding profile_image session_length_good
  text_starts = length_passed (profile_image text) lent (eq-eqb (length lent) session_length long) ∙ (confinement.profile_read (profiles_in text) good).0

  pub text_demand3 : Demand3 step_on step_of (start_effect (profile_image text) lent) (normal_policy (profile_policy (profiles_in text)))
  unfolding profile_image
  text_demand3 =
      subst (λ (p : Policy). Demand3 step_on step_of (start_effect (profile_image text) lent) p) (confinement.profile_read (profiles_in text) good).1
      (monitor.demand3_started (profile_image text) lent (confinement.profile_bytes (profiles_in text) good) text_starts)

  pub text_tag_told : TagTold step_on step_of (start_effect (profile_image text) lent) (normal_policy (profile_policy (profiles_in text)))
  unfolding profile_image
  text_tag_told =
      subst (λ (p : Policy). TagTold step_on step_of (start_effect (profile_image text) lent) p) (confinement.profile_read (profiles_in text) good).1
      (monitor.tag_told_started (profile_image text) lent (confinement.profile_bytes (profiles_in text) good) text_starts)

-- ---- what `yaslaurel_profiles_policy` leaves, handed to `yaslaurel_session_start`

-- the bytes that are left, as many as the answer says
abbrev pub written : List ℕ → List ℕ → List ℕ
written text out = take (profile_answer text out) (profile_effect text out)

-- if the answer is a length and no refusal
module _ (text out lent : List ℕ) (answered : header_size ≤ profile_answer text out) (long : length lent ≡ session_length) where
  accepted : first_failed (profile_conditions text out) ≡ 0
  accepted = (confinement.derive_length text out).0 answered

  is_image : written text out ≡ profile_image text
  is_image = confinement.derive_written text out accepted

  -- they start a session
  pub written_starts : start_answer (written text out) lent ≡ 0
  written_starts = rw is_image (text_starts text out lent accepted long)

  -- in which an alert is given exactly where the policy of the text forbids what the receiver holds
  pub written_demand3 : Demand3 step_on step_of (start_effect (written text out) lent) (normal_policy (profile_policy (profiles_in text)))
  written_demand3 = rw is_image (text_demand3 text out lent accepted long)

  -- and the tag answered is what it holds
  pub written_tag_told : TagTold step_on step_of (start_effect (written text out) lent) (normal_policy (profile_policy (profiles_in text)))
  written_tag_told = rw is_image (text_tag_told text out lent accepted long)
