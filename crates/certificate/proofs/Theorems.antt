-- CERTIFICATES: what is proved of the rules that govern and of `why`. Read specs/Origins, specs/Whys and specs/Certified; everything else
-- serves these.
use Prim.Native.Nat.{ℕ, suc, ◌+◌, ◌<◌}
use native.Mathlib.Omega.{arith}
use mathlib.Core.Path.{◌≡◌}
use mathlib.Core.Bool.{true, false}
use mathlib.Core.List.{List, [], ◌∷◌}
use mathlib.Core.Logic.{◌↔◌, ◌≢◌}
use lib.ListN.{take, get_or}
use Rattle.lists.specs.Lists.{elem}
use Rattle.lists.specs.Conditions.{numbers_of, number_at}
use Rattle.lists.proofs.Bools.{or_1}
use Rattle.lists.proofs.Conditions.{given_exactly, given_among}
use Rattle.fields.specs.Bytes.{Bytes}
use Rattle.answers.specs.Refusals.{lent_length, image_length, sections, record_count, rule_record, container_record, user_rule, explain_trace}
use Rattle.answers.specs.declared.Answer.{Answer}
use Rattle.answers.specs.Answers.{is_alert, is_blocked, receiver_of, tag_of}
use Rattle.image.specs.Limits.{container_limit}
use Rattle.image.specs.Policy.{Policy}
use Rattle.image.specs.Image.{check_of, image_conditions, policy_in}
use Rattle.image.proofs.Decode.{accepted_sound}
use Rattle.session.specs.Session.{start_of}
use Rattle.chains.specs.History.{Step, History, ◌▸◌, receiver}
use Rattle.chains.specs.Chains.{Governs, Forbidden}
use Rattle.chains.specs.Demand.{judged, history_of, AcceptedAt, GivenAt}
use Rattle.records.specs.Records.{step_of}
use Rattle.records.specs.Traces.{trace_records}
use Rattle.monitor.specs.Runs.{step_on}
use Rattle.monitor.proofs.Theorems as monitor
use Rattle.monitor.proofs.Guarded as guarded
use Rattle.witness.specs.Told.{told_history, told_numbers}
use Rattle.witness.specs.Explains.{atom_found}
use Rattle.certificate.specs.Origins.{origin, From, Certificate}
use Rattle.certificate.specs.Whys.{answered, room_good, forbidden_last, why_conditions, why_refusal, why_effect, why_steps, why_links, why_count_at, why_atoms_at}
use Rattle.certificate.specs.Certified.{Certified}
use Rattle.certificate.proofs.OriginLaws as origins
use Rattle.certificate.proofs.CertifyLaws as laws
use Rattle.certificate.proofs.WhyCases as cases

-- The rules that govern a container are those of its origin, which is one number followed step by step.
pub governs_origin : (P : Policy) (h : History) (c : ℕ) (r : List ℕ) → Governs P h c r ↔ From P h (origin h c) r
governs_origin = origins.governs_from

-- A certificate shows that the container is forbidden what it holds.
pub certificate_right : (P : Policy) (h : History) (c : ℕ) → Certificate P h c → Forbidden P h c
certificate_right = origins.certificate_right

module _ (image : List ℕ) (bytes : Bytes image) (ok : check_of image ≡ 0) (rs : List (List ℕ)) (n : ℕ) (s : Step) (a : Answer) where
  -- Each alert has one: a governing rule by its origin and, for each mixture, an atom of the answered tag that it lacks.
  pub alert_certified : AcceptedAt step_on step_of (start_of (policy_in image)) rs n s a → judged s ≡ true → is_alert a ≡ true
      → Certificate (policy_in image) (history_of step_on step_of (start_of (policy_in image)) (take (suc n) rs)) (receiver s)
  alert_certified A j e =
      laws.certified_told (policy_in image) (accepted_sound image bytes ok) (history_of step_on step_of (start_of (policy_in image)) (take (suc n) rs)) (receiver s) (tag_of a)
      (monitor.tag_told image bytes ok rs n s a A).1 ((monitor.demand3 image bytes ok rs n s a A j).0 e)

  -- and each access that is blocked, in the history that it would have made.
  pub blocked_certified : GivenAt step_on step_of (start_of (policy_in image)) rs n s a → judged s ≡ true → is_blocked a ≡ true
      → Certificate (policy_in image) (history_of step_on step_of (start_of (policy_in image)) (take n rs) ▸ s) (receiver s)
  blocked_certified G j e =
      laws.certified_given (policy_in image) (accepted_sound image bytes ok) (history_of step_on step_of (start_of (policy_in image)) (take n rs)) s a
      (guarded.blocked_exactly image bytes ok rs n s a G j) (or_1 (is_alert a) (is_blocked a) e)

-- ---- what `why` answers

module _ (i t links steps out : List ℕ) (bytes : Bytes i) (z : why_refusal i t links steps out ≡ 0) where
  -- Where nothing is refused, what it leaves certifies the last answer: the rule with the sixth number is one of the receiver's origin, and
  -- comes from there as the numbers say, a run rule by the chain in the steps; each of its mixtures lacks the atom that is told of it, which is
  -- in the answered tag and reaches the receiver in the history of the explanation.
  pub why_certifies : Certified (policy_in i) (told_history (start_of (policy_in i)) (trace_records t)) (told_numbers (start_of (policy_in i)) (trace_records t)) (answered i t)
      (why_effect i t links steps out) (why_steps i t links steps out)
  why_certifies = laws.certifies i t links steps out bytes z

  -- so the receiver is forbidden what it holds or would have held
  pub why_certificate : Certificate (policy_in i) (told_history (start_of (policy_in i)) (trace_records t)) (receiver_of (answered i t))
  why_certificate = laws.last_certified i t bytes ((cases.none_refused i t links steps out).0 z).1 ((cases.none_refused i t links steps out).0 z).2

  -- and of each of these atoms `explain` tells a chain: it begins in a container
  pub why_explained : (k : ℕ) → k < get_or (why_effect i t links steps out) why_count_at 0 → (buffer : List ℕ)
      → (atom_found i t (receiver_of (answered i t)) (get_or (why_effect i t links steps out) (why_atoms_at + k) 0) buffer).file < container_limit
  why_explained = laws.explained i t links steps out bytes z

-- ---- each refusal has its condition, and is given only under it

module _ (i t links steps out : List ℕ) where
  pub refused_9 : (why_refusal i t links steps out ≡ lent_length) ↔ (room_good t links steps out ≡ false)
  unfolding why_refusal why_conditions image_conditions number_at numbers_of
  refused_9 = given_exactly (why_conditions i t links steps out) (cases.numbers i t links steps out) 0 (omega arith)

  -- 1 to 6 exactly where what is lent is long enough and the image is refused so
  pub refused_image : (n : ℕ) → n ≢ 0 → n ≢ lent_length → n ≢ explain_trace → (why_refusal i t links steps out ≡ n) ↔ ((room_good t links steps out ≡ true) × (check_of i ≡ n))
  refused_image = cases.image_refused i t links steps out

  -- 25 exactly where nothing else is refused and the last record is answered neither by an alert nor blocked, or there is none
  pub refused_25 : (why_refusal i t links steps out ≡ explain_trace) ↔ ((room_good t links steps out ≡ true) × (check_of i ≡ 0) × (forbidden_last i t ≡ false))
  refused_25 = cases.trace_refused i t links steps out

  pub accepted_exactly : (why_refusal i t links steps out ≡ 0) ↔ ((room_good t links steps out ≡ true) × (check_of i ≡ 0) × (forbidden_last i t ≡ true))
  accepted_exactly = cases.none_refused i t links steps out

  -- no other number is given
  pub refusals_among : elem (why_refusal i t links steps out) (0 ∷ lent_length ∷ image_length ∷ sections ∷ record_count ∷ rule_record ∷ container_record ∷ user_rule ∷ explain_trace ∷ []) ≡ true
  unfolding why_refusal why_conditions image_conditions numbers_of
  refusals_among = given_among (why_conditions i t links steps out)

  -- "A refusal .. changes no lent memory"
  pub why_refused : why_refusal i t links steps out ≢ 0
      → (why_effect i t links steps out ≡ out) × (why_steps i t links steps out ≡ steps) × (why_links i t links steps out ≡ links)
  why_refused = cases.refused_all i t links steps out
