-- What is proved of the policy that profiles stand for, stated in full. The proofs are in the files that are cited.
use Prim.Native.Nat.{ℕ, ◌+◌, ◌*◌, ◌^◌, ◌≤◌, ◌<◌}
use mathlib.Core.Path.{◌≡◌, refl, sym, ap, ◌∙◌}
use mathlib.Core.Logic.{◌⊎◌, ◌↔◌}
use native.Mathlib.Decide.{ℕ_discrete}
use native.Mathlib.Omega.{arith}
use lib.Dec.{eqb, leb, ltb}
use mathlib.Core.Bool.{true, false}
use mathlib.Core.List.{List, [], ◌∷◌, ◌++◌, Memᴰ}
use lib.ListN.{length, get_or, take}
use borrow.Author.Tests.{le-leb, ltb-true}
use Rattle.rules.specs.Sets.{atom}
use Rattle.rules.specs.Rules.{covers}
use Rattle.rules.specs.Answers.{data_width, tag_width}
use Rattle.fields.specs.Bytes.{Bytes}
use Rattle.image.specs.Limits.{file_kind, no_owner, header_size, output_bound}
use Rattle.image.specs.Policy.{unrestricted_rule, Sound}
use Rattle.image.specs.Image.{policy_in, check_of}
use Rattle.image.specs.Normal.{Meaning, process_place, meaning, owners_at, normal_policy, normal_image}
use Rattle.lists.specs.Lists.{every, elem, known, position}
use Rattle.lists.proofs.Bools.{and_in}
use Rattle.lists.proofs.Every.{every_elem}
use Rattle.lists.specs.Conditions.{Condition, first_failed, numbers_of, number_at, numbers_distinct}
use Rattle.lists.proofs.Conditions.{given_exactly, given_none, given_among}
use Rattle.answers.specs.Refusals.{lent_length, profile_text, profile_limit}
use Rattle.normaliser.proofs.WrittenAnswers.{through, refused_answer, answer_number, answer_length, answer_front}
use Rattle.normaliser.proofs.WriterLaws.{normal_long, normal_short}
use Rattle.profiles.specs.Profiles.{Mode, PathEntry, Profile}
use Rattle.profiles.specs.Texts.{Differ, profiled_once, text_good}
use Rattle.confinement.specs.Confinement.{names_of, paths_of, some_of, reading, executing, writing, unconfined, inheriting, confined, modes_on, run_mixture, rules_of, profile_policy}
use Rattle.confinement.specs.Images.{profiles_in, limits_good, profile_conditions, profile_image, profile_answer, profile_effect}
use Rattle.confinement.specs.Sentences.{Names, MayHold, SomeWith, NoneWith, Unprofiled}
use Rattle.confinement.proofs.PolicyLaws as policy
use Rattle.confinement.proofs.ProfileLaws as profile
use Rattle.confinement.proofs.RunMixtures as mixture
use Rattle.confinement.proofs.LineWalks as walks
use Rattle.confinement.proofs.PathOrder as order
use Rattle.confinement.proofs.LineModes as lines
use Rattle.confinement.proofs.RuleWords as words
use Rattle.confinement.proofs.PathsNamed.{profiles_known, paths_distinct}
use Rattle.confinement.proofs.ProfileLaws.{file_places}

-- ---- the answer

module _ (text out : List ℕ) where
  abbrev cs : List Condition
  cs = profile_conditions text out

  long : first_failed cs ≡ 0 → header_size ≤ length (profile_image text)
  unfolding profile_image
  long e = normal_long (profile_policy (profiles_in text)) (policy.profile_sound (profiles_in text) (unfold profile_conditions numbers_distinct numbers_of elem in ((given_none cs refl).0 e).1.1))

  derive_number : (k : ℕ) → 0 < k → k < header_size → (profile_answer text out ≡ k) ↔ (first_failed cs ≡ k)
  unfolding profile_answer
  derive_number k p l = by (ℕ_discrete (first_failed cs) 0)
    where
      by : Dec (first_failed cs ≡ 0) → (profile_answer text out ≡ k) ↔ (first_failed cs ≡ k)
      by (yes z) = answer_number (profile_image text) (long z) (first_failed cs) k p l
      by (no d) =
          let e = refused_answer (first_failed cs) (profile_image text) out d in
          ((λ h. sym e ∙ h), (λ h. e ∙ h))

  -- 9 exactly if the output is too short
  pub derive_9 : (profile_answer text out ≡ lent_length) ↔ (leb output_bound (length out) ≡ false)
  unfolding profile_conditions numbers_distinct numbers_of number_at elem
  derive_9 = through (derive_number lent_length (omega arith) (omega arith)) (given_exactly cs refl 0 (omega arith))

  -- 16 exactly if it is not, and the text is too long, breaks the grammar or profiles a path twice
  pub derive_16 : (profile_answer text out ≡ profile_text) ↔ ((leb output_bound (length out) ≡ true) × (text_good text ≡ false))
  unfolding profile_conditions numbers_distinct numbers_of number_at elem
  derive_16 = through (derive_number profile_text (omega arith) (omega arith)) (given_exactly cs refl 1 (omega arith))

  -- 17 exactly if neither is so, and the text has over 32 paths or a rule over 8 mixtures in normal form
  pub derive_17 : (profile_answer text out ≡ profile_limit)
      ↔ ((leb output_bound (length out) ≡ true) × ((text_good text ≡ true) × (limits_good (profiles_in text) ≡ false)))
  unfolding profile_conditions numbers_distinct numbers_of number_at elem
  derive_17 = through (derive_number profile_limit (omega arith) (omega arith)) (given_exactly cs refl 2 (omega arith))

  -- nothing is refused exactly if none of these is so; no other number is given
  pub derive_accepted : (first_failed cs ≡ 0)
      ↔ ((leb output_bound (length out) ≡ true) × ((text_good text ≡ true) × (limits_good (profiles_in text) ≡ true)))
  unfolding profile_conditions numbers_distinct numbers_of elem
  derive_accepted = given_none cs refl

  pub derive_among : elem (first_failed cs) (0 ∷ lent_length ∷ profile_text ∷ profile_limit ∷ []) ≡ true
  unfolding profile_conditions numbers_of
  derive_among = given_among cs

  -- nothing is refused exactly if the answer is at least the header's length: it is the image's length then
  pub derive_length : (header_size ≤ profile_answer text out) ↔ (first_failed cs ≡ 0)
  unfolding profile_answer
  derive_length = by (ℕ_discrete (first_failed cs) 0)
    where
      small : first_failed cs < header_size
      small = ltb-true (first_failed cs) header_size (every_elem (λ n. ltb n header_size) (0 ∷ lent_length ∷ profile_text ∷ profile_limit ∷ []) (first_failed cs) (unfold every in refl) derive_among)

      by : Dec (first_failed cs ≡ 0) → (header_size ≤ profile_answer text out) ↔ (first_failed cs ≡ 0)
      by (yes z) = answer_length (profile_image text) (long z) (first_failed cs) small
      by (no d) = ((λ h. absurd (omega (arith, refused_answer (first_failed cs) (profile_image text) out d, small))), (λ e. absurd (d e)))

  -- what it then leaves at the front of the output is the image
  pub derive_written : first_failed cs ≡ 0 → take (profile_answer text out) (profile_effect text out) ≡ profile_image text
  unfolding profile_answer profile_effect
  derive_written e = answer_front (first_failed cs) (profile_image text) out e

-- a text that is not refused by 16 profiles no path twice
pub text_once : (text : List ℕ) → text_good text ≡ true → profiled_once (profiles_in text) ≡ true
text_once = walks.good_once

-- ---- the paths: a path's place among them is its atom

module _ (ps : List Profile) where
  -- those that a profile names, its own or that of a line, and no other
  pub paths_exactly : (q : List ℕ) → (known q (paths_of ps) ≡ true) ↔ ((p : Profile) × Memᴰ p ps × Names p q)
  paths_exactly = order.paths_exactly ps

  -- none stands twice
  pub paths_once : Differ (paths_of ps)
  paths_once i j l m e = omega (arith, (paths_distinct ps).placed i (omega arith), (paths_distinct ps).placed j m, ap (λ (q : List ℕ). position q (paths_of ps)) e)

  -- in order of first appearance: one stands before another exactly if it is named first
  pub paths_order : (j k : ℕ) → j < length (paths_of ps) → k < length (paths_of ps)
      → (j < k) ↔ (position (get_or (paths_of ps) j []) (names_of ps) < position (get_or (paths_of ps) k []) (names_of ps))
  paths_order = order.paths_order ps

-- ---- the policy

-- the limits: at most 32 paths, and at most 8 mixtures in each rule in normal form
pub limits_exactly : (ps : List Profile) → (limits_good ps ≡ true) ↔ ((length (paths_of ps) ≤ 32) × (every (λ r. leb (length r) 8) (rules_of ps) ≡ true))
unfolding limits_good
limits_exactly ps = ((λ h. (policy.few_paths ps h, policy.short_rules ps h)), (λ h. and_in (le-leb (length (paths_of ps)) 32 h.0) h.1))

module _ (ps : List Profile) (good : limits_good ps ≡ true) where
  -- an image can spell it
  pub profile_sound : Sound (profile_policy ps)
  profile_sound = policy.profile_sound ps good

  -- its normal image is accepted, and decodes to the policy in normal form; it is of bytes
  pub profile_read : (check_of (normal_image (profile_policy ps)) ≡ 0) × (policy_in (normal_image (profile_policy ps)) ≡ normal_policy (profile_policy ps))
  profile_read = profile.profile_read ps good

  pub profile_bytes : Bytes (normal_image (profile_policy ps))
  profile_bytes = profile.profile_bytes ps good

  -- which means what was stated: for each path a file with its atom and its two rules, then a process; one unrestricted user
  pub profile_means : meaning (normal_policy (profile_policy ps))
      ≡ record { places = file_places (paths_of ps) ps 0 (paths_of ps) ++ (process_place ∷ []); users = unrestricted_rule ∷ [] }
  profile_means = profile.profile_means ps good

  -- "Policies .. read from profiles have no owners" (change request No. 10): no rule of the image has one, so there is none at any use
  pub profile_unowned : every (eqb no_owner) (policy_in (normal_image (profile_policy ps))).owners ≡ true
  profile_unowned = profile.profile_unowned ps good

  pub profile_owners : every (eqb no_owner) (owners_at (policy_in (normal_image (profile_policy ps)))) ≡ true
  profile_owners = profile.profile_owners ps good

  -- it is its own normal image
  pub profile_normal : normal_image (normal_policy (profile_policy ps)) ≡ normal_image (profile_policy ps)
  profile_normal = profile.profile_normal ps good

  -- longer than any refusal number, and the output holds it
  pub profile_long : header_size ≤ length (normal_image (profile_policy ps))
  profile_long = normal_long (profile_policy ps) profile_sound

  pub profile_short : length (normal_image (profile_policy ps)) ≤ output_bound
  profile_short = normal_short (profile_policy ps) profile_sound

-- ---- which modes a program has on a path

-- "a path's lines within a profile add up": one of the wanted modes exactly if one of its lines of that path has one of them
pub lines_add_up : (p : Profile) (wanted : List Mode) (q : List ℕ) → (some_of wanted (modes_on p q) ≡ true)
    ↔ ((e : PathEntry) × Memᴰ e p.entries × (q ≡ e.path) × ((m : Mode) × Memᴰ m e.modes × Memᴰ m wanted))
lines_add_up = lines.lines_tell

-- ---- what a run mixture says

-- each program of a text has its path among the paths
pub programs_known : (ps : List Profile) → every (λ p. known p.path (paths_of ps)) ps ≡ true
programs_known ps = profiles_known ps

-- of a program and the k-th path
module _ (ps : List Profile) (good : limits_good ps ≡ true) (p : Profile) (own : known p.path (paths_of ps) ≡ true) (k : ℕ) (l : k < length (paths_of ps)) where
  abbrev path : List ℕ
  path = get_or (paths_of ps) k []

  -- "the atoms of files it may read (r, m)"
  pub run_data : (atom (run_mixture (paths_of ps) p) k ≡ 1) ↔ (some_of reading (modes_on p path) ≡ true)
  run_data = mixture.run_data (paths_of ps) (policy.few_paths ps good) (paths_distinct ps) p own k l

  -- "its own twin, .. and the twins of those it may execute (any x mode)"
  pub run_running : (atom (run_mixture (paths_of ps) p) (data_width + k) ≡ 1) ↔ ((path ≡ p.path) ⊎ (some_of executing (modes_on p path) ≡ true))
  run_running = mixture.run_running (paths_of ps) (policy.few_paths ps good) (paths_distinct ps) p own k l

-- no atom that is of no path
pub run_none : (ps : List Profile) (p : Profile) → known p.path (paths_of ps) ≡ true → (i : ℕ)
    → ((k : ℕ) → k < length (paths_of ps) → (i ≡ k → ⊥) × (i ≡ data_width + k → ⊥)) → atom (run_mixture (paths_of ps) p) i ≡ 0
run_none ps p own i h = mixture.run_none (paths_of ps) p own i h

-- all of it in one: the atoms of a run mixture
pub run_atoms : (ps : List Profile) → limits_good ps ≡ true → (p : Profile) → known p.path (paths_of ps) ≡ true → (i : ℕ)
    → (atom (run_mixture (paths_of ps) p) i ≡ 1) ↔ MayHold (paths_of ps) p i
run_atoms ps good p own i = words.run_atoms (paths_of ps) (policy.few_paths ps good) (paths_distinct ps) p own i

-- ---- what the two rules of the k-th path say

module _ (ps : List Profile) (good : limits_good ps ≡ true) (k : ℕ) (l : k < length (paths_of ps)) where
  abbrev named : List ℕ
  named = get_or (paths_of ps) k []

  -- its permit rule and its run rule
  abbrev permit_rule : List ℕ
  permit_rule = get_or (rules_of ps) (2 * k) []

  abbrev run_rule : List ℕ
  run_rule = get_or (rules_of ps) (2 * k + 1) []

  -- "Each path becomes a file with the next atom in order of first appearance": it has the atom k, and these two rules, in the policy
  -- that is written
  pub file_means : get_or (meaning (normal_policy (profile_policy ps))).places k process_place
      ≡ record { kind = file_kind; atom = k; permit = permit_rule; run = run_rule }
  file_means = ap (λ (m : Meaning). get_or m.places k process_place) (profile_means ps good) ∙ words.file_at ps good k l

  -- "for each program with w or a on it, that program's run mixture with the file's atom added": a tag is covered exactly if ONE program
  -- with w or a on it has all the tag's other atoms in its run mixture
  pub permit_written : SomeWith ps writing named → (t : ℕ) → (covers permit_rule t ≡ true)
      ↔ ((p : Profile) × Memᴰ p ps × (some_of writing (modes_on p named) ≡ true) × ((i : ℕ) → atom t i ≡ 1 → (i ≡ k) ⊎ MayHold (paths_of ps) p i))
  permit_written = words.permit_written ps good k l

  -- "with none, its own atom"
  pub permit_unwritten : NoneWith ps writing named → permit_rule ≡ 2 ^ k ∷ []
  permit_unwritten = words.permit_unwritten ps good k l

  -- "that mixture is a profiled path's run rule": it covers what has all its atoms in that program's run mixture
  pub run_profiled : profiled_once ps ≡ true → (p : Profile) → Memᴰ p ps → named ≡ p.path → run_rule ≡ run_mixture (paths_of ps) p ∷ []
  run_profiled = words.run_profiled ps good k l

  pub run_profiled_covers : profiled_once ps ≡ true → (p : Profile) → Memᴰ p ps → named ≡ p.path → (t : ℕ)
      → (covers run_rule t ≡ true) ↔ ((i : ℕ) → atom t i ≡ 1 → MayHold (paths_of ps) p i)
  run_profiled_covers = words.run_profiled_covers ps good k l

  -- "A path without a profile is unrestricted to run if some ux or Ux names it"
  pub run_unconfined : Unprofiled ps named → SomeWith ps unconfined named → run_rule ≡ unrestricted_rule
  run_unconfined = words.run_unconfined ps good k l

  -- "else takes the run mixtures of programs naming it by ix": a tag is covered exactly if ONE of these has all its atoms in its run mixture
  pub run_inherited : Unprofiled ps named → NoneWith ps unconfined named → SomeWith ps inheriting named → (t : ℕ)
      → (covers run_rule t ≡ true)
      ↔ ((p : Profile) × Memᴰ p ps × (some_of inheriting (modes_on p named) ≡ true) × ((i : ℕ) → atom t i ≡ 1 → MayHold (paths_of ps) p i))
  run_inherited = words.run_inherited ps good k l

  -- "else has no mixture if px or Px names it"
  pub run_confined : Unprofiled ps named → NoneWith ps unconfined named → NoneWith ps inheriting named → SomeWith ps confined named → run_rule ≡ []
  run_confined = words.run_confined ps good k l

  -- "else is unrestricted"
  pub run_unnamed : Unprofiled ps named → NoneWith ps unconfined named → NoneWith ps inheriting named → NoneWith ps confined named → run_rule ≡ unrestricted_rule
  run_unnamed = words.run_unnamed ps good k l

-- the unrestricted rule covers every tag, the rule without a mixture none
pub run_all : (t : ℕ) → t < 2 ^ tag_width → covers unrestricted_rule t ≡ true
run_all = words.all_covered

pub run_nothing : (t : ℕ) → covers [] t ≡ false
run_nothing = words.none_covered
