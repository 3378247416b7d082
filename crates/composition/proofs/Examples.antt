-- Examples by computation. Source document 003, "Example of Composition": `md5sum` may contain the information `file` and the container `hash`
-- may (its figure 3); another policy asks that processes that run `sha1sum` may contain it (figure 4). The owner of `file` accepts, and then
-- all three can (figure 5). Atom 0 is `file`; a place of which a policy does not speak has a rule without mixtures.
use Prim.Native.Nat.{ℕ, ◌+◌, ◌^◌}
use mathlib.Core.Path.{◌≡◌, refl}
use mathlib.Core.Bool.{true, false}
use mathlib.Core.List.{List, [], ◌∷◌}
use lib.ListN.{replicate}
use Rattle.lists.specs.Lists.{elem, every}
use Rattle.rules.specs.Sets.{holds, data_of, running_of}
use Rattle.rules.specs.Rules.{covers, distinct, held_in, unheld_in, insert, sort, normal}
use Rattle.image.specs.Limits.{no_owner}
use Rattle.composition.specs.Composed.{consent_good, consent_atoms, consenting, enters, entering, composed_rule, composed_owner}

-- the owner of atom 0 consents, and nobody else
abbrev accepts : List ℕ
accepts = 1 ∷ replicate 31 0

abbrev refuses : List ℕ
refuses = replicate 32 0

abbrev file : List ℕ
file = 1 ∷ []

pub accepts_good : consent_good accepts ≡ true
unfolding consent_good every
accepts_good = refl

-- the data atom and its twin
pub accepts_atoms : consenting accepts ≡ 2 ^ 32 + 1
unfolding consenting consent_atoms running_of data_of
accepts_atoms = refl

-- the place of `sha1sum`, then that of `md5sum` and of `hash`
pub sha1sum_accepted : composed_rule (consenting accepts) [] file ≡ file
unfolding composed_rule entering enters covers holds consenting consent_atoms running_of data_of normal sort insert distinct elem unheld_in held_in
sha1sum_accepted = refl

pub md5sum_accepted : composed_rule (consenting accepts) file [] ≡ file
unfolding composed_rule entering enters covers holds consenting consent_atoms running_of data_of normal sort insert distinct elem unheld_in held_in
md5sum_accepted = refl

-- without the owner's consent no place may contain it
pub sha1sum_refused : composed_rule (consenting refuses) [] file ≡ []
unfolding composed_rule entering enters covers holds consenting consent_atoms running_of data_of normal sort insert distinct elem unheld_in held_in
sha1sum_refused = refl

-- ---- no intersection enters: {0, 1} with {1, 2}, and nobody consents

pub no_intersection : composed_rule (consenting refuses) (3 ∷ []) (6 ∷ []) ≡ []
unfolding composed_rule entering enters covers holds consenting consent_atoms running_of data_of normal sort insert distinct elem unheld_in held_in
no_intersection = refl

-- which covers not even the empty tag
pub nothing_covered : covers (composed_rule (consenting refuses) (3 ∷ []) (6 ∷ [])) 0 ≡ false
unfolding composed_rule entering enters covers holds consenting consent_atoms running_of data_of normal sort insert distinct elem unheld_in held_in
nothing_covered = refl

-- ---- the mixtures are those of the normal form: {0, 1}, {0} against a rule without mixtures, with consent on 0 alone

pub normal_forms_enter : composed_rule (consenting accepts) (3 ∷ 1 ∷ []) [] ≡ []
unfolding composed_rule entering enters covers holds consenting consent_atoms running_of data_of normal sort insert distinct elem unheld_in held_in
normal_forms_enter = refl

-- ---- a twin consents with its data atom, all atoms of a mixture are asked, the empty mixture consents

pub twin_consents : composed_rule (consenting accepts) (2 ^ 32 ∷ []) [] ≡ 2 ^ 32 ∷ []
unfolding composed_rule entering enters covers holds consenting consent_atoms running_of data_of normal sort insert distinct elem unheld_in held_in
twin_consents = refl

pub all_are_asked : composed_rule (consenting accepts) (3 ∷ []) [] ≡ []
unfolding composed_rule entering enters covers holds consenting consent_atoms running_of data_of normal sort insert distinct elem unheld_in held_in
all_are_asked = refl

pub empty_consents : composed_rule (consenting refuses) (0 ∷ []) [] ≡ 0 ∷ []
unfolding composed_rule entering enters covers holds consenting consent_atoms running_of data_of normal sort insert distinct elem unheld_in held_in
empty_consents = refl

-- ---- a consent of 31 bytes, and one with a byte of 2

pub short_consent : consent_good (replicate 31 1) ≡ false
unfolding consent_good every
short_consent = refl

pub other_byte : consent_good (2 ∷ replicate 31 0) ≡ false
unfolding consent_good every
other_byte = refl

-- ---- owners

pub same_owner : composed_owner 3 3 ≡ 3
unfolding composed_owner
same_owner = refl

pub other_owner : composed_owner 3 4 ≡ no_owner
unfolding composed_owner
other_owner = refl
