-- The starred example of the derived policy, by computation: document 000's matrix, read rows 5, 3, 2, write rows 1, 2, 10, 4 objects.
use Prim.Native.Nat.{ℕ}
use mathlib.Core.Path.{◌≡◌, refl, ap}
use mathlib.Core.List.{List, [], ◌∷◌, map}
use lib.ListN.{length}
use Rattle.rules.specs.Sets.{atom, holds}
use Rattle.lists.specs.Lists.{elem, same_list, joined, known_by, position_by}
use Rattle.rules.specs.Rules.{distinct, held_in, unheld_in, insert, sort, normal, unrestricted}
use Rattle.fields.specs.Bytes.{bytes_of, number_in, field}
use Rattle.image.specs.Limits.{file_kind, process_kind, no_atom, unrestricted_number, no_owner}
use Rattle.image.specs.Policy.{Container, Policy, unrestricted_rule, rule_at, owner_at}
use Rattle.image.specs.Image.{offset, section_length}
use Rattle.image.specs.Normal.{normal_at, use_at, owned_place, owned, place_uses, uses, same_use, free_use, noted, numbered, number_of, container_of, written_by}
use Rattle.image.specs.Normal.{written_uses, policy_of, normal_policy, container_bytes, span_bytes, spans_of, pair, header, framed, encode, normal_image}
use Rattle.matrix.specs.Flows.{has}
use Rattle.lists.specs.Counting.{count_from}
use Rattle.derivation.specs.Derived.{writer_mixtures, or_alone, permit_of, object_file, subject_process, derived_policy, derived_image}

abbrev reads : List ℕ
reads = 5 ∷ 3 ∷ 2 ∷ []

abbrev writes : List ℕ
writes = 1 ∷ 2 ∷ 10 ∷ []

-- "Permit rules 5; 3; 4; 10", in normal form
pub permits : map (λ b. normal (permit_of reads writes b)) (count_from 0 4) ≡ (5 ∷ []) ∷ (3 ∷ []) ∷ (4 ∷ []) ∷ (10 ∷ []) ∷ []
unfolding count_from permit_of writer_mixtures or_alone has atom normal sort insert distinct elem unheld_in held_in holds
permits = refl

abbrev file : ℕ → Container
file b = record { kind = file_kind; atom = b; permit = b; run = unrestricted_number }

abbrev process : Container
process = record { kind = process_kind; atom = no_atom; permit = unrestricted_number; run = unrestricted_number }

-- the policy in normal form: four files, three processes and a user
abbrev pub policy : Policy
policy =
    record {
      containers = file 0 ∷ file 1 ∷ file 2 ∷ file 3 ∷ process ∷ process ∷ process ∷ [];
      users = unrestricted_number ∷ [];
      rules = (5 ∷ []) ∷ (3 ∷ []) ∷ (4 ∷ []) ∷ (10 ∷ []) ∷ [];
      owners = no_owner ∷ no_owner ∷ no_owner ∷ no_owner ∷ [];
    }

policy_is : normal_policy (derived_policy reads writes 4) ≡ policy
unfolding derived_policy count_from object_file subject_process permit_of writer_mixtures or_alone has atom normal_policy policy_of written_by written_uses
    container_of number_of position_by numbered noted known_by same_use free_use uses place_uses owned owned_place use_at owner_at normal_at rule_at
    unrestricted_rule unrestricted same_list normal sort insert distinct elem unheld_in held_in holds
policy_is = refl

-- "the matrix example grows to 118" (change request No. 10): pairs (18,42), (60,2), (62,24), (86,32), a rule record having 6 bytes
abbrev image : List ℕ
image = derived_image reads writes 4

pub image_is : image ≡ encode policy
unfolding derived_image normal_image
image_is = ap encode policy_is

pub image_length : length image ≡ 118
unfolding encode framed header pair container_bytes span_bytes spans_of bytes_of joined
image_length = ap length image_is

pub image_offsets : map (offset image) (0 ∷ 1 ∷ 2 ∷ 3 ∷ []) ≡ 18 ∷ 60 ∷ 62 ∷ 86 ∷ []
unfolding encode framed header pair container_bytes span_bytes spans_of bytes_of joined offset field number_in
image_offsets = ap (λ (i : List ℕ). map (offset i) (0 ∷ 1 ∷ 2 ∷ 3 ∷ [])) image_is

pub image_sizes : map (section_length image) (0 ∷ 1 ∷ 2 ∷ 3 ∷ []) ≡ 42 ∷ 2 ∷ 24 ∷ 32 ∷ []
unfolding encode framed header pair container_bytes span_bytes spans_of bytes_of joined section_length field number_in
image_sizes = ap (λ (i : List ℕ). map (section_length i) (0 ∷ 1 ∷ 2 ∷ 3 ∷ [])) image_is
