-- The bytes of a normal image from the tables: the contracts of this crate's private functions. No public contract cites this file.
use Rattle.std.specs.Prelude.{ℕ, ◌+◌, ◌*◌, ◌/◌, ◌≤◌, ◌≡◌, true, List, ◌++◌, map, length}
use Rattle.lists.specs.Lists.{joined, every}
use Rattle.fields.specs.Bytes.{bytes_of}
use Rattle.image.specs.Limits.{size16, leading_number, header_size, container_size, user_size, rule_size, mixture_size}
use Rattle.image.specs.Policy.{Container, Sound}
use Rattle.image.specs.Image.{Span, containers_in, users_in, spans_in, rule_in, mixtures_in, rule_records_good}
use Rattle.image.specs.Normal.{Use, container_bytes, span_bytes, spans_of}
use Rattle.normaliser.specs.Writer.{container_uses, policy_given}
use Rattle.normaliser.specs.Tables.{form_at, form_owner, form_good, found, new_number}

-- ---- two numbers of 16 bits: the two rules of a container, or the offset and length of a section

unfoldable pub pair_bytes : ℕ → ℕ → List ℕ
pair_bytes a b = bytes_of size16 a ++ bytes_of size16 b

-- the header of an image whose sections have c, u, r and m bytes
unfoldable pub header_bytes : ℕ → ℕ → ℕ → ℕ → List ℕ
header_bytes c u r m =
    bytes_of size16 leading_number
    ++ (pair_bytes header_size c ++ (pair_bytes (header_size + c) u ++ (pair_bytes (header_size + c + u) r ++ pair_bytes (header_size + c + u + r) m)))

-- ---- the sections, with the new rule numbers

unfoldable pub renumbered : List ℕ → List ℕ → Container → Container
renumbered classes ranks c =
    record {
      kind = c.kind;
      atom = c.atom;
      permit = new_number classes ranks c.permit;
      run = new_number classes ranks c.run;
    }

unfoldable pub container_section : List ℕ → List ℕ → List ℕ → List ℕ
container_section containers classes ranks = joined (map container_bytes (map (renumbered classes ranks) (containers_in containers)))

unfoldable pub user_section : List ℕ → List ℕ → List ℕ → List ℕ
user_section users classes ranks = joined (map (bytes_of user_size) (map (new_number classes ranks) (users_in users)))

unfoldable pub rule_section : List ℕ → List ℕ → List ℕ
rule_section forms order = joined (map span_bytes (spans_of 0 (map (form_at forms) order) (map (form_owner forms) order)))

-- the bytes of mixtures
unfoldable pub mixture_bytes : List ℕ → List ℕ
mixture_bytes r = joined (map (bytes_of mixture_size) r)

unfoldable pub mixture_section : List ℕ → List ℕ → List ℕ
mixture_section forms order = mixture_bytes (joined (map (form_at forms) order))

-- what the writing of the sections asks: each use has its number, each rule is there, and there is room
pub record Writable (containers users forms classes ranks order out : List ℕ) : Type 0 where
  pub containers_found : every (found classes ranks) (container_uses (containers_in containers)) ≡ true
  pub users_found : every (found classes ranks) (users_in users) ≡ true
  pub forms_good : every (form_good forms) order ≡ true
  pub room : header_size + length containers / container_size * container_size + length users / user_size * user_size
      + length order * rule_size + length (joined (map (form_at forms) order)) * mixture_size ≤ length out

-- the rules of the sections of rules and mixtures, with their owners
unfoldable pub owned_rule : List ℕ → Span → Use
owned_rule mixtures s = record { owner = s.owner; mixtures = rule_in mixtures s }

unfoldable pub owned_in : List ℕ → List ℕ → List Use
owned_in r m = map (owned_rule (mixtures_in m)) (spans_in r)

-- the four sections of an image that is accepted
pub record SectionsAccepted (containers users rules mixtures : List ℕ) : Type 0 where
  pub sound : Sound (policy_given containers users (owned_in rules mixtures))
  pub spans : rule_records_good rules mixtures ≡ true
