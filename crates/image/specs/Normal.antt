-- The normal image of a policy (the paper, "Policy image": "Normal image").
use Rattle.std.specs.Prelude.{ℕ, ◌+◌, Bool, cond, ◌&&◌, ◌||◌, List, [], ◌∷◌, ◌++◌, map, eqb, length, get_or, drop}
use Rattle.rules.specs.Rules.{normal}
use Rattle.lists.specs.Lists.{same_list, joined, known_by, position_by}
use Rattle.image.specs.Limits.{process_kind, no_atom, unrestricted_number, no_owner, user_size, mixture_size, size8, size16, leading_number, header_size}
use Rattle.fields.specs.Bytes.{bytes_of}
use Rattle.image.specs.Policy.{Container, Policy, unrestricted_rule, rule_at, owner_at}
use Rattle.image.specs.Image.{Span}

-- ---- what a policy means: each container and each user with its rules, in normal form

pub record Place : Type 0 where
  pub kind : ℕ
  pub atom : ℕ
  pub permit : List ℕ
  pub run : List ℕ

-- a process without an atom and without rules
abbrev pub process_place : Place
process_place = record { kind = process_kind; atom = no_atom; permit = unrestricted_rule; run = unrestricted_rule }

pub record Meaning : Type 0 where
  pub places : List Place
  pub users : List (List ℕ)

-- the rule with the number n, in normal form
unfoldable pub normal_at : List (List ℕ) → ℕ → List ℕ
normal_at rules n = normal (rule_at rules n)

unfoldable pub place_of : List (List ℕ) → Container → Place
place_of rules c =
    record { kind = c.kind; atom = c.atom; permit = normal_at rules c.permit; run = normal_at rules c.run }

unfoldable pub meaning : Policy → Meaning
meaning p = record { places = map (place_of p.rules) p.containers; users = map (normal_at p.rules) p.users }

-- ---- the same with the owner of each rule in use

-- a rule in use: its owner, and its mixtures in normal form
pub record Use : Type 0 where
  pub owner : ℕ
  pub mixtures : List ℕ

pub record OwnedPlace : Type 0 where
  pub kind : ℕ
  pub atom : ℕ
  pub permit : Use
  pub run : Use

pub record Owned : Type 0 where
  pub places : List OwnedPlace
  pub users : List Use

-- the use of the rule with the number n
unfoldable pub use_at : Policy → ℕ → Use
use_at p n = record { owner = owner_at p.owners n; mixtures = normal_at p.rules n }

unfoldable pub owned_place : Policy → Container → OwnedPlace
owned_place p c = record { kind = c.kind; atom = c.atom; permit = use_at p c.permit; run = use_at p c.run }

unfoldable pub owned : Policy → Owned
owned p = record { places = map (owned_place p) p.containers; users = map (use_at p) p.users }

-- permit then run of each container
unfoldable pub place_uses : List OwnedPlace → List Use
place_uses [] = []
place_uses (p ∷ ps) = p.permit ∷ p.run ∷ place_uses ps

-- then users
unfoldable pub uses : Owned → List Use
uses m = place_uses m.places ++ m.users

-- the owner at every use of a rule
unfoldable pub owners_at : Policy → List ℕ
owners_at p = map (λ u. u.owner) (uses (owned p))

-- ---- the rules that are written, numbered by first use

unfoldable pub same_use : Use → Use → Bool
same_use u v = eqb u.owner v.owner && same_list u.mixtures v.mixtures

-- "An unrestricted rule becomes 65535 only without an owner"
unfoldable pub free_use : Use
free_use = record { owner = no_owner; mixtures = unrestricted_rule }

-- a rule in use takes the next number, unless it is unrestricted without an owner or has one
unfoldable pub noted : List Use → Use → List Use
noted rules r = cond (same_use r free_use || known_by same_use r rules) rules (rules ++ (r ∷ []))

unfoldable pub numbered : List Use → List Use → List Use
numbered rules [] = rules
numbered rules (r ∷ rs) = numbered (noted rules r) rs

-- the place of r among the rules, or the number of the unrestricted one
unfoldable pub number_of : List Use → Use → ℕ
number_of rules r = cond (same_use r free_use) unrestricted_number (position_by same_use r rules)

unfoldable pub container_of : List Use → OwnedPlace → Container
container_of rules p =
    record { kind = p.kind; atom = p.atom; permit = number_of rules p.permit; run = number_of rules p.run }

-- the policy that writes down what is owned with these rules
unfoldable pub written_by : List Use → Owned → Policy
written_by rules m =
    record {
      containers = map (container_of rules) m.places;
      users = map (number_of rules) m.users;
      rules = map (λ u. u.mixtures) rules;
      owners = map (λ u. u.owner) rules;
    }

-- the rules that are written
unfoldable pub written_uses : Owned → List Use
written_uses m = numbered [] (uses m)

unfoldable pub policy_of : Owned → Policy
policy_of m = written_by (written_uses m) m

unfoldable pub normal_policy : Policy → Policy
normal_policy p = policy_of (owned p)

-- ---- the bytes of a policy: sections without gaps, no mixture shared

unfoldable pub container_bytes : Container → List ℕ
container_bytes c =
    bytes_of size8 c.kind ++ (bytes_of size8 c.atom ++ (bytes_of size16 c.permit ++ bytes_of size16 c.run))

unfoldable pub span_bytes : Span → List ℕ
span_bytes r = bytes_of size16 r.first ++ (bytes_of size16 r.count ++ bytes_of size16 r.owner)

-- each rule's first mixture is right behind the previous rule's last
unfoldable pub spans_of : ℕ → List (List ℕ) → List ℕ → List Span
spans_of first [] owners = []
spans_of first (r ∷ rules) owners =
    record { first = first; count = length r; owner = get_or owners 0 no_owner } ∷ spans_of (first + length r) rules (drop 1 owners)

-- a section's pair
unfoldable pub pair : ℕ → List ℕ → List ℕ
pair offset s = bytes_of size16 offset ++ bytes_of size16 (length s)

unfoldable pub header : List ℕ → List ℕ → List ℕ → List ℕ → List ℕ
header c u r m =
    bytes_of size16 leading_number
    ++ (pair header_size c ++ (pair (header_size + length c) u ++ (pair (header_size + length c + length u) r ++ pair (header_size + length c + length u + length r) m)))

unfoldable pub framed : List ℕ → List ℕ → List ℕ → List ℕ → List ℕ
framed c u r m = header c u r m ++ (c ++ (u ++ (r ++ m)))

unfoldable pub encode : Policy → List ℕ
encode p =
    framed
    (joined (map container_bytes p.containers))
    (joined (map (bytes_of user_size) p.users))
    (joined (map span_bytes (spans_of 0 p.rules p.owners)))
    (joined (map (bytes_of mixture_size) (joined p.rules)))

unfoldable pub normal_image : Policy → List ℕ
normal_image p = encode (normal_policy p)
