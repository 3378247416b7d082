-- A policy, as an image gives it (the paper, "Policy image": containers, users, rules).
use Rattle.std.specs.Prelude.{ℕ, ◌^◌, ◌≤◌, ◌≡◌, Bool, true, cond, ◌&&◌, ◌||◌, List, [], eqb, ltb, leb, length, get_or}
use Rattle.rules.specs.Rules.{unrestricted}
use Rattle.rules.specs.Answers.{data_width, tag_width, mixture_limit}
use Rattle.image.specs.Limits.{is_file, is_volatile, is_process, no_atom, unrestricted_number, no_owner, container_limit, user_limit, rule_limit}
use Rattle.lists.specs.Lists.{every}

-- a container record: kind, atom, and the numbers of its permit rule and run rule
pub record Container : Type 0 where
  pub kind : ℕ
  pub atom : ℕ
  pub permit : ℕ
  pub run : ℕ

-- containers; users, by their rule numbers; rules, by their mixtures in the image's own order; the owner of each rule
pub record Policy : Type 0 where
  pub containers : List Container
  pub users : List ℕ
  pub rules : List (List ℕ)
  pub owners : List ℕ

-- "The unrestricted rule has the single mixture of all 64 atoms."
unfoldable pub unrestricted_rule : List ℕ
unrestricted_rule = unrestricted tag_width

-- the rule with the number n: "Rule number 65535 is the unrestricted rule."
unfoldable pub rule_at : List (List ℕ) → ℕ → List ℕ
rule_at rules n = cond (eqb n unrestricted_number) unrestricted_rule (get_or rules n [])

-- the owner of the rule with the number n: "65535 itself has none"
unfoldable pub owner_at : List ℕ → ℕ → ℕ
owner_at owners n = cond (eqb n unrestricted_number) no_owner (get_or owners n no_owner)

-- an owner among n users: "a declared user or 65535 for nobody"
unfoldable pub owner_good : ℕ → ℕ → Bool
owner_good n o = ltb o n || eqb o no_owner

-- a number names one of n rules, or the unrestricted one
unfoldable pub named : ℕ → ℕ → Bool
named n r = ltb r n || eqb r unrestricted_number

-- a container record among n rules: "Kinds 2 and 3 have atom 255 and both rules 65535."
unfoldable pub container_good : ℕ → Container → Bool
container_good n c =
    cond (is_file c.kind)
    ((ltb c.atom data_width || eqb c.atom no_atom) && (named n c.permit && named n c.run))
    ((is_volatile c.kind || is_process c.kind) && (eqb c.atom no_atom && (eqb c.permit unrestricted_number && eqb c.run unrestricted_number)))

-- "A rule is 0 to 8 mixtures", each of 64 bits
unfoldable pub rule_good : List ℕ → Bool
rule_good r = leb (length r) mixture_limit && every (λ m. ltb m (2 ^ tag_width)) r

-- what an image can spell
pub record Sound (p : Policy) : Type 0 where
  pub few_containers : length p.containers ≤ container_limit
  pub few_users : length p.users ≤ user_limit
  pub few_rules : length p.rules ≤ rule_limit
  pub rules_good : every rule_good p.rules ≡ true
  pub containers_good : every (container_good (length p.rules)) p.containers ≡ true
  pub users_good : every (named (length p.rules)) p.users ≡ true
  pub owners_long : length p.owners ≡ length p.rules
  pub owners_good : every (owner_good (length p.users)) p.owners ≡ true
