-- The writer of normal images: what a producer of a policy hands over, and what it is answered.
-- Containers and users stand as an image has them. Rules stand as rows: the words of a rule in normal form, then its owner, so that two
-- are equal just if their rows are.
use Rattle.std.specs.Prelude.{ℕ, ◌+◌, ◌*◌, ◌≤◌, ◌≡◌, Bool, true, cond, List, [], ◌∷◌, ◌++◌, map, leb, length, get_or, take}
use Rattle.rules.specs.Rules.{normal}
use Rattle.rules.specs.Answers.{mixture_limit}
use Rattle.lists.specs.Lists.{joined, every}
use Rattle.fields.specs.Bytes.{records}
use Rattle.fields.specs.Writing.{overwritten}
use Rattle.image.specs.Limits.{no_owner, container_limit, user_limit, rule_limit}
use Rattle.image.specs.Policy.{Container, Policy, named}
use Rattle.image.specs.Image.{containers_in, users_in}
use Rattle.image.specs.Normal.{Use, normal_policy, normal_image}
use Rattle.rule_words.specs.Words.{rule_width, rule_of, words_of, kept_well}

-- ---- the policy that is handed over

-- containers and users as an image has them, and these rules with their owners
unfoldable pub policy_given : List ℕ → List ℕ → List Use → Policy
policy_given containers users rules =
    record {
      containers = containers_in containers;
      users = users_in users;
      rules = map (λ u. u.mixtures) rules;
      owners = map (λ u. u.owner) rules;
    }

-- "Policies derived or read from profiles have no owners": such a rule
unfoldable pub unowned : List ℕ → Use
unowned r = record { owner = no_owner; mixtures = r }

-- how many words a rule's row has: those of the rule, and its owner
abbrev pub form_width : ℕ
form_width = rule_width + 1

-- the row of a rule
unfoldable pub form_row : Use → List ℕ
form_row u = words_of u.mixtures ++ (u.owner ∷ [])

-- a rule in normal form, of the same owner
unfoldable pub normal_use : Use → Use
normal_use u = record { owner = u.owner; mixtures = normal u.mixtures }

-- the rows of rules in normal form
unfoldable pub form_words : List Use → List ℕ
form_words rules = joined (map form_row (map normal_use rules))

-- the rule of a row
unfoldable pub form_in : List ℕ → Use
form_in ws = record { owner = get_or ws rule_width 0; mixtures = rule_of (take rule_width ws) }

-- the rules of rows
unfoldable pub forms_in : List ℕ → List Use
forms_in forms = map form_in (records form_width forms)

unfoldable pub policy_at : List ℕ → List ℕ → List ℕ → Policy
policy_at containers users forms = policy_given containers users (forms_in forms)

-- ---- what is asked of it

-- the rule numbers in use: permit then run of each container
unfoldable pub container_uses : List Container → List ℕ
container_uses [] = []
container_uses (c ∷ cs) = c.permit ∷ c.run ∷ container_uses cs

-- two uses for each container and one for each user: no more rules are of use
abbrev pub use_limit : ℕ
use_limit = 2 * container_limit + user_limit

-- each use names a rule, or the unrestricted one; kinds, atoms and mixtures are the producer's
pub record Usable (p : Policy) : Type 0 where
  pub few_containers : length p.containers ≤ container_limit
  pub few_users : length p.users ≤ user_limit
  pub few_rules : length p.rules ≤ use_limit
  pub short_rules : every (λ r. leb (length r) mixture_limit) p.rules ≡ true
  pub containers_named : every (named (length p.rules)) (container_uses p.containers) ≡ true
  pub users_named : every (named (length p.rules)) p.users ≡ true

-- the words of the row's rule are as a session keeps them
unfoldable pub form_kept : List ℕ → Bool
form_kept ws = kept_well (take rule_width ws)

pub record Tabled (containers users forms : List ℕ) : Type 0 where
  pub usable : Usable (policy_at containers users forms)
  pub good : every form_kept (records form_width forms) ≡ true

-- ---- what is answered

-- how many rules the normal image has
unfoldable pub rules_needed : Policy → ℕ
rules_needed p = length (normal_policy p).rules

-- the length of the normal image; 0 if over 256 rules are needed
unfoldable pub writer_answer : Policy → ℕ
writer_answer p = cond (leb (rules_needed p) rule_limit) (length (normal_image p)) 0

-- the normal image at the front of the output; if over 256 rules are needed all is as it was
unfoldable pub writer_effect : Policy → List ℕ → List ℕ
writer_effect p out = cond (leb (rules_needed p) rule_limit) (overwritten (normal_image p) 0 out) out

pub record Answered (p : Policy) (before after : List ℕ) (n : ℕ) : Type 0 where
  pub answer : n ≡ writer_answer p
  pub effect : after ≡ writer_effect p before
