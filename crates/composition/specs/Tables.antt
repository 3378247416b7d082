-- What the code keeps on the way: mixtures that enter, rows of composed uses, and records with rule numbers of their own. These are the
-- contracts of this crate's private functions; no public contract cites this file.
use Rattle.std.specs.Prelude.{ℕ, suc, ◌+◌, ◌≡◌, Bool, true, cond, Option, Some, None, List, [], ◌∷◌, ◌++◌, map, leb, length, take}
use Rattle.lists.specs.Lists.{joined, every}
use Rattle.fields.specs.Writing.{overwritten}
use Rattle.rules.specs.Answers.{mixture_limit}
use Rattle.rule_words.specs.Words.{rule_width, rule_of, words_of}
use Rattle.image.specs.Policy.{Container, Policy}
use Rattle.image.specs.Image.{policy_in, check_of}
use Rattle.image.specs.Normal.{Use, Owned, owned, uses, policy_of, encode}
use Rattle.normaliser.specs.Writer.{form_row, container_uses}
use Rattle.composition.specs.Composed.{composed_rule, composed_uses, composed_owned}
use Rattle.composition.specs.Images.{same_shape, short_use, limit_good}

-- ---- mixtures

-- two rules have at most so many mixtures
abbrev pub entering_limit : ℕ
entering_limit = 16

-- those that enter stand behind the first n, and r counts them all
pub record Entered (enter before after : List ℕ) (n r : ℕ) : Type 0 where
  pub front : take r after ≡ take n before ++ enter
  pub count : r ≡ n + length enter
  pub long : length after ≡ entering_limit

-- the words of two rules were composed, if the rule fits
pub record WordsComposed (c : ℕ) (before other after : List ℕ) (fits : Bool) : Type 0 where
  pub told : fits ≡ leb (length (composed_rule c (rule_of before) (rule_of other))) mixture_limit
  pub long : length after ≡ rule_width
  pub words : fits ≡ true → after ≡ words_of (composed_rule c (rule_of before) (rule_of other))

-- ---- uses of rules

-- the rule numbers in use, as the writer goes through them
unfoldable pub used_numbers : Policy → List ℕ
used_numbers p = container_uses p.containers ++ p.users

-- the row of a use was put, if its rule fits
pub record UsePut (u : Use) (after : List ℕ) (fits : Bool) : Type 0 where
  pub told : fits ≡ short_use u
  pub row : fits ≡ true → after ≡ form_row u

-- two images that can be composed
pub record Paired (a b : List ℕ) : Type 0 where
  pub first : check_of a ≡ 0
  pub second : check_of b ≡ 0
  pub shape : same_shape (policy_in a) (policy_in b) ≡ true

-- the uses of two images composed
unfoldable pub pair_uses : ℕ → List ℕ → List ℕ → List Use
pair_uses c a b = composed_uses c (uses (owned (policy_in a))) (uses (owned (policy_in b)))

-- how many there are, of an image
unfoldable pub use_count : List ℕ → ℕ
use_count a = length (used_numbers (policy_in a))

-- the rows of uses were put one behind the other, if each fits
pub record UsesPut (us : List Use) (after : List ℕ) (fits : Bool) : Type 0 where
  pub told : fits ≡ every short_use us
  pub rows : fits ≡ true → after ≡ joined (map form_row us)

-- ---- records: each use has a rule of its own

-- containers with rule numbers from k on
unfoldable pub own_numbers : ℕ → List Container → List Container
own_numbers k [] = []
own_numbers k (c ∷ cs) = record { kind = c.kind; atom = c.atom; permit = k; run = suc k } ∷ own_numbers (suc (suc k)) cs

-- ---- the image

-- what two images own together
unfoldable pub pair_owned : ℕ → List ℕ → List ℕ → Owned
pair_owned c a b = composed_owned c (owned (policy_in a)) (owned (policy_in b))

-- the length of the image, which is written; none if a rule does not fit or there are too many, and nothing is
pub record PairWritten (m : Owned) (before after : List ℕ) (r : Option ℕ) : Type 0 where
  pub answer : r ≡ cond (limit_good m) (Some (length (encode (policy_of m)))) None
  pub effect : after ≡ cond (limit_good m) (overwritten (encode (policy_of m)) 0 before) before
