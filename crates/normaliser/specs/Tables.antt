-- The tables of the writer: the contracts of this crate's private functions. No public contract cites this file.
use Rattle.std.specs.Prelude.{ℕ, suc, ◌-◌, ◌*◌, ◌/◌, ◌≤◌, ◌<◌, ◌≡◌, Bool, true, cond, ◌&&◌, ◌||◌, List, [], ◌∷◌, ◌++◌, eqb, ltb, leb, length, get_or, take}
use Rattle.lists.specs.Lists.{elem, position}
use Rattle.rules.specs.Answers.{mixture_limit}
use Rattle.image.specs.Limits.{unrestricted_number, rule_limit}
use Rattle.fields.specs.Bytes.{records}
use Rattle.image.specs.Policy.{named}
use Rattle.image.specs.Normal.{Use, same_use, free_use}
use Rattle.normaliser.specs.Writer.{form_width, form_in, use_limit}
use Rattle.normaliser.specs.Hashes.{words_at, Hashed}

-- ---- the rules

-- rule k with its owner, its mixtures, and its owner
unfoldable pub use_of : List ℕ → ℕ → Use
use_of forms k = form_in (words_at forms k)

unfoldable pub form_at : List ℕ → ℕ → List ℕ
form_at forms k = (use_of forms k).mixtures

unfoldable pub form_owner : List ℕ → ℕ → ℕ
form_owner forms k = (use_of forms k).owner

-- there is a rule v, and its count is that of a rule
unfoldable pub form_good : List ℕ → ℕ → Bool
form_good forms v = ltb v (length forms / form_width) && leb (get_or forms (v * form_width) 0) mixture_limit

-- ---- classes of equal rules

-- the class of rule k: the number of the first rule with its words; the unrestricted number if it is unrestricted without an owner
unfoldable pub class_of : List ℕ → ℕ → ℕ
class_of forms k =
    cond (same_use (use_of forms k) free_use) unrestricted_number (position (words_at forms k) (records form_width forms))

-- the table has the classes of the first n rules
pub record Classified (forms classes : List ℕ) (n : ℕ) : Type 0 where
  pub room : length forms / form_width ≤ length classes
  pub few : length classes ≤ use_limit
  pub is : (k : ℕ) → k < n → get_or classes k 0 ≡ class_of forms k

-- the class of a rule number
unfoldable pub class_at : List ℕ → ℕ → ℕ
class_at classes k = cond (eqb k unrestricted_number) unrestricted_number (get_or classes k 0)

-- rule number k has a class that is one of n, or the unrestricted one
unfoldable pub class_named : List ℕ → ℕ → ℕ → Bool
class_named classes n k = named (length classes) k && named n (class_at classes k)

-- ---- classes by first use

-- a class in use takes the next place, unless it is the unrestricted one or has a place
unfoldable pub with_class : List ℕ → ℕ → List ℕ
with_class order v = cond (eqb v unrestricted_number || elem v order) order (order ++ (v ∷ []))

unfoldable pub with_classes : List ℕ → List ℕ → List ℕ
with_classes order [] = order
with_classes order (v ∷ vs) = with_classes (with_class order v) vs

unfoldable pub index_of : ℕ → List ℕ → ℕ
index_of v [] = 0
index_of v (x ∷ order) = cond (eqb v x) 0 (suc (index_of v order))

-- the place of v, counted from 1; 0 if it has none
unfoldable pub place_in : ℕ → List ℕ → ℕ
place_in v order = cond (elem v order) (suc (index_of v order)) 0

-- the first m of the order are the classes that have a place, and the table of ranks says which, counted from 1
pub record Ordered (order ranks : List ℕ) (m : ℕ) : Type 0 where
  pub room : m ≤ length order
  pub few : length order ≤ use_limit
  pub is : (v : ℕ) → v < length ranks → get_or ranks v 0 ≡ place_in v (take m order)

-- what is asked to note the class of rule number k behind the first m: there is a place for it
pub record Placeable (classes order ranks : List ℕ) (m k : ℕ) : Type 0 where
  pub known : named (length classes) k ≡ true
  pub small : named (length ranks) (class_at classes k) ≡ true
  pub room : length (with_class (take m order) (class_at classes k)) ≤ length order
  pub ordered : Ordered order ranks m

-- ---- new numbers

-- the new number of rule number k
unfoldable pub new_number : List ℕ → List ℕ → ℕ → ℕ
new_number classes ranks k =
    cond (eqb (class_at classes k) unrestricted_number) unrestricted_number (get_or ranks (class_at classes k) 0 - 1)

-- rule number k has a new number
unfoldable pub found : List ℕ → List ℕ → ℕ → Bool
found classes ranks k =
    named (length classes) k
    && (named (length ranks) (class_at classes k)
    && (eqb (class_at classes k) unrestricted_number || ltb 0 (get_or ranks (class_at classes k) 0)))

-- ---- the tables before the first rule

-- the most words of an image's rules
abbrev pub word_limit : ℕ
word_limit = rule_limit * form_width

pub record Cleared (forms classes slots order ranks : List ℕ) : Type 0 where
  pub classes_room : length forms / form_width ≤ length classes
  pub classes_few : length classes ≤ use_limit
  pub hashed : Hashed forms slots 0
  pub order_room : length forms / form_width ≤ length order
  pub order_few : length order ≤ use_limit
  pub ranks_room : length forms / form_width ≤ length ranks
  pub zero : (v : ℕ) → get_or ranks v 0 ≡ 0
