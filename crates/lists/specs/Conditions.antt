-- Conditions in their order, each with the number that is given where it is the first to fail (the paper, "Refused because of
-- the input": "In this order", and "No number is given without its condition").
use Rattle.std.specs.Prelude.{ℕ, zero, suc, ◌≡◌, Bool, true, false, not, cond, ◌&&◌, List, [], ◌∷◌, map, eqb, get_or}
use Rattle.lists.specs.Lists.{elem}

-- a test, and the number of its failure
pub record Condition : Type 0 where
  pub holds : Bool
  pub number : ℕ

infix 20 ◌or_refuse◌
abbrev pub ◌or_refuse◌ : Bool → ℕ → Condition
b or_refuse n = record { holds = b; number = n }

-- the number of the first condition that fails; 0 if none does
unfoldable pub first_failed : List Condition → ℕ
first_failed [] = 0
first_failed (c ∷ cs) = cond c.holds (first_failed cs) c.number

-- ---- what the laws say of it

-- the conditions before place k hold, and the one at place k fails
abbrev pub FailsFirst : List Condition → ℕ → Type 0
FailsFirst [] k = ⊥
FailsFirst (c ∷ cs) zero = c.holds ≡ false
FailsFirst (c ∷ cs) (suc k) = (c.holds ≡ true) × FailsFirst cs k

-- each condition holds
abbrev pub AllHold : List Condition → Type 0
AllHold [] = Unit {0}
AllHold (c ∷ []) = c.holds ≡ true
AllHold (c ∷ d ∷ cs) = (c.holds ≡ true) × AllHold (d ∷ cs)

unfoldable pub numbers_of : List Condition → List ℕ
numbers_of cs = map (λ c. c.number) cs

-- the number of the condition at place k
unfoldable pub number_at : List Condition → ℕ → ℕ
number_at cs k = get_or (numbers_of cs) k 0

-- no number is 0 or given twice
unfoldable pub numbers_distinct : List ℕ → Bool
numbers_distinct [] = true
numbers_distinct (n ∷ ns) = not (eqb n 0) && (not (elem n ns) && numbers_distinct ns)
