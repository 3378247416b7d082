-- Tests of lists.
use Rattle.std.specs.Prelude.{ℕ, suc, Bool, true, false, cond, ◌&&◌, ◌||◌, List, [], ◌∷◌, ◌++◌, eqb}

-- m is one of r
unfoldable pub elem : ℕ → List ℕ → Bool
elem m [] = false
elem m (n ∷ r) = eqb m n || elem m r

-- two lists of numbers are the same
unfoldable pub same_list : List ℕ → List ℕ → Bool
same_list [] [] = true
same_list [] (n ∷ s) = false
same_list (m ∷ r) [] = false
same_list (m ∷ r) (n ∷ s) = eqb m n && same_list r s

-- each of the list passes the test
unfoldable pub every : {A : Type 0} → (A → Bool) → List A → Bool
every f [] = true
every f (x ∷ xs) = f x && every f xs

-- the lists one behind the other
unfoldable pub joined : List (List ℕ) → List ℕ
joined [] = []
joined (x ∷ xs) = x ++ joined xs

-- x is one of the list, by a test of what is the same
unfoldable pub known_by : {A : Type 0} → (A → A → Bool) → A → List A → Bool
known_by same x [] = false
known_by same x (y ∷ ys) = same x y || known_by same x ys

-- the place of x in the list; its length if it is not there
unfoldable pub position_by : {A : Type 0} → (A → A → Bool) → A → List A → ℕ
position_by same x [] = 0
position_by same x (y ∷ ys) = cond (same x y) 0 (suc (position_by same x ys))

-- of lists of numbers
abbrev pub known : List ℕ → List (List ℕ) → Bool
known r ls = known_by same_list r ls

abbrev pub position : List ℕ → List (List ℕ) → ℕ
position r ls = position_by same_list r ls
