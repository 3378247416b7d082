-- Lists one behind the other.
use Prim.Native.Nat.{ℕ, ◌+◌, ◌≤◌, ◌<◌}
use mathlib.Core.Path.{◌≡◌, refl, sym, ap, ◌∙◌}
use mathlib.Core.List.{List, [], ◌∷◌, ◌++◌, map, map-append, append-nil, append_assoc}
use native.Mathlib.Omega.{arith}
use native.Mathlib.Numerals.{add-one}
use lib.ListN.{length, get_or, take, drop, length-append, take-append-drop}
use lib.Seq.{take-suc}
use Rattle.lists.specs.Lists.{joined}

pub joined_append : (a b : List (List ℕ)) → joined (a ++ b) ≡ joined a ++ joined b
unfolding joined
joined_append [] b = refl
joined_append (x ∷ a) b = ap (λ (l : List ℕ). x ++ l) (joined_append a b) ∙ sym (append_assoc x (joined a) (joined b))

pub joined_one : (x : List ℕ) → joined (x ∷ []) ≡ x
unfolding joined
joined_one x = append-nil x

-- one list more
pub joined_more : (xs : List (List ℕ)) (i : ℕ) → i < length xs → joined (take (i + 1) xs) ≡ joined (take i xs) ++ get_or xs i []
joined_more xs i l =
    ap (λ (n : ℕ). joined (take n xs)) (add-one i)
    ∙ ap joined (take-suc xs i [] l)
    ∙ joined_append (take i xs) (get_or xs i [] ∷ [])
    ∙ ap (λ (x : List ℕ). joined (take i xs) ++ x) (joined_one (get_or xs i []))

pub joined_part : (i : ℕ) (xs : List (List ℕ)) → length (joined (take i xs)) ≤ length (joined xs)
joined_part i xs =
    omega (
      arith,
      ap length (ap joined (sym (take-append-drop i xs)) ∙ joined_append (take i xs) (drop i xs)),
      length-append (joined (take i xs)) (joined (drop i xs)),
    )

-- what each member of the lists becomes, list by list
pub joined_map : (f : ℕ → List ℕ) (xs : List (List ℕ)) → joined (map f (joined xs)) ≡ joined (map (λ x. joined (map f x)) xs)
unfolding joined
joined_map f [] = refl
joined_map f (x ∷ xs) =
    ap joined (map-append f x (joined xs)) ∙ joined_append (map f x) (map f (joined xs)) ∙ ap (λ (l : List ℕ). joined (map f x) ++ l) (joined_map f xs)
