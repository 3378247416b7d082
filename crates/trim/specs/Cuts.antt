-- Cuts of a trace, as lists of the positions kept in front of the last one, and the passes over them (change request No. 13). Whether
-- a cut counts is a test of such a list.
use Rattle.std.specs.Prelude.{ℕ, zero, suc, ◌≡◌, Bool, false, cond, List, [], ◌∷◌, ◌++◌}
use Rattle.lists.specs.Lists.{same_list}

-- "Passes run from first to last, dropping what can go": what is kept so far, and what is still to be tried
unfoldable pub pass_from : (List ℕ → Bool) → List ℕ → List ℕ → List ℕ
pass_from counts kept [] = kept
pass_from counts kept (k ∷ rest) = cond (counts (kept ++ rest)) (pass_from counts kept rest) (pass_from counts (kept ++ (k ∷ [])) rest)

unfoldable pub pass : (List ℕ → Bool) → List ℕ → List ℕ
pass counts ks = pass_from counts [] ks

-- "until one drops nothing", at most so many passes; Theorems, `passes_end`, says that one for each position is always enough
unfoldable pub trim_in : (List ℕ → Bool) → ℕ → List ℕ → List ℕ
trim_in counts zero ks = ks
trim_in counts (suc n) ks = cond (same_list (pass counts ks) ks) ks (trim_in counts n (pass counts ks))

-- "no single further one can go"
abbrev pub Minimal : (List ℕ → Bool) → List ℕ → Type 0
Minimal counts ks = (xs : List ℕ) (k : ℕ) (ys : List ℕ) → xs ++ (k ∷ ys) ≡ ks → counts (xs ++ ys) ≡ false

-- the members of ks are among those of ls, in their order
pub data Cut : List ℕ → List ℕ → Type 0 where
  none : Cut [] []
  keep : {k : ℕ} {ks ls : List ℕ} → Cut ks ls → Cut (k ∷ ks) (k ∷ ls)
  drop : {k : ℕ} {ks ls : List ℕ} → Cut ks ls → Cut ks (k ∷ ls)
