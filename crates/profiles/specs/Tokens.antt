-- Reading bytes from the left: the longest row of tokens in front of a text. Bytes of a path, modes and lines are each read so.
use Rattle.std.specs.Prelude.{ℕ, zero, suc, ◌-◌, Bool, true, false, ◌&&◌, List, [], ◌∷◌, eqb, length}
use Rattle.std.proofs.Math.Option.{Option, none, some}

abbrev pub given : {A B : Type 0} → Option A → B → (A → B) → B
given none y f = y
given (some x) y f = f x

-- the text begins with the word
unfoldable pub starts : List ℕ → List ℕ → Bool
starts [] t = true
starts (b ∷ w) [] = false
starts (b ∷ w) (c ∷ t) = eqb b c && starts w t

-- `next` reads the token in front, if there is one, and `text` is a token's text
module _ {A : Type 0} (next : List ℕ → Option A) (text : A → List ℕ) where
  -- the tokens behind the first k bytes
  unfoldable pub tokens_from : ℕ → List ℕ → List A
  tokens_from zero [] = []
  tokens_from (suc k) [] = []
  tokens_from (suc k) (b ∷ t) = tokens_from k t
  tokens_from zero (b ∷ t) = given (next (b ∷ t)) [] (λ a. a ∷ tokens_from (length (text a) - 1) t)

  unfoldable pub tokens : List ℕ → List A
  tokens t = tokens_from zero t
