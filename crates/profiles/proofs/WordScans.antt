-- A word, the bytes of a path and modes that are scanned one by one from a place of the text: what is left has what is left of
-- the answer.
use Prim.Native.Nat.{ℕ, ◌+◌, ◌≤◌, ◌<◌}
use mathlib.Core.Path.{◌≡◌, refl, sym, ap, ◌∙◌}
use mathlib.Core.Bool.{Bool, true, false, ◌&&◌}
use mathlib.Core.List.{List, [], ◌∷◌}
use native.Mathlib.Omega.{arith}
use native.Mathlib.Numerals.{add-one}
use lib.Dec.{eqb}
use lib.ListN.{length, get_or, take, drop, drop_of_length-le}
use lib.Pointwise.{pointwise}
use lib.Seq.{drop-cons}
use Rattle.profiles.specs.Profiles.{is_path_byte}
use Rattle.profiles.specs.Tokens.{starts, tokens}
use Rattle.profiles.specs.Reading.{path_byte_in, byte_text, path_in}
use Rattle.profiles.proofs.TokenLaws.{tokens_stop, tokens_step}

pub drop_next : (t : List ℕ) (i : ℕ) → i < length t → drop i t ≡ get_or t i 0 ∷ drop (i + 1) t
drop_next t i l = drop-cons t i 0 l ∙ ap (λ (k : ℕ). get_or t i 0 ∷ drop k t) (sym (add-one i))

-- ---- a word

-- what the library's test of a word in front of a text answers
pub starts_pointwise : (w t : List ℕ) → pointwise eqb w (take (length w) t) ≡ starts w t
unfolding starts
starts_pointwise [] t = refl
starts_pointwise (b ∷ w) [] = refl
starts_pointwise (b ∷ w) (x ∷ t) = ap (λ (s : Bool). eqb b x && s) (starts_pointwise w t)

-- ---- the bytes of a path

path_more : (t : List ℕ) (i : ℕ) → i < length t → is_path_byte (get_or t i 0) ≡ true → path_in (drop i t) ≡ get_or t i 0 ∷ path_in (drop (i + 1) t)
unfolding path_in path_byte_in
path_more t i l h =
    let b = get_or t i 0 in
    ap (tokens path_byte_in byte_text) (drop_next t i l)
    ∙ tokens_step path_byte_in byte_text (b ∷ drop (i + 1) t) b (rw h) (omega arith) (omega arith)

path_none : (t : List ℕ) (i : ℕ) → i < length t → is_path_byte (get_or t i 0) ≡ false → path_in (drop i t) ≡ []
unfolding path_in path_byte_in
path_none t i l h = ap (tokens path_byte_in byte_text) (drop_next t i l) ∙ tokens_stop path_byte_in byte_text (get_or t i 0 ∷ drop (i + 1) t) (rw h)

path_ended : (t : List ℕ) (i : ℕ) → length t ≤ i → path_in (drop i t) ≡ []
unfolding path_in path_byte_in
path_ended t i l = ap (tokens path_byte_in byte_text) (drop_of_length-le t l) ∙ tokens_stop path_byte_in byte_text [] refl

-- the bytes from the place up to i are those of a path
pub record PathScanned (t : List ℕ) (at i : ℕ) : Type 0 where
  pub place : i ≤ length t
  pub ends : i + length (path_in (drop i t)) ≡ at + length (path_in (drop at t))

pub path_start : (t : List ℕ) (at : ℕ) → at ≤ length t → PathScanned t at at
path_start t at l = record { place = l; ends = refl }

module _ (t : List ℕ) (at i : ℕ) (g : PathScanned t at i) where
  pub path_next : i < length t → is_path_byte (get_or t i 0) ≡ true → PathScanned t at (i + 1)
  path_next l h = record { place = omega arith; ends = omega (arith, ap length (path_more t i l h), g.ends) }

  pub path_stop : i < length t → is_path_byte (get_or t i 0) ≡ false → i ≡ at + length (path_in (drop at t))
  path_stop l h = omega (arith, ap length (path_none t i l h), g.ends)

  pub path_end_lem : length t ≤ i → i ≡ at + length (path_in (drop at t))
  path_end_lem l = omega (arith, ap length (path_ended t i l), g.ends)
