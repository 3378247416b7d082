-- The test of a path by its first byte and its length, where its bytes are those of a path.
use Prim.Native.Nat.{ℕ, ◌+◌, ◌≤◌, ◌<◌}
use mathlib.Core.Path.{◌≡◌, refl, sym, ap, ◌∙◌}
use mathlib.Core.Bool.{true, false, ◌&&◌}
use mathlib.Core.List.{List, [], ◌∷◌}
use native.Mathlib.Omega.{arith}
use lib.Dec.{eqb, leb}
use lib.ListN.{length, get_or, drop, get_or-append}
use lib.Seq.{get_or-drop}
use borrow.Author.Tests.{eqb-true, eq-eqb, leb-true, le-leb}
use Rattle.lists.specs.Lists.{every}
use Rattle.lists.proofs.Bools.{and_in, and_0, and_1, clash, refuted, same_test}
use Rattle.lists.proofs.Every.{every_1}
use Rattle.profiles.specs.Profiles.{slash, is_path_byte, path_good}
use Rattle.profiles.specs.Reading.{path_byte_in, byte_text, path_in}
use Rattle.profiles.proofs.TokenLaws.{starts_split, tokens_every}
use Rattle.profiles.proofs.ProfileLines.{byte_long, path_byte_front, path_byte_good, path_front}

pub path_in_bytes : (t : List ℕ) → every is_path_byte (path_in t) ≡ true
unfolding path_in
path_in_bytes t = tokens_every path_byte_in byte_text byte_long path_byte_front is_path_byte path_byte_good t

pub path_parts : (p : List ℕ) → path_good p ≡ true → (get_or p 0 0 ≡ slash) × (2 ≤ length p) × (length p ≤ 64)
unfolding path_good
path_parts [] h = clash h refl
path_parts (b ∷ p) h =
    let g : (leb 1 (length p) && leb (length p) 63) ≡ true = and_0 (leb 1 (length p) && leb (length p) 63) (every is_path_byte p) (and_1 (eqb b slash) h) in
    let l : 1 ≤ length p = leb-true 1 (length p) (and_0 (leb 1 (length p)) (leb (length p) 63) g) in
    let m : length p ≤ 63 = leb-true (length p) 63 (and_1 (leb 1 (length p)) g) in
    (eqb-true b slash (and_0 (eqb b slash) _ h), omega arith, omega arith)

path_made : (p : List ℕ) → get_or p 0 0 ≡ slash → 2 ≤ length p → length p ≤ 64 → every is_path_byte p ≡ true → path_good p ≡ true
unfolding path_good
path_made [] s l m h = absurd (omega arith)
path_made (b ∷ p) s l m h =
    let l' : 1 ≤ length p = omega arith in
    let m' : length p ≤ 63 = omega arith in
    and_in (eq-eqb b slash s) (and_in (and_in (le-leb 1 (length p) l') (le-leb (length p) 63 m')) (every_1 is_path_byte b p h))

path_first : (t : List ℕ) → 0 < length (path_in t) → get_or (path_in t) 0 0 ≡ get_or t 0 0
path_first t l =
    sym (get_or-append (path_in t) (drop (length (path_in t)) t) 0 0 l) ∙ ap (λ (u : List ℕ). get_or u 0 0) (starts_split (path_in t) t (path_front t))

-- ---- from a place of the text

module _ (t : List ℕ) (at : ℕ) where
  first_at : 0 < length (path_in (drop at t)) → get_or (path_in (drop at t)) 0 0 ≡ get_or t at 0
  first_at l = let e : at + 0 ≡ at = omega arith in path_first (drop at t) l ∙ get_or-drop at t 0 0 ∙ ap (λ (k : ℕ). get_or t k 0) e

  pub path_no_slash : (get_or t at 0 ≡ slash → ⊥) → false ≡ path_good (path_in (drop at t))
  path_no_slash n =
      sym (refuted (path_good (path_in (drop at t))) (λ h. let g = path_parts (path_in (drop at t)) h in n (sym (first_at (omega (arith, g.1))) ∙ g.0)))

  pub path_short : length (path_in (drop at t)) < 2 → false ≡ path_good (path_in (drop at t))
  path_short l = sym (refuted (path_good (path_in (drop at t))) (λ h. omega (arith, (path_parts (path_in (drop at t)) h).1)))

  pub path_fits : get_or t at 0 ≡ slash → 2 ≤ length (path_in (drop at t)) → leb (length (path_in (drop at t))) 64 ≡ path_good (path_in (drop at t))
  path_fits s l =
      same_test (leb (length (path_in (drop at t))) 64) (path_good (path_in (drop at t)))
      (λ h. path_made (path_in (drop at t)) (first_at (omega arith) ∙ s) l (leb-true (length (path_in (drop at t))) 64 h) (path_in_bytes (drop at t)))
      (λ h. le-leb (length (path_in (drop at t))) 64 (path_parts (path_in (drop at t)) h).2)
