-- The meet, of one mixture by one, and by the sieve.
use Prim.Native.Nat.{ℕ, suc, ◌*◌, ◌^◌, ◌<◌}
use mathlib.Core.Path.{◌≡◌, refl, sym, ap, ap₂, ◌∙◌}
use mathlib.Core.List.{List, [], ◌∷◌}
use native.Mathlib.Omega.{arith}
use native.Mathlib.Nat.{suc-mul}
use lib.Bits.{bit_and}
use lib.ListN.{length, get_or, take}
use mathlib.Core.Logic.{⊎_elim}
use Rattle.rules.proofs.MeetAll.{normal_one}
use Rattle.lists.proofs.Elem.{elem_none, elem_cases}
use Rattle.rules.proofs.RuleLaws.{normal_unique, meet_comm, meet_none, meet_unrestricted}
use Rattle.rules.specs.Order.{Within}
use Rattle.rules.specs.Rules.{normal, meet, intersections, unrestricted}
use Rattle.rules.specs.Answers.{tag_width, bounded_if_fits}
use Rattle.std.specs.Prelude.{Option}
use Rattle.rules.specs.declared.Bounded.{Bounded}
use Rattle.rules.specs.Sieve.{Candidates}

-- a list of one number
pub single : (l : List ℕ) → length l ≡ 1 → l ≡ get_or l 0 0 ∷ []
single [] e = absurd (omega arith)
single (x ∷ []) e = refl
single (x ∷ y ∷ l) e = absurd (omega arith)

pub meet_one : (r s : List ℕ) → length r ≡ 1 → length s ≡ 1 → bit_and (get_or r 0 0) (get_or s 0 0) ∷ [] ≡ meet r s
unfolding meet intersections
meet_one r s e f =
    sym (normal_one (bit_and (get_or r 0 0) (get_or s 0 0)))
    ∙ sym (ap₂ (λ (a b : List ℕ). normal (intersections a b)) (single r e) (single s f))

-- no pair of mixtures
pub meet_no_pair : (r s : List ℕ) → length r * length s ≡ 0 → [] ≡ meet r s
meet_no_pair [] s e = sym (meet_none s) ∙ meet_comm s []
meet_no_pair (m ∷ r) [] e = sym (meet_none (m ∷ r))
meet_no_pair (m ∷ r) (n ∷ s) e = absurd (omega (arith, suc-mul (length r) (length (n ∷ s))))

-- what is listed covers what all intersections cover: it has their normal form
pub meet_bounded : (r s a b : List ℕ) (n k : ℕ) (m : Option Bounded) → Candidates (intersections r s) a b n k → m ≡ bounded_if_fits (normal (take n b)) → m ≡ bounded_if_fits (meet r s)
unfolding meet
meet_bounded r s a b n k m w e = e ∙ ap bounded_if_fits (normal_unique (take n b) (intersections r s) w.same)

-- elements below 2 to the w
pub within_get_d : (w : ℕ) (r : List ℕ) → ((k : ℕ) → get_or r k 0 < 2 ^ w) → Within w r
within_get_d w [] h m e = elem_none m e
within_get_d w (n ∷ r) h m e =
    ⊎_elim (λ q. rw q (h 0)) (λ q. within_get_d w r (λ k. h (suc k)) m q) (elem_cases m n r e)

-- the normal form, as the meet with the unrestricted rule
pub meet_all_atoms : (r : List ℕ) → ((k : ℕ) → get_or r k 0 < 2 ^ tag_width) → meet (unrestricted tag_width) r ≡ normal r
meet_all_atoms r h = meet_comm (unrestricted tag_width) r ∙ meet_unrestricted tag_width r (within_get_d tag_width r h)
