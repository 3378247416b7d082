-- A rule that refines another is their meet.
use Prim.Native.Nat.{ℕ, ◌+◌, ◌≤◌, ◌<◌}
use mathlib.Core.Path.{◌≡◌, refl, sym, ◌∙◌}
use mathlib.Core.Bool.{true, false, ◌&&◌}
use mathlib.Core.List.{List, [], ◌∷◌}
use mathlib.Core.Logic.{⊎_elim}
use native.Mathlib.Numerals.{add-one}
use lib.ListN.{length, get_or, drop, drop_of_length-le}
use lib.Seq.{drop-cons}
use Rattle.lists.proofs.Bools.{and_in, and_0, and_1, same_test}
use Rattle.rules.proofs.RuleLaws.{Largest, largest, covers_by, covers_part, covers_intersections, normal_unique}
use Rattle.lists.proofs.Elem.{elem_none, elem_here, elem_there, elem_cases}
use Rattle.rules.proofs.SetLaws.{holds_refl}
use Rattle.rules.specs.Rules.{covers, normal, intersections, meet, refines}
use Rattle.lists.specs.Lists.{elem}

refines_each : (r s : List ℕ) → refines r s ≡ true → (m : ℕ) → elem m r ≡ true → covers s m ≡ true
unfolding refines
refines_each [] s h m e = elem_none m e
refines_each (n ∷ r) s h m e =
    ⊎_elim (λ q. rw q (and_0 (covers s n) (refines r s) h)) (λ q. refines_each r s (and_1 (covers s n) h) m q) (elem_cases m n r e)

-- whatever r covers, s covers
pub refines_covers : (r s : List ℕ) → refines r s ≡ true → (t : ℕ) → covers r t ≡ true → covers s t ≡ true
refines_covers r s h t c = let l : Largest r t = largest r t c in covers_part s t l.top l.over (refines_each r s h l.top l.among)

pub covers_refines : (r s : List ℕ) → ((t : ℕ) → covers r t ≡ true → covers s t ≡ true) → refines r s ≡ true
unfolding refines
covers_refines [] s f = refl
covers_refines (m ∷ r) s f =
    and_in (f m (covers_by m (m ∷ r) m (elem_here m r) (holds_refl m)))
    (covers_refines r s (λ t c. let l : Largest r t = largest r t c in f t (covers_by l.top (m ∷ r) t (elem_there l.top m r l.among) l.over)))

pub refines_meet : (r s : List ℕ) → normal r ≡ r → refines r s ≡ true → r ≡ meet r s
unfolding meet
refines_meet r s e h =
    sym e ∙ normal_unique r (intersections r s) (λ t. both t ∙ sym (covers_intersections r s t))
  where
    both : (t : ℕ) → covers r t ≡ (covers r t && covers s t)
    both t =
        same_test (covers r t) (covers r t && covers s t) (λ c. and_in c (refines_covers r s h t c))
        (and_0 (covers r t) (covers s t))

-- ---- a rule that is read one mixture at a time

refines_next : (r s : List ℕ) (i : ℕ) → i < length r → refines (drop i r) s ≡ (covers s (get_or r i 0) && refines (drop (i + 1) r) s)
unfolding refines
refines_next r s i h = rw (add-one, drop-cons r i 0)

module _ (r s : List ℕ) (i : ℕ) (inv : refines (drop i r) s ≡ refines r s) where
  pub refines_failed : i < length r → covers s (get_or r i 0) ≡ false → false ≡ refines r s
  refines_failed h e = sym (rw e at (refines_next r s i h)) ∙ inv

  pub refines_passed : i < length r → covers s (get_or r i 0) ≡ true → refines (drop (i + 1) r) s ≡ refines r s
  refines_passed h e = sym (rw e at (refines_next r s i h)) ∙ inv

  pub refines_ended : length r ≤ i → true ≡ refines r s
  refines_ended h = unfold refines in (rw (drop_of_length-le r h) at inv)
