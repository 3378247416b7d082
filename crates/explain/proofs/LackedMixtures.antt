-- The mixtures of the rule that forbids: read from the image, and handed on one by one with the atom that each lacks.
use Prim.Native.Nat.{ℕ, suc, ◌+◌, ◌-◌, ◌≤◌, ◌<◌}
use native.Mathlib.Omega.{arith}
use native.Mathlib.Numerals.{add-one}
use mathlib.Core.Path.{◌≡◌, refl, sym, ap, ap₂, ◌∙◌}
use mathlib.Core.Bool.{Bool, true, false}
use mathlib.Core.List.{List, [], ◌∷◌, ◌++◌, map, append_assoc, append-nil}
use lib.ListN.{length, take, drop, get_or, length-take, length-drop, length-map, drop_of_length-le}
use lib.Seq.{take-suc, take-take, drop-cons, get_or-take, get_or-drop}
use Rattle.lists.specs.Lists.{elem}
use Rattle.lists.proofs.Places.{map_at}
use Rattle.rules.specs.declared.Bounded.{Bounded}
use Rattle.rules.specs.Answers.{tag_width, mixture_limit, bounded_of}
use Rattle.image.specs.Limits.{container_limit}
use Rattle.image.specs.Policy.{rule_at}
use Rattle.image.specs.Image.{policy_in}
use Rattle.certificate.proofs.ImageRules.{bounded_count, bounded_take}
use Rattle.explanations.specs.Lines.{lacks_line, mixture_lines}
use Rattle.files.specs.Calls.{Handed, handed_none, handed_then, handed_as}
use Rattle.explain.specs.Texts.{way_text, mixtures_of, lacked_in, came_in, mixtures_text}
use Rattle.certificate.specs.Whys.{why_receiver_at, why_rule_at, why_atoms_at}
use Rattle.explain.specs.Runs.{WhyNumbers, mixture_text}

-- ---- a mixture of the image

pub mixture_is : (r : List ℕ) (b : Bounded) (j : ℕ) → length r ≤ mixture_limit → b ≡ bounded_of r → j < length r → get_or b.mixtures j 0 ≡ get_or r j 0
mixture_is r b j s e l =
    let k : j < b.count = omega (arith, bounded_count r s e) in
    let z : b.count - 0 ≡ b.count = omega arith in
    sym (get_or-take b.count b.mixtures j 0 k) ∙ ap (λ (x : List ℕ). get_or x j 0) (rw z at (bounded_take r s e))

-- ---- one mixture

-- the atoms that the numbers tell
pub atom_in : (i t why : List ℕ) → take (length (mixtures_of i t)) (drop why_atoms_at why) ≡ map (lacked_in i t) (mixtures_of i t) → (j : ℕ) → j < length (mixtures_of i t)
    → get_or why (why_atoms_at + j) 0 ≡ lacked_in i t (get_or (mixtures_of i t) j 0)
atom_in i t why h j l =
    sym (get_or-drop why_atoms_at why j 0)
    ∙ sym (get_or-take (length (mixtures_of i t)) (drop why_atoms_at why) j 0 l)
    ∙ ap (λ (x : List ℕ). get_or x j 0) h
    ∙ map_at (lacked_in i t) (mixtures_of i t) j 0 0 l

-- there are atoms of at most 8
pub few_mixtures : (i t why : List ℕ) → WhyNumbers i t why → length (mixtures_of i t) ≤ mixture_limit
few_mixtures i t why h =
    omega (arith, h.long, ap length h.atoms, length-take (length (mixtures_of i t)) (drop why_atoms_at why), length-drop why_atoms_at why, length-map (mixtures_of i t) (lacked_in i t))

module _ (i t why : List ℕ) (h : WhyNumbers i t why) (j : ℕ) (l : j < length (mixtures_of i t)) where
  pub atom_at : get_or why (why_atoms_at + j) 0 ≡ lacked_in i t (get_or (mixtures_of i t) j 0)
  atom_at = atom_in i t why h.atoms j l

  rule_is_named : mixtures_of i t ≡ rule_at (policy_in i).rules (get_or why why_rule_at 0)
  unfolding mixtures_of
  rule_is_named = ap (rule_at (policy_in i).rules) (sym h.rule)

  pub mixture_there : j < length (rule_at (policy_in i).rules (get_or why why_rule_at 0))
  mixture_there = rw rule_is_named at l

  pub mixture_told : (m : ℕ) → m ≡ get_or (rule_at (policy_in i).rules (get_or why why_rule_at 0)) j 0 → m ≡ get_or (mixtures_of i t) j 0
  mixture_told m e = e ∙ ap (λ (x : List ℕ). get_or x j 0) (sym rule_is_named)

  pub container_low : get_or why why_receiver_at 0 < container_limit
  container_low = omega (arith, h.receiver, h.container)

  pub atom_low : get_or why (why_atoms_at + j) 0 < tag_width
  atom_low = omega (arith, atom_at, h.small j l)

  pub came_is : (k : ℕ) → way_text i t (get_or why why_receiver_at 0) k ≡ came_in i t k
  unfolding came_in
  came_is k = ap (λ (c : ℕ). way_text i t c k) h.receiver

  pub atoms_before : take j (drop why_atoms_at why) ≡ take j (map (lacked_in i t) (mixtures_of i t))
  atoms_before =
      let k : j ≤ length (mixtures_of i t) = omega arith in
      sym (take-take j (length (mixtures_of i t)) (drop why_atoms_at why) k) ∙ ap (λ (x : List ℕ). take j x) h.atoms

  abbrev told_already : Bool
  told_already = elem (lacked_in i t (get_or (mixtures_of i t) j 0)) (take j (map (lacked_in i t) (mixtures_of i t)))

  before_is : (b : Bool) → b ≡ elem (get_or why (why_atoms_at + j) 0) (take j (drop why_atoms_at why)) → b ≡ told_already
  before_is b e = e ∙ ap₂ (λ (k : ℕ) (x : List ℕ). elem k x) atom_at atoms_before

  line_is : (m k : ℕ) → m ≡ get_or (mixtures_of i t) j 0 → k ≡ get_or why (why_atoms_at + j) 0 → lacks_line m k
      ≡ lacks_line (get_or (mixtures_of i t) j 0) (lacked_in i t (get_or (mixtures_of i t) j 0))
  line_is m k e f = ap₂ (λ (x y : ℕ). lacks_line x y) e (f ∙ atom_at)

  pub mixture_known : (m k a b : ℕ) (r : Bool) → m ≡ get_or (mixtures_of i t) j 0 → k ≡ get_or why (why_atoms_at + j) 0 → r
      ≡ elem (get_or why (why_atoms_at + j) 0) (take j (drop why_atoms_at why)) → r ≡ true
      → Handed (lacks_line m k) a b → Handed (mixture_text i t j) a b
  unfolding mixture_text
  mixture_known m k a b r e f g p x =
      handed_as (line_is m k e f ∙ sym (append-nil _) ∙ rw (sym (before_is r g) ∙ p) refl) x

  pub mixture_new : (m k a b d : ℕ) (r : Bool) → m ≡ get_or (mixtures_of i t) j 0 → k ≡ get_or why (why_atoms_at + j) 0 → r
      ≡ elem (get_or why (why_atoms_at + j) 0) (take j (drop why_atoms_at why)) → r ≡ false
      → Handed (lacks_line m k) a b → Handed (came_in i t k) b d → Handed (mixture_text i t j) a d
  unfolding mixture_text
  mixture_new m k a b d r e f g p x y =
      handed_as (rw (sym (before_is r g) ∙ p) refl)
      (handed_then (handed_as (line_is m k e f) x) (handed_as (ap (came_in i t) (f ∙ atom_at)) y))

-- ---- the loop over the mixtures

-- the lines of the first j are handed on
pub record Mixing (i t : List ℕ) (before after j : ℕ) : Type 0 where
  pub front : List ℕ
  pub within : j ≤ length (mixtures_of i t)
  pub handed : Handed front before after
  pub text : front ++ mixture_lines (lacked_in i t) (came_in i t) (take j (map (lacked_in i t) (mixtures_of i t))) (drop j (mixtures_of i t)) ≡ mixtures_text i t

pub mixing_start : (i t : List ℕ) (a : ℕ) → Mixing i t a a 0
unfolding mixtures_text
mixing_start i t a = record { front = []; within = omega arith; handed = handed_none a; text = refl }

module _ (i t : List ℕ) (a b j : ℕ) (h : Mixing i t a b j) (l : j < length (mixtures_of i t)) where
  atoms_more : take (suc j) (map (lacked_in i t) (mixtures_of i t)) ≡ take j (map (lacked_in i t) (mixtures_of i t)) ++ (lacked_in i t (get_or (mixtures_of i t) j 0) ∷ [])
  atoms_more =
      let k : j < length (map (lacked_in i t) (mixtures_of i t)) = omega (arith, length-map (mixtures_of i t) (lacked_in i t)) in
      take-suc (map (lacked_in i t) (mixtures_of i t)) j 0 k
      ∙ ap (λ (x : ℕ). take j (map (lacked_in i t) (mixtures_of i t)) ++ (x ∷ [])) (map_at (lacked_in i t) (mixtures_of i t) j 0 0 l)

  unfolded : mixture_lines (lacked_in i t) (came_in i t) (take j (map (lacked_in i t) (mixtures_of i t))) (drop j (mixtures_of i t))
      ≡ mixture_text i t j ++ mixture_lines (lacked_in i t) (came_in i t) (take (suc j) (map (lacked_in i t) (mixtures_of i t))) (drop (suc j) (mixtures_of i t))
  unfolding mixture_lines mixture_text
  unfolded = rw (drop-cons (mixtures_of i t) j 0 l, atoms_more) refl

  pub mixing_next : (d : ℕ) → Handed (mixture_text i t j) b d → Mixing i t a d (j + 1)
  mixing_next d x =
      record {
        front = h.front ++ mixture_text i t j;
        within = omega arith;
        handed = handed_then h.handed x;
        text =
            ap (λ (k : ℕ). (h.front ++ mixture_text i t j) ++ mixture_lines (lacked_in i t) (came_in i t) (take k (map (lacked_in i t) (mixtures_of i t))) (drop k (mixtures_of i t))) (add-one j)
            ∙ append_assoc h.front (mixture_text i t j) _
            ∙ ap (λ (x : List ℕ). h.front ++ x) (sym unfolded)
            ∙ h.text;
      }

pub mixing_end : (i t : List ℕ) (a b j : ℕ) → Mixing i t a b j → length (mixtures_of i t) ≤ j → Handed (mixtures_text i t) a b
mixing_end i t a b j h l = handed_as (sym (append-nil h.front) ∙ ap (λ (x : List ℕ). h.front ++ x) (sym none) ∙ h.text) h.handed
  where
    none : mixture_lines (lacked_in i t) (came_in i t) (take j (map (lacked_in i t) (mixtures_of i t))) (drop j (mixtures_of i t)) ≡ []
    none = rw (drop_of_length-le (mixtures_of i t) {i = j} l) (unfold mixture_lines in refl)
