-- A rule of the image, read mixture by mixture.
use Prim.Native.Nat.{ℕ, ◌+◌, ◌/◌, ◌≤◌, ◌<◌}
use mathlib.Core.Path.{◌≡◌, refl, sym, ap, ap₂, ◌∙◌}
use mathlib.Core.List.{List, [], ◌∷◌}
use native.Mathlib.Omega.{arith}
use lib.ListN.{length, get_or, take, drop, length-take, length-drop}
use lib.Seq.{get_or-take, get_or-drop}
use mathlib.Core.Bool.{true}
use mathlib.Core.Logic.{⊎_elim}
use lib.Dec.{ltb}
use borrow.Author.Tests.{ltb-true, eqb-true, ne_eqb}
use Rattle.lists.proofs.Bools.{or_cases}
use Rattle.rules.specs.declared.Bounded.{Bounded}
use Rattle.rules.specs.Rules.{normal, unrestricted}
use Rattle.rules.specs.Answers.{bounded_of, tag_width, mixture_limit}
use Rattle.rule_words.specs.Words.{words_of}
use Rattle.rule_words.proofs.WordLaws.{bounded_words_lem}
use Rattle.image.specs.Policy.{unrestricted_rule, rule_at, named}
use Rattle.image.specs.Image.{mixtures_in, rules_in, rule_records_good}
use Rattle.image.specs.Normal.{normal_at}
use Rattle.rules.proofs.RuleLaws.{normal_length}
use native.Mathlib.Decide.{ℕ_discrete}
use Rattle.image.proofs.WrittenMeaning.{normal_unrestricted}
use Rattle.image.proofs.RecordsByPlace.{mixtures_count, rule_first, rule_count, rule_at_lem, rule_fits}
use Rattle.image.specs.Limits.{rule_size, mixture_size, unrestricted_number}

-- the mixtures from first on
module _ (m : List ℕ) (first n : ℕ) (h : first + n ≤ length m / mixture_size) where
  pub from_length : length (take n (drop first (mixtures_in m))) ≡ n
  from_length = omega (arith, length-take n (drop first (mixtures_in m)), length-drop first (mixtures_in m), mixtures_count m)

  pub from_at : (j : ℕ) → j < n → get_or (mixtures_in m) (first + j) 0 ≡ get_or (take n (drop first (mixtures_in m))) j 0
  from_at j l = sym (get_or-take n (drop first (mixtures_in m)) j 0 l ∙ get_or-drop first (mixtures_in m) j 0)

-- ---- a rule by its number

pub own_rule : (r m : List ℕ) (n first count : ℕ) → rule_records_good r m ≡ true → n < length r / rule_size
    → first ≡ rule_first r n → count ≡ rule_count r n → take count (drop first (mixtures_in m)) ≡ get_or (rules_in r m) n []
own_rule r m n first count h l e f = ap₂ (λ (k a : ℕ). take k (drop a (mixtures_in m))) f e ∙ sym (rule_at_lem r m h n l)

unrestricted_at : (rules : List (List ℕ)) (n : ℕ) → n ≡ unrestricted_number → normal_at rules n ≡ unrestricted tag_width
unfolding normal_at rule_at
unrestricted_at rules n e = rw (e, normal_unrestricted) (unfold unrestricted_rule in refl)

pub unrestricted_words : (rules : List (List ℕ)) (n : ℕ) (b : Bounded) (out : List ℕ)
    → n ≡ unrestricted_number → b ≡ bounded_of (unrestricted tag_width) → out ≡ b.count ∷ b.mixtures → out ≡ words_of (normal_at rules n)
unrestricted_words rules n b out e f h = h ∙ bounded_words_lem (unrestricted tag_width) b f ∙ ap words_of (sym (unrestricted_at rules n e))

pub named_own : (k n : ℕ) → named k n ≡ true → (n ≡ unrestricted_number → ⊥) → n < k
unfolding named
named_own k n h d = ⊎_elim (λ p. ltb-true n k p) (λ p. absurd (d (eqb-true n unrestricted_number p))) (or_cases (ltb n k) h)

pub own_normal : (rules : List (List ℕ)) (n : ℕ) → (n ≡ unrestricted_number → ⊥) → normal (get_or rules n []) ≡ normal_at rules n
unfolding normal_at rule_at
own_normal rules n d = rw (ne_eqb n unrestricted_number d)

-- ---- a rule of an image has at most 8 mixtures

pub normal_short : (r m : List ℕ) (n : ℕ) → rule_records_good r m ≡ true → named (length r / rule_size) n ≡ true → length (normal_at (rules_in r m) n) ≤ mixture_limit
normal_short r m n h k = by (ℕ_discrete n unrestricted_number)
  where
    by : Dec (n ≡ unrestricted_number) → length (normal_at (rules_in r m) n) ≤ mixture_limit
    by (yes e) = unfold normal_at rule_at in (rw (e, normal_unrestricted) (unfold unrestricted_rule unrestricted in (omega arith)))
    by (no d) =
        let l : n < length r / rule_size = named_own (length r / rule_size) n k d in
        rw (← own_normal (rules_in r m) n d, rule_at_lem r m h n l)
        (omega (
          arith,
          normal_length (take (rule_count r n) (drop (rule_first r n) (mixtures_in m))),
          length-take (rule_count r n) (drop (rule_first r n) (mixtures_in m)),
          rule_fits r m h n l,
        ))
