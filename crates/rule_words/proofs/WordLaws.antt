-- Rules as 9 words: the words of a rule, and the rule of the words.
use Prim.Native.Nat.{ℕ, zero, suc, ◌+◌, ◌-◌, ◌≤◌}
use mathlib.Core.Path.{◌≡◌, refl, sym, ap, ◌∙◌}
use mathlib.Core.Bool.{true}
use mathlib.Core.List.{List, [], ◌∷◌}
use native.Mathlib.Omega.{arith}
use native.Mathlib.Nat.{add-sub_cancel}
use lib.ListN.{length, get_or, take, drop, replicate, length-append, length-drop, length-replicate}
use lib.Seq.{take_all, take-take, drop-cons}
use Rattle.lists.proofs.Bools.{same_test}
use Rattle.lists.proofs.Same.{same_refl, same_eq}
use Rattle.rules.proofs.BoundedLaws.{padded_take}
use Rattle.lists.specs.Lists.{same_list}
use Rattle.rules.specs.Rules.{normal}
use Rattle.rules.specs.Answers.{mixture_limit, padded, bounded_of}
use Rattle.rules.specs.declared.Bounded.{Bounded}
use Rattle.rule_words.specs.Words.{rule_width, rule_of, words_of, is_normal}

pub bounded_words_lem : (rule : List ℕ) (m : Bounded) → m ≡ bounded_of rule → m.count ∷ m.mixtures ≡ words_of rule
unfolding words_of bounded_of
bounded_words_lem rule m e = ap (λ (x : Bounded). x.count ∷ x.mixtures) e

pub words_nine : (rule : List ℕ) → length rule ≤ mixture_limit → length (words_of rule) ≡ rule_width
unfolding words_of padded
words_nine rule l = omega (arith, length-append rule (replicate (mixture_limit - length rule) 0), length-replicate {A = ℕ} (mixture_limit - length rule) 0)

pub words_rule : (r : List ℕ) → rule_of (words_of r) ≡ r
unfolding rule_of words_of
words_rule r = padded_take r (length r) refl

pub rule_part : (ws : List ℕ) → take (get_or ws 0 0 + 1 - 1) (drop 1 ws) ≡ rule_of ws
unfolding rule_of
rule_part ws = simp add-sub_cancel

pub words_same : (r s : List ℕ) → same_list (words_of r) (words_of s) ≡ same_list r s
words_same r s =
    same_test (same_list (words_of r) (words_of s)) (same_list r s)
    (λ h. let e : r ≡ s = sym (words_rule r) ∙ ap rule_of (same_eq (words_of r) (words_of s) h) ∙ words_rule s in rw e (same_refl s))
    (λ h. let e : r ≡ s = same_eq r s h in rw e (same_refl (words_of s)))

-- the words of a rule, as they are asked and answered
pub words_good : (ws x : List ℕ) → ws ≡ words_of x → length x ≤ mixture_limit → (length (rule_of ws) ≤ mixture_limit) × (ws ≡ words_of (rule_of ws))
words_good ws x e l =
    let r : rule_of ws ≡ x = ap rule_of e ∙ words_rule x in
    (omega (arith, ap length r), e ∙ ap words_of (sym r))

pub normal_out : (out ws x r : List ℕ) → out ≡ words_of (normal (rule_of ws)) → ws ≡ words_of x → x ≡ r → out ≡ words_of (normal r)
normal_out out ws x r h e f = h ∙ ap (λ (y : List ℕ). words_of (normal y)) (ap rule_of e ∙ words_rule x ∙ f)

-- ---- the test of a normal form

module _ (r : List ℕ) where
  pub normal_is : is_normal r ≡ true → normal r ≡ r
  unfolding is_normal
  normal_is h = same_eq (normal r) r h

  pub is_normal_of : normal r ≡ r → is_normal r ≡ true
  unfolding is_normal
  is_normal_of e = ap (λ (s : List ℕ). same_list s r) e ∙ same_refl r

-- ---- words one by one

-- n words from the place k on
abbrev pub words_from : List ℕ → ℕ → ℕ → List ℕ
words_from ws k zero = []
words_from ws k (suc n) = get_or ws k 0 ∷ words_from ws (suc k) n

pub part_words : (ws : List ℕ) (k n : ℕ) → k + n ≤ length ws → take n (drop k ws) ≡ words_from ws k n
part_words ws k zero l = refl
part_words ws k (suc n) l =
    ap (take (suc n)) (drop-cons ws k 0 (omega arith)) ∙ ap (λ (x : List ℕ). get_or ws k 0 ∷ x) (part_words ws (suc k) n (omega arith))

pub tail_words : (ws : List ℕ) (k n : ℕ) → length ws ≡ k + n → drop k ws ≡ words_from ws k n
tail_words ws k n e = sym (take_all n (drop k ws) (omega (arith, length-drop k ws))) ∙ part_words ws k n (omega arith)

-- the first four mixtures of k
pub first_four : (ws : List ℕ) (k : ℕ) → length ws ≡ rule_width → 4 ≤ k → take 4 (take k (drop 1 ws)) ≡ words_from ws 1 4
first_four ws k e l = take-take 4 k (drop 1 ws) l ∙ part_words ws 1 4 (omega arith)
