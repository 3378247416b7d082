-- Words as a session keeps a rule.
use Prim.Native.Nat.{ℕ, ◌+◌, ◌-◌, ◌≤◌}
use mathlib.Core.Path.{◌≡◌, refl, sym, ap, ap₂, ◌∙◌}
use mathlib.Core.Bool.{true, ◌&&◌}
use mathlib.Core.List.{List, ◌∷◌, ◌++◌}
use native.Mathlib.Omega.{arith}
use native.Mathlib.Numerals.{add-one}
use lib.Dec.{leb}
use lib.ListN.{length, get_or, take, drop, replicate, length-take, length-drop, take-append-drop}
use lib.Seq.{drop-cons, drop-drop, drop_at, length-take-le}
use borrow.Author.Tests.{leb-true, le-leb}
use Rattle.lists.proofs.Bools.{and_in, and_0, and_1}
use Rattle.rules.specs.Rules.{normal}
use Rattle.rules.specs.Answers.{mixture_limit, padded}
use Rattle.rule_words.specs.Words.{rule_width, rule_of, words_of, is_normal, all_zero, kept_well}
use Rattle.rule_words.proofs.WordLaws.{words_rule, normal_is, is_normal_of}
use Rattle.rule_words.proofs.ZeroLaws.{zeros, zero_is}

module _ (ws : List ℕ) (h : kept_well ws ≡ true) where
  pub kept_count : get_or ws 0 0 ≤ mixture_limit
  unfolding kept_well
  kept_count = leb-true (get_or ws 0 0) mixture_limit (and_0 (leb (get_or ws 0 0) mixture_limit) (all_zero (drop (get_or ws 0 0 + 1) ws) && is_normal (rule_of ws)) h)

  kept_rest : (all_zero (drop (get_or ws 0 0 + 1) ws) && is_normal (rule_of ws)) ≡ true
  unfolding kept_well
  kept_rest = and_1 (leb (get_or ws 0 0) mixture_limit) h

  pub kept_normal : normal (rule_of ws) ≡ rule_of ws
  kept_normal = normal_is (rule_of ws) (and_1 (all_zero (drop (get_or ws 0 0 + 1) ws)) kept_rest)

  pub kept_short : length (rule_of ws) ≤ mixture_limit
  unfolding rule_of
  kept_short = omega (arith, kept_count, length-take (get_or ws 0 0) (drop 1 ws))

-- the first word, the mixtures and the rest
module _ (ws : List ℕ) (e : length ws ≡ rule_width) (l : get_or ws 0 0 ≤ mixture_limit) where
  pub rule_length : length (rule_of ws) ≡ get_or ws 0 0
  unfolding rule_of
  rule_length = length-take-le (get_or ws 0 0) (drop 1 ws) (omega (arith, length-drop 1 ws))

  words_split : ws ≡ get_or ws 0 0 ∷ (rule_of ws ++ drop (get_or ws 0 0 + 1) ws)
  unfolding rule_of
  words_split =
      let i : 1 + get_or ws 0 0 ≡ get_or ws 0 0 + 1 = omega arith in
      drop-cons ws 0 0 (omega arith)
      ∙ ap (λ (x : List ℕ). get_or ws 0 0 ∷ x)
      (sym (take-append-drop (get_or ws 0 0) (drop 1 ws))
      ∙ ap (λ (x : List ℕ). take (get_or ws 0 0) (drop 1 ws) ++ x) (drop-drop (get_or ws 0 0) 1 ws ∙ ap (λ (k : ℕ). drop k ws) i))

pub kept_words : (ws : List ℕ) → length ws ≡ rule_width → kept_well ws ≡ true → ws ≡ words_of (rule_of ws)
unfolding words_of padded
kept_words ws e h =
    let l : get_or ws 0 0 ≤ mixture_limit = kept_count ws h in
    let n : length (rule_of ws) ≡ get_or ws 0 0 = rule_length ws e l in
    let k : length (drop (get_or ws 0 0 + 1) ws) ≡ mixture_limit - length (rule_of ws) = omega (arith, length-drop (get_or ws 0 0 + 1) ws) in
    let z : drop (get_or ws 0 0 + 1) ws ≡ replicate (mixture_limit - length (rule_of ws)) 0
    = zero_is (drop (get_or ws 0 0 + 1) ws) (mixture_limit - length (rule_of ws)) k (and_0 (all_zero (drop (get_or ws 0 0 + 1) ws)) (is_normal (rule_of ws)) (kept_rest ws h)) in
    words_split ws e l ∙ ap₂ (λ (a : ℕ) (x : List ℕ). a ∷ (rule_of ws ++ x)) (sym n) z

words_fit : (r : List ℕ) → length r ≤ mixture_limit → leb (get_or (words_of r) 0 0) mixture_limit ≡ true
unfolding words_of
words_fit r h = le-leb (length r) mixture_limit h

words_behind : (r : List ℕ) → ◌≡◌ {A = List ℕ} (drop (get_or (words_of r) 0 0 + 1) (words_of r)) (replicate (mixture_limit - length r) 0)
unfolding words_of padded
words_behind r =
    ap (λ (k : ℕ). drop k (length r ∷ (r ++ replicate (mixture_limit - length r) 0))) (add-one (length r))
    ∙ drop_at r (replicate (mixture_limit - length r) 0) (length r) refl

pub words_kept : (r : List ℕ) → length r ≤ mixture_limit → normal r ≡ r → kept_well (words_of r) ≡ true
unfolding kept_well
words_kept r h n =
    and_in (words_fit r h)
    (and_in (ap all_zero (words_behind r) ∙ zeros (mixture_limit - length r)) (ap is_normal (words_rule r) ∙ is_normal_of r n))
