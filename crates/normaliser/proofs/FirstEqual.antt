-- The first rule with given words, and the test of the unrestricted rule.
use Prim.Native.Nat.{ℕ, suc, ◌+◌, ◌-◌, ◌*◌, ◌/◌, ◌^◌, ◌≤◌, ◌<◌}
use mathlib.Core.Path.{◌≡◌, refl, sym, ap, ◌∙◌}
use mathlib.Core.Bool.{Bool, true, false, cond, ◌&&◌}
use mathlib.Core.List.{List, [], ◌∷◌}
use native.Mathlib.Omega.{arith}
use native.Mathlib.Nat.{add-sub_cancel_left}
use native.Mathlib.Numerals.{add-one}
use lib.Dec.{eqb}
use lib.ListN.{length, get_or, take, drop, length-take, length-drop}
use lib.Seq.{drop-cons, get_or-take, length-take-le}
use borrow.Author.Tests.{eq-eqb, ne_eqb}
use Rattle.lists.proofs.Bools.{refuted}
use Rattle.lists.proofs.Same.{same_refl, same_eq}
use Rattle.lists.specs.Lists.{same_list, position, position_by}
use Rattle.rules.specs.Rules.{unrestricted}
use Rattle.fields.specs.Bytes.{records}
use Rattle.image.specs.Limits.{no_owner}
use Rattle.image.specs.Policy.{unrestricted_rule}
use Rattle.image.specs.Normal.{same_use, free_use}
use Rattle.rule_words.specs.Words.{rule_width, rule_of}
use Rattle.normaliser.specs.Writer.{form_width, form_in}
use Rattle.fields.proofs.SectionRecords.{records_count}
use Rattle.normaliser.specs.Hashes.{words_at}
use Rattle.normaliser.proofs.RuleForms.{words_at_lem}

-- the words of a rule, lent
pub words_part : (forms : List ℕ) (k : ℕ) → take (k * form_width + form_width - k * form_width) (drop (k * form_width) forms) ≡ words_at forms k
unfolding words_at
words_part forms k = rw add-sub_cancel_left

-- ---- the unrestricted rule

module _ (ws : List ℕ) (h : length ws ≡ rule_width) where
  other_count : (get_or ws 0 0 ≡ 1 → ⊥) → false ≡ same_list (rule_of ws) unrestricted_rule
  unfolding rule_of unrestricted_rule unrestricted
  other_count d =
      sym (refuted (same_list (take (get_or ws 0 0) (drop 1 ws)) ((2 ^ 64 - 1) ∷ []))
      (λ s. d (omega (arith, ap length (same_eq (take (get_or ws 0 0) (drop 1 ws)) ((2 ^ 64 - 1) ∷ []) s), length-take (get_or ws 0 0) (drop 1 ws), length-drop 1 ws))))

  one_count : get_or ws 0 0 ≡ 1 → eqb (get_or ws 1 0) 18446744073709551615 ≡ same_list (rule_of ws) unrestricted_rule
  unfolding rule_of unrestricted_rule unrestricted same_list
  one_count e =
      let r : drop 1 ws ≡ get_or ws 1 0 ∷ drop 2 ws = drop-cons ws 1 0 (omega arith) in
      rw (e, r) (by (eqb (get_or ws 1 0) 18446744073709551615))
    where
      by : (b : Bool) → b ≡ (b && true)
      by true = refl
      by false = refl

-- without an owner
module _ (ws : List ℕ) (h : length ws ≡ form_width) where
  front : length (take rule_width ws) ≡ rule_width
  front = length-take-le rule_width ws (omega arith)

  first_word : get_or (take rule_width ws) 0 0 ≡ get_or ws 0 0
  first_word = get_or-take rule_width ws 0 0 (omega arith)

  second_word : get_or (take rule_width ws) 1 0 ≡ get_or ws 1 0
  second_word = get_or-take rule_width ws 1 0 (omega arith)

  other : false ≡ same_list (rule_of (take rule_width ws)) unrestricted_rule → false ≡ same_use (form_in ws) free_use
  unfolding same_use form_in free_use
  other e = by (eqb (get_or ws rule_width 0) no_owner) ∙ ap (λ (b : Bool). eqb (get_or ws rule_width 0) no_owner && b) e
    where
      by : (b : Bool) → false ≡ (b && false)
      by true = refl
      by false = refl

  pub row_other_count : (get_or ws 0 0 ≡ 1 → ⊥) → false ≡ same_use (form_in ws) free_use
  row_other_count d = other (other_count (take rule_width ws) front (λ e. d (sym first_word ∙ e)))

  one : get_or ws 0 0 ≡ 1 → eqb (get_or ws 1 0) 18446744073709551615 ≡ same_list (rule_of (take rule_width ws)) unrestricted_rule
  one e = ap (λ (x : ℕ). eqb x 18446744073709551615) (sym second_word) ∙ one_count (take rule_width ws) front (first_word ∙ e)

  pub row_other_mixture : get_or ws 0 0 ≡ 1 → (get_or ws 1 0 ≡ 18446744073709551615 → ⊥) → false ≡ same_use (form_in ws) free_use
  row_other_mixture e d = other (sym (ne_eqb (get_or ws 1 0) 18446744073709551615 d) ∙ one e)

  pub row_owner : get_or ws 0 0 ≡ 1 → get_or ws 1 0 ≡ 18446744073709551615 → eqb (get_or ws rule_width 0) no_owner ≡ same_use (form_in ws) free_use
  unfolding same_use form_in free_use
  row_owner e f =
      by (eqb (get_or ws rule_width 0) no_owner)
      ∙ ap (λ (b : Bool). eqb (get_or ws rule_width 0) no_owner && b) (sym (eq-eqb (get_or ws 1 0) 18446744073709551615 f) ∙ one e)
    where
      by : (b : Bool) → b ≡ (b && true)
      by true = refl
      by false = refl

-- ---- the first rule with the words of rule k

pub record Seeking (forms : List ℕ) (k j : ℕ) : Type 0 where
  pub place : j ≤ k
  pub rest : j + position (words_at forms k) (drop j (records form_width forms)) ≡ position (words_at forms k) (records form_width forms)

pub seek_start : (forms : List ℕ) (k : ℕ) → Seeking forms k 0
seek_start forms k = record { place = omega arith; rest = omega arith }

module _ (forms : List ℕ) (k j : ℕ) (l : k < length forms / form_width) (g : Seeking forms k j) where
  step : position (words_at forms k) (drop j (records form_width forms))
      ≡ cond (same_list (words_at forms k) (words_at forms j)) 0 (suc (position (words_at forms k) (drop (j + 1) (records form_width forms))))
  unfolding position_by
  step =
      let q : j < length (records form_width forms) = omega (arith, records_count form_width forms, g.place) in
      let s : j < length forms / form_width = omega (arith, g.place) in
      rw (add-one j, drop-cons (records form_width forms) j [] q, words_at_lem forms j s)

  pub seek_found : true ≡ same_list (words_at forms k) (words_at forms j) → j ≡ position (words_at forms k) (records form_width forms)
  seek_found h = omega (arith, rw (← h) at step, g.rest)

  pub seek_next : j < k → false ≡ same_list (words_at forms k) (words_at forms j) → Seeking forms k (j + 1)
  seek_next m h =
      let e : position (words_at forms k) (drop j (records form_width forms)) ≡ suc (position (words_at forms k) (drop (j + 1) (records form_width forms))) = rw (← h) at step in
      record { place = omega arith; rest = omega (arith, g.rest) }

  pub seek_end : k ≤ j → k ≡ position (words_at forms k) (records form_width forms)
  seek_end m =
      let q : j ≡ k = omega (arith, g.place) in
      sym q ∙ seek_found (sym (ap (λ (x : ℕ). same_list (words_at forms k) (words_at forms x)) q ∙ same_refl (words_at forms k)))
