-- Lists at the front of a buffer: of one member, of none, and the first of two that has a member.
use Prim.Native.Nat.{ℕ, ◌-◌, ◌/◌, ◌%◌, ◌^◌, ◌≤◌}
use native.Mathlib.Omega.{arith}
use mathlib.Core.Path.{◌≡◌, refl, sym, ap, ◌∙◌, subst}
use mathlib.Core.Bool.{Bool, true, false}
use mathlib.Core.List.{List, [], ◌∷◌, ◌++◌}
use lib.Dec.{leb}
use lib.ListN.{length, take, set, length-set, length-take}
use lib.Seq.{take-suc-set}
use borrow.Author.Tests.{leb-true, eq-eqb, ne_eqb}
use borrow.Rule.Slice.PartMut.{put_mid}
use Rattle.rules.specs.Rules.{normal, unrestricted}
use Rattle.rules.specs.Answers.{data_width, tag_width, mixture_limit, bounded_if_fits}
use Rattle.std.specs.Prelude.{Option, Some, None}
use Rattle.rules.proofs.BoundedLaws.{bounded_some, bounded_none}
use Rattle.rules.specs.declared.Bounded.{Bounded}
use Rattle.rule_words.specs.Words.{rule_width, words_of}
use Rattle.rule_words.proofs.WordLaws.{words_nine, bounded_words_lem}
use Rattle.image.specs.Limits.{no_owner}
use Rattle.image.specs.Policy.{unrestricted_rule}
use Rattle.normaliser.specs.Writer.{unowned, form_width, form_row}
use Rattle.normaliser.proofs.RuleForms.{row_put}
use Rattle.confinement.specs.Confinement.{or_else}
use Rattle.confinement.specs.Tables.{column_at, if_any, permit_from, run_from, Listed, FormPut, rule_from}

-- ---- lists

pub one_listed : (x : ℕ) (words : List ℕ) → length words ≡ data_width → Listed (x ∷ []) (set words 0 x) 1
one_listed x words l = record { front = take-suc-set words 0 x (omega arith); count = refl; long = length-set words 0 x ∙ l }

pub all_listed : (words : List ℕ) → length words ≡ data_width → Listed unrestricted_rule (set words 0 (2 ^ tag_width - 1)) 1
unfolding unrestricted_rule unrestricted
all_listed words l = one_listed (2 ^ tag_width - 1) words l

pub none_listed : (words : List ℕ) → length words ≡ data_width → Listed [] words 0
none_listed words l = record { front = refl; count = refl; long = l }

pub listed_as : {l m words : List ℕ} {r : ℕ} → l ≡ m → Listed l words r → Listed m words r
listed_as {words = words} {r = r} e h = subst (λ (x : List ℕ). Listed x words r) e h

some_else : (l z : List ℕ) → (length l ≡ 0 → ⊥) → l ≡ or_else l z
unfolding or_else
some_else [] z h = absurd (h refl)
some_else (x ∷ l) z h = refl

no_else : (l z : List ℕ) → length l ≡ 0 → z ≡ or_else l z
unfolding or_else
no_else [] z h = refl
no_else (x ∷ l) z h = absurd (omega arith)

some_any : (l x z : List ℕ) → (length l ≡ 0 → ⊥) → x ≡ if_any l x z
unfolding if_any
some_any [] x z h = absurd (h refl)
some_any (y ∷ l) x z h = refl

no_any : (l x z : List ℕ) → length l ≡ 0 → z ≡ if_any l x z
unfolding if_any
no_any [] x z h = refl
no_any (y ∷ l) x z h = absurd (omega arith)

module _ {l words : List ℕ} {r : ℕ} (h : Listed l words r) where
  -- the list has a member, so it counts
  pub listed_first : (z : List ℕ) → (r ≡ 0 → ⊥) → Listed (or_else l z) words r
  listed_first z d = listed_as (some_else l z (λ e. d (h.count ∙ e))) h

  -- it has none, so the other counts
  pub listed_other : (z : List ℕ) {after : List ℕ} {n : ℕ} → r ≡ 0 → Listed z after n → Listed (or_else l z) after n
  listed_other z e g = listed_as (no_else l z (sym h.count ∙ e)) g

  pub any_listed : (x z : List ℕ) {after : List ℕ} {n : ℕ} → (r ≡ 0 → ⊥) → Listed x after n → Listed (if_any l x z) after n
  any_listed x z d g = listed_as (some_any l x z (λ e. d (h.count ∙ e))) g

  pub other_listed : (x z : List ℕ) {after : List ℕ} {n : ℕ} → r ≡ 0 → Listed z after n → Listed (if_any l x z) after n
  other_listed x z e g = listed_as (no_any l x z (sym h.count ∙ e)) g

-- ---- normal forms

module _ (r : List ℕ) {o : Option Bounded} (e : o ≡ bounded_if_fits (normal r)) where
  pub form_over : (before : List ℕ) → o ≡ None → FormPut r before before false
  form_over before h = record { told = sym (bounded_none (normal r) e h); words = refl }

  pub form_put : (before : List ℕ) {ws : List ℕ} → length before ≡ form_width → {b : Bounded} → o ≡ Some b → ws ≡ b.count ∷ b.mixtures
      → FormPut r before (set (put_mid 0 (rule_width - 0) before ws) rule_width no_owner) true
  unfolding form_row unowned
  form_put before {ws} l {b} h w =
      let m = bounded_some (normal r) e h in
      let f : true ≡ leb (length (normal r)) mixture_limit = sym m.0 in
      let n : length (normal r) ≤ mixture_limit = leb-true (length (normal r)) mixture_limit (sym f) in
      let x : ws ≡ words_of (normal r) = w ∙ bounded_words_lem (normal r) b m.1 in
      record { told = f; words = row_put before ws no_owner l (ap length x ∙ words_nine (normal r) n) ∙ ap (λ (y : List ℕ). y ++ (no_owner ∷ [])) x }

-- ---- a list that is handed on

module _ {l words : List ℕ} {r : ℕ} (h : Listed l words r) where
  pub listed_few : r ≤ length words
  listed_few = omega (arith, ap length h.front, h.count, length-take r words)

  pub listed_size : r ≡ length (take r words)
  listed_size = omega (arith, ap length h.front, h.count)

  -- its normal form is that of the rule
  pub listed_form : {before after : List ℕ} {fits : Bool} → FormPut (take r words) before after fits → FormPut l before after fits
  listed_form {before} {after} {fits} w = subst (λ (x : List ℕ). FormPut x before after fits) h.front w

module _ (own modes runs : List ℕ) (i : ℕ) where
  pub permit_rule : i % 2 ≡ 0 → {before after : List ℕ} {fits : Bool} → FormPut (permit_from (i / 2) (column_at modes (i / 2) (length runs)) runs) before after fits
      → FormPut (rule_from own modes runs i) before after fits
  unfolding rule_from
  permit_rule e w = rw (eq-eqb (i % 2) 0 e) w

  pub run_rule : (i % 2 ≡ 0 → ⊥) → {before after : List ℕ} {fits : Bool} → FormPut (run_from (i / 2) own (column_at modes (i / 2) (length runs)) runs) before after fits
      → FormPut (rule_from own modes runs i) before after fits
  unfolding rule_from
  run_rule d w = rw (ne_eqb (i % 2) 0 d) w
