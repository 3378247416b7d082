-- The row of a use of an accepted image, and of two uses composed.
use Prim.Native.Nat.{ℕ, ◌+◌, ◌-◌, ◌*◌, ◌/◌, ◌≤◌}
use mathlib.Core.Path.{◌≡◌, refl, sym, ap, ap₂, ◌∙◌}
use mathlib.Core.Bool.{Bool, true}
use mathlib.Core.List.{List, [], ◌∷◌, ◌++◌}
use native.Mathlib.Omega.{arith}
use lib.Dec.{leb}
use lib.ListN.{length, get_or, take, drop, set, length-set, length-append, length-drop}
use lib.Seq.{take_at, drop_at, get_or-drop}
use borrow.Author.Tests.{eq-eqb, ne_eqb}
use borrow.Rule.Slice.PartMut.{put_mid}
use Rattle.fields.specs.Bytes.{field}
use Rattle.rules.specs.Rules.{normal}
use Rattle.rules.specs.Answers.{mixture_limit}
use Rattle.rules.proofs.RuleLaws.{normal_normal}
use Rattle.rule_words.specs.Words.{rule_width, rule_of, words_of, kept_well}
use Rattle.rule_words.proofs.WordLaws.{words_nine, words_rule}
use Rattle.rule_words.proofs.KeptWords.{words_kept}
use Rattle.image.specs.Limits.{unrestricted_number, no_owner, rule_size, size16, rule_owner_at}
use Rattle.image.specs.Policy.{owner_at, named}
use Rattle.image.specs.Image.{part, policy_in, rules_in, owners_in, check_of}
use Rattle.image.specs.Normal.{Use, normal_at, use_at}
use Rattle.image.proofs.AcceptedImage.{accepted_spans}
use Rattle.image.proofs.RecordsByPlace.{rules_count, owner_at_lem}
use Rattle.image.proofs.RulesByNumber.{normal_short, named_own}
use Rattle.normaliser.specs.Writer.{form_width, form_row}
use Rattle.normaliser.proofs.RuleForms.{row_put}
use Rattle.composition.specs.Composed.{composed_rule, composed_owner, composed_use}
use Rattle.composition.specs.Tables.{WordsComposed, UsePut}

-- ---- the owner of a rule

pub owner_none : (rules : List ℕ) (n : ℕ) → n ≡ unrestricted_number → no_owner ≡ owner_at (owners_in rules) n
unfolding owner_at
owner_none rules n e = sym (rw (eq-eqb n unrestricted_number e))

pub owner_own : (rules : List ℕ) (n : ℕ) → named (length rules / rule_size) n ≡ true → (n ≡ unrestricted_number → ⊥) → {o : ℕ} → o ≡ field rules (n * rule_size + rule_owner_at) size16
    → o ≡ owner_at (owners_in rules) n
unfolding owner_at
owner_own rules n h d e = e ∙ sym (rw (ne_eqb n unrestricted_number d) (owner_at_lem rules n (named_own (length rules / rule_size) n h d)))

-- ---- the row of a use

module _ (a : List ℕ) (e : check_of a ≡ 0) (n : ℕ) (h : named (length (policy_in a).rules) n ≡ true) where
  pub named_in : named (length (part a 2) / rule_size) n ≡ true
  unfolding policy_in
  named_in = ap (λ (k : ℕ). named k n) (sym (rules_count (part a 2) (part a 3))) ∙ h

  rule_short : length (normal_at (rules_in (part a 2) (part a 3)) n) ≤ mixture_limit
  rule_short = normal_short (part a 2) (part a 3) n (accepted_spans a e) named_in

  pub use_short : length (use_at (policy_in a) n).mixtures ≤ mixture_limit
  unfolding use_at policy_in
  use_short = rule_short

  pub use_is_normal : normal (use_at (policy_in a) n).mixtures ≡ (use_at (policy_in a) n).mixtures
  unfolding use_at normal_at
  use_is_normal = normal_normal (Rattle.image.specs.Policy.rule_at (policy_in a).rules n)

  pub use_row : (row : List ℕ) {ws : List ℕ} {o : ℕ} → length row ≡ form_width → ws ≡ words_of (normal_at (rules_in (part a 2) (part a 3)) n) → o ≡ owner_at (owners_in (part a 2)) n
      → set (put_mid 0 (rule_width - 0) row ws) rule_width o ≡ form_row (use_at (policy_in a) n)
  unfolding form_row use_at policy_in
  use_row row {ws} {o} l w p =
      row_put row ws o l (ap length w ∙ words_nine (normal_at (rules_in (part a 2) (part a 3)) n) rule_short)
      ∙ ap₂ (λ (x : List ℕ) (y : ℕ). x ++ (y ∷ [])) w p

-- ---- two rows

module _ (u : Use) (short : length u.mixtures ≤ mixture_limit) where
  nine : length (words_of u.mixtures) ≡ rule_width
  nine = words_nine u.mixtures short

  pub row_owner : get_or (form_row u) rule_width 0 ≡ u.owner
  unfolding form_row
  row_owner = sym (get_or-drop rule_width (words_of u.mixtures ++ (u.owner ∷ [])) 0 0) ∙ ap (λ (x : List ℕ). get_or x 0 0) (drop_at (words_of u.mixtures) (u.owner ∷ []) rule_width nine)

  pub row_words_lem : take (rule_width - 0) (form_row u) ≡ words_of u.mixtures
  unfolding form_row
  row_words_lem = take_at (words_of u.mixtures) (u.owner ∷ []) rule_width nine

  pub row_long : length (form_row u) ≡ form_width
  unfolding form_row
  row_long = length-append (words_of u.mixtures) (u.owner ∷ []) ∙ ap (λ (k : ℕ). k + 1) nine

  -- another owner
  pub row_set : (o : ℕ) → set (form_row u) rule_width o ≡ words_of u.mixtures ++ (o ∷ [])
  unfolding form_row
  row_set o = ap (λ (k : ℕ). set (words_of u.mixtures ++ (u.owner ∷ [])) k o) (sym nine) ∙ behind (words_of u.mixtures)
    where
      behind : (xs : List ℕ) → set (xs ++ (u.owner ∷ [])) (length xs) o ≡ xs ++ (o ∷ [])
      behind [] = refl
      behind (x ∷ xs) = ap (λ (k : List ℕ). x ∷ k) (behind xs)

  pub set_words : (o : ℕ) → take (rule_width - 0) (set (form_row u) rule_width o) ≡ words_of u.mixtures
  set_words o = ap (take rule_width) (row_set o) ∙ take_at (words_of u.mixtures) (o ∷ []) rule_width nine

  pub set_put : (o : ℕ) (ws : List ℕ) → put_mid 0 (rule_width - 0) (set (form_row u) rule_width o) ws ≡ ws ++ (o ∷ [])
  set_put o ws = ap (λ (x : List ℕ). ws ++ drop rule_width x) (row_set o) ∙ ap (λ (x : List ℕ). ws ++ x) (drop_at (words_of u.mixtures) (o ∷ []) rule_width nine)

  pub set_long : {row : List ℕ} → row ≡ form_row u → (o : ℕ) → length (set row rule_width o) ≡ form_width
  set_long {row} e o = length-set row rule_width o ∙ ap length e ∙ row_long

  -- words that were put leave a row
  pub put_long : {row : List ℕ} → row ≡ form_row u → (o : ℕ) (ws : List ℕ) → length ws ≡ rule_width → length (put_mid 0 (rule_width - 0) (set row rule_width o) ws) ≡ form_width
  put_long {row} e o ws l = omega (arith, length-append ws (drop rule_width (set row rule_width o)), length-drop rule_width (set row rule_width o), set_long e o)

  module _ (is : normal u.mixtures ≡ u.mixtures) where
    words_well : {ws : List ℕ} → ws ≡ words_of u.mixtures → (length ws ≡ rule_width) × (kept_well ws ≡ true)
    words_well w = (ap length w ∙ nine, ap kept_well w ∙ words_kept u.mixtures short is)

    -- the words as they are lent
    pub row_lent : {row : List ℕ} → row ≡ form_row u → (length (take (rule_width - 0) row) ≡ rule_width) × (kept_well (take (rule_width - 0) row) ≡ true)
    row_lent e = words_well (ap (take (rule_width - 0)) e ∙ row_words_lem)

    pub set_lent : {row : List ℕ} → row ≡ form_row u → (o : ℕ) → (length (take (rule_width - 0) (set row rule_width o)) ≡ rule_width)
        × (kept_well (take (rule_width - 0) (set row rule_width o)) ≡ true)
    set_lent e o = words_well (ap (λ (x : List ℕ). take (rule_width - 0) (set x rule_width o)) e ∙ set_words o)

module _ (c : ℕ) (u v : Use) (su : length u.mixtures ≤ mixture_limit) (sv : length v.mixtures ≤ mixture_limit) where
  pub rows_composed : {row other : List ℕ} → row ≡ form_row u → other ≡ form_row v → {o : ℕ} → o ≡ composed_owner (get_or row rule_width 0) (get_or other rule_width 0) → {ws : List ℕ} {b : Bool}
      → WordsComposed c (take (rule_width - 0) (set row rule_width o)) (take (rule_width - 0) other) ws b
      → UsePut (composed_use c u v) (put_mid 0 (rule_width - 0) (set row rule_width o) ws) b
  unfolding composed_use form_row
  rows_composed {row} {other} p q {o} e {ws} {b} w =
      let x : rule_of (take (rule_width - 0) (set row rule_width o)) ≡ u.mixtures =
      ap (λ (y : List ℕ). rule_of (take (rule_width - 0) (set y rule_width o))) p ∙ ap rule_of (set_words u su o) ∙ words_rule u.mixtures in
      let y : rule_of (take (rule_width - 0) other) ≡ v.mixtures = ap (λ (y : List ℕ). rule_of (take (rule_width - 0) y)) q ∙ ap rule_of (row_words_lem v sv) ∙ words_rule v.mixtures in
      let r : composed_rule c (rule_of (take (rule_width - 0) (set row rule_width o))) (rule_of (take (rule_width - 0) other)) ≡ composed_rule c u.mixtures v.mixtures = ap₂ (composed_rule c) x y in
      let z : o ≡ composed_owner u.owner v.owner =
      e ∙ ap₂ composed_owner (ap (λ (y : List ℕ). get_or y rule_width 0) p ∙ row_owner u su) (ap (λ (y : List ℕ). get_or y rule_width 0) q ∙ row_owner v sv) in
      record {
        told = w.told ∙ ap (λ (l : List ℕ). leb (length l) mixture_limit) r;
        row =
            λ t.
            ap (λ (y : List ℕ). put_mid 0 (rule_width - 0) (set y rule_width o) ws) p
            ∙ set_put u su o ws
            ∙ ap₂ (λ (l : List ℕ) (k : ℕ). l ++ (k ∷ [])) (w.words t ∙ ap words_of r) z;
      }
