-- The rules in rows: each by its place, and its class as its number. A producer of rows may cite `row_put`.
use Prim.Native.Nat.{ℕ, suc, ◌+◌, ◌-◌, ◌*◌, ◌/◌, ◌≤◌, ◌<◌}
use mathlib.Core.Path.{◌≡◌, refl, sym, ap, ap₂, ◌∙◌}
use mathlib.Core.Bool.{Bool, true, cond, ◌&&◌}
use mathlib.Core.List.{List, [], ◌∷◌, ◌++◌, map}
use native.Mathlib.Omega.{arith}
use native.Mathlib.Decide.{ℕ_discrete}
use lib.Dec.{eqb, leb}
use lib.ListN.{length, get_or, take, drop, set, length-map, length-append, length-take, length-drop, take-append-drop, drop_of_length-le}
use lib.Seq.{take_at, drop_at, drop-cons, get_or-take, get_or-drop, length-take-le}
use borrow.Author.Tests.{eq-eqb, ne_eqb, leb-true, le-leb}
use borrow.Rule.Slice.PartMut.{put_mid}
use Rattle.lists.proofs.Bools.{and_0, and_1, same_test}
use Rattle.lists.proofs.Same.{same_refl, same_eq}
use Rattle.rules.specs.Rules.{normal}
use Rattle.image.specs.Limits.{unrestricted_number}
use Rattle.lists.specs.Lists.{same_list, every, position, position_by}
use Rattle.fields.specs.Bytes.{records}
use Rattle.image.specs.Policy.{rule_at, named}
use Rattle.image.specs.Normal.{normal_at, Use, use_at, same_use, free_use, number_of}
use Rattle.rules.specs.Answers.{mixture_limit}
use Rattle.rule_words.specs.Words.{rule_width, rule_of, words_of}
use Rattle.lists.proofs.Every.{every_0, every_1, every_get_d, every_both, every_map, map_back}
use Rattle.image.proofs.WrittenMeaning.{normal_unrestricted}
use Rattle.fields.proofs.SectionRecords.{record_at, records_count}
use Rattle.fields.proofs.WidthRows.{wide, wide_length, records_wide}
use Rattle.rule_words.proofs.WordLaws.{words_nine, words_rule}
use Rattle.rule_words.proofs.KeptWords.{kept_words, kept_normal, kept_short}
use Rattle.image.proofs.Numbering.{use_refl, use_eq, use_in, mixtures_in, owner_in}
use Rattle.normaliser.specs.Hashes.{words_at}
use Rattle.normaliser.specs.Tables.{use_of, form_at, class_of, Classified, class_at}
use Rattle.normaliser.specs.Writer.{form_width, form_row, form_in, use_limit, policy_given, forms_in, policy_at, form_kept, Tabled}
use Rattle.normaliser.proofs.FirstUse.{class_none, class_some}
use Rattle.image.proofs.RulesByNumber.{named_own}

map_id : {A : Type 0} (xs : List A) → map (λ x. x) xs ≡ xs
map_id [] = refl
map_id (x ∷ xs) = ap (λ l. x ∷ l) (map_id xs)

-- ---- a row: the words of a rule, then its owner

abbrev pub short_use : Use → Bool
short_use u = leb (length u.mixtures) mixture_limit

pub row_long : (u : Use) → length u.mixtures ≤ mixture_limit → length (form_row u) ≡ form_width
unfolding form_row
row_long u h = length-append (words_of u.mixtures) (u.owner ∷ []) ∙ ap (λ (k : ℕ). k + 1) (words_nine u.mixtures h)

-- the words were put, then the owner
pub row_put : (row ws : List ℕ) (o : ℕ) → length row ≡ form_width → length ws ≡ rule_width → set (put_mid 0 (rule_width - 0) row ws) rule_width o ≡ ws ++ (o ∷ [])
row_put row ws o h l =
    ap (λ (x : List ℕ). set (ws ++ x) rule_width o)
    (drop-cons row rule_width 0 (omega arith) ∙ ap (λ (x : List ℕ). get_or row rule_width 0 ∷ x) (drop_of_length-le row {i = suc rule_width} (omega arith)))
    ∙ ap (λ (k : ℕ). set (ws ++ (get_or row rule_width 0 ∷ [])) k o) (sym l)
    ∙ behind ws
  where
    behind : (xs : List ℕ) → set (xs ++ (get_or row rule_width 0 ∷ [])) (length xs) o ≡ xs ++ (o ∷ [])
    behind [] = refl
    behind (x ∷ xs) = ap (λ (k : List ℕ). x ∷ k) (behind xs)

-- the rule of a rule's row
pub row_form : (u : Use) → short_use u ≡ true → form_in (form_row u) ≡ u
unfolding form_in form_row
row_form u h =
    let n : length (words_of u.mixtures) ≡ rule_width = words_nine u.mixtures (leb-true (length u.mixtures) mixture_limit h) in
    let o : get_or (words_of u.mixtures ++ (u.owner ∷ [])) rule_width 0 ≡ u.owner =
    sym (get_or-drop rule_width (words_of u.mixtures ++ (u.owner ∷ [])) 0 0) ∙ ap (λ (x : List ℕ). get_or x 0 0) (drop_at (words_of u.mixtures) (u.owner ∷ []) rule_width n) in
    let m : rule_of (take rule_width (words_of u.mixtures ++ (u.owner ∷ []))) ≡ u.mixtures =
    ap rule_of (take_at (words_of u.mixtures) (u.owner ∷ []) rule_width n) ∙ words_rule u.mixtures in
    λ i. record { owner = o i; mixtures = m i }

-- two rows are the same just if their rules are
row_same : (u v : Use) → short_use u ≡ true → short_use v ≡ true → same_list (form_row u) (form_row v) ≡ same_use u v
row_same u v a b =
    same_test (same_list (form_row u) (form_row v)) (same_use u v)
    (λ e. let q : u ≡ v = sym (row_form u a) ∙ ap form_in (same_eq (form_row u) (form_row v) e) ∙ row_form v b in rw q (use_refl v))
    (λ e. let q : u ≡ v = use_eq u v e in rw q (same_refl (form_row v)))

-- the place of a rule is the place of its row among their rows
position_rows : (u : Use) (t : List Use) → short_use u ≡ true → every short_use t ≡ true → position (form_row u) (map form_row t) ≡ position_by same_use u t
unfolding position_by
position_rows u [] a b = refl
position_rows u (v ∷ t) a b =
    ap₂ (λ (x : Bool) (n : ℕ). cond x 0 (suc n)) (row_same u v a (every_0 short_use v t b)) (position_rows u t a (every_1 short_use v t b))

module _ (ws : List ℕ) (l : length ws ≡ form_width) (h : form_kept ws ≡ true) where
  -- a row whose words are kept well is the row of its rule
  kept_row : ws ≡ form_row (form_in ws)
  unfolding form_row form_in form_kept
  kept_row =
      sym (take-append-drop rule_width ws)
      ∙ ap₂ ◌++◌ (kept_words (take rule_width ws) (length-take-le rule_width ws (omega arith)) h)
      (drop-cons ws rule_width 0 (omega arith) ∙ ap (λ (x : List ℕ). get_or ws rule_width 0 ∷ x) (drop_of_length-le ws {i = suc rule_width} (omega arith)))

kept_use_normal : (ws : List ℕ) → form_kept ws ≡ true → normal (form_in ws).mixtures ≡ (form_in ws).mixtures
unfolding form_in form_kept
kept_use_normal ws h = kept_normal (take rule_width ws) h

kept_use_short : (ws : List ℕ) → form_kept ws ≡ true → short_use (form_in ws) ≡ true
unfolding form_in form_kept
kept_use_short ws h = le-leb (length (rule_of (take rule_width ws))) mixture_limit (kept_short (take rule_width ws) h)

-- ---- rows of rules in normal form

module _ (forms : List ℕ) where
  pub forms_count : length (forms_in forms) ≡ length forms / form_width
  unfolding forms_in
  forms_count = length-map (records form_width forms) form_in ∙ records_count form_width forms

  pub form_at_lem : (k : ℕ) → k < length forms / form_width → get_or (forms_in forms) k free_use ≡ use_of forms k
  unfolding forms_in use_of words_at
  form_at_lem k l = record_at form_in form_width k forms free_use l

  pub words_at_lem : (k : ℕ) → k < length forms / form_width → get_or (records form_width forms) k [] ≡ words_at forms k
  unfolding words_at
  words_at_lem k l = ap (λ (x : List (List ℕ)). get_or x k []) (sym (map_id (records form_width forms))) ∙ record_at (λ x. x) form_width k forms [] l

  words_long : (k : ℕ) → k < length forms / form_width → length (words_at forms k) ≡ form_width
  unfolding words_at
  words_long k l = omega (arith, length-take form_width (drop (k * form_width) forms), length-drop (k * form_width) forms)

  module _ (good : every form_kept (records form_width forms) ≡ true) where
    rows_words : map form_row (forms_in forms) ≡ records form_width forms
    unfolding forms_in
    rows_words =
        map_back (λ ws. wide form_width ws && form_kept ws) form_in form_row (records form_width forms) one
        (every_both (wide form_width) form_kept (records form_width forms) (records_wide form_width forms) good)
      where
        one : (ws : List ℕ) → (wide form_width ws && form_kept ws) ≡ true → form_row (form_in ws) ≡ ws
        one ws h = sym (kept_row ws (wide_length form_width ws (and_0 (wide form_width ws) (form_kept ws) h)) (and_1 (wide form_width ws) h))

    all_short : every short_use (forms_in forms) ≡ true
    unfolding forms_in
    all_short = every_map form_kept short_use form_in (records form_width forms) kept_use_short good

    good_at : (k : ℕ) → k < length forms / form_width → form_kept (words_at forms k) ≡ true
    good_at k l = rw (words_at_lem k l) at (every_get_d form_kept (records form_width forms) k [] (omega (arith, records_count form_width forms)) good)

    words_form : (k : ℕ) → k < length forms / form_width → words_at forms k ≡ form_row (use_of forms k)
    unfolding use_of
    words_form k l = kept_row (words_at forms k) (words_long k l) (good_at k l)

    form_normal : (k : ℕ) → k < length forms / form_width → normal (use_of forms k).mixtures ≡ (use_of forms k).mixtures
    unfolding use_of
    form_normal k l = kept_use_normal (words_at forms k) (good_at k l)

    use_short : (k : ℕ) → k < length forms / form_width → short_use (use_of forms k) ≡ true
    unfolding use_of
    use_short k l = kept_use_short (words_at forms k) (good_at k l)

    pub form_short : (k : ℕ) → k < length forms / form_width → length (form_at forms k) ≤ mixture_limit
    unfolding form_at
    form_short k l = leb-true (length (use_of forms k).mixtures) mixture_limit (use_short k l)

    pub count_form : (k : ℕ) → k < length forms / form_width → get_or forms (k * form_width) 0 ≡ length (form_at forms k)
    count_form k l =
        let z : k * form_width + 0 ≡ k * form_width = omega arith in
        ap (λ (x : ℕ). get_or forms x 0) (sym z) ∙ sym (get_or-drop (k * form_width) forms 0 0) ∙ sym (get_or-take form_width (drop (k * form_width) forms) 0 0 (omega arith))
        ∙ first
      where
        first : get_or (take form_width (drop (k * form_width) forms)) 0 0 ≡ length (form_at forms k)
        first = unfold words_at form_row words_of form_at in (ap (λ (x : List ℕ). get_or x 0 0) (words_form k l))

    -- a rule's class is its number
    class_number : (k : ℕ) → k < length forms / form_width → class_of forms k ≡ number_of (forms_in forms) (get_or (forms_in forms) k free_use)
    unfolding class_of number_of
    class_number k l =
        let e : position (words_at forms k) (records form_width forms) ≡ position_by same_use (use_of forms k) (forms_in forms) =
        ap₂ position (words_form k l) (sym rows_words) ∙ position_rows (use_of forms k) (forms_in forms) (use_short k l) all_short in
        rw (form_at_lem k l, e)

    module _ (classes : List ℕ) (told : Classified forms classes (length forms / form_width)) where
      pub class_at_lem : (k : ℕ) → named (length (forms_in forms)) k ≡ true → class_at classes k ≡ number_of (forms_in forms) (use_in (forms_in forms) k)
      class_at_lem k h = by (ℕ_discrete k unrestricted_number)
        where
          none : k ≡ unrestricted_number → use_in (forms_in forms) k ≡ free_use
          none e = unfold use_in in (rw (eq-eqb k unrestricted_number e))

          some : (k ≡ unrestricted_number → ⊥) → use_in (forms_in forms) k ≡ get_or (forms_in forms) k free_use
          some d = unfold use_in in (rw (ne_eqb k unrestricted_number d))

          number_free : number_of (forms_in forms) free_use ≡ unrestricted_number
          number_free = unfold number_of in (rw (use_refl free_use))

          by : Dec (k ≡ unrestricted_number) → class_at classes k ≡ number_of (forms_in forms) (use_in (forms_in forms) k)
          by (yes e) = class_none classes k e ∙ sym (ap (number_of (forms_in forms)) (none e) ∙ number_free)
          by (no d) =
              let l : k < length forms / form_width = omega (arith, named_own (length (forms_in forms)) k h d, forms_count) in
              class_some classes k d ∙ told.is k l ∙ class_number k l ∙ ap (number_of (forms_in forms)) (sym (some d))

    -- the rules stand in normal form
    in_normal : (k : ℕ) → named (length (forms_in forms)) k ≡ true → normal (use_in (forms_in forms) k).mixtures ≡ (use_in (forms_in forms) k).mixtures
    unfolding use_in free_use
    in_normal k h = by (ℕ_discrete k unrestricted_number)
      where
        by : Dec (k ≡ unrestricted_number)
            → normal (cond (eqb k unrestricted_number) free_use (get_or (forms_in forms) k free_use)).mixtures
            ≡ (cond (eqb k unrestricted_number) free_use (get_or (forms_in forms) k free_use)).mixtures
        by (yes e) = rw (eq-eqb k unrestricted_number e) normal_unrestricted
        by (no d) =
            let l : k < length forms / form_width = omega (arith, named_own (length (forms_in forms)) k h d, forms_count) in
            rw (ne_eqb k unrestricted_number d, form_at_lem k l) (form_normal k l)

    -- the uses of the policy are the rules of the table
    pub use_at_lem : (containers users : List ℕ) (k : ℕ) → named (length (forms_in forms)) k ≡ true → use_at (policy_at containers users forms) k ≡ use_in (forms_in forms) k
    unfolding use_at policy_at policy_given normal_at
    use_at_lem containers users k h =
        let m : normal (rule_at (map (λ u. u.mixtures) (forms_in forms)) k) ≡ (use_in (forms_in forms) k).mixtures = ap normal (mixtures_in (forms_in forms) k h) ∙ in_normal k h in
        let o = owner_in (forms_in forms) k h in
        λ i. record { owner = o i; mixtures = m i }

-- the rules that are handed over
pub forms_few : {containers users forms : List ℕ} → Tabled containers users forms → length forms / form_width ≤ use_limit
unfolding policy_at policy_given
forms_few {forms = forms} t = omega (arith, t.usable.few_rules, forms_count forms, length-map (forms_in forms) (λ u. u.mixtures))
