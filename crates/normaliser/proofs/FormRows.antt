-- The rules of an image's sections as words in normal form: the loop that fills the table, and the part of it that is lent.
use Prim.Native.Nat.{ℕ, suc, ◌+◌, ◌-◌, ◌*◌, ◌/◌, ◌≤◌, ◌<◌}
use mathlib.Core.Path.{◌≡◌, refl, sym, ap, ap₂, ◌∙◌}
use mathlib.Core.Bool.{Bool, true}
use mathlib.Core.List.{List, [], ◌∷◌, ◌++◌, map}
use native.Mathlib.Omega.{arith}
use lib.ListN.{length, get_or, take, drop, set, length-map, length-take}
use borrow.Author.Tests.{le-leb}
use borrow.Rule.Slice.PartMut.{put_mid}
use Rattle.lists.specs.Lists.{every}
use Rattle.lists.proofs.Every.{every_nil, every_cons}
use Rattle.lists.proofs.Places.{map_at}
use Rattle.fields.specs.Bytes.{field}
use Rattle.fields.proofs.RowWriting.{RowsWritten, rows_start, rows_room, rows_next, rows_end, part_wrote, wrote_whole}
use Rattle.rules.specs.Answers.{mixture_limit}
use Rattle.rules.specs.Rules.{normal}
use Rattle.rules.proofs.RuleLaws.{normal_length}
use Rattle.rule_words.specs.Words.{rule_width, words_of}
use Rattle.rule_words.proofs.WordLaws.{words_nine}
use Rattle.image.specs.Limits.{size16, no_owner, rule_size, rule_owner_at, rule_limit}
use Rattle.image.specs.Image.{Span, spans_in, mixtures_in, rule_in, rules_in, owners_in, rule_records_good}
use Rattle.image.specs.Normal.{Use, free_use, normal_image}
use Rattle.image.proofs.RecordsByPlace.{rules_count, owner_at_lem, rule_at_lem, rule_fits}
use Rattle.fields.specs.Writing.{Wrote}
use Rattle.normaliser.specs.Writer.{form_width, form_row, normal_use, policy_given, form_words, policy_at, Tabled, Answered}
use Rattle.normaliser.specs.Sections.{owned_rule, owned_in, SectionsAccepted}
use Rattle.normaliser.proofs.RuleForms.{short_use, row_long, row_put}
use Rattle.normaliser.proofs.WriterLaws.{sound_usable, words_length, words_tabled, words_answered, sound_wrote}

-- a test that the use at every place passes
pub every_place : (f : Use → Bool) (xs : List Use) → ((k : ℕ) → k < length xs → f (get_or xs k free_use) ≡ true) → every f xs ≡ true
every_place f [] h = every_nil f
every_place f (x ∷ xs) h = every_cons f x xs (h 0 (omega arith)) (every_place f xs (λ k l. h (suc k) (omega arith)))

-- ---- the rules with their owners are the rules, and the owners

module _ (rules mixtures : List ℕ) where
  pub owned_mixtures : map (λ u. u.mixtures) (owned_in rules mixtures) ≡ rules_in rules mixtures
  unfolding owned_in rules_in owned_rule
  owned_mixtures = by (spans_in rules)
    where
      by : (l : List Span) → map (λ u. u.mixtures) (map (owned_rule (mixtures_in mixtures)) l) ≡ map (rule_in (mixtures_in mixtures)) l
      by [] = refl
      by (s ∷ l) = ap (λ (x : List (List ℕ)). rule_in (mixtures_in mixtures) s ∷ x) (by l)

  pub owned_owners : map (λ u. u.owner) (owned_in rules mixtures) ≡ owners_in rules
  unfolding owned_in owners_in owned_rule
  owned_owners = by (spans_in rules)
    where
      by : (l : List Span) → map (λ u. u.owner) (map (owned_rule (mixtures_in mixtures)) l) ≡ map (λ s. s.owner) l
      by [] = refl
      by (s ∷ l) = ap (λ (x : List ℕ). s.owner ∷ x) (by l)

  owned_count : length (owned_in rules mixtures) ≡ length rules / rule_size
  owned_count = sym (length-map (owned_in rules mixtures) (λ u. u.mixtures)) ∙ ap length owned_mixtures ∙ rules_count rules mixtures

  module _ (k : ℕ) (l : k < length rules / rule_size) where
    mixtures_at : (get_or (owned_in rules mixtures) k free_use).mixtures ≡ get_or (rules_in rules mixtures) k []
    mixtures_at = sym (map_at (λ u. u.mixtures) (owned_in rules mixtures) k free_use [] (omega (arith, owned_count))) ∙ ap (λ (x : List (List ℕ)). get_or x k []) owned_mixtures

    owner_of : (get_or (owned_in rules mixtures) k free_use).owner ≡ field rules (k * rule_size + rule_owner_at) size16
    owner_of =
        sym (map_at (λ u. u.owner) (owned_in rules mixtures) k free_use no_owner (omega (arith, owned_count)))
        ∙ ap (λ (x : List ℕ). get_or x k no_owner) owned_owners
        ∙ owner_at_lem rules k l

abbrev pub word_rows : List ℕ → List ℕ → List (List ℕ)
word_rows rules mixtures = map form_row (map normal_use (owned_in rules mixtures))

module _ (rules mixtures : List ℕ) (good : rule_records_good rules mixtures ≡ true) where
  abbrev given : List Use
  given = owned_in rules mixtures

  short_at : (k : ℕ) → k < length rules / rule_size → length (get_or (rules_in rules mixtures) k []) ≤ mixture_limit
  short_at k l =
      omega (
        arith,
        ap length (rule_at_lem rules mixtures good k l),
        length-take (field rules (k * rule_size + 2) 2) (drop (field rules (k * rule_size) 2) (mixtures_in mixtures)),
        rule_fits rules mixtures good k l,
      )

  use_short : (k : ℕ) → k < length rules / rule_size → length (get_or given k free_use).mixtures ≤ mixture_limit
  use_short k l = omega (arith, short_at k l, ap length (mixtures_at rules mixtures k l))

  given_short : every short_use given ≡ true
  given_short = every_place short_use given (λ k l. le-leb (length (get_or given k free_use).mixtures) mixture_limit (use_short k (omega (arith, owned_count rules mixtures))))

  pub given_length : length (form_words given) ≡ length rules / rule_size * form_width
  given_length = words_length given given_short ∙ ap (λ (n : ℕ). n * form_width) (owned_count rules mixtures)

  -- ---- one row: the words of the rule, then its owner

  module _ (k : ℕ) (l : k < length rules / rule_size) where
    words_long : length (words_of (normal (get_or (rules_in rules mixtures) k []))) ≡ rule_width
    words_long = words_nine (normal (get_or (rules_in rules mixtures) k [])) (omega (arith, normal_length (get_or (rules_in rules mixtures) k []), short_at k l))

    pub row_done : (row : List ℕ) {ws : List ℕ} {owner : ℕ} → length row ≡ form_width → ws ≡ words_of (normal (get_or (rules_in rules mixtures) k []))
        → owner ≡ field rules (k * rule_size + rule_owner_at) size16
        → set (put_mid 0 (rule_width - 0) row ws) rule_width owner ≡ form_row (normal_use (get_or given k free_use))
    unfolding form_row normal_use
    row_done row {ws} {owner} h e f =
        row_put row ws owner h (ap length e ∙ words_long)
        ∙ ap₂ (λ (x : List ℕ) (o : ℕ). x ++ (o ∷ [])) (e ∙ ap (λ (r : List ℕ). words_of (normal r)) (sym (mixtures_at rules mixtures k l))) (f ∙ sym (owner_of rules mixtures k l))

  -- ---- row by row

  word_rows_lem : length (word_rows rules mixtures) ≡ length rules / rule_size
  word_rows_lem = length-map (map normal_use given) form_row ∙ length-map given normal_use ∙ owned_count rules mixtures

  word_row : (k : ℕ) → k < length rules / rule_size → form_row (normal_use (get_or given k free_use)) ≡ get_or (word_rows rules mixtures) k []
  word_row k l =
      sym (map_at form_row (map normal_use given) k free_use [] (omega (arith, length-map given normal_use, owned_count rules mixtures))
      ∙ ap form_row (map_at normal_use given k free_use free_use (omega (arith, owned_count rules mixtures))))

  word_long : (k : ℕ) → k < length rules / rule_size → length (form_row (normal_use (get_or given k free_use))) ≡ form_width
  unfolding normal_use
  word_long k l =
      row_long (record { owner = (get_or given k free_use).owner; mixtures = normal (get_or given k free_use).mixtures })
      (omega (arith, normal_length (get_or given k free_use).mixtures, use_short k l))

  pub forms_start : (forms : List ℕ) → length forms ≡ length rules / rule_size * form_width → RowsWritten (word_rows rules mixtures) forms 0 forms 0 0
  unfolding form_words
  forms_start forms e = rows_start (word_rows rules mixtures) forms 0 (omega (arith, given_length))

  module _ {forms₀ forms : List ℕ} {k : ℕ} (g : RowsWritten (word_rows rules mixtures) forms₀ 0 forms (k * form_width) k) where
    pub forms_room : k < length rules / rule_size → k * form_width + form_width ≤ length forms
    forms_room l = omega (arith, rows_room g (omega (arith, word_rows_lem)), ap length (word_row k l), word_long k l)

    pub forms_next : k < length rules / rule_size → {ws : List ℕ} → ws ≡ form_row (normal_use (get_or given k free_use))
        → RowsWritten (word_rows rules mixtures) forms₀ 0 (put_mid (k * form_width) (k * form_width + form_width - k * form_width) forms ws) ((k + 1) * form_width) (k + 1)
    forms_next l {ws} e =
        let n : k * form_width + form_width ≡ (k + 1) * form_width = omega arith in
        let w = part_wrote forms ws (k * form_width) form_width (ap length e ∙ word_long k l) in
        rows_next g (omega (arith, word_rows_lem)) (e ∙ word_row k l) (record { buffer = w.buffer; ends = sym n ∙ w.ends })

    pub forms_end : length forms₀ ≡ length rules / rule_size * form_width → length rules / rule_size ≤ k → forms ≡ form_words given
    unfolding form_words
    forms_end h l = wrote_whole (h ∙ sym given_length) (rows_end g (omega (arith, word_rows_lem)))

-- ---- the words of the table that is lent

pub front_long : (words : List ℕ) (n : ℕ) → n ≤ length words → length (take (n - 0) words) ≡ n
front_long words n h = let z : n - 0 ≡ n = omega arith in omega (arith, length-take (n - 0) words)

module _ {containers users rules mixtures : List ℕ} (a : SectionsAccepted containers users rules mixtures) where
  abbrev policy_rules : List Use
  policy_rules = owned_in rules mixtures

  pub rules_few : length rules / rule_size ≤ rule_limit
  unfolding policy_given
  rules_few = omega (arith, a.sound.few_rules, owned_count rules mixtures, length-map policy_rules (λ u. u.mixtures))

  module _ {x : List ℕ} (e : x ≡ form_words policy_rules) where
    pub filled_few : (k : ℕ) → length rules / rule_size ≤ k → length x / form_width ≤ k
    filled_few k h = omega (arith, ap length e, given_length rules mixtures a.spans)

    pub filled_tabled : Tabled containers users x
    filled_tabled = rw e (words_tabled containers users policy_rules (sound_usable a.sound))

    pub filled_wrote : {before after : List ℕ} {n : ℕ} → Answered (policy_at containers users x) before after n
        → Wrote (normal_image (policy_given containers users policy_rules)) before after 0 n
    filled_wrote w = sound_wrote a.sound (words_answered containers users policy_rules (sound_usable a.sound) (rw e at w))
