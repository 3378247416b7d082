-- The rule records and the mixtures of the rules in order, rule by rule.
use Prim.Native.Nat.{ℕ, zero, suc, ◌+◌, ◌-◌, ◌*◌, ◌/◌, ◌≤◌, ◌<◌}
use mathlib.Core.Path.{◌≡◌, refl, sym, ap, ◌∙◌}
use mathlib.Core.Bool.{true}
use mathlib.Core.List.{List, [], ◌∷◌, ◌++◌, map}
use native.Mathlib.Omega.{arith}
use lib.Dec.{ltb}
use lib.ListN.{length, get_or, take, drop, length-append, length-take, length-drop, length-map}
use lib.Seq.{drop-drop, take-take, get_or-take, get_or-drop}
use borrow.Author.Tests.{ltb-true, leb-true}
use Rattle.lists.proofs.Bools.{and_0, and_1}
use Rattle.lists.specs.Lists.{joined, every}
use Rattle.lists.proofs.Joined.{joined_more, joined_map}
use Rattle.lists.proofs.Every.{every_get_d}
use Rattle.lists.proofs.Places.{map_at}
use Rattle.rules.specs.Answers.{mixture_limit}
use Rattle.fields.specs.Bytes.{bytes_of}
use Rattle.fields.specs.Writing.{Wrote}
use Rattle.fields.proofs.ByteLaws.{bytes_length, joined_length}
use Rattle.fields.proofs.FieldLaws.{take_mid}
use Rattle.fields.proofs.RowWriting.{RowsWritten, rows_start, rows_room, rows_next}
use Rattle.rule_words.specs.Words.{rule_width, rule_of}
use Rattle.image.proofs.WrittenOwners.{after_first}
use Rattle.normaliser.specs.Writer.{form_width, form_in}
use Rattle.image.specs.Limits.{no_owner, rule_size, mixture_size}
use Rattle.image.specs.Image.{Span}
use Rattle.image.specs.Normal.{span_bytes, spans_of}
use Rattle.image.proofs.Encode.{span_wide, spans_length}
use Rattle.normaliser.specs.Hashes.{words_at}
use Rattle.normaliser.specs.Tables.{use_of, form_at, form_owner, form_good}
use Rattle.normaliser.specs.Sections.{mixture_bytes, mixture_section}

-- ---- one rule

module _ (forms : List ℕ) (v : ℕ) (h : form_good forms v ≡ true) where
  form_in_lem : v < length forms / form_width
  unfolding form_good
  form_in_lem = ltb-true v (length forms / form_width) (and_0 (ltb v (length forms / form_width)) _ h)

  form_small : get_or forms (v * form_width) 0 ≤ mixture_limit
  unfolding form_good
  form_small = leb-true (get_or forms (v * form_width) 0) mixture_limit (and_1 (ltb v (length forms / form_width)) h)

  first_word : get_or (take rule_width (drop (v * form_width) forms)) 0 0 ≡ get_or forms (v * form_width) 0
  first_word =
      let z : v * form_width + 0 ≡ v * form_width = omega arith in
      get_or-take rule_width (drop (v * form_width) forms) 0 0 (omega arith) ∙ get_or-drop (v * form_width) forms 0 0 ∙ ap (λ (x : ℕ). get_or forms x 0) z

  form_is : form_at forms v ≡ take (get_or forms (v * form_width) 0) (drop (v * form_width + 1) forms)
  unfolding form_at use_of form_in words_at rule_of
  form_is =
      ap (λ (x : List ℕ). take (get_or x 0 0) (drop 1 x)) (take-take rule_width form_width (drop (v * form_width) forms) (omega arith))
      ∙ ap (λ (n : ℕ). take n (drop 1 (take rule_width (drop (v * form_width) forms)))) first_word
      ∙ take_mid (drop (v * form_width) forms) rule_width 1 (get_or forms (v * form_width) 0) (omega (arith, form_small))
      ∙ ap (take (get_or forms (v * form_width) 0)) (drop-drop 1 (v * form_width) forms)

  form_count : length (form_at forms v) ≡ get_or forms (v * form_width) 0
  form_count =
      ap length form_is
      ∙ omega (arith, length-take (get_or forms (v * form_width) 0) (drop (v * form_width + 1) forms), length-drop (v * form_width + 1) forms, form_small, form_in_lem)

  owner_is : form_owner forms v ≡ get_or forms (v * form_width + rule_width) 0
  unfolding form_owner use_of form_in words_at
  owner_is = get_or-take form_width (drop (v * form_width) forms) rule_width 0 (omega arith) ∙ get_or-drop (v * form_width) forms rule_width 0

-- what is known of rule v: its row stands in the table, its count is that of its mixtures, and they are lent as a part
pub record RuleHere (forms : List ℕ) (v : ℕ) : Type 0 where
  pub inside : v < length forms / form_width
  pub small : get_or forms (v * form_width) 0 ≤ mixture_limit
  pub count : length (form_at forms v) ≡ get_or forms (v * form_width) 0
  pub owner : form_owner forms v ≡ get_or forms (v * form_width + rule_width) 0
  pub part : take (v * form_width + 1 + get_or forms (v * form_width) 0 - (v * form_width + 1)) (drop (v * form_width + 1) forms) ≡ form_at forms v

-- the part of the words that is lent
form_part : (forms : List ℕ) (v : ℕ) → form_good forms v ≡ true → take (v * form_width + 1 + get_or forms (v * form_width) 0 - (v * form_width + 1)) (drop (v * form_width + 1) forms) ≡ form_at forms v
form_part forms v h =
    let e : v * form_width + 1 + get_or forms (v * form_width) 0 - (v * form_width + 1) ≡ get_or forms (v * form_width) 0 = omega arith in
    ap (λ (n : ℕ). take n (drop (v * form_width + 1) forms)) e ∙ sym (form_is forms v h)

pub rule_here : (forms order : List ℕ) (j : ℕ) → every (form_good forms) order ≡ true → j < length order → RuleHere forms (get_or order j 0)
rule_here forms order j h l =
    let g : form_good forms (get_or order j 0) ≡ true = every_get_d (form_good forms) order j 0 l h in
    let k : ℕ = get_or order j 0 in
    record { inside = form_in_lem forms k g; small = form_small forms k g; count = form_count forms k g; owner = owner_is forms k g; part = form_part forms k g }

-- ---- rules one behind the other

nothing : Span
nothing = record { first = 0; count = 0; owner = no_owner }

spans_at : (f : ℕ) (rules : List (List ℕ)) (owners : List ℕ) (j : ℕ) → j < length rules
    → get_or (spans_of f rules owners) j nothing ≡ record { first = f + length (joined (take j rules)); count = length (get_or rules j []); owner = get_or owners j no_owner }
unfolding spans_of joined
spans_at f [] owners j l = absurd (omega arith)
spans_at f (r ∷ rules) owners zero l = let e : f ≡ f + 0 = omega arith in λ i. record { first = e i; count = length r; owner = get_or owners 0 no_owner }
spans_at f (r ∷ rules) owners (suc j) l =
    spans_at (f + length r) rules (drop 1 owners) j (omega arith) ∙ more
  where
    more : ◌≡◌ {A = Span} (record { first = f + length r + length (joined (take j rules)); count = length (get_or rules j []); owner = get_or (drop 1 owners) j no_owner })
        (record { first = f + length (r ++ joined (take j rules)); count = length (get_or rules j []); owner = get_or owners (suc j) no_owner })
    more =
        let e : f + length r + length (joined (take j rules)) ≡ f + length (r ++ joined (take j rules)) = omega (arith, length-append r (joined (take j rules))) in
        let o : get_or (drop 1 owners) j no_owner ≡ get_or owners (suc j) no_owner = after_first owners j in
        λ i. record { first = e i; count = length (get_or rules j []); owner = o i }

pub mixtures_size : (r : List ℕ) → length (mixture_bytes r) ≡ length r * mixture_size
unfolding mixture_bytes
mixtures_size r = joined_length mixture_size (bytes_of mixture_size) (bytes_length mixture_size) r

module _ (forms order : List ℕ) where
  abbrev pub rules : List (List ℕ)
  rules = map (form_at forms) order

  abbrev pub owners : List ℕ
  owners = map (form_owner forms) order

  rule_is : (j : ℕ) → j < length order → get_or rules j [] ≡ form_at forms (get_or order j 0)
  rule_is j l = map_at (form_at forms) order j 0 [] l

  -- ---- rule records

  abbrev pub span_rows : List (List ℕ)
  span_rows = map span_bytes (spans_of 0 rules owners)

  pub spans_count : length span_rows ≡ length order
  spans_count = length-map (spans_of 0 rules owners) span_bytes ∙ spans_length 0 rules owners ∙ length-map order (form_at forms)

  pub spans_size : length (joined span_rows) ≡ length order * rule_size
  spans_size =
      joined_length rule_size span_bytes span_wide (spans_of 0 rules owners)
      ∙ ap (λ (n : ℕ). n * rule_size) (spans_length 0 rules owners ∙ length-map order (form_at forms))

  -- j of the rule records are written, and first is the number of their mixtures
  pub record SpansWritten (before : List ℕ) (start : ℕ) (out : List ℕ) (at first j : ℕ) : Type 0 where
    pub rows : RowsWritten span_rows before start out at j
    pub place : j ≤ length order
    pub sum : first ≡ length (joined (take j rules))
    pub small : first ≤ mixture_limit * j

  pub spans_start : (before : List ℕ) (start : ℕ) → start + length order * rule_size ≤ length before → SpansWritten before start before start 0 0
  unfolding joined
  spans_start before start h =
      record { rows = rows_start span_rows before start (omega (arith, spans_size)); place = omega arith; sum = refl; small = omega arith }

  module _ {before : List ℕ} {start : ℕ} {out : List ℕ} {at first j : ℕ} (g : SpansWritten before start out at first j) (l : j < length order) (h : RuleHere forms (get_or order j 0)) where
    abbrev count : ℕ
    count = get_or forms (get_or order j 0 * form_width) 0

    abbrev owner : ℕ
    owner = get_or forms (get_or order j 0 * form_width + rule_width) 0

    abbrev span : Span
    span = record { first = first; count = count; owner = owner }

    span_row : span_bytes span ≡ get_or span_rows j []
    span_row =
        ap span_bytes same
        ∙ sym (map_at span_bytes (spans_of 0 rules owners) j nothing [] (omega (arith, spans_length 0 rules owners, length-map order (form_at forms))))
      where
        same : span ≡ get_or (spans_of 0 rules owners) j nothing
        same =
            let a : first ≡ 0 + length (joined (take j rules)) = omega (arith, g.sum) in
            let b : count ≡ length (get_or rules j []) = sym (ap length (rule_is j l) ∙ h.count) in
            let o : owner ≡ get_or owners j no_owner = sym (map_at (form_owner forms) order j 0 no_owner l ∙ h.owner) in
            (λ i. record { first = a i; count = b i; owner = o i }) ∙ sym (spans_at 0 rules owners j (omega (arith, length-map order (form_at forms))))

    pub spans_room : at + rule_size ≤ length out
    spans_room =
        omega (arith, rows_room g.rows (omega (arith, spans_count)), ap length span_row, span_wide span)

    sum_next : length (joined (take (j + 1) rules)) ≡ first + count
    sum_next =
        ap length (joined_more rules j (omega (arith, length-map order (form_at forms))))
        ∙ length-append (joined (take j rules)) (get_or rules j [])
        ∙ omega (arith, ap length (rule_is j l), h.count, g.sum)

    pub spans_next : {after : List ℕ} {next : ℕ} → Wrote (span_bytes span) out after at next → SpansWritten before start after next (first + count) (j + 1)
    spans_next w =
        record {
          rows = rows_next g.rows (omega (arith, spans_count)) span_row w;
          place = omega arith;
          sum = sym sum_next;
          small = omega (arith, g.small, h.small);
        }

  -- ---- mixtures

  abbrev pub mixture_rows : List (List ℕ)
  mixture_rows = map mixture_bytes rules

  pub mixture_rows_lem : length mixture_rows ≡ length order
  mixture_rows_lem = length-map rules mixture_bytes ∙ length-map order (form_at forms)

  pub mixtures_are : joined mixture_rows ≡ mixture_section forms order
  unfolding mixture_section mixture_bytes
  mixtures_are = sym (joined_map (bytes_of mixture_size) rules)

  pub mixtures_fit : (start room : ℕ) → start + length (joined rules) * mixture_size ≤ room → start + length (joined mixture_rows) ≤ room
  unfolding mixture_section
  mixtures_fit start room h = omega (arith, ap length mixtures_are, mixtures_size (joined rules))

  pub mixture_row : (j : ℕ) → j < length order → mixture_bytes (form_at forms (get_or order j 0)) ≡ get_or mixture_rows j []
  mixture_row j l = sym (map_at mixture_bytes rules j [] [] (omega (arith, length-map order (form_at forms))) ∙ ap mixture_bytes (rule_is j l))

  module _ {before out : List ℕ} {start at j : ℕ} (g : RowsWritten mixture_rows before start out at j) (l : j < length order) where
    pub mixtures_room : at + length (form_at forms (get_or order j 0)) * mixture_size ≤ length out
    mixtures_room = omega (arith, rows_room g (omega (arith, mixture_rows_lem)), ap length (mixture_row j l), mixtures_size (form_at forms (get_or order j 0)))

    pub mixtures_next : {after : List ℕ} {next : ℕ} → Wrote (mixture_bytes (form_at forms (get_or order j 0))) out after at next → RowsWritten mixture_rows before start after next (j + 1)
    mixtures_next w = rows_next g (omega (arith, mixture_rows_lem)) (mixture_row j l) w

-- the mixtures of one rule, row by row
module _ (r : List ℕ) where
  pub mixture_at : (i : ℕ) → i < length r → bytes_of mixture_size (get_or r i 0) ≡ get_or (map (bytes_of mixture_size) r) i []
  mixture_at i l = sym (map_at (bytes_of mixture_size) r i 0 [] l)

  pub mixture_rows_fit : (start room : ℕ) → start + length r * mixture_size ≤ room → start + length (joined (map (bytes_of mixture_size) r)) ≤ room
  unfolding mixture_bytes
  mixture_rows_fit start room h = omega (arith, mixtures_size r)

  pub mixture_room : {before out : List ℕ} {start at i : ℕ} → RowsWritten (map (bytes_of mixture_size) r) before start out at i → i < length r → at + mixture_size ≤ length out
  mixture_room {i = i} g l =
      omega (arith, rows_room g (omega (arith, length-map r (bytes_of mixture_size))), ap length (mixture_at i l), bytes_length mixture_size (get_or r i 0))
