-- The lines as their parts one behind the other, and how long these are at most.
use Prim.Native.Nat.{ℕ, ◌+◌, ◌-◌, ◌*◌, ◌≤◌, ◌<◌}
use native.Mathlib.Omega.{arith}
use native.Mathlib.Nat.{add-sub_cancel_left}
use native.Mathlib.Numerals.{add-one}
use mathlib.Core.Path.{◌≡◌, refl, sym, ap, ap₂, ◌∙◌}
use mathlib.Core.Bool.{Bool, true, false, cond, ◌||◌}
use mathlib.Core.List.{List, [], ◌∷◌, ◌++◌, append_assoc}
use lib.Dec.{eqb}
use lib.ListN.{length, take, drop, get_or, length-append, length-drop}
use lib.Seq.{take_all, take-suc, take_at}
use borrow.Author.Tests.{eqb-true, eqb-false, eq-eqb, ne_eqb}
use Rattle.std.specs.List.{list_any}
use Rattle.lists.specs.Lists.{elem}
use Rattle.fields.specs.Ascii.{ascii}
use Rattle.fields.specs.Writing.{Wrote}
use Rattle.fields.proofs.WritingLaws.{wrote_none, wrote_join, wrote_length, wrote_as}
use Rattle.answers.specs.Tallies.{more}
use Rattle.listing.specs.Text.{decimal, hexadecimal}
use Rattle.listing.specs.Lines.{space, newline, line, leading}
use Rattle.listing.specs.Buffer.{field_limit}
use Rattle.listing.proofs.ListingLines.{leading_append, line_leading, field_length}
use Rattle.explanations.specs.Lines.{
  step_field,
  step_fields,
  found_line,
  own_origin,
  made_origin,
  user_origin,
  origin_word,
  origin_fields,
  rule_fields,
  rule_line,
  lacks_line,
  way_fields,
  way_line,
  explained_total_line,
}
use Rattle.explanations.specs.Buffer.{opened, ended, part_limit}

-- ---- a line in parts

pub opened_more : (f : List ℕ) (fs gs : List (List ℕ)) → opened f fs ++ leading gs ≡ opened f (fs ++ gs)
unfolding opened
opened_more f fs gs = append_assoc f (leading fs) (leading gs) ∙ ap (λ (t : List ℕ). f ++ t) (sym (leading_append fs gs))

pub opened_line : (f : List ℕ) (fs gs : List (List ℕ)) → opened f fs ++ (leading gs ++ (newline ∷ [])) ≡ line f (fs ++ gs)
unfolding opened
opened_line f fs gs =
    append_assoc f (leading fs) (leading gs ++ (newline ∷ []))
    ∙ ap (λ (t : List ℕ). f ++ t)
    (sym (append_assoc (leading fs) (leading gs) (newline ∷ [])) ∙ ap (λ (t : List ℕ). t ++ (newline ∷ [])) (sym (leading_append fs gs)))
    ∙ line_leading f (fs ++ gs)

pub rule_text_lem : (origin rule owner n holder : ℕ) (chain : List ℕ)
    → ended (opened (ascii "rule") (rule_fields origin rule owner n holder)) chain ≡ rule_line origin rule owner n holder chain
unfolding ended rule_line
rule_text_lem origin rule owner n holder chain = opened_line (ascii "rule") (rule_fields origin rule owner n holder) (step_fields chain)

pub way_text_lem : (atom file : ℕ) (chain : List ℕ)
    → ended (opened (ascii "way") (way_fields atom file)) chain ≡ way_line atom file chain
unfolding ended way_line
way_text_lem atom file chain = opened_line (ascii "way") (way_fields atom file) (step_fields chain)

-- ---- numbers behind other fields

pub pair_text : (m n : ℕ) → leading (decimal m ∷ []) ++ leading (decimal n ∷ []) ≡ leading (decimal m ∷ decimal n ∷ [])
pair_text m n = sym (leading_append (decimal m ∷ []) (decimal n ∷ []))

pub pair_length : (m n : ℕ) → length (leading (decimal m ∷ decimal n ∷ [])) ≤ 2 * field_limit
pair_length m n =
    let e : length (leading (decimal m ∷ decimal n ∷ [])) ≡ length (leading (decimal m ∷ [])) + length (leading (decimal n ∷ [])) =
    ap length (leading_append (decimal m ∷ []) (decimal n ∷ [])) ∙ length-append (leading (decimal m ∷ [])) (leading (decimal n ∷ [])) in
    omega (arith, e, field_length m, field_length n)

pub step_length : (n : ℕ) → length (leading (step_field n ∷ [])) ≤ field_limit
unfolding step_field
step_length n = field_length (more n)

-- ---- what is explained

pub blocked_text : (n c : ℕ) → (ascii "blocked " ++ (decimal (more n) ++ (space ∷ []))) ++ (decimal c ++ (newline ∷ [])) ≡ found_line true n c
unfolding found_line step_field line ascii
blocked_text n c = simp append_assoc

pub alert_text : (n c : ℕ) → (ascii "alert " ++ (decimal (more n) ++ (space ∷ []))) ++ (decimal c ++ (newline ∷ [])) ≡ found_line false n c
unfolding found_line step_field line ascii
alert_text n c = simp append_assoc

-- ---- the rule

pub own_word : (k : ℕ) → k ≡ own_origin → opened (ascii "rule") (origin_word k ∷ []) ≡ ascii "rule own"
unfolding opened leading origin_word ascii
own_word k e = rw (eq-eqb k own_origin e)

pub made_word : (k : ℕ) → (k ≡ own_origin → ⊥) → k ≡ made_origin → opened (ascii "rule") (origin_word k ∷ []) ≡ ascii "rule made"
unfolding opened leading origin_word ascii
made_word k a e = rw (ne_eqb k own_origin a, eq-eqb k made_origin e)

pub user_word : (k : ℕ) → (k ≡ own_origin → ⊥) → (k ≡ made_origin → ⊥) → k ≡ user_origin → opened (ascii "rule") (origin_word k ∷ []) ≡ ascii "rule user"
unfolding opened leading origin_word ascii
user_word k a b e = rw (ne_eqb k own_origin a, ne_eqb k made_origin b, eq-eqb k user_origin e)

pub run_word : (k : ℕ) → (k ≡ own_origin → ⊥) → (k ≡ made_origin → ⊥) → (k ≡ user_origin → ⊥) → opened (ascii "rule") (origin_word k ∷ []) ≡ ascii "rule run"
unfolding opened leading origin_word ascii
run_word k a b d = rw (ne_eqb k own_origin a, ne_eqb k made_origin b, ne_eqb k user_origin d)

pub word_length : (k : ℕ) → length (opened (ascii "rule") (origin_word k ∷ [])) ≤ 9
unfolding opened leading origin_word ascii
word_length k = by (eqb k own_origin) (eqb k made_origin) (eqb k user_origin)
  where
    by : (a b d : Bool) → length (opened (ascii "rule") (cond a (ascii "own") (cond b (ascii "made") (cond d (ascii "user") (ascii "run"))) ∷ [])) ≤ 9
    by true b d = omega arith
    by false true d = omega arith
    by false false true = omega arith
    by false false false = omega arith

module _ (origin rule owner n holder : ℕ) where
  pub own_fields : origin ≡ own_origin
      → opened (ascii "rule") (origin_word origin ∷ []) ++ leading (decimal rule ∷ decimal owner ∷ []) ≡ opened (ascii "rule") (rule_fields origin rule owner n holder)
  unfolding rule_fields origin_fields
  own_fields e = rw (eq-eqb origin own_origin e) (opened_more (ascii "rule") (origin_word origin ∷ []) (decimal rule ∷ decimal owner ∷ []))

  pub other_fields : (origin ≡ own_origin → ⊥)
      → (opened (ascii "rule") (origin_word origin ∷ []) ++ leading (decimal rule ∷ decimal owner ∷ [])) ++ leading (decimal (more n) ∷ decimal holder ∷ [])
      ≡ opened (ascii "rule") (rule_fields origin rule owner n holder)
  unfolding rule_fields origin_fields step_field
  other_fields d =
      rw (ne_eqb origin own_origin d)
      (ap (λ (t : List ℕ). t ++ leading (decimal (more n) ∷ decimal holder ∷ [])) (opened_more (ascii "rule") (origin_word origin ∷ []) (decimal rule ∷ decimal owner ∷ []))
      ∙ opened_more (ascii "rule") (origin_word origin ∷ decimal rule ∷ decimal owner ∷ []) (decimal (more n) ∷ decimal holder ∷ []))

-- ---- the other lines

pub lacks_text : (m k : ℕ) → (ascii "lacks " ++ (hexadecimal m ++ (space ∷ []))) ++ (decimal k ++ (newline ∷ [])) ≡ lacks_line m k
unfolding lacks_line line ascii
lacks_text m k = simp append_assoc

pub way_fields_lem : (atom file : ℕ) → ascii "way" ++ leading (decimal atom ∷ decimal file ∷ []) ≡ opened (ascii "way") (way_fields atom file)
unfolding opened way_fields
way_fields_lem atom file = refl

pub total_text : (records explained : ℕ)
    → (ascii "total " ++ (decimal records ++ (space ∷ []))) ++ (ascii "explained " ++ (decimal explained ++ (newline ∷ []))) ≡ explained_total_line records explained
unfolding explained_total_line line ascii
total_text records explained = simp append_assoc

-- ---- the steps of a chain in parts

steps_append : (x y : List ℕ) → step_fields (x ++ y) ≡ step_fields x ++ step_fields y
unfolding step_fields
steps_append [] y = refl
steps_append (n ∷ x) y = ap (λ (l : List (List ℕ)). step_field n ∷ l) (steps_append x y)

pub leading_steps : (x y : List ℕ) → leading (step_fields (x ++ y)) ≡ leading (step_fields x) ++ leading (step_fields y)
leading_steps x y = ap leading (steps_append x y) ∙ leading_append (step_fields x) (step_fields y)

pub no_steps : leading (step_fields []) ≡ []
unfolding leading step_fields
no_steps = refl

one_step : (n : ℕ) → leading (step_fields (n ∷ [])) ≡ leading (step_field n ∷ [])
unfolding step_fields
one_step n = refl

-- fewer than a part are left
pub short_part : (x : List ℕ) (at : ℕ) → length x - at < part_limit → take (length x - at) (drop at x) ≡ take part_limit (drop at x)
short_part x at h =
    take_all (length x - at) (drop at x) (omega (arith, length-drop at x))
    ∙ sym (take_all part_limit (drop at x) (omega (arith, length-drop at x)))

pub whole_part : (x : List ℕ) (at : ℕ) → take (at + part_limit - at) (drop at x) ≡ take part_limit (drop at x)
whole_part x at = rw add-sub_cancel_left

-- behind `at` the steps of the first i numbers are written, and there is room for the others
pub record Stepping (numbers before out : List ℕ) (at next i : ℕ) : Type 0 where
  pub within : i ≤ length numbers
  pub long : length out ≡ length before
  pub begun : at ≤ length before
  pub room : next + field_limit * (length numbers - i) ≤ length out
  pub wrote : Wrote (leading (step_fields (take i numbers))) before out at next

pub stepping_start : (numbers out : List ℕ) (at : ℕ) → at + field_limit * length numbers ≤ length out → Stepping numbers out out at at 0
stepping_start numbers out at r =
    let z : length numbers - 0 ≡ length numbers = omega arith in
    record {
      within = omega arith;
      long = refl;
      begun = omega arith;
      room = rw z r;
      wrote = wrote_as (sym no_steps) (wrote_none at out);
    }

module _ (numbers before out : List ℕ) (at next i : ℕ) (h : Stepping numbers before out at next i) (l : i < length numbers) where
  left : field_limit * (length numbers - i) ≡ field_limit + field_limit * (length numbers - (i + 1))
  left = omega arith

  pub step_room : next + field_limit ≤ length out
  step_room = omega (arith, h.room, left)

  pub stepping_next : (out' : List ℕ) (next' : ℕ) → Wrote (leading (step_field (get_or numbers i 0) ∷ [])) out out' next next' → Stepping numbers before out' at next' (i + 1)
  stepping_next out' next' w =
      let n : ℕ = get_or numbers i 0 in
      let fits : next + length (leading (step_field n ∷ [])) ≤ length out = omega (arith, step_room, step_length n) in
      let same : length out' ≡ length out = wrote_length fits w in
      let e : take (i + 1) numbers ≡ take i numbers ++ (n ∷ []) = ap (λ (k : ℕ). take k numbers) (add-one i) ∙ take-suc numbers i 0 l in
      record {
        within = omega arith;
        long = same ∙ h.long;
        begun = h.begun;
        room = omega (arith, h.room, left, w.ends, same, step_length n);
        wrote =
            wrote_as
            (ap (λ (t : List ℕ). leading (step_fields (take i numbers)) ++ t) (sym (one_step n))
            ∙ sym (leading_steps (take i numbers) (n ∷ []))
            ∙ ap (λ (x : List ℕ). leading (step_fields x)) (sym e))
            (wrote_join h.begun h.wrote w);
      }

pub stepping_end : (numbers before out : List ℕ) (at next i : ℕ) → Stepping numbers before out at next i → length numbers ≤ i → Wrote (leading (step_fields numbers)) before out at next
stepping_end numbers before out at next i h l =
    wrote_as (ap (λ (x : List ℕ). leading (step_fields x)) (take_all i numbers l)) h.wrote

-- ---- a text at the front of a buffer

pub wrote_front : {text before after : List ℕ} {end : ℕ} → Wrote text before after 0 end → take end after ≡ text
unfolding Rattle.fields.specs.Writing.overwritten
wrote_front {text} {before} {after} {end} h =
    let e : length text ≡ end = omega (arith, h.ends) in
    ap (λ (l : List ℕ). take end l) h.buffer ∙ take_at text (drop (0 + length text) before) end e

-- ---- a number among others

eqb_swapped : (a b : ℕ) → eqb a b ≡ eqb b a
eqb_swapped a b = by (eqb b a) refl
  where
    by : (r : Bool) → eqb b a ≡ r → eqb a b ≡ r
    by true e = eq-eqb a b (sym (eqb-true b a e))
    by false e = ne_eqb a b (λ z. eqb-false b a e (sym z))

-- the number is one of the list, as the test of each says
pub any_elem : (n : ℕ) (x : List ℕ) → list_any (λ y. eqb y n) x ≡ elem n x
unfolding elem
any_elem n [] = refl
any_elem n (y ∷ x) = ap₂ (λ (p q : Bool). p || q) (eqb_swapped y n) (any_elem n x)
