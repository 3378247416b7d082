-- The session that a meaning starts: its rows, and that it tells the meaning.
use Prim.Native.Nat.{ℕ, ◌+◌, ◌*◌, ◌^◌, ◌≤◌, ◌<◌}
use mathlib.Core.Path.{◌≡◌, refl, sym, ap, ◌∙◌}
use mathlib.Core.Bool.{Bool, true, false, cond, ◌&&◌, ◌||◌}
use mathlib.Core.List.{List, ◌++◌, map}
use native.Mathlib.Omega.{arith}
use native.Mathlib.Decide.{dec_lt}
use lib.Dec.{eqb, leb, ltb}
use lib.Pow.{pow-lt, pow_pos}
use lib.ListN.{length, get_or, take, drop, replicate, length-append, length-drop, length-map}
use lib.Seq.{take-append-le, drop-append-le, drop-append-add}
use borrow.Author.Tests.{eq-eqb, leb-true, le-leb, eqb-true}
use Rattle.image.proofs.KindLaws.{used_kind_lem, shape_known}
use Rattle.lists.proofs.Bools.{and_in, and_0, and_1}
use Rattle.lists.specs.Lists.{same_list, every}
use Rattle.rules.specs.Answers.{data_width, tag_width, mixture_limit}
use Rattle.image.specs.Limits.{no_atom, container_limit, user_limit, used_kind}
use Rattle.image.specs.Policy.{unrestricted_rule, rule_good}
use Rattle.image.specs.Normal.{Place, Meaning}
use Rattle.lists.proofs.Every.{every_map, map_apart, append_apart}
use Rattle.image.proofs.WrittenMeaning.{form_good, shape_good, place_good, Encodable, form_rule, form_normal}
use Rattle.session.specs.Limits.{session_length, row_width, user_width, users_at}
use Rattle.session.specs.Rows.{Row, row_words, row_of, InUse, user_words, user_rule_of, container_row, user_row}
use Rattle.session.specs.Session.{filled, start_tag, start_row, place_words, session_of}
use Rattle.session.proofs.RowMeaning.{nobody_good, row_length, row_words_lem, row_kind, user_length, user_words_lem}
use Rattle.fields.proofs.WidthRows.{wide}
use Rattle.session.proofs.RowsOfOneWidth.{used, all_wide, filled_length, filled_row, filled_apart}

-- ---- what a good place and a good rule say

pub form_short : (r : List ℕ) → form_good r ≡ true → length r ≤ mixture_limit
unfolding rule_good
form_short r h = leb-true (length r) mixture_limit (and_0 (leb (length r) mixture_limit) (every (λ m. ltb m (2 ^ tag_width)) r) (form_rule r h))

shape_used : (p : Place) → shape_good p ≡ true → used_kind p.kind ≡ true
unfolding shape_good
shape_used p h =
    shape_known p.kind (ltb p.atom data_width || eqb p.atom no_atom)
    (eqb p.atom no_atom && (same_list p.permit unrestricted_rule && same_list p.run unrestricted_rule)) h

pub place_used : (p : Place) → place_good p ≡ true → InUse (start_row p)
unfolding place_good start_row
place_used p h =
    let f : (form_good p.permit && form_good p.run) ≡ true = and_1 (shape_good p) h in
    let permit : form_good p.permit ≡ true = and_0 (form_good p.permit) (form_good p.run) f in
    let run : form_good p.run ≡ true = and_1 (form_good p.permit) f in
    record {
      used = shape_used p (and_0 (shape_good p) (form_good p.permit && form_good p.run) h);
      permit_short = form_short p.permit permit;
      permit_normal = form_normal p.permit permit;
      run_short = form_short p.run run;
      run_normal = form_normal p.run run;
      behalf_kept = nobody_good p.kind;
    }

-- ---- the rows are those of a session, and in use

place_row : (p : Place) → place_good p ≡ true → used row_width (place_words p) ≡ true
unfolding used wide place_words
place_row p h =
    let u : InUse (start_row p) = place_used p h in
    and_in (eq-eqb (length (row_words (start_row p))) row_width (row_length (start_row p) u.permit_short u.run_short))
    (le-leb 1 (get_or (row_words (start_row p)) 0 0) (omega (arith, (used_kind_lem (start_row p).kind u.used).0, row_kind (start_row p))))

user_row_lem : (r : List ℕ) → form_good r ≡ true → used user_width (user_words r) ≡ true
unfolding used wide
user_row_lem r h = and_in (eq-eqb (length (user_words r)) user_width (user_length r (form_short r h))) (unfold user_words in refl)

module _ (m : Meaning) (h : Encodable m) where
  rows_used : every (used row_width) (map place_words m.places) ≡ true
  rows_used = every_map place_good (used row_width) place_words m.places place_row h.places_good

  rows_wide : every (wide row_width) (map place_words m.places) ≡ true
  rows_wide = all_wide row_width (map place_words m.places) rows_used

  users_used : every (used user_width) (map user_words m.users) ≡ true
  users_used = every_map form_good (used user_width) user_words m.users user_row_lem h.users_good

  users_wide : every (wide user_width) (map user_words m.users) ≡ true
  users_wide = all_wide user_width (map user_words m.users) users_used

  rows_length : length (filled row_width container_limit (map place_words m.places)) ≡ users_at
  rows_length = filled_length row_width container_limit (map place_words m.places) rows_wide

  users_length : length (filled user_width user_limit (map user_words m.users)) ≡ user_limit * user_width
  users_length = filled_length user_width user_limit (map user_words m.users) users_wide

  pub session_length_lem : length (session_of m) ≡ session_length
  unfolding session_of
  session_length_lem =
      length-append (filled row_width container_limit (map place_words m.places)) (filled user_width user_limit (map user_words m.users))
      ∙ omega (arith, rows_length, users_length)

  -- the row of container c
  pub session_row : (c : ℕ) → c < container_limit → container_row (session_of m) c ≡ get_or (map place_words m.places) c (replicate row_width 0)
  unfolding container_row session_of
  session_row c l =
      let rows : List ℕ = filled row_width container_limit (map place_words m.places) in
      let users : List ℕ = filled user_width user_limit (map user_words m.users) in
      let k : row_width ≤ length (drop (c * row_width) rows) = omega (arith, length-drop (c * row_width) rows, rows_length) in
      ap (take row_width) (drop-append-le (c * row_width) rows users (omega (arith, rows_length)))
      ∙ take-append-le row_width (drop (c * row_width) rows) users k
      ∙ filled_row row_width container_limit (map place_words m.places) c rows_wide l

  -- the row of user u
  pub session_user : (u : ℕ) → u < user_limit → user_row (session_of m) u ≡ get_or (map user_words m.users) u (replicate user_width 0)
  unfolding user_row session_of
  session_user u l =
      let k : users_at + u * user_width ≡ length (filled row_width container_limit (map place_words m.places)) + u * user_width = omega (arith, rows_length) in
      ap (λ (j : ℕ). take user_width (drop j (filled row_width container_limit (map place_words m.places) ++ filled user_width user_limit (map user_words m.users)))) k
      ∙ ap (take user_width) (drop-append-add (filled row_width container_limit (map place_words m.places)) (filled user_width user_limit (map user_words m.users)) (u * user_width))
      ∙ filled_row user_width user_limit (map user_words m.users) u users_wide l

-- ---- the session tells the meaning

pow_apart : (a b : ℕ) → 2 ^ a ≡ 2 ^ b → a ≡ b
pow_apart a b e = by (dec_lt a b) (dec_lt b a)
  where
    by : Dec (a < b) → Dec (b < a) → a ≡ b
    by (yes p) q = absurd (omega (arith, pow-lt p))
    by (no p) (yes q) = absurd (omega (arith, pow-lt q))
    by (no p) (no q) = omega arith

tag_apart : (a b : ℕ) → start_tag a ≡ start_tag b → a ≡ b
unfolding start_tag
tag_apart a b = by (eqb a no_atom) (eqb b no_atom) refl refl
  where
    by : (x y : Bool) → eqb a no_atom ≡ x → eqb b no_atom ≡ y → cond x 0 (2 ^ a) ≡ cond y 0 (2 ^ b) → a ≡ b
    by true true p q e = omega (arith, eqb-true a no_atom p, eqb-true b no_atom q)
    by true false p q e = absurd (omega (arith, pow_pos b))
    by false true p q e = absurd (omega (arith, pow_pos a))
    by false false p q e = pow_apart a b e

at_start_apart : (p q : Place) → start_row p ≡ start_row q → p ≡ q
unfolding start_row
at_start_apart p q e =
    let t : p.atom ≡ q.atom = tag_apart p.atom q.atom (ap (λ (w : Row). w.tag) e) in
    λ i. record { kind = (e i).kind; atom = t i; permit = (e i).permit; run = (e i).run }

words_apart : (p q : Place) → place_good p ≡ true → place_good q ≡ true → place_words p ≡ place_words q → p ≡ q
unfolding place_words
words_apart p q h k e =
    let u : InUse (start_row p) = place_used p h in
    let v : InUse (start_row q) = place_used q k in
    at_start_apart p q
    (sym (row_words_lem (start_row p) u.permit_short u.run_short) ∙ ap row_of e ∙ row_words_lem (start_row q) v.permit_short v.run_short)

user_apart : (r s : List ℕ) → form_good r ≡ true → form_good s ≡ true → user_words r ≡ user_words s → r ≡ s
user_apart r s h k e = sym (user_words_lem r (form_short r h)) ∙ ap user_rule_of e ∙ user_words_lem s (form_short s k)

pub session_apart : (m n : Meaning) → Encodable m → Encodable n → session_of m ≡ session_of n → m ≡ n
unfolding session_of
session_apart m n h k e =
    let rows : Meaning → List ℕ = λ x. filled row_width container_limit (map place_words x.places) in
    let users : Meaning → List ℕ = λ x. filled user_width user_limit (map user_words x.users) in
    let q = append_apart (rows m) (rows n) (users m) (users n) (rows_length m h ∙ sym (rows_length n k)) e in
    let lm : length (map place_words m.places) ≤ container_limit = omega (arith, length-map m.places place_words, h.few_places) in
    let ln : length (map place_words n.places) ≤ container_limit = omega (arith, length-map n.places place_words, k.few_places) in
    let um : length (map user_words m.users) ≤ user_limit = omega (arith, length-map m.users user_words, h.few_users) in
    let un : length (map user_words n.users) ≤ user_limit = omega (arith, length-map n.users user_words, k.few_users) in
    let e0 : m.places ≡ n.places = map_apart place_good place_words m.places n.places words_apart h.places_good k.places_good
    (filled_apart row_width container_limit (map place_words m.places) (map place_words n.places) lm ln (rows_used m h) (rows_used n k) q.0) in
    let e1 : m.users ≡ n.users = map_apart form_good user_words m.users n.users user_apart h.users_good k.users_good
    (filled_apart user_width user_limit (map user_words m.users) (map user_words n.users) um un (users_used m h) (users_used n k) q.1) in
    λ i. record { places = e0 i; users = e1 i }
