-- What is read of the session, and what is written to a row of it.
use Prim.Native.Nat.{ℕ, zero, suc, ◌+◌, ◌-◌, ◌*◌, ◌≤◌, ◌<◌}
use mathlib.Core.Path.{◌≡◌, refl, sym, subst, ap, ap₂, ◌∙◌}
use mathlib.Core.Bool.{Bool, true, false, not, cond, ◌&&◌}
use mathlib.Core.Logic.{⊎_elim}
use mathlib.Core.Option.{none, some}
use mathlib.Core.List.{List, [], ◌∷◌, ◌++◌, append_assoc}
use native.Mathlib.Omega.{arith}
use lib.ListN.{length, get_or, take, drop, set, replicate, length-take, length-drop, length-append, take-append-drop, drop_of_length-le}
use lib.Bits.{bit_and}
use lib.Seq.{take-nil, take-take, drop-drop, drop-cons, get_or-take, get_or-drop, take_at, set_at}
use lib.Dec.{eqb, leb}
use borrow.Author.Tests.{eqb-true, eq-eqb, ne_eqb, leb-true}
use Rattle.lists.proofs.Bools.{and_0, and_1, or_cases}
use borrow.Rule.Slice.PartMut.{put_mid}
use Rattle.rules.specs.Rules.{no_position, cover_place, normal, meet, refines}
use Rattle.rules.specs.Placewise.{placewise, within, alike}
use Rattle.rules.specs.Answers.{mixture_limit, padded, bounded_of, bounded_if_fits}
use Rattle.rules.specs.declared.Bounded.{Bounded}
use Rattle.std.specs.Prelude.{Option, Some, None}
use Rattle.std.specs.Option.{is_some}
use Rattle.rules.proofs.BoundedLaws.{bounded_is, bounded_fits, bounded_some, bounded_none}
use Rattle.rules.proofs.RuleLaws.{meet_comm}
use Rattle.rules.proofs.CoverLaws.{place_tells, place_limit}
use Rattle.rules.proofs.RefineLaws.{refines_meet}
use Rattle.rules.proofs.PlacewiseLaws.{placewise_length, within_meet, alike_meet}
use Rattle.rules.proofs.MeetLaws.{meet_one}
use Rattle.session.specs.Limits.{row_width, user_width, users_at, kind_at, tag_at, permit_at, run_at, behalf_at, user_rule_at}
use Rattle.rule_words.specs.Words.{rule_width, rule_of, words_of}
use Rattle.session.specs.Rows.{Row, InUse, row_of, row_words, permit_words, run_words, container_row, user_row, user_rule_words, user_rule_of}
use Rattle.rule_words.proofs.WordLaws.{bounded_words_lem}
use Rattle.rule_words.proofs.KeptWords.{kept_count, kept_normal, kept_words, rule_length}
use Rattle.session.proofs.RowMeaning.{row_permit, good_counts, good_used, good_words, good_permit, good_run, user_kept}
use Rattle.session.proofs.RowPuts.{container_row_length, user_row_length}
use Rattle.chains.specs.Table.{fits, rule_or}
use Rattle.answers.specs.declared.Answer.{Answer}
use Rattle.answers.specs.declared.Answer.TheVariants.{Given}
use Rattle.answers.specs.declared.Verdict.{Verdict}
use Rattle.answers.specs.Answers.{received}
use Rattle.operations.specs.View.{view}
use Rattle.operations.specs.EarlyTests.{Kept, KeptAt, UsedAt, DeclaredAt, meets_placewise, words_from, bounded_words, content_words, new_words, cover_verdict, cover_answer}
use Rattle.operations.proofs.ViewLaws.{view_row, view_user}
use Rattle.image.specs.Limits.{container_limit}

-- ---- a part of a row as it is lent

inner : (s : List ℕ) (a w j k : ℕ) → j + k ≤ w → take k (drop (a + j) s) ≡ take k (drop j (take w (drop a s)))
inner s a w j k h = ap (take k) (sym (drop-drop j a s)) ∙ by (drop a s) j w h
  where
    by : (l : List ℕ) (j w : ℕ) → j + k ≤ w → take k (drop j l) ≡ take k (drop j (take w l))
    by l zero w h = sym (take-take k w l (omega arith))
    by [] (suc j) w h = ap (λ (m : List ℕ). take k (drop (suc j) m)) (sym (take-nil w))
    by (x ∷ l) (suc j) zero h = absurd (omega arith)
    by (x ∷ l) (suc j) (suc w) h = by l j w (omega arith)

-- the words from a place on, as they are lent
pub words_lent : (s : List ℕ) (at : ℕ) → take (at + rule_width - at) (drop at s) ≡ words_from s at
unfolding words_from
words_lent s at = let e : at + rule_width - at ≡ rule_width = omega arith in ap (λ (k : ℕ). take k (drop at s)) e

words_first : (s : List ℕ) (at : ℕ) → get_or (words_from s at) 0 0 ≡ get_or s at 0
unfolding words_from
words_first s at =
    let z : at + 0 ≡ at = omega arith in
    get_or-take rule_width (drop at s) 0 0 (omega arith) ∙ get_or-drop at s 0 0 ∙ ap (λ (k : ℕ). get_or s k 0) z

pub kept_lent : (s : List ℕ) (at : ℕ) → KeptAt s at → Kept (take (at + rule_width - at) (drop at s))
kept_lent s at k = rw (words_lent s at) k.words

run_words_lem : (s : List ℕ) (c : ℕ) → words_from s (c * row_width + run_at) ≡ run_words (container_row s c)
unfolding words_from run_words container_row
run_words_lem s c = inner s (c * row_width) row_width run_at rule_width (omega arith)

permit_words_lem : (s : List ℕ) (c : ℕ) → words_from s (c * row_width + permit_at) ≡ permit_words (container_row s c)
unfolding words_from permit_words container_row
permit_words_lem s c = inner s (c * row_width) row_width permit_at rule_width (omega arith)

user_words_lem : (s : List ℕ) (u : ℕ) → words_from s (users_at + u * user_width + user_rule_at) ≡ user_rule_words (user_row s u)
unfolding words_from user_rule_words user_row
user_words_lem s u = inner s (users_at + u * user_width) user_width user_rule_at rule_width (omega arith)

tag_read : (s : List ℕ) (c : ℕ) → get_or s (c * row_width + tag_at) 0 ≡ (row_of (container_row s c)).tag
unfolding row_of container_row
tag_read s c = sym (get_or-take row_width (drop (c * row_width) s) tag_at 0 (omega arith) ∙ get_or-drop (c * row_width) s tag_at 0)

behalf_read : (s : List ℕ) (c : ℕ) → get_or s (c * row_width + behalf_at) 0 ≡ (row_of (container_row s c)).behalf
unfolding row_of container_row
behalf_read s c = sym (get_or-take row_width (drop (c * row_width) s) behalf_at 0 (omega arith) ∙ get_or-drop (c * row_width) s behalf_at 0)

pub behalf_seen : (s : List ℕ) (c : ℕ) → c < container_limit → get_or s (c * row_width + behalf_at) 0 ≡ ((view s).row c).behalf
behalf_seen s c l = behalf_read s c ∙ ap (λ (w : Row). w.behalf) (sym (view_row s c l))

pub tag_seen : (s : List ℕ) (c : ℕ) → c < container_limit → get_or s (c * row_width + tag_at) 0 ≡ ((view s).row c).tag
tag_seen s c l = tag_read s c ∙ ap (λ (w : Row). w.tag) (sym (view_row s c l))

-- ---- a row in use

module _ (s : List ℕ) (c : ℕ) (h : UsedAt s c) where
  pub row_used : InUse (row_of (container_row s c))
  row_used = good_used (container_row s c) h.good h.used

  pub row_counts : (get_or (permit_words (container_row s c)) 0 0 ≤ mixture_limit) × (get_or (run_words (container_row s c)) 0 0 ≤ mixture_limit)
  row_counts = good_counts (container_row s c) h.good h.used

  pub row_long : length (container_row s c) ≡ row_width
  row_long = container_row_length s c h.long h.low

  permit_kept_words : permit_words (container_row s c) ≡ words_of (row_of (container_row s c)).permit
  permit_kept_words =
      ap permit_words (good_words (container_row s c) row_long h.good h.used)
      ∙ row_permit (row_of (container_row s c)) row_used.permit_short row_used.run_short

  -- another tag and run rule, as a row
  pub content_row : (t : ℕ) (r : List ℕ) (m : Bounded) → m ≡ bounded_of r
      → content_words (container_row s c) t m
      ≡ row_words (record {
        kind = (row_of (container_row s c)).kind;
        tag = t;
        permit = (row_of (container_row s c)).permit;
        run = r;
        behalf = (row_of (container_row s c)).behalf;
      })
  unfolding content_words bounded_words row_words row_of
  content_row t r m e = ap₂ (λ (x y : List ℕ). get_or (container_row s c) kind_at 0 ∷ t ∷ (x ++ (y ++ (get_or (container_row s c) behalf_at 0 ∷ [])))) permit_kept_words (bounded_words_lem r m e)

-- a new row, as a row
pub new_row : (k t : ℕ) (p r : List ℕ) (m n : Bounded) (b : ℕ) → m ≡ bounded_of p → n ≡ bounded_of r
    → new_words k t m n b ≡ row_words (record { kind = k; tag = t; permit = p; run = r; behalf = b })
unfolding new_words bounded_words row_words
new_row k t p r m n b e f = ap₂ (λ (x y : List ℕ). k ∷ t ∷ (x ++ (y ++ (b ∷ [])))) (bounded_words_lem p m e) (bounded_words_lem r n f)

-- ---- rules that are made

pub fits_short : (r : List ℕ) → fits r ≡ true → length r ≤ mixture_limit
unfolding fits
fits_short r h = leb-true (length r) mixture_limit h

-- a rule that fits, as it is answered
pub record Made (r : List ℕ) (m : Bounded) : Type 0 where
  pub small : fits r ≡ true
  pub said : m ≡ bounded_of r

pub made_some : (r : List ℕ) {o : Option Bounded} {m : Bounded} → o ≡ bounded_if_fits r → o ≡ Some m → Made r m
unfolding fits
made_some r e h = record { small = (bounded_some r e h).0; said = (bounded_some r e h).1 }

-- of one mixture
pub made_one : (r : List ℕ) (x : ℕ) {m : Bounded} → m ≡ bounded_of (x ∷ []) → x ∷ [] ≡ r → Made r m
unfolding fits
made_one r x e h = record { small = ap (λ (l : List ℕ). leb (length l) mixture_limit) (sym h); said = e ∙ ap bounded_of h }

-- and one that is known to be short
pub made_short : (r x : List ℕ) {m : Bounded} → m ≡ bounded_of x → x ≡ r → length x ≤ mixture_limit → Some m ≡ bounded_if_fits r
made_short r x e h l = ap Some (e ∙ ap bounded_of h) ∙ bounded_fits r (omega (arith, ap length h))

-- one that does not fit
pub made_none : (r : List ℕ) {o : Option Bounded} → o ≡ bounded_if_fits r → o ≡ None → fits r ≡ false
unfolding fits
made_none r e h = bounded_none r e h

-- whether one is there
pub made_told : (r : List ℕ) {o : Option Bounded} → o ≡ bounded_if_fits r → is_some o ≡ fits r
unfolding bounded_if_fits fits
made_told r e = ap is_some e ∙ by (leb (length r) mixture_limit)
  where
    by : (b : Bool) → is_some (cond b (Some (bounded_of r)) None) ≡ b
    by true = refl
    by false = refl

-- ---- rules as they are lent

permit_long : (row : List ℕ) → length row ≡ row_width → length (permit_words row) ≡ rule_width
unfolding permit_words
permit_long row l = omega (arith, length-take rule_width (drop permit_at row), length-drop permit_at row)

run_long : (row : List ℕ) → length row ≡ row_width → length (run_words row) ≡ rule_width
unfolding run_words
run_long row l = omega (arith, length-take rule_width (drop run_at row), length-drop run_at row)

rule_long : (row : List ℕ) → length row ≡ user_width → length (user_rule_words row) ≡ rule_width
unfolding user_rule_words
rule_long row l = omega (arith, length-take rule_width (drop user_rule_at row), length-drop user_rule_at row)

-- the words of a rule are such as `rule_of` takes
abbrev pub Readable : List ℕ → Type 0
Readable ws = (length ws ≡ rule_width) × (get_or ws 0 0 ≤ mixture_limit)

pub row_readable : (row : List ℕ) → length row ≡ row_width → get_or (permit_words row) 0 0 ≤ mixture_limit → Readable (permit_words row)
row_readable row l h = (permit_long row l, h)

pub kept_readable : (ws : List ℕ) → Kept ws → Readable ws
kept_readable ws k = (k.long, kept_count ws k.well)

-- ---- the rules that the session keeps, by their places

-- a rule that is kept at a place of the session is the rule r
pub record KeptAs (s : List ℕ) (at : ℕ) (r : List ℕ) : Type 0 where
  pub kept : KeptAt s at
  pub said : rule_of (words_from s at) ≡ r

pub permit_kept : (s : List ℕ) (c : ℕ) → UsedAt s c → KeptAs s (c * row_width + permit_at) ((view s).row c).permit
unfolding row_of
permit_kept s c h = record {
  kept = record {
    inside = omega (arith, h.long, h.low);
    words = rw (permit_words_lem s c) (record { long = permit_long (container_row s c) (row_long s c h); well = good_permit (container_row s c) h.good h.used });
  };
  said = ap rule_of (permit_words_lem s c) ∙ ap (λ (w : Row). w.permit) (sym (view_row s c h.low));
}

pub run_kept : (s : List ℕ) (c : ℕ) → UsedAt s c → KeptAs s (c * row_width + run_at) ((view s).row c).run
unfolding row_of
run_kept s c h = record {
  kept = record {
    inside = omega (arith, h.long, h.low);
    words = rw (run_words_lem s c) (record { long = run_long (container_row s c) (row_long s c h); well = good_run (container_row s c) h.good h.used });
  };
  said = ap rule_of (run_words_lem s c) ∙ ap (λ (w : Row). w.run) (sym (view_row s c h.low));
}

pub user_kept_as : (s : List ℕ) (u : ℕ) → DeclaredAt s u → KeptAs s (users_at + u * user_width + user_rule_at) (rule_or ((view s).user u))
unfolding user_rule_of
user_kept_as s u h = record {
  kept = record {
    inside = omega (arith, h.long, h.low);
    words = rw (user_words_lem s u) (record { long = rule_long (user_row s u) (user_row_length s u h.long h.low); well = user_kept (user_row s u) h.good h.declared });
  };
  said = ap rule_of (user_words_lem s u) ∙ sym (ap rule_or (view_user s u h.low) ∙ ap (λ (b : Bool). rule_or (cond b (some (user_rule_of (user_row s u))) none)) h.declared);
}

-- a rule copied, and a meet formed, by the places
pub copied : (s : List ℕ) (at : ℕ) (r : List ℕ) (m : Bounded) → KeptAs s at r → m ≡ bounded_of (rule_of (words_from s at)) → m ≡ bounded_of r
copied s at r m k e = e ∙ ap bounded_of k.said

pub met : (s : List ℕ) (x y : ℕ) (r v : List ℕ) → KeptAs s x r → KeptAs s y v → meet (rule_of (words_from s x)) (rule_of (words_from s y)) ≡ meet r v
met s x y r v k l = ap₂ meet k.said l.said

pub met_lent : (s : List ℕ) (x y : ℕ) (r v : List ℕ) {o : Option Bounded} → KeptAs s x r → KeptAs s y v
    → o ≡ bounded_if_fits (meet (rule_of (take (x + rule_width - x) (drop x s))) (rule_of (take (y + rule_width - y) (drop y s)))) → o ≡ bounded_if_fits (meet r v)
met_lent s x y r v k l e =
    e ∙ ap bounded_if_fits (ap₂ (λ (a b : List ℕ). meet (rule_of a) (rule_of b)) (words_lent s x) (words_lent s y) ∙ met s x y r v k l)

-- the run rule of a row in use has one mixture
pub run_single : (s : List ℕ) (c : ℕ) → UsedAt s c → get_or s (c * row_width + run_at) 0 ≡ 1 → (Kept (run_words (container_row s c))) × (get_or (run_words (container_row s c)) 0 0 ≡ 1)
run_single s c h e =
    (subst Kept (run_words_lem s c) (run_kept s c h).kept.words, ap (λ (ws : List ℕ). get_or ws 0 0) (sym (run_words_lem s c)) ∙ words_first s (c * row_width + run_at) ∙ e)

-- ---- the words of a rule, copied as they stand

-- the words behind the first
abbrev pub behind : List ℕ → List ℕ
behind ws = get_or ws 1 0 ∷ get_or ws 2 0 ∷ get_or ws 3 0 ∷ get_or ws 4 0 ∷ get_or ws 5 0 ∷ get_or ws 6 0 ∷ get_or ws 7 0 ∷ get_or ws 8 0 ∷ []

words_behind : (ws : List ℕ) → length ws ≡ rule_width → behind ws ≡ drop 1 ws
words_behind ws l =
    sym
    (drop-cons ws 1 0 (omega arith)
    ∙ ap (λ (x : List ℕ). get_or ws 1 0 ∷ x)
    (drop-cons ws 2 0 (omega arith)
    ∙ ap (λ (x : List ℕ). get_or ws 2 0 ∷ x)
    (drop-cons ws 3 0 (omega arith)
    ∙ ap (λ (x : List ℕ). get_or ws 3 0 ∷ x)
    (drop-cons ws 4 0 (omega arith)
    ∙ ap (λ (x : List ℕ). get_or ws 4 0 ∷ x)
    (drop-cons ws 5 0 (omega arith)
    ∙ ap (λ (x : List ℕ). get_or ws 5 0 ∷ x)
    (drop-cons ws 6 0 (omega arith)
    ∙ ap (λ (x : List ℕ). get_or ws 6 0 ∷ x)
    (drop-cons ws 7 0 (omega arith)
    ∙ ap (λ (x : List ℕ). get_or ws 7 0 ∷ x)
    (drop-cons ws 8 0 (omega arith)
    ∙ ap (λ (x : List ℕ). get_or ws 8 0 ∷ x) (drop_of_length-le ws {i = 9} (omega arith))))))))))

pub words_copied : (ws : List ℕ) → Kept ws
    → ◌≡◌ {A = Bounded} (record { count = get_or ws 0 0; mixtures = behind ws }) (bounded_of (rule_of ws))
unfolding words_of
words_copied ws k =
    bounded_is (rule_of ws) (rule_of ws) _ (get_or ws 0 0) refl
    (rule_length ws k.long (kept_count ws k.well))
    (words_behind ws k.long ∙ ap (drop 1) (kept_words ws k.long k.well))

-- ---- the meet of two rules

-- place by place, at all 8 places: what is unused in both stays 0
module _ (k : ℕ) where
  zeros_placewise : (j : ℕ) → ◌≡◌ {A = List ℕ} (placewise (replicate j 0) (replicate j 0)) (replicate j 0)
  unfolding placewise
  zeros_placewise zero = refl
  zeros_placewise (suc j) = ap (λ (x : List ℕ). 0 ∷ x) (zeros_placewise j)

  padded_placewise : (r v : List ℕ) → length r ≡ length v → placewise (r ++ replicate k 0) (v ++ replicate k 0) ≡ placewise r v ++ replicate k 0
  unfolding placewise
  padded_placewise [] [] e = zeros_placewise k
  padded_placewise [] (n ∷ v) e = absurd (omega arith)
  padded_placewise (m ∷ r) [] e = absurd (omega arith)
  padded_placewise (m ∷ r) (n ∷ v) e = ap (λ (x : List ℕ). bit_and m n ∷ x) (padded_placewise r v (omega arith))

-- the words behind the first of two rules, as they meet
abbrev pub both_behind : List ℕ → List ℕ → List ℕ
both_behind a b =
    bit_and (get_or a 1 0) (get_or b 1 0) ∷ bit_and (get_or a 2 0) (get_or b 2 0) ∷ bit_and (get_or a 3 0) (get_or b 3 0) ∷ bit_and (get_or a 4 0) (get_or b 4 0)
    ∷ bit_and (get_or a 5 0) (get_or b 5 0) ∷ bit_and (get_or a 6 0) (get_or b 6 0) ∷ bit_and (get_or a 7 0) (get_or b 7 0) ∷ bit_and (get_or a 8 0) (get_or b 8 0) ∷ []

module _ (a b : List ℕ) (k : Kept a) (l : Kept b) (e : length (rule_of a) ≡ length (rule_of b)) where
  both_behind_lem : both_behind a b ≡ placewise (behind a) (behind b)
  unfolding placewise
  both_behind_lem = refl

  behind_padded : (ws : List ℕ) → Kept ws → behind ws ≡ padded (rule_of ws)
  unfolding words_of
  behind_padded ws h = words_behind ws h.long ∙ ap (drop 1) (kept_words ws h.long h.well)

  both_padded : both_behind a b ≡ padded (placewise (rule_of a) (rule_of b))
  unfolding padded
  both_padded =
      both_behind_lem
      ∙ ap₂ placewise (behind_padded a k) (behind_padded b l ∙ ap (λ (n : ℕ). rule_of b ++ replicate (mixture_limit - n) 0) (sym e))
      ∙ padded_placewise (mixture_limit - length (rule_of a)) (rule_of a) (rule_of b) e
      ∙ ap (λ (n : ℕ). placewise (rule_of a) (rule_of b) ++ replicate (mixture_limit - n) 0) (sym (placewise_length (rule_of a) (rule_of b) e))

  pub words_met : ◌≡◌ {A = Bounded} (record { count = get_or a 0 0; mixtures = both_behind a b }) (bounded_of (placewise (rule_of a) (rule_of b)))
  words_met =
      bounded_is (placewise (rule_of a) (rule_of b)) (placewise (rule_of a) (rule_of b)) _ (get_or a 0 0) refl
      (placewise_length (rule_of a) (rule_of b) e ∙ rule_length a k.long (kept_count a k.well))
      both_padded

-- the tests, one after the other
module _ (r v : List ℕ) where
  pub lengths_differ : (length r ≡ length v → ⊥) → false ≡ meets_placewise r v
  unfolding meets_placewise
  lengths_differ n = sym (simp (ne_eqb (length r) (length v) n))

  module _ (e : length r ≡ length v) where
    pub met_within : within r v ≡ true → true ≡ meets_placewise r v
    unfolding meets_placewise
    met_within h = sym (simp (eq-eqb (length r) (length v) e, h))

    pub met_alike : within r v ≡ false → alike r v ≡ meets_placewise r v
    unfolding meets_placewise
    met_alike h = sym (simp (eq-eqb (length r) (length v) e, h))

  module _ (h : meets_placewise r v ≡ true) where
    pub equally_many : length r ≡ length v
    unfolding meets_placewise
    equally_many = eqb-true (length r) (length v) (and_0 (eqb (length r) (length v)) _ h)

    pub placewise_meet : normal r ≡ r → placewise r v ≡ meet r v
    unfolding meets_placewise
    placewise_meet n =
        ⊎_elim (λ w. within_meet r v n equally_many w) (λ a. alike_meet r v equally_many a) (or_cases (within r v) (and_1 (eqb (length r) (length v)) h))

module _ (a b : List ℕ) (k : Kept a) where
  pub meet_first : refines (rule_of a) (rule_of b) ≡ true → rule_of a ≡ meet (rule_of a) (rule_of b)
  meet_first h = refines_meet (rule_of a) (rule_of b) (kept_normal a k.well) h

  pub meet_second : refines (rule_of a) (rule_of b) ≡ true → rule_of a ≡ meet (rule_of b) (rule_of a)
  meet_second h = meet_first h ∙ meet_comm (rule_of a) (rule_of b)

-- rules of one mixture
meet_singles : (r v : List ℕ) (x y : ℕ) → r ≡ x ∷ [] → v ≡ y ∷ [] → bit_and x y ∷ [] ≡ meet r v
meet_singles r v x y e f = meet_one (x ∷ []) (y ∷ []) refl refl ∙ sym (ap₂ meet e f)

single_rule : (s : List ℕ) (at : ℕ) → KeptAt s at → get_or s at 0 ≡ 1 → rule_of (words_from s at) ≡ get_or s (at + 1) 0 ∷ []
unfolding rule_of words_from
single_rule s at k e =
    let w : List ℕ = take rule_width (drop at s) in
    let l : length w ≡ rule_width = k.words.long in
    let f : get_or w 0 0 ≡ 1 = words_first s at ∙ e in
    let g : get_or w 1 0 ≡ get_or s (at + 1) 0 = get_or-take rule_width (drop at s) 1 0 (omega arith) ∙ get_or-drop at s 1 0 in
    ap (λ (k : ℕ). take k (drop 1 w)) f ∙ ap (take 1) (drop-cons w 1 0 (omega arith)) ∙ ap (λ (x : ℕ). x ∷ []) g

-- the words of a rule of one mixture
single_words : (ws : List ℕ) → Kept ws → get_or ws 0 0 ≡ 1 → ws ≡ 1 ∷ get_or ws 1 0 ∷ 0 ∷ 0 ∷ 0 ∷ 0 ∷ 0 ∷ 0 ∷ 0 ∷ []
unfolding words_of padded rule_of
single_words ws k e =
    kept_words ws k.long k.well
    ∙ ap words_of (ap (λ (n : ℕ). take n (drop 1 ws)) e ∙ ap (take 1) (drop-cons ws 1 0 (omega (arith, k.long))))

module _ (s : List ℕ) (x y : ℕ) (h : (eqb (get_or s x 0) 1 && eqb (get_or s y 0) 1) ≡ true) where
  pub single_first : get_or s x 0 ≡ 1
  single_first = eqb-true (get_or s x 0) 1 (and_0 (eqb (get_or s x 0) 1) _ h)

  pub meet_single : KeptAt s x → KeptAt s y → bit_and (get_or s (x + 1) 0) (get_or s (y + 1) 0) ∷ [] ≡ meet (rule_of (words_from s x)) (rule_of (words_from s y))
  meet_single k l = meet_singles _ _ _ _ (single_rule s x k single_first) (single_rule s y l (eqb-true (get_or s y 0) 1 (and_1 (eqb (get_or s x 0) 1) h)))

-- the number behind the words of two rules
last_alone : (row : List ℕ) → length row ≡ rule_width + rule_width + 1 → drop rule_width (drop rule_width row) ≡ get_or row (rule_width + rule_width) 0 ∷ []
last_alone row l =
    drop-drop rule_width rule_width row
    ∙ drop-cons row (rule_width + rule_width) 0 (omega arith)
    ∙ ap (λ (x : List ℕ). get_or row (rule_width + rule_width) 0 ∷ x) (drop_of_length-le row {i = rule_width + rule_width + 1} (omega arith))

-- ---- a row with another tag and run rule

module _ (row : List ℕ) (t : ℕ) (l : length row ≡ row_width) where
  pub content_put : (ws : List ℕ) (m : Bounded) → ws ≡ m.count ∷ m.mixtures → put_mid run_at rule_width (set row tag_at t) ws ≡ content_words row t m
  unfolding content_words bounded_words permit_words
  content_put ws m e = by row l
    where
      by : (row : List ℕ) → length row ≡ row_width
          → put_mid run_at rule_width (set row tag_at t) ws ≡ get_or row kind_at 0 ∷ t ∷ (take rule_width (drop permit_at row) ++ ((m.count ∷ m.mixtures) ++ (get_or row behalf_at 0 ∷ [])))
      by [] l = absurd (omega arith)
      by (a ∷ []) l = absurd (omega arith)
      by (a ∷ b ∷ row) l =
          ap₂ (λ (x y : List ℕ). a ∷ t ∷ (take rule_width row ++ (x ++ y))) e (last_alone row (omega arith))

  -- where the run rule has one mixture, only that one changes
  pub single_put : (m : ℕ) → Kept (run_words row) → get_or (run_words row) 0 0 ≡ 1 → set (set row tag_at t) (run_at + 1) m ≡ content_words row t (bounded_of (m ∷ []))
  unfolding content_words bounded_words permit_words run_words bounded_of padded
  single_put m k e = by row l k e
    where
      by : (row : List ℕ) → length row ≡ row_width → Kept (take rule_width (drop run_at row)) → get_or (take rule_width (drop run_at row)) 0 0 ≡ 1
          → set (set row tag_at t) (run_at + 1) m ≡ get_or row kind_at 0 ∷ t ∷ (take rule_width (drop permit_at row) ++ (1 ∷ m ∷ 0 ∷ 0 ∷ 0 ∷ 0 ∷ 0 ∷ 0 ∷ 0 ∷ get_or row behalf_at 0 ∷ []))
      by [] l k e = absurd (omega arith)
      by (a ∷ []) l k e = absurd (omega arith)
      by (a ∷ b ∷ row) l k e =
          let p : List ℕ = take rule_width row in
          let z : List ℕ = 0 ∷ 0 ∷ 0 ∷ 0 ∷ 0 ∷ 0 ∷ 0 ∷ get_or row (rule_width + rule_width) 0 ∷ [] in
          let x : ℕ = get_or (take rule_width (drop rule_width row)) 1 0 in
          let f : row ≡ (p ++ (1 ∷ [])) ++ (x ∷ z) =
          sym (take-append-drop rule_width row)
          ∙ ap (λ (y : List ℕ). p ++ y)
          (sym (take-append-drop rule_width (drop rule_width row))
          ∙ ap₂ (λ (u v : List ℕ). u ++ v) (single_words (take rule_width (drop rule_width row)) k e) (last_alone row (omega arith)))
          ∙ sym (append_assoc p (1 ∷ []) (x ∷ z)) in
          let n : length (p ++ (1 ∷ [])) ≡ 10 = length-append p (1 ∷ []) ∙ omega (arith, length-take rule_width row) in
          ap (λ (y : List ℕ). a ∷ t ∷ y) (ap (λ (y : List ℕ). set y 10 m) f ∙ set_at (p ++ (1 ∷ [])) x z m 10 n ∙ append_assoc p (1 ∷ []) (m ∷ z))

  module _ (m : Bounded) where
    content_permit : permit_words (content_words row t m) ≡ permit_words row
    content_permit = unfold content_words in (by (permit_words row) (permit_long row l))
      where
        by : (p : List ℕ) → length p ≡ rule_width → permit_words (get_or row kind_at 0 ∷ t ∷ (p ++ (bounded_words m ++ (get_or row behalf_at 0 ∷ [])))) ≡ p
        by p e = unfold permit_words in (take_at p (bounded_words m ++ (get_or row behalf_at 0 ∷ [])) rule_width e)

    content_length : length m.mixtures ≡ mixture_limit → length (content_words row t m) ≡ row_width
    unfolding content_words bounded_words
    content_length k =
        omega (arith, length-append (permit_words row) ((m.count ∷ m.mixtures) ++ (get_or row behalf_at 0 ∷ [])), length-append (m.count ∷ m.mixtures) (get_or row behalf_at 0 ∷ []), permit_long row l)

    content_tag : (row_of (content_words row t m)).tag ≡ t
    unfolding row_of content_words
    content_tag = refl

    content_said : (row_of (content_words row t m)).permit ≡ (row_of row).permit
    unfolding row_of
    content_said = ap rule_of content_permit

    module _ (row₁ : List ℕ) (e : row₁ ≡ content_words row t m) where
      pub content_long : length m.mixtures ≡ mixture_limit → length row₁ ≡ length row
      content_long k = ap length e ∙ content_length k ∙ sym l

      pub content_judged : length m.mixtures ≡ mixture_limit → get_or (permit_words row) 0 0 ≤ mixture_limit → (length row₁ ≡ row_width) × (get_or (permit_words row₁) 0 0 ≤ mixture_limit)
      content_judged k h = rw e (content_length k, rw content_permit h)

      pub content_answer : (c : ℕ) (a : Answer) → a ≡ cover_answer c (row_of row₁).permit (row_of row₁).tag → a ≡ cover_answer c (row_of row).permit t
      content_answer c a f = f ∙ ap (λ (x : List ℕ). cover_answer c (row_of x).permit (row_of x).tag) e ∙ ap₂ (λ (x : List ℕ) (y : ℕ). cover_answer c x y) content_said content_tag

-- ---- a new row

module _ (k t : ℕ) (p m : Bounded) (b : ℕ) (lp : length p.mixtures ≡ mixture_limit) where
  new_permit : permit_words (new_words k t p m b) ≡ bounded_words p
  unfolding permit_words new_words
  new_permit = take_at (bounded_words p) (bounded_words m ++ (b ∷ [])) rule_width (unfold bounded_words in (ap suc lp))

  new_length : length m.mixtures ≡ mixture_limit → length (new_words k t p m b) ≡ row_width
  unfolding new_words bounded_words
  new_length lm =
      omega (arith, length-append (p.count ∷ p.mixtures) ((m.count ∷ m.mixtures) ++ (b ∷ [])), length-append (m.count ∷ m.mixtures) (b ∷ []))

  new_tag : (row_of (new_words k t p m b)).tag ≡ t
  unfolding row_of new_words
  new_tag = refl

  new_said : (row_of (new_words k t p m b)).permit ≡ take p.count p.mixtures
  unfolding row_of
  new_said = ap rule_of new_permit ∙ unfold rule_of bounded_words in refl

  module _ (row₁ : List ℕ) (e : row₁ ≡ new_words k t p m b) where
    pub new_judged : length m.mixtures ≡ mixture_limit → p.count ≤ mixture_limit → (length row₁ ≡ row_width) × (get_or (permit_words row₁) 0 0 ≤ mixture_limit)
    unfolding bounded_words
    new_judged lm h = rw e (new_length lm, rw new_permit h)

    pub new_answer : (c : ℕ) (a : Answer) → a ≡ cover_answer c (row_of row₁).permit (row_of row₁).tag → a ≡ cover_answer c (take p.count p.mixtures) t
    new_answer c a f = f ∙ ap (λ (x : List ℕ). cover_answer c (row_of x).permit (row_of x).tag) e ∙ ap₂ (λ (x : List ℕ) (y : ℕ). cover_answer c x y) new_said new_tag

-- ---- whether the permit rule covers the tag

-- the place of a mixture is a small number
pub judged_small : (row rule : List ℕ) (k t : ℕ) → Readable (permit_words row) → rule ≡ rule_of (permit_words row) → k ≡ cover_place rule t → k < 256
judged_small row rule k t h e f =
    let l : length rule ≤ mixture_limit = rw e (omega (arith, h.1, rule_length (permit_words row) h.0 h.1)) in
    omega (arith, f, place_limit rule t (omega arith))

pub judged_by : (row rule : List ℕ) (c k : ℕ) (v : Verdict) → Readable (permit_words row) → rule ≡ rule_of (permit_words row)
    → k ≡ cover_place rule (get_or row tag_at 0) → v ≡ cover_verdict (not (eqb k no_position))
    → ◌≡◌ {A = Answer} (Given v (received c (get_or row tag_at 0) k)) (cover_answer c (row_of row).permit (row_of row).tag)
unfolding cover_answer row_of
judged_by row rule c k v h e f g =
    let place : k ≡ cover_place (rule_of (permit_words row)) (get_or row tag_at 0) = f ∙ ap (λ (x : List ℕ). cover_place x (get_or row tag_at 0)) e in
    let covered = place_tells (rule_of (permit_words row)) (get_or row tag_at 0) (omega (arith, h.1, rule_length (permit_words row) h.0 h.1)) k place in
    ap₂ (λ (x : Verdict) (y : ℕ). Given x (received c (get_or row tag_at 0) y)) (g ∙ ap cover_verdict covered) place
