-- A text is judged line by line, from the lines that are left, whether one is inside a profile, and the paths profiled so far.
use Prim.Native.Nat.{ℕ, ◌+◌, ◌≤◌, ◌<◌}
use mathlib.Core.Path.{◌≡◌, refl, ap, ◌∙◌}
use mathlib.Core.Bool.{Bool, true, false, not, cond, ◌&&◌, ◌||◌}
use mathlib.Core.List.{List, [], ◌∷◌, ◌++◌, map}
use mathlib.Core.Option.{Option, none, some}
use native.Mathlib.Omega.{arith}
use lib.Dec.{eqb}
use lib.ListN.{length, drop, length-append, length-drop, drop_of_length-le}
use borrow.Author.Tests.{eqb-true, eq-eqb, ne_eqb}
use Rattle.lists.specs.Lists.{every, joined, same_list, known, known_by}
use Rattle.lists.proofs.Bools.{same_test}
use Rattle.lists.proofs.Same.{same_refl, same_eq}
use Rattle.lists.proofs.Every.{every_all}
use Rattle.profiles.specs.Profiles.{PathEntry, Profile}
use Rattle.profiles.specs.Reading.{Line, opens, enters, closes, line_text, line_in, lines_in, lines_text, Parsed, outside, inside, broken, behind_line, parsed, profiles_of, reading_of}
use Rattle.profiles.specs.Texts.{no_repeat, profiled_once, reads_well}
use Rattle.profiles.proofs.TokenLaws.{tokens_stop}
use Rattle.profiles.proofs.ProfileLines.{and-false, line_front}
use Rattle.profiles.proofs.LineScans.{starts_room, lines_more}
use Rattle.profiles.proofs.ReadingLaws.{no_line_left}

-- ---- paths that are not repeated, from the left

-- no path is among those seen or those before it
unfoldable pub once_behind : List (List ℕ) → List (List ℕ) → Bool
once_behind seen [] = true
once_behind seen (p ∷ ps) = not (known p seen) && once_behind (seen ++ (p ∷ [])) ps

same_sym : (a b : List ℕ) → same_list a b ≡ same_list b a
same_sym a b =
    same_test (same_list a b) (same_list b a)
    (λ h. ap (λ (x : List ℕ). same_list b x) (same_eq a b h) ∙ same_refl b)
    (λ h. ap (λ (x : List ℕ). same_list a x) (same_eq b a h) ∙ same_refl a)

among_more : (q p : List ℕ) (seen : List (List ℕ)) → known q (seen ++ (p ∷ [])) ≡ (known q seen || same_list p q)
unfolding known_by
among_more q p [] = by (same_list q p) (same_sym q p)
  where
    by : (b : Bool) → b ≡ same_list p q → (b || false) ≡ same_list p q
    by true h = h
    by false h = h
among_more q p (r ∷ seen) = by (same_list q r) (among_more q p seen)
  where
    by : (b : Bool) → known q (seen ++ (p ∷ [])) ≡ (known q seen || same_list p q) → (b || known q (seen ++ (p ∷ []))) ≡ ((b || known q seen) || same_list p q)
    by true h = refl
    by false h = h

apart : (seen : List (List ℕ)) (p : List ℕ) (ps : List (List ℕ)) → every (λ q. not (known q (seen ++ (p ∷ [])))) ps ≡ (every (λ q. not (known q seen)) ps && not (known p ps))
unfolding every known_by
apart seen p [] = refl
apart seen p (q ∷ ps) = rw (among_more q p seen, apart seen p ps) (by (known q seen) (same_list p q) (every (λ q. not (known q seen)) ps) (known p ps))
  where
    by : (a b c d : Bool) → (not (a || b) && (c && not d)) ≡ ((not a && c) && not (b || d))
    by true b c d = refl
    by false true true d = refl
    by false true false d = refl
    by false false c d = refl

once_behind_lem : (seen ps : List (List ℕ)) → once_behind seen ps ≡ (every (λ q. not (known q seen)) ps && no_repeat ps)
unfolding once_behind every no_repeat
once_behind_lem seen [] = refl
once_behind_lem seen (p ∷ ps) =
    rw (once_behind_lem (seen ++ (p ∷ [])) ps, apart seen p ps) (by (not (known p seen)) (every (λ q. not (known q seen)) ps) (not (known p ps)) (no_repeat ps))
  where
    by : (a b c d : Bool) → (a && ((b && c) && d)) ≡ ((a && b) && (c && d))
    by true true c d = refl
    by true false c d = refl
    by false b c d = refl

pub once_from_none : (ps : List (List ℕ)) → once_behind [] ps ≡ no_repeat ps
unfolding known_by
once_from_none ps = once_behind_lem [] ps ∙ ap (λ (b : Bool). b && no_repeat ps) (every_all (λ q. not (known q [])) ps (λ q. refl))

-- ---- lines judged from the left

unfoldable pub lines_judged : List (List ℕ) → Bool → List Line → Bool
lines_judged seen b [] = not b
lines_judged seen b (opens p ∷ ls) = not b && (not (known p seen) && lines_judged (seen ++ (p ∷ [])) true ls)
lines_judged seen b (enters e ∷ ls) = b && lines_judged seen true ls
lines_judged seen b (closes ∷ ls) = b && lines_judged seen false ls

-- what they are put together into
unfoldable pub well_from : List (List ℕ) → Bool → Parsed → Bool
well_from seen false (outside ps) = once_behind seen (map (λ p. p.path) ps)
well_from seen false (inside es ps) = false
well_from seen false broken = false
well_from seen true (outside ps) = false
well_from seen true (inside es ps) = once_behind seen (map (λ p. p.path) ps)
well_from seen true broken = false

judged_line : (l : Line) (ls : List Line) (r : Parsed) (seen : List (List ℕ)) (b : Bool)
    → ((s : List (List ℕ)) (c : Bool) → lines_judged s c ls ≡ well_from s c r) → lines_judged seen b (l ∷ ls) ≡ well_from seen b (behind_line l r)
unfolding lines_judged well_from behind_line once_behind
judged_line (opens p) ls (outside ps) seen true ih = refl
judged_line (opens p) ls (outside ps) seen false ih = rw (ih (seen ++ (p ∷ [])) true) (and-false (not (known p seen)))
judged_line (opens p) ls (inside es ps) seen true ih = refl
judged_line (opens p) ls (inside es ps) seen false ih = rw (ih (seen ++ (p ∷ [])) true)
judged_line (opens p) ls broken seen true ih = refl
judged_line (opens p) ls broken seen false ih = rw (ih (seen ++ (p ∷ [])) true) (and-false (not (known p seen)))
judged_line (enters e) ls (outside ps) seen true ih = ih seen true
judged_line (enters e) ls (outside ps) seen false ih = refl
judged_line (enters e) ls (inside es ps) seen true ih = ih seen true
judged_line (enters e) ls (inside es ps) seen false ih = refl
judged_line (enters e) ls broken seen true ih = ih seen true
judged_line (enters e) ls broken seen false ih = refl
judged_line closes ls (outside ps) seen true ih = ih seen false
judged_line closes ls (outside ps) seen false ih = refl
judged_line closes ls (inside es ps) seen true ih = ih seen false
judged_line closes ls (inside es ps) seen false ih = refl
judged_line closes ls broken seen true ih = ih seen false
judged_line closes ls broken seen false ih = refl

judged_parsed : (ls : List Line) (seen : List (List ℕ)) (b : Bool) → lines_judged seen b ls ≡ well_from seen b (parsed ls)
unfolding lines_judged well_from parsed once_behind
judged_parsed [] seen true = refl
judged_parsed [] seen false = refl
judged_parsed (l ∷ ls) seen b = judged_line l ls (parsed ls) seen b (λ s c. judged_parsed ls s c)

well_read : (r : Parsed) → well_from [] false r ≡ reads_well (profiles_of r)
unfolding well_from reads_well profiles_of profiled_once
well_read (outside ps) = once_from_none (map (λ p. p.path) ps)
well_read (inside es ps) = refl
well_read broken = refl

-- ---- the text from a place on

-- the lines from the place on leave no byte, and are judged so
unfoldable pub left_good : List ℕ → List (List ℕ) → Bool → ℕ → Bool
left_good t seen b at = eqb (length (lines_text (lines_in (drop at t)))) (length (drop at t)) && lines_judged seen b (lines_in (drop at t))

pub left_whole : (t : List ℕ) → left_good t [] false 0 ≡ reads_well (reading_of t)
unfolding left_good reading_of reads_well
left_whole t =
    ap (λ (b : Bool). eqb (length (lines_text (lines_in t))) (length t) && b) (judged_parsed (lines_in t) [] false ∙ well_read (parsed (lines_in t)))
    ∙ by (eqb (length (lines_text (lines_in t))) (length t)) (profiles_of (parsed (lines_in t)))
  where
    by : (b : Bool) (o : Option (List Profile)) → (b && reads_well o) ≡ reads_well (cond b o none)
    by true o = refl
    by false o = refl

module _ (t : List ℕ) (seen : List (List ℕ)) (b : Bool) (at : ℕ) where
  pub left_end : length t ≤ at → left_good t seen b at ≡ not b
  unfolding left_good lines_in lines_text joined lines_judged
  left_end l = rw (drop_of_length-le t l, tokens_stop line_in line_text [] no_line_left)

  pub left_none : at < length t → line_in (drop at t) ≡ none → left_good t seen b at ≡ false
  unfolding left_good lines_in lines_text joined
  left_none l e = rw (tokens_stop line_in line_text (drop at t) e) (rw (ne_eqb 0 (length (drop at t)) (λ z. omega (arith, length-drop at t))))

  module _ (l : Line) (i : at < length t) (e : line_in (drop at t) ≡ some l) where
    line_room : at + length (line_text l) ≤ length t
    line_room = starts_room (line_text l) t at (line_front (drop at t) l e) (omega arith)

    same_end : eqb (length (lines_text (l ∷ lines_in (drop (at + length (line_text l)) t)))) (length (drop at t))
        ≡ eqb (length (lines_text (lines_in (drop (at + length (line_text l)) t)))) (length (drop (at + length (line_text l)) t))
    unfolding lines_text joined
    same_end =
        let next = at + length (line_text l) in
        let w = lines_text (lines_in (drop next t)) in
        let n = length-append (line_text l) w in
        same_test (eqb (length (line_text l ++ w)) (length (drop at t))) (eqb (length w) (length (drop next t)))
        (λ h. eq-eqb (length w) (length (drop next t)) (omega (arith, eqb-true (length (line_text l ++ w)) (length (drop at t)) h, n, length-drop at t, length-drop next t, line_room)))
        (λ h. eq-eqb (length (line_text l ++ w)) (length (drop at t)) (omega (arith, eqb-true (length w) (length (drop next t)) h, n, length-drop at t, length-drop next t, line_room)))

    pub left_line : left_good t seen b at
        ≡ (eqb (length (lines_text (lines_in (drop (at + length (line_text l)) t)))) (length (drop (at + length (line_text l)) t)) && lines_judged seen b
        (l ∷ lines_in (drop (at + length (line_text l)) t)))
    unfolding left_good
    left_line =
        ap (λ (ls : List Line). eqb (length (lines_text ls)) (length (drop at t)) && lines_judged seen b ls) (lines_more t at l i e)
        ∙ ap (λ (c : Bool). c && lines_judged seen b (l ∷ lines_in (drop (at + length (line_text l)) t))) same_end

-- ---- one line of the text more

module _ (t : List ℕ) (seen : List (List ℕ)) (at : ℕ) (i : at < length t) where
  -- whether all that stands behind this line is lines
  abbrev behind_whole : Line → Bool
  behind_whole l = eqb (length (lines_text (lines_in (drop (at + length (line_text l)) t)))) (length (drop (at + length (line_text l)) t))

  module _ (p : List ℕ) (e : line_in (drop at t) ≡ some (opens p)) where
    pub profile_inside : left_good t seen true at ≡ false
    unfolding lines_judged
    profile_inside = left_line t seen true at (opens p) i e ∙ and-false (behind_whole (opens p))

    pub profile_again : known p seen ≡ true → left_good t seen false at ≡ false
    unfolding lines_judged
    profile_again h = left_line t seen false at (opens p) i e ∙ rw h (and-false (behind_whole (opens p)))

    pub profile_new : known p seen ≡ false → left_good t seen false at ≡ left_good t (seen ++ (p ∷ [])) true (at + length (line_text (opens p)))
    unfolding lines_judged left_good
    profile_new h = left_line t seen false at (opens p) i e ∙ rw h

  module _ (x : PathEntry) (e : line_in (drop at t) ≡ some (enters x)) where
    pub entry_outside : left_good t seen false at ≡ false
    unfolding lines_judged
    entry_outside = left_line t seen false at (enters x) i e ∙ and-false (behind_whole (enters x))

    pub entry_inside : left_good t seen true at ≡ left_good t seen true (at + length (line_text (enters x)))
    unfolding lines_judged left_good
    entry_inside = left_line t seen true at (enters x) i e

  module _ (e : line_in (drop at t) ≡ some closes) where
    pub end_outside : left_good t seen false at ≡ false
    unfolding lines_judged
    end_outside = left_line t seen false at closes i e ∙ and-false (behind_whole closes)

    pub end_inside : left_good t seen true at ≡ left_good t seen false (at + length (line_text closes))
    unfolding lines_judged left_good
    end_inside = left_line t seen true at closes i e
