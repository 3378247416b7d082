-- The text of profiles is the text of their lines, and lines are put together into the profiles whose lines they are.
use Prim.Native.Nat.{ℕ}
use mathlib.Core.Path.{◌≡◌, refl, sym, ap, ◌∙◌, subst}
use mathlib.Core.Bool.{Bool, true, false, cond, ◌&&◌}
use mathlib.Core.List.{List, [], ◌∷◌, ◌++◌, append_assoc, append-nil}
use mathlib.Core.Option.{Option, none, some}
use native.Mathlib.Omega.{arith}
use lib.Dec.{eqb}
use lib.ListN.{length, drop, length-append, drop_of_length-le}
use borrow.Author.Tests.{eqb-true, eq-eqb}
use Rattle.lists.specs.Lists.{every, joined}
use Rattle.lists.proofs.Bools.{and_in, and_0, and_1}
use Rattle.lists.proofs.Every.{every_0, every_1, every_nil, every_cons}
use Rattle.lists.proofs.Places.{some_inj, none_some}
use Rattle.profiles.specs.Profiles.{PathEntry, Profile, entries_text, text_of_one, text_of, entry_good, profile_good, profile_line, entry_line, end_line, path_good}
use Rattle.profiles.specs.Grammar.{Grammar}
use Rattle.profiles.specs.Reading.{Line, opens, enters, closes, line_text, line_good, entry_lines, lines_of, line_in, lines_in}
use Rattle.profiles.specs.Reading.{lines_text, Parsed, outside, inside, broken, behind_line, parsed, profiles_of, reading_of}
use Rattle.profiles.proofs.TokenLaws.{starts_split}
use Rattle.profiles.proofs.ProfileLines.{lines_front, lines_good, lines_back, line_front, line_long}

-- ---- the text by lines

entries_lines : (es : List PathEntry) (ls : List Line) → entries_text es ++ lines_text ls ≡ lines_text (entry_lines es ls)
unfolding entries_text lines_text entry_lines joined line_text
entries_lines [] ls = refl
entries_lines (e ∷ es) ls =
    append_assoc (entry_line e) (entries_text es) (lines_text ls) ∙ ap (λ (t : List ℕ). entry_line e ++ t) (entries_lines es ls)

pub text_lines : (ps : List Profile) → text_of ps ≡ lines_text (lines_of ps)
unfolding text_of text_of_one lines_text lines_of joined line_text
text_lines [] = refl
text_lines (p ∷ ps) =
    append_assoc (profile_line p.path) (entries_text p.entries ++ end_line) (text_of ps)
    ∙ ap (λ (t : List ℕ). profile_line p.path ++ t)
    (append_assoc (entries_text p.entries) end_line (text_of ps)
    ∙ ap (λ (t : List ℕ). entries_text p.entries ++ (end_line ++ t)) (text_lines ps)
    ∙ entries_lines p.entries (closes ∷ lines_of ps))

-- ---- good profiles have good lines

entry_lines_good : (es : List PathEntry) (ls : List Line) → every entry_good es ≡ true → every line_good ls ≡ true → every line_good (entry_lines es ls) ≡ true
unfolding entry_lines line_good
entry_lines_good [] ls h k = k
entry_lines_good (e ∷ es) ls h k = every_cons line_good (enters e) (entry_lines es ls) (every_0 entry_good e es h) (entry_lines_good es ls (every_1 entry_good e es h) k)

pub lines_of_good : (ps : List Profile) → every profile_good ps ≡ true → every line_good (lines_of ps) ≡ true
unfolding lines_of profile_good line_good
lines_of_good [] h = every_nil line_good
lines_of_good (p ∷ ps) h =
    let g : (path_good p.path && every entry_good p.entries) ≡ true = every_0 profile_good p ps h in
    every_cons line_good (opens p.path) (entry_lines p.entries (closes ∷ lines_of ps)) (and_0 (path_good p.path) (every entry_good p.entries) g)
    (entry_lines_good p.entries (closes ∷ lines_of ps) (and_1 (path_good p.path) g) (every_cons line_good closes (lines_of ps) refl (lines_of_good ps (every_1 profile_good p ps h))))

entries_good_back : (es : List PathEntry) (ls : List Line) → every line_good (entry_lines es ls) ≡ true → (every entry_good es ≡ true) × (every line_good ls ≡ true)
unfolding entry_lines line_good
entries_good_back [] ls h = (every_nil entry_good, h)
entries_good_back (e ∷ es) ls h =
    let g = entries_good_back es ls (every_1 line_good (enters e) (entry_lines es ls) h) in
    (every_cons entry_good e es (every_0 line_good (enters e) (entry_lines es ls) h) g.0, g.1)

profiles_good_back : (ps : List Profile) → every line_good (lines_of ps) ≡ true → every profile_good ps ≡ true
unfolding lines_of profile_good line_good
profiles_good_back [] h = every_nil profile_good
profiles_good_back (p ∷ ps) h =
    let ls = entry_lines p.entries (closes ∷ lines_of ps) in
    let g = entries_good_back p.entries (closes ∷ lines_of ps) (every_1 line_good (opens p.path) ls h) in
    every_cons profile_good p ps (and_in (every_0 line_good (opens p.path) ls h) g.0) (profiles_good_back ps (every_1 line_good closes (lines_of ps) g.1))

-- ---- lines put together

entries_parsed : (es : List PathEntry) (ps : List Profile) (ls : List Line) → parsed ls ≡ inside [] ps → parsed (entry_lines es ls) ≡ inside es ps
unfolding entry_lines parsed behind_line
entries_parsed [] ps ls h = h
entries_parsed (e ∷ es) ps ls h = ap (behind_line (enters e)) (entries_parsed es ps ls h)

pub lines_parsed : (ps : List Profile) → parsed (lines_of ps) ≡ outside ps
unfolding lines_of parsed behind_line
lines_parsed [] = refl
lines_parsed (p ∷ ps) =
    ap (behind_line (opens p.path)) (entries_parsed p.entries ps (closes ∷ lines_of ps) (ap (behind_line closes) (lines_parsed ps)))

-- the lines are those of what they are put together into
abbrev pub LinesAre : List Line → Parsed → Type 0
LinesAre ls (outside ps) = lines_of ps ≡ ls
LinesAre ls (inside es ps) = entry_lines es (closes ∷ lines_of ps) ≡ ls
LinesAre ls broken = Unit {0}

behind_are : (l : Line) (r : Parsed) (ls : List Line) → LinesAre ls r → LinesAre (l ∷ ls) (behind_line l r)
unfolding behind_line lines_of entry_lines
behind_are (opens p) (outside ps) ls h = tt
behind_are (opens p) (inside es ps) ls h = ap (λ (ms : List Line). opens p ∷ ms) h
behind_are (opens p) broken ls h = tt
behind_are (enters e) (outside ps) ls h = tt
behind_are (enters e) (inside es ps) ls h = ap (λ (ms : List Line). enters e ∷ ms) h
behind_are (enters e) broken ls h = tt
behind_are closes (outside ps) ls h = ap (λ (ms : List Line). closes ∷ ms) h
behind_are closes (inside es ps) ls h = tt
behind_are closes broken ls h = tt

pub parsed_are : (ls : List Line) → LinesAre ls (parsed ls)
unfolding parsed lines_of
parsed_are [] = refl
parsed_are (l ∷ ls) = behind_are l (parsed ls) ls (parsed_are ls)

-- ---- the reader

pub no_line_left : line_in [] ≡ none
no_line_left = by (line_in []) refl
  where
    by : (o : Option Line) → line_in [] ≡ o → o ≡ none
    by none e = refl
    by (some l) e = absurd (omega (arith, ap length (starts_split (line_text l) [] (line_front [] l e)), length-append (line_text l) (drop (length (line_text l)) []), line_long l))

profiles_outside : (r : Parsed) (ps : List Profile) → profiles_of r ≡ some ps → r ≡ outside ps
unfolding profiles_of
profiles_outside (outside qs) ps h = ap outside (some_inj h)
profiles_outside (inside es qs) ps h = absurd (none_some h)
profiles_outside broken ps h = absurd (none_some h)

outside_are : (ls : List Line) (ps : List Profile) → parsed ls ≡ outside ps → lines_of ps ≡ ls
outside_are ls ps h = subst (LinesAre ls) h (parsed_are ls)

whole_read : (t : List ℕ) → length (lines_text (lines_in t)) ≡ length t → lines_text (lines_in t) ≡ t
whole_read t e =
    sym (append-nil (lines_text (lines_in t)))
    ∙ ap (λ (r : List ℕ). lines_text (lines_in t) ++ r) (sym (drop_of_length-le t {i = length (lines_text (lines_in t))} (omega arith)))
    ∙ starts_split (lines_text (lines_in t)) t (lines_front t)

-- what is read is of the grammar
pub print_read : (t : List ℕ) (ps : List Profile) → reading_of t ≡ some ps → Grammar t ps
unfolding reading_of
print_read t ps h = by (eqb (length (lines_text (lines_in t))) (length t)) refl h
  where
    from : length (lines_text (lines_in t)) ≡ length t → lines_of ps ≡ lines_in t → Grammar t ps
    from e q = (
      text_lines ps ∙ ap lines_text q ∙ whole_read t e,
      profiles_good_back ps (ap (every line_good) q ∙ lines_good t),
    )

    by : (b : Bool) → eqb (length (lines_text (lines_in t))) (length t) ≡ b → cond b (profiles_of (parsed (lines_in t))) none ≡ some ps → Grammar t ps
    by true e h = from (eqb-true (length (lines_text (lines_in t))) (length t) e) (outside_are (lines_in t) ps (profiles_outside (parsed (lines_in t)) ps h))
    by false e h = absurd (none_some h)

-- the lines of a text are those of its profiles
pub lines_read : (t : List ℕ) (ps : List Profile) → Grammar t ps → lines_in t ≡ lines_of ps
lines_read t ps (e, g) =
    ap lines_in (sym e ∙ text_lines ps ∙ sym (append-nil (lines_text (lines_of ps)))) ∙ lines_back (lines_of ps) [] (lines_of_good ps g) no_line_left

-- what is of the grammar is read
pub read_print : (t : List ℕ) (ps : List Profile) → Grammar t ps → reading_of t ≡ some ps
unfolding reading_of profiles_of
read_print t ps (e, g) =
    let q : lines_in t ≡ lines_of ps = lines_read t ps (e, g) in
    let n : length (lines_text (lines_in t)) ≡ length t = ap length (ap lines_text q ∙ sym (text_lines ps) ∙ e) in
    rw (eq-eqb (length (lines_text (lines_in t))) (length t) n) (ap (λ (ls : List Line). profiles_of (parsed ls)) q ∙ ap profiles_of (lines_parsed ps))
