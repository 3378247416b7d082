-- The walk through a good text, line by line: the paths that its lines name, and the profiles that its lines make up.
use Prim.Native.Nat.{ℕ, suc, ◌+◌, ◌≤◌, ◌<◌}
use native.Mathlib.Omega.{arith}
use native.Mathlib.Decide.{dec_lt}
use mathlib.Core.Path.{◌≡◌, refl, sym, ap, ◌∙◌, subst}
use mathlib.Core.Bool.{true}
use mathlib.Core.List.{List, [], ◌∷◌, ◌++◌, map, append_assoc, append-nil}
use mathlib.Core.Option.{Option, none, some}
use Rattle.std.proofs.Common.{Some}
use lib.Dec.{leb}
use lib.ListN.{length, drop, length-append}
use borrow.Author.Tests.{leb-true}
use Rattle.lists.proofs.Bools.{and_0, and_1, clash}
use Rattle.lists.proofs.Places.{some_inj}
use Rattle.profiles.specs.Profiles.{PathEntry, Profile, entry_line, modes_text, modes_start, modes_end, path_good, entry_good}
use Rattle.profiles.specs.Grammar.{Grammar}
use Rattle.profiles.specs.Reading.{Line, opens, enters, closes, line_text, line_good, line_in, lines_in, entry_lines, lines_of, reading_of}
use Rattle.profiles.specs.Scanning.{mode_bits, line_scan, line_at}
use Rattle.profiles.specs.LineWords.{line_word, named_path, line_words, text_words}
use Rattle.profiles.specs.Texts.{text_limit, profiled_once, reads_well, text_good}
use Rattle.profiles.specs.declared.ScannedLine.{ScannedLine}
use Rattle.profiles.specs.declared.NamedPath.{NamedPath}
use Rattle.profiles.proofs.Theorems.{reads_exactly}
use Rattle.profiles.proofs.ProfileLines.{line_good_lem}
use Rattle.profiles.proofs.LineWordLaws.{Small, small_line, word_back}
use Rattle.profiles.proofs.Walks.{Walk, walk_start, walk_line, walk_end, LineHere, scanned, profile_at, entry_at}
use Rattle.confinement.specs.Confinement.{names_of}
use Rattle.confinement.specs.Images.{read_profiles, profiles_in}
use Rattle.confinement.specs.Tables.{path_at}
use Rattle.confinement.proofs.ModeBits.{no_bit}

-- ---- a walk with the lines that are left

pub record Walked (t : List ℕ) (at : ℕ) (ls : List Line) : Type 0 where
  pub walk : Walk t at
  pub left : lines_in (drop at t) ≡ ls

-- the line in front, and the walk behind it
record Front (t : List ℕ) (at : ℕ) (l : Line) (ls : List Line) : Type 0 where
  pub reads : line_in (drop at t) ≡ some l
  pub inside : at < length t
  pub walk : Walked t (at + length (line_text l)) ls

cons_head : {A : Type 0} {x y : A} {xs ys : List A} → x ∷ xs ≡ y ∷ ys → x ≡ y
cons_head e = cc

cons_tail : {A : Type 0} {x y : A} {xs ys : List A} → x ∷ xs ≡ y ∷ ys → xs ≡ ys
cons_tail e = cc

front : (t : List ℕ) (at : ℕ) (l : Line) (ls : List Line) → Walked t at (l ∷ ls) → Front t at l ls
front t at l ls w = by (dec_lt at (length t))
  where
    by : Dec (at < length t) → Front t at l ls
    by (no n) = absurd (omega (arith, ap length (sym (walk_end t at (omega arith)) ∙ w.left)))
    by (yes i) =
        let x : LineHere t at = walk_line t at w.walk i in
        let e : x.line ∷ lines_in (drop (at + length (line_text x.line)) t) ≡ l ∷ ls = sym x.lines ∙ w.left in
        let n : at + length (line_text x.line) ≡ at + length (line_text l) = ap (λ (y : Line). at + length (line_text y)) (cons_head e) in
        record {
          reads = x.reads ∙ ap some (cons_head e);
          inside = i;
          walk = record { walk = subst (Walk t) n x.walk; left = ap (λ (k : ℕ). lines_in (drop k t)) (sym n) ∙ cons_tail e };
        }

-- ---- a good text is that of its profiles, none of which is repeated

module _ (t : List ℕ) (g : text_good t ≡ true) where
  reads : reads_well (reading_of t) ≡ true
  unfolding text_good
  reads = and_1 (leb (length t) text_limit) g

  pub good_grammar : Grammar t (profiles_in t)
  unfolding reads_well profiles_in read_profiles
  good_grammar = by (reading_of t) refl reads
    where
      by : (o : Option (List Profile)) → reading_of t ≡ o → reads_well o ≡ true → Grammar t (read_profiles o)
      by none e h = clash h refl
      by (some ps) e h = (reads_exactly t ps).0 e

  pub good_once : profiled_once (profiles_in t) ≡ true
  unfolding reads_well profiles_in read_profiles
  good_once = by (reading_of t) reads
    where
      by : (o : Option (List Profile)) → reads_well o ≡ true → profiled_once (read_profiles o) ≡ true
      by none h = clash h refl
      by (some ps) h = h

  pub good_walk : Walked t 0 (lines_of (profiles_in t))
  good_walk = let w = walk_start t (profiles_in t) good_grammar in record { walk = w.0; left = w.1 }

-- ---- the paths that lines name

unfoldable pub line_names : List Line → List (List ℕ)
line_names [] = []
line_names (opens p ∷ ls) = p ∷ line_names ls
line_names (enters e ∷ ls) = e.path ∷ line_names ls
line_names (closes ∷ ls) = line_names ls

entry_names : (es : List PathEntry) (ls : List Line) → line_names (entry_lines es ls) ≡ map (λ e. e.path) es ++ line_names ls
unfolding line_names entry_lines
entry_names [] ls = refl
entry_names (e ∷ es) ls = ap (λ (x : List (List ℕ)). e.path ∷ x) (entry_names es ls)

pub names_of_lem : (ps : List Profile) → line_names (lines_of ps) ≡ names_of ps
unfolding line_names lines_of names_of
names_of_lem [] = refl
names_of_lem (p ∷ ps) =
    ap (λ (x : List (List ℕ)). p.path ∷ x)
    (entry_names p.entries (closes ∷ lines_of ps) ∙ ap (λ (x : List (List ℕ)). map (λ e. e.path) p.entries ++ x) (names_of_lem ps))

-- ---- the profiles so far, and the lines behind them

unfoldable pub entered : List Profile → PathEntry → List Profile
entered [] e = []
entered (p ∷ []) e = record { path = p.path; entries = p.entries ++ (e ∷ []) } ∷ []
entered (p ∷ q ∷ ps) e = p ∷ entered (q ∷ ps) e

abbrev pub opened : List ℕ → Profile
opened p = record { path = p; entries = [] }

unfoldable pub resumed : List Profile → List Line → List Profile
resumed ps [] = ps
resumed ps (opens p ∷ ls) = resumed (ps ++ (opened p ∷ [])) ls
resumed ps (enters e ∷ ls) = resumed (entered ps e) ls
resumed ps (closes ∷ ls) = resumed ps ls

abbrev pub with_entry : Profile → PathEntry → Profile
with_entry p e = record { path = p.path; entries = p.entries ++ (e ∷ []) }

entered_last : (ps : List Profile) (p : Profile) (e : PathEntry) → entered (ps ++ (p ∷ [])) e ≡ ps ++ (with_entry p e ∷ [])
unfolding entered
entered_last [] p e = refl
entered_last (q ∷ []) p e = refl
entered_last (q ∷ r ∷ ps) p e = ap (λ (x : List Profile). q ∷ x) (entered_last (r ∷ ps) p e)

resumed_entries : (ps : List Profile) (p : List ℕ) (es fs : List PathEntry) (ls : List Line)
    → resumed (ps ++ (record { path = p; entries = es } ∷ [])) (entry_lines fs ls) ≡ resumed (ps ++ (record { path = p; entries = es ++ fs } ∷ [])) ls
unfolding resumed entry_lines
resumed_entries ps p es [] ls = ap (λ (x : List PathEntry). resumed (ps ++ (record { path = p; entries = x } ∷ [])) ls) (sym (append-nil es))
resumed_entries ps p es (f ∷ fs) ls =
    ap (λ (x : List Profile). resumed x (entry_lines fs ls)) (entered_last ps (record { path = p; entries = es }) f)
    ∙ resumed_entries ps p (es ++ (f ∷ [])) fs ls
    ∙ ap (λ (x : List PathEntry). resumed (ps ++ (record { path = p; entries = x } ∷ [])) ls) (append_assoc es (f ∷ []) fs)

resumed_lines : (ps qs : List Profile) → resumed ps (lines_of qs) ≡ ps ++ qs
unfolding resumed lines_of
resumed_lines ps [] = sym (append-nil ps)
resumed_lines ps (q ∷ qs) =
    resumed_entries ps q.path [] q.entries (closes ∷ lines_of qs)
    ∙ resumed_lines (ps ++ (q ∷ [])) qs
    ∙ append_assoc ps (q ∷ []) qs

pub resumed_whole : (ps : List Profile) → resumed [] (lines_of ps) ≡ ps
resumed_whole ps = resumed_lines [] ps

pub entered_length : (ps : List Profile) (e : PathEntry) → length (entered ps e) ≡ length ps
unfolding entered
entered_length [] e = refl
entered_length (p ∷ []) e = refl
entered_length (p ∷ q ∷ ps) e = ap suc (entered_length (q ∷ ps) e)

pub resumed_grows : (ps : List Profile) (ls : List Line) → length ps ≤ length (resumed ps ls)
unfolding resumed
resumed_grows ps [] = omega arith
resumed_grows ps (opens p ∷ ls) = omega (arith, resumed_grows (ps ++ (opened p ∷ [])) ls, length-append ps (opened p ∷ []))
resumed_grows ps (enters e ∷ ls) = omega (arith, resumed_grows (entered ps e) ls, entered_length ps e)
resumed_grows ps (closes ∷ ls) = resumed_grows ps ls

-- ---- the lines that name a path, told by their numbers

unfoldable pub naming_lines : List Line → List Line
naming_lines [] = []
naming_lines (opens p ∷ ls) = opens p ∷ naming_lines ls
naming_lines (enters e ∷ ls) = enters e ∷ naming_lines ls
naming_lines (closes ∷ ls) = naming_lines ls

pub naming_names : (ls : List Line) → line_names (naming_lines ls) ≡ line_names ls
unfolding naming_lines line_names
naming_names [] = refl
naming_names (opens p ∷ ls) = ap (λ (x : List (List ℕ)). p ∷ x) (naming_names ls)
naming_names (enters e ∷ ls) = ap (λ (x : List (List ℕ)). e.path ∷ x) (naming_names ls)
naming_names (closes ∷ ls) = naming_names ls

pub naming_resumed : (ps : List Profile) (ls : List Line) → resumed ps (naming_lines ls) ≡ resumed ps ls
unfolding naming_lines resumed
naming_resumed ps [] = refl
naming_resumed ps (opens p ∷ ls) = naming_resumed (ps ++ (opened p ∷ [])) ls
naming_resumed ps (enters e ∷ ls) = naming_resumed (entered ps e) ls
naming_resumed ps (closes ∷ ls) = naming_resumed ps ls

opens_same : {p q : List ℕ} → opens p ≡ opens q → p ≡ q
opens_same e = cc

enters_same : {d e : PathEntry} → enters d ≡ enters e → d ≡ e
enters_same e = cc

-- a path with these modes stands where a number says
pub record Tells (t : List ℕ) (s : NamedPath) (path : List ℕ) (bits : ℕ) : Type 0 where
  pub text : path_at t s.start s.size ≡ path
  pub fits : s.start + s.size ≤ length t
  pub modes : s.modes ≡ bits

-- the numbers tell the lines one by one
pub data Told (t : List ℕ) : List ℕ → List Line → Type 0 where
  told_none : Told t [] []
  told_profile : {w : ℕ} {ws : List ℕ} {p : List ℕ} {ls : List Line} → Tells t (named_path w) p 0 → Told t ws ls → Told t (w ∷ ws) (opens p ∷ ls)
  told_entry : {w : ℕ} {ws : List ℕ} {e : PathEntry} {ls : List Line} → Tells t (named_path w) e.path (mode_bits e.modes) → (mode_bits e.modes ≡ 0 → ⊥) → Told t ws ls
      → Told t (w ∷ ws) (enters e ∷ ls)

tells : (t : List ℕ) (s : ScannedLine) → Small s → (path : List ℕ) → path_at t s.path s.length ≡ path → s.path + s.length ≤ length t → Tells t (named_path (line_word s)) path s.modes
tells t s h path e l = subst (λ (x : NamedPath). Tells t x path s.modes) (sym (word_back s h)) (record { text = e; fits = l; modes = refl })

entry_long : (e : PathEntry) → length e.path ≤ length (line_text (enters e))
unfolding line_text entry_line
entry_long e = omega (arith, length-append e.path (modes_start ++ (modes_text e.modes ++ modes_end)))

module _ (t : List ℕ) (short : length t ≤ text_limit) where
  tells_profile : (at : ℕ) (p : List ℕ) (ls : List Line) → Front t at (opens p) ls → Tells t (named_path (line_word (line_scan at (opens p)))) p 0
  unfolding line_scan
  tells_profile at p ls f =
      let q : Some (line_scan at (opens p)) ≡ line_at t at = sym (scanned t at (opens p) f.reads) in
      let x = profile_at t at (omega (arith, f.inside)) (line_scan at (opens p)) q refl in
      let o : opens x.path ≡ opens p = some_inj (sym x.reads ∙ f.reads) in
      tells t (line_scan at (opens p)) (small_line t at f.inside short (line_scan at (opens p)) q) p (x.text ∙ opens_same o) (omega (arith, x.room, x.ahead))

  tells_entry : (at : ℕ) (e : PathEntry) (ls : List Line) → Front t at (enters e) ls → Tells t (named_path (line_word (line_scan at (enters e)))) e.path (mode_bits e.modes)
  unfolding line_scan
  tells_entry at e ls f =
      let q : Some (line_scan at (enters e)) ≡ line_at t at = sym (scanned t at (enters e) f.reads) in
      let x = entry_at t at (omega (arith, f.inside)) (line_scan at (enters e)) q refl in
      let o : enters x.entry ≡ enters e = some_inj (sym x.reads ∙ f.reads) in
      tells t (line_scan at (enters e)) (small_line t at f.inside short (line_scan at (enters e)) q) e.path (x.text ∙ ap (λ (y : PathEntry). y.path) (enters_same o))
      (omega (arith, x.start, x.size, x.next, x.ahead, entry_long x.entry))

  entry_some : (at : ℕ) (e : PathEntry) (ls : List Line) → Front t at (enters e) ls → mode_bits e.modes ≡ 0 → ⊥
  unfolding line_good entry_good
  entry_some at e ls f = no_bit e.modes (and_1 (path_good e.path) (line_good_lem (drop at t) (enters e) f.reads))

  pub told : (ls : List Line) (at : ℕ) → Walked t at ls → Told t (line_words at ls) (naming_lines ls)
  unfolding line_words naming_lines
  told [] at w = told_none
  told (opens p ∷ ls) at w =
      let f = front t at (opens p) ls w in told_profile (tells_profile at p ls f) (told ls (at + length (line_text (opens p))) f.walk)
  told (enters e ∷ ls) at w =
      let f = front t at (enters e) ls w in told_entry (tells_entry at e ls f) (entry_some at e ls f) (told ls (at + length (line_text (enters e))) f.walk)
  told (closes ∷ ls) at w = told ls (at + length (line_text closes)) (front t at closes ls w).walk

-- at first these are the lines of the reading
pub good_told : (t : List ℕ) → text_good t ≡ true → Told t (text_words t) (naming_lines (lines_of (profiles_in t)))
unfolding text_words text_good
good_told t g =
    subst (λ (ws : List ℕ). Told t ws (naming_lines (lines_of (profiles_in t)))) (ap (line_words 0) (sym (good_walk t g).left))
    (told t (leb-true (length t) text_limit (and_0 (leb (length t) text_limit) (reads_well (reading_of t)) g)) (lines_of (profiles_in t)) 0 (good_walk t g))

-- ---- one line, by its number

pub told_end : (t ws : List ℕ) (ls : List Line) → Told t ws ls → ws ≡ [] → ls ≡ []
told_end t ws ls told_none e = refl
told_end t ws ls (told_profile x y) e = absurd (omega (arith, ap length e))
told_end t ws ls (told_entry x n y) e = absurd (omega (arith, ap length e))

pub record Opens (t ws : List ℕ) (ls : List Line) (s : NamedPath) : Type 0 where
  pub path : List ℕ
  pub rest : List Line
  pub lines : ls ≡ opens path ∷ rest
  pub told : Told t ws rest
  pub tells : Tells t s path 0

pub record Enters (t ws : List ℕ) (ls : List Line) (s : NamedPath) : Type 0 where
  pub entry : PathEntry
  pub rest : List Line
  pub lines : ls ≡ enters entry ∷ rest
  pub told : Told t ws rest
  pub tells : Tells t s entry.path (mode_bits entry.modes)
  pub some : mode_bits entry.modes ≡ 0 → ⊥

-- one of the two
pub data Turn (t ws : List ℕ) (ls : List Line) (s : NamedPath) : Type 0 where
  is_profile : Opens t ws ls s → Turn t ws ls s
  is_entry : Enters t ws ls s → Turn t ws ls s

pub turn : (t us : List ℕ) (ls : List Line) → Told t us ls → (w : ℕ) (ws : List ℕ) → us ≡ w ∷ ws → (s : NamedPath) → s ≡ named_path w → Turn t ws ls s
turn t us ls told_none w ws e s q = absurd (omega (arith, ap length e))
turn t us ls (told_profile {w = v} {ws = vs} {p = p} {ls = rest} x y) w ws e s q =
    is_profile
    (record {
      path = p;
      rest = rest;
      lines = refl;
      told = subst (λ (z : List ℕ). Told t z rest) (cons_tail e) y;
      tells = subst (λ (z : NamedPath). Tells t z p 0) (ap named_path (cons_head e) ∙ sym q) x;
    })
turn t us ls (told_entry {w = v} {ws = vs} {e = a} {ls = rest} x n y) w ws e s q =
    is_entry
    (record {
      entry = a;
      rest = rest;
      lines = refl;
      told = subst (λ (z : List ℕ). Told t z rest) (cons_tail e) y;
      tells = subst (λ (z : NamedPath). Tells t z a.path (mode_bits a.modes)) (ap named_path (cons_head e) ∙ sym q) x;
      some = n;
    })
