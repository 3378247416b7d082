-- What a scanned line tells of the text, and the walk through a text that has a reading: it is, line by line, the lines of it.
use Prim.Native.Nat.{ℕ, ◌+◌, ◌≤◌, ◌<◌}
use mathlib.Core.Path.{◌≡◌, refl, sym, ap, ◌∙◌, subst}
use mathlib.Core.Bool.{true}
use mathlib.Core.List.{List, [], ◌∷◌, ◌++◌, map, append_assoc}
use mathlib.Core.Option.{Option, none, some}
use Rattle.std.proofs.Common.{Some, None}
use native.Mathlib.Omega.{arith}
use lib.ListN.{length, take, drop, length-append, length-drop, drop_of_length-le}
use lib.Seq.{take-append_seam, drop-append_seam, drop-drop}
use Rattle.fields.specs.Ascii.{ascii}
use Rattle.lists.specs.Lists.{joined}
use Rattle.lists.proofs.Bools.{and_0}
use Rattle.lists.proofs.Every.{append_apart}
use Rattle.profiles.specs.Profiles.{PathEntry, Profile, modes_text, profile_word, profile_end, modes_start, modes_end, profile_line, entry_line, path_good, modes_good, entry_good}
use Rattle.profiles.specs.Grammar.{Grammar}
use Rattle.profiles.specs.Tokens.{tokens}
use Rattle.profiles.specs.Reading.{Line, opens, enters, closes, line_text, line_good, lines_of, path_in, line_in, lines_in, lines_text}
use Rattle.profiles.specs.Scanning.{mode_bits, line_scan, line_at}
use Rattle.profiles.specs.declared.ScannedLine.{ScannedLine}
use Rattle.profiles.specs.declared.LineKind.TheVariants as K
use Rattle.profiles.proofs.TokenLaws.{starts_split, tokens_stop}
use Rattle.profiles.proofs.ProfileLines.{line_front, line_good_lem, profile_path, entry_path_read}
use Rattle.profiles.proofs.LineScans.{starts_room, lines_more}
use Rattle.profiles.proofs.ReadingLaws.{text_lines, lines_read, no_line_left}

-- ---- where the parts of a line are

line_split : (t : List ℕ) (at : ℕ) (l : Line) → line_in (drop at t) ≡ some l → line_text l ++ drop (at + length (line_text l)) t ≡ drop at t
line_split t at l e =
    ap (λ (u : List ℕ). line_text l ++ u) (sym (drop-drop (length (line_text l)) at t)) ∙ starts_split (line_text l) (drop at t) (line_front (drop at t) l e)

-- a path's bytes, behind `a` bytes of the line
path_behind : (t w p r : List ℕ) (at : ℕ) → w ++ (p ++ r) ≡ drop at t → drop (at + length w) t ≡ p ++ r
path_behind t w p r at e = sym (drop-drop (length w) at t) ∙ ap (drop (length w)) (sym e) ∙ drop-append_seam w (p ++ r)

-- ---- a scanned line by its kind

pub record ProfileAt (t : List ℕ) (at : ℕ) (s : ScannedLine) : Type 0 where
  pub path : List ℕ
  pub reads : line_in (drop at t) ≡ some (opens path)
  pub good : path_good path ≡ true
  pub text : take s.length (drop s.path t) ≡ path
  pub found : path_in (drop s.path t) ≡ path
  pub size : s.length ≡ length path
  pub next : s.next ≡ at + length (line_text (opens path))
  pub start : s.path ≡ at + 8
  pub room : s.path + s.length + 3 ≡ s.next
  pub ahead : s.next ≤ length t

pub record EntryAt (t : List ℕ) (at : ℕ) (s : ScannedLine) : Type 0 where
  pub entry : PathEntry
  pub reads : line_in (drop at t) ≡ some (enters entry)
  pub good : entry_good entry ≡ true
  pub text : take s.length (drop s.path t) ≡ entry.path
  pub found : path_in (drop s.path t) ≡ entry.path
  pub size : s.length ≡ length entry.path
  pub modes : s.modes ≡ mode_bits entry.modes
  pub next : s.next ≡ at + length (line_text (enters entry))
  pub start : s.path ≡ at
  pub ahead : s.next ≤ length t

pub record EndAt (t : List ℕ) (at : ℕ) (s : ScannedLine) : Type 0 where
  pub reads : line_in (drop at t) ≡ some closes
  pub next : s.next ≡ at + length (line_text closes)
  pub ahead : s.next ≤ length t

-- a line in front is scanned so
pub scanned : (t : List ℕ) (at : ℕ) (l : Line) → line_in (drop at t) ≡ some l → line_at t at ≡ Some (line_scan at l)
unfolding line_at
scanned t at l e = rw e

pub unscanned : (t : List ℕ) (at : ℕ) → line_in (drop at t) ≡ none → line_at t at ≡ None
unfolding line_at
unscanned t at e = rw e

module _ (t : List ℕ) (at : ℕ) (l : at ≤ length t) where
  ahead : (x : Line) → line_in (drop at t) ≡ some x → at + length (line_text x) ≤ length t
  ahead x e = starts_room (line_text x) t at (line_front (drop at t) x e) l

  profile_here : (p : List ℕ) → line_in (drop at t) ≡ some (opens p) → ProfileAt t at (line_scan at (opens p))
  unfolding line_scan line_good line_text profile_line profile_word profile_end ascii
  profile_here p e =
      let g : path_good p ≡ true = line_good_lem (drop at t) (opens p) e in
      let r = drop (at + length (line_text (opens p))) t in
      let u : drop (at + 8) t ≡ p ++ (profile_end ++ r)
      = path_behind t profile_word p (profile_end ++ r) at (ap (λ (v : List ℕ). profile_word ++ v) (sym (append_assoc p profile_end r)) ∙ line_split t at (opens p) e) in
      record {
        path = p;
        reads = e;
        good = g;
        text = ap (take (length p)) u ∙ take-append_seam p (profile_end ++ r);
        found = ap path_in (sym (drop-drop 8 at t) ∙ ap (drop 8) (sym (line_split t at (opens p) e))) ∙ profile_path p r g;
        size = refl;
        next = refl;
        start = refl;
        room = omega (arith, length-append p profile_end);
        ahead = ahead (opens p) e;
      }

  entry_here : (x : PathEntry) → line_in (drop at t) ≡ some (enters x) → EntryAt t at (line_scan at (enters x))
  unfolding line_scan line_good line_text entry_line entry_good
  entry_here x e =
      let r = drop (at + length (line_text (enters x))) t in
      let w = modes_start ++ (modes_text x.modes ++ modes_end) in
      record {
        entry = x;
        reads = e;
        good = line_good_lem (drop at t) (enters x) e;
        text = ap (take (length x.path)) (sym (sym (append_assoc x.path w r) ∙ line_split t at (enters x) e)) ∙ take-append_seam x.path (w ++ r);
        found = ap path_in (sym (line_split t at (enters x) e)) ∙ entry_path_read x.path x.modes r (and_0 (path_good x.path) (modes_good x.modes) (line_good_lem (drop at t) (enters x) e));
        size = refl;
        modes = refl;
        next = refl;
        start = refl;
        ahead = ahead (enters x) e;
      }

  end_here : line_in (drop at t) ≡ some closes → EndAt t at (line_scan at closes)
  unfolding line_scan
  end_here e = record { reads = e; next = refl; ahead = ahead closes e }

  module _ (s : ScannedLine) (q : Some s ≡ line_at t at) where
    pub is_line : (x : Line) → line_in (drop at t) ≡ some x → s ≡ line_scan at x
    is_line x e = let z : Some s ≡ Some (line_scan at x) = q ∙ scanned t at x e in cc

    kind_of : (x : Line) → line_in (drop at t) ≡ some x → s.kind ≡ (line_scan at x).kind
    kind_of x e = ap (λ (y : ScannedLine). y.kind) (is_line x e)

    pub no_none : line_in (drop at t) ≡ none → ⊥
    no_none e = let z : Some s ≡ None = q ∙ unscanned t at e in cc

    pub profile_at : s.kind ≡ K.Profile → ProfileAt t at s
    unfolding line_scan
    profile_at k = by (line_in (drop at t)) refl
      where
        by : (o : Option Line) → line_in (drop at t) ≡ o → ProfileAt t at s
        by none e = absurd (no_none e)
        by (some (opens p)) e = subst (ProfileAt t at) (sym (is_line (opens p) e)) (profile_here p e)
        by (some (enters x)) e = let z : K.Profile ≡ K.Entry = sym k ∙ kind_of (enters x) e in absurd (cc)
        by (some closes) e = let z : K.Profile ≡ K.End = sym k ∙ kind_of closes e in absurd (cc)

    pub entry_at : s.kind ≡ K.Entry → EntryAt t at s
    unfolding line_scan
    entry_at k = by (line_in (drop at t)) refl
      where
        by : (o : Option Line) → line_in (drop at t) ≡ o → EntryAt t at s
        by none e = absurd (no_none e)
        by (some (opens p)) e = let z : K.Entry ≡ K.Profile = sym k ∙ kind_of (opens p) e in absurd (cc)
        by (some (enters x)) e = subst (EntryAt t at) (sym (is_line (enters x) e)) (entry_here x e)
        by (some closes) e = let z : K.Entry ≡ K.End = sym k ∙ kind_of closes e in absurd (cc)

    pub end_at : s.kind ≡ K.End → EndAt t at s
    unfolding line_scan
    end_at k = by (line_in (drop at t)) refl
      where
        by : (o : Option Line) → line_in (drop at t) ≡ o → EndAt t at s
        by none e = absurd (no_none e)
        by (some (opens p)) e = let z : K.End ≡ K.Profile = sym k ∙ kind_of (opens p) e in absurd (cc)
        by (some (enters x)) e = let z : K.End ≡ K.Entry = sym k ∙ kind_of (enters x) e in absurd (cc)
        by (some closes) e = subst (EndAt t at) (sym (is_line closes e)) (end_here e)

-- no line stands there
pub none_at : (t : List ℕ) (at : ℕ) → None ≡ line_at t at → line_in (drop at t) ≡ none
none_at t at q = by (line_in (drop at t)) refl
  where
    by : (o : Option Line) → line_in (drop at t) ≡ o → o ≡ none
    by none e = refl
    by (some l) e = let z : None ≡ Some (line_scan at l) = q ∙ scanned t at l e in absurd (cc)

-- ---- the walk through a text that has a reading

-- from the place on, the text is that of its lines
pub record Walk (t : List ℕ) (at : ℕ) : Type 0 where
  pub place : at ≤ length t
  pub whole : lines_text (lines_in (drop at t)) ≡ drop at t

-- at the start these are the lines of the reading
pub walk_start : (t : List ℕ) (ps : List Profile) → Grammar t ps → Walk t 0 × (lines_in t ≡ lines_of ps)
walk_start t ps (e, g) =
    let q : lines_in t ≡ lines_of ps = lines_read t ps (e, g) in
    (record { place = omega arith; whole = ap lines_text q ∙ sym (text_lines ps) ∙ e }, q)

module _ (t : List ℕ) (at : ℕ) (w : Walk t at) where
  -- before the end there is a line
  pub walk_on : at < length t → line_in (drop at t) ≡ none → ⊥
  unfolding lines_in lines_text joined
  walk_on i e = omega (arith, ap length (sym w.whole ∙ ap (λ (ls : List Line). joined (map line_text ls)) (tokens_stop line_in line_text (drop at t) e)), length-drop at t)

  -- behind a line the walk goes on with those behind it
  pub walk_next : (l : Line) → at < length t → line_in (drop at t) ≡ some l → Walk t (at + length (line_text l)) × (lines_in (drop at t) ≡ l ∷ lines_in (drop (at + length (line_text l)) t))
  unfolding lines_text joined
  walk_next l i e =
      let q = lines_more t at l i e in
      let next = at + length (line_text l) in
      let split : line_text l ++ lines_text (lines_in (drop next t)) ≡ line_text l ++ drop next t = ap lines_text (sym q) ∙ w.whole ∙ sym (line_split t at l e) in (
        record {
          place = starts_room (line_text l) t at (line_front (drop at t) l e) w.place;
          whole = (append_apart (line_text l) (line_text l) (lines_text (lines_in (drop next t))) (drop next t) refl split).1;
        },
        q,
      )

-- the line at a place of the walk, whichever it is, and the walk behind it
pub record LineHere (t : List ℕ) (at : ℕ) : Type 0 where
  pub line : Line
  pub reads : line_in (drop at t) ≡ some line
  pub walk : Walk t (at + length (line_text line))
  pub lines : lines_in (drop at t) ≡ line ∷ lines_in (drop (at + length (line_text line)) t)

pub walk_line : (t : List ℕ) (at : ℕ) → Walk t at → at < length t → LineHere t at
walk_line t at w i = by (line_in (drop at t)) refl
  where
    by : (o : Option Line) → line_in (drop at t) ≡ o → LineHere t at
    by none e = absurd (walk_on t at w i e)
    by (some l) e = let g = walk_next t at w l i e in record { line = l; reads = e; walk = g.0; lines = g.1 }

-- at the end there is none
pub walk_end : (t : List ℕ) (at : ℕ) → length t ≤ at → lines_in (drop at t) ≡ []
unfolding lines_in
walk_end t at l = ap (tokens line_in line_text) (drop_of_length-le t l) ∙ tokens_stop line_in line_text [] no_line_left
