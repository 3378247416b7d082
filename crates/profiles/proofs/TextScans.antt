-- The text is judged from its lines, one after the other, with a note of each path that is profiled and a number for each line
-- that names a path.
use Prim.Native.Nat.{ℕ, ◌+◌, ◌-◌, ◌*◌, ◌/◌, ◌≤◌, ◌<◌}
use mathlib.Core.Path.{◌≡◌, refl, sym, ap, ap₂, ◌∙◌}
use mathlib.Core.Bool.{Bool, true, false, not, ◌&&◌}
use mathlib.Core.List.{List, [], ◌∷◌, ◌++◌, append-nil}
use native.Mathlib.Omega.{arith}
use Rattle.std.proofs.Common.{Some, None}
use lib.ListN.{length, take, drop, set, length-append, length-set}
use borrow.Author.Tests.{not-true, not-false, lt-leb, le-leb}
use Rattle.lists.specs.Lists.{every, known}
use Rattle.lists.proofs.Every.{every_nil}
use Rattle.fields.specs.Ascii.{ascii}
use Rattle.lists.proofs.Bools.{and_0, and_1, clash}
use Rattle.profiles.specs.Profiles.{modes_text, modes_start, modes_end, entry_line, path_good, modes_good, entry_good}
use Rattle.profiles.specs.Reading.{opens, enters, closes, line_text, path_in, reading_of}
use Rattle.profiles.specs.Texts.{text_limit, reads_well, text_good}
use Rattle.profiles.specs.Scanning.{line_at}
use Rattle.profiles.specs.LineWords.{line_word, text_words, may_stand, ScannedText, scanned, Judged, profile_least, entry_least}
use Rattle.profiles.specs.Notes.{note_good, path_hash, ToNote, noted_paths, noted_place, with_note}
use Rattle.profiles.specs.Marks.{mark_words, has_mark, with_mark, Marked}
use Rattle.profiles.proofs.NoteLaws.{is_known, is_new, notes_long, notes_good, paths_more}
use Rattle.profiles.proofs.HashMarks.{marked_more}
use Rattle.profiles.specs.declared.ScannedLine.{ScannedLine}
use Rattle.profiles.specs.declared.LineKind.{LineKind}
use Rattle.profiles.specs.declared.LineKind.TheVariants as K
use Rattle.profiles.proofs.ProfileLines.{line_long, modes_text_long}
use Rattle.profiles.proofs.PathBytes.{path_parts}
use Rattle.profiles.proofs.Walks.{ProfileAt, EntryAt, EndAt, profile_at, entry_at, end_at, none_at}
use Rattle.profiles.proofs.LineWordLaws.{Small, small_line, words_from, words_none, words_profile, words_entry, words_end, list_more, list_still}
use Rattle.profiles.proofs.JudgedText.{left_good, left_whole, left_end, left_none, profile_inside, profile_again, profile_new, entry_outside, entry_inside, end_outside, end_inside}

-- what is left of the text is judged as the whole is
pub record TextScanned (t notes₀ words₀ notes marks words : List ℕ) (at count named : ℕ) (b : Bool) : Type 0 where
  pub short : length t ≤ text_limit
  pub room : length t ≤ profile_least * length notes
  pub size : length notes ≡ length notes₀
  pub place : at ≤ length t
  pub few : count * profile_least ≤ at
  pub noted : every (note_good t) (take count notes) ≡ true
  pub marked : Marked notes marks count
  pub rest : left_good t (noted_paths t notes count) b at ≡ reads_well (reading_of t)
  pub wide : length t ≤ entry_least * length words
  pub width : length words ≡ length words₀
  pub fewer : entry_least * named ≤ at
  pub listed : take named words ++ words_from t at ≡ text_words t

pub text_start : (t notes marks words : List ℕ) → length t ≤ text_limit → length t ≤ profile_least * length notes → length marks ≡ mark_words → length t ≤ entry_least * length words
    → TextScanned t notes words notes marks words 0 0 0 false
unfolding noted_paths words_from text_words
text_start t notes marks words s r m w =
    record {
      short = s;
      room = r;
      size = refl;
      place = omega arith;
      few = omega arith;
      noted = every_nil (note_good t);
      marked = record { long = m; hashes = every_nil (λ n. has_mark marks (n / text_limit)) };
      rest = left_whole t;
      wide = w;
      width = refl;
      fewer = omega arith;
      listed = refl;
    }

-- a text that is refused
pub no_text_lem : (t words : List ℕ) (b : Bool) → false ≡ b → Judged t words b (scanned None)
no_text_lem t words b h = record { right = h; room = λ k. clash k refl; listed = λ k. clash k refl }

module _ (t notes₀ words₀ notes marks words : List ℕ) (at count named : ℕ) (b : Bool) (g : TextScanned t notes₀ words₀ notes marks words at count named b) where
  -- the text ends inside of a profile, or outside
  pub text_open : length t ≤ at → b ≡ true → Judged t words (reads_well (reading_of t)) (scanned None)
  text_open l e = no_text_lem t words (reads_well (reading_of t)) (sym (left_end t (noted_paths t notes count) b at l ∙ ap not e) ∙ g.rest)

  pub text_end : length t ≤ at → b ≡ false → Judged t words (reads_well (reading_of t)) (scanned (Some named))
  text_end l e =
      record {
        right = sym (left_end t (noted_paths t notes count) b at l ∙ ap not e) ∙ g.rest;
        room = λ _. omega (arith, g.fewer, g.wide, g.place);
        listed = λ _. sym (append-nil (take named words)) ∙ ap (λ (ws : List ℕ). take named words ++ ws) (sym (words_none t at l)) ∙ g.listed;
      }

  pub word_room : at < length t → named < length words
  word_room i = omega (arith, g.fewer, g.wide)

  -- no line
  pub text_broken : None ≡ line_at t at → at < length t → false ≡ reads_well (reading_of t)
  text_broken q i = sym (left_none t (noted_paths t notes count) b at i (none_at t at q)) ∙ g.rest

  module _ (s : ScannedLine) (q : Some s ≡ line_at t at) (i : at < length t) where
    pub word_small : Small s
    word_small = small_line t at i g.short s q

    -- where a line may stand
    stand : (k : LineKind) → s.kind ≡ k → may_stand s.kind b ≡ may_stand k b
    stand k e = ap (λ (x : LineKind). may_stand x b) e

    left_as : (c : Bool) → b ≡ c → left_good t (noted_paths t notes count) c at ≡ reads_well (reading_of t)
    left_as c e = ap (λ (d : Bool). left_good t (noted_paths t notes count) d at) (sym e) ∙ g.rest

    -- a profile's first line
    module _ (k : s.kind ≡ K.Profile) where
      profile : ProfileAt t at s
      profile = profile_at t at (omega arith) s q k

      path_long : 2 ≤ length profile.path
      path_long = (path_parts profile.path profile.good).1

      profile_ahead : at < s.next
      profile_ahead = omega (arith, profile.next, line_long (opens profile.path))

      pub profile_less : length t - s.next < length t - at
      profile_less = omega (arith, profile_ahead, profile.ahead)

      profile_stops : b ≡ true → false ≡ reads_well (reading_of t)
      profile_stops e = sym (profile_inside t (noted_paths t notes count) at i profile.path profile.reads) ∙ left_as true e

      pub profile_to_note : ToNote t notes count s.path s.length
      profile_to_note =
          record {
            noted = g.noted;
            room = omega (arith, g.few, g.room);
            good = ap path_good profile.text ∙ profile.good;
            fits = omega (arith, profile.room, profile.ahead);
            place = omega (arith, profile.room, profile.ahead, g.short);
          }

      module _ (r : ℕ) (e : r ≡ noted_place t notes count s.path s.length) (c : Bool) (d : c ≡ may_stand s.kind b) (z : c ≡ true) where
        o : b ≡ false
        unfolding may_stand
        o = not-true b (sym (stand K.Profile k) ∙ sym d ∙ z)

        pub profile_repeats : r < count → false ≡ reads_well (reading_of t)
        profile_repeats l =
            sym (profile_again t (noted_paths t notes count) at i profile.path profile.reads
            (ap (λ (p : List ℕ). known p (noted_paths t notes count)) (sym profile.text) ∙ is_known t notes count s.path s.length profile_to_note r e l))
            ∙ left_as false o

        module _ (l : count ≤ r) (after : List ℕ) (w : after ≡ with_note t notes count s.path s.length)
            (marked : List ℕ) (x : marked ≡ with_mark marks (path_hash (take s.length (drop s.path t)))) where
          path_new : known profile.path (noted_paths t notes count) ≡ false
          path_new = ap (λ (p : List ℕ). known p (noted_paths t notes count)) (sym profile.text) ∙ is_new t notes count s.path s.length profile_to_note r e l

          found : path_in (drop s.path t) ≡ take s.length (drop s.path t)
          found = profile.found ∙ sym profile.text

          pub profile_passed : (w : ℕ) → w ≡ line_word s → TextScanned t notes₀ words₀ after marked (set words named w) s.next (count + 1) (named + 1) true
          profile_passed v y =
              let n : length after ≡ length notes = notes_long t notes count s.path s.length profile_to_note r e l after w in
              record {
                short = g.short;
                room = omega (arith, g.room);
                size = n ∙ g.size;
                place = profile.ahead;
                few = omega (arith, g.few, profile.room, profile.start, profile.size, path_long);
                noted = notes_good t notes count s.path s.length profile_to_note r e l after w found;
                marked = marked_more t notes count s.path s.length profile_to_note r e l after w marks marked g.marked x;
                rest =
                    ap₂ (λ (ps : List (List ℕ)) (k : ℕ). left_good t ps true k)
                    (paths_more t notes count s.path s.length profile_to_note r e l after w found ∙ ap (λ (p : List ℕ). noted_paths t notes count ++ (p ∷ [])) profile.text)
                    profile.next
                    ∙ sym (profile_new t (noted_paths t notes count) at i profile.path profile.reads path_new)
                    ∙ left_as false o;
                wide = omega (arith, g.wide, length-set words named v);
                width = length-set words named v ∙ g.width;
                fewer = omega (arith, g.fewer, profile.room, profile.start, profile.size, path_long);
                listed =
                    list_more words named v (words_from t at) (words_from t s.next) (text_words t) (word_room i)
                    (words_profile t at i s q profile.path profile.reads profile.next ∙ ap (λ (x : ℕ). x ∷ words_from t s.next) (sym y)) g.listed;
              }

    -- a line of an entry
    module _ (k : s.kind ≡ K.Entry) where
      entry : EntryAt t at s
      entry = entry_at t at (omega arith) s q k

      entry_ahead : at < s.next
      entry_ahead = omega (arith, entry.next, line_long (enters entry.entry))

      pub entry_less : length t - s.next < length t - at
      entry_less = omega (arith, entry_ahead, entry.ahead)

      entry_stops : b ≡ false → false ≡ reads_well (reading_of t)
      entry_stops e = sym (entry_outside t (noted_paths t notes count) at i entry.entry entry.reads) ∙ left_as false e

      entry_inside' : (c : Bool) → c ≡ may_stand s.kind b → c ≡ true → b ≡ true
      unfolding may_stand
      entry_inside' c d z = sym (stand K.Entry k) ∙ sym d ∙ z

      entry_long : 6 ≤ s.next - at
      unfolding line_text entry_line modes_start modes_end ascii entry_good
      entry_long =
          let h : entry_good entry.entry ≡ true = entry.good in
          omega (
            arith,
            entry.next,
            length-append entry.entry.path (modes_start ++ (modes_text entry.entry.modes ++ modes_end)),
            length-append (modes_text entry.entry.modes) modes_end,
            (path_parts entry.entry.path (and_0 (path_good entry.entry.path) (modes_good entry.entry.modes) h)).1,
            modes_text_long entry.entry.modes (and_1 (path_good entry.entry.path) h),
          )

      pub entry_passed : (c : Bool) → c ≡ may_stand s.kind b → c ≡ true → (w : ℕ) → w ≡ line_word s
          → TextScanned t notes₀ words₀ notes marks (set words named w) s.next count (named + 1) b
      entry_passed c d z v y =
          let e : b ≡ true = entry_inside' c d z in
          record {
            short = g.short;
            room = g.room;
            size = g.size;
            place = entry.ahead;
            few = omega (arith, g.few, entry_ahead);
            noted = g.noted;
            marked = g.marked;
            rest =
                ap₂ (λ (d : Bool) (k : ℕ). left_good t (noted_paths t notes count) d k) e entry.next
                ∙ sym (entry_inside t (noted_paths t notes count) at i entry.entry entry.reads)
                ∙ left_as true e;
            wide = omega (arith, g.wide, length-set words named v);
            width = length-set words named v ∙ g.width;
            fewer = omega (arith, g.fewer, entry_long);
            listed =
                list_more words named v (words_from t at) (words_from t s.next) (text_words t) (word_room i)
                (words_entry t at i s q entry.entry entry.reads entry.next ∙ ap (λ (x : ℕ). x ∷ words_from t s.next) (sym y)) g.listed;
          }

    -- a profile's last line
    module _ (k : s.kind ≡ K.End) where
      end : EndAt t at s
      end = end_at t at (omega arith) s q k

      end_ahead : at < s.next
      end_ahead = omega (arith, end.next, line_long closes)

      end_stops : b ≡ false → false ≡ reads_well (reading_of t)
      end_stops e = sym (end_outside t (noted_paths t notes count) at i end.reads) ∙ left_as false e

      end_left : b ≡ true → (v : ℕ) → TextScanned t notes₀ words₀ notes marks (set words named v) s.next count named false
      end_left e v =
          record {
            short = g.short;
            room = g.room;
            size = g.size;
            place = end.ahead;
            few = omega (arith, g.few, end_ahead);
            noted = g.noted;
            marked = g.marked;
            rest =
                ap (left_good t (noted_paths t notes count) false) end.next
                ∙ sym (end_inside t (noted_paths t notes count) at i end.reads)
                ∙ left_as true e;
            wide = omega (arith, g.wide, length-set words named v);
            width = length-set words named v ∙ g.width;
            fewer = omega (arith, g.fewer, end_ahead);
            listed =
                list_still words named v (words_from t at) (words_from t s.next) (text_words t) (words_end t at i s q end.reads end.next) g.listed;
          }

      module _ (c : Bool) (d : c ≡ may_stand s.kind b) (z : c ≡ true) where
        pub end_less : length t - s.next < length t - at
        end_less = omega (arith, end_ahead, end.ahead)

        pub end_passed : (w : ℕ) → TextScanned t notes₀ words₀ notes marks (set words named w) s.next count named false
        unfolding may_stand
        end_passed w = end_left (sym (stand K.End k) ∙ sym d ∙ z) w

    -- a line that may not stand here
    pub text_stops : (c : Bool) → c ≡ may_stand s.kind b → c ≡ false → false ≡ reads_well (reading_of t)
    unfolding may_stand
    text_stops c d z = by s.kind refl
      where
        f : may_stand s.kind b ≡ false
        f = sym d ∙ z

        by : (k : LineKind) → s.kind ≡ k → false ≡ reads_well (reading_of t)
        by K.Profile k = profile_stops k (not-false b (sym (stand K.Profile k) ∙ f))
        by K.Entry k = entry_stops k (sym (stand K.Entry k) ∙ f)
        by K.End k = end_stops k (sym (stand K.End k) ∙ f)

-- ---- the length of the text

pub long_text : (t : List ℕ) → text_limit < length t → false ≡ text_good t
unfolding text_good
long_text t h = sym (ap (λ (b : Bool). b && reads_well (reading_of t)) (lt-leb (length t) text_limit h))

pub short_text : (t words : List ℕ) (s : ScannedText) → length t ≤ text_limit → Judged t words (reads_well (reading_of t)) s → Judged t words (text_good t) s
unfolding text_good
short_text t words s h g =
    record { right = g.right ∙ sym (ap (λ (b : Bool). b && reads_well (reading_of t)) (le-leb (length t) text_limit h)); room = g.room; listed = g.listed }
