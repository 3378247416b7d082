-- The tables of a good text are filled from the numbers of its lines, one after the other.
use Prim.Native.Nat.{ℕ, suc, ◌+◌, ◌-◌, ◌*◌, ◌≤◌, ◌<◌}
use native.Mathlib.Omega.{arith}
use native.Mathlib.Decide.{dec_lt, ℕ_discrete}
use native.Mathlib.Numerals.{add-one}
use mathlib.Core.Path.{◌≡◌, refl, sym, ap, ap₂, ◌∙◌, subst}
use mathlib.Core.Logic.{◌⊎◌, inl, inr, ⊎_elim}
use mathlib.Core.Bool.{Bool, true, false, cond}
use mathlib.Core.List.{List, [], ◌∷◌, ◌++◌}
use lib.Bits.{bit_or}
use lib.Dec.{eqb}
use lib.ListN.{length, get_or, drop, set, replicate, length-append, length-set, length-replicate, get_or-append, drop_of_length-le}
use lib.Seq.{drop-cons, get_or-append_seam, get_or-set_same, get_or-set_other}
use borrow.Author.Tests.{eqb-true, eq-eqb}
use Rattle.lists.specs.Lists.{same_list, known, position}
use Rattle.lists.proofs.Bools.{refuted, clash}
use Rattle.lists.proofs.Known.{position_lt, position_stays}
use Rattle.rules.specs.Answers.{data_width}
use Rattle.profiles.specs.Profiles.{PathEntry, Profile}
use Rattle.profiles.specs.Reading.{Line, lines_of}
use Rattle.profiles.specs.Scanning.{mode_bits}
use Rattle.profiles.specs.LineWords.{named_path, text_words}
use Rattle.profiles.specs.Texts.{profiled_once, text_good}
use Rattle.profiles.specs.declared.NamedPath.{NamedPath}
use Rattle.confinement.specs.Confinement.{with_path, with_paths, paths_of, modes_on}
use Rattle.confinement.specs.Images.{profiles_in}
use Rattle.confinement.specs.Tables.{path_at, no_profile, cell_count}
use Rattle.confinement.specs.Scans.{paths_from, table_paths, PathSpans, hint_count, Placed, LineAdded, Scanned}
use Rattle.confinement.proofs.PathsNamed.{Distinct, distinct_path, path_kept, path_added, paths_kept, paths_distinct, number_tells}
use Rattle.confinement.proofs.PathSearch.{paths_length, paths_more, places_table, places_distinct, places_more, position_known, position_last}
use Rattle.confinement.proofs.LineWalks.{good_once, line_names, names_of_lem, entered, opened, resumed, with_entry, resumed_whole}
use Rattle.confinement.proofs.LineWalks.{entered_length, resumed_grows, naming_lines, naming_names, naming_resumed, Told}
use Rattle.confinement.proofs.LineWalks.{good_told, told_end, Opens, Enters, Turn, is_profile, is_entry, turn}
use Rattle.confinement.proofs.EntryLaws.{few_programs, entered_before, entered_at, bits_last, no_bits, nothing_more, not_first, get_d_zeros}

-- ---- more paths

path_grows : (ns : List (List ℕ)) (q : List ℕ) → length ns ≤ length (with_path ns q)
unfolding with_path
path_grows ns q = by (known q ns)
  where
    by : (b : Bool) → length ns ≤ length (cond b ns (ns ++ (q ∷ [])))
    by true = omega arith
    by false = omega (arith, length-append ns (q ∷ []))

paths_grow : (ns qs : List (List ℕ)) → length ns ≤ length (with_paths ns qs)
unfolding with_paths
paths_grow ns [] = omega arith
paths_grow ns (q ∷ qs) = omega (arith, paths_grow (with_path ns q) qs, path_grows ns q)

path_old : (ns : List (List ℕ)) (q : List ℕ) → known q ns ≡ true → with_path ns q ≡ ns
unfolding with_path
path_old ns q h = rw h

path_new : (ns : List (List ℕ)) (q : List ℕ) → known q ns ≡ false → with_path ns q ≡ ns ++ (q ∷ [])
unfolding with_path
path_new ns q h = rw h

-- ---- each line names a path

record Named (t ws : List ℕ) (ls : List Line) (s : NamedPath) : Type 0 where
  pub rest : List Line
  pub names : line_names ls ≡ path_at t s.start s.size ∷ line_names rest
  pub told : Told t ws rest
  pub fits : s.start + s.size ≤ length t

module _ (t ws : List ℕ) (ls : List Line) (s : NamedPath) where
  named_opens : Opens t ws ls s → Named t ws ls s
  unfolding line_names
  named_opens x =
      record {
        rest = x.rest;
        names = ap line_names x.lines ∙ ap (λ (p : List ℕ). p ∷ line_names x.rest) (sym x.tells.text);
        told = x.told;
        fits = x.tells.fits;
      }

  named_enters : Enters t ws ls s → Named t ws ls s
  unfolding line_names
  named_enters x =
      record {
        rest = x.rest;
        names = ap line_names x.lines ∙ ap (λ (p : List ℕ). p ∷ line_names x.rest) (sym x.tells.text);
        told = x.told;
        fits = x.tells.fits;
      }

  named : Turn t ws ls s → Named t ws ls s
  named (is_profile x) = named_opens x
  named (is_entry x) = named_enters x

-- ---- a path is placed

path_position : (q x : List ℕ) (ns : List (List ℕ)) → known q ns ≡ true → position q (with_path ns x) ≡ position q ns
unfolding with_path
path_position q x ns h = by (known x ns)
  where
    by : (b : Bool) → position q (cond b ns (ns ++ (x ∷ []))) ≡ position q ns
    by true = refl
    by false = position_stays same_list q ns (x ∷ []) h

paths_position : (q : List ℕ) (ns xs : List (List ℕ)) → known q ns ≡ true → position q (with_paths ns xs) ≡ position q ns
unfolding with_paths
paths_position q ns [] h = refl
paths_position q ns (x ∷ xs) h = paths_position q (with_path ns x) xs (path_kept q x ns h) ∙ path_position q x ns h

module _ (t starts sizes : List ℕ) (n start size : ℕ) (g : PathSpans t starts sizes n) (f : start + size ≤ length t) (k : ℕ)
    (e : k ≡ position (path_at t start size) (table_paths t starts sizes n)) (hints : List ℕ) (w : length hints ≡ hint_count) where
  abbrev ns : List (List ℕ)
  ns = table_paths t starts sizes n

  abbrev sought : List ℕ
  sought = path_at t start size

  -- it has a number
  pub place_old : k < n → Placed t starts sizes n sought starts sizes hints k n
  place_old l =
      let h : known sought ns ≡ true = position_known sought ns (λ p. omega (arith, paths_length t starts sizes 0 n)) in
      record {
        full = λ m. absurd (omega (arith, g.few));
        spans = λ _. g;
        paths = λ _. sym (path_old ns sought h);
        found = λ _. e ∙ ap (position sought) (sym (path_old ns sought h));
        starts_long = g.starts_long;
        sizes_long = g.sizes_long;
        hints_long = w;
      }

  module _ (l : n ≤ k) where
    new : known sought ns ≡ false
    new = refuted (known sought ns) (λ p. omega (arith, position_lt same_list sought ns p, paths_length t starts sizes 0 n))

    pub place_full : n ≡ data_width → Placed t starts sizes n sought starts sizes hints data_width n
    place_full z =
        record {
          full = λ _. omega (arith, ap length (path_new ns sought new), length-append ns (sought ∷ []), paths_length t starts sizes 0 n);
          spans = λ m. absurd (omega arith);
          paths = λ m. absurd (omega arith);
          found = λ m. absurd (omega arith);
          starts_long = g.starts_long;
          sizes_long = g.sizes_long;
          hints_long = w;
        }

    pub place_room : (n ≡ data_width → ⊥) → n < data_width
    place_room z = omega (arith, g.few)

    pub place_new : (n ≡ data_width → ⊥) → Placed t starts sizes n sought (set starts n start) (set sizes n size) hints n (n + 1)
    place_new z =
        let r : n < data_width = omega (arith, g.few) in
        let more = paths_more t starts sizes n start size (omega (arith, g.starts_long)) (omega (arith, g.sizes_long)) in
        record {
          full = λ m. absurd (omega arith);
          spans = λ _. places_more t starts sizes n start size g r f
              (subst Distinct (path_new ns sought new ∙ sym more) (distinct_path ns sought (places_distinct t starts sizes n g)));
          paths = λ _. more ∙ sym (path_new ns sought new);
          found = λ _.
              sym (ap (position sought) (path_new ns sought new)
              ∙ position_last sought ns new
              ∙ paths_length t starts sizes 0 n);
          starts_long = length-set starts n start ∙ g.starts_long;
          sizes_long = length-set sizes n size ∙ g.sizes_long;
          hints_long = w;
        }

-- ---- the pass

-- the paths and the programs so far are listed, and with the lines that are left they are all; the rows of other programs are
-- blank. A table of more than 32 paths tells nothing.
pub record TextScan (t words starts sizes own modes : List ℕ) (i n m : ℕ) : Type 0 where
  pub left : List Line
  pub told : Told t (drop i words) left
  pub spans : PathSpans t starts sizes n
  pub paths : with_paths (table_paths t starts sizes n) (line_names left) ≡ paths_of (profiles_in t)
  pub once : profiled_once (profiles_in t) ≡ true
  pub done : List Profile
  pub whole : resumed done left ≡ profiles_in t
  pub begun : (1 ≤ m) ⊎ (left ≡ naming_lines (lines_of (profiles_in t)))
  pub room : m ≤ data_width
  pub count : m ≡ length done
  pub own_long : length own ≡ data_width
  pub modes_long : length modes ≡ cell_count
  pub owns : (j : ℕ) → j < m → get_or own j 0 ≡ position (get_or done j no_profile).path (paths_of (profiles_in t))
  pub cells : length (paths_of (profiles_in t)) ≤ data_width → (j k : ℕ) → j < m → k < length (paths_of (profiles_in t))
      → get_or modes (j * data_width + k) 0 ≡ mode_bits (modes_on (get_or done j no_profile) (get_or (paths_of (profiles_in t)) k []))
  pub blank : (i : ℕ) → m * data_width ≤ i → get_or modes i 0 ≡ 0

pub scan_start : (t words starts sizes own modes : List ℕ) → text_good t ≡ true → words ≡ text_words t → length starts ≡ data_width → length sizes ≡ data_width → length own ≡ data_width
    → modes ≡ replicate cell_count 0 → TextScan t words starts sizes own modes 0 0 0
unfolding paths_from paths_of
scan_start t words starts sizes own modes g e h k o z =
    record {
      left = naming_lines (lines_of (profiles_in t));
      told = subst (λ (ws : List ℕ). Told t ws (naming_lines (lines_of (profiles_in t)))) (sym e) (good_told t g);
      spans = record { few = omega arith; starts_long = h; sizes_long = k; within = λ i l. absurd (omega arith); once = λ i l. absurd (omega arith) };
      paths = ap (with_paths []) (naming_names (lines_of (profiles_in t)) ∙ names_of_lem (profiles_in t));
      once = good_once t g;
      done = [];
      whole = naming_resumed [] (lines_of (profiles_in t)) ∙ resumed_whole (profiles_in t);
      begun = inr refl;
      room = omega arith;
      count = refl;
      own_long = o;
      modes_long = ap length z ∙ length-replicate {A = ℕ} cell_count 0;
      owns = λ j l. absurd (omega arith);
      cells = λ _ j k l i. absurd (omega arith);
      blank = λ i l. ap (λ (x : List ℕ). get_or x i 0) z ∙ get_d_zeros cell_count i;
    }

module _ (t words starts sizes own modes : List ℕ) (i n m : ℕ) (g : TextScan t words starts sizes own modes i n m) where
  pub scan_end : length words ≤ i → Scanned t starts sizes own modes n m
  unfolding line_names with_paths resumed
  scan_end h =
      let none : g.left ≡ [] = told_end t (drop i words) g.left g.told (drop_of_length-le words h) in
      let e : g.done ≡ profiles_in t = sym (ap (resumed g.done) none) ∙ g.whole in
      let all : table_paths t starts sizes n ≡ paths_of (profiles_in t)
      = sym (ap (λ (ls : List Line). with_paths (table_paths t starts sizes n) (line_names ls)) none) ∙ g.paths in
      let few : length (paths_of (profiles_in t)) ≤ data_width = omega (arith, ap length all, paths_length t starts sizes 0 n, g.spans.few) in
      record {
        paths = λ _. places_table t (paths_of (profiles_in t)) starts sizes n g.spans all;
        programs = λ _.
            record {
              count = g.count ∙ ap length e;
              few = g.room;
              own_long = g.own_long;
              modes_long = g.modes_long;
              owns = λ j l. g.owns j l ∙ ap (λ (ps : List Profile). position (get_or ps j no_profile).path (paths_of (profiles_in t))) e;
              cells = λ j k l i.
                  g.cells few j k l i ∙ ap (λ (ps : List Profile). mode_bits (modes_on (get_or ps j no_profile) (get_or (paths_of (profiles_in t)) k []))) e;
            };
        many = λ l. absurd (omega (arith, g.spans.few));
      }

  module _ (s : NamedPath) (q : s ≡ named_path (get_or words i 0)) (l : i < length words) where
    abbrev more_words : List ℕ
    more_words = drop (i + 1) words

    this : Turn t more_words g.left s
    this =
        turn t (drop i words) g.left g.told (get_or words i 0) more_words
        (drop-cons words i 0 l ∙ ap (λ (k : ℕ). get_or words i 0 ∷ drop k words) (sym (add-one i))) s q

    -- a path
    abbrev path : List ℕ
    path = path_at t s.start s.size

    abbrev before : List (List ℕ)
    before = table_paths t starts sizes n

    module _ (line : Named t more_words g.left s) where
      paths_now : with_paths (with_path before path) (line_names line.rest) ≡ paths_of (profiles_in t)
      unfolding with_paths
      paths_now = ap (with_paths before) (sym line.names) ∙ g.paths

      known_now : known path (paths_of (profiles_in t)) ≡ true
      known_now = ap (known path) (sym paths_now) ∙ paths_kept path (with_path before path) (line_names line.rest) (path_added path before)

      number_now : position path (with_path before path) ≡ position path (paths_of (profiles_in t))
      number_now =
          sym (paths_position path (with_path before path) (line_names line.rest) (path_added path before)) ∙ ap (position path) paths_now

    line : Named t more_words g.left s
    line = named t more_words g.left s this

    pub named_fits : s.start + s.size ≤ length t
    named_fits = line.fits

    -- a line with modes is not the first
    pub line_begun : (s.modes ≡ 0 → ⊥) → 1 ≤ m
    line_begun b = by this
      where
        by : Turn t more_words g.left s → 1 ≤ m
        by (is_profile x) = absurd (b x.tells.modes)
        by (is_entry x) = ⊎_elim (λ h. h) (λ e. absurd (not_first (profiles_in t) x.entry x.rest (sym e ∙ x.lines))) g.begun

    module _ (starts' sizes' hints : List ℕ) (r c : ℕ) (p : Placed t starts sizes n path starts' sizes' hints r c) where
      many_paths : data_width ≤ r → data_width < length (paths_of (profiles_in t))
      many_paths h = omega (arith, p.full h, ap length (paths_now line), paths_grow (with_path before path) (line_names line.rest))

      module _ (h : r < data_width) where
        -- a profile's first line
        module _ (b : s.modes ≡ 0) where
          opening : Opens t more_words g.left s
          opening = by this
            where
              by : Turn t more_words g.left s → Opens t more_words g.left s
              by (is_profile x) = x
              by (is_entry x) = absurd (x.some (sym x.tells.modes ∙ b))

          abbrev more : List Profile
          more = g.done ++ (opened opening.path ∷ [])

          opening_whole : resumed more opening.rest ≡ profiles_in t
          unfolding resumed
          opening_whole = ap (resumed g.done) (sym opening.lines) ∙ g.whole

          opening_count : suc m ≤ length (profiles_in t)
          opening_count =
              omega (arith, g.count, length-append g.done (opened opening.path ∷ []), ap length opening_whole, resumed_grows more opening.rest)

          many_programs : m ≡ data_width → data_width < length (paths_of (profiles_in t))
          many_programs z = omega (arith, opening_count, few_programs (profiles_in t) g.once)

          module _ (opening_room : m < data_width) where
            number : r ≡ position opening.path (paths_of (profiles_in t))
            number = p.found h ∙ number_now (named_opens t more_words g.left s opening) ∙ ap (λ (x : List ℕ). position x (paths_of (profiles_in t))) opening.tells.text

            last : (j : ℕ) → j ≡ m → get_or more j no_profile ≡ opened opening.path
            last j e = ap (λ (k : ℕ). get_or more k no_profile) (e ∙ g.count) ∙ get_or-append_seam g.done (opened opening.path) [] no_profile

            others : (j : ℕ) → j < m → get_or more j no_profile ≡ get_or g.done j no_profile
            others j l = get_or-append g.done (opened opening.path ∷ []) no_profile j (omega (arith, g.count))

            own_at : (j : ℕ) → j < m + 1 → Dec (j < m) → get_or (set own m r) j 0 ≡ position (get_or more j no_profile).path (paths_of (profiles_in t))
            own_at j l (yes d) =
                get_or-set_other own m j r 0 (λ e. omega arith)
                ∙ g.owns j d
                ∙ ap (λ (x : Profile). position x.path (paths_of (profiles_in t))) (sym (others j d))
            own_at j l (no d) =
                let e : j ≡ m = omega arith in
                ap (λ (k : ℕ). get_or (set own m r) k 0) e
                ∙ get_or-set_same own m r 0 (omega (arith, g.own_long, opening_room))
                ∙ number
                ∙ ap (λ (x : Profile). position x.path (paths_of (profiles_in t))) (sym (last j e))

            cell_at : length (paths_of (profiles_in t)) ≤ data_width → (j k : ℕ) → k < length (paths_of (profiles_in t)) → j < m + 1 → Dec (j < m)
                → get_or modes (j * data_width + k) 0 ≡ mode_bits (modes_on (get_or more j no_profile) (get_or (paths_of (profiles_in t)) k []))
            cell_at f j k i l (yes d) =
                g.cells f j k d i ∙ ap (λ (x : Profile). mode_bits (modes_on x (get_or (paths_of (profiles_in t)) k []))) (sym (others j d))
            cell_at f j k i l (no d) =
                let e : j ≡ m = omega arith in
                g.blank (j * data_width + k) (omega arith)
                ∙ sym (ap (λ (x : Profile). mode_bits (modes_on x (get_or (paths_of (profiles_in t)) k []))) (last j e) ∙ no_bits opening.path (get_or (paths_of (profiles_in t)) k []))

            opening_passed : TextScan t words starts' sizes' (set own m r) modes (i + 1) c (m + 1)
            unfolding named_opens
            opening_passed =
                record {
                  left = opening.rest;
                  told = opening.told;
                  spans = p.spans h;
                  paths = ap (λ (x : List (List ℕ)). with_paths x (line_names opening.rest)) (p.paths h) ∙ paths_now (named_opens t more_words g.left s opening);
                  once = g.once;
                  done = more;
                  whole = opening_whole;
                  begun = inl (omega arith);
                  room = omega (arith, opening_room);
                  count = omega (arith, g.count, length-append g.done (opened opening.path ∷ []));
                  own_long = length-set own m r ∙ g.own_long;
                  modes_long = g.modes_long;
                  owns = λ j l. own_at j l (dec_lt j m);
                  cells = λ f j k l i. cell_at f j k i l (dec_lt j m);
                  blank = λ i l. g.blank i (omega arith);
                }

        -- a line of an entry
        module _ (b : s.modes ≡ 0 → ⊥) where
          entering : Enters t more_words g.left s
          entering = by this
            where
              by : Turn t more_words g.left s → Enters t more_words g.left s
              by (is_profile x) = absurd (b x.tells.modes)
              by (is_entry x) = x

          abbrev entry : PathEntry
          entry = entering.entry

          entering_begun : 1 ≤ m
          entering_begun = line_begun b

          entering_cell : (m - 1) * data_width + r < length modes
          entering_cell = omega (arith, g.modes_long, h, g.room, entering_begun)

          number_of : r ≡ position entry.path (paths_of (profiles_in t))
          number_of = p.found h ∙ number_now (named_enters t more_words g.left s entering) ∙ ap (λ (x : List ℕ). position x (paths_of (profiles_in t))) entering.tells.text

          entry_known : known entry.path (paths_of (profiles_in t)) ≡ true
          entry_known = ap (λ (x : List ℕ). known x (paths_of (profiles_in t))) (sym entering.tells.text) ∙ known_now (named_enters t more_words g.left s entering)

          abbrev after : List ℕ
          after = set modes ((m - 1) * data_width + r) (bit_or (get_or modes ((m - 1) * data_width + r) 0) s.modes)

          abbrev news : List Profile
          news = entered g.done entry

          abbrev nth : ℕ → List ℕ
          nth k = get_or (paths_of (profiles_in t)) k []

          -- the last program has one more entry
          newest : (j : ℕ) → suc j ≡ m → get_or news j no_profile ≡ with_entry (get_or g.done j no_profile) entry
          newest j z = entered_at g.done entry j (z ∙ g.count)

          older : (j : ℕ) → suc j < m → get_or news j no_profile ≡ get_or g.done j no_profile
          older j l = entered_before g.done entry j (omega (arith, g.count))

          own_still : (j : ℕ) → j < m → get_or own j 0 ≡ position (get_or news j no_profile).path (paths_of (profiles_in t))
          own_still j l = g.owns j l ∙ by (dec_lt (suc j) m)
            where
              by : Dec (suc j < m) → position (get_or g.done j no_profile).path (paths_of (profiles_in t)) ≡ position (get_or news j no_profile).path (paths_of (profiles_in t))
              by (yes h) = ap (λ (x : Profile). position x.path (paths_of (profiles_in t))) (sym (older j h))
              by (no h) = let z : suc j ≡ m = omega arith in ap (λ (x : Profile). position x.path (paths_of (profiles_in t))) (sym (newest j z))

          tells : (k : ℕ) → k < length (paths_of (profiles_in t)) → same_list (nth k) entry.path ≡ eqb r k
          tells k l =
              sym (number_tells (paths_of (profiles_in t)) (paths_distinct (profiles_in t)) entry.path entry_known k l)
              ∙ ap (λ (x : ℕ). eqb x k) (sym number_of)

          module _ (f : length (paths_of (profiles_in t)) ≤ data_width) where
            -- its modes on a path, by whether the entry is of this
            newest_bits : (j k : ℕ) → suc j ≡ m → k < length (paths_of (profiles_in t)) → (c : Bool) → eqb r k ≡ c
                → mode_bits (modes_on (get_or news j no_profile) (nth k)) ≡ bit_or (get_or modes (j * data_width + k) 0) (mode_bits (cond c entry.modes []))
            newest_bits j k z l c e =
                ap (λ (x : Profile). mode_bits (modes_on x (nth k))) (newest j z)
                ∙ bits_last (get_or g.done j no_profile) entry (nth k)
                ∙ ap₂ bit_or (sym (g.cells f j k (omega arith) l)) (ap (λ (d : Bool). mode_bits (cond d entry.modes [])) (tells k l ∙ e))

            cell_newest : (j k : ℕ) → suc j ≡ m → k < length (paths_of (profiles_in t)) → (c : Bool) → eqb r k ≡ c
                → get_or after (j * data_width + k) 0 ≡ mode_bits (modes_on (get_or news j no_profile) (nth k))
            cell_newest j k z l true e =
                let x : (m - 1) * data_width + r ≡ j * data_width + k = omega (arith, eqb-true r k e) in
                ap (λ (i : ℕ). get_or (set modes i (bit_or (get_or modes i 0) s.modes)) (j * data_width + k) 0) x
                ∙ get_or-set_same modes (j * data_width + k) (bit_or (get_or modes (j * data_width + k) 0) s.modes) 0 (omega (arith, entering_cell))
                ∙ ap (bit_or (get_or modes (j * data_width + k) 0)) entering.tells.modes
                ∙ sym (newest_bits j k z l true e)
            cell_newest j k z l false e =
                get_or-set_other modes ((m - 1) * data_width + r) (j * data_width + k) (bit_or (get_or modes ((m - 1) * data_width + r) 0) s.modes) 0
                (λ x. let y : r ≡ k = omega arith in clash (eq-eqb r k y) e)
                ∙ sym (newest_bits j k z l false e ∙ nothing_more (get_or modes (j * data_width + k) 0))

            cell_still : (j k : ℕ) → j < m → k < length (paths_of (profiles_in t)) → get_or after (j * data_width + k) 0 ≡ mode_bits (modes_on (get_or news j no_profile) (nth k))
            cell_still j k l i = by (dec_lt (suc j) m)
              where
                by : Dec (suc j < m) → get_or after (j * data_width + k) 0 ≡ mode_bits (modes_on (get_or news j no_profile) (nth k))
                by (yes d) =
                    get_or-set_other modes ((m - 1) * data_width + r) (j * data_width + k) (bit_or (get_or modes ((m - 1) * data_width + r) 0) s.modes) 0
                    (λ x. omega arith)
                    ∙ g.cells f j k l i
                    ∙ ap (λ (x : Profile). mode_bits (modes_on x (nth k))) (sym (older j d))
                by (no d) = let z : suc j ≡ m = omega arith in cell_newest j k z i (eqb r k) refl

          entering_whole : resumed news entering.rest ≡ profiles_in t
          unfolding resumed
          entering_whole = ap (resumed g.done) (sym entering.lines) ∙ g.whole

          entering_passed : TextScan t words starts' sizes' own after (i + 1) c m
          unfolding named_enters
          entering_passed =
              record {
                left = entering.rest;
                told = entering.told;
                spans = p.spans h;
                paths = ap (λ (x : List (List ℕ)). with_paths x (line_names entering.rest)) (p.paths h) ∙ paths_now (named_enters t more_words g.left s entering);
                once = g.once;
                done = news;
                whole = entering_whole;
                begun = inl entering_begun;
                room = g.room;
                count = g.count ∙ sym (entered_length g.done entry);
                own_long = g.own_long;
                modes_long = length-set modes ((m - 1) * data_width + r) (bit_or (get_or modes ((m - 1) * data_width + r) 0) s.modes) ∙ g.modes_long;
                owns = own_still;
                cells = cell_still;
                blank = λ i l.
                    get_or-set_other modes ((m - 1) * data_width + r) i (bit_or (get_or modes ((m - 1) * data_width + r) 0) s.modes) 0
                    (λ x. omega (arith, h, entering_begun))
                    ∙ g.blank i l;
              }

      module _ (own' modes' : List ℕ) (m' : ℕ) (a : LineAdded own modes m r s.modes own' modes' m') where
        -- there is no room for the line
        pub line_over : data_width < m' → (u v : ℕ) → u ≡ data_width + 1 → Scanned t starts' sizes' own' modes' u v
        line_over h u v e =
            record {
              paths = λ l. absurd (omega arith);
              programs = λ l. absurd (omega arith);
              many = λ _. ⊎_elim many_paths (λ w. many_programs w.0 w.1 w.2) (a.full h);
            }

        pub line_passed : m' ≤ data_width → TextScan t words starts' sizes' own' modes' (i + 1) c m'
        line_passed l = by (ℕ_discrete s.modes 0)
          where
            by : Dec (s.modes ≡ 0) → TextScan t words starts' sizes' own' modes' (i + 1) c m'
            by (yes b) = let o = a.opened l b in rw (o.1, o.2, o.3) (opening_passed (a.fits l) b o.0)
            by (no b) = let o = a.entered l b in rw (o.0, o.1, o.2) (entering_passed (a.fits l) b)
