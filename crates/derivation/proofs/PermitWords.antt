-- The permit rules as words: the loop over the writers of an object, and the loop over the objects.
use Prim.Native.Nat.{ℕ, suc, ◌+◌, ◌-◌, ◌*◌, ◌/◌, ◌%◌, ◌^◌, ◌≤◌, ◌<◌}
use mathlib.Core.Path.{◌≡◌, refl, sym, ap, ap₂, ◌∙◌}
use mathlib.Core.Bool.{Bool, true, cond}
use mathlib.Core.List.{List, [], ◌∷◌, ◌++◌, map, append-nil, append_assoc}
use native.Mathlib.Omega.{arith}
use native.Mathlib.Nat.{zero-add, one-mul, mod-eq_of_lt}
use native.Mathlib.Numerals.{add-one}
use lib.Bits.{bit_or}
use lib.Pow.{pow-lt}
use lib.ListN.{length, get_or, take, drop, set, replicate, length-append, length-map, length-replicate, replicate-append-replicate, drop_of_length-le}
use lib.Seq.{drop-cons, drop_at, take_at}
use lib.Dec.{leb}
use borrow.Author.Tests.{le-leb}
use borrow.Rule.Slice.PartMut.{put_mid}
use Rattle.lists.specs.Lists.{joined, every}
use Rattle.lists.proofs.Places.{map_at}
use Rattle.lists.proofs.Every.{every_map}
use Rattle.fields.specs.Writing.{overwritten}
use Rattle.fields.proofs.RowWriting.{RowsWritten, rows_start, rows_room, rows_next, rows_end, part_wrote, wrote_whole}
use Rattle.std.specs.Prelude.{Option, Some, None}
use Rattle.rules.proofs.BoundedLaws.{bounded_some, bounded_there}
use Rattle.rules.specs.Answers.{mixture_limit, padded, bounded_if_fits}
use Rattle.rules.specs.declared.Bounded.{Bounded}
use Rattle.rules.specs.Rules.{normal}
use Rattle.rules.proofs.RuleLaws.{normal_length}
use Rattle.rule_words.specs.Words.{rule_width, rule_of, words_of, kept_well}
use Rattle.rule_words.proofs.WordLaws.{words_nine, bounded_words_lem}
use Rattle.rule_words.proofs.KeptWords.{kept_normal}
use Rattle.image.specs.Limits.{no_owner}
use Rattle.image.specs.Normal.{free_use}
use Rattle.normaliser.specs.Writer.{unowned, form_width, form_row, normal_use, form_words}
use Rattle.normaliser.proofs.RuleForms.{short_use, row_long, row_put}
use Rattle.normaliser.proofs.WriterLaws.{words_length}
use Rattle.matrix.specs.Limits.{subject_limit, object_limit}
use Rattle.matrix.specs.Flows.{has}
use Rattle.matrix.proofs.RowBits.{has_is, has_not}
use Rattle.lists.specs.Counting.{count_from}
use Rattle.lists.proofs.Counting.{count_length, count_at, every_count}
use Rattle.derivation.specs.Derived.{writer_mixtures, or_alone, permit_of}
use Rattle.derivation.proofs.DerivedLaws.{few_mixtures}

-- ---- one more mixture

set_behind : (r : List ℕ) (k v : ℕ) → set (r ++ replicate (suc k) 0) (length r) v ≡ (r ++ (v ∷ [])) ++ replicate k 0
set_behind [] k v = refl
set_behind (m ∷ r) k v = ap (λ (l : List ℕ). m ∷ l) (set_behind r k v)

set_padded : (r : List ℕ) (v : ℕ) → length r < mixture_limit → set (padded r) (length r) v ≡ padded (r ++ (v ∷ []))
unfolding padded
set_padded r v l =
    let e : mixture_limit - length r ≡ suc (mixture_limit - length (r ++ (v ∷ []))) = omega (arith, length-append r (v ∷ [])) in
    ap (λ (k : ℕ). set (r ++ replicate k 0) (length r) v) e ∙ set_behind r (mixture_limit - length (r ++ (v ∷ []))) v

-- ---- the writers of object b: the first s subjects are done

pub record PermitListed (reads writes : List ℕ) (b : ℕ) (words : List ℕ) (count s : ℕ) : Type 0 where
  pub place : s ≤ length reads
  pub even : length writes ≡ length reads
  pub few : length reads ≤ subject_limit
  pub done : List ℕ
  pub sum : count ≡ length done
  pub most : length done ≤ s
  pub words_are : words ≡ 0 ∷ padded done
  pub left : done ++ writer_mixtures (drop s reads) (drop s writes) b ≡ writer_mixtures reads writes b

pub permit_start : (reads writes : List ℕ) (b : ℕ) {words : List ℕ} → length writes ≡ length reads → length reads ≤ subject_limit
    → words ≡ replicate rule_width 0 → PermitListed reads writes b words 0 0
unfolding padded
permit_start reads writes b e f z = record { place = omega arith; even = e; few = f; done = []; sum = refl; most = omega arith; words_are = z; left = refl }

module _ {reads writes : List ℕ} {b : ℕ} {words : List ℕ} {count s : ℕ} (g : PermitListed reads writes b words count s) where
  pub permit_long : length words ≡ rule_width
  unfolding padded
  permit_long =
      ap length g.words_are
      ∙ omega (arith, length-append g.done (replicate (mixture_limit - length g.done) 0), length-replicate {A = ℕ} (mixture_limit - length g.done) 0, g.most, g.place, g.few)

  -- the mixtures from s on, by whether s writes
  abbrev next_mixtures : Bool → List ℕ
  next_mixtures writing =
      cond writing (bit_or (get_or reads s 0) (2 ^ b) ∷ writer_mixtures (drop (s + 1) reads) (drop (s + 1) writes) b)
      (writer_mixtures (drop (s + 1) reads) (drop (s + 1) writes) b)

  writers_next : s < length reads → writer_mixtures (drop s reads) (drop s writes) b ≡ next_mixtures (has (get_or writes s 0) b)
  unfolding writer_mixtures
  writers_next l =
      let p : s < length writes = omega (arith, g.even) in
      rw (drop-cons reads s 0 l, drop-cons writes s 0 p, add-one)

  pub permit_take : s < length reads → get_or writes s 0 / 2 ^ b % 2 ≡ 1 → {v : ℕ} → v ≡ bit_or (get_or reads s 0) (2 ^ b) → PermitListed reads writes b (set words (count + 1) v) (count + 1) (s + 1)
  permit_take l t {v} e =
      record {
        place = omega arith;
        even = g.even;
        few = g.few;
        done = g.done ++ (v ∷ []);
        sum = omega (arith, length-append g.done (v ∷ []), g.sum);
        most = omega (arith, length-append g.done (v ∷ []), g.most);
        words_are =
            ap₂ (λ (x : List ℕ) (k : ℕ). set x k v) g.words_are (add-one count ∙ ap suc g.sum)
            ∙ ap (λ (x : List ℕ). 0 ∷ x) (set_padded g.done v (omega (arith, g.most, g.few)));
        left = append_assoc g.done (v ∷ []) (writer_mixtures (drop (s + 1) reads) (drop (s + 1) writes) b) ∙ ap (λ (x : List ℕ). g.done ++ x) (sym one) ∙ g.left;
      }
    where
      one : writer_mixtures (drop s reads) (drop s writes) b ≡ v ∷ writer_mixtures (drop (s + 1) reads) (drop (s + 1) writes) b
      one =
          writers_next l ∙ ap next_mixtures (has_is (get_or writes s 0) b t)
          ∙ ap (λ (m : ℕ). m ∷ writer_mixtures (drop (s + 1) reads) (drop (s + 1) writes) b) (sym e)

  pub permit_leave : s < length reads → (get_or writes s 0 / 2 ^ b % 2 ≡ 1 → ⊥) → PermitListed reads writes b words count (s + 1)
  permit_leave l t =
      record {
        place = omega arith;
        even = g.even;
        few = g.few;
        done = g.done;
        sum = g.sum;
        most = omega (arith, g.most);
        words_are = g.words_are;
        left = ap (λ (x : List ℕ). g.done ++ x) (sym none) ∙ g.left;
      }
    where
      none : writer_mixtures (drop s reads) (drop s writes) b ≡ writer_mixtures (drop (s + 1) reads) (drop (s + 1) writes) b
      none =
          writers_next l ∙ ap next_mixtures (has_not (get_or writes s 0) b t)

  all_done : length reads ≤ s → g.done ≡ writer_mixtures reads writes b
  unfolding writer_mixtures
  all_done l =
      let e : drop s reads ≡ [] = drop_of_length-le reads {i = s} l in
      sym (append-nil g.done) ∙ ap (λ (x : List ℕ). g.done ++ x) (sym (ap (λ (r : List ℕ). writer_mixtures r (drop s writes) b) e)) ∙ g.left

  -- no writer
  pub permit_alone : length reads ≤ s → count ≡ 0 → {own : ℕ} → own ≡ 2 ^ b → set (set words 0 1) 1 own ≡ words_of (permit_of reads writes b)
  unfolding permit_of or_alone words_of padded
  permit_alone l z {own} e = by g.done g.words_are (sym g.sum ∙ z) (all_done l)
    where
      by : (d : List ℕ)
          → words ≡ 0 ∷ (d ++ replicate (mixture_limit - length d) 0) → length d ≡ 0 → d ≡ writer_mixtures reads writes b
          → set (set words 0 1) 1 own ≡ words_of (or_alone b (writer_mixtures reads writes b))
      by [] w n q = rw (← q) (ap (λ (x : List ℕ). set (set x 0 1) 1 own) w ∙ ap (λ (m : ℕ). 1 ∷ m ∷ replicate 7 0) e)
      by (m ∷ d) w n q = absurd (omega arith)

  -- a mixture for each writer
  pub permit_writers : length reads ≤ s → (count ≡ 0 → ⊥) → set words 0 count ≡ words_of (permit_of reads writes b)
  unfolding permit_of or_alone words_of
  permit_writers l z = by g.done g.words_are g.sum (all_done l)
    where
      by : (d : List ℕ) → words ≡ 0 ∷ padded d → count ≡ length d → d ≡ writer_mixtures reads writes b
          → set words 0 count ≡ length (or_alone b (writer_mixtures reads writes b)) ∷ padded (or_alone b (writer_mixtures reads writes b))
      by [] w n q = absurd (z n)
      by (m ∷ d) w n q = rw (← q) (ap₂ (λ (x : List ℕ) (k : ℕ). set x 0 k) w n)

-- the mixture of the object itself, as code makes it
pub own_is : (b : ℕ) → b < object_limit → 1 * 2 ^ b % 2 ^ 64 ≡ 2 ^ b
own_is b l =
    let p : b < 64 = omega arith in
    ap (λ (x : ℕ). x % 2 ^ 64) (one-mul (2 ^ b)) ∙ mod-eq_of_lt (pow-lt p)

-- ---- the words of a rule in normal form

module _ (ws : List ℕ) (l : length (rule_of ws) ≤ mixture_limit) (e : ws ≡ words_of (rule_of ws)) where
  pub settle_long : length ws ≡ rule_width
  settle_long = ap length e ∙ words_nine (rule_of ws) l

  pub settle_count : get_or ws 0 0 ≤ mixture_limit
  unfolding words_of
  settle_count = omega (arith, l, ap (λ (x : List ℕ). get_or x 0 0) e)

  pub settle_kept : kept_well ws ≡ true → ws ≡ words_of (normal (rule_of ws))
  settle_kept h = e ∙ ap words_of (sym (kept_normal ws h))

  module _ {r : List ℕ} (f : r ≡ rule_of ws) {o : Option Bounded} (g : o ≡ bounded_if_fits (normal r)) where
    settle_rule : o ≡ bounded_if_fits (normal (rule_of ws))
    settle_rule = g ∙ ap (λ (x : List ℕ). bounded_if_fits (normal x)) f

    pub settle_made : {m : Bounded} → o ≡ Some m → {out : List ℕ} → out ≡ m.count ∷ m.mixtures → out ≡ words_of (normal (rule_of ws))
    settle_made {m} e h = h ∙ bounded_words_lem (normal (rule_of ws)) m (bounded_some (normal (rule_of ws)) settle_rule e).1

    pub settle_there : o ≡ None → ⊥
    settle_there e = bounded_there (normal (rule_of ws)) (omega (arith, l, normal_length (rule_of ws))) settle_rule e

-- ---- the objects, one after the other

zeros_part : (a w k : ℕ) → take {A = ℕ} w (drop a (replicate (a + (w + k)) 0)) ≡ replicate w 0
zeros_part a w k =
    ap (λ (x : List ℕ). take w (drop a x)) (sym (replicate-append-replicate {A = ℕ} a (w + k) 0))
    ∙ ap (take {A = ℕ} w) (drop_at {A = ℕ} (replicate a 0) (replicate (w + k) 0) a (length-replicate {A = ℕ} a 0))
    ∙ ap (take {A = ℕ} w) (sym (replicate-append-replicate {A = ℕ} w k 0))
    ∙ take_at {A = ℕ} (replicate w 0) (replicate k 0) w (length-replicate {A = ℕ} w 0)

module _ (reads writes : List ℕ) (n : ℕ) where
  abbrev pub permits : List (List ℕ)
  permits = map (permit_of reads writes) (count_from 0 n)

  abbrev pub permit_rows : List (List ℕ)
  permit_rows = map form_row (map normal_use (map unowned permits))

  permits_count : length permits ≡ n
  permits_count = length-map (count_from 0 n) (permit_of reads writes) ∙ count_length 0 n

  unowned_count : length (map unowned permits) ≡ n
  unowned_count = length-map permits unowned ∙ permits_count

  pub permit_rows_lem : length permit_rows ≡ n
  permit_rows_lem = length-map (map normal_use (map unowned permits)) form_row ∙ length-map (map unowned permits) normal_use ∙ unowned_count

  -- the row of object b
  abbrev row : ℕ → List ℕ
  row b = form_row (normal_use (unowned (permit_of reads writes b)))

  pub permit_row : (b : ℕ) → b < n → row b ≡ get_or permit_rows b []
  permit_row b l =
      sym
      (map_at form_row (map normal_use (map unowned permits)) b free_use [] (omega (arith, length-map (map unowned permits) normal_use, unowned_count))
      ∙ ap form_row (map_at normal_use (map unowned permits) b free_use free_use (omega (arith, unowned_count))
      ∙ ap normal_use (map_at unowned permits b [] free_use (omega (arith, permits_count))
      ∙ ap unowned (map_at (permit_of reads writes) (count_from 0 n) b 0 [] (omega (arith, count_length 0 n)) ∙ ap (permit_of reads writes) (count_at 0 n b l ∙ zero-add b)))))

  module _ (few : length reads ≤ subject_limit) where
    words_long : (b : ℕ) → length (words_of (normal (permit_of reads writes b))) ≡ rule_width
    words_long b = words_nine (normal (permit_of reads writes b)) (omega (arith, normal_length (permit_of reads writes b), few_mixtures reads writes b few))

    -- the words of the rule, then nobody
    pub row_done : (b : ℕ) (zeros : List ℕ) {ws : List ℕ} → length zeros ≡ form_width → ws ≡ words_of (normal (permit_of reads writes b))
        → set (put_mid 0 (rule_width - 0) zeros ws) rule_width no_owner ≡ row b
    unfolding form_row normal_use unowned
    row_done b zeros {ws} h e = row_put zeros ws no_owner h (ap length e ∙ words_long b) ∙ ap (λ (x : List ℕ). x ++ (no_owner ∷ [])) e

    long_row : (b : ℕ) → length (row b) ≡ form_width
    unfolding normal_use unowned
    long_row b =
        row_long (record { owner = no_owner; mixtures = normal (permit_of reads writes b) })
        (omega (arith, normal_length (permit_of reads writes b), few_mixtures reads writes b few))

    permits_short : every short_use (map unowned permits) ≡ true
    permits_short =
        every_map (λ r. leb (length r) mixture_limit) short_use unowned permits (λ r h. unfold unowned in h)
        (every_count (λ r. leb (length r) mixture_limit) (permit_of reads writes) 0 n (λ b l m. le-leb (length (permit_of reads writes b)) mixture_limit (few_mixtures reads writes b few)))

    pub permits_size : length (form_words (map unowned permits)) ≡ n * form_width
    permits_size = words_length (map unowned permits) permits_short ∙ ap (λ (k : ℕ). k * form_width) unowned_count

    pub permits_start : {words : List ℕ} → words ≡ replicate (n * form_width) 0 → RowsWritten permit_rows words 0 words 0 0
    unfolding form_words
    permits_start {words} e = rows_start permit_rows words 0 (omega (arith, permits_size, ap length e, length-replicate {A = ℕ} (n * form_width) 0))

    module _ {before words : List ℕ} {b : ℕ} (g : RowsWritten permit_rows before 0 words (b * form_width) b) (l : b < n) where
      pub permits_room : b * form_width + form_width ≤ length words
      permits_room = omega (arith, rows_room g (omega (arith, permit_rows_lem)), ap length (permit_row b l), long_row b)

      -- the words of the next rule are still 0
      pub permits_zero : before ≡ replicate (n * form_width) 0 → take (b * form_width + form_width - b * form_width) (drop (b * form_width) words) ≡ replicate form_width 0
      unfolding overwritten
      permits_zero z =
          let w : b * form_width + form_width - b * form_width ≡ form_width = omega arith in
          let k : length (joined (take b permit_rows)) ≡ b * form_width = omega (arith, g.wrote.ends) in
          let d : drop (b * form_width) words ≡ drop (b * form_width) before =
          ap (drop (b * form_width)) g.wrote.buffer
          ∙ drop_at (joined (take b permit_rows)) (drop (0 + length (joined (take b permit_rows))) before) (b * form_width) k
          ∙ ap (λ (j : ℕ). drop j before) (zero-add (length (joined (take b permit_rows))) ∙ k) in
          let r : n * form_width ≡ b * form_width + (form_width + (n - (b + 1)) * form_width) = omega arith in
          ap₂ (λ (j : ℕ) (x : List ℕ). take j x) w (d ∙ ap (drop (b * form_width)) (z ∙ ap (λ (j : ℕ). replicate j 0) r))
          ∙ zeros_part (b * form_width) form_width ((n - (b + 1)) * form_width)

      pub permits_next : {ws : List ℕ} → ws ≡ row b
          → RowsWritten permit_rows before 0 (put_mid (b * form_width) (b * form_width + form_width - b * form_width) words ws) ((b + 1) * form_width) (b + 1)
      permits_next {ws} e =
          let m : b * form_width + form_width ≡ (b + 1) * form_width = omega arith in
          let w = part_wrote words ws (b * form_width) form_width (ap length e ∙ long_row b) in
          rows_next g (omega (arith, permit_rows_lem)) (e ∙ permit_row b l) (record { buffer = w.buffer; ends = sym m ∙ w.ends })

    pub permits_end : {before words : List ℕ} {b : ℕ} → RowsWritten permit_rows before 0 words (b * form_width) b → before
        ≡ replicate (n * form_width) 0 → n ≤ b → words ≡ form_words (map unowned permits)
    unfolding form_words
    permits_end g z l = wrote_whole (ap length z ∙ length-replicate {A = ℕ} (n * form_width) 0 ∙ sym permits_size) (rows_end g (omega (arith, permit_rows_lem)))
