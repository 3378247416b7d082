-- A line that names a path in one number: it tells the path again, and the numbers of a text are listed line by line.
use Prim.Native.Nat.{ℕ, ◌+◌, ◌*◌, ◌/◌, ◌%◌, ◌^◌, ◌≤◌, ◌<◌}
use mathlib.Core.Path.{◌≡◌, refl, sym, ap, ◌∙◌, subst}
use mathlib.Core.List.{List, [], ◌∷◌, ◌++◌}
use mathlib.Core.Option.{Option, none, some}
use Rattle.std.proofs.Common.{Some}
use native.Mathlib.Omega.{arith}
use native.Mathlib.Numerals.{add-one}
use lib.Bits.{bit_or, or_lt}
use lib.ListN.{length, take, drop, set}
use lib.Seq.{append_snoc, take-set-le, take-suc-set}
use Rattle.lists.proofs.Bools.{and_0}
use Rattle.profiles.specs.Profiles.{Mode, mode_r, mode_w, mode_a, mode_l, mode_m, mode_ix, mode_px, mode_Px, mode_ux, mode_Ux, PathEntry, path_good, entry_good, modes_good}
use Rattle.profiles.specs.Reading.{Line, opens, enters, closes, line_text, line_in, lines_in}
use Rattle.profiles.specs.Texts.{text_limit}
use Rattle.profiles.specs.Notes.{length_limit}
use Rattle.profiles.specs.Scanning.{mode_bit, with_modes, mode_bits, line_scan, line_at, modes_limit}
use Rattle.profiles.specs.LineWords.{line_word, named_path, line_words}
use Rattle.profiles.specs.declared.ScannedLine.{ScannedLine}
use Rattle.profiles.proofs.PathBytes.{path_parts}
use Rattle.profiles.proofs.LineScans.{lines_more}
use Rattle.profiles.proofs.Walks.{is_line, no_none, profile_at, entry_at, walk_end}

-- ---- the bits of modes are few

bit_small : (m : Mode) → mode_bit m < 2 ^ 10
unfolding mode_bit
bit_small mode_r = omega arith
bit_small mode_w = omega arith
bit_small mode_a = omega arith
bit_small mode_l = omega arith
bit_small mode_m = omega arith
bit_small mode_ix = omega arith
bit_small mode_px = omega arith
bit_small mode_Px = omega arith
bit_small mode_ux = omega arith
bit_small mode_Ux = omega arith

with_small : (n : ℕ) (ms : List Mode) → n < 2 ^ 10 → with_modes n ms < 2 ^ 10
unfolding with_modes
with_small n [] h = h
with_small n (m ∷ ms) h = with_small (bit_or n (mode_bit m)) ms (or_lt 10 n (mode_bit m) h (bit_small m))

bits_small : (ms : List Mode) → mode_bits ms < modes_limit
unfolding mode_bits
bits_small ms = omega (arith, with_small 0 ms (omega arith))

-- ---- a scanned line fits into a number

pub record Small (s : ScannedLine) : Type 0 where
  pub path : s.path < text_limit
  pub size : s.length < length_limit
  pub modes : s.modes < modes_limit

pub small_line : (t : List ℕ) (at : ℕ) → at < length t → length t ≤ text_limit → (s : ScannedLine) → Some s ≡ line_at t at → Small s
unfolding line_scan entry_good
small_line t at i h s q = by (line_in (drop at t)) refl
  where
    by : (o : Option Line) → line_in (drop at t) ≡ o → Small s
    by none e = absurd (no_none t at (omega arith) s q e)
    by (some (opens p)) e =
        let x = profile_at t at (omega arith) s q (ap (λ (y : ScannedLine). y.kind) (is_line t at (omega arith) s q (opens p) e)) in
        record {
          path = omega (arith, x.room, x.ahead);
          size = omega (arith, x.size, (path_parts x.path x.good).2);
          modes = omega (arith, ap (λ (y : ScannedLine). y.modes) (is_line t at (omega arith) s q (opens p) e));
        }
    by (some (enters y)) e =
        let x = entry_at t at (omega arith) s q (ap (λ (y : ScannedLine). y.kind) (is_line t at (omega arith) s q (enters y) e)) in
        record {
          path = omega (arith, x.start);
          size = omega (arith, x.size, (path_parts x.entry.path (and_0 (path_good x.entry.path) (modes_good x.entry.modes) x.good)).2);
          modes = omega (arith, x.modes, bits_small x.entry.modes);
        }
    by (some closes) e = subst Small (sym (is_line t at (omega arith) s q closes e)) (record { path = omega arith; size = omega arith; modes = omega arith })

-- the number tells the path again
pub word_back : (s : ScannedLine) → Small s → named_path (line_word s) ≡ record { start = s.path; size = s.length; modes = s.modes }
unfolding named_path line_word
word_back s h =
    let w = s.path + text_limit * (s.length + length_limit * s.modes) in
    let a : w % text_limit ≡ s.path = omega (arith, h.path, h.size) in
    let u : w / text_limit ≡ s.length + length_limit * s.modes = omega (arith, h.path) in
    let v : (s.length + length_limit * s.modes) % length_limit ≡ s.length = omega (arith, h.size) in
    let b : w / text_limit % length_limit ≡ s.length = ap (λ (k : ℕ). k % length_limit) u ∙ v in
    let c : w / (text_limit * length_limit) ≡ s.modes = omega (arith, h.path, h.size) in
    λ i. record { start = a i; size = b i; modes = c i }

-- ---- the numbers of the lines from a place on

unfoldable pub words_from : List ℕ → ℕ → List ℕ
words_from t at = line_words at (lines_in (drop at t))

pub words_none : (t : List ℕ) (at : ℕ) → length t ≤ at → words_from t at ≡ []
unfolding words_from line_words
words_none t at l = ap (line_words at) (walk_end t at l)

module _ (t : List ℕ) (at : ℕ) (i : at < length t) (s : ScannedLine) (q : Some s ≡ line_at t at) where
  pub words_profile : (p : List ℕ) → line_in (drop at t) ≡ some (opens p) → s.next ≡ at + length (line_text (opens p)) → words_from t at ≡ line_word s ∷ words_from t s.next
  unfolding words_from line_words
  words_profile p e n =
      ap (line_words at) (lines_more t at (opens p) i e)
      ∙ ap (λ (x : ScannedLine). line_word x ∷ line_words (at + length (line_text (opens p))) (lines_in (drop (at + length (line_text (opens p))) t)))
      (sym (is_line t at (omega arith) s q (opens p) e))
      ∙ ap (λ (k : ℕ). line_word s ∷ line_words k (lines_in (drop k t))) (sym n)

  pub words_entry : (x : PathEntry) → line_in (drop at t) ≡ some (enters x) → s.next ≡ at + length (line_text (enters x)) → words_from t at ≡ line_word s ∷ words_from t s.next
  unfolding words_from line_words
  words_entry x e n =
      ap (line_words at) (lines_more t at (enters x) i e)
      ∙ ap (λ (y : ScannedLine). line_word y ∷ line_words (at + length (line_text (enters x))) (lines_in (drop (at + length (line_text (enters x))) t)))
      (sym (is_line t at (omega arith) s q (enters x) e))
      ∙ ap (λ (k : ℕ). line_word s ∷ line_words k (lines_in (drop k t))) (sym n)

  pub words_end : line_in (drop at t) ≡ some closes → s.next ≡ at + length (line_text closes) → words_from t at ≡ words_from t s.next
  unfolding words_from line_words
  words_end e n = ap (line_words at) (lines_more t at closes i e) ∙ ap (λ (k : ℕ). line_words k (lines_in (drop k t))) (sym n)

-- one number more is listed
pub list_more : (words : List ℕ) (count w : ℕ) (us vs ws : List ℕ) → count < length words → us ≡ w ∷ vs → take count words ++ us ≡ ws
    → take (count + 1) (set words count w) ++ vs ≡ ws
list_more words count w us vs ws l e h =
    ap (λ (x : List ℕ). x ++ vs) (ap (λ (k : ℕ). take k (set words count w)) (add-one count) ∙ take-suc-set words count w l)
    ∙ append_snoc (take count words) w vs
    ∙ ap (λ (x : List ℕ). take count words ++ x) (sym e)
    ∙ h

-- or none
pub list_still : (words : List ℕ) (count w : ℕ) (us vs ws : List ℕ) → us ≡ vs → take count words ++ us ≡ ws → take count (set words count w) ++ vs ≡ ws
list_still words count w us vs ws e h =
    ap (λ (x : List ℕ). x ++ vs) (take-set-le count words count w (omega arith)) ∙ ap (λ (x : List ℕ). take count words ++ x) (sym e) ∙ h
