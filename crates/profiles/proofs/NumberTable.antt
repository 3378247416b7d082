-- The table of a text's numbers as it is left: the numbers of a good text, and zeros behind them.
use Prim.Native.Nat.{ℕ, ◌-◌, ◌≤◌}
use native.Mathlib.Omega.{arith}
use mathlib.Core.Path.{◌≡◌, refl, sym, ap, ap₂, ◌∙◌}
use mathlib.Core.Bool.{Bool, true, false}
use mathlib.Core.List.{List, [], ◌++◌, append-nil}
use lib.ListN.{length, take, replicate, length-append, length-take, drop_of_length-le}
use lib.Seq.{take-append_seam}
use Rattle.std.proofs.Common.{Some, None}
use borrow.Rule.Slice.PartMut.{mid_of, post_of, put_mid, Post-is, mid_len}
use Rattle.profiles.specs.Texts.{text_good}
use Rattle.profiles.specs.LineWords.{word_limit, text_words, ScannedText, scanned, Judged, good_words, scanned_of, table_of}

-- ---- what is left

none_good : (t : List ℕ) → text_good t ≡ false → good_words t ≡ []
unfolding good_words
none_good t e = rw e

all_good : (t : List ℕ) → text_good t ≡ true → good_words t ≡ text_words t
unfolding good_words
all_good t e = rw e

module _ (t words : List ℕ) (long : length words ≡ word_limit) where
  pub refused_table : Judged t words (text_good t) (scanned None) → (ws : List ℕ) → ws ≡ replicate (length words) 0 → (scanned None ≡ scanned_of t) × (ws ≡ table_of t)
  unfolding scanned_of table_of
  refused_table j ws z =
      let bad : text_good t ≡ false = sym j.right in
      (rw (none_good t bad) (ap (λ (b : Bool). record { good = b; count = 0 }) (sym bad)), z ∙ rw (none_good t bad, long) refl)

  module _ (n : ℕ) (j : Judged t words (text_good t) (scanned (Some n))) where
    counted : n ≡ length (good_words t)
    counted = sym (omega (arith, length-take n words, j.room refl)) ∙ ap length (j.listed refl ∙ sym (all_good t (sym j.right)))

    pub good_room : n ≤ word_limit
    good_room = omega (arith, j.room refl, long)

    -- the part behind the numbers holds zeros
    filled_table : (ys : List ℕ) → ys ≡ replicate (length (mid_of n (word_limit - n) words)) 0 → (scanned (Some n) ≡ scanned_of t) × (put_mid n (word_limit - n) words ys ≡ table_of t)
    unfolding scanned_of table_of
    filled_table ys z = (λ i. record { good = j.right i; count = counted i }, table)
      where
        behind : post_of n (word_limit - n) words ≡ []
        behind = Post-is n word_limit words good_room ∙ drop_of_length-le words {i = word_limit} (omega (arith, long))

        filled : ys ≡ replicate (word_limit - n) 0
        filled = z ∙ ap (λ (k : ℕ). replicate k 0) (mid_len n word_limit words (omega (arith, long)))

        table : put_mid n (word_limit - n) words ys ≡ good_words t ++ replicate (word_limit - length (good_words t)) 0
        table =
            ap₂ (λ (a b : List ℕ). take n words ++ (a ++ b)) filled behind
            ∙ ap (λ (a : List ℕ). take n words ++ a) (append-nil (replicate (word_limit - n) 0))
            ∙ ap₂ (λ (a : List ℕ) (k : ℕ). a ++ replicate (word_limit - k) 0) (j.listed refl ∙ sym (all_good t (sym j.right))) counted

    pub good_table : (ys : List ℕ) → ys ≡ replicate (length (mid_of n (length words - n) words)) 0 → (scanned (Some n) ≡ scanned_of t) × (put_mid n (length words - n) words ys ≡ table_of t)
    good_table = rw long filled_table

-- ---- what it says, for those who read it

pub judged_of : (t words : List ℕ) (s : ScannedText) → (s ≡ scanned_of t) × (words ≡ table_of t) → Judged t words (text_good t) s
unfolding scanned_of table_of
judged_of t words s h =
    let good : s.good ≡ text_good t = ap (λ (x : ScannedText). x.good) h.0 in
    let count : s.count ≡ length (good_words t) = ap (λ (x : ScannedText). x.count) h.0 in
    record {
      right = good;
      room = λ g. omega (arith, count, ap length h.1 ∙ length-append (good_words t) (replicate (word_limit - length (good_words t)) 0));
      listed =
          λ g.
          ap₂ (λ (k : ℕ) (ws : List ℕ). take k ws) count h.1
          ∙ take-append_seam (good_words t) (replicate (word_limit - length (good_words t)) 0)
          ∙ all_good t (sym good ∙ g);
    }
