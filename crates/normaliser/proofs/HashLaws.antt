-- Hashes of rules: which rule is the first of its class.
use Prim.Native.Nat.{ℕ, zero, suc, ◌+◌, ◌-◌, ◌*◌, ◌/◌, ◌%◌, ◌^◌, ◌≤◌, ◌<◌}
use mathlib.Core.Path.{◌≡◌, refl, sym, ap, ◌∙◌}
use mathlib.Core.Bool.{Bool, true, false, cond}
use mathlib.Core.List.{List, ◌∷◌}
use native.Mathlib.Omega.{arith}
use native.Mathlib.Decide.{ℕ_discrete}
use native.Mathlib.Nat.{suc-mul, mul-le-mul_right}
use native.Mathlib.Numerals.{add-one}
use lib.Bits.{bit_or, bit_xor}
use lib.ListN.{length, get_or, drop, set, replicate, length-set, length-replicate, drop_of_length-le}
use lib.Seq.{drop-cons, get_or-set_same, get_or-set_other}
use Rattle.lists.proofs.Bools.{refuted}
use Rattle.lists.proofs.Same.{same_eq}
use Rattle.lists.proofs.Known.{position_most}
use Rattle.lists.specs.Lists.{same_list, position}
use Rattle.image.specs.Limits.{unrestricted_number}
use Rattle.fields.specs.Bytes.{records}
use Rattle.image.specs.Normal.{same_use, free_use}
use Rattle.fields.proofs.SectionRecords.{records_count}
use Rattle.normaliser.specs.Writer.{form_width, form_in, use_limit}
use Rattle.normaliser.specs.Tables.{use_of, class_of, Classified}
use Rattle.rule_words.specs.Words.{rule_width}
use borrow.Author.Tests.{eq-eqb, ne_eqb}
use Rattle.normaliser.specs.Hashes.{words_at, mixed, slot_limit, spread, hash_of, alike, slot_of, Hashed, word_bits, rotation, half_words, spread_factor}
use Rattle.normaliser.proofs.FirstEqual.{Seeking, seek_start, seek_next, seek_end}

pub zeros_at : (n v : ℕ) → ◌≡◌ {A = ℕ} (get_or (replicate n 0) v 0) 0
zeros_at zero v = refl
zeros_at (suc n) zero = refl
zeros_at (suc n) (suc v) = zeros_at n v

-- ---- the words, one after the other

module _ (ws : List ℕ) (h i : ℕ) (inv : mixed h (drop i ws) ≡ mixed 0 ws) where
  pub mixed_next : i < length ws → mixed (bit_xor (bit_or (h * 2 ^ rotation % 2 ^ word_bits) (h / 2 ^ (word_bits - rotation))) (get_or ws i 0)) (drop (i + 1) ws) ≡ mixed 0 ws
  unfolding mixed
  mixed_next l =
      sym (ap (mixed h) (drop-cons ws i 0 l ∙ ap (λ (k : ℕ). get_or ws i 0 ∷ drop k ws) (sym (add-one i)))) ∙ inv

  pub mixed_end : length ws ≤ i → h ≡ mixed 0 ws
  unfolding mixed
  mixed_end l = sym (ap (mixed h) (drop_of_length-le ws l)) ∙ inv

-- ---- a hash is below n

spread_small : (h : ℕ) → spread h < half_words
unfolding spread
spread_small h = omega arith

hash_product : (x n : ℕ) → x < half_words → x * n + n ≤ half_words * n
hash_product x n l = let q : suc x * n ≤ half_words * n = mul-le-mul_right n l in omega (arith, suc-mul x n)

module _ (h n : ℕ) where
  pub hash_fits : n ≤ slot_limit → (h / half_words + h % half_words) % half_words * spread_factor % half_words * n < 2 ^ 64
  unfolding spread
  hash_fits l = omega (arith, hash_product (spread h) n (spread_small h))

  pub hash_is : (ws : List ℕ) → h ≡ mixed 0 ws → (h / half_words + h % half_words) % half_words * spread_factor % half_words * n / half_words ≡ hash_of n ws
  unfolding hash_of spread
  hash_is ws e = ap (λ (x : ℕ). (x / half_words + x % half_words) % half_words * spread_factor % half_words * n / half_words) e

  pub hash_below : 0 < n → (h / half_words + h % half_words) % half_words * spread_factor % half_words * n / half_words < n
  unfolding spread
  hash_below l = omega (arith, hash_product (spread h) n (spread_small h))

-- ---- the place in the table

alike_self : (ws : List ℕ) → alike ws ws ≡ true
unfolding alike
alike_self ws = rw (eq-eqb (get_or ws 1 0) (get_or ws 1 0) refl, eq-eqb (get_or ws rule_width 0) (get_or ws rule_width 0) refl)

module _ (forms slots ws : List ℕ) where
  -- the three cases
  module _ (h : ℕ) (e : h ≡ hash_of (length slots) ws) where
    pub slot_free : get_or slots h 0 ≡ 0 → h ≡ slot_of forms slots ws
    unfolding slot_of
    slot_free z = rw (← e, eq-eqb (get_or slots h 0) 0 z)

    pub slot_alike : (get_or slots h 0 ≡ 0 → ⊥) → alike ws (words_at forms (get_or slots h 0 - 1)) ≡ true → h ≡ slot_of forms slots ws
    unfolding slot_of
    slot_alike d a = rw (← e, ne_eqb (get_or slots h 0) 0 d, a)

    pub slot_opposite : (get_or slots h 0 ≡ 0 → ⊥) → alike ws (words_at forms (get_or slots h 0 - 1)) ≡ false → length slots - 1 - h ≡ slot_of forms slots ws
    unfolding slot_of
    slot_opposite d a = rw (← e, ne_eqb (get_or slots h 0) 0 d, a)

  -- if it is taken, so is the place of the hash
  slot_taken : 0 < get_or slots (slot_of forms slots ws) 0 → 0 < get_or slots (hash_of (length slots) ws) 0
  slot_taken p = by (ℕ_discrete (get_or slots (hash_of (length slots) ws) 0) 0)
    where
      by : Dec (get_or slots (hash_of (length slots) ws) 0 ≡ 0) → 0 < get_or slots (hash_of (length slots) ws) 0
      by (yes z) = absurd (omega (arith, z, ap (λ (x : ℕ). get_or slots x 0) (slot_free (hash_of (length slots) ws) refl z), p))
      by (no d) = omega (arith, d)

  -- a rule that is put elsewhere leaves it
  module _ (s v : ℕ) (d : hash_of (length slots) ws ≡ s → ⊥) where
    set_other : slot_of forms (set slots s v) ws ≡ slot_of forms slots ws
    unfolding slot_of
    set_other = rw (length-set slots s v, get_or-set_other slots s (hash_of (length slots) ws) v 0 d)

  set_slot : (s v : ℕ) → get_or slots s 0 ≡ 0 → 0 < get_or slots (slot_of forms slots ws) 0 → slot_of forms (set slots s v) ws ≡ slot_of forms slots ws
  set_slot s v z p = set_other s v (λ q. omega (arith, z, ap (λ (x : ℕ). get_or slots x 0) q, slot_taken p))

-- the place of a rule that was put there
module _ (forms slots : List ℕ) (k s : ℕ) (e : s ≡ slot_of forms slots (words_at forms k)) (l : s < length slots) (z : get_or slots s 0 ≡ 0) where
  put_at_hash : s ≡ hash_of (length slots) (words_at forms k) → slot_of forms (set slots s (k + 1)) (words_at forms k) ≡ s
  unfolding slot_of
  put_at_hash f =
      let g : k + 1 - 1 ≡ k = omega arith in
      rw (length-set slots s (k + 1), ← f, get_or-set_same slots s (k + 1) 0 l, ne_eqb (k + 1) 0 (λ q. omega (arith, q)), g, alike_self (words_at forms k))

  put_slot : slot_of forms (set slots s (k + 1)) (words_at forms k) ≡ s
  put_slot = by (ℕ_discrete (hash_of (length slots) (words_at forms k)) s)
    where
      by : Dec (hash_of (length slots) (words_at forms k) ≡ s) → slot_of forms (set slots s (k + 1)) (words_at forms k) ≡ s
      by (yes q) = put_at_hash (sym q)
      by (no d) = set_other forms slots (words_at forms k) s (k + 1) d ∙ sym e

-- ---- the table

pub hashed_start : (forms : List ℕ) (n : ℕ) → 0 < n → n ≤ slot_limit → Hashed forms (replicate n 0) 0
hashed_start forms n s f =
    record {
      some = omega (arith, length-replicate {A = ℕ} n 0);
      few = omega (arith, length-replicate {A = ℕ} n 0);
      seen = λ j l. absurd (omega arith);
      inside = λ h. omega (arith, zeros_at n h);
    }

module _ (forms slots : List ℕ) (k h : ℕ) (g : Hashed forms slots k) (e : h ≡ slot_of forms slots (words_at forms k)) where
  -- its place is free
  module _ (l : h < length slots) (z : get_or slots h 0 ≡ 0) where
    put_long : length (set slots h (k + 1)) ≡ length slots
    put_long = length-set slots h (k + 1)

    put_seen : (x : ℕ) → 0 < get_or slots x 0 → 0 < get_or (set slots h (k + 1)) x 0
    put_seen x p = by (ℕ_discrete x h)
      where
        by : Dec (x ≡ h) → 0 < get_or (set slots h (k + 1)) x 0
        by (yes q) = omega (arith, ap (λ (y : ℕ). get_or (set slots h (k + 1)) y 0) q, get_or-set_same slots h (k + 1) 0 l)
        by (no d) = omega (arith, get_or-set_other slots h x (k + 1) 0 d)

    put_hash : (j : ℕ) → j < k + 1 → 0 < get_or (set slots h (k + 1)) (slot_of forms (set slots h (k + 1)) (words_at forms j)) 0
    put_hash j m = by (ℕ_discrete j k)
      where
        by : Dec (j ≡ k) → 0 < get_or (set slots h (k + 1)) (slot_of forms (set slots h (k + 1)) (words_at forms j)) 0
        by (yes q) =
            let w : slot_of forms (set slots h (k + 1)) (words_at forms j) ≡ h = ap (λ (x : ℕ). slot_of forms (set slots h (k + 1)) (words_at forms x)) q ∙ put_slot forms slots k h e l z in
            omega (arith, ap (λ (y : ℕ). get_or (set slots h (k + 1)) y 0) w, get_or-set_same slots h (k + 1) 0 l)
        by (no d) =
            let p : 0 < get_or slots (slot_of forms slots (words_at forms j)) 0 = g.seen j (omega arith) in
            omega (arith, ap (λ (y : ℕ). get_or (set slots h (k + 1)) y 0) (set_slot forms slots (words_at forms j) h (k + 1) z p), put_seen (slot_of forms slots (words_at forms j)) p)

    put_inside : (x : ℕ) → get_or (set slots h (k + 1)) x 0 ≤ k + 1
    put_inside x = by (ℕ_discrete x h)
      where
        by : Dec (x ≡ h) → get_or (set slots h (k + 1)) x 0 ≤ k + 1
        by (yes q) = omega (arith, ap (λ (y : ℕ). get_or (set slots h (k + 1)) y 0) q, get_or-set_same slots h (k + 1) 0 l)
        by (no d) = omega (arith, get_or-set_other slots h x (k + 1) 0 d, g.inside x)

    pub hashed_new : Hashed forms (set slots h (k + 1)) (k + 1)
    hashed_new =
        record {
          some = omega (arith, put_long, g.some);
          few = omega (arith, put_long, g.few);
          seen = put_hash;
          inside = put_inside;
        }

    unlike : (j : ℕ) → j < k → false ≡ same_list (words_at forms k) (words_at forms j)
    unlike j m =
        sym (refuted (same_list (words_at forms k) (words_at forms j))
        (λ s. let q : slot_of forms slots (words_at forms j) ≡ h = ap (slot_of forms slots) (sym (same_eq (words_at forms k) (words_at forms j) s)) ∙ sym e in
        omega (arith, z, ap (λ (x : ℕ). get_or slots x 0) q, g.seen j m)))

    module _ (b : k < length forms / form_width) where
      seeks : (j : ℕ) → j ≤ k → Seeking forms k j
      seeks zero m = seek_start forms k
      seeks (suc j) m = rw (add-one j) at (seek_next forms k j b (seeks j (omega arith)) (omega arith) (unlike j (omega arith)))

      -- it is the first with its words
      pub class_new : (r : ℕ) → r ≡ cond (same_use (form_in (words_at forms k)) free_use) unrestricted_number k → r ≡ class_of forms k
      unfolding class_of use_of
      class_new r f =
          f ∙ ap (cond (same_use (form_in (words_at forms k)) free_use) unrestricted_number) (seek_end forms k k b (seeks k (omega arith)) (omega arith))

  -- a rule has its place
  pub hashed_old : (get_or slots h 0 ≡ 0 → ⊥) → Hashed forms slots (k + 1)
  hashed_old d = record { some = g.some; few = g.few; seen = λ j m. by j m (ℕ_discrete j k); inside = λ x. omega (arith, g.inside x) }
    where
      by : (j : ℕ) → j < k + 1 → Dec (j ≡ k) → 0 < get_or slots (slot_of forms slots (words_at forms j)) 0
      by j m (yes q) =
          let w : slot_of forms slots (words_at forms j) ≡ h = ap (λ (x : ℕ). slot_of forms slots (words_at forms x)) q ∙ sym e in
          omega (arith, d, ap (λ (y : ℕ). get_or slots y 0) w)
      by j m (no n) = g.seen j (omega arith)

-- rules with the same words have the same class
same_class : (forms : List ℕ) (j k : ℕ) → words_at forms k ≡ words_at forms j → class_of forms j ≡ class_of forms k
unfolding class_of use_of
same_class forms j k e = rw e

pub class_old : (forms classes : List ℕ) (j k : ℕ) → Classified forms classes k → j < k → true ≡ same_list (words_at forms k) (words_at forms j) → get_or classes j 0 ≡ class_of forms k
class_old forms classes j k t l s = t.is j l ∙ same_class forms j k (same_eq (words_at forms k) (words_at forms j) (sym s))

pub class_sought : (forms : List ℕ) (k r first : ℕ)
    → r ≡ cond (same_use (form_in (words_at forms k)) free_use) unrestricted_number first → first ≡ position (words_at forms k) (records form_width forms)
    → r ≡ class_of forms k
unfolding class_of use_of
class_sought forms k r first e f = e ∙ ap (cond (same_use (form_in (words_at forms k)) free_use) unrestricted_number) f

-- a class is a number of 16 bits
pub class_fits : (forms : List ℕ) (k : ℕ) → length forms / form_width ≤ use_limit → class_of forms k < 2 ^ 16
unfolding class_of
class_fits forms k l = by (same_use (use_of forms k) free_use)
  where
    by : (b : Bool) → cond b unrestricted_number (position (words_at forms k) (records form_width forms)) < 2 ^ 16
    by true = omega arith
    by false = omega (arith, position_most same_list (words_at forms k) (records form_width forms), records_count form_width forms)
