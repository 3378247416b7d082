-- Loops over programs and paths: what is worked out so far, and what is left, is the whole.
use Prim.Native.Nat.{ℕ, suc, ◌+◌, ◌-◌, ◌*◌, ◌^◌, ◌≤◌, ◌<◌}
use native.Mathlib.Omega.{arith}
use native.Mathlib.Numerals.{add-one}
use mathlib.Core.Path.{◌≡◌, refl, sym, ap, ap₂, ◌∙◌}
use mathlib.Core.Bool.{true, false, cond}
use mathlib.Core.List.{List, [], ◌∷◌, ◌++◌, append_assoc, append-nil}
use lib.Bits.{bit_or, or_zero_r}
use lib.Dec.{eqb}
use lib.ListN.{length, get_or, take, drop, set, length-take, length-set, drop_of_length-le}
use lib.Seq.{drop-cons, take-suc-set}
use Rattle.rules.specs.Answers.{data_width}
use Rattle.confinement.specs.Tables.{meets, file_bits, row_atoms, row_mixture, list_from, column_at, chosen_by, chosen_at, Listed}
use Rattle.confinement.proofs.ModeBits.{or_assoc}
use Rattle.confinement.proofs.ModeTables.{list_snoc}

-- ---- a run mixture, path by path

pub record Mixing (own : ℕ) (row : List ℕ) (mixture k : ℕ) : Type 0 where
  pub place : k ≤ length row
  pub rest : bit_or mixture (row_atoms k (drop k row)) ≡ row_mixture own row

pub mixing_start : (own : ℕ) (row : List ℕ) → Mixing own row (2 ^ (data_width + own)) 0
unfolding row_mixture
mixing_start own row = record { place = omega arith; rest = refl }

pub mixing_next : (own : ℕ) (row : List ℕ) (mixture k x : ℕ) → Mixing own row mixture k → k < length row → x ≡ file_bits k (get_or row k 0) → Mixing own row (bit_or mixture x) (k + 1)
unfolding row_atoms
mixing_next own row mixture k x h l e =
    record {
      place = omega arith;
      rest =
          or_assoc mixture x (row_atoms (k + 1) (drop (k + 1) row))
          ∙ ap (bit_or mixture) (ap (λ (y : ℕ). bit_or y (row_atoms (k + 1) (drop (k + 1) row))) e ∙ sym step)
          ∙ h.rest;
    }
  where
    step : row_atoms k (drop k row) ≡ bit_or (file_bits k (get_or row k 0)) (row_atoms (k + 1) (drop (k + 1) row))
    step = rw (add-one k, drop-cons row k 0 l)

pub mixing_end : (own : ℕ) (row : List ℕ) (mixture k : ℕ) → Mixing own row mixture k → length row ≤ k → mixture ≡ row_mixture own row
unfolding row_atoms
mixing_end own row mixture k h l =
    sym (or_zero_r mixture) ∙ ap (bit_or mixture) (ap (row_atoms k) (sym (drop_of_length-le row {i = k} l))) ∙ h.rest

-- ---- a list by place

pub record Filling (f : ℕ → ℕ) (m : ℕ) (words : List ℕ) (j : ℕ) : Type 0 where
  pub place : j ≤ m
  pub long : length words ≡ data_width
  pub front : take j words ≡ list_from f 0 j

pub filling_start : (f : ℕ → ℕ) (m : ℕ) (words : List ℕ) → length words ≡ data_width → Filling f m words 0
unfolding list_from
filling_start f m words l = record { place = omega arith; long = l; front = refl }

pub filling_next : (f : ℕ → ℕ) (m : ℕ) (words : List ℕ) (j x : ℕ) → Filling f m words j → j < m → m ≤ data_width → x ≡ f j → Filling f m (set words j x) (j + 1)
filling_next f m words j x h l few e =
    record {
      place = omega arith;
      long = length-set words j x ∙ h.long;
      front =
          ap (λ (n : ℕ). take n (set words j x)) (add-one j)
          ∙ take-suc-set words j x (omega (arith, h.long))
          ∙ ap₂ (λ (l : List ℕ) (y : ℕ). l ++ (y ∷ [])) h.front e
          ∙ sym (list_snoc f 0 j ∙ ap (λ (i : ℕ). list_from f 0 j ++ (f i ∷ [])) z)
          ∙ ap (list_from f 0) (sym (add-one j));
    }
  where
    z : 0 + j ≡ j
    z = omega arith

pub filling_end : (f : ℕ → ℕ) (m : ℕ) (words : List ℕ) (j : ℕ) → Filling f m words j → m ≤ j → take m words ≡ list_from f 0 m
filling_end f m words j h l = let e : j ≡ m = omega (arith, h.place) in rw e at h.front

-- ---- members that are chosen

-- the chosen so far stand in front, and `rest` is what is still to be chosen
pub record Choosing (all rest words : List ℕ) (count j m : ℕ) : Type 0 where
  pub place : j ≤ m
  pub most : m ≤ data_width
  pub few : count ≤ j
  pub long : length words ≡ data_width
  pub front : take count words ++ rest ≡ all

pub choosing_start : (all rest words : List ℕ) (m : ℕ) → m ≤ data_width → length words ≡ data_width → rest ≡ all → Choosing all rest words 0 0 m
choosing_start all rest words m h l e = record { place = omega arith; most = h; few = omega arith; long = l; front = e }

module _ {all rest words : List ℕ} {count j m : ℕ} (h : Choosing all rest words count j m) (l : j < m) where
  pub choosing_keep : (x : ℕ) (rest' : List ℕ) → rest ≡ x ∷ rest' → Choosing all rest' (set words count x) (count + 1) (j + 1) m
  choosing_keep x rest' e =
      record {
        place = omega arith;
        most = h.most;
        few = omega (arith, h.few);
        long = length-set words count x ∙ h.long;
        front =
            ap (λ (l : List ℕ). l ++ rest') (ap (λ (n : ℕ). take n (set words count x)) (add-one count) ∙ take-suc-set words count x (omega (arith, h.few, h.long, h.most)))
            ∙ append_assoc (take count words) (x ∷ []) rest'
            ∙ ap (λ (l : List ℕ). take count words ++ l) (sym e)
            ∙ h.front;
      }

  pub choosing_skip : (rest' : List ℕ) → rest ≡ rest' → Choosing all rest' words count (j + 1) m
  choosing_skip rest' e =
      record {
        place = omega arith;
        most = h.most;
        few = omega (arith, h.few);
        long = h.long;
        front = ap (λ (l : List ℕ). take count words ++ l) (sym e) ∙ h.front;
      }

pub choosing_end : {all rest words : List ℕ} {count j m : ℕ} → Choosing all rest words count j m → rest ≡ [] → Listed all words count
choosing_end {all} {rest} {words} {count} h e =
    let f : take count words ≡ all = sym (append-nil (take count words)) ∙ ap (λ (l : List ℕ). take count words ++ l) (sym e) ∙ h.front in
    record { front = f; count = omega (arith, ap length f, length-take count words, h.few, h.place, h.most, h.long); long = h.long }

-- by modes

abbrev pub rest_by : ℕ → ℕ → List ℕ → ℕ → List ℕ → ℕ → List ℕ
rest_by wanted more modes k runs j = chosen_by wanted more (list_from (λ i. get_or modes (i * data_width + k) 0) j (length runs - j)) (drop j runs)

pub all_by : (wanted more : ℕ) (modes : List ℕ) (k : ℕ) (runs : List ℕ) → rest_by wanted more modes k runs 0 ≡ chosen_by wanted more (column_at modes k (length runs)) runs
all_by wanted more modes k runs = let e : length runs - 0 ≡ length runs = omega arith in rw e

module _ (wanted more : ℕ) (modes : List ℕ) (k : ℕ) (runs : List ℕ) (j : ℕ) where
  step_by : j < length runs → rest_by wanted more modes k runs j
      ≡ cond (meets (get_or modes (j * data_width + k) 0) wanted) (bit_or (get_or runs j 0) more ∷ rest_by wanted more modes k runs (j + 1)) (rest_by wanted more modes k runs (j + 1))
  unfolding chosen_by list_from
  step_by l =
      let e : length runs - j ≡ suc (length runs - suc j) = omega arith in
      rw (add-one j, e, drop-cons runs j 0 l)

  pub kept_by : j < length runs → meets (get_or modes (j * data_width + k) 0) wanted ≡ true
      → rest_by wanted more modes k runs j ≡ bit_or (get_or runs j 0) more ∷ rest_by wanted more modes k runs (j + 1)
  kept_by l e = step_by l ∙ rw e

  pub skipped_by : j < length runs → meets (get_or modes (j * data_width + k) 0) wanted ≡ false
      → rest_by wanted more modes k runs j ≡ rest_by wanted more modes k runs (j + 1)
  skipped_by l e = step_by l ∙ rw e

  pub none_by : length runs ≤ j → rest_by wanted more modes k runs j ≡ []
  unfolding chosen_by list_from
  none_by l = let e : length runs - j ≡ 0 = omega arith in rw e

-- by own paths

abbrev pub rest_at : ℕ → List ℕ → List ℕ → ℕ → List ℕ
rest_at k own runs j = chosen_at k (drop j own) (drop j runs)

module _ (k : ℕ) (own runs : List ℕ) (j : ℕ) (same : length own ≡ length runs) where
  step_at : j < length runs → rest_at k own runs j ≡ cond (eqb (get_or own j 0) k) (get_or runs j 0 ∷ rest_at k own runs (j + 1)) (rest_at k own runs (j + 1))
  unfolding chosen_at
  step_at l = rw (add-one j, drop-cons runs j 0 l, drop-cons own j 0 (omega (arith, same)))

  pub kept_at : j < length runs → eqb (get_or own j 0) k ≡ true → rest_at k own runs j ≡ get_or runs j 0 ∷ rest_at k own runs (j + 1)
  kept_at l e = step_at l ∙ rw e

  pub skipped_at : j < length runs → eqb (get_or own j 0) k ≡ false → rest_at k own runs j ≡ rest_at k own runs (j + 1)
  skipped_at l e = step_at l ∙ rw e

  pub none_at : length runs ≤ j → rest_at k own runs j ≡ []
  unfolding chosen_at
  none_at l = rw (drop_of_length-le own {i = j} (omega (arith, same)))
