-- Rows of one width, those given and then rows that are all 0.
use Prim.Native.Nat.{ℕ, zero, suc, ◌+◌, ◌-◌, ◌*◌, ◌≤◌, ◌<◌}
use mathlib.Core.Path.{◌≡◌, refl, sym, ap, ap₂, ◌∙◌}
use mathlib.Core.Bool.{Bool, true, ◌&&◌}
use mathlib.Core.List.{List, [], ◌∷◌, ◌++◌, append-nil, append_assoc}
use native.Mathlib.Omega.{arith}
use native.Mathlib.Nat.{suc-mul, add-mul, mul-le-mul_right}
use native.Mathlib.Numerals.{add-one}
use lib.Dec.{leb}
use lib.ListN.{length, get_or, take, drop, replicate, length-append, length-replicate, length-take, length-drop, get_or-eq_default}
use lib.Seq.{take_at, drop_at, drop-drop, drop-append-add}
use borrow.Author.Tests.{leb-true}
use borrow.Rule.Slice.PartMut.{put_mid, same_len_mid}
use Rattle.lists.proofs.Bools.{and_0, and_1}
use Rattle.lists.specs.Lists.{every}
use Rattle.fields.proofs.WidthRows.{wide, wide_length}
use Rattle.rule_words.proofs.ZeroLaws.{drop_zeros}
use Rattle.lists.proofs.Every.{every_0, every_1, every_imp, append_apart}
use Rattle.session.specs.Session.{filled}

pub filled_length : (w n : ℕ) (rows : List (List ℕ)) → every (wide w) rows ≡ true → length (filled w n rows) ≡ n * w
unfolding filled
filled_length w zero rows h = omega arith
filled_length w (suc n) [] h =
    length-append (replicate w 0) (filled w n []) ∙ omega (arith, length-replicate {A = ℕ} w 0, filled_length w n [] h, suc-mul n w)
filled_length w (suc n) (r ∷ rows) h =
    length-append r (filled w n rows)
    ∙ omega (arith, wide_length w r (every_0 (wide w) r rows h), filled_length w n rows (every_1 (wide w) r rows h), suc-mul n w)

-- ---- row i: the one given, or one that is all 0

pub row_wide : (w : ℕ) (rows : List (List ℕ)) (i : ℕ) → every (wide w) rows ≡ true → length (get_or rows i (replicate w 0)) ≡ w
row_wide w [] i h = length-replicate {A = ℕ} w 0
row_wide w (r ∷ rows) zero h = wide_length w r (every_0 (wide w) r rows h)
row_wide w (r ∷ rows) (suc i) h = row_wide w rows i (every_1 (wide w) r rows h)

next_row : (w i : ℕ) (r rest : List ℕ) → length r ≡ w → drop (suc i * w) (r ++ rest) ≡ drop (i * w) rest
next_row w i r rest e =
    let k : suc i * w ≡ length r + i * w = omega (arith, suc-mul i w) in
    ap (λ (j : ℕ). drop j (r ++ rest)) k ∙ drop-append-add r rest (i * w)

first_row : (w : ℕ) (r rest : List ℕ) → length r ≡ w → take w (drop (0 * w) (r ++ rest)) ≡ r
first_row w r rest e = let z : 0 * w ≡ 0 = omega arith in ap (λ (j : ℕ). take w (drop j (r ++ rest))) z ∙ take_at r rest w e

pub filled_row : (w n : ℕ) (rows : List (List ℕ)) (i : ℕ) → every (wide w) rows ≡ true → i < n → take w (drop (i * w) (filled w n rows)) ≡ get_or rows i (replicate w 0)
unfolding filled
filled_row w zero rows i h l = absurd (omega arith)
filled_row w (suc n) [] zero h l = first_row w (replicate w 0) (filled w n []) (length-replicate {A = ℕ} w 0)
filled_row w (suc n) [] (suc i) h l =
    ap (take w) (next_row w i (replicate w 0) (filled w n []) (length-replicate {A = ℕ} w 0)) ∙ filled_row w n [] i h (omega arith)
filled_row w (suc n) (r ∷ rows) zero h l = first_row w r (filled w n rows) (wide_length w r (every_0 (wide w) r rows h))
filled_row w (suc n) (r ∷ rows) (suc i) h l =
    ap (take w) (next_row w i r (filled w n rows) (wide_length w r (every_0 (wide w) r rows h)))
    ∙ filled_row w n rows i (every_1 (wide w) r rows h) (omega arith)

-- ---- the rows are told apart: one that is given does not begin with 0

unfoldable pub used : ℕ → List ℕ → Bool
used w r = wide w r && leb 1 (get_or r 0 0)

used_wide : (w : ℕ) (r : List ℕ) → used w r ≡ true → wide w r ≡ true
unfolding used
used_wide w r h = and_0 (wide w r) (leb 1 (get_or r 0 0)) h

pub all_wide : (w : ℕ) (rows : List (List ℕ)) → every (used w) rows ≡ true → every (wide w) rows ≡ true
all_wide w rows h = every_imp (used w) (wide w) rows (used_wide w) h

head_0 : (w : ℕ) → ◌≡◌ {A = ℕ} (get_or (replicate w 0) 0 0) 0
head_0 zero = refl
head_0 (suc w) = refl

not_zero : (w : ℕ) (r a b : List ℕ) → used w r ≡ true → replicate w 0 ++ a ≡ r ++ b → ⊥
unfolding used
not_zero w r a b h e =
    let l : length (replicate {A = ℕ} w 0) ≡ length r = length-replicate {A = ℕ} w 0 ∙ sym (wide_length w r (and_0 (wide w r) (leb 1 (get_or r 0 0)) h)) in
    let q : replicate w 0 ≡ r = (append_apart (replicate w 0) r a b l e).0 in
    omega (arith, head_0 w, ap (λ (x : List ℕ). get_or x 0 0) q, leb-true 1 (get_or r 0 0) (and_1 (wide w r) h))

pub filled_apart : (w n : ℕ) (r s : List (List ℕ)) → length r ≤ n → length s ≤ n → every (used w) r ≡ true → every (used w) s ≡ true → filled w n r ≡ filled w n s → r ≡ s
unfolding filled
filled_apart w zero [] [] l m h k e = refl
filled_apart w zero [] (y ∷ s) l m h k e = absurd (omega arith)
filled_apart w zero (x ∷ r) s l m h k e = absurd (omega arith)
filled_apart w (suc n) [] [] l m h k e = refl
filled_apart w (suc n) [] (y ∷ s) l m h k e = absurd (not_zero w y (filled w n []) (filled w n s) (every_0 (used w) y s k) e)
filled_apart w (suc n) (x ∷ r) [] l m h k e = absurd (not_zero w x (filled w n []) (filled w n r) (every_0 (used w) x r h) (sym e))
filled_apart w (suc n) (x ∷ r) (y ∷ s) l m h k e =
    let q = append_apart x y (filled w n r) (filled w n s)
    (wide_length w x (used_wide w x (every_0 (used w) x r h)) ∙ sym (wide_length w y (used_wide w y (every_0 (used w) y s k)))) e in
    ap₂ ◌∷◌ q.0 (filled_apart w n r s (omega arith) (omega arith) (every_1 (used w) x r h) (every_1 (used w) y s k) q.1)

-- ---- a lent part that is filled row by row

-- one row more
filled_more : (w n : ℕ) (rows : List (List ℕ)) → filled w (suc n) rows ≡ filled w n rows ++ get_or rows n (replicate w 0)
unfolding filled
filled_more w zero [] = append-nil (replicate w 0)
filled_more w zero (r ∷ rows) = append-nil r
filled_more w (suc n) [] = ap (λ (x : List ℕ). replicate w 0 ++ x) (filled_more w n []) ∙ sym (append_assoc (replicate w 0) (filled w n []) (replicate w 0))
filled_more w (suc n) (r ∷ rows) = ap (λ (x : List ℕ). r ++ x) (filled_more w n rows) ∙ sym (append_assoc r (filled w n rows) (get_or rows n (replicate w 0)))

-- rows that are not given
filled_zeros : (w i k : ℕ) (rows : List (List ℕ)) → length rows ≤ i → filled w (i + k) rows ≡ filled w i rows ++ replicate (k * w) 0
filled_zeros w i zero rows l =
    let e : i + 0 ≡ i = omega arith in
    let z : 0 * w ≡ 0 = omega arith in
    ap (λ (j : ℕ). filled w j rows) e ∙ sym (append-nil (filled w i rows)) ∙ ap (λ (j : ℕ). filled w i rows ++ replicate j 0) (sym z)
filled_zeros w i (suc k) rows l =
    let e : i + suc k ≡ suc (i + k) = omega arith in
    let d : get_or rows (i + k) (replicate w 0) ≡ replicate w 0 = get_or-eq_default rows (replicate w 0) {n = i + k} (omega arith) in
    let s : k * w + w ≡ suc k * w = omega (arith, suc-mul k w) in
    ap (λ (j : ℕ). filled w j rows) e
    ∙ filled_more w (i + k) rows
    ∙ ap₂ (λ (a b : List ℕ). a ++ b) (filled_zeros w i k rows l) d
    ∙ append_assoc (filled w i rows) (replicate (k * w) 0) (replicate w 0)
    ∙ ap (λ (x : List ℕ). filled w i rows ++ x) (replicate_add (k * w) w ∙ ap (λ (j : ℕ). replicate j 0) s)
  where
    replicate_add : (a b : ℕ) → ◌≡◌ {A = List ℕ} (replicate a 0 ++ replicate b 0) (replicate (a + b) 0)
    replicate_add zero b = let z : 0 + b ≡ b = omega arith in ap (λ (j : ℕ). replicate j 0) (sym z)
    replicate_add (suc a) b = let z : suc a + b ≡ suc (a + b) = omega arith in ap (λ (x : List ℕ). 0 ∷ x) (replicate_add a b) ∙ ap (λ (j : ℕ). replicate j 0) (sym z)

rest_zeros : (w n i : ℕ) → i ≤ n → ◌≡◌ {A = List ℕ} (drop (i * w) (replicate (n * w) 0)) (replicate ((n - i) * w) 0)
rest_zeros w n i h =
    let q : i + (n - i) ≡ n = omega arith in
    let k : n * w - i * w ≡ (n - i) * w = omega (arith, add-mul i (n - i) w, ap (λ (j : ℕ). j * w) q) in
    drop_zeros (i * w) (n * w) ∙ ap (λ (j : ℕ). replicate j 0) k

filled_rest : (w n i : ℕ) (rows : List (List ℕ)) → i ≤ n → length rows ≤ i → filled w i rows ++ drop (i * w) (replicate (n * w) 0) ≡ filled w n rows
filled_rest w n i rows h l =
    let q : i + (n - i) ≡ n = omega arith in
    ap (λ (x : List ℕ). filled w i rows ++ x) (rest_zeros w n i h) ∙ sym (filled_zeros w i (n - i) rows l) ∙ ap (λ (j : ℕ). filled w j rows) q

-- i of n rows are written
pub record Rowed (w n : ℕ) (rows : List (List ℕ)) (out₀ out : List ℕ) (i : ℕ) : Type 0 where
  pub place : i ≤ n
  pub long : length out ≡ n * w
  pub same : length out ≡ length out₀
  pub is : out ≡ filled w i rows ++ drop (i * w) out₀

pub rowed_start : (w n : ℕ) (rows : List (List ℕ)) (out : List ℕ) → length out ≡ n * w → Rowed w n rows out out 0
unfolding filled
rowed_start w n rows out h = let z : 0 * w ≡ 0 = omega arith in record { place = omega arith; long = h; same = refl; is = rw z }

module _ (w n : ℕ) (rows : List (List ℕ)) (all : every (wide w) rows ≡ true) (out₀ out : List ℕ) (i : ℕ) (g : Rowed w n rows out₀ out i) where
  before : take (i * w) out ≡ filled w i rows
  before = ap (take (i * w)) g.is ∙ take_at (filled w i rows) (drop (i * w) out₀) (i * w) (filled_length w i rows all)

  behind : drop w (drop (i * w) out) ≡ drop ((i + 1) * w) out₀
  behind =
      let e : i * w + w ≡ (i + 1) * w = omega (arith, add-mul i 1 w) in
      ap (λ (x : List ℕ). drop w (drop (i * w) x)) g.is
      ∙ ap (drop w) (drop_at (filled w i rows) (drop (i * w) out₀) (i * w) (filled_length w i rows all))
      ∙ drop-drop w (i * w) out₀
      ∙ ap (λ (k : ℕ). drop k out₀) e

  pub rowed_next : i < n → (row : List ℕ) → row ≡ get_or rows i (replicate w 0) → Rowed w n rows out₀ (put_mid (i * w) w out row) (i + 1)
  rowed_next l row f =
      let e : length row ≡ w = ap length f ∙ row_wide w rows i all in
      let m : (i + 1) * w ≤ n * w = mul-le-mul_right w (omega arith) in
      let k : length row ≡ length (take w (drop (i * w) out)) =
      omega (arith, length-take w (drop (i * w) out), length-drop (i * w) out, g.long, add-mul i 1 w) in
      let s : length (put_mid (i * w) w out row) ≡ length out = same_len_mid (i * w) w out row k in
      record {
        place = omega arith;
        long = s ∙ g.long;
        same = s ∙ g.same;
        is = ap₂ (λ (a b : List ℕ). a ++ (row ++ b)) before behind ∙ sym (append_assoc (filled w i rows) row (drop ((i + 1) * w) out₀))
            ∙ ap (λ (a : List ℕ). a ++ drop ((i + 1) * w) out₀) (ap (λ (a : List ℕ). filled w i rows ++ a) f ∙ sym (filled_more w i rows) ∙ ap (λ (k : ℕ). filled w k rows) (sym (add-one i)));
      }

  -- over zeros, the rows that are not given are done
  pub rowed_end : length rows ≤ i → out₀ ≡ replicate (n * w) 0 → out ≡ filled w n rows
  rowed_end l e =
      g.is ∙ ap (λ (x : List ℕ). filled w i rows ++ drop (i * w) x) e ∙ filled_rest w n i rows g.place l
