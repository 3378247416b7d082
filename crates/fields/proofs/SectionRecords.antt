-- The records of a section: one after the other, and one by its place.
use Prim.Native.Nat.{ℕ, zero, suc, ◌+◌, ◌-◌, ◌*◌, ◌/◌, ◌≤◌, ◌<◌}
use mathlib.Core.Path.{◌≡◌, refl, sym, ap, ◌∙◌}
use mathlib.Core.Bool.{Bool, true, false, ◌&&◌}
use mathlib.Core.List.{List, [], map}
use native.Mathlib.Omega.{arith}
use native.Mathlib.Nat.{add-mul, suc-mul}
use lib.ListN.{length, get_or, take, drop}
use lib.Seq.{drop-drop}
use Rattle.lists.specs.Lists.{every}
use Rattle.lists.proofs.Places.{map_at}
use Rattle.fields.specs.Bytes.{cut, records}

-- ---- one record after the other

-- of the n records of w bytes of s, i are read, and all passed
pub record Scanned {A : Type 0} (f : A → Bool) (d : List ℕ → A) (w : ℕ) (s : List ℕ) (n i : ℕ) : Type 0 where
  pub count : n ≡ length s / w
  pub place : i ≤ n
  pub rest : every f (map d (cut w (n - i) (drop (i * w) s))) ≡ every f (map d (records w s))

module _ {A : Type 0} (f : A → Bool) (d : List ℕ → A) (w : ℕ) (s : List ℕ) where
  pub scan_start : Scanned f d w s (length s / w) 0
  unfolding records
  scan_start =
      let e : length s / w - 0 ≡ length s / w = omega arith in
      let z : 0 * w ≡ 0 = omega arith in
      record { count = refl; place = omega arith; rest = rw (e, z) }

  module _ (n i : ℕ) (g : Scanned f d w s n i) where
    step : i < n → every f (map d (cut w (n - i) (drop (i * w) s))) ≡ (f (d (take w (drop (i * w) s))) && every f (map d (cut w (n - (i + 1)) (drop ((i + 1) * w) s))))
    unfolding cut every
    step l =
        let e : n - i ≡ suc (n - (i + 1)) = omega arith in
        let k : (i + 1) * w ≡ i * w + w = omega (arith, add-mul i 1 w) in
        rw (e, k, ← drop-drop)

    pub scan_next : i < n → true ≡ f (d (take w (drop (i * w) s))) → Scanned f d w s n (i + 1)
    scan_next l h = record { count = g.count; place = omega arith; rest = sym (rw (← h) at (step l)) ∙ g.rest }

    pub scan_stop : i < n → false ≡ f (d (take w (drop (i * w) s))) → false ≡ every f (map d (records w s))
    scan_stop l h = sym (rw (← h) at (step l)) ∙ g.rest

    pub scan_end : n ≤ i → true ≡ every f (map d (records w s))
    unfolding cut every
    scan_end l = let e : n - i ≡ 0 = omega arith in rw e at g.rest

-- ---- one record by its place

cut_at : (w n k : ℕ) (s : List ℕ) → k < n → get_or (cut w n s) k [] ≡ take w (drop (k * w) s)
unfolding cut
cut_at w zero k s h = absurd (omega arith)
cut_at w (suc n) zero s h = let z : 0 * w ≡ 0 = omega arith in rw z
cut_at w (suc n) (suc k) s h =
    let e : suc k * w ≡ w + k * w = omega (arith, suc-mul k w) in
    cut_at w n k (drop w s) (omega arith) ∙ rw (drop-drop, e)

pub cut_count : (w n : ℕ) (s : List ℕ) → length (cut w n s) ≡ n
unfolding cut
cut_count w zero s = refl
cut_count w (suc n) s = ap suc (cut_count w n (drop w s))

pub records_count : (w : ℕ) (s : List ℕ) → length (records w s) ≡ length s / w
unfolding records
records_count w s = cut_count w (length s / w) s

-- record k of a section
pub record_at : {A : Type 0} (f : List ℕ → A) (w k : ℕ) (s : List ℕ) (d : A) → k < length s / w → get_or (map f (records w s)) k d ≡ f (take w (drop (k * w) s))
unfolding records
record_at f w k s d h =
    map_at f (cut w (length s / w) s) k [] d (omega (arith, cut_count w (length s / w) s)) ∙ ap f (cut_at w (length s / w) k s h)
