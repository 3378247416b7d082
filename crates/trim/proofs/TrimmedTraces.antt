-- The whole trace tried, then trimmed.
use Prim.Native.Nat.{ℕ, zero, suc, ◌+◌, ◌-◌, ◌/◌, ◌≤◌, ◌<◌}
use native.Mathlib.Omega.{arith}
use native.Mathlib.Numerals.{add-one}
use mathlib.Core.Path.{◌≡◌, refl, sym, ap, ap₂, ◌∙◌}
use mathlib.Core.Bool.{Bool, true, false}
use mathlib.Core.List.{List, [], ◌∷◌, ◌++◌}
use lib.ListN.{length, take, drop, set}
use lib.Seq.{take-suc-set}
use Rattle.lists.specs.Lists.{every}
use Rattle.lists.specs.Counting.{count_from}
use Rattle.lists.proofs.Counting.{count_length}
use Rattle.image.specs.Image.{check_of, policy_in}
use Rattle.session.specs.Limits.{session_length, users_at}
use Rattle.session.specs.Session.{start_of, start_effect}
use Rattle.session.proofs.Canonical.{started_effect}
use Rattle.records.specs.Records.{record_length}
use Rattle.trim.specs.Trims.{trim_limit, cut_counts, last_of, front_of, kept_of}
use Rattle.trim.specs.Replays.{in_trace, whole_trace, Leaves, Tried, Trimmable, Kept, Found}
use Rattle.trim.proofs.WholeTraces.{Whole, whole_is, front_fits}

-- the first of numbers one after the other
take_count : (k n m : ℕ) → n ≤ m → take n (count_from k m) ≡ count_from k n
unfolding count_from
take_count k zero m l = refl
take_count k (suc n) zero l = absurd (omega arith)
take_count k (suc n) (suc m) l = ap (λ (r : List ℕ). k ∷ r) (take_count (suc k) n m (omega arith))

module _ (image t ps : List ℕ) (last : ℕ) (ok : check_of image ≡ 0) (w : whole_trace t ≡ true) (e : last ≡ length t / record_length - 1)
    (numbers : ps ≡ count_from 0 trim_limit) where
  whole : Whole t
  whole = whole_is t w

  pub last_small : last < trim_limit
  last_small = omega (arith, e, whole.some, whole.few)

  ends : last ≡ last_of t
  ends = e ∙ whole.ends

  pub last_fits_lem : in_trace t last ≡ true
  last_fits_lem = ap (in_trace t) e ∙ whole.last_fits

  -- the positions in front of the last, as they are lent
  front_part : take (last - 0) (drop 0 ps) ≡ front_of t
  unfolding front_of
  front_part =
      let z : last - 0 ≡ last_of t = omega (arith, ends) in
      ap₂ (λ (n : ℕ) (x : List ℕ). take n x) z numbers ∙ take_count 0 (last_of t) trim_limit (omega (arith, ends, last_small))

  pub part_fits : every (in_trace t) (take (last - 0) (drop 0 ps)) ≡ true
  part_fits = ap (every (in_trace t)) front_part ∙ front_fits t last ends last_fits_lem

  module _ (zeros : List ℕ) {work work' : List ℕ} {r : Bool} (s : work ≡ start_effect image zeros) (z : length zeros ≡ session_length)
      (tried : Tried work t (take (last - 0) (drop 0 ps)) last work' r) where
    begun : work ≡ start_of (policy_in image)
    begun = s ∙ started_effect image zeros ok z

    told : r ≡ cut_counts (start_of (policy_in image)) t (last_of t) (front_of t)
    told =
        tried.told
        ∙ ap (λ (x : List ℕ). cut_counts x t last (take (last - 0) (drop 0 ps))) begun
        ∙ ap₂ (λ (n : ℕ) (x : List ℕ). cut_counts (start_of (policy_in image)) t n x) ends front_part

    pub found_none : r ≡ false → cut_counts (start_of (policy_in image)) t (last_of t) (front_of t) ≡ false
    found_none h = sym told ∙ h

    pub trimmable : (before : List ℕ) (m : ℕ) → length before ≡ session_length → r ≡ true → (m ≤ users_at) × Leaves t m → length work ≡ session_length
        → Trimmable image t ps before work' last m
    trimmable before m b h l d = record {
      ok = ok;
      first = b;
      second = tried.long ∙ d;
      wide = omega (arith, l.0);
      leaves = l.1;
      alike = tried.stays m l.1 ∙ ap (drop m) begun;
      ends = ends;
      last_fits = last_fits_lem;
      small = last_small;
      room = ap length numbers ∙ count_length 0 trim_limit;
      front = (let q : last - 0 ≡ last = omega arith in sym (ap (λ (n : ℕ). take n ps) q) ∙ front_part);
      counts = ap (λ (n : ℕ). cut_counts (start_of (policy_in image)) t n (front_of t)) ends ∙ sym told ∙ h;
    }

    pub found_some : (ps' : List ℕ) (kept : ℕ) → r ≡ true → length ps' ≡ trim_limit → Kept image t ps' last kept → Found image t (set ps' kept last) (kept + 1)
    unfolding kept_of
    found_some ps' kept h l k = record {
      counts = sym told ∙ h;
      fewer = omega (arith, k.fewer, last_small);
      is =
          ap (λ (j : ℕ). take j (set ps' kept last)) (add-one kept)
          ∙ take-suc-set ps' kept last (omega (arith, k.fewer, last_small, l))
          ∙ ap₂ (λ (x : List ℕ) (j : ℕ). x ++ (j ∷ [])) k.is ends;
    }
