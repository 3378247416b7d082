-- Two sessions that are the same behind the first numbers; positions numbered, and put at the front of the output.
use Prim.Native.Nat.{ℕ, ◌-◌, ◌<◌}
use native.Mathlib.Omega.{arith}
use native.Mathlib.Nat.{zero-add}
use mathlib.Core.Path.{◌≡◌, sym, ap, ◌∙◌}
use mathlib.Core.Bool.{Bool}
use mathlib.Core.List.{List, ◌++◌}
use lib.ListN.{length, take, drop, get_or, take-append-drop}
use borrow.Rule.Slice.PartMut.{put_mid}
use Rattle.lists.specs.Counting.{count_from}
use Rattle.lists.proofs.Counting.{count_at}
use Rattle.trim.specs.Trims.{trim_limit, cut_counts}
use Rattle.trim.specs.Replays.{Tried, Paired}

module _ (before work t : List ℕ) (m : ℕ) (g : Paired before work t m) where
  -- the first numbers of the one over those of the other
  pair_copied : (x : List ℕ) → x ≡ take (m - 0) (drop 0 before) → put_mid 0 (m - 0) work x ≡ before
  pair_copied x e = let z : m - 0 ≡ m = omega arith in rw (e, z) (ap (λ (r : List ℕ). take m before ++ r) g.alike ∙ take-append-drop m before)

  pub pair_tried : {x work' ks : List ℕ} {last : ℕ} {r : Bool} → x ≡ take (m - 0) (drop 0 before) → Tried (put_mid 0 (m - 0) work x) t ks last work' r
      → (r ≡ cut_counts before t last ks) × Paired before work' t m
  pair_tried {x} {work'} {ks} {last} {r} e h =
      let c : put_mid 0 (m - 0) work x ≡ before = pair_copied x e in (
        h.told ∙ ap (λ (s : List ℕ). cut_counts s t last ks) c,
        record { even = sym (h.long ∙ ap length c); wide = g.wide; leaves = g.leaves; alike = h.stays m g.leaves ∙ ap (drop m) c },
      )

-- the number of a place
pub numbered : (i : ℕ) → i < trim_limit → i ≡ get_or (count_from 0 trim_limit) i 0
numbered i l = sym (count_at 0 trim_limit i l ∙ zero-add i)
