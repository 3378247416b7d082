-- The first turn: each move judged, and the first that wins.
use mathlib.Core.Path.{◌≡◌, sym, ap, ◌∙◌}
use mathlib.Core.Bool.{Bool, true, false, not, ◌&&◌}
use mathlib.Core.List.{List}
use Prim.Native.Nat.{ℕ, ◌/◌, ◌%◌, ◌^◌, ◌<◌, ◌≤◌}
use native.Mathlib.Decide.{dec_lt}
use native.Mathlib.Omega.{arith}
use borrow.Author.Tests.{le-ltb}
use Rattle.lists.specs.Counting.{least_below}
use Rattle.lists.proofs.Bools.{and_0, and_1, clash, passes_test, fails_test}
use Rattle.lists.proofs.Below.{Least, least_is, least_some, least_none, Failing}
use Rattle.matrix.specs.Flows.{has}
use Rattle.matrix.specs.Rows.{bits_of}
use Rattle.matrix.proofs.RowBits.{has_is, has_not, has_zero, bits_above}
use Rattle.game.specs.declared.Position.{Position}
use Rattle.game.specs.Limits.{read_count, right_count, move_count}
use Rattle.game.specs.Positions.{legal, moved, reached, subject_of, object_of}
use Rattle.game.specs.Games.{desk_wins, guard_loses, move_wins}
use Rattle.game.specs.Outcomes.{right_in, opening, first_winning}
use Rattle.game.specs.Search.{adds, addition_wins, additions, Searched}
use Rattle.game.proofs.GamePositions.{idle_stays, moved_searched}
use Rattle.game.proofs.MoveSetLaws.{set_has, set_lacks}
use Rattle.game.proofs.Turns.{desk_turn}
use Rattle.game.proofs.IdleLaws.{addition_adds, addition_wins_lem, desk_adds}

-- ---- the moves that add a holder, among all

module _ (p : Position) (k : ℕ) {moves : ℕ} (e : moves ≡ additions p) where
  -- a bit that is set is one of them
  pub set_below : (moves / 2 ^ k % 2 ≡ 0 → ⊥) → k < right_count
  unfolding additions
  set_below h = by (dec_lt k right_count)
    where
      by : Dec (k < right_count) → k < right_count
      by (yes l) = l
      by (no l) = clash (has_is moves k (omega arith)) (ap (λ (x : ℕ). has x k) e ∙ bits_above (adds p) right_count k (omega arith))

  pub set_adds : (moves / 2 ^ k % 2 ≡ 0 → ⊥) → adds p k ≡ true
  set_adds h = set_has p k e (set_below h) (omega arith)

  set_idle : moves / 2 ^ k % 2 ≡ 0 → k < right_count → adds p k ≡ false
  set_idle h l = set_lacks p k e l (λ o. omega arith)

-- ---- one move

module _ (r b l : ℕ) (p : Position) (k : ℕ) where
  pub first_barred : {x : Bool} → x ≡ legal p k → not x ≡ true → false ≡ move_wins r b l p k
  unfolding move_wins
  first_barred {x} e h = rw (fails_test e h)

  pub first_idle : {x i : Bool} {moves : ℕ} → x ≡ legal p k → not x ≡ false → reached b p ≡ false → i ≡ guard_loses r b l p → moves ≡ additions p → moves / 2 ^ k % 2 ≡ 0
      → i ≡ move_wins r b l p k
  unfolding move_wins
  first_idle {x} {i} {moves} e h n j s z =
      let g : legal p k ≡ true = passes_test e h in
      let y : moved p k ≡ p = idle_stays p k g (set_idle p k s z) in
      rw (g, y, n) j

  pub first_reaches : {x : Bool} {q : Position} → x ≡ legal p k → not x ≡ false → q ≡ moved p k → q.objects / 2 ^ b % 2 ≡ 1 → true ≡ move_wins r b l p k
  unfolding move_wins
  first_reaches {x} {q} e h m t =
      let w : reached b (moved p k) ≡ true = ap (reached b) (sym m) ∙ unfold reached in (has_is q.objects b t) in
      rw (passes_test e h, w)

  pub first_apart : {q : Position} → q ≡ moved p k → (q.objects / 2 ^ b % 2 ≡ 1 → ⊥) → reached b (moved p k) ≡ false
  first_apart {q} m t = ap (reached b) (sym m) ∙ unfold reached in (has_not q.objects b t)

  pub first_searched : {q : Position} {moves : ℕ} → Searched r b p → moves ≡ additions p → (moves / 2 ^ k % 2 ≡ 0 → ⊥) → q ≡ moved p k → (q.objects / 2 ^ b % 2 ≡ 1 → ⊥) → Searched r b q
  first_searched {q} {moves} s e h m t = rw m (moved_searched r b p k (set_below p k e h) (set_adds p k e h) s (first_apart m t))

  pub first_judged : {x g : Bool} {q : Position} → x ≡ legal p k → not x ≡ false → q ≡ moved p k → (q.objects / 2 ^ b % 2 ≡ 1 → ⊥) → g ≡ guard_loses r b l q → g ≡ move_wins r b l p k
  unfolding move_wins
  first_judged {x} {g} {q} e h m t j =
      let v : g ≡ guard_loses r b l (moved p k) = j ∙ ap (guard_loses r b l) m in
      rw (passes_test e h, first_apart m t) v

-- ---- the first that wins

module _ (r b l : ℕ) (p : Position) where
  pub first_found : (k : ℕ) {x : Bool} → Failing (move_wins r b l p) move_count k → k < move_count → x ≡ move_wins r b l p k → x ≡ true → k ≡ first_winning r b l p
  unfolding first_winning
  first_found k {x} f m e h = sym (least_is (move_wins r b l p) move_count k m (sym e ∙ h) f.done)

  pub first_none : (k : ℕ) → Failing (move_wins r b l p) move_count k → move_count ≤ k → move_count ≡ first_winning r b l p
  unfolding first_winning
  first_none k f m = sym (least_none (move_wins r b l p) move_count (λ j i. f.done j (omega arith)))

-- ---- it is a read: at the opening no subject holds the information, so that no append adds a holder, and a desk that wins has a move that does

module _ (reads writes : List ℕ) (a : ℕ) where
  adds_reads : (k : ℕ) → adds (opening reads writes a) k ≡ true → k < read_count
  unfolding adds opening
  adds_reads k h = by (dec_lt k read_count)
    where
      by : Dec (k < read_count) → k < read_count
      by (yes l) = l
      by (no l) =
          let z : (has 0 (subject_of k) && not (has (2 ^ a) (object_of k))) ≡ true = rw (le-ltb k read_count (omega arith)) at (and_1 (has (bits_of (right_in reads writes) right_count) k) h) in
          clash (and_0 (has 0 (subject_of k)) (not (has (2 ^ a) (object_of k))) z) (has_zero (subject_of k))

  pub first_reads : (r b l : ℕ) → Searched r b (opening reads writes a) → desk_wins r b l (opening reads writes a) ≡ true → first_winning r b l (opening reads writes a) < read_count
  unfolding first_winning
  first_reads r b l z h =
      at (least_below (addition_wins r b l (opening reads writes a)) right_count)
      (least_some (addition_wins r b l (opening reads writes a)) right_count (sym (desk_adds r b l (opening reads writes a) z.apart z.some) ∙ h))
      (least_some (move_wins r b l (opening reads writes a)) move_count (sym (desk_turn r b l (opening reads writes a) z.some) ∙ h))
    where
      at : (j : ℕ) → Least (addition_wins r b l (opening reads writes a)) right_count j
          → Least (move_wins r b l (opening reads writes a)) move_count (least_below (move_wins r b l (opening reads writes a)) move_count)
          → least_below (move_wins r b l (opening reads writes a)) move_count < read_count
      at j w f = by (dec_lt j (least_below (move_wins r b l (opening reads writes a)) move_count))
        where
          low : j < read_count
          low = adds_reads j (addition_adds r b l (opening reads writes a) j w.passes)

          by : Dec (j < least_below (move_wins r b l (opening reads writes a)) move_count) → least_below (move_wins r b l (opening reads writes a)) move_count < read_count
          by (yes i) = clash (addition_wins_lem r b l (opening reads writes a) j w.below w.passes) (f.before j i)
          by (no i) = omega (arith, low)
