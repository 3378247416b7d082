-- A desk that wins needs no move that adds no holder.
use mathlib.Core.Path.{◌≡◌, refl, sym, ap, ◌∙◌}
use mathlib.Core.Bool.{Bool, true, false, cond, ◌||◌, ◌&&◌}
use mathlib.Core.Logic.{◌⊎◌, inl, inr}
use Prim.Native.Nat.{ℕ, zero, suc, ◌-◌, ◌*◌, ◌<◌, ◌≤◌}
use native.Mathlib.Decide.{dec_lt}
use native.Mathlib.Omega.{arith}
use lib.Dec.{eqb}
use Rattle.lists.specs.Counting.{some_below, least_below, all_below}
use Rattle.lists.proofs.Bools.{decide, and_in, and_0, and_1, clash, same_test}
use Rattle.lists.proofs.Below.{some_at, Least, least_some, all_at, all_in}
use Rattle.game.specs.declared.Position.{Position}
use Rattle.game.specs.Limits.{right_count, move_count}
use Rattle.game.specs.Positions.{legal, moved, withdrawn, reached}
use Rattle.game.specs.Games.{desk_in, guard_in, desk_wins, guard_loses, move_wins}
use Rattle.game.specs.Search.{adds, addition_wins}
use Rattle.game.proofs.GamePositions.{adds_legal, idle_stays}
use Rattle.game.proofs.Turns.{desk_turn}

-- ---- a round more does not harm the desk

pub record Longer (f : ℕ) : Type 0 where
  pub desk : (b l : ℕ) (p : Position) → desk_in f b l p ≡ true → desk_in (suc (suc f)) b l p ≡ true
  pub guard : (b l : ℕ) (p : Position) → guard_in f b l p ≡ true → guard_in (suc (suc f)) b l p ≡ true

or_more : (a : Bool) {x y : Bool} → (x ≡ true → y ≡ true) → (a || x) ≡ true → (a || y) ≡ true
or_more true g h = refl
or_more false g h = g h

-- a move wins by turns left, and a reply is none for the guard
abbrev move_in : ℕ → ℕ → ℕ → Position → ℕ → Bool
move_in f b l p k = legal p k && (reached b (moved p k) || guard_in f b l (moved p k))

abbrev reply_in : ℕ → ℕ → ℕ → Position → ℕ → Bool
reply_in f b l p k = cond (legal p k) (desk_in f b (l - 1) (withdrawn p k)) true

pub longer : (f : ℕ) → Longer f
unfolding desk_in guard_in
longer zero = record { desk = λ b l p h. clash h refl; guard = λ b l p h. clash h refl }
longer (suc f) = by (longer f)
  where
    by : Longer f → Longer (suc f)
    by ih = record { desk = desks; guard = guards }
      where
        desks : (b l : ℕ) (p : Position) → some_below (move_in f b l p) move_count ≡ true → some_below (move_in (suc (suc f)) b l p) move_count ≡ true
        desks b l p h = more (least_below (move_in f b l p) move_count) (least_some (move_in f b l p) move_count h)
          where
            more : (k : ℕ) → Least (move_in f b l p) move_count k → some_below (move_in (suc (suc f)) b l p) move_count ≡ true
            more k w =
                some_at (move_in (suc (suc f)) b l p) move_count k w.below
                (and_in (and_0 (legal p k) (reached b (moved p k) || guard_in f b l (moved p k)) w.passes)
                (or_more (reached b (moved p k)) (ih.guard b l (moved p k)) (and_1 (legal p k) w.passes)))

        guards : (b l : ℕ) (p : Position)
            → (desk_in f b l p && cond (eqb l 0) true (all_below (reply_in f b l p) right_count)) ≡ true
            → (desk_in (suc (suc f)) b l p && cond (eqb l 0) true (all_below (reply_in (suc (suc f)) b l p) right_count)) ≡ true
        guards b l p h =
            and_in (ih.desk b l p (and_0 (desk_in f b l p) (cond (eqb l 0) true (all_below (reply_in f b l p) right_count)) h))
            (replies (eqb l 0) (and_1 (desk_in f b l p) h))
          where
            each : (k : ℕ) (x : Bool) → cond x (desk_in f b (l - 1) (withdrawn p k)) true ≡ true → cond x (desk_in (suc (suc f)) b (l - 1) (withdrawn p k)) true ≡ true
            each k true e = ih.desk b (l - 1) (withdrawn p k) e
            each k false e = refl

            replies : (x : Bool) → cond x true (all_below (reply_in f b l p) right_count) ≡ true → cond x true (all_below (reply_in (suc (suc f)) b l p) right_count) ≡ true
            replies true e = refl
            replies false e = all_in (reply_in (suc (suc f)) b l p) right_count (λ k m. each k (legal p k) (all_at (reply_in f b l p) right_count k e m))

-- ---- the desk needs no idle move

pub record Addition (f b l : ℕ) (p : Position) : Type 0 where
  pub place : ℕ
  pub below : place < right_count
  pub adding : adds p place ≡ true
  pub winning : (reached b (moved p place) || guard_in f b l (moved p place)) ≡ true

-- the winning move adds a holder, or the desk also wins without it
look : (f b l : ℕ) (p : Position) → reached b p ≡ false → desk_in (suc f) b l p ≡ true → Addition f b l p ⊎ (guard_in f b l p ≡ true)
unfolding desk_in
look f b l p n h = at (least_below (move_in f b l p) move_count) (least_some (move_in f b l p) move_count h)
  where
    idle : (k : ℕ) → legal p k ≡ true → (reached b (moved p k) || guard_in f b l (moved p k)) ≡ true → (k < right_count → adds p k ≡ false) → guard_in f b l p ≡ true
    idle k g w e =
        let z : moved p k ≡ p = idle_stays p k g e in
        let y : (reached b p || guard_in f b l p) ≡ true = sym (ap (λ (q : Position). reached b q || guard_in f b l q) z) ∙ w in
        rw n at y

    at : (k : ℕ) → Least (move_in f b l p) move_count k → Addition f b l p ⊎ (guard_in f b l p ≡ true)
    at k w = by (dec_lt k right_count) (decide (adds p k))
      where
        g : legal p k ≡ true
        g = and_0 (legal p k) (reached b (moved p k) || guard_in f b l (moved p k)) w.passes

        v : (reached b (moved p k) || guard_in f b l (moved p k)) ≡ true
        v = and_1 (legal p k) w.passes

        by : Dec (k < right_count) → (adds p k ≡ true) ⊎ (adds p k ≡ false) → Addition f b l p ⊎ (guard_in f b l p ≡ true)
        by (yes m) (inl a) = inl (record { place = k; below = m; adding = a; winning = v })
        by (yes m) (inr a) = inr (idle k g v (λ _. a))
        by (no m) d = inr (idle k g v (λ x. absurd (m x)))

pub adds_found : (f b l : ℕ) (p : Position) → reached b p ≡ false → desk_in (suc f) b l p ≡ true → Addition f b l p
unfolding guard_in desk_in
adds_found zero b l p n h = by (look zero b l p n h)
  where
    by : Addition zero b l p ⊎ (guard_in zero b l p ≡ true) → Addition zero b l p
    by (inl a) = a
    by (inr g) = clash g refl
adds_found (suc zero) b l p n h = by (look (suc zero) b l p n h)
  where
    by : Addition (suc zero) b l p ⊎ (guard_in (suc zero) b l p ≡ true) → Addition (suc zero) b l p
    by (inl a) = a
    by (inr g) = clash g refl
adds_found (suc (suc f)) b l p n h = by (look (suc (suc f)) b l p n h) (λ g. adds_found f b l p n g)
  where
    by : Addition (suc (suc f)) b l p ⊎ (guard_in (suc (suc f)) b l p ≡ true) → (desk_in (suc f) b l p ≡ true → Addition f b l p) → Addition (suc (suc f)) b l p
    by (inl a) ih = a
    by (inr g) ih =
        let a : Addition f b l p = ih (and_0 (desk_in (suc f) b l p) (cond (eqb l 0) true (all_below (reply_in (suc f) b l p) right_count)) g) in
        record {
          place = a.place;
          below = a.below;
          adding = a.adding;
          winning = or_more (reached b (moved p a.place)) ((longer f).guard b l (moved p a.place)) a.winning;
        }

-- ---- the same by rounds

adds_to : (r b l : ℕ) (p : Position) → reached b p ≡ false → 1 ≤ r → desk_wins r b l p ≡ true → some_below (addition_wins r b l p) right_count ≡ true
unfolding desk_wins addition_wins guard_loses
adds_to r b l p n z h =
    let e : 2 * r ≡ suc (2 * r - 1) = omega arith in
    let a : Addition (2 * r - 1) b l p = adds_found (2 * r - 1) b l p n (sym (ap (λ (k : ℕ). desk_in k b l p) e) ∙ h) in
    some_at (addition_wins r b l p) right_count a.place a.below (and_in {b = reached b (moved p a.place) || guard_in (2 * r - 1) b l (moved p a.place)} a.adding a.winning)

pub addition_adds : (r b l : ℕ) (p : Position) (k : ℕ) → addition_wins r b l p k ≡ true → adds p k ≡ true
unfolding addition_wins
addition_adds r b l p k h = and_0 (adds p k) (reached b (moved p k) || guard_loses r b l (moved p k)) h

pub addition_wins_lem : (r b l : ℕ) (p : Position) (k : ℕ) → k < right_count → addition_wins r b l p k ≡ true → move_wins r b l p k ≡ true
unfolding addition_wins move_wins
addition_wins_lem r b l p k m h = and_in (adds_legal p k m (addition_adds r b l p k h)) (and_1 (adds p k) h)

adds_back : (r b l : ℕ) (p : Position) → 1 ≤ r → some_below (addition_wins r b l p) right_count ≡ true → desk_wins r b l p ≡ true
adds_back r b l p z h = at (least_below (addition_wins r b l p) right_count) (least_some (addition_wins r b l p) right_count h)
  where
    at : (k : ℕ) → Least (addition_wins r b l p) right_count k → desk_wins r b l p ≡ true
    at k w = desk_turn r b l p z ∙ some_at (move_wins r b l p) move_count k (omega (arith, w.below)) (addition_wins_lem r b l p k w.below w.passes)

pub desk_adds : (r b l : ℕ) (p : Position) → reached b p ≡ false → 1 ≤ r → desk_wins r b l p ≡ some_below (addition_wins r b l p) right_count
desk_adds r b l p n z = same_test (desk_wins r b l p) (some_below (addition_wins r b l p) right_count) (adds_to r b l p n z) (adds_back r b l p z)
