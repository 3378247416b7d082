-- The answer by its cases: refused by 8, by 23, the desk, the guard.
use mathlib.Core.Path.{◌≡◌, sym, ap, subst, ◌∙◌}
use mathlib.Core.Bool.{true, false}
use mathlib.Core.Logic.{◌⊎◌, inl, inr, ◌↔◌}
use mathlib.Core.List.{List, [], ◌∷◌}
use Prim.Native.Nat.{ℕ, suc, ◌-◌, ◌<◌}
use native.Mathlib.Omega.{arith}
use lib.ListN.{length}
use borrow.Author.Tests.{lt-ltb, le-ltb}
use Rattle.lists.specs.Lists.{elem}
use Rattle.lists.specs.Counting.{some_below}
use Rattle.lists.proofs.Bools.{decide}
use Rattle.lists.proofs.Below.{Least, least_some, least_none, none_at}
use Rattle.answers.specs.Refusals.{matrix, game_bounds}
use Rattle.matrix.specs.Flows.{matrix_good, Composed}
use Rattle.matrix.proofs.PathFlows.{rows_exact}
use Rattle.matrix.proofs.GoodLaws.{Good, good_parts}
use Rattle.game.specs.declared.Position.{Position}
use Rattle.game.specs.declared.Move.TheVariants.{Read}
use Rattle.game.specs.declared.OutcomeValues.{OutcomeValues}
use Rattle.game.specs.Limits.{read_count, move_count, round_limit}
use Rattle.game.specs.Positions.{subject_of, object_of}
use Rattle.game.specs.Games.{desk_wins, move_wins}
use Rattle.game.specs.Strategies.{DeskForces, GuardForces, FirstWinning}
use Rattle.game.specs.Outcomes.{game_good, opening, move_at, first_winning, outcome_of, without_move, move_values, game_values}
use Rattle.game.specs.Search.{Searched}
use Rattle.game.proofs.Turns.{desk_turn}
use Rattle.game.proofs.FirstMoves.{first_reads}
use Rattle.game.proofs.OutcomeLaws.{Bounds, game_bounds_lem, opening_searched, refused_matrix, refused_game, played}
use Rattle.game.proofs.GameFlows.{desk_composed, composed_desk}
use Rattle.game.proofs.StrategyLaws.{desk_forces, guard_forces, move_forces, move_held}

-- the values of a read
read_at : (k : ℕ) → k < read_count → move_at k ≡ Read (subject_of k) (object_of k)
unfolding move_at
read_at k l = rw (lt-ltb k read_count l)

module _ (reads writes : List ℕ) (objects a b rounds withdrawals : ℕ) where
  -- the answer
  abbrev given : OutcomeValues
  given = game_values reads writes objects a b rounds withdrawals

  abbrev p : Position
  p = opening reads writes a

  -- the number of the desk's first winning move
  abbrev k : ℕ
  k = first_winning rounds b withdrawals p

  abbrev Unrefused : Type 0
  Unrefused = (matrix_good reads writes objects ≡ true) × (game_good (length reads) objects a b rounds withdrawals ≡ true)

  -- ---- a game that is not refused

  module _ (u : Unrefused) where
    bounds : Bounds (length reads) objects a b rounds withdrawals
    bounds = game_bounds_lem (length reads) objects a b rounds withdrawals u.1

    searched : Searched rounds b p
    searched = opening_searched reads writes a b rounds (omega (arith, bounds.source, bounds.few_objects)) (omega (arith, bounds.target, bounds.few_objects)) bounds.apart bounds.some

    turn : desk_wins rounds b withdrawals p ≡ some_below (move_wins rounds b withdrawals p) move_count
    turn = desk_turn rounds b withdrawals p bounds.some

    pub first_least : desk_wins rounds b withdrawals p ≡ true → Least (move_wins rounds b withdrawals p) move_count k
    unfolding first_winning
    first_least h = least_some (move_wins rounds b withdrawals p) move_count (sym turn ∙ h)

    pub first_low : desk_wins rounds b withdrawals p ≡ true → k < read_count
    first_low h = first_reads reads writes a rounds b withdrawals searched h

    -- the desk: a read
    pub won : desk_wins rounds b withdrawals p ≡ true → given ≡ move_values (Read (subject_of k) (object_of k))
    unfolding outcome_of
    won h =
        let l : k < read_count = first_low h in
        let m : k < move_count = omega arith in
        sym (played reads writes objects a b rounds withdrawals u.0 u.1) ∙ rw (lt-ltb k move_count m, read_at k l)

    -- the guard
    pub lost : desk_wins rounds b withdrawals p ≡ false → given ≡ without_move 0
    unfolding outcome_of first_winning
    lost h =
        let e : first_winning rounds b withdrawals p ≡ move_count =
        least_none (move_wins rounds b withdrawals p) move_count (λ j i. none_at (move_wins rounds b withdrawals p) move_count j (sym turn ∙ h) i) in
        sym (played reads writes objects a b rounds withdrawals u.0 u.1) ∙ rw (le-ltb k move_count (omega (arith, e)))

  -- ---- the four cases

  pub data Case : Type 0 where
    malformed : matrix_good reads writes objects ≡ false → given ≡ without_move matrix → Case
    out_of_bounds : matrix_good reads writes objects ≡ true → game_good (length reads) objects a b rounds withdrawals ≡ false → given ≡ without_move game_bounds → Case
    desk : Unrefused → desk_wins rounds b withdrawals p ≡ true → given ≡ move_values (Read (subject_of k) (object_of k)) → Case
    guard : Unrefused → desk_wins rounds b withdrawals p ≡ false → given ≡ without_move 0 → Case

  pub case : Case
  case = by (decide (matrix_good reads writes objects)) (decide (game_good (length reads) objects a b rounds withdrawals)) (decide (desk_wins rounds b withdrawals p))
    where
      by : (matrix_good reads writes objects ≡ true) ⊎ (matrix_good reads writes objects ≡ false)
          → (game_good (length reads) objects a b rounds withdrawals ≡ true) ⊎ (game_good (length reads) objects a b rounds withdrawals ≡ false)
          → (desk_wins rounds b withdrawals p ≡ true) ⊎ (desk_wins rounds b withdrawals p ≡ false) → Case
      by (inr m) g d = malformed m (sym (refused_matrix reads writes objects a b rounds withdrawals m))
      by (inl m) (inr g) d = out_of_bounds m g (sym (refused_game reads writes objects a b rounds withdrawals m g))
      by (inl m) (inl g) (inl d) = desk (m, g) d (won (m, g) d)
      by (inl m) (inl g) (inr d) = guard (m, g) d (lost (m, g) d)

  -- ---- each number exactly

  number_is : {v : OutcomeValues} {n : ℕ} → given ≡ v → given.number ≡ n → v.number ≡ n
  number_is {v} {n} e h = sym (ap (λ (x : OutcomeValues). x.number) e) ∙ h

  told : {v : OutcomeValues} → given ≡ v → given.number ≡ v.number
  told {v} e = ap (λ (x : OutcomeValues). x.number) e

  pub number_8 : (given.number ≡ matrix) ↔ (matrix_good reads writes objects ≡ false)
  number_8 = (λ h. to h case, λ h. told (sym (refused_matrix reads writes objects a b rounds withdrawals h)))
    where
      to : given.number ≡ matrix → Case → matrix_good reads writes objects ≡ false
      to h (malformed m e) = m
      to h (out_of_bounds m g e) = absurd (omega (arith, number_is e h))
      to h (desk u d e) = absurd (omega (arith, number_is e h))
      to h (guard u d e) = absurd (omega (arith, number_is e h))

  pub number_23 : (given.number ≡ game_bounds) ↔ ((matrix_good reads writes objects ≡ true) × (game_good (length reads) objects a b rounds withdrawals ≡ false))
  number_23 = (λ h. to h case, λ h. told (sym (refused_game reads writes objects a b rounds withdrawals h.0 h.1)))
    where
      to : given.number ≡ game_bounds → Case → (matrix_good reads writes objects ≡ true) × (game_good (length reads) objects a b rounds withdrawals ≡ false)
      to h (malformed m e) = absurd (omega (arith, number_is e h))
      to h (out_of_bounds m g e) = (m, g)
      to h (desk u d e) = absurd (omega (arith, number_is e h))
      to h (guard u d e) = absurd (omega (arith, number_is e h))

  pub number_1 : (given.number ≡ 1) ↔ (Unrefused × (desk_wins rounds b withdrawals p ≡ true))
  number_1 = (λ h. to h case, λ h. told (won h.0 h.1))
    where
      to : given.number ≡ 1 → Case → Unrefused × (desk_wins rounds b withdrawals p ≡ true)
      to h (malformed m e) = absurd (omega (arith, number_is e h))
      to h (out_of_bounds m g e) = absurd (omega (arith, number_is e h))
      to h (desk u d e) = (u, d)
      to h (guard u d e) = absurd (omega (arith, number_is e h))

  pub number_0 : (given.number ≡ 0) ↔ (Unrefused × (desk_wins rounds b withdrawals p ≡ false))
  number_0 = (λ h. to h case, λ h. told (lost h.0 h.1))
    where
      to : given.number ≡ 0 → Case → Unrefused × (desk_wins rounds b withdrawals p ≡ false)
      to h (malformed m e) = absurd (omega (arith, number_is e h))
      to h (out_of_bounds m g e) = absurd (omega (arith, number_is e h))
      to h (desk u d e) = absurd (omega (arith, number_is e h))
      to h (guard u d e) = (u, d)

  pub numbers_among : elem given.number (0 ∷ 1 ∷ matrix ∷ game_bounds ∷ []) ≡ true
  unfolding elem
  numbers_among = by case
    where
      by : Case → elem given.number (0 ∷ 1 ∷ matrix ∷ game_bounds ∷ []) ≡ true
      by (malformed m e) = rw (told e)
      by (out_of_bounds m g e) = rw (told e)
      by (desk u d e) = rw (told e)
      by (guard u d e) = rw (told e)

  -- a number that is not 1 comes with zeros
  pub zeros : (given.number ≡ 1 → ⊥) → given ≡ without_move given.number
  zeros n = by case
    where
      by : Case → given ≡ without_move given.number
      by (malformed m e) = e ∙ ap without_move (sym (told e))
      by (out_of_bounds m g e) = e ∙ ap without_move (sym (told e))
      by (desk u d e) = absurd (n (told e))
      by (guard u d e) = e ∙ ap without_move (sym (told e))

  -- ---- by strategies

  both : {X Y Z : Type 0} → X ↔ (Z × Y) → {W : Type 0} → Y ↔ W → X ↔ (Z × W)
  both {X} {Y} {Z} (f, g) {W} (t, s) = (λ x. ((f x).0, t (f x).1), λ y. g (y.0, s y.1))

  pub desk_exactly : (given.number ≡ 1) ↔ (Unrefused × DeskForces b rounds withdrawals p)
  desk_exactly = both number_1 (desk_forces rounds b withdrawals p)

  pub guard_exactly : (given.number ≡ 0) ↔ (Unrefused × GuardForces b rounds withdrawals p)
  guard_exactly = both number_0 (guard_forces rounds b withdrawals p)

  -- the first winning move
  pub first_exactly : Unrefused → desk_wins rounds b withdrawals p ≡ true → FirstWinning b (rounds - 1) withdrawals p k
  first_exactly u h = by (first_least u h)
    where
      e : rounds ≡ suc (rounds - 1)
      e = omega (arith, (bounds u).some)

      wins : (j : ℕ) → move_wins (suc (rounds - 1)) b withdrawals p j ≡ move_wins rounds b withdrawals p j
      wins j = ap (λ (r : ℕ). move_wins r b withdrawals p j) (sym e)

      by : Least (move_wins rounds b withdrawals p) move_count k → FirstWinning b (rounds - 1) withdrawals p k
      by w =
          let f = (move_forces (rounds - 1) b withdrawals p k).0 (wins k ∙ w.passes) in
          record { legally = f.0; through = f.1; before = λ j i g. move_held (rounds - 1) b withdrawals p j g (wins j ∙ w.before j i) }

  -- ---- by composed flows

  parts : Unrefused → Good reads writes objects
  parts u = good_parts reads writes objects u.0

  -- whatever the guard may withdraw, the desk wins only where there is a composed flow
  pub composed_needed : given.number ≡ 1 → Composed reads writes objects a b
  composed_needed h =
      let f = desk_exactly.0 h in
      desk_composed reads writes objects a (parts f.0).even ((rows_exact objects writes).0 (parts f.0).writes_good) b rounds withdrawals (bounds f.0).source f.1

  -- against a guard that has no withdrawal, in four rounds, it wins wherever there is one
  pub composed_enough : Unrefused → rounds ≡ round_limit → withdrawals ≡ 0 → Composed reads writes objects a b → given.number ≡ 1
  composed_enough u er ew c = desk_exactly.1 (u, subst (λ (r : ℕ). DeskForces b r withdrawals p) (sym er) (subst (λ (l : ℕ). DeskForces b round_limit l p) (sym ew) (won_by (bounds u))))
    where
      won_by : Bounds (length reads) objects a b rounds withdrawals → DeskForces b round_limit 0 p
      won_by g = composed_desk reads writes objects a b (parts u).even g.few_subjects g.few_objects g.source g.target g.apart c
