-- DESK AGAINST GUARD (change request No. 14): what is proved of the answer, stated in full. The proofs are in the files that are cited.
use Prim.Native.Nat.{ℕ, ◌-◌, ◌^◌, ◌≤◌, ◌<◌}
use mathlib.Core.Path.{◌≡◌}
use mathlib.Core.Bool.{true, false, not, ◌&&◌, ◌||◌}
use mathlib.Core.List.{List, [], ◌∷◌}
use mathlib.Core.Logic.{◌↔◌, ◌≢◌}
use lib.Dec.{eqb}
use lib.ListN.{length}
use Rattle.lists.specs.Lists.{elem}
use Rattle.lists.specs.Counting.{some_below}
use Rattle.answers.specs.Refusals.{matrix, game_bounds}
use Rattle.matrix.specs.Flows.{has, matrix_good, Composed}
use Rattle.game.specs.declared.Position.{Position}
use Rattle.game.specs.declared.Move.TheVariants.{Read}
use Rattle.std.proofs.Common.{Option, Result}
use Rattle.game.specs.declared.Move.{Move}
use Rattle.answers.specs.declared.Refusal.{Refusal}
use Rattle.game.specs.Limits.{side_limit, read_count, right_count, round_limit, withdrawal_limit}
use Rattle.game.specs.Positions.{subject_of, object_of, legal, moved, withdrawn, reached}
use Rattle.game.specs.Games.{desk_wins}
use Rattle.game.specs.Strategies.{DeskForces, GuardForces, FirstWinning}
use Rattle.game.specs.Outcomes.{game_good, right_in, opening, first_winning, move_values, without_move, outcome_values, Answered, game_values}
use Rattle.game.specs.Search.{adds, addition_wins}
use Rattle.game.proofs.GamePositions as positions
use Rattle.game.proofs.IdleLaws as idle
use Rattle.game.proofs.StrategyLaws as strategies
use Rattle.game.proofs.OutcomeLaws as outcomes
use Rattle.game.proofs.GameAnswers as answers

-- ---- who can force the outcome, from any position

-- the definition by turns is true exactly if the desk has a strategy, and false exactly if the guard has one; never have both
pub desk_forces : (rounds b left : ℕ) (p : Position) → (desk_wins rounds b left p ≡ true) ↔ DeskForces b rounds left p
desk_forces = strategies.desk_forces

pub guard_forces : (rounds b left : ℕ) (p : Position) → (desk_wins rounds b left p ≡ false) ↔ GuardForces b rounds left p
guard_forces = strategies.guard_forces

pub not_both : (b rounds left : ℕ) (p : Position) → DeskForces b rounds left p → GuardForces b rounds left p → ⊥
not_both = strategies.not_both

-- idle moves, which bring the information to no holder that lacked it, leave the position as it is, and the desk needs none: it wins exactly
-- if a move that does so wins
pub idle_stays : (p : Position) (k : ℕ) → legal p k ≡ true → (k < right_count → adds p k ≡ false) → moved p k ≡ p
idle_stays = positions.idle_stays

pub desk_adds : (rounds b left : ℕ) (p : Position) → reached b p ≡ false → 1 ≤ rounds
    → desk_wins rounds b left p ≡ some_below (addition_wins rounds b left p) right_count
desk_adds = idle.desk_adds

-- ---- holders

-- a read brings the information to its subject if its object holds it, an append to its object if its subject does; the pass leaves all
pub read_holders : (p : Position) (k : ℕ) → k < read_count → (s : ℕ)
    → has (moved p k).subjects s ≡ (has p.subjects s || (has p.objects (object_of k) && eqb (subject_of k) s))
read_holders = positions.read_holders

pub read_objects : (p : Position) (k : ℕ) → k < read_count → (moved p k).objects ≡ p.objects
read_objects = positions.read_objects

pub append_holders : (p : Position) (k : ℕ) → read_count ≤ k → k < right_count → (o : ℕ)
    → has (moved p k).objects o ≡ (has p.objects o || (has p.subjects (subject_of k) && eqb (object_of k) o))
append_holders = positions.append_holders

pub append_subjects : (p : Position) (k : ℕ) → read_count ≤ k → (moved p k).subjects ≡ p.subjects
append_subjects = positions.append_subjects

pub pass_keeps : (p : Position) (k : ℕ) → right_count ≤ k → moved p k ≡ p
pass_keeps = positions.pass_keeps

-- ---- rights

-- a withdrawn right is gone, and no other; a move changes none: a right that is gone does not return
pub withdrawn_right : (p : Position) (k j : ℕ) → p.rights < 2 ^ 32 → k < right_count → has (withdrawn p k).rights j ≡ (has p.rights j && not (eqb k j))
withdrawn_right = positions.withdrawn_right

pub moved_rights : (p : Position) (k : ℕ) → (moved p k).rights ≡ p.rights
moved_rights = positions.moved_rights

-- at the opening the moves that can be made are those that the matrix allows
pub opening_right : (reads writes : List ℕ) (a k : ℕ) → k < right_count → legal (opening reads writes a) k ≡ right_in reads writes k
opening_right = outcomes.opening_right

-- ---- which games are refused by 23

pub game_good_lem : (subjects objects a b rounds withdrawals : ℕ) →
    (game_good subjects objects a b rounds withdrawals ≡ true)
    ↔ ((subjects ≤ side_limit)
    × (objects ≤ side_limit)
    × (a < objects)
    × (b < objects)
    × (a ≢ b)
    × (1 ≤ rounds)
    × (rounds ≤ round_limit)
    × (withdrawals ≤ withdrawal_limit))
game_good_lem subjects objects a b rounds withdrawals = (
  λ h. let g = outcomes.game_bounds_lem subjects objects a b rounds withdrawals h in (g.few_subjects, g.few_objects, g.source, g.target, g.apart, g.some, g.most, g.withdrawn),
  λ h. outcomes.bounds_game subjects objects a b rounds withdrawals
      (record { few_subjects = h.0; few_objects = h.1; source = h.2; target = h.3; apart = h.4; some = h.5; most = h.6; withdrawn = h.7 }),
)

-- ---- the answer

module _ (reads writes : List ℕ) (objects a b rounds withdrawals : ℕ) where
  -- a game that is not refused
  abbrev Played : Type 0
  Played = (matrix_good reads writes objects ≡ true) × (game_good (length reads) objects a b rounds withdrawals ≡ true)

  -- 8 exactly if the matrix is malformed, also where the game is out of bounds
  pub refused_8 : ((game_values reads writes objects a b rounds withdrawals).number ≡ matrix) ↔ (matrix_good reads writes objects ≡ false)
  refused_8 = answers.number_8 reads writes objects a b rounds withdrawals

  -- 23 exactly if it is not, and the game is out of bounds
  pub refused_23 : ((game_values reads writes objects a b rounds withdrawals).number ≡ game_bounds)
      ↔ ((matrix_good reads writes objects ≡ true) × (game_good (length reads) objects a b rounds withdrawals ≡ false))
  refused_23 = answers.number_23 reads writes objects a b rounds withdrawals

  -- and no other number
  pub given_among : elem (game_values reads writes objects a b rounds withdrawals).number (0 ∷ 1 ∷ matrix ∷ game_bounds ∷ []) ≡ true
  given_among = answers.numbers_among reads writes objects a b rounds withdrawals

  -- 1 exactly if the desk can force its win, 0 exactly if the guard can prevent it
  pub desk_exactly : ((game_values reads writes objects a b rounds withdrawals).number ≡ 1) ↔ (Played × DeskForces b rounds withdrawals (opening reads writes a))
  desk_exactly = answers.desk_exactly reads writes objects a b rounds withdrawals

  pub guard_exactly : ((game_values reads writes objects a b rounds withdrawals).number ≡ 0) ↔ (Played × GuardForces b rounds withdrawals (opening reads writes a))
  guard_exactly = answers.guard_exactly reads writes objects a b rounds withdrawals

  -- zeros elsewhere, but where the desk wins
  pub zeros : (game_values reads writes objects a b rounds withdrawals).number ≢ 1
      → game_values reads writes objects a b rounds withdrawals ≡ without_move (game_values reads writes objects a b rounds withdrawals).number
  zeros = answers.zeros reads writes objects a b rounds withdrawals

  -- the move told is legal, wins and is the first in the order of the numbers; it is always a read
  pub first_move : (game_values reads writes objects a b rounds withdrawals).number ≡ 1
      → (k : ℕ) × (k < read_count)
      × (game_values reads writes objects a b rounds withdrawals ≡ move_values (Read (subject_of k) (object_of k)))
      × FirstWinning b (rounds - 1) withdrawals (opening reads writes a) k
  first_move h =
      let f = (answers.number_1 reads writes objects a b rounds withdrawals).0 h in (
        first_winning rounds b withdrawals (opening reads writes a),
        answers.first_low reads writes objects a b rounds withdrawals f.0 f.1,
        answers.won reads writes objects a b rounds withdrawals f.0 f.1,
        answers.first_exactly reads writes objects a b rounds withdrawals f.0 f.1,
      )

  -- ---- composed flows

  -- whatever the guard may withdraw, the desk wins only where there is a composed flow from a to b
  pub desk_composed : (game_values reads writes objects a b rounds withdrawals).number ≡ 1 → Composed reads writes objects a b
  desk_composed = answers.composed_needed reads writes objects a b rounds withdrawals

  -- in four rounds, against a guard without withdrawals, it wins exactly there
  pub four_rounds : Played → rounds ≡ round_limit → withdrawals ≡ 0
      → ((game_values reads writes objects a b rounds withdrawals).number ≡ 1) ↔ Composed reads writes objects a b
  four_rounds u er ew = (desk_composed, answers.composed_enough reads writes objects a b rounds withdrawals u er ew)

-- an outcome is known by its values: what fixes these fixes the case
pub values_apart : (o q : Result (Option Move) Refusal) → Answered o → Answered q → outcome_values o ≡ outcome_values q → o ≡ q
values_apart = outcomes.values_apart
