-- The tests of a game, its opening, and the answer.
use mathlib.Core.Path.{◌≡◌, refl, sym, ap, subst, ◌∙◌}
use mathlib.Core.Bool.{true, false, not, cond, ◌&&◌}
use mathlib.Core.List.{List}
use Prim.Native.Nat.{ℕ, ◌*◌, ◌%◌, ◌^◌, ◌<◌, ◌≤◌}
use native.Mathlib.Omega.{arith}
use lib.Dec.{eqb, ltb, leb}
use lib.ListN.{length}
use lib.Pow.{pow-lt}
use borrow.Author.Tests.{eq-eqb, ne_eqb, lt-ltb, le-ltb, le-leb, lt-leb, leb-true, ltb-true, eqb-false, not-true}
use Rattle.lists.specs.Conditions.{first_failed}
use Rattle.lists.proofs.Bools.{and_0, and_1}
use Rattle.answers.specs.Refusals.{matrix, game_bounds}
use Rattle.matrix.specs.Flows.{count_good, matrix_good}
use Rattle.matrix.specs.Rows.{bits_of}
use Rattle.matrix.proofs.RowBits.{one_bit, has_single, bits_has}
use Rattle.game.specs.declared.Position.{Position}
use Rattle.game.specs.declared.Move.{Move}
use Rattle.game.specs.declared.Move.TheVariants.{Read, Append, Pass}
use Rattle.std.proofs.Common.{Option, None, Some, Result, Ok, Err, inl, inr}
use Rattle.answers.specs.declared.Refusal.{Refusal}
use Rattle.answers.specs.declared.Refusal.TheVariants as V
use Rattle.game.specs.declared.OutcomeValues.{OutcomeValues}
use Rattle.game.specs.Limits.{side_limit, right_count, move_count, round_limit, withdrawal_limit}
use Rattle.game.specs.Positions.{legal, reached}
use Rattle.game.specs.Outcomes.{game_good, game_conditions, right_in, opening, move_at, first_winning, outcome_of, without_move, outcome_values, Answered, unless_refused, game_values}
use Rattle.game.specs.Search.{Searched, Rows}
use Rattle.game.proofs.GamePositions.{legal_is}
use Rattle.game.proofs.RightSets.{good_rows}

-- ---- what a game is refused for

module _ (subjects objects a b rounds withdrawals : ℕ) where
  pub many_subjects : side_limit < subjects → false ≡ game_good subjects objects a b rounds withdrawals
  unfolding game_good
  many_subjects h = rw (lt-leb subjects side_limit h)

  module _ (s : subjects ≤ side_limit) where
    pub many_objects : side_limit < objects → false ≡ game_good subjects objects a b rounds withdrawals
    unfolding game_good
    many_objects h = rw (le-leb subjects side_limit s, lt-leb objects side_limit h)

    module _ (o : objects ≤ side_limit) where
      pub no_source : objects ≤ a → false ≡ game_good subjects objects a b rounds withdrawals
      unfolding game_good
      no_source h = rw (le-leb subjects side_limit s, le-leb objects side_limit o, le-ltb a objects h)

      module _ (i : a < objects) where
        pub no_target : objects ≤ b → false ≡ game_good subjects objects a b rounds withdrawals
        unfolding game_good
        no_target h = rw (le-leb subjects side_limit s, le-leb objects side_limit o, lt-ltb a objects i, le-ltb b objects h)

        module _ (j : b < objects) where
          pub same_object : a ≡ b → false ≡ game_good subjects objects a b rounds withdrawals
          unfolding game_good
          same_object h = rw (le-leb subjects side_limit s, le-leb objects side_limit o, lt-ltb a objects i, lt-ltb b objects j, eq-eqb a b h)

          -- the objects are good: what is left are the counts
          counts : (a ≡ b → ⊥) → game_good subjects objects a b rounds withdrawals ≡ (count_good round_limit rounds && leb withdrawals withdrawal_limit)
          unfolding game_good
          counts n = rw (le-leb subjects side_limit s, le-leb objects side_limit o, lt-ltb a objects i, lt-ltb b objects j, ne_eqb a b n)

          module _ (n : a ≡ b → ⊥) where
            pub few_rounds : rounds < 1 → false ≡ game_good subjects objects a b rounds withdrawals
            unfolding count_good
            few_rounds h = sym (counts n ∙ rw (lt-leb 1 rounds h))

            pub many_rounds : 1 ≤ rounds → round_limit < rounds → false ≡ game_good subjects objects a b rounds withdrawals
            unfolding count_good
            many_rounds l h = sym (counts n ∙ rw (le-leb 1 rounds l, lt-leb rounds round_limit h))

            pub withdrawals_left : 1 ≤ rounds → rounds ≤ round_limit → leb withdrawals withdrawal_limit ≡ game_good subjects objects a b rounds withdrawals
            unfolding count_good
            withdrawals_left l h = sym (counts n ∙ rw (le-leb 1 rounds l, le-leb rounds round_limit h))

-- what a game has that is not refused
pub record Bounds (subjects objects a b rounds withdrawals : ℕ) : Type 0 where
  pub few_subjects : subjects ≤ side_limit
  pub few_objects : objects ≤ side_limit
  pub source : a < objects
  pub target : b < objects
  pub apart : a ≡ b → ⊥
  pub some : 1 ≤ rounds
  pub most : rounds ≤ round_limit
  pub withdrawn : withdrawals ≤ withdrawal_limit

pub game_bounds_lem : (subjects objects a b rounds withdrawals : ℕ) → game_good subjects objects a b rounds withdrawals ≡ true
    → Bounds subjects objects a b rounds withdrawals
unfolding game_good count_good
game_bounds_lem subjects objects a b rounds withdrawals h =
    let x = and_1 (leb subjects side_limit) h in
    let y = and_1 (leb objects side_limit) x in
    let z = and_1 (ltb a objects) y in
    let w = and_1 (ltb b objects) z in
    let v = and_1 (not (eqb a b)) w in
    let c = and_0 (leb 1 rounds && leb rounds round_limit) (leb withdrawals withdrawal_limit) v in
    record {
      few_subjects = leb-true subjects side_limit (and_0 (leb subjects side_limit) _ h);
      few_objects = leb-true objects side_limit (and_0 (leb objects side_limit) _ x);
      source = ltb-true a objects (and_0 (ltb a objects) _ y);
      target = ltb-true b objects (and_0 (ltb b objects) _ z);
      apart = eqb-false a b (not-true (eqb a b) (and_0 (not (eqb a b)) _ w));
      some = leb-true 1 rounds (and_0 (leb 1 rounds) (leb rounds round_limit) c);
      most = leb-true rounds round_limit (and_1 (leb 1 rounds) c);
      withdrawn = leb-true withdrawals withdrawal_limit (and_1 (leb 1 rounds && leb rounds round_limit) v);
    }

pub bounds_game : (subjects objects a b rounds withdrawals : ℕ) → Bounds subjects objects a b rounds withdrawals
    → game_good subjects objects a b rounds withdrawals ≡ true
unfolding game_good count_good
bounds_game subjects objects a b rounds withdrawals g =
    rw (
      le-leb subjects side_limit g.few_subjects,
      le-leb objects side_limit g.few_objects,
      lt-ltb a objects g.source,
      lt-ltb b objects g.target,
      ne_eqb a b g.apart,
      le-leb 1 rounds g.some,
      le-leb rounds round_limit g.most,
      le-leb withdrawals withdrawal_limit g.withdrawn,
    )

-- ---- the opening

opening_is : (reads writes : List ℕ) (a r : ℕ) → a < 32 → r ≡ bits_of (right_in reads writes) right_count
    → ◌≡◌ {A = Position} (record { rights = r; subjects = 0; objects = 1 * 2 ^ a % 4294967296 }) (opening reads writes a)
unfolding opening
opening_is reads writes a r l e = rw (e, one_bit a l)

pub opening_searched : (reads writes : List ℕ) (a b rounds : ℕ) → a < side_limit → b < side_limit → (a ≡ b → ⊥) → 1 ≤ rounds → Searched rounds b (opening reads writes a)
unfolding opening reached
opening_searched reads writes a b rounds la lb n l =
    record { some = l; target = lb; subjects = omega arith; objects = pow-lt la; apart = has_single a b ∙ ne_eqb a b n }

pub opening_right : (reads writes : List ℕ) (a k : ℕ) → k < right_count → legal (opening reads writes a) k ≡ right_in reads writes k
unfolding opening
opening_right reads writes a k l = legal_is (opening reads writes a) k l ∙ bits_has (right_in reads writes) right_count k l

-- ---- the answer

module _ (reads writes : List ℕ) (objects a b rounds withdrawals : ℕ) where
  pub refused_matrix : matrix_good reads writes objects ≡ false → without_move matrix ≡ game_values reads writes objects a b rounds withdrawals
  unfolding game_values unless_refused first_failed game_conditions
  refused_matrix h = rw h

  module _ (g : matrix_good reads writes objects ≡ true) where
    pub refused_game : game_good (length reads) objects a b rounds withdrawals ≡ false → without_move game_bounds ≡ game_values reads writes objects a b rounds withdrawals
    unfolding game_values unless_refused first_failed game_conditions
    refused_game h = rw (g, h)

    pub played : game_good (length reads) objects a b rounds withdrawals ≡ true
        → outcome_values (Ok (outcome_of (first_winning rounds b withdrawals (opening reads writes a)))) ≡ game_values reads writes objects a b rounds withdrawals
    unfolding game_values unless_refused first_failed game_conditions
    played h = rw (g, h)

pub outcome_desk : (k : ℕ) {m : Move} → k < move_count → m ≡ move_at k → Some m ≡ outcome_of k
unfolding outcome_of
outcome_desk k {m} l e = rw (lt-ltb k move_count l) (ap (λ (x : Move). Some x) e)

pub outcome_guard : None ≡ outcome_of move_count
unfolding outcome_of
outcome_guard = refl

-- ---- the same as code makes it

module _ (reads writes : List ℕ) (objects a b rounds withdrawals : ℕ) (g : matrix_good reads writes objects ≡ true) (h : game_good (length reads) objects a b rounds withdrawals ≡ true) where
  bounds : Bounds (length reads) objects a b rounds withdrawals
  bounds = game_bounds_lem (length reads) objects a b rounds withdrawals h

  pub play_rows : Rows reads writes
  play_rows = good_rows reads writes objects g bounds.few_subjects bounds.few_objects

  pub play_source : a < 32
  play_source = omega (arith, bounds.source, bounds.few_objects)

  module _ (r : ℕ) (e : r ≡ bits_of (right_in reads writes) right_count) where
    -- the first position
    abbrev p : Position
    p = record { rights = r; subjects = 0; objects = 1 * 2 ^ a % 4294967296 }

    p_is : p ≡ opening reads writes a
    p_is = opening_is reads writes a r play_source e

    pub play_searched : Searched rounds b (record { rights = r; subjects = 0; objects = 1 * 2 ^ a % 4294967296 })
    play_searched =
        subst (Searched rounds b) (sym p_is)
        (opening_searched reads writes a b rounds (omega (arith, bounds.source, bounds.few_objects)) (omega (arith, bounds.target, bounds.few_objects)) bounds.apart bounds.some)

    pub play_outcome : {o : Option Move} → o ≡ outcome_of (first_winning rounds b withdrawals (record { rights = r; subjects = 0; objects = 1 * 2 ^ a % 4294967296 }))
        → outcome_values (Ok o) ≡ game_values reads writes objects a b rounds withdrawals
    play_outcome {o} f =
        ap (λ (x : Option Move). outcome_values (Ok x)) (f ∙ ap (λ (q : Position). outcome_of (first_winning rounds b withdrawals q)) p_is)
        ∙ played reads writes objects a b rounds withdrawals g h

-- ---- an outcome is known by its values

outcome_in : OutcomeValues → Result (Option Move) Refusal
outcome_in v =
    cond (eqb v.number matrix)
    (Err V.Matrix)
    (cond (eqb v.number game_bounds)
    (Err V.GameBounds)
    (cond (eqb v.number 0)
    (Ok None)
    (Ok (Some (cond (eqb v.code 1) (Read v.subject v.object) (cond (eqb v.code 3) (Append v.subject v.object) Pass))))))

outcome_back : (o : Result (Option Move) Refusal) → Answered o → outcome_in (outcome_values o) ≡ o
unfolding outcome_in
outcome_back (Err refusal) (inl e) = rw e
outcome_back (Err refusal) (inr e) = rw e
outcome_back (Ok None) h = refl
outcome_back (Ok (Some (Read s o))) h = refl
outcome_back (Ok (Some (Append s o))) h = refl
outcome_back (Ok (Some Pass)) h = refl

pub values_apart : (o q : Result (Option Move) Refusal) → Answered o → Answered q → outcome_values o ≡ outcome_values q → o ≡ q
values_apart o q h k e = sym (outcome_back o h) ∙ ap outcome_in e ∙ outcome_back q k
