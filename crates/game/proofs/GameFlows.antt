-- The game and the composed flows of its matrix.
use mathlib.Core.Path.{◌≡◌, refl, sym, ap, subst, ◌∙◌}
use mathlib.Core.Bool.{Bool, true, false}
use mathlib.Core.Logic.{◌⊎◌, inl, inr}
use mathlib.Core.List.{List}
use Prim.Native.Nat.{ℕ, zero, suc, ◌+◌, ◌*◌, ◌/◌, ◌%◌, ◌^◌, ◌<◌, ◌≤◌}
use native.Mathlib.Decide.{dec_lt, ℕ_discrete}
use native.Mathlib.Omega.{arith}
use lib.Bits.{bit_or}
use lib.Dec.{eqb}
use lib.ListN.{length, get_or, get_or-eq_default}
use borrow.Author.Tests.{eq-eqb, lt-ltb, le-ltb, eqb-true}
use Rattle.lists.proofs.Bools.{or_0, or_1, or_cases, clash}
use Rattle.matrix.specs.Flows.{has, granted, subject_carries, Path, step, onward, Composed}
use Rattle.matrix.specs.Rows.{bit_at}
use Rattle.matrix.proofs.RowBits.{has_or, has_single, has_zero, bits_has}
use Rattle.matrix.proofs.CarrierLaws.{carries, carried}
use Rattle.matrix.proofs.PathTest.{path_source, path_target}
use Rattle.game.specs.declared.Position.{Position}
use Rattle.game.specs.Limits.{side_limit, read_count, right_count, move_count}
use Rattle.game.specs.Positions.{legal, moved, reached, subject_of, object_of, with_subject, with_object}
use Rattle.game.specs.Outcomes.{right_in, opening}
use Rattle.game.specs.Strategies as strategies
use Rattle.game.specs.Strategies.{DeskForces, moving, Through, reaching}
use Rattle.game.proofs.GamePositions.{legal_is, read_hands, append_hands, moved_has, moved_rights}
use Rattle.game.proofs.StrategyLaws.{none_left}

-- ---- where the desk wins there is a composed flow

or_either : (x s k : ℕ) → has (bit_or x (2 ^ s)) k ≡ true → (has x k ≡ true) ⊎ (s ≡ k)
or_either x s k h = by (or_cases (has x k) (sym (has_or x (2 ^ s) k) ∙ h))
  where
    by : (has x k ≡ true) ⊎ (has (2 ^ s) k ≡ true) → (has x k ≡ true) ⊎ (s ≡ k)
    by (inl e) = inl e
    by (inr e) = inr (eqb-true s k (sym (has_single s k) ∙ e))

-- a row that has a bit is one of a subject
pub row_there : (rows : List ℕ) (s o : ℕ) → has (get_or rows s 0) o ≡ true → s < length rows
row_there rows s o h = by (dec_lt s (length rows))
  where
    by : Dec (s < length rows) → s < length rows
    by (yes l) = l
    by (no l) = clash h (ap (λ (x : ℕ). has x o) (get_or-eq_default rows 0 (omega arith)) ∙ has_zero o)

-- and the bit one of an object
pub object_there : (rows : List ℕ) (objects s o : ℕ) → ((s k : ℕ) → objects ≤ k → has (get_or rows s 0) k ≡ false) → has (get_or rows s 0) o ≡ true → o < objects
object_there rows objects s o within h = by (dec_lt o objects)
  where
    by : Dec (o < objects) → o < objects
    by (yes l) = l
    by (no l) = clash h (within s o (omega arith))

-- a right by the row that has it
module _ (reads writes : List ℕ) (k : ℕ) where
  pub reads_right : k < read_count → right_in reads writes k ≡ true → has (get_or reads (subject_of k) 0) (object_of k) ≡ true
  unfolding right_in bit_at
  reads_right l h = rw (lt-ltb k read_count l) at h

  pub writes_right : read_count ≤ k → right_in reads writes k ≡ true → has (get_or writes (subject_of k) 0) (object_of k) ≡ true
  unfolding right_in bit_at
  writes_right l h = rw (le-ltb k read_count l) at h

module _ (reads writes : List ℕ) (objects a : ℕ) (even : length writes ≡ length reads)
    (within : (s o : ℕ) → objects ≤ o → has (get_or writes s 0) o ≡ false) where
  -- an object that a subject reads and to which there is a composed flow
  abbrev Heard : ℕ → Type 0
  Heard s = (o : ℕ) × (has (get_or reads s 0) o ≡ true) × Composed reads writes objects a o

  -- every holder has its information by composed flows, and no right is new
  pub record Sourced (p : Position) : Type 0 where
    pub rights : (k : ℕ) → k < right_count → has p.rights k ≡ true → right_in reads writes k ≡ true
    pub objects_from : (o : ℕ) → has p.objects o ≡ true → Composed reads writes objects a o
    pub subjects_from : (s : ℕ) → has p.subjects s ≡ true → Heard s

  -- what a subject writes has what it read
  written : (s o : ℕ) → Heard s → has (get_or writes s 0) o ≡ true → Composed reads writes objects a o
  unfolding granted
  written s o (x, r, c) w = onward c (object_there writes objects s o within w) (or_1 (eqb x o) (subject_carries reads writes x o) (carries reads writes s x o (row_there reads s x r) even r w))

  with_subject_lem : (p : Position) (t : ℕ) → Sourced p → Heard t → Sourced (with_subject p t)
  unfolding with_subject
  with_subject_lem p t s h = record { rights = s.rights; objects_from = s.objects_from; subjects_from = λ u e. by u (or_either p.subjects t u e) }
    where
      by : (u : ℕ) → (has p.subjects u ≡ true) ⊎ (t ≡ u) → Heard u
      by u (inl e) = s.subjects_from u e
      by u (inr e) = subst Heard e h

  with_object_lem : (p : Position) (o : ℕ) → Sourced p → Composed reads writes objects a o → Sourced (with_object p o)
  unfolding with_object
  with_object_lem p o s c = record { rights = s.rights; objects_from = λ x e. by x (or_either p.objects o x e); subjects_from = s.subjects_from }
    where
      by : (x : ℕ) → (has p.objects x ≡ true) ⊎ (o ≡ x) → Composed reads writes objects a x
      by x (inl e) = s.objects_from x e
      by x (inr e) = subst (Composed reads writes objects a) e c

  moved_sourced : (p : Position) (k : ℕ) → legal p k ≡ true → Sourced p → Sourced (moved p k)
  moved_sourced p k g s = moved_has Sourced p k s reading appending
    where
      right : k < right_count → right_in reads writes k ≡ true
      right l = s.rights k l (sym (legal_is p k l) ∙ g)

      reading : k < read_count → has p.objects (object_of k) ≡ true → Sourced (with_subject p (subject_of k))
      reading l h = with_subject_lem p (subject_of k) s (object_of k, reads_right reads writes k l (right (omega arith)), s.objects_from (object_of k) h)

      appending : read_count ≤ k → k < right_count → has p.subjects (subject_of k) ≡ true → Sourced (with_object p (object_of k))
      appending l m h = with_object_lem p (object_of k) s (written (subject_of k) (object_of k) (s.subjects_from (subject_of k) h) (writes_right reads writes k l (right m)))

  -- a strategy of the desk, played against a guard that passes, ends in b
  forced : (b r l : ℕ) (p : Position) → Sourced p → DeskForces b r l p → Composed reads writes objects a b
  forced b zero l p s d = absurd (none_left b l p d)
  forced b (suc r) l p s (moving k m g t) = by (moved_sourced p k g s) t (λ z d. forced b r l (moved p k) z d)
    where
      by : Sourced (moved p k) → Through b r l (moved p k) → (Sourced (moved p k) → DeskForces b r l (moved p k) → Composed reads writes objects a b) → Composed reads writes objects a b
      by z (reaching e) ih = z.objects_from b (unfold reached in e)
      by z (strategies.onward d ds) ih = ih z d

  pub opening_sourced : a < objects → Sourced (opening reads writes a)
  unfolding opening
  opening_sourced l = record {
    rights = λ k m h. sym (bits_has (right_in reads writes) right_count k m) ∙ h;
    objects_from = λ o h.
        subst (Composed reads writes objects a) (eqb-true a o (sym (has_single a o) ∙ h))
        (unfold granted in (step l l (or_0 (eqb a a) (subject_carries reads writes a a) (eq-eqb a a refl))));
    subjects_from = λ s h. clash h (has_zero s);
  }

  pub desk_composed : (b r l : ℕ) → a < objects → DeskForces b r l (opening reads writes a) → Composed reads writes objects a b
  desk_composed b r l i d = forced b r l (opening reads writes a) (opening_sourced i) d

-- ---- where there is a composed flow, two granted ones

-- of three objects
module _ (f : ℕ → ℕ → Bool) (n : ℕ) (few : n ≤ side_limit) (itself : (x : ℕ) → x < n → f x x ≡ true) where
  abbrev Two : ℕ → ℕ → Type 0
  Two x y = (c : ℕ) × (c < n) × (f x c ≡ true) × (f c y ≡ true)

  pub two_steps : {x y : ℕ} → Path f n x y → Two x y
  two_steps {x} {y} (step lx ly h) = (x, lx, itself x lx, h)
  two_steps {x} (onward {b = y} {c = z} q lz h) = more (two_steps q)
    where
      lx : x < n
      lx = path_source q

      ly : y < n
      ly = path_target q

      more : Two x y → Two x z
      more (c, lc, e, g) = by (ℕ_discrete x c) (ℕ_discrete c y) (ℕ_discrete x y) (ℕ_discrete z x) (ℕ_discrete z c) (ℕ_discrete z y)
        where
          by : Dec (x ≡ c) → Dec (c ≡ y) → Dec (x ≡ y) → Dec (z ≡ x) → Dec (z ≡ c) → Dec (z ≡ y) → Two x z
          by (yes i) d2 d3 d4 d5 d6 = (y, ly, ap (λ (k : ℕ). f k y) i ∙ g, h)
          by (no i) (yes j) d3 d4 d5 d6 = (y, ly, ap (f x) (sym j) ∙ e, h)
          by (no i) (no j) (yes k) d4 d5 d6 = (x, lx, itself x lx, ap (λ (k : ℕ). f k z) k ∙ h)
          by (no i) (no j) (no k) (yes l) d5 d6 = (x, lx, itself x lx, ap (f x) l ∙ itself x lx)
          by (no i) (no j) (no k) (no l) (yes m) d6 = (x, lx, itself x lx, ap (f x) m ∙ e)
          by (no i) (no j) (no k) (no l) (no m) (yes o) = (c, lc, e, ap (f c) o ∙ g)
          by (no i) (no j) (no k) (no l) (no m) (no o) = absurd (omega (arith, lx, ly, lz, lc))

-- ---- which the desk carries out in four rounds against a guard without withdrawals

module _ (reads writes : List ℕ) (b : ℕ) where
  -- every right of the matrix stands
  abbrev Standing : Position → Type 0
  Standing p = (k : ℕ) → k < right_count → right_in reads writes k ≡ true → has p.rights k ≡ true

  goes_on : (r : ℕ) (p : Position) (k : ℕ) → k < move_count → legal p k ≡ true → DeskForces b r 0 (moved p k) → DeskForces b (suc r) 0 p
  goes_on r p k m g d = moving k m g (strategies.onward d (λ j i y w. absurd (omega arith)))

  module _ (s o x : ℕ) (ls : s < side_limit) (lo : o < side_limit) (lx : x < side_limit) (er : has (get_or reads s 0) o ≡ true) (ew : has (get_or writes s 0) x ≡ true) where
    -- the read of o, then the append to x
    abbrev reading : ℕ
    reading = 3 * s + o

    abbrev appending : ℕ
    appending = 9 + (3 * s + x)

    reads_it : right_in reads writes reading ≡ true
    unfolding right_in bit_at subject_of object_of
    reads_it =
        let l : reading < read_count = omega arith in
        let es : reading % 9 / 3 ≡ s = omega arith in
        let eo : reading % 3 ≡ o = omega arith in
        rw (lt-ltb reading read_count l, es, eo) er

    appends_it : right_in reads writes appending ≡ true
    unfolding right_in bit_at subject_of object_of
    appends_it =
        let l : read_count ≤ appending = omega arith in
        let es : appending % 9 / 3 ≡ s = omega arith in
        let eo : appending % 3 ≡ x = omega arith in
        rw (le-ltb appending read_count l, es, eo) ew

    module _ (p : Position) (z : Standing p) (h : has p.objects o ≡ true) where
      -- where the two lead
      abbrev q : Position
      q = moved (moved p reading) appending

      reading_legal : legal p reading ≡ true
      reading_legal = let l : reading < right_count = omega arith in legal_is p reading l ∙ z reading l reads_it

      subject_holds : has (moved p reading).subjects s ≡ true
      subject_holds =
          let l : reading < read_count = omega arith in
          let es : subject_of reading ≡ s = unfold subject_of in (omega arith) in
          let eo : object_of reading ≡ o = unfold object_of in (omega arith) in
          subst (λ (y : Position). has y.subjects s ≡ true) (sym (read_hands p reading l (ap (has p.objects) eo ∙ h))) (with_holds es)
        where
          with_holds : subject_of reading ≡ s → has (with_subject p (subject_of reading)).subjects s ≡ true
          with_holds e = unfold with_subject in
              (has_or p.subjects (2 ^ subject_of reading) s
              ∙ or_1 (has p.subjects s) (has (2 ^ subject_of reading) s) (has_single (subject_of reading) s ∙ eq-eqb (subject_of reading) s e))

      appending_legal : legal (moved p reading) appending ≡ true
      appending_legal =
          let l : appending < right_count = omega arith in
          legal_is (moved p reading) appending l ∙ ap (λ (y : ℕ). has y appending) (moved_rights p reading) ∙ z appending l appends_it

      object_holds : has q.objects x ≡ true
      object_holds =
          let l : read_count ≤ appending = omega arith in
          let m : appending < right_count = omega arith in
          let es : subject_of appending ≡ s = unfold subject_of in (omega arith) in
          let eo : object_of appending ≡ x = unfold object_of in (omega arith) in
          subst (λ (y : Position). has y.objects x ≡ true) (sym (append_hands (moved p reading) appending l m (ap (has (moved p reading).subjects) es ∙ subject_holds))) (with_holds eo)
        where
          with_holds : object_of appending ≡ x → has (with_object (moved p reading) (object_of appending)).objects x ≡ true
          with_holds e =
              unfold with_object in
              (has_or (moved p reading).objects (2 ^ object_of appending) x
              ∙ or_1 (has (moved p reading).objects x) (has (2 ^ object_of appending) x) (has_single (object_of appending) x ∙ eq-eqb (object_of appending) x e))

      still_standing : Standing q
      still_standing k l e = ap (λ (y : ℕ). has y k) (moved_rights (moved p reading) appending ∙ moved_rights p reading) ∙ z k l e

      -- the desk goes on from there, or x is b
      carries_on : (r : ℕ) → (Standing q → has q.objects x ≡ true → DeskForces b r 0 q) → DeskForces b (suc (suc r)) 0 p
      carries_on r f =
          goes_on (suc r) p reading (omega arith) reading_legal
          (goes_on r (moved p reading) appending (omega arith) appending_legal (f still_standing object_holds))

      carries_last : (r : ℕ) → x ≡ b → DeskForces b (suc (suc r)) 0 p
      carries_last r e =
          let y : reached b q ≡ true = unfold reached in (ap (has q.objects) (sym e) ∙ object_holds) in
          goes_on (suc r) p reading (omega arith) reading_legal (moving appending (omega arith) appending_legal (reaching y))

module _ (reads writes : List ℕ) (objects a b : ℕ) (even : length writes ≡ length reads) (few_subjects : length reads ≤ side_limit) (few_objects : objects ≤ side_limit) where
  opening_stands : Standing reads writes b (opening reads writes a)
  unfolding opening
  opening_stands k l h = bits_has (right_in reads writes) right_count k l ∙ h

  opening_holds : has (opening reads writes a).objects a ≡ true
  unfolding opening
  opening_holds = has_single a a ∙ eq-eqb a a refl

  -- the subject that carries a granted flow to another object
  abbrev Carrier : ℕ → ℕ → Type 0
  Carrier x y = (s : ℕ) × (s < length reads) × (has (get_or reads s 0) x ≡ true) × (has (get_or writes s 0) y ≡ true)

  carrier : (x y : ℕ) → granted reads writes x y ≡ true → (x ≡ y) ⊎ Carrier x y
  unfolding granted
  carrier x y h = by (or_cases (eqb x y) h)
    where
      by : (eqb x y ≡ true) ⊎ (subject_carries reads writes x y ≡ true) → (x ≡ y) ⊎ Carrier x y
      by (inl e) = inl (eqb-true x y e)
      by (inr e) = inr (carried reads writes x y even e)

  granted_itself : (x : ℕ) → x < objects → granted reads writes x x ≡ true
  unfolding granted
  granted_itself x l = or_0 (eqb x x) (subject_carries reads writes x x) (eq-eqb x x refl)

  module _ (la : a < objects) (lb : b < objects) (apart : a ≡ b → ⊥) where
    last : (r o : ℕ) (p : Position) → Standing reads writes b p → o < objects → has p.objects o ≡ true → Carrier o b → DeskForces b (suc (suc r)) 0 p
    last r o p z lo h (s, ls, er, ew) = carries_last reads writes b s o b (omega arith) (omega arith) (omega arith) er ew p z h r refl

    pub composed_desk : Composed reads writes objects a b → DeskForces b 4 0 (opening reads writes a)
    composed_desk q = through (two_steps (granted reads writes) objects few_objects granted_itself q)
      where
        through : Two (granted reads writes) objects few_objects granted_itself a b → DeskForces b 4 0 (opening reads writes a)
        through (c, lc, e, g) = by (carrier a c e) (carrier c b g)
          where
            by : (a ≡ c) ⊎ Carrier a c → (c ≡ b) ⊎ Carrier c b → DeskForces b 4 0 (opening reads writes a)
            by (inl i) (inl j) = absurd (apart (i ∙ j))
            by (inl i) (inr v) = last 2 a (opening reads writes a) opening_stands la opening_holds (subst (λ (y : ℕ). Carrier y b) (sym i) v)
            by (inr u) (inl j) = last 2 a (opening reads writes a) opening_stands la opening_holds (subst (Carrier a) j u)
            by (inr (s, ls, er, ew)) (inr v) =
                carries_on reads writes b s a c (omega arith) (omega arith) (omega arith) er ew (opening reads writes a) opening_stands opening_holds 2
                (λ z h. last 0 c (moved (moved (opening reads writes a) (3 * s + a)) (9 + (3 * s + c))) z lc h v)
