-- The holders of a position and the chains of its history go together, move by move.
use mathlib.Core.Path.{◌≡◌, refl, sym, ap, subst}
use mathlib.Core.Bool.{Bool, true, cond, ◌&&◌, ◌||◌}
use mathlib.Core.Logic.{◌⊎◌, inl, inr, ◌↔◌}
use mathlib.Core.List.{List, [], ◌∷◌}
use Prim.Native.Nat.{ℕ, ◌+◌, ◌<◌, ◌≤◌}
use native.Mathlib.Decide.{dec_lt}
use native.Mathlib.Omega.{arith}
use lib.Dec.{eqb, ltb}
use borrow.Author.Tests.{eq-eqb, eqb-true, lt-ltb, le-ltb, lt-leb}
use Rattle.lists.proofs.Bools.{and_in, and_0, and_1, or_0, or_1, or_cases}
use Rattle.lists.proofs.Every.{every_0, every_1}
use Rattle.image.specs.Policy.{Policy}
use Rattle.matrix.specs.Flows.{has}
use Rattle.chains.specs.History.{Step, History, ◌▸◌, read, append}
use Rattle.chains.specs.Chains.{Item, data_atom, Carries, read_atom, append_any, Ends, Chain}
use Rattle.chains.proofs.ChainLaws.{chain_snoc, chain_stay, chain_carry}
use Rattle.game.specs.declared.Position.{Position}
use Rattle.game.specs.Limits.{read_count, right_count}
use Rattle.game.specs.Positions.{subject_of, object_of, moved}
use Rattle.game.specs.Outcomes.{right_in}
use Rattle.game.proofs.GamePositions.{read_holders, read_objects, append_holders, append_subjects, pass_keeps}
use Rattle.game_chains.specs.Histories.{allowed_move, AllowedMoves, with_move, history_after, position_after}

-- ---- what reads and appends carry, and that they end nothing

read_carries : {p o b c d : ℕ} {x : Item} → Carries (read p o) b x c (data_atom d) → (b ≡ o) × (x ≡ data_atom d) × (c ≡ p)
read_carries read_atom = (refl, refl, refl)

append_carries : {p o b c : ℕ} {x y : Item} → Carries (append p o) b x c y → (b ≡ p) × (x ≡ y) × (c ≡ o)
append_carries append_any = (refl, refl, refl)

read_ends : {p o c : ℕ} {x : Item} → Ends (read p o) c x → ⊥
read_ends = elim [ ]

append_ends : {p o c : ℕ} {x : Item} → Ends (append p o) c x → ⊥
append_ends = elim [ ]

-- a chain after a step that carries all data from one container to another and ends nothing: one from before, or one into the first,
-- carried to the second
module _ (P : Policy) (h : History) (a : ℕ) (t : Step) (source target : ℕ)
    (only : (b c : ℕ) (x : Item) → Carries t b x c (data_atom a) → (b ≡ source) × (x ≡ data_atom a) × (c ≡ target))
    (keeps : (c : ℕ) (x : Item) → Ends t c x → ⊥) (carries : Carries t source (data_atom a) target (data_atom a)) where
  carried_chain : (c : ℕ) → Chain P (h ▸ t) (data_atom a) c ↔ (Chain P h (data_atom a) c ⊎ ((c ≡ target) × Chain P h (data_atom a) source))
  carried_chain c = (λ w. to (chain_snoc P h t (data_atom a) c w), from)
    where
      to : (Chain P h (data_atom a) c × ¬ Ends t c (data_atom a)) ⊎ ((b : ℕ) × (x : Item) × Chain P h x b × Carries t b x c (data_atom a))
          → Chain P h (data_atom a) c ⊎ ((c ≡ target) × Chain P h (data_atom a) source)
      to (inl (w, n)) = inl w
      to (inr (b, x, w, g)) =
          let e = only b c x g in
          inr (e.2, subst (λ (y : Item). Chain P h y source) e.1 (subst (λ (i : ℕ). Chain P h x i) e.0 w))

      from : Chain P h (data_atom a) c ⊎ ((c ≡ target) × Chain P h (data_atom a) source) → Chain P (h ▸ t) (data_atom a) c
      from (inl w) = chain_stay P h t (data_atom a) c w (keeps c (data_atom a))
      from (inr (e, w)) = subst (Chain P (h ▸ t) (data_atom a)) (sym e) (chain_carry P h t (data_atom a) (data_atom a) source target w carries)

module _ (P : Policy) (h : History) (a : ℕ) where
  -- after a read: from the object to the process
  read_chain : (p o c : ℕ) → Chain P (h ▸ read p o) (data_atom a) c ↔ (Chain P h (data_atom a) c ⊎ ((c ≡ p) × Chain P h (data_atom a) o))
  read_chain p o = carried_chain P h a (read p o) o p (λ b c x. read_carries) (λ c x. read_ends) read_atom

  -- after an append: from the process to the object
  append_chain : (p o c : ℕ) → Chain P (h ▸ append p o) (data_atom a) c ↔ (Chain P h (data_atom a) c ⊎ ((c ≡ o) × Chain P h (data_atom a) p))
  append_chain p o = carried_chain P h a (append p o) p o (λ b c x. append_carries) (λ c x. append_ends) append_any

-- ---- a test that holds before, or by another one now

gains : {X Y Z : Type 0} (x y z : Bool) → ((x ≡ true) ↔ X) → ((y ≡ true) ↔ Y) → ((z ≡ true) ↔ Z) → ((x || (y && z)) ≡ true) ↔ (X ⊎ (Z × Y))
gains {X} {Y} {Z} x y z (f, f') (g, g') (k, k') = (λ h. to (or_cases x h), from)
  where
    to : (x ≡ true) ⊎ ((y && z) ≡ true) → X ⊎ (Z × Y)
    to (inl e) = inl (f e)
    to (inr e) = inr (k (and_1 y e), g (and_0 y z e))

    from : X ⊎ (Z × Y) → (x || (y && z)) ≡ true
    from (inl w) = or_0 x (y && z) (f' w)
    from (inr (u, w)) = or_1 x (y && z) (and_in (g' w) (k' u))

-- only the first way is open
stays : {X Y : Type 0} → (Y → ⊥) → X ↔ (X ⊎ Y)
stays {X} {Y} n = (inl, back)
  where
    back : X ⊎ Y → X
    back (inl w) = w
    back (inr w) = absurd (n w)

through : {X Y Z : Type 0} → X ↔ Y → Y ↔ Z → X ↔ Z
through {X} {Y} {Z} (f, g) (h, k) = (λ x. h (f x), λ z. g (k z))

back : {X Y : Type 0} → X ↔ Y → Y ↔ X
back {X} {Y} (f, g) = (g, f)

-- ---- position and history

module _ (P : Policy) (objects subjects a : ℕ) where
  -- an object, and a subject, holds the information exactly if there is a chain for atom a into its container
  pub record Agrees (p : Position) (h : History) : Type 0 where
    pub objects_hold : (o : ℕ) → o < objects → (has p.objects o ≡ true) ↔ Chain P h (data_atom a) o
    pub subjects_hold : (s : ℕ) → s < subjects → (has p.subjects s ≡ true) ↔ Chain P h (data_atom a) (objects + s)

  same_number : (x y : ℕ) → (eqb x y ≡ true) ↔ (objects + y ≡ objects + x)
  same_number x y = (λ e. ap (λ (i : ℕ). objects + i) (sym (eqb-true x y e)), λ e. eq-eqb x y (omega arith))

  same_object : (x y : ℕ) → (eqb x y ≡ true) ↔ (y ≡ x)
  same_object x y = (λ e. sym (eqb-true x y e), λ e. eq-eqb x y (sym e))

  module _ (p : Position) (h : History) (z : Agrees p h) (k : ℕ) (ls : subject_of k < subjects) (lo : object_of k < objects) where
    agrees_read : k < read_count → Agrees (moved p k) (h ▸ read (objects + subject_of k) (object_of k))
    agrees_read l = record { objects_hold = holds; subjects_hold = heard }
      where
        holds : (o : ℕ) → o < objects → (has (moved p k).objects o ≡ true) ↔ Chain P (h ▸ read (objects + subject_of k) (object_of k)) (data_atom a) o
        holds o m =
            rw (read_objects p k l)
            (through (z.objects_hold o m) (through (stays (λ w. omega (arith, w.0))) (back (read_chain P h a (objects + subject_of k) (object_of k) o))))

        heard : (s : ℕ) → s < subjects → (has (moved p k).subjects s ≡ true) ↔ Chain P (h ▸ read (objects + subject_of k) (object_of k)) (data_atom a) (objects + s)
        heard s m =
            rw (read_holders p k l s)
            (through (gains (has p.subjects s) (has p.objects (object_of k)) (eqb (subject_of k) s) (z.subjects_hold s m) (z.objects_hold (object_of k) lo) (same_number (subject_of k) s))
            (back (read_chain P h a (objects + subject_of k) (object_of k) (objects + s))))

    agrees_append : read_count ≤ k → k < right_count → Agrees (moved p k) (h ▸ append (objects + subject_of k) (object_of k))
    agrees_append l n = record { objects_hold = holds; subjects_hold = heard }
      where
        holds : (o : ℕ) → o < objects → (has (moved p k).objects o ≡ true) ↔ Chain P (h ▸ append (objects + subject_of k) (object_of k)) (data_atom a) o
        holds o m =
            rw (append_holders p k l n o)
            (through (gains (has p.objects o) (has p.subjects (subject_of k)) (eqb (object_of k) o) (z.objects_hold o m) (z.subjects_hold (subject_of k) ls) (same_object (object_of k) o))
            (back (append_chain P h a (objects + subject_of k) (object_of k) o)))

        heard : (s : ℕ) → s < subjects → (has (moved p k).subjects s ≡ true) ↔ Chain P (h ▸ append (objects + subject_of k) (object_of k)) (data_atom a) (objects + s)
        heard s m =
            rw (append_subjects p k l)
            (through (z.subjects_hold s m) (through (stays (λ w. omega (arith, w.0, lo))) (back (append_chain P h a (objects + subject_of k) (object_of k) (objects + s)))))

  -- one move, whose right is of the matrix
  agrees_move : (reads writes : List ℕ) → ((k : ℕ) → k < right_count → right_in reads writes k ≡ true → (subject_of k < subjects) × (object_of k < objects))
      → (p : Position) (h : History) → Agrees p h → (k : ℕ) → allowed_move reads writes k ≡ true → Agrees (moved p k) (with_move objects h k)
  unfolding with_move allowed_move
  agrees_move reads writes named p h z k g = by (dec_lt k read_count) (dec_lt k right_count)
    where
      right : k < right_count → (subject_of k < subjects) × (object_of k < objects)
      right l = named k l (rw (lt-leb right_count k l) at g)

      by : Dec (k < read_count) → Dec (k < right_count)
          → Agrees (moved p k) (cond (ltb k read_count) (h ▸ read (objects + subject_of k) (object_of k)) (cond (ltb k right_count) (h ▸ append (objects + subject_of k) (object_of k)) h))
      by (yes l) d =
          let m : k < right_count = omega arith in
          rw (lt-ltb k read_count l) (agrees_read p h z k (right m).0 (right m).1 l)
      by (no l) (yes m) =
          let n : read_count ≤ k = omega arith in
          rw (le-ltb k read_count n, lt-ltb k right_count m) (agrees_append p h z k (right m).0 (right m).1 n m)
      by (no l) (no m) =
          let n : read_count ≤ k = omega arith in
          let r : right_count ≤ k = omega arith in
          rw (le-ltb k read_count n, le-ltb k right_count r, pass_keeps p k r) z

  -- all of them
  pub agrees_moves : (reads writes : List ℕ) → ((k : ℕ) → k < right_count → right_in reads writes k ≡ true → (subject_of k < subjects) × (object_of k < objects))
      → (ks : List ℕ) (p : Position) (h : History) → Agrees p h → AllowedMoves reads writes ks → Agrees (position_after p ks) (history_after objects h ks)
  unfolding position_after history_after
  agrees_moves reads writes named [] p h z g = z
  agrees_moves reads writes named (k ∷ ks) p h z g =
      agrees_moves reads writes named ks (moved p k) (with_move objects h k)
      (agrees_move reads writes named p h z k (every_0 (allowed_move reads writes) k ks g))
      (every_1 (allowed_move reads writes) k ks g)
