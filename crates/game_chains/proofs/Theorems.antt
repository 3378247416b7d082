-- What a game says of the derived policy (change request No. 14), stated in full. The moves that a matrix allows are accesses that it
-- allows, and the holders of a position are exactly the containers into which the history of its moves has a chain for atom a.
use Prim.Native.Nat.{ℕ, ◌+◌, ◌<◌, ◌≤◌}
use native.Mathlib.Decide.{dec_lt}
use native.Mathlib.Omega.{arith}
use mathlib.Core.Path.{◌≡◌, sym, ◌∙◌}
use mathlib.Core.Bool.{true}
use mathlib.Core.List.{List}
use mathlib.Core.Logic.{◌↔◌}
use lib.ListN.{length, get_or}
use borrow.Author.Tests.{eq-eqb, eqb-true}
use Rattle.lists.proofs.Bools.{clash}
use Rattle.image.specs.Policy.{Policy}
use Rattle.image.specs.Image.{policy_in}
use Rattle.matrix.specs.Flows.{has, matrix_good}
use Rattle.matrix.proofs.RowBits.{has_single, has_zero}
use Rattle.matrix.proofs.PathFlows.{rows_exact}
use Rattle.matrix.proofs.GoodLaws.{Good, good_parts}
use Rattle.derivation.specs.Derived.{derived_image}
use Rattle.chains.specs.History.{start, read, append}
use Rattle.chains.specs.Chains.{data_atom, Chain}
use Rattle.chains.proofs.ChainLaws.{chain_none, chain_here}
use Rattle.silence.specs.Sessions.{Allowed, may_read, may_append}
use Rattle.game.specs.Limits.{read_count, right_count}
use Rattle.game.specs.Positions.{subject_of, object_of, reached}
use Rattle.game.specs.Outcomes.{right_in, opening}
use Rattle.game.proofs.GameFlows.{row_there, object_there, reads_right, writes_right}
use Rattle.game_chains.specs.Histories.{AllowedMoves, history_after, position_after}
use Rattle.game_chains.proofs.HolderLaws.{Agrees, agrees_moves}
use Rattle.game_chains.proofs.AtomStarts.{atom_starts}

module _ (reads writes : List ℕ) (objects : ℕ) (good : matrix_good reads writes objects ≡ true) where
  -- the derived policy, as its image spells it
  abbrev pub P : Policy
  P = policy_in (derived_image reads writes objects)

  g : Good reads writes objects
  g = good_parts reads writes objects good

  -- ---- the moves that the matrix allows are accesses that it allows

  pub move_reads : (k : ℕ) → k < read_count → right_in reads writes k ≡ true → Allowed reads writes objects (read (objects + subject_of k) (object_of k))
  move_reads k l h =
      let r : has (get_or reads (subject_of k) 0) (object_of k) ≡ true = reads_right reads writes k l h in
      may_read (row_there reads (subject_of k) (object_of k) r) (object_there reads objects (subject_of k) (object_of k) ((rows_exact objects reads).0 g.reads_good) r) r

  pub move_appends : (k : ℕ) → read_count ≤ k → k < right_count → right_in reads writes k ≡ true → Allowed reads writes objects (append (objects + subject_of k) (object_of k))
  move_appends k l m h =
      let w : has (get_or writes (subject_of k) 0) (object_of k) ≡ true = writes_right reads writes k l h in
      let s : subject_of k < length writes = row_there writes (subject_of k) (object_of k) w in
      let l : subject_of k < length reads = omega (arith, s, g.even) in
      may_append l (object_there writes objects (subject_of k) (object_of k) ((rows_exact objects writes).0 g.writes_good) w) w

  -- ---- holders and chains

  named : (k : ℕ) → k < right_count → right_in reads writes k ≡ true → (subject_of k < length reads) × (object_of k < objects)
  named k l h = by (dec_lt k read_count)
    where
      by : Dec (k < read_count) → (subject_of k < length reads) × (object_of k < objects)
      by (yes m) =
          let r : has (get_or reads (subject_of k) 0) (object_of k) ≡ true = reads_right reads writes k m h in
          (row_there reads (subject_of k) (object_of k) r, object_there reads objects (subject_of k) (object_of k) ((rows_exact objects reads).0 g.reads_good) r)
      by (no m) =
          let w : has (get_or writes (subject_of k) 0) (object_of k) ≡ true = writes_right reads writes k (omega arith) h in
          let s : subject_of k < length writes = row_there writes (subject_of k) (object_of k) w in
          let l : subject_of k < length reads = omega (arith, s, g.even) in
          (l, object_there writes objects (subject_of k) (object_of k) ((rows_exact objects writes).0 g.writes_good) w)

  module _ (a : ℕ) (la : a < objects) where
    begins : Agrees P objects (length reads) a (opening reads writes a) start
    unfolding opening
    begins = record {
      objects_hold = λ o l. (
        λ h. chain_here P (data_atom a) o ((atom_starts reads writes objects good a o la).1 (sym (eqb-true a o (sym (has_single a o) ∙ h)))),
        λ w. has_single a o ∙ eq-eqb a o (sym ((atom_starts reads writes objects good a o la).0 (chain_none P (data_atom a) o w))),
      );
      subjects_hold = λ s l. (
        λ h. clash h (has_zero s),
        λ w. absurd (omega (arith, (atom_starts reads writes objects good a (objects + s) la).0 (chain_none P (data_atom a) (objects + s) w))),
      );
    }

    module _ (ks : List ℕ) (moves : AllowedMoves reads writes ks) where
      after : Agrees P objects (length reads) a (position_after (opening reads writes a) ks) (history_after objects start ks)
      after = agrees_moves P objects (length reads) a reads writes named ks (opening reads writes a) start begins moves

      -- after any list of moves that the matrix allows, an object holds a's information exactly if there is a chain for atom a into its
      -- file, and a subject exactly if there is one into its process
      pub object_chain : (o : ℕ) → o < objects → (has (position_after (opening reads writes a) ks).objects o ≡ true) ↔ Chain P (history_after objects start ks) (data_atom a) o
      object_chain = after.objects_hold

      pub subject_chain : (s : ℕ) → s < length reads → (has (position_after (opening reads writes a) ks).subjects s ≡ true) ↔ Chain P (history_after objects start ks) (data_atom a) (objects + s)
      subject_chain = after.subjects_hold

      -- so the desk has reached b exactly if there is a chain for atom a into b
      pub reached_chain : (b : ℕ) → b < objects → (reached b (position_after (opening reads writes a) ks) ≡ true) ↔ Chain P (history_after objects start ks) (data_atom a) b
      unfolding reached
      reached_chain = after.objects_hold
