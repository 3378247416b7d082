-- A right that was withdrawn is judged by the table of granted flows.
use Prim.Native.Nat.{ℕ, ◌-◌, ◌*◌, ◌%◌, ◌^◌, ◌≤◌, ◌<◌}
use mathlib.Core.Path.{◌≡◌, refl, sym, ap, ap₂, ◌∙◌}
use mathlib.Core.Bool.{Bool, true, false, not, cond, ◌&&◌, ◌||◌}
use mathlib.Core.List.{List}
use native.Mathlib.Decide.{dec_lt}
use native.Mathlib.Omega.{arith}
use lib.Bits.{bit_and}
use lib.Dec.{eqb}
use lib.ListN.{length, get_or}
use borrow.Author.Tests.{eq-eqb}
use Rattle.lists.proofs.Bools.{and_in, or_0, same_test}
use Rattle.matrix.specs.Limits.{object_limit}
use Rattle.matrix.specs.Flows.{has, subject_carries, granted, matrix_of}
use Rattle.matrix.specs.Verdicts.{consistent}
use Rattle.matrix.specs.Rows.{bit_at, spelling}
use Rattle.matrix.proofs.RowBits.{one_bit, has_without}
use Rattle.matrix.proofs.RowLoops.{spelling_fits, spelling_bits, spelling_above}
use Rattle.matrix.proofs.PathFlows.{granted_beyond}
use Rattle.withdrawals.specs.Judgements.{withdrawn, with_right, read_needed, write_needed, subject_needed}
use Rattle.withdrawals.specs.Returns.{FlowTable, table_closed, with_flows, stays_closed, loss_needed, object_needed, losses_needed, Proposed, Judging}
use Rattle.lists.proofs.Below.{all_same}
use Rattle.withdrawals.proofs.TransitiveLaws.{Transitive, transitive_same, consistent_transitive, table_transitive, stays_transitive}
use Rattle.withdrawals.proofs.ReturnedRights.{granted_read, granted_write}

-- ---- the rights to object k, one after the other

module _ (f : ℕ → ℕ → Bool) (n lost_reads lost_writes reads writes k : ℕ) (l : k < object_limit) where
  pub read_not_needed : loss_needed f n lost_reads k (1 * 2 ^ k % 2 ^ 32) writes ≡ false → object_needed f n lost_reads lost_writes reads writes k ≡ false
  unfolding object_needed
  read_not_needed h = let e : loss_needed f n lost_reads k (2 ^ k) writes ≡ false = rw (one_bit k l) at h in rw e

  pub write_not_needed : loss_needed f n lost_reads k (1 * 2 ^ k % 2 ^ 32) writes ≡ true → loss_needed f n lost_writes k reads (1 * 2 ^ k % 2 ^ 32) ≡ false
      → object_needed f n lost_reads lost_writes reads writes k ≡ false
  unfolding object_needed
  write_not_needed g h =
      let d : loss_needed f n lost_reads k (2 ^ k) writes ≡ true = rw (one_bit k l) at g in
      let e : loss_needed f n lost_writes k reads (2 ^ k) ≡ false = rw (one_bit k l) at h in
      rw (d, e)

  pub both_needed : loss_needed f n lost_reads k (1 * 2 ^ k % 2 ^ 32) writes ≡ true → loss_needed f n lost_writes k reads (1 * 2 ^ k % 2 ^ 32) ≡ true
      → object_needed f n lost_reads lost_writes reads writes k ≡ true
  unfolding object_needed
  both_needed g h =
      let d : loss_needed f n lost_reads k (2 ^ k) writes ≡ true = rw (one_bit k l) at g in
      let e : loss_needed f n lost_writes k reads (2 ^ k) ≡ true = rw (one_bit k l) at h in
      and_in d e

-- ---- the table of granted flows

-- the table without a bit beyond the objects
pub flow_table : (old_reads old_writes reads writes rows flows : List ℕ) (n : ℕ) → Proposed old_reads old_writes reads writes n → n ≤ length rows
    → flows ≡ spelling (granted reads writes) n rows → FlowTable n flows
flow_table old_reads old_writes reads writes rows flows n p h e =
    record { few = p.few; fit = spelling_fits (granted reads writes) n rows flows e h; beyond = λ a b l m. ap (λ (x : List ℕ). bit_at x a b) e ∙ beyond a b l m (dec_lt b object_limit) }
  where
    beyond : (a b : ℕ) → a < n → n ≤ b → Dec (b < object_limit) → bit_at (spelling (granted reads writes) n rows) a b ≡ false
    beyond a b l m (yes q) = spelling_bits (granted reads writes) n rows a b l q ∙ granted_beyond reads writes n a b p.good l m
    beyond a b l m (no q) = spelling_above (granted reads writes) n rows a b l (omega arith)

table_bits : (reads writes rows flows : List ℕ) (n : ℕ) → n ≤ object_limit → flows ≡ spelling (granted reads writes) n rows
    → (a b : ℕ) → a < n → b < n → bit_at flows a b ≡ granted reads writes a b
table_bits reads writes rows flows n f e a b l m = ap (λ (x : List ℕ). bit_at x a b) e ∙ spelling_bits (granted reads writes) n rows a b l (omega arith)

-- it is transitive exactly where the matrix is consistent
pub table_consistent : (reads writes rows flows : List ℕ) (n : ℕ) → n ≤ object_limit → flows ≡ spelling (granted reads writes) n rows
    → table_closed flows n ≡ consistent reads writes n
table_consistent reads writes rows flows n f e =
    let same : (a b : ℕ) → a < n → b < n → bit_at flows a b ≡ granted reads writes a b = table_bits reads writes rows flows n f e in
    same_test (table_closed flows n) (consistent reads writes n)
    (λ h. (consistent_transitive reads writes n).1 (transitive_same (bit_at flows) (granted reads writes) n same ((table_transitive flows n).0 h)))
    (λ h. (table_transitive flows n).1 (transitive_same (granted reads writes) (bit_at flows) n (λ a b p q. sym (same a b p q)) ((consistent_transitive reads writes n).0 h)))

pub judging : (old_reads old_writes reads writes rows flows : List ℕ) (n : ℕ) → Proposed old_reads old_writes reads writes n → n ≤ length rows
    → flows ≡ spelling (granted reads writes) n rows → consistent reads writes n ≡ true → Judging old_reads old_writes reads writes flows n
judging old_reads old_writes reads writes rows flows n p h e k =
    record {
      proposed = p;
      table = flow_table old_reads old_writes reads writes rows flows n p h e;
      bits = table_bits reads writes rows flows n p.few e;
      kept = k;
    }

-- ---- a right that returns

module _ (old_reads old_writes reads writes flows : List ℕ) (n : ℕ) (j : Judging old_reads old_writes reads writes flows n) where
  transitive : Transitive (bit_at flows) n
  transitive =
      transitive_same (granted reads writes) (bit_at flows) n (λ a b p q. sym (j.bits a b p q)) ((consistent_transitive reads writes n).0 j.kept)

  same : (a : ℕ) → a < n → bit_at flows a a ≡ true
  same a l = j.bits a a l l ∙ (unfold granted in or_0 (eqb a a) (subject_carries reads writes a a) (eq-eqb a a refl))

  -- what the table has with new flows
  added : (sources targets a b : ℕ) → a < n → b < n → with_flows (bit_at flows) sources targets a b ≡ with_flows (granted reads writes) sources targets a b
  unfolding with_flows
  added sources targets a b p q = ap (λ (x : Bool). x || (has sources a && has targets b)) (j.bits a b p q)

  -- a matrix that has these flows, and no others, is consistent exactly if they stay closed
  returning : (reads' writes' : List ℕ) (sources targets : ℕ) → ((a b : ℕ) → granted reads' writes' a b ≡ with_flows (granted reads writes) sources targets a b)
      → stays_closed (bit_at flows) n sources targets ≡ consistent reads' writes' n
  returning reads' writes' sources targets e =
      same_test (stays_closed (bit_at flows) n sources targets) (consistent reads' writes' n)
      (λ h. (consistent_transitive reads' writes' n).1
      (transitive_same (with_flows (bit_at flows) sources targets) (granted reads' writes') n agree ((stays_transitive (bit_at flows) n sources targets same transitive).0 h)))
      (λ h. (stays_transitive (bit_at flows) n sources targets same transitive).1
      (transitive_same (granted reads' writes') (with_flows (bit_at flows) sources targets) n (λ a b p q. sym (agree a b p q)) ((consistent_transitive reads' writes' n).0 h)))
    where
      agree : (a b : ℕ) → a < n → b < n → with_flows (bit_at flows) sources targets a b ≡ granted reads' writes' a b
      agree a b p q = added sources targets a b p q ∙ sym (e a b)

  -- the rights that a row lost
  lost_is : (old rows : List ℕ) (s k : ℕ) → get_or old s 0 < 2 ^ 32 → get_or rows s 0 < 2 ^ 32
      → has (bit_and (get_or old s 0) (2 ^ 32 - 1 - get_or rows s 0)) k ≡ withdrawn old rows s k
  unfolding withdrawn bit_at
  lost_is old rows s k p q = has_without 32 (get_or old s 0) (get_or rows s 0) k p q

  pub subject_is : (s : ℕ) → s < length reads → get_or old_reads s 0 < 2 ^ 32 → get_or old_writes s 0 < 2 ^ 32 → get_or reads s 0 < 2 ^ 32 → get_or writes s 0 < 2 ^ 32
      → losses_needed (bit_at flows) n (bit_and (get_or old_reads s 0) (2 ^ 32 - 1 - get_or reads s 0))
      (bit_and (get_or old_writes s 0) (2 ^ 32 - 1 - get_or writes s 0)) (get_or reads s 0) (get_or writes s 0)
      ≡ subject_needed (matrix_of old_reads old_writes n) (matrix_of reads writes n) s
  unfolding losses_needed object_needed loss_needed subject_needed read_needed write_needed
  subject_is s l p q u v =
      all_same (object_needed (bit_at flows) n (bit_and (get_or old_reads s 0) (2 ^ 32 - 1 - get_or reads s 0))
      (bit_and (get_or old_writes s 0) (2 ^ 32 - 1 - get_or writes s 0)) (get_or reads s 0) (get_or writes s 0))
      (λ k. read_needed (matrix_of old_reads old_writes n) (matrix_of reads writes n) s k && write_needed (matrix_of old_reads old_writes n) (matrix_of reads writes n) s k) n
      (λ k m. ap₂ (λ (x y : Bool). x && y)
      (ap₂ (λ (x y : Bool). cond x (not y) true) (lost_is old_reads reads s k p u)
      (returning (with_right reads s k) writes (2 ^ k) (get_or writes s 0) (λ a b. granted_read reads writes s k a b l j.proposed.even)))
      (ap₂ (λ (x y : Bool). cond x (not y) true) (lost_is old_writes writes s k q v)
      (returning reads (with_right writes s k) (get_or reads s 0) (2 ^ k) (λ a b. granted_write reads writes s k a b l j.proposed.even))))
