-- How flows are judged without a closure: a matrix is consistent where the table of its granted flows is transitive, and a right that
-- returns to such a table is judged from what leads to its new flows and what they lead to.
-- A right to read object k adds the flows from k to all that the subject writes, a right to write k those from all that it reads to k.
use Rattle.std.specs.Prelude.{ℕ, ◌^◌, ◌≤◌, ◌<◌, ◌≡◌, Bool, true, false, not, cond, ◌&&◌, ◌||◌, List, eqb, length, get_or}
use Rattle.std.specs.Int.Bits.{bit_and, bit_or}
use Rattle.rules.specs.Sets.{holds}
use Rattle.matrix.specs.Limits.{object_limit}
use Rattle.matrix.specs.Flows.{has, granted, rows_within, Matrix}
use Rattle.lists.specs.Counting.{some_below, all_below}
use Rattle.matrix.specs.Verdicts.{consistent}
use Rattle.matrix.specs.Rows.{bit_at}
use Rattle.withdrawals.specs.Judgements.{stays_consistent, minimal}

-- the first n rows of a table have no bit beyond the objects
pub record FlowTable (n : ℕ) (rows : List ℕ) : Type 0 where
  pub few : n ≤ object_limit
  pub fit : n ≤ length rows
  pub beyond : (a b : ℕ) → a < n → n ≤ b → bit_at rows a b ≡ false

-- ---- a table that is transitive

-- one of the targets leads to b
unfoldable pub reached_from : (ℕ → ℕ → Bool) → ℕ → ℕ → ℕ → Bool
reached_from f n targets b = some_below (λ y. has targets y && f y b) n

-- what is reached from the objects in a's row is in a's row
unfoldable pub row_closed : List ℕ → ℕ → ℕ → Bool
row_closed rows n a = all_below (λ b. cond (reached_from (bit_at rows) n (get_or rows a 0) b) (bit_at rows a b) true) n

-- the first n rows are so, which is consistency without a closure (proofs/TransitiveLaws, `table_transitive`)
unfoldable pub table_closed : List ℕ → ℕ → Bool
table_closed rows n = all_below (row_closed rows n) n

-- ---- a right that returns

-- a leads to one of the sources
unfoldable pub leads_to : (ℕ → ℕ → Bool) → ℕ → ℕ → ℕ → Bool
leads_to f n sources a = some_below (λ x. f a x && has sources x) n

-- the relation f, and each source with each target
unfoldable pub with_flows : (ℕ → ℕ → Bool) → ℕ → ℕ → ℕ → ℕ → Bool
with_flows f sources targets a b = f a b || (has sources a && has targets b)

-- all that is reached from a target stands with a, if a leads to a source
unfoldable pub source_fits : (ℕ → ℕ → Bool) → ℕ → ℕ → ℕ → ℕ → Bool
source_fits f n sources targets a =
    cond (leads_to f n sources a) (all_below (λ b. cond (reached_from f n targets b) (with_flows f sources targets a b) true) n) true

-- with each source and each target added, the transitive relation f is still transitive (proofs/TransitiveLaws, `stays_transitive`)
unfoldable pub stays_closed : (ℕ → ℕ → Bool) → ℕ → ℕ → ℕ → Bool
stays_closed f n sources targets = all_below (source_fits f n sources targets) n

-- the same for one row of the table, in numbers: `reached` is the row of all that is reached
unfoldable pub row_fits : ℕ → ℕ → ℕ → ℕ → ℕ → Bool
row_fits row a sources targets reached =
    cond (eqb (bit_and row sources) 0) true (holds (cond (has sources a) (bit_or row targets) row) reached)

-- a right to object k, if it is one of the lost ones, does not return without harm
unfoldable pub loss_needed : (ℕ → ℕ → Bool) → ℕ → ℕ → ℕ → ℕ → ℕ → Bool
loss_needed f n lost k sources targets = cond (has lost k) (not (stays_closed f n sources targets)) true

-- the right to read object k and the right to write it, of a subject that reads and writes as these rows say
unfoldable pub object_needed : (ℕ → ℕ → Bool) → ℕ → ℕ → ℕ → ℕ → ℕ → ℕ → Bool
object_needed f n lost_reads lost_writes reads writes k = loss_needed f n lost_reads k (2 ^ k) writes && loss_needed f n lost_writes k reads (2 ^ k)

-- each lost right of the subject
unfoldable pub losses_needed : (ℕ → ℕ → Bool) → ℕ → ℕ → ℕ → ℕ → ℕ → Bool
losses_needed f n lost_reads lost_writes reads writes = all_below (object_needed f n lost_reads lost_writes reads writes) n

-- what is known of a proposal when its flows are looked at: rows of the same subjects, at most 32 objects and no bit beyond them
pub record Proposed (old_reads old_writes reads writes : List ℕ) (n : ℕ) : Type 0 where
  pub old_reads_even : length old_reads ≡ length reads
  pub old_writes_even : length old_writes ≡ length reads
  pub even : length writes ≡ length reads
  pub few : n ≤ object_limit
  pub good : rows_within n writes ≡ true

-- the same, with the table of its granted flows, which is consistent
pub record Judging (old_reads old_writes reads writes flows : List ℕ) (n : ℕ) : Type 0 where
  pub proposed : Proposed old_reads old_writes reads writes n
  pub table : FlowTable n flows
  pub bits : (a b : ℕ) → a < n → b < n → bit_at flows a b ≡ granted reads writes a b
  pub kept : consistent reads writes n ≡ true

-- the conditions on flows, 3 and then 4
unfoldable pub flow_judgement : Matrix → Matrix → ℕ
flow_judgement old proposed = cond (stays_consistent proposed) (cond (minimal old proposed) 0 4) 3
