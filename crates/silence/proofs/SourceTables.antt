-- What `matrix::compose_flows` leaves, of the exchanged rows, is the table of the sources of each object.
use Prim.Native.Nat.{ℕ, ◌≤◌, ◌<◌}
use mathlib.Core.Path.{◌≡◌, sym, ap, ◌∙◌}
use mathlib.Core.Bool.{true}
use mathlib.Core.List.{List}
use native.Mathlib.Decide.{dec_lt}
use native.Mathlib.Omega.{arith}
use lib.ListN.{length, get_or}
use Rattle.matrix.specs.Limits.{object_limit}
use Rattle.matrix.specs.Flows.{has, composed, matrix_good}
use Rattle.matrix.specs.Rows.{bit_at, bits_of, spelling}
use Rattle.matrix.proofs.RowBits.{has_ext, bits_has, bits_above}
use Rattle.matrix.proofs.GoodLaws.{Good, good_parts}
use Rattle.matrix.proofs.RowLoops.{spelling_fits, spelling_bits, spelling_above}
use Rattle.matrix.proofs.PathFlows.{composed_beyond}
use Rattle.rules.specs.Rules.{covers}
use Rattle.derivation.specs.Derived.{permit_of}
use Rattle.silence.specs.Silent.{sources_of, quiet_object}
use Rattle.silence.specs.Tables.{SourceTable}
use Rattle.silence.proofs.ExchangeLaws.{composed_back, exchanged_good}

-- the bits of a table that spells the composed flows
pub composed_bits : (reads writes rows table : List ℕ) (n : ℕ) → Good reads writes n → table ≡ spelling (composed reads writes n) n rows → (a b : ℕ) → a < n
    → bit_at table a b ≡ composed reads writes n a b
composed_bits reads writes rows table n g e a b l = ap (λ (x : List ℕ). bit_at x a b) e ∙ by (dec_lt b object_limit)
  where
    by : Dec (b < object_limit) → bit_at (spelling (composed reads writes n) n rows) a b ≡ composed reads writes n a b
    by (yes m) = spelling_bits (composed reads writes n) n rows a b l m
    by (no m) =
        spelling_above (composed reads writes n) n rows a b l (omega arith)
        ∙ sym (composed_beyond reads writes n a b g.writes_good l (omega (arith, g.few)))

module _ (reads writes : List ℕ) (n : ℕ) (good : matrix_good reads writes n ≡ true) where
  g : Good reads writes n
  g = good_parts reads writes n good

  pub source_table : (rows table : List ℕ) → n ≤ length rows → table ≡ spelling (composed writes reads n) n rows → SourceTable reads writes n table
  source_table rows table r t = record {
    even = g.even;
    few = g.few;
    fit = spelling_fits (composed writes reads n) n rows table t r;
    sources = λ b l. unfold sources_of in (has_ext (get_or table b 0) (bits_of (λ a. composed reads writes n a b) n) (λ k. unfold bit_at in (bits b k l) ∙ at b l k (dec_lt k n)));
  }
    where
      bits : (b k : ℕ) → b < n → bit_at table b k ≡ composed writes reads n b k
      bits b k l = composed_bits writes reads rows table n (good_parts writes reads n (exchanged_good reads writes n good)) t b k l

      at : (b : ℕ) → b < n → (k : ℕ) → Dec (k < n) → composed writes reads n b k ≡ has (bits_of (λ a. composed reads writes n a b) n) k
      at b l k (yes m) = composed_back reads writes n k b ∙ sym (bits_has (λ a. composed reads writes n a b) n k m)
      at b l k (no m) = composed_beyond writes reads n b k g.reads_good l (omega arith) ∙ sym (bits_above (λ a. composed reads writes n a b) n k (omega arith))

-- an object by its row of the table
pub quiet_is : (reads writes : List ℕ) (n : ℕ) (table : List ℕ) → SourceTable reads writes n table → (b : ℕ) → b < n
    → covers (permit_of reads writes b) (get_or table b 0) ≡ quiet_object reads writes n b
unfolding quiet_object
quiet_is reads writes n table t b l = ap (covers (permit_of reads writes b)) (t.sources b l)
