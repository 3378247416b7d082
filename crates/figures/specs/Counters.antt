-- The numbers that the code keeps figures in: 64 bits for the records, 32 for each other figure, so that no rate exceeds 64 bits.
use Rattle.std.specs.Prelude.{ℕ, zero, suc, ◌+◌, ◌%◌, ◌^◌, ◌<◌, cond, List, [], ◌∷◌, ◌++◌, length, slice_index, slice_set}
use Rattle.image.specs.Limits.{container_limit}
use Rattle.answers.specs.declared.Answer.{Answer}
use Rattle.answers.specs.Answers.{is_alert, receiver_of}
use Rattle.answers.specs.Tallies.{more}
use Rattle.records.specs.Traces.{trace_records}
use Rattle.monitor.specs.Runs.{run_answers}
use Rattle.monitor.specs.PartSessions.{part_session, WholeRecords, together}
use Rattle.figures.specs.Figures.{Figures, count_limit, test_at, no_figures, sum_of, too_many}
use Rattle.figures.specs.Lines.{trace_line, month_total_line}

-- ---- counters

-- the records, the counts, and the alerts of each container number
pub record Counters : Type 0 where
  pub records : ℕ
  pub counts : List ℕ
  pub alerted : List ℕ

abbrev pub counters : ℕ → List ℕ → List ℕ → Counters
counters r c p = record { records = r; counts = c; alerted = p }

-- f 0 to f (n - 1)
unfoldable pub values_below : (ℕ → ℕ) → ℕ → List ℕ
values_below f zero = []
values_below f (suc n) = f 0 ∷ values_below (λ k. f (suc k)) n

-- one more, in 32 bits
abbrev pub one_more : ℕ → ℕ
one_more n = (n + 1) % 2 ^ 32

-- one more at place k
unfoldable pub one_added : List ℕ → ℕ → List ℕ
one_added numbers k = slice_set numbers k (one_more (slice_index numbers k))

-- one more in each count whose test the answer passes
unfoldable pub counts_with : List ℕ → Answer → List ℕ
counts_with counts a = values_below (λ k. cond (test_at k a) (one_more (slice_index counts k)) (slice_index counts k)) count_limit

-- one more alert of its receiver, if the answer is an alert
unfoldable pub alerted_with : List ℕ → Answer → List ℕ
alerted_with alerted a = cond (is_alert a) (one_added alerted (receiver_of a)) alerted

-- with one more answer
unfoldable pub counted : Counters → Answer → Counters
counted k a = counters (more k.records) (counts_with k.counts a) (alerted_with k.alerted a)

-- with the answers one after the other
unfoldable pub counted_all : Counters → List Answer → Counters
counted_all k [] = k
counted_all k (a ∷ l) = counted_all (counted k a) l

-- ---- counters and figures

-- counters that hold these figures, as far as their bits reach
unfoldable pub counters_of : Figures → Counters
counters_of f =
    record {
      records = f.records % 2 ^ 64;
      counts = values_below (λ k. f.counts k % 2 ^ 32) count_limit;
      alerted = values_below (λ c. f.alerts_at c % 2 ^ 32) container_limit;
    }

-- the figures that counters hold
unfoldable pub figures_in : Counters → Figures
figures_in k = record { records = k.records; counts = λ t. slice_index k.counts t; alerts_at = λ c. slice_index k.alerted c }

unfoldable pub no_counters : Counters
no_counters = counters_of no_figures

-- the total's counters with those of a trace added, unless it is too long
unfoldable pub total_with : Counters → Counters → Counters
total_with t k = cond (too_many k.records) t (counters_of (sum_of (figures_in t) (figures_in k)))

-- ---- a month part by part

-- the counters behind a part of a trace, which finds this session and these counters
unfoldable pub part_counters : Counters → List ℕ → List ℕ → Counters
part_counters k s part = counted_all k (run_answers s (trace_records part))

-- behind the parts of a trace: session and counters are carried along
unfoldable pub parts_counters : Counters → List ℕ → List (List ℕ) → Counters
parts_counters k s [] = k
parts_counters k s (p ∷ ps) = parts_counters (part_counters k s p) (part_session s p) ps

-- the lines of traces in parts, from number n on, each trace from the session s and from no counts
unfoldable pub lines_by_parts : ℕ → List ℕ → List (List (List ℕ)) → List ℕ
lines_by_parts n s [] = []
lines_by_parts n s (t ∷ ts) = trace_line n (figures_in (parts_counters no_counters s t)) ++ lines_by_parts (suc n) s ts

-- the total's counters behind them
unfoldable pub total_by_parts : Counters → List ℕ → List (List (List ℕ)) → Counters
total_by_parts k s [] = k
total_by_parts k s (t ∷ ts) = total_by_parts (total_with k (parts_counters no_counters s t)) s ts

unfoldable pub text_by_parts : List ℕ → List (List (List ℕ)) → List ℕ
text_by_parts s traces = lines_by_parts 0 s traces ++ month_total_line (figures_in (total_by_parts no_counters s traces))

-- traces in parts of whole records, each trace of fewer than 2 to the 64 bytes
abbrev pub InParts : List (List (List ℕ)) → Type 0
InParts [] = Unit {0}
InParts (t ∷ ts) = WholeRecords t × (length (together t) < 2 ^ 64) × InParts ts
