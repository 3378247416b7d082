-- The figures of the records of a trace as numbers of 64 bits that a caller lends, and figures added to others.
use Rattle.std.specs.Prelude.{ℕ, ◌+◌, ◌%◌, ◌^◌, Bool, cond, ◌&&◌, List, ◌∷◌, ◌++◌, length, ◌==◌, slice_index}
use Rattle.answers.specs.Refusals.{lent_length}
use Rattle.image.specs.Limits.{container_limit}
use Rattle.session.specs.Session.{session_length_good}
use Rattle.monitor.specs.PartSessions.{part_session}
use Rattle.figures.specs.Figures.{Figures, count_limit}
use Rattle.figures.specs.Counters.{values_below}
use Rattle.figures.specs.Months.{trace_figures}

-- ---- figures as numbers

-- the records, the counts, and the alerts of each container number
abbrev pub figures_length : ℕ
figures_length = 1 + count_limit + container_limit

unfoldable pub figure_numbers : Figures → List ℕ
figure_numbers f = f.records ∷ (values_below f.counts count_limit ++ values_below f.alerts_at container_limit)

-- ---- what a call counts of the trace t, on the session s, into the numbers f

-- 9 unless the session and the figures have their lengths
unfoldable pub total_good : List ℕ → List ℕ → Bool
total_good s f = session_length_good s && length f == figures_length

unfoldable pub total_refusal : List ℕ → List ℕ → ℕ
total_refusal s f = cond (total_good s f) 0 lent_length

unfoldable pub total_numbers : List ℕ → List ℕ → List ℕ → List ℕ
total_numbers s t f = cond (total_good s f) (figure_numbers (trace_figures s t)) f

unfoldable pub total_session : List ℕ → List ℕ → List ℕ → List ℕ
total_session s t f = cond (total_good s f) (part_session s t) s

-- ---- figures added to a total, each number in 64 bits

unfoldable pub added_numbers : List ℕ → List ℕ → List ℕ
added_numbers total f = values_below (λ k. (slice_index total k + slice_index f k) % 2 ^ 64) figures_length

-- 9 unless both have their length
unfoldable pub add_good : List ℕ → List ℕ → Bool
add_good total f = length total == figures_length && length f == figures_length

unfoldable pub add_refusal : List ℕ → List ℕ → ℕ
add_refusal total f = cond (add_good total f) 0 lent_length

unfoldable pub add_figures : List ℕ → List ℕ → List ℕ
add_figures total f = cond (add_good total f) (added_numbers total f) total
