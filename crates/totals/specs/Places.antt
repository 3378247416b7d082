-- How the code counts in the numbers of the figures: records that are answered quiet are counted at the end, as those that are left.
use Rattle.std.specs.Prelude.{ℕ, ◌+◌, ◌-◌, cond, List, slice_index, slice_set}
use Rattle.answers.specs.declared.Verdict.TheVariants.{Quiet, Alert, Blocked}
use Rattle.answers.specs.declared.Answer.{Answer}
use Rattle.answers.specs.declared.Answer.TheVariants.{Given, Refused}
use Rattle.answers.specs.Answers.{is_alert, receiver_of}
use Rattle.answers.specs.Tallies.{more}
use Rattle.figures.specs.Figures.{count_limit}

-- ---- the places of the numbers

abbrev pub record_count_at : ℕ
record_count_at = 0

abbrev pub accepted_count_at : ℕ
accepted_count_at = 1

abbrev pub alert_count_at : ℕ
alert_count_at = 2

abbrev pub refused_count_at : ℕ
refused_count_at = 3

abbrev pub blocked_count_at : ℕ
blocked_count_at = 4

abbrev pub container_counts_at : ℕ
container_counts_at = 1 + count_limit

-- the last count that an answer belongs to
abbrev pub count_place : Answer → ℕ
count_place (Given Quiet e) = accepted_count_at
count_place (Given Alert e) = alert_count_at
count_place (Given Blocked e) = blocked_count_at
count_place (Refused n) = refused_count_at

-- ---- counting

-- one more at place k
unfoldable pub one_counted : List ℕ → ℕ → List ℕ
one_counted f k = slice_set f k (more (slice_index f k))

-- with one more answer that is not quiet: in its count, and of an alert in that of its receiver
unfoldable pub event_counted : List ℕ → Answer → List ℕ
event_counted f a = cond (is_alert a) (one_counted (one_counted f (count_place a)) (container_counts_at + receiver_of a)) (one_counted f (count_place a))

-- with so many records in all, of which those that are neither refused nor blocked are accepted
unfoldable pub finished : List ℕ → ℕ → List ℕ
finished f records = slice_set (slice_set f record_count_at records) accepted_count_at (records - slice_index f refused_count_at - slice_index f blocked_count_at)
