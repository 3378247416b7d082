-- The figures of a list of answers, and sums of figures (change request No. 6).
use Rattle.std.specs.Prelude.{ℕ, ◌+◌, Bool, false, ◌&&◌, List, [], ◌∷◌, length, ◌==◌, nat_lt, slice_index_or}
use Rattle.answers.specs.declared.Answer.{Answer}
use Rattle.answers.specs.Answers as answers
use Rattle.answers.specs.Answers.{is_alert, is_blocked, is_refused, receiver_of}
use Rattle.answers.specs.Tallies.{count_of}

-- "accepted steps, alerts, refused steps", and of blocked ones "a count of its own, right behind refused steps and outside accepted, alerts
-- and refused" (change request No. 9): what the answers are counted by, in the order in which the counts are shown
abbrev pub tests : List (Answer → Bool)
tests = answers.accepted ∷ is_alert ∷ is_refused ∷ is_blocked ∷ []

-- how many counts there are
abbrev pub count_limit : ℕ
count_limit = length tests

-- the test of count k; behind the last no answer passes
unfoldable pub test_at : ℕ → Answer → Bool
test_at k = slice_index_or tests k (λ a. false)

-- the records, the counts in the order of the tests, and "number and alerts of each container number"
pub record Figures : Type 0 where
  pub records : ℕ
  pub counts : ℕ → ℕ
  pub alerts_at : ℕ → ℕ

-- the counts by their names, each at the place of its test
abbrev pub accepted_in : Figures → ℕ
accepted_in f = f.counts 0

abbrev pub alerts_in : Figures → ℕ
alerts_in f = f.counts 1

abbrev pub refused_in : Figures → ℕ
refused_in f = f.counts 2

abbrev pub blocked_in : Figures → ℕ
blocked_in f = f.counts 3

-- an alert whose receiver is container number c, whoever holds the number
unfoldable pub alert_at : ℕ → Answer → Bool
alert_at c a = is_alert a && receiver_of a == c

unfoldable pub figures_of : List Answer → Figures
figures_of given =
    record {
      records = length given;
      counts = λ k. count_of (test_at k) given;
      alerts_at = λ c. count_of (alert_at c) given;
    }

unfoldable pub no_figures : Figures
no_figures = figures_of []

-- each figure added to its like
unfoldable pub sum_of : Figures → Figures → Figures
sum_of f g =
    record {
      records = f.records + g.records;
      counts = λ k. f.counts k + g.counts k;
      alerts_at = λ c. f.alerts_at c + g.alerts_at c;
    }

-- "over 1,000,000 records"
abbrev pub record_limit : ℕ
record_limit = 1000000

unfoldable pub too_many : ℕ → Bool
too_many records = nat_lt record_limit records
