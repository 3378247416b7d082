-- The tally of a run (the paper, "Checked examples": "the number of records, alerts and refusals").
use Rattle.std.specs.Prelude.{ℕ, suc, ◌+◌, ◌%◌, ◌^◌, Bool, cond, List, [], ◌∷◌}
use Rattle.answers.specs.declared.Answer.{Answer}
use Rattle.answers.specs.declared.Tally.{Tally}
use Rattle.answers.specs.Answers.{is_alert, is_refused}

-- one more, in 64 bits
abbrev pub more : ℕ → ℕ
more n = (n + 1) % 2 ^ 64

abbrev pub no_tally : Tally
no_tally = record { records = 0; alerts = 0; refused = 0 }

-- with one more answer
unfoldable pub tallied : Tally → Answer → Tally
tallied t a =
    record {
      records = more t.records;
      alerts = cond (is_alert a) (more t.alerts) t.alerts;
      refused = cond (is_refused a) (more t.refused) t.refused;
    }

-- with the answers one after the other
unfoldable pub tallied_all : Tally → List Answer → Tally
tallied_all t [] = t
tallied_all t (a ∷ l) = tallied_all (tallied t a) l

-- how many answers pass the test
unfoldable pub count_of : (Answer → Bool) → List Answer → ℕ
count_of f [] = 0
count_of f (a ∷ l) = cond (f a) (suc (count_of f l)) (count_of f l)
