-- A trace that comes in parts, each of which finds the session and the tally that the one before left (the paper, "Checked examples",
-- from "The watch program reads").
use Rattle.std.specs.Prelude.{ℕ, ◌%◌, ◌≡◌, List, [], ◌∷◌, ◌++◌, length}
use Rattle.answers.specs.declared.Tally.{Tally}
use Rattle.answers.specs.Tallies.{tallied_all}
use Rattle.records.specs.Records.{record_length}
use Rattle.records.specs.Traces.{trace_records}
use Rattle.monitor.specs.Runs.{run_answers, run_effect}

-- ---- one part

-- the tally behind it
unfoldable pub part_tally : Tally → List ℕ → List ℕ → Tally
part_tally t s part = tallied_all t (run_answers s (trace_records part))

-- the session that it leaves
unfoldable pub part_session : List ℕ → List ℕ → List ℕ
part_session s part = run_effect s (trace_records part)

-- ---- many parts

-- parts of whole records; only the last may end with a short one
abbrev pub WholeRecords : List (List ℕ) → Type 0
WholeRecords [] = Unit {0}
WholeRecords (p ∷ []) = Unit {0}
WholeRecords (p ∷ q ∷ ps) = (length p % record_length ≡ 0) × WholeRecords (q ∷ ps)

-- the parts one behind the other
unfoldable pub together : List (List ℕ) → List ℕ
together [] = []
together (p ∷ ps) = p ++ together ps

-- session and tally are carried along
unfoldable pub parts_tally : Tally → List ℕ → List (List ℕ) → Tally
parts_tally t s [] = t
parts_tally t s (p ∷ ps) = parts_tally (part_tally t s p) (part_session s p) ps

unfoldable pub parts_session : List ℕ → List (List ℕ) → List ℕ
parts_session s [] = s
parts_session s (p ∷ ps) = parts_session (part_session s p) ps
