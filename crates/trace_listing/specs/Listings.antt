-- The listing of a trace, every byte (the paper, "Checked examples", from "The watch program reads").
use Rattle.std.specs.Prelude.{ℕ, cond, List, [], ◌∷◌, ◌++◌, eqb, length}
use Rattle.answers.specs.declared.Answer.{Answer}
use Rattle.answers.specs.declared.Tally.{Tally}
use Rattle.answers.specs.Tallies.{more, no_tally, tallied}
use Rattle.image.specs.Image.{check_of, policy_in}
use Rattle.session.specs.Session.{start_of}
use Rattle.records.specs.Records.{record_length, request_in}
use Rattle.records.specs.Traces.{trace_records}
use Rattle.monitor.specs.Runs.{run_answers}
use Rattle.monitor.specs.PartSessions.{part_tally}
use Rattle.listing.specs.Lines.{heading, step_line, short_line, total_of, policy_line}

-- ---- the line of a record

-- a whole record is listed with its own code, p and o, whatever it was answered; "a short last record counts as a step and is
-- listed, behind its step number, as `other 0 0 refused 7`"
unfoldable pub record_line : ℕ → List ℕ → Answer → List ℕ
record_line step bytes answer =
    cond (eqb (length bytes) record_length)
    (step_line step (request_in bytes).code (request_in bytes).p (request_in bytes).o answer)
    (short_line step)

-- the lines of records with their answers, behind a tally: a step's number is one more than the number of records before it
unfoldable pub lines_of : Tally → List (List ℕ) → List Answer → List ℕ
lines_of t [] given = []
lines_of t (r ∷ rs) [] = []
lines_of t (r ∷ rs) (a ∷ given) = record_line (more t.records) r a ++ lines_of (tallied t a) rs given

-- ---- a part of a trace, which finds this session and this tally

unfoldable pub part_text : Tally → List ℕ → List ℕ → List ℕ
part_text t s part = lines_of t (trace_records part) (run_answers s (trace_records part))

-- ---- the whole listing

-- "The first line names the fields"; "A refused policy prints only `policy refused` and its number."
unfoldable pub listing_of : List ℕ → List ℕ → List ℕ
listing_of image trace =
    cond (eqb (check_of image) 0)
    (heading ++ (part_text no_tally (start_of (policy_in image)) trace ++ total_of (part_tally no_tally (start_of (policy_in image)) trace)))
    (policy_line (check_of image))
