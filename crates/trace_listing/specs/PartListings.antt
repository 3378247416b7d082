-- A trace that comes in parts, and what is listed of one part into a buffer with room for it.
use Rattle.std.specs.Prelude.{ℕ, ◌*◌, ◌≡◌, List, [], ◌∷◌, ◌++◌}
use Rattle.records.specs.Records.{record_length}
use Rattle.answers.specs.declared.Answer.{Answer}
use Rattle.answers.specs.declared.Tally.{Tally}
use Rattle.answers.specs.Tallies.{more, tallied}
use Rattle.fields.specs.Writing.{Wrote}
use Rattle.trace_listing.specs.declared.Listed.{Listed}
use Rattle.monitor.specs.PartSessions.{part_tally, part_session}
use Rattle.listing.specs.Buffer.{ListedText}
use Rattle.trace_listing.specs.Listings.{record_line, part_text}

-- ---- a trace in parts

-- what is listed of each part, one behind the other: session and tally are carried along
unfoldable pub parts_text : Tally → List ℕ → List (List ℕ) → List ℕ
parts_text t s [] = []
parts_text t s (p ∷ ps) = part_text t s p ++ parts_text (part_tally t s p) (part_session s p) ps

-- ---- one part

-- the records of a part at most, and its bytes
abbrev pub part_records : ℕ
part_records = 512

abbrev pub part_limit : ℕ
part_limit = part_records * record_length

-- a record's line was written behind the lines so far, and the record counted
pub record ListedRecord (bytes : List ℕ) (answer : Answer) (run : Listed) (before after : List ℕ) (r : Listed) : Type 0 where
  pub line : Wrote (record_line (more run.tally.records) bytes answer) before after run.end r.end
  pub counts : r.tally ≡ tallied run.tally answer

-- the lines of a part were listed: the buffer, the tally and the session
pub record ListedPart (part : List ℕ) (t : Tally) (s s' before after : List ℕ) (r : Listed) : Type 0 where
  pub lines : ListedText (part_text t s part) before after r.end
  pub counts : r.tally ≡ part_tally t s part
  pub leaves : s' ≡ part_session s part
