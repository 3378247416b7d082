-- A trace: records one behind the other (the paper, "Operations" and "Checked examples").
use Rattle.std.specs.Prelude.{ℕ, ◌+◌, ◌-◌, ◌/◌, List, length}
use Rattle.fields.specs.Bytes.{cut}
use Rattle.records.specs.Records.{record_length}

-- "A record has 8 bytes": the records of a trace; what is left at the end is a record too, which 7 refuses
unfoldable pub trace_records : List ℕ → List (List ℕ)
trace_records t = cut record_length ((length t + (record_length - 1)) / record_length) t
