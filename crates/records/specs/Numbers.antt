-- How a record is judged in the number that its bytes spell: the contract of a private function of this crate. No public contract cites
-- this file.
use Rattle.std.specs.Prelude.{ℕ, Bool, ◌&&◌, List, eqb, ltb}
use Rattle.image.specs.Limits.{container_limit}
use Rattle.fields.specs.Bytes.{field}
use Rattle.records.specs.Records.{record_zero_at, code_size, request_in}

-- the zero byte, and both containers in their limit
unfoldable pub zeros_good : List ℕ → Bool
zeros_good r = eqb (field r record_zero_at code_size) 0 && (ltb (request_in r).p container_limit && ltb (request_in r).o container_limit)
