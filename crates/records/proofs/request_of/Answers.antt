-- `records::request_of`. What the number of the bytes asks for.
use mathlib.Core.Path.{ap, ◌∙◌}
use Rattle.records.specs.Records.{request_in}
use Rattle.records.proofs.request_of.Goals as goal

pub returns : goal.returns
returns c = c.request_in.ensures ∙ ap request_in c.word_of.ensures
