-- Where there is no chain, no rule; else the number of the file's run rule.
use mathlib.Core.Path.{ap}
use Rattle.witness.specs.Found.{file_number, found_numbers}
use Rattle.certificate.proofs.ToldReasons.{found_none, found_file}
use Rattle.certificate.proofs.run_told.Goals as goal

pub returns-in_default : goal.returns-in_default
returns-in_default c = found_none _ _ (found_numbers c.args.found) (ap file_number c.in_default.is) c.no_told.ensures

pub returns : goal.returns
returns c = found_file _ _ (found_numbers c.args.found) (ap file_number c.in-Some.is) (rw c.in-Some.is at c.requires) c.run_number.ensures
