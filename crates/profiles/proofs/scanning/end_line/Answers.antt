-- The word is the line.
use Rattle.fields.specs.Ascii.{ascii}
use Rattle.lists.proofs.Bools.{passes_test, fails_test}
use Rattle.profiles.specs.Profiles.{end_line}
use Rattle.profiles.proofs.LineScans.{end_no_line, end_scanned}
use Rattle.profiles.proofs.scanning.end_line.Goals as goal

pub returns-then-not-starts : goal.returns-then-not-starts
unfolding end_line ascii
returns-then-not-starts c =
    end_no_line c.args.text.now c.args.at c.requires.1 (fails_test c.starts.ensures c.if-not-starts.true-raw)

pub returns : goal.returns
unfolding end_line ascii
returns c =
    end_scanned c.args.text.now c.args.at c.requires.1 (passes_test c.starts.ensures c.if-not-starts.false-raw)
