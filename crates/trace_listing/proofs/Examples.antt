-- The paper's listing, every byte: the listing of document 000's image of 118 bytes and of the trace of six records.
use Prim.Native.Nat.{ℕ}
use mathlib.Core.Path.{◌≡◌, refl}
use mathlib.Core.List.{List, ◌++◌}
use lib.ListN.{replicate}
use borrow.Author.Tests.{eq-eqb}
use Rattle.fields.specs.Ascii.{ascii}
use Rattle.fields.specs.Bytes.{number_in, field, cut}
use Rattle.answers.specs.Tallies.{no_tally, tallied, tallied_all}
use Rattle.image.specs.Image.{check_of}
use Rattle.session.specs.Limits.{session_length}
use Rattle.session.proofs.Canonical.{effect_start}
use Rattle.records.specs.Records.{request_in}
use Rattle.records.specs.Traces.{trace_records}
use Rattle.monitor.proofs.PaperTrace.{image, read_image, trace_bytes, given, answered}
use Rattle.listing.specs.Text.{digit, digits, decimal_in, decimal, hexadecimal}
use Rattle.listing.specs.Lines.{line, operation_word, verdict_word, answer_word, answer_fields, heading, step_line, total_line, total_of}
use Rattle.monitor.specs.PartSessions.{part_tally}
use Rattle.trace_listing.specs.Listings.{record_line, lines_of, part_text, listing_of}

-- the listing of the paper's trace, line by line
abbrev pub listed : List ℕ
listed =
    ascii "step op p o verdict at tag pos\n"
    ++ ascii "1 read 4 2 quiet 4 0000000000000004 0\n"
    ++ ascii "2 append 4 0 quiet 0 0000000000000005 0\n"
    ++ ascii "3 read 5 0 quiet 5 0000000000000005 0\n"
    ++ ascii "4 append 5 1 alert 1 0000000000000007 255\n"
    ++ ascii "5 write 6 1 quiet 1 0000000000000000 0\n"
    ++ ascii "6 read 6 9 refused 12\n"
    ++ ascii "total 6 alerts 1 refused 1\n"

spelled : heading ++ (lines_of no_tally (trace_records trace_bytes) given ++ total_of (tallied_all no_tally given)) ≡ listed
unfolding trace_records cut request_in number_in field tallied tallied_all record_line lines_of total_of heading step_line total_line operation_word answer_word
    answer_fields verdict_word line decimal decimal_in hexadecimal digits digit ascii
spelled = refl

pub listing : listing_of image trace_bytes ≡ listed
unfolding listing_of part_text part_tally
listing =
    rw (eq-eqb (check_of image) 0 (effect_start image (replicate session_length 0) read_image.unrefused).0, answered) spelled
