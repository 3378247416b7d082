-- THE LISTING OF A TRACE: what is proved of it. `listing_of` (specs/Listings.antt) is every byte that the paper's "Checked examples"
-- fix. It is stated over `run_answers`, the answers of which demand 3 speaks (crates/monitor/proofs/Theorems.antt). What the
-- program hands on are the texts of `list_heading`, of `list_part` for each part of the trace, and of `list_total`.
use Prim.Native.Nat.{ℕ, suc, ◌%◌, ◌^◌, ◌<◌}
use native.Mathlib.Omega.{arith}
use mathlib.Core.Path.{◌≡◌}
use mathlib.Core.Logic.{◌≢◌}
use mathlib.Core.List.{List, ◌∷◌, ◌++◌}
use lib.ListN.{length}
use borrow.Author.Tests.{eq-eqb, ne_eqb}
use Rattle.answers.specs.declared.Tally.{Tally}
use Rattle.answers.specs.Tallies.{more, no_tally, tallied, tallied_all}
use Rattle.answers.proofs.Theorems.{tally_counts}
use Rattle.image.specs.Image.{check_of, policy_in}
use Rattle.session.specs.Session.{start_of}
use Rattle.records.specs.Records.{record_length}
use Rattle.monitor.specs.Steps.{step_answer, step_effect}
use Rattle.monitor.specs.Runs.{step_on, run_answers, run_effect}
use Rattle.monitor.specs.PartSessions.{part_tally, part_session, WholeRecords, together, parts_tally, parts_session}
use Rattle.monitor.proofs.TraceCuts as cuts
use Rattle.monitor.proofs.TraceCuts.{answers_length, tally_parts, session_parts}
use Rattle.listing.specs.Lines.{heading, total_of, policy_line}
use Rattle.trace_listing.specs.Listings.{record_line, lines_of, part_text, listing_of}
use Rattle.trace_listing.specs.PartListings.{part_limit, parts_text}
use Rattle.trace_listing.proofs.CutListings as cut
use Rattle.trace_listing.proofs.CutListings.{run_lines, text_parts}

-- ---- a trace in parts

-- However a trace is cut into parts of whole records, of which the last may end short: the heading, what is listed of each part,
-- and the total line, one behind the other, are the listing of the trace. Session and tally are carried along.
pub listing_by_parts : (image : List ℕ) (parts : List (List ℕ)) → WholeRecords parts → check_of image ≡ 0
    → heading ++ (parts_text no_tally (start_of (policy_in image)) parts ++ total_of (parts_tally no_tally (start_of (policy_in image)) parts))
    ≡ listing_of image (together parts)
unfolding listing_of
listing_by_parts image parts w ok =
    rw (eq-eqb (check_of image) 0 ok, text_parts no_tally (start_of (policy_in image)) parts w, tally_parts no_tally (start_of (policy_in image)) parts w)

-- A refused policy has its one line, whatever the trace.
pub listing_refused : (image trace : List ℕ) → check_of image ≢ 0 → listing_of image trace ≡ policy_line (check_of image)
unfolding listing_of
listing_refused image trace h = rw (ne_eqb (check_of image) 0 h)

-- The listing of a trace cut anywhere between records is the listings of its parts, one behind the other.
module _ (t : Tally) (s x y : List ℕ) (h : length x % record_length ≡ 0) where
  pub text_cut : part_text t s (x ++ y) ≡ part_text t s x ++ part_text (part_tally t s x) (part_session s x) y
  text_cut = cut.text_cut t s x y h

  pub tally_cut : part_tally t s (x ++ y) ≡ part_tally (part_tally t s x) (part_session s x) y
  tally_cut = cuts.tally_cut s x y h t

  pub session_cut : part_session s (x ++ y) ≡ part_session (part_session s x) y
  session_cut = cuts.session_cut s x y h

-- So a part that is full is of whole records: only one that is not can end with a short one.
pub full_part : (part : List ℕ) → length part ≡ part_limit → length part % record_length ≡ 0
full_part part e = rw e

-- The session behind all parts is that of the whole run.
pub session_by_parts : (s : List ℕ) (parts : List (List ℕ)) → WholeRecords parts → parts_session s parts ≡ part_session s (together parts)
session_by_parts = session_parts

-- ---- each record has its line

-- Of any records, each is listed with its own answer on the session that those before it leave, under the number of its place.
pub record_listed : (s : List ℕ) (rs : List (List ℕ)) (r : List ℕ) (qs : List (List ℕ)) → suc (length rs) < 2 ^ 64
    → lines_of no_tally (rs ++ (r ∷ qs)) (run_answers s (rs ++ (r ∷ qs)))
    ≡ lines_of no_tally rs (run_answers s rs)
    ++ (record_line (suc (length rs)) r (step_answer (run_effect s rs) r)
    ++ lines_of (tallied (tallied_all no_tally (run_answers s rs)) (step_answer (run_effect s rs) r)) qs (run_answers (step_effect (run_effect s rs) r) qs))
unfolding lines_of run_answers step_on
record_listed s rs r qs h =
    let e : more (tallied_all no_tally (run_answers s rs)).records ≡ suc (length rs) =
    omega (arith, tally_counts (run_answers s rs) (omega (arith, answers_length s rs)), answers_length s rs) in
    rw (← e) (run_lines no_tally s rs (r ∷ qs))
