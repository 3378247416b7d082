-- What the program read, and what it handed to standard output (what that is, `crates/files/specs/Calls.antt` says).
use Rattle.std.specs.Prelude.{ℕ, ◌+◌, ◌≡◌, List, ◌++◌}
use Rattle.fields.specs.Ascii.{ascii}
use Rattle.answers.specs.declared.Tally.{Tally}
use Rattle.answers.specs.Tallies.{no_tally}
use Rattle.image.specs.Limits.{image_limit}
use Rattle.image.specs.Image.{check_of}
use Rattle.listing.specs.Lines.{heading}
use Rattle.monitor.specs.PartSessions.{part_tally, part_session}
use Rattle.listing.specs.Lines.{total_of}
use Rattle.trace_listing.specs.Listings.{part_text, listing_of}
use Rattle.files.specs.Calls.{Handed, FileIs, FileLoaded}

-- the trace of this file, all of it, was run on the session, counted, and its lines were handed on
pub record TraceListed (name s s' : List ℕ) (t : Tally) (before after : ℕ) : Type 0 where
  pub trace : List ℕ
  pub file : FileIs name trace
  pub leaves : s' ≡ part_session s trace
  pub counts : t ≡ part_tally no_tally s trace
  pub handed : Handed (part_text no_tally s trace) before after

-- heading, lines and total of the trace were handed on, run on this session
pub record Watched (s : List ℕ) (before after : ℕ) : Type 0 where
  pub trace : List ℕ
  pub file : FileIs (ascii "trace.bin") trace
  pub handed : Handed (heading ++ (part_text no_tally s trace ++ total_of (part_tally no_tally s trace))) before after

-- THE PROGRAM: what it handed on is the listing of the two files, no byte more. Of a policy that is too long only so much is read
-- as tells that, and of a refused one the trace is not read.
pub record ListingShown (before after : ℕ) : Type 0 where
  pub policy : List ℕ
  pub trace : List ℕ
  pub policy_file : FileLoaded (ascii "policy.bin") policy (image_limit + 1)
  pub trace_file : check_of policy ≡ 0 → FileIs (ascii "trace.bin") trace
  pub handed : Handed (listing_of policy trace) before after
