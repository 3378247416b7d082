-- What the program read, and what it handed to standard output (what that is, `crates/files/specs/Calls.antt` says).
use Rattle.std.specs.Prelude.{ℕ, suc, ◌+◌, ◌*◌, ◌%◌, ◌^◌, ◌≤◌, ◌<◌, ◌≡◌, true, ◌⊎◌, List, [], ◌∷◌, length}
use Rattle.fields.specs.Ascii.{ascii}
use Rattle.image.specs.Limits.{image_limit}
use Rattle.image.specs.Image.{check_of, policy_in}
use Rattle.session.specs.Session.{start_of}
use Rattle.records.specs.Records.{record_length}
use Rattle.figures.specs.Figures.{Figures, sum_of, too_many}
use Rattle.figures.specs.Lines.{name_of, trace_line}
use Rattle.figures.specs.Months.{trace_figures, counting, total_figures, trace_lines, trace_limit, traces_text, month_text}
use Rattle.figures.specs.Counters.{Counters, counters_of}
use Rattle.files.specs.Calls.{Handed, Absent, WholeFile, FrontOf, FileLoaded}

-- the bytes of a part of a trace: 8,192 whole records
abbrev pub part_size : ℕ
part_size = 8192 * record_length

-- what was read of a trace, to be run on session s: all of its file, or so many whole records that it is too long
abbrev pub TraceRead : List ℕ → List ℕ → List ℕ → Type 0
TraceRead s name trace = WholeFile name trace ⊎ (FrontOf name trace × (length trace % record_length ≡ 0) × (too_many (trace_figures s trace).records ≡ true))

-- the traces from number n on, in the order of their names
abbrev pub TracesRead : List ℕ → ℕ → List (List ℕ) → Type 0
TracesRead s n [] = Unit {0}
TracesRead s n (t ∷ ts) = TraceRead s (name_of n) t × TracesRead s (suc n) ts

-- "ending at the first missing name", or at 64
abbrev pub AllTraces : List (List ℕ) → Type 0
AllTraces traces = (length traces ≤ trace_limit) × ((length traces ≡ trace_limit) ⊎ Absent (name_of (length traces)))

-- a trace was counted from no counts on session s
pub record TraceCounted (name s : List ℕ) (k : Counters) : Type 0 where
  pub trace : List ℕ
  pub read : TraceRead s name trace
  pub few : length trace < 2 ^ 64
  pub counts : k ≡ counters_of (trace_figures s trace)

-- a trace was counted from no counts on session s, and its line, under number n, was handed on; where the counters of the total held
-- figures f, they hold these and those of the trace, unless it is too long
pub record TraceShown (n : ℕ) (name s : List ℕ) (total total' : Counters) (before after : ℕ) : Type 0 where
  pub trace : List ℕ
  pub read : TraceRead s name trace
  pub sums : (f : Figures) → total ≡ counters_of f → total' ≡ counters_of (sum_of f (counting (trace_figures s trace)))
  pub handed : Handed (trace_line n (trace_figures s trace)) before after

-- all traces were, each on session s
pub record TracesShown (s : List ℕ) (total : Counters) (before after : ℕ) : Type 0 where
  pub traces : List (List ℕ)
  pub read : TracesRead s 0 traces
  pub complete : AllTraces traces
  pub sums : total ≡ counters_of (total_figures s traces)
  pub handed : Handed (trace_lines 0 s traces) before after

-- and the line of the total
pub record MonthOf (s : List ℕ) (before after : ℕ) : Type 0 where
  pub traces : List (List ℕ)
  pub read : TracesRead s 0 traces
  pub complete : AllTraces traces
  pub handed : Handed (traces_text s traces) before after

-- THE PROGRAM: what it handed on is the text of the month of these files, no byte more. Of a policy that is too long, and of a trace
-- that is too long, only so much is read as tells that; of a refused policy no trace is read.
pub record MonthShown (before after : ℕ) : Type 0 where
  pub policy : List ℕ
  pub traces : List (List ℕ)
  pub policy_file : FileLoaded (ascii "policy.bin") policy (image_limit + 1)
  pub read : check_of policy ≡ 0 → TracesRead (start_of (policy_in policy)) 0 traces
  pub complete : check_of policy ≡ 0 → AllTraces traces
  pub handed : Handed (month_text policy traces) before after
