-- The text of a month: every byte that the program prints (change request No. 6).
use Rattle.std.specs.Prelude.{◌≡◌, ℕ, suc, ◌%◌, true, cond, ◌⊎◌, List, [], ◌∷◌, ◌++◌, length, take, ◌==◌}
use Rattle.image.specs.Image.{check_of, policy_in}
use Rattle.session.specs.Session.{start_of}
use Rattle.records.specs.Records.{record_length}
use Rattle.records.specs.Traces.{trace_records}
use Rattle.monitor.specs.Runs.{run_answers}
use Rattle.listing.specs.Lines.{policy_line}
use Rattle.figures.specs.Figures.{Figures, figures_of, no_figures, sum_of, too_many}
use Rattle.figures.specs.Lines.{trace_line, month_total_line}

-- the figures of a trace, or of a part of one, on this session
unfoldable pub trace_figures : List ℕ → List ℕ → Figures
trace_figures s trace = figures_of (run_answers s (trace_records trace))

-- what a trace adds to the total: one that is too long "is then left out whole"
unfoldable pub counting : Figures → Figures
counting f = cond (too_many f.records) no_figures f

-- "each from a new session": s is the session that the policy starts; the traces from number n on
unfoldable pub trace_lines : ℕ → List ℕ → List (List ℕ) → List ℕ
trace_lines n s [] = []
trace_lines n s (t ∷ ts) = trace_line n (trace_figures s t) ++ trace_lines (suc n) s ts

-- "Total counts equal the sums over the histories"
unfoldable pub total_figures : List ℕ → List (List ℕ) → Figures
total_figures s [] = no_figures
total_figures s (t ∷ ts) = sum_of (counting (trace_figures s t)) (total_figures s ts)

-- "up to 64 traces"
abbrev pub trace_limit : ℕ
trace_limit = 64

-- "a line per trace and a last one in total"
unfoldable pub traces_text : List ℕ → List (List ℕ) → List ℕ
traces_text s traces = trace_lines 0 s traces ++ month_total_line (total_figures s traces)

-- the traces are those that are there, "ending at the first missing name"; "a refused policy is shown as in the watch program"
unfoldable pub month_text : List ℕ → List (List ℕ) → List ℕ
month_text image traces =
    cond (check_of image == 0) (traces_text (start_of (policy_in image)) (take trace_limit traces)) (policy_line (check_of image))

-- ---- traces of which only a front was read

-- a front of whole records that is too long already
pub record TooLongFront (s front trace : List ℕ) : Type 0 where
  pub rest : List ℕ
  pub is : trace ≡ front ++ rest
  pub whole : length front % record_length ≡ 0
  pub many : too_many (trace_figures s front).records ≡ true

-- what was read of each trace: all of it, or such a front
abbrev pub FrontsOf : List ℕ → List (List ℕ) → List (List ℕ) → Type 0
FrontsOf s [] [] = Unit {0}
FrontsOf s [] (t ∷ ts) = ⊥
FrontsOf s (x ∷ xs) [] = ⊥
FrontsOf s (x ∷ xs) (t ∷ ts) = ((t ≡ x) ⊎ TooLongFront s x t) × FrontsOf s xs ts
