-- When a trace is too long, and that no other has the line of one that is.
use Rattle.std.proofs.Common.{◌≡◌, ℕ, ◌+◌, ◌<◌, true, false, ◌↔◌, List, [], ◌∷◌, ◌++◌, length, ap, arith, length-append, ltb-true, lt-ltb}
use Rattle.answers.specs.Refusals.{trace_length}
use Rattle.records.specs.Traces.{trace_records}
use Rattle.monitor.specs.Runs.{run_answers}
use Rattle.listing.specs.Text.{digit, decimal_in, decimal}
use Rattle.listing.specs.Lines.{space, newline, line}
use Rattle.listing.proofs.NumberTexts.{decimal_some}
use Rattle.monitor.proofs.TraceCuts.{answers_length}
use Rattle.figures.specs.Figures.{Figures, accepted_in, alerts_in, figures_of, record_limit, too_many}
use Rattle.figures.specs.Lines.{name_of, rate_fields, fields_from, count_fields, alert_fields, figure_fields, figures_line, trace_line}
use Rattle.figures.specs.Months.{trace_figures}

pub many_records : (s t : List ℕ) → (too_many (trace_figures s t).records ≡ true) ↔ (record_limit < length (trace_records t))
unfolding too_many trace_figures figures_of
many_records s t = (
  λ e. omega (arith, ltb-true record_limit (length (run_answers s (trace_records t))) e, answers_length s (trace_records t)),
  λ h. lt-ltb record_limit (length (run_answers s (trace_records t))) (omega (arith, answers_length s (trace_records t))),
)

pub long_line : (n : ℕ) (f : Figures) → too_many f.records ≡ true → trace_line n f ≡ line (name_of n) (decimal trace_length ∷ [])
unfolding trace_line
long_line n f k = rw k

-- a line is longer than its first field, and one of three fields more by at least seven bytes
line_least : (f : List ℕ) (gs : List (List ℕ)) → length f < length (line f gs)
unfolding line
line_least f [] = omega (arith, length-append f (newline ∷ []))
line_least f (g ∷ gs) = omega (arith, length-append f (space ∷ line g gs))

line_longer : (f a b c : List ℕ) (gs : List (List ℕ)) → 0 < length a → 0 < length b → 0 < length c → length f + 6 < length (line f (a ∷ b ∷ c ∷ gs))
unfolding line
line_longer f a b c gs x y z =
    omega (
      arith,
      x,
      y,
      z,
      length-append f (space ∷ (a ++ (space ∷ (b ++ (space ∷ line c gs))))),
      length-append a (space ∷ (b ++ (space ∷ line c gs))),
      length-append b (space ∷ line c gs),
      line_least c gs,
    )

short : (f : List ℕ) → length (line f (decimal trace_length ∷ [])) ≡ length f + 4
unfolding line decimal decimal_in digit
short f = length-append f (space ∷ (decimal trace_length ++ (newline ∷ [])))

pub figures_line_apart : (n : ℕ) (f : Figures) → too_many f.records ≡ false → trace_line n f ≡ line (name_of n) (decimal trace_length ∷ []) → ⊥
unfolding trace_line figures_line figure_fields count_fields fields_from
figures_line_apart n f k e =
    let fields : List (List ℕ) = decimal (f.counts 3) ∷ (rate_fields (alerts_in f) (accepted_in f) ++ alert_fields f.alerts_at) in
    let same : line (name_of n) (decimal (f.counts 0) ∷ decimal (f.counts 1) ∷ decimal (f.counts 2) ∷ fields) ≡ line (name_of n) (decimal trace_length ∷ []) = rw k at e in
    omega (
      arith,
      line_longer (name_of n) (decimal (f.counts 0)) (decimal (f.counts 1)) (decimal (f.counts 2)) fields (decimal_some (f.counts 0)) (decimal_some (f.counts 1)) (decimal_some (f.counts 2)),
      ap length same,
      short (name_of n),
    )
