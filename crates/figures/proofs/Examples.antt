-- Lines and a month, every byte, computed from the definitions. The trace is the paper's: five steps accepted, the fourth an alert at
-- container 1, the sixth refused.
use Rattle.std.proofs.Common.{◌≡◌, ℕ, ◌+◌, cond, eqb, [], ◌∷◌, ◌++◌, get_or, replicate, refl, eq-eqb}
use Rattle.fields.specs.Ascii.{ascii}
use Rattle.answers.specs.Tallies.{count_of}
use Rattle.image.specs.Image.{check_of}
use Rattle.session.specs.Limits.{session_length}
use Rattle.session.proofs.Canonical.{effect_start}
use Rattle.monitor.proofs.PaperTrace.{image, read_image, trace_bytes, given, answered}
use Rattle.listing.specs.Text.{digit, digits, decimal_in, decimal}
use Rattle.listing.specs.Lines.{line}
use Rattle.figures.specs.Figures.{Figures, test_at, alert_at, figures_of, no_figures, sum_of, too_many}
use Rattle.figures.specs.Lines.{name_of, rate_fields, container_fields, fields_from, count_fields, alert_fields, figure_fields, figures_line, trace_line, month_total_line}
use Rattle.figures.specs.Months.{trace_figures, counting, trace_lines, total_figures, traces_text, month_text}

-- ---- lines

-- so many of each, alerts at containers 0, 7 and 255
abbrev shown : ℕ → ℕ → ℕ → ℕ → Figures
shown a l f b = record { records = a + f + b; counts = λ k. get_or (a ∷ l ∷ f ∷ b ∷ []) k 0; alerts_at = λ c. cond (eqb c 255) 1 (cond (eqb c 7) 12 (cond (eqb c 0) 3 0)) }

-- 16 alerts of 301 accepted steps: 16,000 is 53 times 301 and 47; containers rise, those without an alert are left out
pub containers_rise : trace_line 9 (shown 301 16 2 5) ≡ ascii "09.bin 301 16 2 5 53 47 0 3 7 12 255 1\n"
unfolding trace_line too_many figures_line figure_fields name_of rate_fields alert_fields count_fields fields_from container_fields line decimal decimal_in digits digit ascii
containers_rise = refl

pub no_step : trace_line 63 (figures_of []) ≡ ascii "63.bin 0 0 0 0 none\n"
unfolding trace_line too_many figures_of test_at count_of figures_line figure_fields name_of rate_fields alert_fields
    count_fields fields_from container_fields line decimal decimal_in digits digit ascii
no_step = refl

-- 1,000,000 records are shown, one more is 19
pub longest : trace_line 0 (shown 999993 16 2 5) ≡ ascii "00.bin 999993 16 2 5 0 16000 0 3 7 12 255 1\n"
unfolding trace_line too_many figures_line figure_fields name_of rate_fields alert_fields count_fields fields_from container_fields line decimal decimal_in digits digit ascii
longest = refl

pub too_long : trace_line 0 (shown 999993 16 2 6) ≡ ascii "00.bin 19\n"
unfolding trace_line too_many name_of line decimal decimal_in digits digit ascii
too_long = refl

-- ---- a month of the paper's trace twice

spelled : (trace_line 0 (figures_of given) ++ (trace_line 1 (figures_of given) ++ []))
    ++ month_total_line (sum_of (counting (figures_of given)) (sum_of (counting (figures_of given)) no_figures))
    ≡ ascii "00.bin 5 1 1 0 200 0 1 1\n01.bin 5 1 1 0 200 0 1 1\ntotal 10 2 2 0 200 0 1 2\n"
unfolding trace_line too_many counting figures_of test_at count_of alert_at no_figures sum_of figures_line figure_fields month_total_line name_of rate_fields
    alert_fields count_fields fields_from container_fields line decimal decimal_in digits digit ascii
spelled = refl

pub month : month_text image (trace_bytes ∷ trace_bytes ∷ []) ≡ ascii "00.bin 5 1 1 0 200 0 1 1\n01.bin 5 1 1 0 200 0 1 1\ntotal 10 2 2 0 200 0 1 2\n"
unfolding month_text traces_text trace_lines total_figures trace_figures
month = rw (eq-eqb (check_of image) 0 (effect_start image (replicate session_length 0) read_image.unrefused).0, answered) spelled
