-- The lines of a month, "spaced and ended as in the listing" (change request No. 6).
use Rattle.std.specs.Prelude.{ℕ, zero, suc, ◌*◌, ◌/◌, ◌%◌, cond, List, [], ◌∷◌, ◌++◌, ◌==◌}
use Rattle.fields.specs.Ascii.{ascii}
use Rattle.answers.specs.Refusals.{trace_length}
use Rattle.image.specs.Limits.{container_limit}
use Rattle.listing.specs.Text.{digits, decimal}
use Rattle.listing.specs.Lines.{line}
use Rattle.figures.specs.Figures.{Figures, count_limit, accepted_in, alerts_in, too_many}

-- "named `00.bin` upward"
unfoldable pub name_of : ℕ → List ℕ
name_of n = digits 10 2 n ++ ascii ".bin"

-- "the rate (1,000 times the alerts by the accepted steps, whole quotient and remainder as two fields)"; "With no accepted step it
-- prints `none` for the rate."
unfoldable pub rate_fields : ℕ → ℕ → List (List ℕ)
rate_fields alerts accepted =
    cond (accepted == 0) (ascii "none" ∷ [])
    (decimal (1000 * alerts / accepted) ∷ decimal (1000 * alerts % accepted) ∷ [])

-- "number and alerts of each container number that alerted": of container c with so many alerts
unfoldable pub container_fields : ℕ → ℕ → List (List ℕ)
container_fields c alerts = cond (alerts == 0) [] (decimal c ∷ decimal alerts ∷ [])

-- the fields of n numbers from k on, one behind the other
unfoldable pub fields_from : (ℕ → List (List ℕ)) → ℕ → ℕ → List (List ℕ)
fields_from fields k zero = []
fields_from fields k (suc n) = fields k ++ fields_from fields (suc k) n

-- "accepted steps, alerts, refused steps", and "right behind" the blocked ones
unfoldable pub count_fields : (ℕ → ℕ) → List (List ℕ)
count_fields counts = fields_from (λ k. decimal (counts k) ∷ []) 0 count_limit

-- "rising"
unfoldable pub alert_fields : (ℕ → ℕ) → List (List ℕ)
alert_fields alerts_at = fields_from (λ c. container_fields c (alerts_at c)) 0 container_limit

-- the fields behind the name
unfoldable pub figure_fields : Figures → List (List ℕ)
figure_fields f = count_fields f.counts ++ (rate_fields (alerts_in f) (accepted_in f) ++ alert_fields f.alerts_at)

unfoldable pub figures_line : List ℕ → Figures → List ℕ
figures_line name f = line name (figure_fields f)

-- "19 when a trace has over 1,000,000 records; .. only its name and 19 are printed."
unfoldable pub trace_line : ℕ → Figures → List ℕ
trace_line n f = cond (too_many f.records) (line (name_of n) (decimal trace_length ∷ [])) (figures_line (name_of n) f)

-- "name (`total` in the last)"
unfoldable pub month_total_line : Figures → List ℕ
month_total_line f = figures_line (ascii "total") f
