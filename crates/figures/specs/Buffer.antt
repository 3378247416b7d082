-- What is written behind a line's first field, and how much room it needs.
use Rattle.std.specs.Prelude.{ℕ, ◌+◌, ◌*◌, List, [], ◌∷◌, ◌++◌, slice_index}
use Rattle.image.specs.Limits.{container_limit}
use Rattle.listing.specs.Lines.{newline, leading}
use Rattle.listing.specs.Buffer.{field_limit}
use Rattle.figures.specs.Figures.{Figures, count_limit}
use Rattle.figures.specs.Lines.{count_fields, alert_fields, figure_fields}

-- the fields of the counts
unfoldable pub counts_text : List ℕ → List ℕ
counts_text counts = leading (count_fields (λ k. slice_index counts k))

-- the fields of the containers, by the alerts of each
unfoldable pub alerted_text : List ℕ → List ℕ
alerted_text alerted = leading (alert_fields (λ c. slice_index alerted c))

-- all that stands behind the name
unfoldable pub figures_text : Figures → List ℕ
figures_text f = leading (figure_fields f) ++ (newline ∷ [])

-- of the counts
abbrev pub counts_limit : ℕ
counts_limit = field_limit * count_limit

-- of the fields of the containers
abbrev pub alerted_limit : ℕ
alerted_limit = 2 * field_limit * container_limit

-- of what stands behind the name: counts, rate, containers, byte 10
abbrev pub figures_limit : ℕ
figures_limit = counts_limit + 2 * field_limit + alerted_limit + 1
