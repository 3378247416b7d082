-- The starred example of the matrix, by computation: document 000's matrix, read rows 5, 3, 2, write rows 1, 2, 10, 4 objects.
use Prim.Native.Nat.{ℕ}
use mathlib.Core.Path.{◌≡◌, refl}
use mathlib.Core.List.{List, [], ◌∷◌}
use Rattle.rules.specs.Sets.{atom}
use Rattle.lists.specs.Conditions.{first_failed}
use Rattle.lists.specs.Lists.{every}
use Rattle.matrix.specs.Flows.{rows_within, count_good, matrix_good, has, subject_carries, granted, within, composed}
use Rattle.lists.specs.Counting.{count_below, sum_below, some_below, least_below}
use Rattle.matrix.specs.Verdicts.{ungranted, ungranted_from, flow_count, first_source, first_target, consistent, judged_by, matrix_conditions, unless_refused, matrix_verdict}

abbrev reads : List ℕ
reads = 5 ∷ 3 ∷ 2 ∷ []

abbrev writes : List ℕ
writes = 1 ∷ 2 ∷ 10 ∷ []

-- "3 flows, first 0 to 3"
pub flows : matrix_verdict reads writes 4 ≡ record { number = 1; count = 3; source = 0; target = 3 }
unfolding matrix_verdict matrix_conditions first_failed unless_refused matrix_good rows_within every count_good has atom judged_by consistent some_below
    ungranted_from ungranted composed within granted subject_carries flow_count sum_below count_below first_source first_target least_below
flows = refl
