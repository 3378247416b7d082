-- Judgements by computation.
use mathlib.Core.Path.{◌≡◌, refl}
use mathlib.Core.Bool.{true}
use mathlib.Core.List.{[], ◌∷◌}
use Rattle.rules.specs.Sets.{atom, holds}
use Rattle.lists.specs.Conditions.{first_failed}
use Rattle.lists.specs.Lists.{every}
use Rattle.matrix.specs.Flows.{rows_within, count_good, matrix_good, has, subject_carries, granted, within, composed, Matrix, matrix_of, well_formed}
use Rattle.lists.specs.Counting.{some_below, all_below}
use Rattle.matrix.specs.Verdicts.{ungranted, ungranted_from, consistent}
use Rattle.matrix.specs.Rows.{bit_at}
use Rattle.withdrawals.specs.Judgements.{same_counts, comparable, rows_held, none_added, all_kept, stays_consistent, withdrawn, with_right}
use Rattle.withdrawals.specs.Judgements.{read_needed, write_needed, subject_needed, minimal, judgement_conditions, judgement_of}

-- ---- a consistent matrix, of which a smaller one is accepted though more rights would also be consistent

abbrev old : Matrix
old = matrix_of (3 ∷ 5 ∷ []) (7 ∷ 7 ∷ []) 3

abbrev nothing : Matrix
nothing = matrix_of (0 ∷ 0 ∷ []) (0 ∷ 0 ∷ []) 3

pub old_consistent : consistent old.reads old.writes old.objects ≡ true
unfolding consistent some_below ungranted_from ungranted composed within granted subject_carries has atom
old_consistent = refl

pub smaller_accepted : judgement_of old nothing (matrix_of (3 ∷ 5 ∷ []) (7 ∷ 4 ∷ []) 3) ≡ 0
unfolding judgement_of judgement_conditions first_failed comparable well_formed same_counts matrix_good rows_within every count_good has atom
    none_added all_kept rows_held all_below holds stays_consistent consistent some_below ungranted_from ungranted composed within granted
    subject_carries minimal subject_needed read_needed write_needed withdrawn with_right bit_at
smaller_accepted = refl

-- ---- document 004's Table 1: five subjects, seven objects

abbrev table : Matrix
table = matrix_of (3 ∷ 3 ∷ 28 ∷ 28 ∷ 32 ∷ []) (28 ∷ 28 ∷ 96 ∷ 96 ∷ 0 ∷ []) 7

abbrev nothing_of_it : Matrix
nothing_of_it = matrix_of (0 ∷ 0 ∷ 0 ∷ 0 ∷ 0 ∷ []) (0 ∷ 0 ∷ 0 ∷ 0 ∷ 0 ∷ []) 7

-- its solution: the six rights to read that s3 and s4 have
abbrev six_withdrawn : Matrix
six_withdrawn = matrix_of (3 ∷ 3 ∷ 0 ∷ 0 ∷ 32 ∷ []) (28 ∷ 28 ∷ 96 ∷ 96 ∷ 0 ∷ []) 7

-- against confidentiality vulnerabilities alone: the rights to read that s1, s2 and s5 have; that of s5 may return
abbrev five_withdrawn : Matrix
five_withdrawn = matrix_of (0 ∷ 0 ∷ 28 ∷ 28 ∷ 0 ∷ []) (28 ∷ 28 ∷ 96 ∷ 96 ∷ 0 ∷ []) 7

-- against integrity vulnerabilities alone: the rights to write that s3 and s4 have
abbrev four_withdrawn : Matrix
four_withdrawn = matrix_of (3 ∷ 3 ∷ 28 ∷ 28 ∷ 32 ∷ []) (28 ∷ 28 ∷ 0 ∷ 0 ∷ 0 ∷ []) 7

-- one after the other, all nine
abbrev nine_withdrawn : Matrix
nine_withdrawn = matrix_of (0 ∷ 0 ∷ 28 ∷ 28 ∷ 0 ∷ []) (28 ∷ 28 ∷ 0 ∷ 0 ∷ 0 ∷ []) 7

-- with nothing withdrawn it is not consistent
pub table-judged :
    (judgement_of table nothing_of_it table ≡ 3)
    × (judgement_of table nothing_of_it six_withdrawn ≡ 0)
    × (judgement_of table nothing_of_it five_withdrawn ≡ 4)
    × (judgement_of table nothing_of_it four_withdrawn ≡ 0)
    × (judgement_of table nothing_of_it nine_withdrawn ≡ 4)
unfolding judgement_of judgement_conditions first_failed comparable well_formed same_counts matrix_good rows_within every count_good has atom
    none_added all_kept rows_held all_below holds stays_consistent consistent some_below ungranted_from ungranted composed within granted
    subject_carries minimal subject_needed read_needed write_needed withdrawn with_right bit_at
table-judged = (refl, refl, refl, refl, refl)
