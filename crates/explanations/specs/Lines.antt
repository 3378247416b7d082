-- The lines that explain a record which is answered by an alert or blocked, "spaced and ended as in the listing". Numbers of records count
-- from 0, and are shown as steps, which count from 1.
use Rattle.std.specs.Prelude.{ℕ, Bool, cond, List, [], ◌∷◌, ◌++◌, map, eqb}
use Rattle.fields.specs.Ascii.{ascii}
use Rattle.lists.specs.Lists.{elem}
use Rattle.answers.specs.Tallies.{more}
use Rattle.listing.specs.Text.{decimal, hexadecimal}
use Rattle.listing.specs.Lines.{line}

-- ---- steps

-- the step of record number n
unfoldable pub step_field : ℕ → List ℕ
step_field n = decimal (more n)

unfoldable pub step_fields : List ℕ → List (List ℕ)
step_fields ns = map step_field ns

-- ---- what is explained

-- `alert STEP CONTAINER`, or `blocked STEP CONTAINER`: record number n, whose receiver is c
unfoldable pub found_line : Bool → ℕ → ℕ → List ℕ
found_line blocked n c = line (cond blocked (ascii "blocked") (ascii "alert")) (step_field n ∷ decimal c ∷ [])

-- ---- the rule that forbids

-- by the number of its origin: the container's own permit rule; the rule of the user who made the file; of the last exec, its user's rule,
-- and a run rule
abbrev pub own_origin : ℕ
own_origin = 0

abbrev pub made_origin : ℕ
made_origin = 1

abbrev pub user_origin : ℕ
user_origin = 2

unfoldable pub origin_word : ℕ → List ℕ
origin_word origin =
    cond (eqb origin own_origin) (ascii "own")
    (cond (eqb origin made_origin) (ascii "made")
    (cond (eqb origin user_origin) (ascii "user") (ascii "run")))

-- record number n of the new file or the exec, and the user, or the file where the chain of a run rule begins
unfoldable pub origin_fields : ℕ → ℕ → ℕ → List (List ℕ)
origin_fields origin n holder = cond (eqb origin own_origin) [] (step_field n ∷ decimal holder ∷ [])

-- the fields before the steps of a chain
unfoldable pub rule_fields : ℕ → ℕ → ℕ → ℕ → ℕ → List (List ℕ)
rule_fields origin rule owner n holder = origin_word origin ∷ decimal rule ∷ decimal owner ∷ origin_fields origin n holder

-- `rule own RULE OWNER`, `rule made RULE OWNER STEP USER`, `rule user RULE OWNER STEP USER`, `rule run RULE OWNER STEP FILE [STEP ..]`
unfoldable pub rule_line : ℕ → ℕ → ℕ → ℕ → ℕ → List ℕ → List ℕ
rule_line origin rule owner n holder chain = line (ascii "rule") (rule_fields origin rule owner n holder ++ step_fields chain)

-- ---- what its mixtures lack

-- `lacks MIXTURE ATOM`
unfoldable pub lacks_line : ℕ → ℕ → List ℕ
lacks_line mixture atom = line (ascii "lacks") (hexadecimal mixture ∷ decimal atom ∷ [])

-- the fields before the steps
unfoldable pub way_fields : ℕ → ℕ → List (List ℕ)
way_fields atom file = decimal atom ∷ decimal file ∷ []

-- `way ATOM FILE [STEP ..]`
unfoldable pub way_line : ℕ → ℕ → List ℕ → List ℕ
way_line atom file chain = line (ascii "way") (way_fields atom file ++ step_fields chain)

-- The lines of mixtures, where `lacked` is the atom that each lacks and `told` are those whose way is told already: each has its line, and
-- directly behind it stands the way of its atom, unless an earlier mixture lacked the same.
unfoldable pub mixture_lines : (ℕ → ℕ) → (ℕ → List ℕ) → List ℕ → List ℕ → List ℕ
mixture_lines lacked way told [] = []
mixture_lines lacked way told (m ∷ ms) =
    (lacks_line m (lacked m) ++ cond (elem (lacked m) told) [] (way (lacked m))) ++ mixture_lines lacked way (told ++ (lacked m ∷ [])) ms

-- ---- the last line

-- `total RECORDS explained COUNT`
unfoldable pub explained_total_line : ℕ → ℕ → List ℕ
explained_total_line records explained = line (ascii "total") (decimal records ∷ ascii "explained" ∷ decimal explained ∷ [])
