-- The lines, computed from the definitions: those of `crates/explain/stdout`.
use mathlib.Core.Path.{◌≡◌, refl}
use mathlib.Core.Bool.{true, false}
use mathlib.Core.List.{[], ◌∷◌}
use Rattle.fields.specs.Ascii.{ascii}
use Rattle.lists.specs.Lists.{elem}
use Rattle.listing.specs.Text.{digit, digits, decimal_in, decimal, hexadecimal}
use Rattle.listing.specs.Lines.{line}
use Rattle.explanations.specs.Lines.{
  step_field,
  step_fields,
  found_line,
  origin_word,
  origin_fields,
  rule_fields,
  rule_line,
  lacks_line,
  way_fields,
  way_line,
  mixture_lines,
  explained_total_line,
}

-- record number 2, whose receiver is 0; the fifth record, blocked
pub alert_line : found_line false 2 0 ≡ ascii "alert 3 0\n"
unfolding found_line step_field line decimal decimal_in digit ascii
alert_line = refl

pub blocked_line : found_line true 4 4 ≡ ascii "blocked 5 4\n"
unfolding found_line step_field line decimal decimal_in digit ascii
blocked_line = refl

-- a rule of each origin
pub own_line : rule_line 0 2 65535 0 4 [] ≡ ascii "rule own 2 65535\n"
unfolding rule_line rule_fields origin_word origin_fields step_fields line decimal decimal_in digit ascii
own_line = refl

pub made_line : rule_line 1 3 65535 5 0 [] ≡ ascii "rule made 3 65535 6 0\n"
unfolding rule_line rule_fields origin_word origin_fields step_field step_fields line decimal decimal_in digit ascii
made_line = refl

pub user_line : rule_line 2 3 65535 7 0 [] ≡ ascii "rule user 3 65535 8 0\n"
unfolding rule_line rule_fields origin_word origin_fields step_field step_fields line decimal decimal_in digit ascii
user_line = refl

pub run_line : rule_line 3 1 1 13 3 (11 ∷ 12 ∷ []) ≡ ascii "rule run 1 1 14 3 12 13\n"
unfolding rule_line rule_fields origin_word origin_fields step_field step_fields line decimal decimal_in digit ascii
run_line = refl

-- what a mixture lacks, and how that came
pub lacks_line_lem : lacks_line 34359738370 0 ≡ ascii "lacks 0000000800000002 0\n"
unfolding lacks_line line hexadecimal digits decimal decimal_in digit ascii
lacks_line_lem = refl

pub way_line_lem : way_line 1 1 (0 ∷ 2 ∷ []) ≡ ascii "way 1 1 1 3\n"
unfolding way_line way_fields step_field step_fields line decimal decimal_in digit ascii
way_line_lem = refl

-- three mixtures, of which the last lacks what the first does: its way is told once
pub told_once : mixture_lines (λ m. m) (λ k. way_line k k []) [] (1 ∷ 2 ∷ 1 ∷ [])
    ≡ ascii "lacks 0000000000000001 1\nway 1 1\nlacks 0000000000000002 2\nway 2 2\nlacks 0000000000000001 1\n"
unfolding mixture_lines lacks_line way_line way_fields step_fields elem line hexadecimal digits decimal decimal_in digit ascii
told_once = refl

pub total_line : explained_total_line 15 7 ≡ ascii "total 15 explained 7\n"
unfolding explained_total_line line decimal decimal_in digit ascii
total_line = refl
