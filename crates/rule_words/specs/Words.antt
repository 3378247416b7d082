-- A rule as 9 words: "count, 8 mixtures" (the paper, "Session").
use Rattle.std.specs.Prelude.{ℕ, ◌+◌, Bool, true, ◌&&◌, List, [], ◌∷◌, eqb, leb, length, get_or, take, drop}
use Rattle.rules.specs.Rules.{normal}
use Rattle.lists.specs.Lists.{same_list}
use Rattle.rules.specs.Answers.{mixture_limit, padded}

abbrev pub rule_width : ℕ
rule_width = 9

-- the rule that the words give: as many mixtures as the count says
unfoldable pub rule_of : List ℕ → List ℕ
rule_of ws = take (get_or ws 0 0) (drop 1 ws)

-- the words of a rule of at most 8 mixtures: "Unused words are 0"
unfoldable pub words_of : List ℕ → List ℕ
words_of r = length r ∷ padded r

-- ---- "Unused words are 0, rules in normal form"

-- r is its own normal form
unfoldable pub is_normal : List ℕ → Bool
is_normal r = same_list (normal r) r

-- all of the words are 0
unfoldable pub all_zero : List ℕ → Bool
all_zero [] = true
all_zero (x ∷ ws) = eqb x 0 && all_zero ws

-- the words are a rule as a session keeps it: at most 8 mixtures, the words behind them 0, in normal form
unfoldable pub kept_well : List ℕ → Bool
kept_well ws = leb (get_or ws 0 0) mixture_limit && (all_zero (drop (get_or ws 0 0 + 1) ws) && is_normal (rule_of ws))
