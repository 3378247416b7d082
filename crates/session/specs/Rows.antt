-- Rows of the session, as numbers and as what they say (the paper, "Session").
use Rattle.std.specs.Prelude.{ℕ, ◌+◌, ◌*◌, ◌≤◌, ◌≡◌, Bool, true, cond, ◌&&◌, ◌||◌, List, [], ◌∷◌, ◌++◌, eqb, ltb, length, get_or, take, drop, replicate}
use Rattle.rules.specs.Rules.{normal}
use Rattle.rules.specs.Answers.{mixture_limit}
use Rattle.rule_words.specs.Words.{rule_width, rule_of, words_of, all_zero, kept_well}
use Rattle.image.specs.Limits.{user_limit, is_free, is_process, used_kind}
use Rattle.session.specs.Limits.{row_width, user_width, users_at, kind_at, tag_at, permit_at, run_at, behalf_at, nobody, declared_at, user_rule_at, declared}

-- ---- a container row

-- what the row of a container in use says; the last is on whose behalf a process runs: the number of the user, or nobody
pub record Row : Type 0 where
  pub kind : ℕ
  pub tag : ℕ
  pub permit : List ℕ
  pub run : List ℕ
  pub behalf : ℕ

-- the numbers of a row in use
unfoldable pub row_words : Row → List ℕ
row_words w = w.kind ∷ w.tag ∷ (words_of w.permit ++ (words_of w.run ++ (w.behalf ∷ [])))

-- "a free .. row is all 0"
unfoldable pub free_words : List ℕ
free_words = replicate row_width 0

unfoldable pub permit_words : List ℕ → List ℕ
permit_words ws = take rule_width (drop permit_at ws)

unfoldable pub run_words : List ℕ → List ℕ
run_words ws = take rule_width (drop run_at ws)

-- what the numbers of a row say
unfoldable pub row_of : List ℕ → Row
row_of ws =
    record {
      kind = get_or ws kind_at 0;
      tag = get_or ws tag_at 0;
      permit = rule_of (permit_words ws);
      run = rule_of (run_words ws);
      behalf = get_or ws behalf_at 0;
    }

-- "10 covers any value but these (0 to 15 or 65535 in a process)" (change request No. 5)
unfoldable pub behalf_good : ℕ → ℕ → Bool
behalf_good kind n = eqb n nobody || (is_process kind && ltb n user_limit)

-- a container row is as "Session" says; the tag is any number
unfoldable pub container_row_good : List ℕ → Bool
container_row_good ws =
    cond (is_free (get_or ws kind_at 0))
    (all_zero ws)
    (used_kind (get_or ws kind_at 0)
    && (kept_well (permit_words ws) && (kept_well (run_words ws) && behalf_good (get_or ws kind_at 0) (get_or ws behalf_at 0))))

-- the permit rule and the run rule have one mixture each
unfoldable pub singles : List ℕ → Bool
singles ws = eqb (get_or ws permit_at 0) 1 && eqb (get_or ws run_at 0) 1

-- a row in use as "Session" says: "0 to 8 mixtures", "rules in normal form"
pub record InUse (w : Row) : Type 0 where
  pub used : used_kind w.kind ≡ true
  pub permit_short : length w.permit ≤ mixture_limit
  pub permit_normal : normal w.permit ≡ w.permit
  pub run_short : length w.run ≤ mixture_limit
  pub run_normal : normal w.run ≡ w.run
  pub behalf_kept : behalf_good w.kind w.behalf ≡ true

-- ---- a user row

-- the numbers of a declared user's row
unfoldable pub user_words : List ℕ → List ℕ
user_words r = declared ∷ words_of r

-- "an .. undeclared row is all 0"
unfoldable pub undeclared_words : List ℕ
undeclared_words = replicate user_width 0

unfoldable pub is_declared : List ℕ → Bool
is_declared ws = eqb (get_or ws declared_at 0) declared

unfoldable pub user_rule_words : List ℕ → List ℕ
user_rule_words ws = take rule_width (drop user_rule_at ws)

-- a declared user's rule
unfoldable pub user_rule_of : List ℕ → List ℕ
user_rule_of ws = rule_of (user_rule_words ws)

-- a user row is as "Session" says
unfoldable pub user_row_good : List ℕ → Bool
user_row_good ws = cond (eqb (get_or ws declared_at 0) 0) (all_zero ws) (is_declared ws && kept_well (user_rule_words ws))

-- ---- rows in a session

-- the row of container c
unfoldable pub container_row : List ℕ → ℕ → List ℕ
container_row s c = take row_width (drop (c * row_width) s)

-- the row of user u
unfoldable pub user_row : List ℕ → ℕ → List ℕ
user_row s u = take user_width (drop (users_at + u * user_width) s)

-- the session with the numbers ws as the row of container c
unfoldable pub put_row : List ℕ → ℕ → List ℕ → List ℕ
put_row s c ws = take (c * row_width) s ++ (ws ++ drop row_width (drop (c * row_width) s))
