-- The session that a policy starts, and what the start answers (the paper, "Session").
use Rattle.std.specs.Prelude.{ℕ, zero, suc, ◌^◌, Bool, cond, List, [], ◌∷◌, ◌++◌, map, eqb, length, replicate}
use Rattle.lists.specs.Conditions.{Condition, ◌or_refuse◌, first_failed}
use Rattle.answers.specs.Refusals.{lent_length}
use Rattle.image.specs.Limits.{no_atom, container_limit, user_limit}
use Rattle.image.specs.Policy.{Policy}
use Rattle.image.specs.Image.{policy_in, image_conditions}
use Rattle.image.specs.Normal.{Place, Meaning, meaning}
use Rattle.session.specs.Limits.{session_length, row_width, user_width, nobody}
use Rattle.session.specs.Rows.{Row, row_words, user_words}

-- "At start a file holds its atom; the other containers hold nothing": they name none
unfoldable pub start_tag : ℕ → ℕ
start_tag atom = cond (eqb atom no_atom) 0 (2 ^ atom)

-- a container at the start, its rules in normal form; "65535 for an initial process, a file or a volatile"
unfoldable pub start_row : Place → Row
start_row p = record { kind = p.kind; tag = start_tag p.atom; permit = p.permit; run = p.run; behalf = nobody }

unfoldable pub place_words : Place → List ℕ
place_words p = row_words (start_row p)

-- n rows of w numbers: those given, and then rows that are all 0
unfoldable pub filled : ℕ → ℕ → List (List ℕ) → List ℕ
filled w zero rows = []
filled w (suc n) [] = replicate w 0 ++ filled w n []
filled w (suc n) (r ∷ rows) = r ++ filled w n rows

-- "256 rows .., then 16 user rows of 10"
unfoldable pub session_of : Meaning → List ℕ
session_of m =
    filled row_width container_limit (map place_words m.places) ++ filled user_width user_limit (map user_words m.users)

-- the session that a policy starts
unfoldable pub start_of : Policy → List ℕ
start_of p = session_of (meaning p)

-- "9 session of wrong length"
unfoldable pub session_length_good : List ℕ → Bool
session_length_good session = eqb (length session) session_length

-- "In this order: 9 .. 1 .."
unfoldable pub start_conditions : List ℕ → List ℕ → List Condition
start_conditions image session = (session_length_good session or_refuse lent_length) ∷ image_conditions image

-- the refusal of a start; 0 if accepted
unfoldable pub start_answer : List ℕ → List ℕ → ℕ
start_answer image session = first_failed (start_conditions image session)

-- the session afterwards, whatever stood there; "A refusal .. changes no lent memory"
unfoldable pub start_effect : List ℕ → List ℕ → List ℕ
start_effect image session = cond (eqb (start_answer image session) 0) (start_of (policy_in image)) session
