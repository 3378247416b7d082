-- THE SESSION: what is proved of it. The theorems on images are stated over the bytes of an image that is not refused.
use Prim.Native.Nat.{ℕ, ◌≤◌, ◌<◌}
use mathlib.Core.Path.{◌≡◌, sym, ◌∙◌}
use native.Mathlib.Omega.{arith}
use borrow.Author.Tests.{ne_eqb}
use mathlib.Core.Bool.{true, false}
use mathlib.Core.List.{List, [], ◌∷◌}
use mathlib.Core.Logic.{◌↔◌, ◌⊎◌, ◌≢◌}
use lib.ListN.{length}
use Rattle.rules.specs.Rules.{normal}
use Rattle.rules.specs.Answers.{mixture_limit}
use Rattle.image.specs.Limits.{container_limit, user_limit}
use Rattle.fields.specs.Bytes.{Bytes}
use Rattle.lists.specs.Lists.{elem}
use Rattle.lists.specs.Conditions.{numbers_of}
use Rattle.lists.proofs.Conditions.{given_among}
use Rattle.answers.specs.Refusals.{image_length, sections, record_count, rule_record, container_record, user_rule, lent_length}
use Rattle.image.specs.Image.{policy_in, image_conditions, check_of}
use Rattle.image.specs.Normal.{owners_at, normal_image}
use Rattle.session.specs.Limits.{session_length, row_width, user_width}
use Rattle.session.specs.Rows.{Row, row_words, free_words, container_row_good, InUse, user_words, undeclared_words, user_row_good, container_row, user_row}
use Rattle.session.specs.Session.{start_of, session_length_good, start_conditions, start_answer, start_effect}
use Rattle.session.proofs.GoodRows.{row_says, says_row, user_says, says_user}
use Rattle.image.proofs.Decode.{accepted_sound}
use Rattle.session.proofs.Canonical.{normal_check, normal_same_start, normal_same_owners, same_start, same_owners, same_image, started_effect}
use Rattle.session.proofs.StartRefusals.{refused_9, given_by_image}
use Rattle.session.proofs.StartRows.{start_length, start_rows_good, start_users_good}

-- ---- REFUSALS: 9 exactly for a session of the wrong length; every other number, 0 too, exactly as the image's check gives it

module _ (i s : List ℕ) where
  pub start_9 : (start_answer i s ≡ lent_length) ↔ (session_length_good s ≡ false)
  start_9 = refused_9 i s

  pub start_by_image : (n : ℕ) → n ≢ lent_length → (start_answer i s ≡ n) ↔ ((session_length_good s ≡ true) × (check_of i ≡ n))
  start_by_image = given_by_image i s

  pub start_accepted : (start_answer i s ≡ 0) ↔ ((session_length_good s ≡ true) × (check_of i ≡ 0))
  start_accepted = given_by_image i s 0 (λ e. omega arith)

  pub start_no_other : elem (start_answer i s) (0 ∷ lent_length ∷ image_length ∷ sections ∷ record_count ∷ rule_record ∷ container_record ∷ user_rule ∷ []) ≡ true
  unfolding start_answer start_conditions image_conditions numbers_of
  start_no_other = given_among (start_conditions i s)

  -- "A refusal .. changes no lent memory"
  pub start_refused : start_answer i s ≢ 0 → start_effect i s ≡ s
  unfolding start_effect
  start_refused d = rw (ne_eqb (start_answer i s) 0 d)

-- ---- CANONICITY

-- two images that are not refused have the same normal image exactly when they start equal sessions and have the same owner at
-- every use of a rule
pub canonical : (i j : List ℕ) → Bytes i → Bytes j → check_of i ≡ 0 → check_of j ≡ 0
    → (normal_image (policy_in i) ≡ normal_image (policy_in j)) ↔ ((start_of (policy_in i) ≡ start_of (policy_in j)) × (owners_at (policy_in i) ≡ owners_at (policy_in j)))
canonical i j b d e f =
    let h = accepted_sound i b e in
    let k = accepted_sound j d f in (
      λ z. (same_start (policy_in i) (policy_in j) h k z, same_owners (policy_in i) (policy_in j) h k z),
      λ z. same_image (policy_in i) (policy_in j) h k z.0 z.1,
    )

-- the same of the numbers that the start leaves in two lent sessions of the right length, whatever stood there
pub canonical_effect : (i j s t : List ℕ) → Bytes i → Bytes j → check_of i ≡ 0 → check_of j ≡ 0 → length s ≡ session_length → length t ≡ session_length
    → (normal_image (policy_in i) ≡ normal_image (policy_in j)) ↔ ((start_effect i s ≡ start_effect j t) × (owners_at (policy_in i) ≡ owners_at (policy_in j)))
canonical_effect i j s t b d e f l m = rw (started_effect i s e l, started_effect j t f m) (canonical i j b d e f)

-- the normal image has the same owner at every use of a rule
pub normal_owners : (i : List ℕ) → Bytes i → check_of i ≡ 0 → owners_at (policy_in (normal_image (policy_in i))) ≡ owners_at (policy_in i)
normal_owners i b e = normal_same_owners (policy_in i) (accepted_sound i b e)

-- the normal image starts the same session
pub normal_starts : (i : List ℕ) → Bytes i → check_of i ≡ 0 → start_of (policy_in (normal_image (policy_in i))) ≡ start_of (policy_in i)
normal_starts i b e = normal_same_start (policy_in i) (accepted_sound i b e)

pub normal_effect_lem : (i s : List ℕ) → Bytes i → check_of i ≡ 0 → length s ≡ session_length → start_effect (normal_image (policy_in i)) s ≡ start_effect i s
normal_effect_lem i s b e l = started_effect (normal_image (policy_in i)) s (normal_check (policy_in i) (accepted_sound i b e)) l ∙ normal_starts i b e ∙ sym (started_effect i s e l)

-- ---- THE STARTED SESSION

-- a started session has 5,536 numbers, and every row of it is as "Session" says
pub started_length : (i : List ℕ) → Bytes i → check_of i ≡ 0 → length (start_of (policy_in i)) ≡ session_length
started_length i b e = start_length (policy_in i) (accepted_sound i b e)

pub started_rows : (i : List ℕ) → Bytes i → check_of i ≡ 0 → (c : ℕ) → c < container_limit → container_row_good (container_row (start_of (policy_in i)) c) ≡ true
started_rows i b e c h = start_rows_good (policy_in i) (accepted_sound i b e) c h

pub started_users : (i : List ℕ) → Bytes i → check_of i ≡ 0 → (u : ℕ) → u < user_limit → user_row_good (user_row (start_of (policy_in i)) u) ≡ true
started_users i b e u h = start_users_good (policy_in i) (accepted_sound i b e) u h

-- ---- THE TESTS OF A ROW

-- they pass exactly a free row and the numbers of a row in use
pub row_exactly : (ws : List ℕ) → length ws ≡ row_width → (container_row_good ws ≡ true) ↔ ((ws ≡ free_words) ⊎ ((w : Row) × InUse w × (ws ≡ row_words w)))
row_exactly ws l = (row_says ws l, says_row ws)

-- and exactly an undeclared row and the numbers of a declared user's row
pub user_exactly : (ws : List ℕ) → length ws ≡ user_width
    → (user_row_good ws ≡ true) ↔ ((ws ≡ undeclared_words) ⊎ ((r : List ℕ) × (length r ≤ mixture_limit) × (normal r ≡ r) × (ws ≡ user_words r)))
user_exactly ws l = (user_says ws l, says_user ws)
