-- Contracts of this crate's private functions: the refusals that are tested before a meet is formed, and what is known then.
-- No public contract cites this file.
use Rattle.std.specs.Prelude.{ℕ, ◌+◌, ◌≤◌, ◌<◌, ◌≡◌, Bool, true, false, not, cond, ◌&&◌, ◌||◌, eqb, List, [], ◌∷◌, ◌++◌, length, get_or, take, drop}
use Rattle.std.proofs.Math.Option.{some}
use Rattle.std.specs.Int.Bits.{bit_or}
use Rattle.lists.specs.Conditions.{Condition, ◌or_refuse◌, first_failed}
use Rattle.answers.specs.Refusals.{row, over_limit}
use Rattle.answers.specs.declared.Answer.{Answer}
use Rattle.answers.specs.declared.Answer.TheVariants.{Given}
use Rattle.answers.specs.declared.Verdict.{Verdict}
use Rattle.answers.specs.declared.Verdict.TheVariants.{Quiet, Alert}
use Rattle.answers.specs.Answers.{received, blocked, refused}
use Rattle.rules.specs.Rules.{covers, no_position, cover_place, meet}
use Rattle.rules.specs.Placewise.{within, alike}
use Rattle.rules.specs.declared.Bounded.{Bounded}
use Rattle.image.specs.Limits.{container_limit, user_limit, process_kind, is_free, is_guarded}
use Rattle.rule_words.specs.Words.{rule_width, kept_well}
use Rattle.session.specs.Limits.{session_length, kind_at, behalf_at}
use Rattle.session.specs.Rows.{Row, row_words, permit_words, container_row, container_row_good, put_row, user_row, user_row_good, is_declared}
use Rattle.rules.specs.Sets.{data_of, running_of}
use Rattle.rules.specs.Answers.{data_width, bounded_of}
use Rattle.chains.specs.History.{Step}
use Rattle.chains.specs.Table.{entry, fits, meet_good, early_conditions}
use Rattle.operations.specs.View.{view}
use Rattle.operations.specs.Effects.{rows_good, made_answer, made_effect}

-- ---- before a meet is formed

-- 10 to 14, and 18
unfoldable pub first_conditions : List ℕ → Step → List Condition
first_conditions s t = (rows_good s t or_refuse row) ∷ early_conditions (view s) t

-- the session has its length, the step names rows of it, and is not refused by 10 to 14 or 18
pub record Ready (s : List ℕ) (t : Step) : Type 0 where
  pub long : length s ≡ session_length
  pub process : (entry (view s) t).process < container_limit
  pub object : (entry (view s) t).object < container_limit
  pub user : (u : ℕ) → (entry (view s) t).user ≡ some u → u < user_limit
  pub passed : first_failed (first_conditions s t) ≡ 0

-- what is left: 15, or the effect
unfoldable pub late_answer : List ℕ → Step → Answer
late_answer s t = cond (meet_good (view s) t) (made_answer s t) (refused over_limit)

unfoldable pub late_effect : List ℕ → Step → List ℕ
late_effect s t = cond (meet_good (view s) t) (made_effect s t) s

-- ---- what is read

-- the row of container c is as "Session" says, and not free
pub record UsedAt (s : List ℕ) (c : ℕ) : Type 0 where
  pub long : length s ≡ session_length
  pub low : c < container_limit
  pub good : container_row_good (container_row s c) ≡ true
  pub used : is_free (get_or (container_row s c) kind_at 0) ≡ false

-- the row of user u is as "Session" says, and declared
pub record DeclaredAt (s : List ℕ) (u : ℕ) : Type 0 where
  pub long : length s ≡ session_length
  pub low : u < user_limit
  pub good : user_row_good (user_row s u) ≡ true
  pub declared : is_declared (user_row s u) ≡ true

-- the words of a rule as a session keeps it
pub record Kept (ws : List ℕ) : Type 0 where
  pub long : length ws ≡ rule_width
  pub well : kept_well ws ≡ true

-- the words of a rule that stand at a place of the session
unfoldable pub words_from : List ℕ → ℕ → List ℕ
words_from s at = take rule_width (drop at s)

-- a rule that the session keeps stands at the place
pub record KeptAt (s : List ℕ) (at : ℕ) : Type 0 where
  pub inside : at + rule_width ≤ length s
  pub words : Kept (words_from s at)

-- the rules have equally many mixtures, and one of two tests tells that their meet is that of place by place
unfoldable pub meets_placewise : List ℕ → List ℕ → Bool
meets_placewise r v = eqb (length r) (length v) && (within r v || alike r v)

-- ---- what is written

-- the numbers of a rule
unfoldable pub bounded_words : Bounded → List ℕ
bounded_words m = m.count ∷ m.mixtures

-- the row with another tag and run rule
unfoldable pub content_words : List ℕ → ℕ → Bounded → List ℕ
content_words row tag run = get_or row kind_at 0 ∷ tag ∷ (permit_words row ++ (bounded_words run ++ (get_or row behalf_at 0 ∷ [])))

-- the row with all of it new
unfoldable pub new_words : ℕ → ℕ → Bounded → Bounded → ℕ → List ℕ
new_words kind tag permit run behalf = kind ∷ tag ∷ (bounded_words permit ++ (bounded_words run ++ (behalf ∷ [])))

-- the verdict by whether the tag is covered
abbrev pub cover_verdict : Bool → Verdict
cover_verdict true = Quiet
cover_verdict false = Alert

-- the answer by whether, and at which position, the permit rule covers the tag
unfoldable pub cover_answer : ℕ → List ℕ → ℕ → Answer
cover_answer c permit tag = Given (cover_verdict (covers permit tag)) (received c tag (cover_place permit tag))

-- ---- container c takes in what d has, as a reader or a file that is appended to does: the tag t, and the meet of both run rules

unfoldable pub shared_run : List ℕ → ℕ → ℕ → List ℕ
shared_run s c d = meet ((view s).row c).run ((view s).row d).run

unfoldable pub absorbed : List ℕ → ℕ → ℕ → ℕ → Row
absorbed s c d t =
    record { kind = ((view s).row c).kind; tag = t; permit = ((view s).row c).permit; run = shared_run s c d; behalf = ((view s).row c).behalf }

unfoldable pub absorb_answer : List ℕ → ℕ → ℕ → ℕ → Answer
absorb_answer s c d t = cond (fits (shared_run s c d)) (cover_answer c ((view s).row c).permit t) (refused over_limit)

unfoldable pub absorb_effect : List ℕ → ℕ → ℕ → ℕ → List ℕ
absorb_effect s c d t = cond (fits (shared_run s c d)) (put_row s c (row_words (absorbed s c d t))) s

-- ---- a write or an append into container c, which would have the tag t

-- container c is guarded, and its permit rule does not cover the tag
unfoldable pub guards_at : List ℕ → ℕ → ℕ → Bool
guards_at s c t = is_guarded ((view s).row c).kind && not (covers ((view s).row c).permit t)

-- then an append of d is answered blocked, "15 being tested before it"
unfoldable pub withheld_answer : List ℕ → ℕ → ℕ → ℕ → Answer
withheld_answer s c d t = cond (fits (shared_run s c d)) (blocked c t no_position) (refused over_limit)

-- ---- process p becomes what runs o for u: the run rule and the running atoms of o beside p's data atoms, under the permit rule m

unfoldable pub launch_tag : List ℕ → ℕ → ℕ → ℕ
launch_tag s p o = bit_or (running_of data_width ((view s).row o).tag) (data_of data_width ((view s).row p).tag)

unfoldable pub launch_answer : List ℕ → ℕ → ℕ → Bounded → Answer
launch_answer s p o m = cover_answer p (take m.count m.mixtures) (launch_tag s p o)

unfoldable pub launch_effect : List ℕ → ℕ → ℕ → ℕ → Bounded → List ℕ
launch_effect s p o u m = put_row s p (new_words process_kind (launch_tag s p o) m (bounded_of ((view s).row o).run) u)
