-- What the program read, and what it handed to standard output (what that is, `crates/files/specs/Calls.antt` says).
use Rattle.std.specs.Prelude.{ℕ, ◌+◌, ◌*◌, ◌≤◌, ◌<◌, ◌≡◌, true, cond, List, [], ◌++◌, map, length, take, drop, get_or}
use Rattle.fields.specs.Ascii.{ascii}
use Rattle.lists.specs.Lists.{elem}
use Rattle.answers.specs.Answers.{receiver_of}
use Rattle.answers.specs.Tallies.{count_of}
use Rattle.rules.specs.Answers.{tag_width}
use Rattle.image.specs.Limits.{container_limit, image_limit}
use Rattle.image.specs.Policy.{owner_at}
use Rattle.image.specs.Image.{check_of, policy_in}
use Rattle.records.specs.Records.{record_length}
use Rattle.certificate.specs.Whys.{why_length, answered, forbidden_last, reason_in, why_receiver_at, why_kind_at, why_record_at, why_holder_at, why_rule_at, why_owner_at, why_chain_at}
use Rattle.certificate.specs.Whys.{why_count_at, why_atoms_at}
use Rattle.explanations.specs.Lines.{lacks_line, rule_line}
use Rattle.files.specs.Calls.{Handed, FileIs, FileLoaded}
use Rattle.explain.specs.Texts.{mixtures_of, lacked_in, came_in, is_forbidden, records_text, answers_to, trace_text, explanations_of}

-- the most records of a trace, and its bytes
abbrev pub record_limit : ℕ
record_limit = 131072

abbrev pub trace_size : ℕ
trace_size = record_limit * record_length

-- ---- one explanation

-- the image is accepted, the trace fits, and its last record is to be explained
pub record Asked (i t : List ℕ) : Type 0 where
  pub accepted : check_of i ≡ 0
  pub few : length t ≤ trace_size
  pub forbidden : forbidden_last i t ≡ true

-- the numbers that `why` tells of it
pub record WhyNumbers (i t why : List ℕ) : Type 0 where
  pub long : length why ≡ why_length
  pub receiver : get_or why why_receiver_at 0 ≡ receiver_of (answered i t)
  pub kind : get_or why why_kind_at 0 ≡ (reason_in i t).kind
  pub made : get_or why why_record_at 0 ≡ (reason_in i t).at
  pub holder : get_or why why_holder_at 0 ≡ (reason_in i t).holder
  pub rule : get_or why why_rule_at 0 ≡ (reason_in i t).rule
  pub owner : get_or why why_owner_at 0 ≡ owner_at (policy_in i).owners (reason_in i t).rule
  pub count : get_or why why_count_at 0 ≡ length (mixtures_of i t)
  pub atoms : take (length (mixtures_of i t)) (drop why_atoms_at why) ≡ map (lacked_in i t) (mixtures_of i t)
  pub container : receiver_of (answered i t) < container_limit
  pub small : (j : ℕ) → j < length (mixtures_of i t) → lacked_in i t (get_or (mixtures_of i t) j 0) < tag_width

-- the line of the rule, as the numbers say it, with the chain that stands in the buffer
unfoldable pub rule_told : List ℕ → List ℕ → List ℕ
rule_told why steps =
    rule_line (get_or why why_kind_at 0) (get_or why why_rule_at 0) (get_or why why_owner_at 0) (get_or why why_record_at 0) (get_or why why_holder_at 0) (drop (get_or why why_chain_at 0) steps)

-- the lines of mixture number j
unfoldable pub mixture_text : List ℕ → List ℕ → ℕ → List ℕ
mixture_text i t j =
    lacks_line (get_or (mixtures_of i t) j 0) (lacked_in i t (get_or (mixtures_of i t) j 0))
    ++ cond (elem (lacked_in i t (get_or (mixtures_of i t) j 0)) (take j (map (lacked_in i t) (mixtures_of i t)))) [] (came_in i t (lacked_in i t (get_or (mixtures_of i t) j 0)))

-- ---- the trace

-- each record was run and explained, and they were counted
pub record RecordsShown (i t : List ℕ) (records explained before after : ℕ) : Type 0 where
  pub counts : records ≡ length (answers_to i t)
  pub finds : explained ≡ count_of is_forbidden (answers_to i t)
  pub handed : Handed (records_text i t 0 (answers_to i t)) before after

-- the trace of the file, all of it, was explained
pub record TraceExplained (i : List ℕ) (before after : ℕ) : Type 0 where
  pub trace : List ℕ
  pub file : FileIs (ascii "trace.bin") trace
  pub few : length trace ≤ trace_size
  pub handed : Handed (trace_text i trace) before after

-- THE PROGRAM: what it handed on is the text that explains the two files, no byte more. Of a policy that is too long only so much is read as
-- tells that, and of a refused one the trace is not read. A trace of more records is not explained: that is told.
pub record ExplanationsShown (before after : ℕ) : Type 0 where
  pub policy : List ℕ
  pub trace : List ℕ
  pub policy_file : FileLoaded (ascii "policy.bin") policy (image_limit + 1)
  pub trace_file : check_of policy ≡ 0 → FileIs (ascii "trace.bin") trace
  pub few : check_of policy ≡ 0 → length trace ≤ trace_size
  pub handed : Handed (explanations_of policy trace) before after
