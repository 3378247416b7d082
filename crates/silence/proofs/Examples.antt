-- Checked examples of silent and of what it is not, each by computation.
use Prim.Native.Nat.{ℕ, ◌^◌}
use mathlib.Core.Path.{◌≡◌, refl, ap, ◌∙◌}
use mathlib.Core.Bool.{true}
use mathlib.Core.List.{List, [], ◌∷◌, ◌++◌, map}
use lib.Bits.{bit_or}
use lib.ListN.{replicate}
use native.Mathlib.Omega.{arith}
use Rattle.rules.specs.Sets.{atom, holds, data_of, running_of}
use Rattle.rules.specs.Rules.{covers, cover_from, cover_place, distinct, held_in, unheld_in, insert, sort, normal, intersections, meet, unrestricted}
use Rattle.lists.specs.Lists.{elem, same_list, every}
use Rattle.lists.specs.Conditions.{first_failed}
use Rattle.lists.specs.Counting.{count_from, some_below, all_below}
use Rattle.rules.specs.Answers.{padded}
use Rattle.answers.specs.Answers.{quiet, alert}
use Rattle.image.specs.Limits.{is_free, is_guarded, is_process, file_kind, process_kind, no_atom, used_kind, kind_in}
use Rattle.fields.specs.Bytes.{number_in, bytes_of, field}
use Rattle.image.specs.Policy.{Policy, unrestricted_rule}
use Rattle.image.specs.Image.{policy_in}
use Rattle.image.specs.Normal.{Place, meaning}
use Rattle.session.specs.Rows.{row_words, free_words, permit_words, run_words, row_of, behalf_good, container_row_good, user_words}
use Rattle.session.specs.Rows.{is_declared, user_rule_words, user_rule_of, user_row_good, container_row, user_row, put_row}
use Rattle.rule_words.specs.Words.{all_zero, kept_well, rule_of, words_of, is_normal}
use Rattle.session.specs.Session.{start_tag, start_row, place_words, filled, session_of, start_of, session_length_good}
use Rattle.matrix.specs.Flows.{rows_within, count_good, matrix_good, has, subject_carries, granted, within, composed}
use Rattle.matrix.specs.Rows.{bits_of}
use Rattle.matrix.specs.Verdicts.{ungranted, ungranted_from, consistent, matrix_conditions}
use Rattle.derivation.specs.Derived.{writer_mixtures, or_alone, permit_of, derived_image}
use Rattle.derivation.proofs.Theorems.{derived_read, derived_means}
use Rattle.chains.specs.History.{read, append}
use Rattle.chains.specs.Table.{
  free_row,
  read_row,
  write_row,
  append_row,
  entry,
  process_good,
  object_good,
  kind_good,
  free_good,
  user_good,
  behalf_fits,
  fits,
  meet_good,
  early_conditions,
  table_conditions,
  alerts,
  blocks,
  verdict,
}
use Rattle.records.specs.Codes.{step_with, no_rows, code_at, is_code}
use Rattle.records.specs.Records.{request_in, step_in, user_fits, own_object, numbers_good, record_good, step_of}
use Rattle.operations.specs.View.{view}
use Rattle.operations.specs.Effects.{rows_good, session_conditions, made_answer, made_effect}
use Rattle.monitor.specs.Steps.{step_asked, step_conditions, refusal_of, step_answer, step_effect}
use Rattle.monitor.specs.Runs.{step_on, run_answers}
use Rattle.silence.specs.Silent.{sources_of, quiet_object, silent, silence_of, unless_refused, matrix_silence}
use Rattle.silence.specs.Sessions.{may_read, may_append, AllAllowed}
use Rattle.silence.proofs.AllowedRecords.{low_record, read_spelled, append_spelled}

pub record Checked : Type 0 where
  -- "Consistent is too weak, since two permitted writers can mix": 0 and 2 go into 1 by two writers, of which none reads both
  pub two_writers : (consistent (1 ∷ 4 ∷ []) (2 ∷ 2 ∷ []) 3 ≡ true) × (matrix_silence (1 ∷ 4 ∷ []) (2 ∷ 2 ∷ []) 3 ≡ 0)
  -- the matrix of document 000, which is not consistent
  pub document_000 : matrix_silence (5 ∷ 3 ∷ 2 ∷ []) (1 ∷ 2 ∷ 10 ∷ []) 4 ≡ 0
  -- every two of the sources are covered together, and all of them are not
  pub every_pair : (all_below (λ a. all_below (λ c. covers (permit_of (3 ∷ 5 ∷ 6 ∷ []) (8 ∷ 8 ∷ 8 ∷ []) 3) (bit_or (2 ^ a) (2 ^ c))) 4) 4 ≡ true)
      × (matrix_silence (3 ∷ 5 ∷ 6 ∷ []) (8 ∷ 8 ∷ 8 ∷ []) 4 ≡ 0)
  -- each writer reads all that can come into what it writes; nobody writes the first object
  pub one_reads_all : matrix_silence (1 ∷ 3 ∷ []) (2 ∷ 4 ∷ []) 3 ≡ 1
  -- 0 comes into 2 through 1, and the writer of 2 does not read it
  pub composed_source : matrix_silence (1 ∷ 2 ∷ []) (2 ∷ 4 ∷ []) 3 ≡ 0
  -- row counts differ; a bit beyond the objects
  pub refused : (matrix_silence (1 ∷ []) (2 ∷ 2 ∷ []) 3 ≡ 8) × (matrix_silence (1 ∷ []) (4 ∷ []) 2 ≡ 8)

pub checked : Checked
unfolding matrix_silence matrix_conditions first_failed unless_refused silence_of silent all_below quiet_object sources_of bits_of permit_of writer_mixtures or_alone covers holds
    matrix_good rows_within every count_good has atom consistent some_below ungranted_from ungranted composed within granted subject_carries
checked = record {
  two_writers = (refl, refl);
  document_000 = refl;
  every_pair = (refl, refl);
  one_reads_all = refl;
  composed_source = refl;
  refused = (refl, refl);
}

-- ---- the list of accesses under which the first of them alerts

abbrev reads : List ℕ
reads = 1 ∷ 4 ∷ []

abbrev writes : List ℕ
writes = 2 ∷ 2 ∷ []

-- subject 0 reads object 0 and appends to 1; subject 1 reads 2 and appends to 1
abbrev pub front : List (List ℕ)
front = low_record 1 3 0 ∷ low_record 3 3 1 ∷ low_record 1 4 2 ∷ []

abbrev pub last : List ℕ
last = low_record 3 4 1

-- each is allowed
pub two_writers_allowed : AllAllowed step_of reads writes 3 (front ++ (last ∷ []))
unfolding has atom
two_writers_allowed = (
  (read 3 0, read_spelled 3 0 (omega arith) (omega arith), may_read {s = 0} {k = 0} (omega arith) (omega arith) refl),
  (
    (append 3 1, append_spelled 3 1 (omega arith) (omega arith), may_append {s = 0} {k = 1} (omega arith) (omega arith) refl),
    (
      (read 4 2, read_spelled 4 2 (omega arith) (omega arith), may_read {s = 1} {k = 2} (omega arith) (omega arith) refl),
      ((append 4 1, append_spelled 4 1 (omega arith) (omega arith), may_append {s = 1} {k = 1} (omega arith) (omega arith) refl), tt),
    ),
  ),
)

good : matrix_good reads writes 3 ≡ true
unfolding matrix_good rows_within every count_good
good = refl

-- what the derived policy means
abbrev places : List Place
places =
    map (λ b. record { kind = file_kind; atom = b; permit = normal (permit_of reads writes b); run = unrestricted_rule }) (count_from 0 3)
    ++ replicate 2 (record { kind = process_kind; atom = no_atom; permit = unrestricted_rule; run = unrestricted_rule })

session : start_of (policy_in (derived_image reads writes 3)) ≡ session_of (record { places = places; users = unrestricted_rule ∷ [] })
unfolding start_of
session = ap (λ (p : Policy). session_of (meaning p)) (derived_read reads writes 3 good).1 ∙ ap session_of (derived_means reads writes 3 good)

run : run_answers (session_of (record { places = places; users = unrestricted_rule ∷ [] })) (front ++ (last ∷ [])) ≡ quiet 3 1 0 ∷ quiet 1 3 0 ∷ quiet 4 4 0 ∷ alert 1 7 255 ∷ []
unfolding holds data_of running_of covers cover_from cover_place elem distinct held_in unheld_in insert sort normal intersections meet unrestricted
    same_list padded kind_in is_free is_guarded is_process number_in bytes_of field unrestricted_rule
    rule_of words_of all_zero is_normal kept_well row_words free_words permit_words run_words
    row_of used_kind behalf_good container_row_good user_words is_declared user_rule_words user_rule_of user_row_good container_row user_row
    put_row start_tag start_row place_words filled session_of read_row write_row append_row fits
    alerts blocks verdict every first_failed free_row entry step_with no_rows code_at is_code step_in view rows_good
    process_good object_good kind_good free_good user_good behalf_fits meet_good early_conditions table_conditions session_conditions
    made_answer made_effect request_in user_fits own_object numbers_good record_good session_length_good step_asked step_conditions refusal_of
    step_answer step_effect step_on run_answers count_from permit_of writer_mixtures or_alone has atom
run = refl

-- and the last raises an alert: object 1 has the tag 7, and its permit rule the mixtures 3 and 6
pub two_writers_alert : run_answers (start_of (policy_in (derived_image reads writes 3))) (front ++ (last ∷ [])) ≡ quiet 3 1 0 ∷ quiet 1 3 0 ∷ quiet 4 4 0 ∷ alert 1 7 255 ∷ []
two_writers_alert = ap (λ (s : List ℕ). run_answers s (front ++ (last ∷ []))) session ∙ run
