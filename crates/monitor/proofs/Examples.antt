-- Checked examples of the paper that concern the step.
use Prim.Native.Nat.{ℕ, ◌+◌, ◌^◌}
use mathlib.Core.Path.{◌≡◌, refl}
use mathlib.Core.Bool.{true}
use mathlib.Core.List.{List, [], ◌∷◌, ◌++◌}
use lib.Bits.{or_zero_r}
use Rattle.rules.specs.Sets.{holds, data_of, running_of, atom}
use Rattle.rules.specs.Rules.{covers, cover_from, cover_place, distinct, held_in, unheld_in, insert, sort, normal, intersections, meet, unrestricted}
use Rattle.lists.specs.Lists.{elem, same_list, every}
use Rattle.rules.specs.Answers.{padded}
use Rattle.image.specs.Limits.{is_free, is_guarded, is_process, file_kind, process_kind, guarded_kind, no_atom, unrestricted_number, no_owner, used_kind, kind_in}
use Rattle.fields.specs.Bytes.{number_in, bytes_of, field}
use Rattle.image.specs.Policy.{Container, Policy, unrestricted_rule, rule_at}
use Rattle.image.specs.Normal.{normal_at, place_of, meaning}
use Rattle.image.proofs.KindLaws.{process_used, free_kinds_lem}
use Rattle.session.specs.Rows.{Row, row_words, free_words, permit_words, run_words, row_of, behalf_good, container_row_good, user_words}
use Rattle.session.specs.Rows.{is_declared, user_rule_words, user_rule_of, user_row_good, container_row, user_row, put_row}
use Rattle.rule_words.specs.Words.{all_zero, kept_well, rule_of, words_of, is_normal}
use Rattle.session.specs.Session.{start_tag, start_row, place_words, filled, session_of, start_of, session_length_good}
use Rattle.answers.specs.Answers.{quiet, alert, blocked, refused}
use Rattle.answers.specs.Refusals.{not_free}
use Rattle.chains.specs.History.{fork}
use Rattle.chains.specs.Table.{
  State,
  free_row,
  read_row,
  write_row,
  append_row,
  exec_row,
  fork_row,
  new_file_row,
  entry,
  process_good,
  object_good,
  kind_good,
  free_good,
  user_good,
  behalf_fits,
  fits,
  meet_good,
  early_conditions,
  table_conditions,
  alerts,
  blocks,
  verdict,
}
use Rattle.lists.specs.Conditions.{first_failed}
use Rattle.records.specs.Codes.{read_code, write_code, append_code, exec_code, fork_code, new_file_code, end_code, delete_code, step_with, no_rows, code_at, is_code}
use Rattle.records.specs.Records.{no_user, request_in, step_in, user_fits, own_object, numbers_good, record_good}
use Rattle.operations.specs.View.{view}
use Rattle.operations.specs.Effects.{rows_good, session_conditions, made_answer, made_effect}
use Rattle.monitor.specs.Steps.{step_asked, step_conditions, refusal_of, step_answer, step_effect}
use Rattle.monitor.specs.Runs.{step_on, run_answers}

-- the eight bytes of a record
abbrev pub record_of : ℕ → ℕ → ℕ → ℕ → List ℕ
record_of c p o u = c ∷ 0 ∷ bytes_of 2 p ++ (bytes_of 2 o ++ bytes_of 2 u)

abbrev file : ℕ → ℕ → Container
file d run = record { kind = file_kind; atom = d; permit = unrestricted_number; run = run }

abbrev process : Container
process = record { kind = process_kind; atom = no_atom; permit = unrestricted_number; run = unrestricted_number }

-- two files with the atoms 1 and 2, a file that names none, two processes and a user, all rules unrestricted
abbrev pub P : Policy
P = record {
  containers = file 1 unrestricted_number ∷ file 2 unrestricted_number ∷ file no_atom unrestricted_number ∷ process ∷ process ∷ [];
  users = unrestricted_number ∷ [];
  rules = [];
  owners = [];
}

-- three files with the atoms 1, 2 and 3, two processes and a user, all rules unrestricted
abbrev pub R : Policy
R = record {
  containers = file 1 unrestricted_number ∷ file 2 unrestricted_number ∷ file 3 unrestricted_number ∷ process ∷ process ∷ [];
  users = unrestricted_number ∷ [];
  rules = [];
  owners = [];
}

-- a file, a process and two users, all rules unrestricted
abbrev pub T : Policy
T = record { containers = file 0 unrestricted_number ∷ process ∷ []; users = unrestricted_number ∷ unrestricted_number ∷ []; rules = []; owners = [] }

-- two files whose run rules have the mixtures 62, 61, 59 and 55, 47, 31, and a process
abbrev pub Q : Policy
Q = record { containers = file no_atom 0 ∷ file no_atom 1 ∷ process ∷ []; users = []; rules = (62 ∷ 61 ∷ 59 ∷ []) ∷ (55 ∷ 47 ∷ 31 ∷ []) ∷ []; owners = no_owner ∷ no_owner ∷ [] }

-- a file with the atom 1; two guarded files with the atoms 2 and 3, of which the first is permitted its own atom and the second nothing;
-- two processes and a user, who permits the atom 2
abbrev guarded_file : ℕ → ℕ → ℕ → Container
guarded_file d permit run = record { kind = guarded_kind; atom = d; permit = permit; run = run }

abbrev pub G : Policy
G = record {
  containers = file 1 unrestricted_number ∷ guarded_file 2 0 unrestricted_number ∷ guarded_file 3 1 unrestricted_number ∷ process ∷ process ∷ [];
  users = 0 ∷ [];
  rules = (4 ∷ []) ∷ (0 ∷ []) ∷ [];
  owners = no_owner ∷ no_owner ∷ [];
}

-- the run rules of Q, the second that of a guarded file which permits nothing at all
abbrev pub H : Policy
H = record {
  containers = file no_atom 0 ∷ guarded_file no_atom 2 1 ∷ process ∷ [];
  users = [];
  rules = (62 ∷ 61 ∷ 59 ∷ []) ∷ (55 ∷ 47 ∷ 31 ∷ []) ∷ [] ∷ [];
  owners = no_owner ∷ no_owner ∷ no_owner ∷ [];
}

-- files with the atoms 0, 1 and 3, a guarded file with the atom 2, a process and two users: the permit rules of file 1 and of the guarded
-- file and the rule of user 0 have the mixtures 3, 5 and 6, given in another order; the rule of user 1 has none
abbrev pub U : Policy
U = record {
  containers =
      file 0 unrestricted_number
      ∷ record { kind = file_kind; atom = 1; permit = 0; run = unrestricted_number }
      ∷ record { kind = guarded_kind; atom = 2; permit = 0; run = unrestricted_number }
      ∷ process
      ∷ file 3 unrestricted_number
      ∷ [];
  users = 0 ∷ 1 ∷ [];
  rules = (6 ∷ 3 ∷ 5 ∷ []) ∷ [] ∷ [];
  owners = no_owner ∷ no_owner ∷ [];
}

-- the derived policy of document 000's matrix: four files, three processes and a user
abbrev object : ℕ → Container
object d = record { kind = file_kind; atom = d; permit = d; run = unrestricted_number }

abbrev pub M : Policy
M = record {
  containers = object 0 ∷ object 1 ∷ object 2 ∷ object 3 ∷ process ∷ process ∷ process ∷ [];
  users = unrestricted_number ∷ [];
  rules = (5 ∷ []) ∷ (3 ∷ []) ∷ (4 ∷ []) ∷ (10 ∷ []) ∷ [];
  owners = no_owner ∷ no_owner ∷ no_owner ∷ no_owner ∷ [];
}

-- the records of the listing
abbrev pub trace : List (List ℕ)
trace =
    (1 ∷ 0 ∷ 4 ∷ 0 ∷ 2 ∷ 0 ∷ 255 ∷ 255 ∷ [])
    ∷ (3 ∷ 0 ∷ 4 ∷ 0 ∷ 0 ∷ 0 ∷ 255 ∷ 255 ∷ [])
    ∷ (1 ∷ 0 ∷ 5 ∷ 0 ∷ 0 ∷ 0 ∷ 255 ∷ 255 ∷ [])
    ∷ (3 ∷ 0 ∷ 5 ∷ 0 ∷ 1 ∷ 0 ∷ 255 ∷ 255 ∷ [])
    ∷ (2 ∷ 0 ∷ 6 ∷ 0 ∷ 1 ∷ 0 ∷ 255 ∷ 255 ∷ [])
    ∷ (1 ∷ 0 ∷ 6 ∷ 0 ∷ 9 ∷ 0 ∷ 255 ∷ 255 ∷ [])
    ∷ []

-- each a run of records from a session's start
pub record CheckedRuns : Type 0 where
  -- "Fork onto p itself: 13."
  pub fork_itself : run_answers (start_of P) (record_of fork_code 3 3 no_user ∷ []) ≡ refused 13 ∷ []
  -- "Exec of a file holding 1 and 34: p holds 33", for a p that held nothing. Process 3 executes file 1, which holds 2, and
  -- appends to file 0, which holds 1; process 4 executes that.
  pub exec_holding : run_answers (start_of P) (record_of exec_code 3 1 0 ∷ record_of append_code 3 0 no_user ∷ record_of exec_code 4 0 0 ∷ [])
      ≡ quiet 3 (2 ^ 34) 0 ∷ quiet 0 (2 ^ 1 + 2 ^ 34) 0 ∷ quiet 4 (2 ^ 33) 0 ∷ []
  -- The same of a p that held data atom 3 and running atom 35: it holds 3 and 33 (change request No. 2). Process 4 executes
  -- file 2, which holds 3, and reads it, before it executes file 0.
  pub exec_keeping : run_answers (start_of R)
      (record_of exec_code 3 1 0
      ∷ record_of append_code 3 0 no_user
      ∷ record_of exec_code 4 2 0
      ∷ record_of read_code 4 2 no_user
      ∷ record_of exec_code 4 0 0
      ∷ [])
      ≡ quiet 3 (2 ^ 34) 0 ∷ quiet 0 (2 ^ 1 + 2 ^ 34) 0 ∷ quiet 4 (2 ^ 35) 0 ∷ quiet 4 (2 ^ 3 + 2 ^ 35) 0 ∷ quiet 4 (2 ^ 3 + 2 ^ 33) 0 ∷ []
  -- "Reading a file holding only 33 adds nothing." Process 3 executes file 0, which holds 1, and writes file 2; process 4
  -- reads file 1, which holds 2, and then file 2.
  pub read_holding : run_answers (start_of P)
      (record_of exec_code 3 0 0 ∷ record_of write_code 3 2 no_user ∷ record_of read_code 4 1 no_user ∷ record_of read_code 4 2 no_user ∷ [])
      ≡ quiet 3 (2 ^ 33) 0 ∷ quiet 2 (2 ^ 33) 0 ∷ quiet 4 (2 ^ 2) 0 ∷ quiet 4 (2 ^ 2) 0 ∷ []
  -- Change request No. 4. Process 3 reads file 0, which holds 1, and deletes it; the number is taken again by a new file, which
  -- holds nothing, so that process 4 reads nothing there; process 3 ends, is no process any more, and process 4 forks onto its
  -- number.
  pub leaving : run_answers (start_of P)
      (record_of read_code 3 0 no_user
      ∷ record_of delete_code 3 0 no_user
      ∷ record_of new_file_code 3 0 0
      ∷ record_of read_code 4 0 no_user
      ∷ record_of end_code 3 3 no_user
      ∷ record_of read_code 3 1 no_user
      ∷ record_of fork_code 4 3 no_user
      ∷ [])
      ≡ quiet 3 (2 ^ 1) 0 ∷ quiet 0 0 255 ∷ quiet 0 0 0 ∷ quiet 4 0 0 ∷ quiet 3 0 255 ∷ refused 11 ∷ quiet 3 0 0 ∷ []
  -- "7 also covers code 8 with another o, and 12 code 9 with o of another kind."
  pub leaving_refused : run_answers (start_of P) (record_of end_code 3 4 no_user ∷ record_of delete_code 3 4 no_user ∷ record_of delete_code 3 5 no_user ∷ [])
      ≡ refused 7 ∷ refused 12 ∷ refused 12 ∷ []
  -- Change request No. 5. "a process with 65535 may name any declared user"; one that runs for user 0, and one forked from it, may
  -- name no other; a user that is not declared is 14 first.
  pub behalf : run_answers (start_of T)
      (record_of new_file_code 1 2 1
      ∷ record_of exec_code 1 0 0
      ∷ record_of new_file_code 1 3 1
      ∷ record_of new_file_code 1 3 2
      ∷ record_of new_file_code 1 3 0
      ∷ record_of fork_code 1 4 no_user
      ∷ record_of new_file_code 4 5 1
      ∷ [])
      ≡ quiet 2 0 0 ∷ quiet 1 (2 ^ 32) 0 ∷ refused 18 ∷ refused 14 ∷ quiet 3 0 0 ∷ quiet 4 (2 ^ 32) 0 ∷ refused 18 ∷ []
  -- Change request No. 9. Process 3 reads file 0, which holds 1: neither may it write that into the guarded file 1, nor append it, and the
  -- file holds 2 as before. Process 4 holds nothing, and may not append that to file 2, which is not permitted the atom that it holds.
  pub guarding : run_answers (start_of G)
      (record_of read_code 3 0 no_user
      ∷ record_of write_code 3 1 no_user
      ∷ record_of append_code 3 1 no_user
      ∷ record_of append_code 4 2 no_user
      ∷ record_of read_code 4 1 no_user
      ∷ record_of append_code 4 1 no_user
      ∷ [])
      ≡ quiet 3 (2 ^ 1) 0 ∷ blocked 1 (2 ^ 1) 255 ∷ blocked 1 (2 ^ 1 + 2 ^ 2) 255 ∷ blocked 2 (2 ^ 3) 255 ∷ quiet 4 (2 ^ 2) 0 ∷ quiet 1 (2 ^ 2) 0 ∷ []
  -- "treated as a file elsewhere": it is executed and deleted. A new file that takes its number is not guarded, and is written with an
  -- alert.
  pub guarded_elsewhere : run_answers (start_of G)
      (record_of exec_code 4 1 0
      ∷ record_of read_code 3 0 no_user
      ∷ record_of delete_code 3 1 no_user
      ∷ record_of new_file_code 3 1 0
      ∷ record_of write_code 3 1 no_user
      ∷ [])
      ≡ alert 4 (2 ^ 34) 255 ∷ quiet 3 (2 ^ 1) 0 ∷ quiet 1 0 255 ∷ quiet 1 0 0 ∷ alert 1 (2 ^ 1) 255 ∷ []
  -- "15 being tested before it": a write is blocked, an append refused for its meet
  pub guarded_over : run_answers (start_of H) (record_of read_code 2 0 no_user ∷ record_of write_code 2 1 no_user ∷ record_of append_code 2 1 no_user ∷ [])
      ≡ quiet 2 0 0 ∷ blocked 1 0 255 ∷ refused 15 ∷ []
  -- Change request No. 12. Process 3 reads file 2, which holds 2, and appends to file 1, which holds 1: of 3, 5, 6 only the mixture 6 covers
  -- both, position 2. It writes file 1, which then holds 2 alone: 5 covers that first, position 1. It reads file 0, which holds 0, and
  -- writes file 2, by 5 again. It reads file 4, which holds 3, and no mixture covers that: writing is blocked at the guarded file 2 and
  -- raises an alert at file 1. A new file of user 0 has a first mixture, one of user 1 none; what is deleted or ends has none.
  pub positions : run_answers (start_of U)
      (record_of read_code 3 2 no_user
      ∷ record_of append_code 3 1 no_user
      ∷ record_of write_code 3 1 no_user
      ∷ record_of read_code 3 0 no_user
      ∷ record_of write_code 3 2 no_user
      ∷ record_of read_code 3 4 no_user
      ∷ record_of write_code 3 2 no_user
      ∷ record_of write_code 3 1 no_user
      ∷ record_of new_file_code 3 5 0
      ∷ record_of new_file_code 3 6 1
      ∷ record_of delete_code 3 5 no_user
      ∷ record_of end_code 3 3 no_user
      ∷ record_of read_code 3 0 no_user
      ∷ [])
      ≡ quiet 3 4 0
      ∷ quiet 1 6 2
      ∷ quiet 1 4 1
      ∷ quiet 3 5 0
      ∷ quiet 2 5 1
      ∷ quiet 3 13 0
      ∷ blocked 2 13 255
      ∷ alert 1 13 255
      ∷ quiet 5 0 0
      ∷ quiet 6 0 255
      ∷ quiet 5 0 255
      ∷ quiet 3 0 255
      ∷ refused 11
      ∷ []
  -- "Meet of 62, 61, 59 with 55, 47, 31 has nine: 15."
  pub meet_over : run_answers (start_of Q) (record_of read_code 2 0 no_user ∷ record_of read_code 2 1 no_user ∷ []) ≡ quiet 2 0 0 ∷ refused 15 ∷ []
  -- the listing (Listing has it from the image's bytes)
  pub listing : run_answers (start_of M) trace ≡ quiet 4 4 0 ∷ quiet 0 5 0 ∷ quiet 5 5 0 ∷ alert 1 7 255 ∷ quiet 1 0 0 ∷ refused 12 ∷ []
  -- "Code 9 with a short session: 9."
  pub short_session : step_answer [] (record_of 9 0 0 0) ≡ refused 9

pub checked_runs : CheckedRuns
unfolding holds data_of running_of covers cover_from cover_place elem distinct held_in unheld_in insert sort normal intersections meet unrestricted
    same_list padded kind_in atom is_free is_guarded is_process number_in bytes_of field unrestricted_rule rule_at
    normal_at place_of meaning rule_of words_of all_zero is_normal kept_well row_words free_words permit_words run_words
    row_of used_kind behalf_good container_row_good user_words is_declared user_rule_words user_rule_of user_row_good container_row user_row
    put_row start_tag start_row place_words filled session_of start_of read_row write_row append_row exec_row fork_row fits
    alerts verdict every first_failed free_row entry step_with no_rows code_at is_code step_in view rows_good
    process_good object_good kind_good free_good user_good behalf_fits meet_good early_conditions table_conditions session_conditions
    made_answer made_effect blocks new_file_row request_in user_fits own_object numbers_good record_good session_length_good step_asked step_conditions refusal_of
    step_answer step_effect step_on run_answers
checked_runs =
    record {
      fork_itself = refl;
      exec_holding = refl;
      exec_keeping = refl;
      read_holding = refl;
      leaving = refl;
      leaving_refused = refl;
      behalf = refl;
      guarding = refl;
      guarded_elsewhere = refl;
      guarded_over = refl;
      positions = refl;
      meet_over = refl;
      listing = refl;
      short_session = refl;
    }

-- ---- the same of any rows

-- p itself is a process, so it is not free
pub fork_itself_lem : (σ : State) (p : ℕ) → process_good σ (fork p p) ≡ true → first_failed (table_conditions σ (fork p p)) ≡ not_free
unfolding first_failed table_conditions early_conditions process_good kind_good free_good object_good entry
fork_itself_lem σ p h = rw (h, free_kinds_lem, process_used (σ.row p).kind h)

-- for a p that held nothing
pub exec_holding_lem : (p o : Row) (v : List ℕ) (u : ℕ) → p.tag ≡ 0 → o.tag ≡ 2 ^ 1 + 2 ^ 34 → (exec_row p o v u).tag ≡ 2 ^ 33
unfolding exec_row running_of data_of
exec_holding_lem p o v u n e = rw (n, e)

-- for a p that held data atom 3 and running atom 35
pub exec_keeping_lem : (p o : Row) (v : List ℕ) (u : ℕ) → p.tag ≡ 2 ^ 3 + 2 ^ 35 → o.tag ≡ 2 ^ 1 + 2 ^ 34 → (exec_row p o v u).tag ≡ 2 ^ 3 + 2 ^ 33
unfolding exec_row running_of data_of
exec_keeping_lem p o v u n e = rw (n, e)

pub read_holding_lem : (p o : Row) → o.tag ≡ 2 ^ 33 → (read_row p o).tag ≡ p.tag
unfolding read_row data_of
read_holding_lem p o e = rw e (or_zero_r p.tag)
