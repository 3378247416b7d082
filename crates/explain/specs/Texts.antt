-- The text that explains a trace: every byte that the program prints. i is the bytes of an image, t those of a trace.
use Rattle.std.specs.Prelude.{ℕ, suc, ◌*◌, Bool, cond, ◌||◌, List, [], ◌∷◌, ◌++◌, eqb, length, take}
use Rattle.answers.specs.declared.Answer.{Answer}
use Rattle.answers.specs.Answers.{is_alert, is_blocked, receiver_of, tag_of}
use Rattle.answers.specs.Tallies.{count_of}
use Rattle.image.specs.Policy.{rule_at, owner_at}
use Rattle.image.specs.Image.{check_of, policy_in}
use Rattle.session.specs.Session.{start_of}
use Rattle.records.specs.Records.{record_length}
use Rattle.records.specs.Traces.{trace_records}
use Rattle.monitor.specs.Runs.{run_answers}
use Rattle.witness.specs.Told.{chain_file, chain_records}
use Rattle.witness.specs.Explains.{atom_witness, atom_numbers}
use Rattle.certificate.specs.Origins.{lacked_by}
use Rattle.certificate.specs.Whys.{answered, reason_in}
use Rattle.listing.specs.Lines.{policy_line}
use Rattle.explanations.specs.Lines.{found_line, rule_line, way_line, mixture_lines, explained_total_line}

-- ---- the last record of a trace, which is answered by an alert or blocked

-- the way of the atom k into the container c
unfoldable pub way_text : List ℕ → List ℕ → ℕ → ℕ → List ℕ
way_text i t c k = way_line k (chain_file (atom_witness i t c k)) (chain_records (atom_numbers i t) (atom_witness i t c k))

-- the rule that forbids
unfoldable pub rule_text : List ℕ → List ℕ → List ℕ
rule_text i t =
    rule_line (reason_in i t).kind (reason_in i t).rule (owner_at (policy_in i).owners (reason_in i t).rule) (reason_in i t).at (reason_in i t).holder
    (reason_in i t).chain

-- its mixtures, as they stand in the image
unfoldable pub mixtures_of : List ℕ → List ℕ → List ℕ
mixtures_of i t = rule_at (policy_in i).rules (reason_in i t).rule

-- the atom of the answered tag that a mixture lacks
unfoldable pub lacked_in : List ℕ → List ℕ → ℕ → ℕ
lacked_in i t m = lacked_by (tag_of (answered i t)) m

-- and how it came to the receiver
unfoldable pub came_in : List ℕ → List ℕ → ℕ → List ℕ
came_in i t k = way_text i t (receiver_of (answered i t)) k

unfoldable pub mixtures_text : List ℕ → List ℕ → List ℕ
mixtures_text i t = mixture_lines (lacked_in i t) (came_in i t) [] (mixtures_of i t)

-- all of it, where the record has the number n
unfoldable pub explanation_text : List ℕ → List ℕ → ℕ → List ℕ
explanation_text i t n = found_line (is_blocked (answered i t)) n (receiver_of (answered i t)) ++ (rule_text i t ++ mixtures_text i t)

-- ---- a whole trace

-- what is explained
abbrev pub is_forbidden : Answer → Bool
is_forbidden a = is_alert a || is_blocked a

-- the trace up to and with record number n
abbrev pub up_to : List ℕ → ℕ → List ℕ
up_to t n = take (record_length * suc n) t

-- the records from number n on, which are answered so
unfoldable pub records_text : List ℕ → List ℕ → ℕ → List Answer → List ℕ
records_text i t n [] = []
records_text i t n (a ∷ given) = cond (is_forbidden a) (explanation_text i (up_to t n) n) [] ++ records_text i t (suc n) given

-- the answers to the trace, on the session that the image starts
unfoldable pub answers_to : List ℕ → List ℕ → List Answer
answers_to i t = run_answers (start_of (policy_in i)) (trace_records t)

unfoldable pub trace_text : List ℕ → List ℕ → List ℕ
trace_text i t = records_text i t 0 (answers_to i t) ++ explained_total_line (length (answers_to i t)) (count_of is_forbidden (answers_to i t))

-- Each record that is answered by an alert or blocked is explained, in their order, and the last line counts; "a refused policy is shown as
-- in the watch program".
unfoldable pub explanations_of : List ℕ → List ℕ → List ℕ
explanations_of i t = cond (eqb (check_of i) 0) (trace_text i t) (policy_line (check_of i))
