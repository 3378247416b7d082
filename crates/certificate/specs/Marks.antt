-- How origins are kept while a trace is followed: private contracts. A mark is one number for each container: below 256 the container of
-- the image whose own permit rule it is, 256 for none, and 257 + n for the new file or the exec that is record number n.
use Rattle.std.specs.Prelude.{ℕ, suc, ◌+◌, ◌-◌, ◌*◌, ◌≤◌, ◌<◌, ◌≡◌, Bool, false, cond, List, [], ◌∷◌, map, eqb, ltb, length, take, drop, get_or, set}
use Rattle.std.proofs.Math.Option.{Option, none, some}
use Rattle.std.proofs.Math.ListN.{get_elem?}
use Rattle.lists.specs.Counting.{count_from}
use Rattle.answers.specs.Answers.{accepted, receiver_of, tag_of}
use Rattle.rules.specs.Answers.{padded}
use Rattle.image.specs.Limits.{container_limit, unrestricted_number}
use Rattle.image.specs.Policy.{Container, Policy, rule_at, owner_at}
use Rattle.image.specs.Image.{policy_in}
use Rattle.session.specs.Session.{start_of}
use Rattle.chains.specs.History.{Step, read, write, append, exec, fork, new_file, new_volatile, end, delete, receiver}
use Rattle.chains.specs.Demand.{history_of}
use Rattle.records.specs.declared.Request.{Request}
use Rattle.records.specs.Codes.{new_file_code}
use Rattle.records.specs.Records.{record_length, request_in, step_of}
use Rattle.records.specs.Traces.{trace_records}
use Rattle.monitor.specs.Steps.{step_asked, step_answer, step_effect}
use Rattle.monitor.specs.Runs.{step_on}
use Rattle.witness.specs.Found.{Found}
use Rattle.witness.specs.Witness.{Witness}
use Rattle.witness.specs.Told.{accepted_numbers, chain_records, found_in, at_end}
use Rattle.witness.specs.Links.{node_of}
use Rattle.witness.specs.Explains.{rule_numbers, rule_found, rule_steps, rule_links}
use Rattle.certificate.specs.Origins.{Origin, own, made, started, nowhere, lacked_by}
use Rattle.certificate.specs.Whys.{Reason, own_reason, user_reason, no_reason, exec_reason, own_origin, made_origin, run_origin, run_of}
use Rattle.certificate.specs.Whys.{run_forbids, run_chain, covers_by, user_number, search_links, answered}
use Rattle.certificate.specs.declared.Judgement.{Judgement}
use Rattle.certificate.specs.declared.Told.{Told}

-- ---- marks

abbrev pub nowhere_mark : ℕ
nowhere_mark = container_limit

abbrev pub record_mark : ℕ → ℕ
record_mark n = container_limit + 1 + n

-- the mark that the step of record number n leaves at its receiver
unfoldable pub next_mark : List ℕ → ℕ → Step → ℕ
next_mark marks n (read p o) = get_or marks p 0
next_mark marks n (write p o) = get_or marks o 0
next_mark marks n (append p o) = get_or marks o 0
next_mark marks n (exec p o u) = record_mark n
next_mark marks n (fork p o) = get_or marks p 0
next_mark marks n (new_file p o u) = record_mark n
next_mark marks n (new_volatile p o) = nowhere_mark
next_mark marks n (end p) = nowhere_mark
next_mark marks n (delete p o) = nowhere_mark

unfoldable pub marks_after : List ℕ → ℕ → Step → List ℕ
marks_after marks n s = set marks (receiver s) (next_mark marks n s)

-- after record number n on the session s, which counts if it is accepted
unfoldable pub marks_on : List ℕ → ℕ → List ℕ → List ℕ → List ℕ
marks_on marks n s r = cond (accepted (step_answer s r)) (marks_after marks n (step_asked r)) marks

-- after the records from number n on
unfoldable pub marks_all : List ℕ → ℕ → List ℕ → List (List ℕ) → List ℕ
marks_all marks n s [] = marks
marks_all marks n s (r ∷ rs) = marks_all (marks_on marks n s r) (suc n) (step_effect s r) rs

-- at the start each container has its own
abbrev pub own_marks : List ℕ
own_marks = count_from 0 container_limit

-- of the last answer to the trace t from the image i: its receiver and tag, and the mark of the receiver
unfoldable pub judgement_of : List ℕ → List ℕ → Judgement
judgement_of i t =
    record {
      receiver = receiver_of (answered i t);
      tag = tag_of (answered i t);
      mark = get_or (marks_all own_marks 0 (start_of (policy_in i)) (trace_records t)) (receiver_of (answered i t)) 0;
    }

-- ---- the origin of a mark, by the bytes of the trace: with record numbers for those of steps

-- record number n of the trace t
unfoldable pub record_of : List ℕ → ℕ → List ℕ
record_of t n = take record_length (drop (n * record_length) t)

unfoldable pub request_origin : ℕ → Request → Origin
request_origin n q = cond (eqb q.code new_file_code) (made n q.u) (started n q.o q.u)

unfoldable pub mark_origin : List ℕ → ℕ → Origin
mark_origin t v =
    cond (ltb v container_limit) (own v)
    (cond (eqb v nowhere_mark) nowhere (request_origin (v - record_mark 0) (request_in (record_of t (v - record_mark 0)))))

-- the mark is that of a record of the trace, whose object is a container, or of none
pub record MarkGood (t : List ℕ) (v : ℕ) : Type 0 where
  pub inside : record_mark 0 ≤ v → (v - record_mark 0) * record_length + record_length ≤ length t
  pub object : record_mark 0 ≤ v → (request_in (record_of t (v - record_mark 0))).o < container_limit

-- ---- the reason by such an origin, with the records rs on the session s

abbrev pub reason_at : Policy → List ℕ → List (List ℕ) → ℕ → Origin → Reason
reason_at P s rs t (own c) = own_reason P c
reason_at P s rs t (made n u) = user_reason P made_origin n u
reason_at P s rs t (started n o u) =
    exec_reason P (accepted_numbers s (take n rs)) n u t (run_chain P (history_of step_on step_of s (take n rs)) t o P.containers)
reason_at P s rs t nowhere = no_reason

abbrev pub links_at : Policy → List ℕ → List (List ℕ) → ℕ → Origin → List ℕ → List ℕ
links_at P s rs t (own c) links = links
links_at P s rs t (made n u) links = links
links_at P s rs t (started n o u) links = cond (covers_by P (user_number P u) t) (search_links P s (take n rs) t o P.containers links) links
links_at P s rs t nowhere links = links

-- ---- the search

-- a container of the image is a file whose run rule does not cover the tag
abbrev pub forbids_at : Policy → ℕ → Option Container → Bool
forbids_at P t none = false
forbids_at P t (some K) = run_forbids P t K

-- the first chain of a run rule that does not cover the tag into o, after the trace t from the image i
unfoldable pub search_chain : List ℕ → List ℕ → ℕ → ℕ → Option Witness
search_chain i t tag o =
    run_chain (policy_in i) (history_of step_on step_of (start_of (policy_in i)) (trace_records t)) tag o (policy_in i).containers

unfoldable pub searched_links : List ℕ → List ℕ → ℕ → ℕ → List ℕ → List ℕ
searched_links i t tag o links = search_links (policy_in i) (start_of (policy_in i)) (trace_records t) tag o (policy_in i).containers links

-- links and steps are long enough for the trace t
pub record Roomy (t links steps : List ℕ) : Type 0 where
  pub for_links : node_of (length (trace_records t)) ≤ length links
  pub for_steps : length (trace_records t) ≤ length steps

-- what is found of the run rule with the number n, and what is left in links and steps
pub record FileFound (i t : List ℕ) (n o : ℕ) (links steps : List ℕ) (r : Found) (links' steps' : List ℕ) : Type 0 where
  pub found : r ≡ rule_found i t (rule_at (policy_in i).rules n) o steps
  pub in_steps : steps' ≡ rule_steps i t (rule_at (policy_in i).rules n) o steps
  pub in_links : links' ≡ rule_links i t (rule_at (policy_in i).rules n) links

-- and of the search
pub record Searched (i t : List ℕ) (tag o : ℕ) (links steps : List ℕ) (r : Found) (links' steps' : List ℕ) : Type 0 where
  pub found : r ≡ found_in (rule_numbers i t) (search_chain i t tag o) steps
  pub in_steps : steps' ≡ at_end (chain_records (rule_numbers i t) (search_chain i t tag o)) steps
  pub in_links : links' ≡ searched_links i t tag o links

-- ---- what is told of the reason

-- a reason, with the place in a buffer of so many numbers where the records of its chain begin
abbrev pub told_of : ℕ → Reason → Told
told_of room w = record { kind = w.kind; at = w.at; holder = w.holder; rule = w.rule; first = room - length w.chain }

-- a run rule that was found, of the exec that is record number n
unfoldable pub run_told : Policy → ℕ → Found → Told
run_told P n f =
    cond (eqb f.file container_limit)
    (record { kind = own_origin; at = 0; holder = 0; rule = unrestricted_number; first = f.first })
    (record { kind = run_origin; at = n; holder = f.file; rule = run_of (get_elem? P.containers f.file); first = f.first })

-- of the exec that is record number n, by the user u of the file o, after the trace t from the image i
unfoldable pub exec_at : List ℕ → List ℕ → ℕ → ℕ → ℕ → ℕ → Reason
exec_at i t n o u tag =
    exec_reason (policy_in i) (accepted_numbers (start_of (policy_in i)) (trace_records t)) n u tag (search_chain i t tag o)

unfoldable pub exec_links : List ℕ → List ℕ → ℕ → ℕ → ℕ → List ℕ → List ℕ
exec_links i t o u tag links = cond (covers_by (policy_in i) (user_number (policy_in i) u) tag) (searched_links i t tag o links) links

-- by the mark v
unfoldable pub mark_reason : List ℕ → List ℕ → ℕ → ℕ → Reason
mark_reason i t tag v = reason_at (policy_in i) (start_of (policy_in i)) (trace_records t) tag (mark_origin t v)

unfoldable pub mark_links : List ℕ → List ℕ → ℕ → ℕ → List ℕ → List ℕ
mark_links i t tag v links = links_at (policy_in i) (start_of (policy_in i)) (trace_records t) tag (mark_origin t v) links

-- the numbers of what is told of the container c with the tag t
unfoldable pub numbers_by : Policy → ℕ → ℕ → Told → List ℕ
numbers_by P c t w =
    c ∷ t ∷ w.kind ∷ w.at ∷ w.holder ∷ w.rule
    ∷ owner_at P.owners w.rule ∷ w.first ∷ length (rule_at P.rules w.rule) ∷ padded (map (lacked_by t) (rule_at P.rules w.rule))
