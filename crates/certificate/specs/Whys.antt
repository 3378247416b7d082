-- Why the last record of a trace is answered by an alert or blocked: the rule that forbids what its receiver holds or would have held,
-- where the rule comes from, and an atom that each of its mixtures lacks. What is refused, and every lent number afterwards.
use Rattle.std.specs.Prelude.{ℕ, ◌-◌, Bool, not, cond, ◌&&◌, ◌||◌, List, [], ◌∷◌, ◌++◌, map, eqb, leb, length, take, get_or}
use Rattle.std.proofs.Math.Option.{Option, none, some}
use Rattle.std.proofs.Math.ListN.{get_elem?}
use Rattle.lists.specs.Conditions.{Condition, ◌or_refuse◌, first_failed}
use Rattle.fields.specs.Writing.{overwritten}
use Rattle.answers.specs.Refusals.{lent_length, explain_trace}
use Rattle.answers.specs.declared.Answer.{Answer}
use Rattle.answers.specs.Answers.{quiet, is_alert, is_blocked, receiver_of, tag_of}
use Rattle.rules.specs.Rules.{covers}
use Rattle.rules.specs.Answers.{padded}
use Rattle.image.specs.Limits.{is_file, unrestricted_number}
use Rattle.image.specs.Policy.{Container, Policy, rule_at, owner_at}
use Rattle.image.specs.Image.{policy_in, image_conditions}
use Rattle.session.specs.Session.{start_of}
use Rattle.chains.specs.History.{History}
use Rattle.chains.specs.Chains.{run_rule}
use Rattle.chains.specs.Demand.{history_of}
use Rattle.records.specs.Records.{step_of}
use Rattle.records.specs.Traces.{trace_records}
use Rattle.monitor.specs.Runs.{step_on, run_answers}
use Rattle.witness.specs.Witness.{Witness, first_of, witness}
use Rattle.witness.specs.Told.{told_history, told_numbers, chain_records, at_end}
use Rattle.witness.specs.Links.{of_rule, links_left}
use Rattle.witness.specs.Explains.{lent_good}
use Rattle.certificate.specs.Origins.{Origin, own, made, started, nowhere, origin, before, lacked_by}

-- ---- rules by their numbers

-- the permit rule and the run rule of a container of the image
abbrev pub permit_of : Option Container → ℕ
permit_of none = unrestricted_number
permit_of (some K) = K.permit

abbrev pub run_of : Option Container → ℕ
run_of none = unrestricted_number
run_of (some K) = K.run

-- the rule of a user
unfoldable pub user_number : Policy → ℕ → ℕ
user_number P u = get_or P.users u unrestricted_number

-- the rule with the number n covers the tag
unfoldable pub covers_by : Policy → ℕ → ℕ → Bool
covers_by P n t = covers (rule_at P.rules n) t

-- ---- run rules: of the files of the image in rising number whose run rule does not cover the tag, the first whose run rule has a chain

-- a file whose run rule does not cover the tag
unfoldable pub run_forbids : Policy → ℕ → Container → Bool
run_forbids P t K = is_file K.kind && not (covers_by P K.run t)

-- the chain of the run rule of the container K into o
unfoldable pub run_witness : Policy → History → ℕ → Container → Option Witness
run_witness P h o K = witness P h (run_rule (rule_at P.rules K.run)) o

-- of the first, into o
unfoldable pub run_chain : Policy → History → ℕ → ℕ → List Container → Option Witness
run_chain P h t o [] = none
run_chain P h t o (K ∷ Ks) = cond (run_forbids P t K) (first_of (run_witness P h o K) (run_chain P h t o Ks)) (run_chain P h t o Ks)

-- ---- the rule that is told

abbrev pub own_origin : ℕ
own_origin = 0

abbrev pub made_origin : ℕ
made_origin = 1

abbrev pub user_origin : ℕ
user_origin = 2

abbrev pub run_origin : ℕ
run_origin = 3

-- where it comes from: the origin's number, the record of the new file or of the exec, and the container, the user or the file; its
-- number; and the records of a run rule's chain
pub record Reason : Type 0 where
  pub kind : ℕ
  pub at : ℕ
  pub holder : ℕ
  pub rule : ℕ
  pub chain : List ℕ

abbrev pub own_reason : Policy → ℕ → Reason
own_reason P c = record { kind = own_origin; at = 0; holder = c; rule = permit_of (get_elem? P.containers c); chain = [] }

-- a user's, by record number n
abbrev pub user_reason : Policy → ℕ → ℕ → ℕ → Reason
user_reason P kind n u = record { kind = kind; at = n; holder = u; rule = user_number P u; chain = [] }

-- no rule forbids: of what is told this does not occur (Theorems, `why_certifies`)
abbrev pub no_reason : Reason
no_reason = record { kind = own_origin; at = 0; holder = 0; rule = unrestricted_number; chain = [] }

-- a run rule with a chain, of the exec that is record number n; ns are the records of the history's steps
abbrev pub run_reason : Policy → List ℕ → ℕ → Option Witness → Reason
run_reason P ns n none = no_reason
run_reason P ns n (some w) =
    record { kind = run_origin; at = n; holder = w.file; rule = run_of (get_elem? P.containers w.file); chain = chain_records ns (some w) }

-- of that exec the user's if it does not cover the tag, else a run rule
unfoldable pub exec_reason : Policy → List ℕ → ℕ → ℕ → ℕ → Option Witness → Reason
exec_reason P ns n u t w = cond (covers_by P (user_number P u) t) (run_reason P ns n w) (user_reason P user_origin n u)

-- by the origin, for the tag t
abbrev pub reason_by : Policy → History → List ℕ → ℕ → Origin → Reason
reason_by P h ns t (own c) = own_reason P c
reason_by P h ns t (made i u) = user_reason P made_origin (get_or ns i 0) u
reason_by P h ns t (started i o u) = exec_reason P ns (get_or ns i 0) u t (run_chain P (before i h) t o P.containers)
reason_by P h ns t nowhere = no_reason

-- for the tag t of the container c, after the history h, whose steps are the records ns
unfoldable pub reason_of : Policy → History → List ℕ → ℕ → ℕ → Reason
reason_of P h ns c t = reason_by P h ns t (origin h c)

-- ---- the numbers that are told

-- how many they are, and where each stands
abbrev pub why_length : ℕ
why_length = 17

-- the receiver
abbrev pub why_receiver_at : ℕ
why_receiver_at = 0

-- its tag
abbrev pub why_tag_at : ℕ
why_tag_at = 1

-- the origin of the rule
abbrev pub why_kind_at : ℕ
why_kind_at = 2

-- the record of that origin
abbrev pub why_record_at : ℕ
why_record_at = 3

-- the container, the user or the file of that origin
abbrev pub why_holder_at : ℕ
why_holder_at = 4

-- the number of the rule
abbrev pub why_rule_at : ℕ
why_rule_at = 5

-- its owner
abbrev pub why_owner_at : ℕ
why_owner_at = 6

-- where the records of a run rule's chain begin in the buffer
abbrev pub why_chain_at : ℕ
why_chain_at = 7

-- how many mixtures the rule has
abbrev pub why_count_at : ℕ
why_count_at = 8

-- the atoms that they lack, one for each
abbrev pub why_atoms_at : ℕ
why_atoms_at = 9

-- Of the container c with the tag t, for the reason w: c, t, the origin, its record, its container, user or file, the number of the rule, its
-- owner, where the records of a run rule's chain begin in a buffer of so many numbers, how many mixtures the rule has, and for each the
-- least atom of t that it lacks.
unfoldable pub reason_numbers : Policy → ℕ → ℕ → ℕ → Reason → List ℕ
reason_numbers P c t room w =
    c ∷ t ∷ w.kind ∷ w.at ∷ w.holder ∷ w.rule
    ∷ owner_at P.owners w.rule ∷ (room - length w.chain) ∷ length (rule_at P.rules w.rule) ∷ padded (map (lacked_by t) (rule_at P.rules w.rule))

unfoldable pub why_numbers : Policy → History → List ℕ → ℕ → ℕ → ℕ → List ℕ
why_numbers P h ns c t room = reason_numbers P c t room (reason_of P h ns c t)

-- ---- what a search for a run rule leaves in the lent links, after the records rs on the session s: that of a pass for each run rule that is
-- tried, up to and with the first that has a chain into o

abbrev pub pass_links : Option Witness → List ℕ → List ℕ → List ℕ
pass_links none stops goesOn = goesOn
pass_links (some w) stops goesOn = stops

unfoldable pub search_links : Policy → List ℕ → List (List ℕ) → ℕ → ℕ → List Container → List ℕ → List ℕ
search_links P s rs t o [] links = links
search_links P s rs t o (K ∷ Ks) links =
    cond (run_forbids P t K)
    (pass_links (run_witness P (history_of step_on step_of s rs) o K)
    (links_left P (of_rule (rule_at P.rules K.run)) s rs links)
    (search_links P s rs t o Ks (links_left P (of_rule (rule_at P.rules K.run)) s rs links)))
    (search_links P s rs t o Ks links)

-- a search there is where an exec's user's rule covers the tag: on the records before the exec
abbrev pub links_by : Policy → List ℕ → List (List ℕ) → List ℕ → ℕ → Origin → List ℕ → List ℕ
links_by P s rs ns t (own c) links = links
links_by P s rs ns t (made i u) links = links
links_by P s rs ns t (started i o u) links =
    cond (covers_by P (user_number P u) t) (search_links P s (take (get_or ns i 0) rs) t o P.containers links) links
links_by P s rs ns t nowhere links = links

-- ---- of the trace t from the image i

-- the last answer; the one given if there is none
unfoldable pub last_from : Answer → List Answer → Answer
last_from a [] = a
last_from a (b ∷ l) = last_from b l

-- quiet, with zeros, if there is none
unfoldable pub last_answer : List Answer → Answer
last_answer l = last_from (quiet 0 0 0) l

unfoldable pub answered : List ℕ → List ℕ → Answer
answered i t = last_answer (run_answers (start_of (policy_in i)) (trace_records t))

-- its reason, on the history of an explanation
unfoldable pub reason_in : List ℕ → List ℕ → Reason
reason_in i t =
    reason_of (policy_in i) (told_history (start_of (policy_in i)) (trace_records t)) (told_numbers (start_of (policy_in i)) (trace_records t))
    (receiver_of (answered i t)) (tag_of (answered i t))

-- 9 unless links and steps are as an explanation needs them, and there is room for the numbers
unfoldable pub room_good : List ℕ → List ℕ → List ℕ → List ℕ → Bool
room_good t links steps out = lent_good t links steps && leb why_length (length out)

-- 25 unless the last record is answered by an alert or blocked
unfoldable pub forbidden_last : List ℕ → List ℕ → Bool
forbidden_last i t = is_alert (answered i t) || is_blocked (answered i t)

-- 9, then the image's own refusals, then 25
unfoldable pub why_conditions : List ℕ → List ℕ → List ℕ → List ℕ → List ℕ → List Condition
why_conditions i t links steps out =
    (room_good t links steps out or_refuse lent_length) ∷ (image_conditions i ++ ((forbidden_last i t or_refuse explain_trace) ∷ []))

-- the refusal, 0 if there is none
unfoldable pub why_refusal : List ℕ → List ℕ → List ℕ → List ℕ → List ℕ → ℕ
why_refusal i t links steps out = first_failed (why_conditions i t links steps out)

-- the numbers at the front of the output, those behind as they were; "A refusal .. changes no lent memory"
unfoldable pub why_effect : List ℕ → List ℕ → List ℕ → List ℕ → List ℕ → List ℕ
why_effect i t links steps out =
    cond (eqb (why_refusal i t links steps out) 0)
    (overwritten
    (why_numbers (policy_in i) (told_history (start_of (policy_in i)) (trace_records t)) (told_numbers (start_of (policy_in i)) (trace_records t))
    (receiver_of (answered i t)) (tag_of (answered i t)) (length steps))
    0 out)
    out

-- the records of a run rule's chain at the end of the buffer
unfoldable pub why_steps : List ℕ → List ℕ → List ℕ → List ℕ → List ℕ → List ℕ
why_steps i t links steps out = cond (eqb (why_refusal i t links steps out) 0) (at_end (reason_in i t).chain steps) steps

unfoldable pub why_links : List ℕ → List ℕ → List ℕ → List ℕ → List ℕ → List ℕ
why_links i t links steps out =
    cond (eqb (why_refusal i t links steps out) 0)
    (links_by (policy_in i) (start_of (policy_in i)) (trace_records t) (told_numbers (start_of (policy_in i)) (trace_records t)) (tag_of (answered i t))
    (origin (told_history (start_of (policy_in i)) (trace_records t)) (receiver_of (answered i t)))
    links)
    links
