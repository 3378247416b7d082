-- A trace cut between records: the text of the whole is those of its parts, one behind the other.
use Prim.Native.Nat.{ℕ, ◌%◌}
use mathlib.Core.Path.{◌≡◌, refl, sym, ap, ◌∙◌}
use mathlib.Core.List.{List, [], ◌∷◌, ◌++◌, append_assoc, append-nil}
use lib.ListN.{length}
use Rattle.answers.specs.declared.Answer.{Answer}
use Rattle.answers.specs.declared.Tally.{Tally}
use Rattle.answers.specs.Tallies.{more, tallied, tallied_all}
use Rattle.records.specs.Records.{record_length}
use Rattle.records.specs.Traces.{trace_records}
use Rattle.records.proofs.TraceRecords.{records_append}
use Rattle.monitor.specs.Runs.{step_on, run_answers, run_effect}
use Rattle.monitor.proofs.RunHistories.{run_answers_append}
use Rattle.monitor.specs.PartSessions.{part_tally, part_session, WholeRecords, together}
use Rattle.trace_listing.specs.Listings.{record_line, lines_of, part_text}
use Rattle.trace_listing.specs.PartListings.{parts_text}

-- ---- lists of records

pub lines_append : (t : Tally) (s : List ℕ) (rs qs : List (List ℕ)) (given : List Answer)
    → lines_of t (rs ++ qs) (run_answers s rs ++ given) ≡ lines_of t rs (run_answers s rs) ++ lines_of (tallied_all t (run_answers s rs)) qs given
unfolding lines_of tallied_all run_answers
lines_append t s [] qs given = refl
lines_append t s (r ∷ rs) qs given =
    ap (λ (l : List ℕ). record_line (more t.records) r (step_on s r).1 ++ l) (lines_append (tallied t (step_on s r).1) (step_on s r).0 rs qs given)
    ∙ sym (append_assoc (record_line (more t.records) r (step_on s r).1) _ _)

pub run_lines : (t : Tally) (s : List ℕ) (rs qs : List (List ℕ)) → lines_of t (rs ++ qs) (run_answers s (rs ++ qs))
    ≡ lines_of t rs (run_answers s rs) ++ lines_of (tallied_all t (run_answers s rs)) qs (run_answers (run_effect s rs) qs)
run_lines t s rs qs = ap (lines_of t (rs ++ qs)) (run_answers_append s rs qs) ∙ lines_append t s rs qs (run_answers (run_effect s rs) qs)

-- ---- two parts

module _ (t : Tally) (s x y : List ℕ) (h : length x % record_length ≡ 0) where
  pub text_cut : part_text t s (x ++ y) ≡ part_text t s x ++ part_text (part_tally t s x) (part_session s x) y
  unfolding part_text part_tally part_session
  text_cut = ap (λ (rs : List (List ℕ)). lines_of t rs (run_answers s rs)) (records_append x y h) ∙ run_lines t s (trace_records x) (trace_records y)

-- ---- many parts

pub text_parts : (t : Tally) (s : List ℕ) (ps : List (List ℕ)) → WholeRecords ps → parts_text t s ps ≡ part_text t s (together ps)
unfolding parts_text together
text_parts t s [] w = unfold part_text lines_of trace_records Rattle.fields.specs.Bytes.cut in refl
text_parts t s (p ∷ []) w = append-nil (part_text t s p) ∙ ap (part_text t s) (sym (append-nil p))
text_parts t s (p ∷ q ∷ ps) w =
    ap (λ (l : List ℕ). part_text t s p ++ l) (text_parts (part_tally t s p) (part_session s p) (q ∷ ps) w.1)
    ∙ sym (text_cut t s p (together (q ∷ ps)) w.0)
