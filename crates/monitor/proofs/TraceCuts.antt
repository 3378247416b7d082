-- A trace cut between records: tally and session of the whole are those of its parts, one behind the other.
use Prim.Native.Nat.{ℕ, suc, ◌%◌}
use mathlib.Core.Path.{◌≡◌, refl, sym, ap, ◌∙◌}
use mathlib.Core.List.{List, [], ◌∷◌, ◌++◌, append-nil}
use lib.ListN.{length}
use Rattle.answers.specs.declared.Answer.{Answer}
use Rattle.answers.specs.declared.Tally.{Tally}
use Rattle.answers.specs.Tallies.{tallied, tallied_all}
use Rattle.records.specs.Records.{record_length}
use Rattle.records.specs.Traces.{trace_records}
use Rattle.records.proofs.TraceRecords.{records_append}
use Rattle.monitor.specs.Runs.{step_on, run_answers, run_effect}
use Rattle.monitor.specs.PartSessions.{part_tally, part_session, WholeRecords, together, parts_tally, parts_session}
use Rattle.monitor.proofs.RunHistories.{run_answers_append, run_effect_append}

-- ---- lists of records

pub tallied_append : (t : Tally) (l m : List Answer) → tallied_all t (l ++ m) ≡ tallied_all (tallied_all t l) m
unfolding tallied_all
tallied_append t [] m = refl
tallied_append t (a ∷ l) m = tallied_append (tallied t a) l m

pub answers_length : (s : List ℕ) (rs : List (List ℕ)) → length (run_answers s rs) ≡ length rs
unfolding run_answers
answers_length s [] = refl
answers_length s (r ∷ rs) = ap suc (answers_length (step_on s r).0 rs)

-- ---- two parts

module _ (s x y : List ℕ) (h : length x % record_length ≡ 0) where
  pub tally_cut : (t : Tally) → part_tally t s (x ++ y) ≡ part_tally (part_tally t s x) (part_session s x) y
  unfolding part_tally part_session
  tally_cut t =
      ap (λ (rs : List (List ℕ)). tallied_all t (run_answers s rs)) (records_append x y h)
      ∙ ap (tallied_all t) (run_answers_append s (trace_records x) (trace_records y))
      ∙ tallied_append t (run_answers s (trace_records x)) (run_answers (run_effect s (trace_records x)) (trace_records y))

  pub session_cut : part_session s (x ++ y) ≡ part_session (part_session s x) y
  unfolding part_session
  session_cut = ap (run_effect s) (records_append x y h) ∙ run_effect_append s (trace_records x) (trace_records y)

-- ---- many parts

pub tally_parts : (t : Tally) (s : List ℕ) (ps : List (List ℕ)) → WholeRecords ps → parts_tally t s ps ≡ part_tally t s (together ps)
unfolding parts_tally together
tally_parts t s [] w = unfold part_tally tallied_all run_answers trace_records Rattle.fields.specs.Bytes.cut in refl
tally_parts t s (p ∷ []) w = ap (part_tally t s) (sym (append-nil p))
tally_parts t s (p ∷ q ∷ ps) w =
    tally_parts (part_tally t s p) (part_session s p) (q ∷ ps) w.1 ∙ sym (tally_cut s p (together (q ∷ ps)) w.0 t)

pub session_parts : (s : List ℕ) (ps : List (List ℕ)) → WholeRecords ps → parts_session s ps ≡ part_session s (together ps)
unfolding parts_session together
session_parts s [] w = unfold part_session run_effect trace_records Rattle.fields.specs.Bytes.cut in refl
session_parts s (p ∷ []) w = ap (part_session s) (sym (append-nil p))
session_parts s (p ∷ q ∷ ps) w = session_parts (part_session s p) (q ∷ ps) w.1 ∙ sym (session_cut s p (together (q ∷ ps)) w.0)
