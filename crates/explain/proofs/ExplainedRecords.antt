-- The records of a trace explained one by one: what is handed on, and what is left of the trace, is the whole of it.
use Prim.Native.Nat.{ℕ, suc, ◌+◌, ◌*◌, ◌%◌, ◌≤◌, ◌<◌}
use native.Mathlib.Omega.{arith}
use native.Mathlib.Numerals.{add-one}
use mathlib.Core.Path.{◌≡◌, refl, sym, ap, ap₂, ◌∙◌}
use mathlib.Core.Bool.{Bool, true, false, cond}
use mathlib.Core.List.{List, [], ◌∷◌, ◌++◌, append_assoc, append-nil}
use lib.ListN.{length, take, drop, length-take, length-drop}
use lib.Seq.{take_all, length-take-le, take-add}
use Rattle.answers.specs.declared.Answer.{Answer}
use Rattle.answers.specs.Tallies.{count_of}
use Rattle.image.specs.Image.{check_of, policy_in}
use Rattle.session.specs.Session.{start_of}
use Rattle.records.specs.Records.{record_length}
use Rattle.records.specs.Traces.{trace_records}
use Rattle.records.proofs.TraceRecords.{next_record, no_record, record_length_lem, records_append}
use Rattle.monitor.specs.Steps.{step_answer, step_effect}
use Rattle.monitor.specs.Runs.{step_on, run_answers, run_effect}
use Rattle.monitor.proofs.RunHistories.{run_last}
use Rattle.certificate.specs.Whys.{answered, last_answer, forbidden_last}
use Rattle.certificate.proofs.ToldLaws.{last_answer_lem}
use Rattle.explanations.specs.Lines.{explained_total_line}
use Rattle.files.specs.Calls.{Handed, handed_none, handed_then, handed_as}
use Rattle.explain.specs.Texts.{explanation_text, is_forbidden, up_to, records_text, answers_to, trace_text}
use Rattle.explain.specs.Runs.{record_limit, trace_size, Asked, RecordsShown}
use Rattle.listing.proofs.Pieces.{front_again}
use Rattle.explain.proofs.HandLaws.{take_more}

-- ---- one record

-- a trace of one record
one_record : (x : List ℕ) → 0 < length x → length x ≤ record_length → trace_records x ≡ x ∷ []
one_record x h l =
    let e : take record_length (drop 0 x) ≡ x = take_all record_length x l in
    next_record x 0 h
    ∙ ap (λ (z : List ℕ). z ∷ trace_records (drop (0 + length z) x)) e
    ∙ ap (λ (z : List (List ℕ)). x ∷ z) (no_record x (0 + length x) (omega arith))

-- the trace up to a record
up_to_lem : (t : List ℕ) (at n : ℕ) → at ≡ record_length * n → take (at + length (take record_length (drop at t))) t ≡ up_to t n
up_to_lem t at n e =
    let z : at + record_length ≡ record_length * suc n = omega (arith, e) in
    take-add at (length (take record_length (drop at t))) t
    ∙ ap (λ (x : List ℕ). take at t ++ x) (front_again record_length (drop at t))
    ∙ sym (take-add at record_length t)
    ∙ ap (λ (k : ℕ). take k t) z

-- ---- the loop over the records

-- n records, of which m are explained, are run from the session that the image starts
pub record Explaining (i t : List ℕ) (before : ℕ) (s : List ℕ) (after at n m : ℕ) : Type 0 where
  pub front : List ℕ
  pub within : at ≤ length t
  pub place : at < length t → at ≡ record_length * n
  pub fewer : m ≤ n
  pub session : s ≡ run_effect (start_of (policy_in i)) (trace_records (take at t))
  pub handed : Handed front before after
  pub text : front ++ records_text i t n (run_answers s (trace_records (drop at t))) ≡ records_text i t 0 (answers_to i t)
  pub counts : n + length (run_answers s (trace_records (drop at t))) ≡ length (answers_to i t)
  pub finds : m + count_of is_forbidden (run_answers s (trace_records (drop at t))) ≡ count_of is_forbidden (answers_to i t)

all_left : (i t s : List ℕ) → s ≡ start_of (policy_in i) → run_answers s (trace_records (drop 0 t)) ≡ answers_to i t
unfolding answers_to
all_left i t s e = ap (λ (z : List ℕ). run_answers z (trace_records t)) e

pub explaining_start : (i t s : List ℕ) (a : ℕ) → s ≡ start_of (policy_in i) → Explaining i t a s a 0 0 0
explaining_start i t s a e =
    record {
      front = [];
      within = omega arith;
      place = λ l. refl;
      fewer = omega arith;
      session = e ∙ (unfold run_effect trace_records Rattle.fields.specs.Bytes.cut in refl);
      handed = handed_none a;
      text = ap (λ (z : List Answer). records_text i t 0 z) (all_left i t s e);
      counts = omega (arith, ap length (all_left i t s e));
      finds = omega (arith, ap (λ (z : List Answer). count_of is_forbidden z) (all_left i t s e));
    }

module _ (i t : List ℕ) (a : ℕ) (s : List ℕ) (b at n m : ℕ) (h : Explaining i t a s b at n m) (l : at < length t) (f : length t ≤ trace_size) where
  pub few : n < record_limit
  few = omega (arith, h.place l)

  pub found_few : m < record_limit
  found_few = omega (arith, few, h.fewer)

  module _ (x s' : List ℕ) (v : Answer) (xe : x ≡ take record_length (drop at t)) (ve : v ≡ step_answer s x) (se : s' ≡ step_effect s x) where
    long : length x ≡ length (take record_length (drop at t))
    long = ap length xe

    size : (1 ≤ length x) × (at + length x ≤ length t)
    size = record_length_lem t x at l xe

    pub front_is : take (at + length x) t ≡ up_to t n
    front_is = ap (λ (k : ℕ). take (at + k) t) long ∙ up_to_lem t at n (h.place l)

    records_more : trace_records (take (at + length x) t) ≡ trace_records (take at t) ++ (x ∷ [])
    records_more =
        let w : length (take at t) % record_length ≡ 0 = omega (arith, length-take-le at t h.within, h.place l) in
        let u : length x ≤ record_length = omega (arith, long, length-take record_length (drop at t)) in
        ap trace_records (ap (λ (k : ℕ). take (at + k) t) long ∙ take_more at record_length t ∙ ap (λ (z : List ℕ). take at t ++ z) (sym xe))
        ∙ records_append (take at t) x w
        ∙ ap (λ (z : List (List ℕ)). trace_records (take at t) ++ z) (one_record x size.0 u)

    pub answer_is : v ≡ answered i (take (at + length x) t)
    unfolding answered
    answer_is =
        ve
        ∙ ap (λ (z : List ℕ). step_answer z x) h.session
        ∙ sym (last_answer_lem (start_of (policy_in i)) (trace_records (take at t)) x)
        ∙ ap (λ (z : List (List ℕ)). last_answer (run_answers (start_of (policy_in i)) z)) (sym records_more)

    next_session : s' ≡ run_effect (start_of (policy_in i)) (trace_records (take (at + length x) t))
    next_session =
        se
        ∙ ap (λ (z : List ℕ). step_effect z x) h.session
        ∙ sym (run_last (start_of (policy_in i)) (trace_records (take at t)) x)
        ∙ ap (λ (z : List (List ℕ)). run_effect (start_of (policy_in i)) z) (sym records_more)

    abbrev rest : List Answer
    rest = run_answers s' (trace_records (drop (at + length x) t))

    answers_left : run_answers s (trace_records (drop at t)) ≡ v ∷ rest
    unfolding run_answers step_on
    answers_left = rw (ve, se, xe) (ap (λ (z : List (List ℕ)). run_answers s z) (next_record t at l))

    next_text : (h.front ++ cond (is_forbidden v) (explanation_text i (take (at + length x) t) n) []) ++ records_text i t (suc n) rest ≡ records_text i t 0 (answers_to i t)
    unfolding records_text
    next_text =
        append_assoc h.front _ _
        ∙ ap (λ (z : List ℕ). h.front ++ (cond (is_forbidden v) (explanation_text i z n) [] ++ records_text i t (suc n) rest)) front_is
        ∙ ap (λ (z : List Answer). h.front ++ records_text i t n z) (sym answers_left)
        ∙ h.text

    one_counted : (p : Bool) → cond p (m + 1) m + count_of is_forbidden rest ≡ m + cond p (suc (count_of is_forbidden rest)) (count_of is_forbidden rest)
    one_counted true = omega arith
    one_counted false = refl

    no_more : (p : Bool) → cond p (m + 1) m ≤ n + 1
    no_more true = omega (arith, h.fewer)
    no_more false = omega (arith, h.fewer)

    next_finds : cond (is_forbidden v) (m + 1) m + count_of is_forbidden rest ≡ count_of is_forbidden (answers_to i t)
    unfolding count_of
    next_finds = one_counted (is_forbidden v) ∙ ap (λ (z : List Answer). m + count_of is_forbidden z) (sym answers_left) ∙ h.finds

    next_counts : (n + 1) + length rest ≡ length (answers_to i t)
    next_counts =
        let e : length (run_answers s (trace_records (drop at t))) ≡ suc (length rest) = ap length answers_left in
        omega (arith, e, h.counts)

    pub explaining_next : (d m' : ℕ) → m' ≡ cond (is_forbidden v) (m + 1) m → Handed (cond (is_forbidden v) (explanation_text i (take (at + length x) t) n) []) b d
        → Explaining i t a s' d (at + length x) (n + 1) m'
    explaining_next d m' e y =
        record {
          front = h.front ++ cond (is_forbidden v) (explanation_text i (take (at + length x) t) n) [];
          within = size.1;
          place = λ k. omega (arith, k, h.place l, long, length-take record_length (drop at t), length-drop at t);
          fewer = rw e (no_more (is_forbidden v));
          session = next_session;
          handed = handed_then h.handed y;
          text = ap (λ (k : ℕ). (h.front ++ cond (is_forbidden v) (explanation_text i (take (at + length x) t) n) []) ++ records_text i t k rest) (add-one n) ∙ next_text;
          counts = next_counts;
          finds = rw e next_finds;
        }

pub explaining_end : (i t : List ℕ) (a : ℕ) (s : List ℕ) (b at n m : ℕ) → Explaining i t a s b at n m → length t ≤ at → RecordsShown i t n m a b
unfolding records_text count_of run_answers
explaining_end i t a s b at n m h l =
    record {
      counts = add_zero_right n (rw (no_record t at l) at h.counts);
      finds = add_zero_right m (rw (no_record t at l) at h.finds);
      handed = handed_as (sym (append-nil h.front) ∙ rw (no_record t at l) at h.text) h.handed;
    }
  where
    add_zero_right : (k : ℕ) {j : ℕ} → k + 0 ≡ j → k ≡ j
    add_zero_right k e = omega (arith, e)

-- ---- what is explained

pub asked : (i t : List ℕ) (v : Answer) → check_of i ≡ 0 → length t ≤ trace_size → v ≡ answered i t → is_forbidden v ≡ true → Asked i t
unfolding forbidden_last
asked i t v c f e p = record { accepted = c; few = f; forbidden = ap is_forbidden (sym e) ∙ p }

pub record_quiet : (v : Answer) (x : List ℕ) (a : ℕ) → is_forbidden v ≡ false → Handed (cond (is_forbidden v) x []) a a
record_quiet v x a e = rw e (handed_none a)

pub record_found : (v : Answer) (x : List ℕ) {a b : ℕ} → is_forbidden v ≡ true → Handed x a b → Handed (cond (is_forbidden v) x []) a b
record_found v x e h = rw e h

pub trace_handed : (i t : List ℕ) (n m a b d : ℕ) → RecordsShown i t n m a b → Handed (explained_total_line n m) b d → Handed (trace_text i t) a d
unfolding trace_text
trace_handed i t n m a b d h x = handed_then h.handed (handed_as (ap₂ (λ (p q : ℕ). explained_total_line p q) h.counts h.finds) x)
