-- A request: refused by 10 to 14 or 18, or ready for its operation, whose answer and effect are those of the whole.
use Prim.Native.Nat.{ℕ, ◌<◌}
use mathlib.Core.Path.{◌≡◌, refl, sym, subst, ap, ◌∙◌}
use mathlib.Core.Logic.{◌⊎◌, inl, inr, ◌≢◌}
use mathlib.Core.Bool.{Bool, true, false, cond}
use mathlib.Core.List.{List, [], ◌∷◌, ◌++◌}
use mathlib.Core.Option.{none, some}
use lib.ListN.{length, take}
use lib.Seq.{take_all}
use native.Mathlib.Omega.{arith}
use borrow.Author.Tests.{ne_eqb}
use Rattle.lists.specs.Lists.{elem, every}
use Rattle.lists.specs.Conditions.{◌or_refuse◌, first_failed, numbers_of, numbers_distinct}
use Rattle.lists.proofs.Conditions.{passed, failed, none_left, first_stops, first_passed, given_none}
use Rattle.lists.proofs.Places.{some_inj, none_some}
use Rattle.answers.specs.Refusals.{over_limit}
use Rattle.answers.specs.declared.Answer.{Answer}
use Rattle.answers.specs.Answers.{quiet, refused}
use Rattle.image.specs.Limits.{user_limit}
use Rattle.session.specs.Limits.{session_length}
use Rattle.session.specs.Rows.{free_words, put_row}
use Rattle.rules.specs.Rules.{no_position}
use Rattle.chains.specs.History.{Step, end, delete}
use Rattle.chains.specs.Table.{entry, meet_good, early_conditions, table_conditions}
use Rattle.records.specs.declared.Request.{Request}
use Rattle.records.specs.Codes.{code_at}
use Rattle.records.specs.Records.{record_length, request_in, step_in, record_good}
use Rattle.records.proofs.CodeLaws.{Entered, entered}
use Rattle.records.proofs.RecordLaws.{asked, record_long}
use Rattle.operations.specs.View.{view}
use Rattle.operations.specs.Effects.{Named, session_conditions, session_refusal, perform_answer, perform_effect}
use Rattle.operations.specs.EarlyTests.{first_conditions, Ready, late_answer, late_effect}
use Rattle.operations.proofs.EffectLaws.{Done, left_done}

-- the answer a and the session s₁ afterwards are as the step asks, all refusals counted
abbrev pub Performed : List ℕ → Step → Answer → List ℕ → Type 0
Performed s t a s₁ = (a ≡ perform_answer s t) × (s₁ ≡ perform_effect s t)

-- 15 comes behind 10 to 14 and 18
session_split : (s : List ℕ) (t : Step) → session_conditions s t ≡ first_conditions s t ++ ((meet_good (view s) t or_refuse over_limit) ∷ [])
unfolding session_conditions first_conditions table_conditions
session_split s t = refl

first_numbers : (s : List ℕ) (t : Step) → numbers_distinct (numbers_of (first_conditions s t)) ≡ true
unfolding first_conditions early_conditions numbers_of numbers_distinct elem
first_numbers s t = refl

pub perform_refused : (s : List ℕ) (t : Step) (n : ℕ) → n ≡ first_failed (first_conditions s t) → n ≢ 0 → Performed s t (refused n) s
unfolding perform_answer perform_effect session_refusal
perform_refused s t n e ne =
    let f : first_failed (session_conditions s t) ≡ n =
    ap first_failed (session_split s t) ∙ first_stops (first_conditions s t) ((meet_good (view s) t or_refuse over_limit) ∷ []) (λ z. ne (e ∙ z)) ∙ sym e in
    (rw (f, ne_eqb n 0 ne), rw (f, ne_eqb n 0 ne))

pub perform_done : (s : List ℕ) (t : Step) → first_failed (first_conditions s t) ≡ 0 → (a : Answer) (s₁ : List ℕ) → Done s t a s₁ → Performed s t a s₁
unfolding perform_answer perform_effect session_refusal late_answer late_effect
perform_done s t e a s₁ (ea, es) = by (meet_good (view s) t) refl
  where
    left : first_failed (session_conditions s t) ≡ first_failed ((meet_good (view s) t or_refuse over_limit) ∷ [])
    left =
        ap first_failed (session_split s t)
        ∙ first_passed (first_conditions s t) ((meet_good (view s) t or_refuse over_limit) ∷ []) ((given_none (first_conditions s t) (first_numbers s t)).0 e)

    by : (b : Bool) → meet_good (view s) t ≡ b → Performed s t a s₁
    by true g =
        let f : first_failed (session_conditions s t) ≡ 0 = left ∙ passed (meet_good (view s) t or_refuse over_limit) [] g ∙ none_left in
        (ea ∙ rw (g, f), es ∙ rw (g, f))
    by false g =
        let f : first_failed (session_conditions s t) ≡ over_limit = left ∙ failed (meet_good (view s) t or_refuse over_limit) [] g in
        (ea ∙ rw (g, f), es ∙ rw (g, f))

-- ---- what a request that 9 and 7 do not refuse is, and what it is ready for

pub asked_whole : (r : List ℕ) → record_good r ≡ true → (q : Request) → q ≡ request_in (take record_length r) → q ≡ request_in r
asked_whole r h q e = e ∙ ap request_in (take_all record_length r (omega (arith, record_long r h)))

pub named : (s r : List ℕ) → length s ≡ session_length → record_good r ≡ true → (q : Request) → q ≡ request_in r → Named s q
named s r l h q e = rw e (record { long = l; asked = asked r h })

pub performed_record : (s r : List ℕ) (q : Request) → q ≡ request_in r → (a : Answer) (s₁ : List ℕ) → Performed s (step_in q) a s₁ → Performed s (step_in (request_in r)) a s₁
performed_record s r q e a s₁ p = rw (← e) p

pub ready : (s : List ℕ) (q : Request) → Named s q → first_failed (first_conditions s (step_in q)) ≡ 0 → Ready s (step_in q)
ready s q n e =
    let f : Entered (view s) q = entered (view s) q n.asked in
    record {
      long = n.long;
      process = rw f.process n.asked.process;
      object = rw f.object n.asked.object;
      user = λ u h. in_limit u (code_at q.code).user n.asked.user (sym f.user ∙ h);
      passed = e;
    }
  where
    in_limit : (u : ℕ) (b : Bool) → (b ≡ true → q.u < user_limit) → cond b (some q.u) none ≡ some u → u < user_limit
    in_limit u true l h = subst (λ (x : ℕ). x < user_limit) (some_inj h) (l refl)
    in_limit u false l h = absurd (none_some h)

-- ---- the step of a request, spelled by its code

pub ready_as : (s : List ℕ) (q : Request) (t : Step) → step_in q ≡ t → Ready s (step_in q) → Ready s t
ready_as s q t e h = subst (Ready s) e h

pub done_as : (s : List ℕ) (q : Request) (t : Step) → step_in q ≡ t → (a : Answer) (s₁ : List ℕ) → Done s t a s₁ → Done s (step_in q) a s₁
done_as s q t e a s₁ d = subst (λ (x : Step). Done s x a s₁) (sym e) d

-- an end or a delete, which frees the row of o
pub released : (s : List ℕ) (q : Request) → (step_in q ≡ end q.o) ⊎ (step_in q ≡ delete q.p q.o) → (a : Answer) (s₁ : List ℕ)
    → (a ≡ quiet q.o 0 no_position) × (s₁ ≡ put_row s q.o free_words) → Done s (step_in q) a s₁
unfolding entry meet_good every
released s q (inl e) a s₁ h = done_as s q (end q.o) e a s₁ (left_done s (end q.o) refl refl refl a s₁ h)
released s q (inr e) a s₁ h = done_as s q (delete q.p q.o) e a s₁ (left_done s (delete q.p q.o) refl refl refl a s₁ h)
