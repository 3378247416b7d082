-- The history of an explanation whose last record is not refused, and the reason on it.
use Prim.Native.Nat.{ℕ, suc, ◌+◌, ◌-◌, ◌<◌}
use native.Mathlib.Omega.{arith}
use native.Mathlib.Nat.{zero-add}
use mathlib.Core.Path.{◌≡◌, refl, sym, ap, ◌∙◌}
use mathlib.Core.Bool.{true, false}
use mathlib.Core.List.{List, [], ◌∷◌, ◌++◌, append-nil}
use mathlib.Core.Logic.{◌⊎◌, inl, inr}
use lib.ListN.{length, get_or, length-append, get_or-append}
use lib.Seq.{take_at, drop_at}
use Rattle.lists.proofs.Bools.{decide, clash}
use Rattle.answers.specs.declared.Answer.{Answer}
use Rattle.answers.specs.Answers.{quiet, accepted, is_blocked, is_refused}
use Rattle.answers.proofs.Cases.{given_cases, blocked_unaccepted}
use Rattle.image.specs.Policy.{Policy}
use Rattle.chains.specs.History.{Step, read, write, append, exec, fork, new_file, new_volatile, end, delete, History, ◌▸◌, step_count}
use Rattle.chains.specs.Guards.{writing}
use Rattle.chains.specs.Demand.{history_from, history_of}
use Rattle.chains.proofs.Theorems.{history_append}
use Rattle.records.specs.Records.{step_of}
use Rattle.monitor.specs.Steps.{step_asked, step_answer, step_effect}
use Rattle.monitor.specs.Runs.{step_on, run_answers, run_effect}
use Rattle.monitor.proofs.Guarded.{blocked_step}
use Rattle.monitor.proofs.RunHistories.{run_answers_append}
use Rattle.witness.proofs.Theorems.{told_given}
use Rattle.witness.specs.Told.{front_of, last_of, told_history, numbers_from, accepted_numbers, told_numbers}
use Rattle.certificate.specs.Origins.{Origin, own, made, started, nowhere, origin, before}
use Rattle.certificate.specs.Whys.{reason_by, reason_of, links_by, last_from, last_answer, run_chain}
use Rattle.certificate.proofs.OriginLaws.{Inside, inside, before_earlier, before_size}
use Rattle.certificate.proofs.NumberLaws.{history_accepted, history_skipped, numbers_accepted, numbers_skipped, accepted_size}
use Rattle.certificate.proofs.ReasonLaws.{run_below, exec_same}

-- ---- the last record

pub record Ended (rs : List (List ℕ)) : Type 0 where
  pub front : List (List ℕ)
  pub last : List ℕ
  pub is : rs ≡ front ++ (last ∷ [])

pub ended : (rs : List (List ℕ)) → 0 < length rs → Ended rs
ended [] l = absurd (omega arith)
ended (r ∷ []) l = record { front = []; last = r; is = refl }
ended (r ∷ q ∷ rs) l = let x = ended (q ∷ rs) (omega arith) in record { front = r ∷ x.front; last = x.last; is = ap (λ (k : List (List ℕ)). r ∷ k) x.is }

last_snoc : (d : Answer) (l : List Answer) (a : Answer) → last_from d (l ++ (a ∷ [])) ≡ a
unfolding last_from
last_snoc d [] a = refl
last_snoc d (b ∷ l) a = last_snoc b l a

answer_snoc : (l : List Answer) (a : Answer) → last_answer (l ++ (a ∷ [])) ≡ a
unfolding last_answer
answer_snoc l a = last_snoc (quiet 0 0 0) l a

numbers_none : (n : ℕ) (s : List ℕ) → numbers_from n s [] ≡ []
unfolding numbers_from
numbers_none n s = refl

run_none : (s : List ℕ) → run_effect s [] ≡ s
unfolding run_effect
run_none s = refl

numbers_append : (n : ℕ) (s : List ℕ) (qs rs : List (List ℕ)) → numbers_from n s (qs ++ rs) ≡ numbers_from n s qs ++ numbers_from (n + length qs) (run_effect s qs) rs
numbers_append n s [] rs = let z : n + 0 ≡ n = omega arith in rw (numbers_none n s, run_none s, z)
numbers_append n s (q ∷ qs) rs = on (numbers_append (suc n) (step_effect s q) qs rs) (decide (accepted (step_answer s q)))
  where
    z : suc n + length qs ≡ n + suc (length qs)
    z = omega arith

    run : run_effect (step_effect s q) qs ≡ run_effect s (q ∷ qs)
    run = unfold run_effect step_on in refl

    on : numbers_from (suc n) (step_effect s q) (qs ++ rs) ≡ numbers_from (suc n) (step_effect s q) qs ++ numbers_from (suc n + length qs) (run_effect (step_effect s q) qs) rs
        → (accepted (step_answer s q) ≡ true) ⊎ (accepted (step_answer s q) ≡ false)
        → numbers_from n s (q ∷ (qs ++ rs)) ≡ numbers_from n s (q ∷ qs) ++ numbers_from (n + suc (length qs)) (run_effect s (q ∷ qs)) rs
    on ih (inl a) = rw (numbers_accepted s q a n (qs ++ rs), numbers_accepted s q a n qs, ← z, ← run) (ap (λ (l : List ℕ). n ∷ l) ih)
    on ih (inr a) = rw (numbers_skipped s q a n (qs ++ rs), numbers_skipped s q a n qs, ← z, ← run) ih

-- ---- one more record, which is not refused

module _ (s : List ℕ) (qs : List (List ℕ)) (r : List ℕ) where
  one_long : length (qs ++ (r ∷ [])) - 1 ≡ length qs
  one_long = omega (arith, length-append qs (r ∷ []))

  front_is : front_of (qs ++ (r ∷ [])) ≡ qs
  unfolding front_of
  front_is = take_at qs (r ∷ []) (length (qs ++ (r ∷ [])) - 1) (sym one_long)

  last_is : last_of (qs ++ (r ∷ [])) ≡ r ∷ []
  unfolding last_of
  last_is = drop_at qs (r ∷ []) (length (qs ++ (r ∷ [])) - 1) (sym one_long)

  pub last_answer_lem : last_answer (run_answers s (qs ++ (r ∷ []))) ≡ step_answer (run_effect s qs) r
  last_answer_lem =
      ap last_answer (run_answers_append s qs (r ∷ []) ∙ ap (λ (l : List Answer). run_answers s qs ++ l) one)
      ∙ answer_snoc (run_answers s qs) (step_answer (run_effect s qs) r)
    where
      one : run_answers (run_effect s qs) (r ∷ []) ≡ step_answer (run_effect s qs) r ∷ []
      one = unfold run_answers step_on in refl

  history_split : history_of step_on step_of s (qs ++ (r ∷ [])) ≡ history_from step_on step_of (history_of step_on step_of s qs) (run_effect s qs) (r ∷ [])
  unfolding run_effect
  history_split = history_append step_on step_of s qs (r ∷ [])

  numbers_split : accepted_numbers s (qs ++ (r ∷ [])) ≡ accepted_numbers s qs ++ numbers_from (length qs) (run_effect s qs) (r ∷ [])
  unfolding accepted_numbers
  numbers_split = rw (← zero-add (length qs)) (numbers_append 0 s qs (r ∷ []))

  module _ (a : accepted (step_answer (run_effect s qs) r) ≡ true) where
    accepted_history : history_of step_on step_of s (qs ++ (r ∷ [])) ≡ history_of step_on step_of s qs ▸ step_asked r
    accepted_history = history_split ∙ history_accepted (run_effect s qs) r a (history_of step_on step_of s qs) []

    accepted_numbers_lem : accepted_numbers s (qs ++ (r ∷ [])) ≡ accepted_numbers s qs ++ (length qs ∷ [])
    accepted_numbers_lem =
        numbers_split
        ∙ ap (λ (l : List ℕ). accepted_numbers s qs ++ l)
        (numbers_accepted (run_effect s qs) r a (length qs) [] ∙ ap (λ (l : List ℕ). length qs ∷ l) (numbers_none (suc (length qs)) (step_effect (run_effect s qs) r)))

  module _ (a : accepted (step_answer (run_effect s qs) r) ≡ false) where
    skipped_history : history_of step_on step_of s (qs ++ (r ∷ [])) ≡ history_of step_on step_of s qs
    skipped_history = history_split ∙ history_skipped (run_effect s qs) r a (history_of step_on step_of s qs) []

    skipped_numbers : accepted_numbers s (qs ++ (r ∷ [])) ≡ accepted_numbers s qs
    skipped_numbers =
        numbers_split
        ∙ ap (λ (l : List ℕ). accepted_numbers s qs ++ l) (numbers_skipped (run_effect s qs) r a (length qs) [] ∙ numbers_none (suc (length qs)) (step_effect (run_effect s qs) r))
        ∙ append-nil (accepted_numbers s qs)

  module _ (g : is_refused (step_answer (run_effect s qs) r) ≡ false) where
    pub told_numbers_lem : told_numbers s (qs ++ (r ∷ [])) ≡ accepted_numbers s qs ++ (length qs ∷ [])
    unfolding told_numbers
    told_numbers_lem = rw (front_is, last_is, g, one_long)

-- ---- one more step, which writes, and one more number

writing_origin : (h : History) (x : Step) (c : ℕ) → writing x ≡ true → origin (h ▸ x) c ≡ origin h c
unfolding origin
writing_origin h (read p o) c w = refl
writing_origin h (write p o) c w = refl
writing_origin h (append p o) c w = refl
writing_origin h (exec p o u) c w = clash w refl
writing_origin h (fork p o) c w = clash w refl
writing_origin h (new_file p o u) c w = clash w refl
writing_origin h (new_volatile p o) c w = clash w refl
writing_origin h (end p) c w = clash w refl
writing_origin h (delete p o) c w = clash w refl

module _ (P : Policy) (h : History) (x : Step) (ns : List ℕ) (n t : ℕ) (count : step_count h ≡ length ns) where
  same_number : (i : ℕ) → i < step_count h → get_or (ns ++ (n ∷ [])) i 0 ≡ get_or ns i 0
  same_number i l = get_or-append ns (n ∷ []) 0 i (omega arith)

  reason_more : (a : Origin) → Inside h a → reason_by P (h ▸ x) (ns ++ (n ∷ [])) t a ≡ reason_by P h ns t a
  reason_more (own c) l = refl
  reason_more (made i u) l = rw (same_number i l)
  reason_more (started i o u) l =
      rw (same_number i l, before_earlier i h x l)
      (exec_same P (ns ++ (n ∷ [])) ns (step_count (before i h)) (get_or ns i 0) u t (λ j k. same_number j (omega (arith, k, l, before_size i h l)))
      (run_chain P (before i h) t o P.containers) (run_below P (before i h) t o P.containers))
  reason_more nowhere l = refl

  links_more : (s : List ℕ) (rs : List (List ℕ)) (a : Origin) → Inside h a → (links : List ℕ) → links_by P s rs (ns ++ (n ∷ [])) t a links ≡ links_by P s rs ns t a links
  links_more s rs (own c) l links = refl
  links_more s rs (made i u) l links = refl
  links_more s rs (started i o u) l links = rw (same_number i l)
  links_more s rs nowhere l links = refl

-- ---- the reason on the paper's history is that on the history of the explanation

module _ (P : Policy) (s : List ℕ) (qs : List (List ℕ)) (r : List ℕ) (c t : ℕ) (g : is_refused (step_answer (run_effect s qs) r) ≡ false) where
  abbrev h : History
  h = history_of step_on step_of s qs

  abbrev ns : List ℕ
  ns = accepted_numbers s qs

  abbrev rs : List (List ℕ)
  rs = qs ++ (r ∷ [])

  pub reason_told : reason_of P (told_history s rs) (told_numbers s rs) c t ≡ reason_by P (history_of step_on step_of s rs) (accepted_numbers s rs) t (origin (history_of step_on step_of s rs) c)
  unfolding reason_of
  reason_told = rw (told_given s qs r g, told_numbers_lem s qs r g) (on (given_cases (step_answer (run_effect s qs) r) g))
    where
      on : (accepted (step_answer (run_effect s qs) r) ≡ true) ⊎ (is_blocked (step_answer (run_effect s qs) r) ≡ true)
          → reason_by P (h ▸ step_asked r) (ns ++ (length qs ∷ [])) t (origin (h ▸ step_asked r) c)
          ≡ reason_by P (history_of step_on step_of s rs) (accepted_numbers s rs) t (origin (history_of step_on step_of s rs) c)
      on (inl a) = rw (accepted_history s qs r a, accepted_numbers_lem s qs r a)
      on (inr b) =
          let a : accepted (step_answer (run_effect s qs) r) ≡ false = blocked_unaccepted (step_answer (run_effect s qs) r) b in
          rw (skipped_history s qs r a, skipped_numbers s qs r a, writing_origin h (step_asked r) c (blocked_step (run_effect s qs) r b))
          (reason_more P h (step_asked r) ns (length qs) t (accepted_size s qs) (origin h c) (inside h c))

  pub links_told : (links : List ℕ)
      → links_by P s rs (told_numbers s rs) t (origin (told_history s rs) c) links ≡ links_by P s rs (accepted_numbers s rs) t (origin (history_of step_on step_of s rs) c) links
  links_told links = rw (told_given s qs r g, told_numbers_lem s qs r g) (on (given_cases (step_answer (run_effect s qs) r) g))
    where
      on : (accepted (step_answer (run_effect s qs) r) ≡ true) ⊎ (is_blocked (step_answer (run_effect s qs) r) ≡ true)
          → links_by P s rs (ns ++ (length qs ∷ [])) t (origin (h ▸ step_asked r) c) links
          ≡ links_by P s rs (accepted_numbers s rs) t (origin (history_of step_on step_of s rs) c) links
      on (inl a) = rw (accepted_history s qs r a, accepted_numbers_lem s qs r a)
      on (inr b) =
          let a : accepted (step_answer (run_effect s qs) r) ≡ false = blocked_unaccepted (step_answer (run_effect s qs) r) b in
          rw (skipped_history s qs r a, skipped_numbers s qs r a, writing_origin h (step_asked r) c (blocked_step (run_effect s qs) r b))
          (links_more P h (step_asked r) ns (length qs) t (accepted_size s qs) s rs (origin h c) (inside h c) links)
