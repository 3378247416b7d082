-- The marks are the origins: each stands for the origin of its container, with the record of the step.
use Prim.Native.Nat.{ℕ, suc, ◌+◌, ◌<◌}
use native.Mathlib.Omega.{arith}
use native.Mathlib.Nat.{zero-add}
use mathlib.Core.Path.{◌≡◌, refl, sym, ap, subst, ◌∙◌}
use mathlib.Core.Bool.{Bool, true, false, cond}
use mathlib.Core.List.{List, [], ◌∷◌, ◌++◌, append-nil, append_assoc}
use mathlib.Core.Logic.{◌⊎◌, inl, inr}
use mathlib.Core.Option.{some}
use lib.Dec.{eqb}
use lib.ListN.{length, take, get_or, set, get_elem?, length-append, length-set, get_or-append}
use lib.Seq.{get_or-set_same, get_or-set_other, get_or-append_seam, set-get_or}
use borrow.Author.Tests.{eqb-true, eqb-false}
use Rattle.lists.specs.Counting.{count_from}
use Rattle.lists.proofs.Bools.{decide}
use Rattle.lists.proofs.Counting.{count_length, count_at}
use Rattle.answers.specs.Answers.{accepted}
use Rattle.image.specs.Limits.{container_limit}
use Rattle.chains.specs.History.{Step, read, write, append, exec, fork, new_file, new_volatile, end, delete, History, start, ◌▸◌, step_count, receiver}
use Rattle.chains.specs.Demand.{history_from, history_of}
use Rattle.records.specs.declared.Request.{Request}
use Rattle.records.specs.Codes.{step_with}
use Rattle.records.specs.Records.{step_of, request_in, step_in, Asked}
use Rattle.records.proofs.CodeLaws.{by_code}
use Rattle.records.proofs.RecordLaws.{asked}
use Rattle.monitor.specs.Steps.{step_asked, step_answer, step_effect}
use Rattle.monitor.specs.Runs.{step_on, run_effect}
use Rattle.monitor.proofs.StepLaws.{step_record, accepted_zero}
use Rattle.witness.specs.Told.{numbers_from, accepted_numbers}
use Rattle.certificate.specs.Origins.{Origin, own, made, started, nowhere, origin}
use Rattle.certificate.specs.Marks.{nowhere_mark, record_mark, next_mark, marks_after, marks_on, marks_all}
use Rattle.certificate.proofs.NumberLaws.{history_accepted, history_skipped, numbers_accepted, numbers_skipped}

-- ---- what an accepted record asks for

pub accepted_asked : (s r : List ℕ) → accepted (step_answer s r) ≡ true → Asked (request_in r)
accepted_asked s r a = asked r (step_record s r (accepted_zero s r a))

-- the containers that a step names
abbrev Within : Step → Type 0
Within (read p o) = (p < container_limit) × (o < container_limit)
Within (write p o) = (p < container_limit) × (o < container_limit)
Within (append p o) = (p < container_limit) × (o < container_limit)
Within (exec p o u) = (p < container_limit) × (o < container_limit)
Within (fork p o) = (p < container_limit) × (o < container_limit)
Within (new_file p o u) = (p < container_limit) × (o < container_limit)
Within (new_volatile p o) = (p < container_limit) × (o < container_limit)
Within (end p) = (p < container_limit) × (p < container_limit)
Within (delete p o) = (p < container_limit) × (o < container_limit)

within : (q : Request) → Asked q → Within (step_in q)
unfolding step_in step_with
within q a =
    by_code (λ q. q.p < container_limit → q.o < container_limit → Within (step_in q))
    (λ p o u x y. (x, y)) (λ p o u x y. (x, y)) (λ p o u x y. (x, y)) (λ p o u x y. (x, y)) (λ p o u x y. (x, y))
    (λ p o u x y. (x, y)) (λ p o u x y. (x, y)) (λ p o u x y. (x, x)) (λ p o u x y. (x, y))
    q a.code_low a.code_high a.process a.object

-- ---- what a mark stands for: Is says which record has which number

module _ (Is : ℕ → List ℕ → Type 0) where
  -- record number n asks for the step x
  abbrev pub Asks : ℕ → Step → Type 0
  Asks n x = (r : List ℕ) × Is n r × (step_asked r ≡ x)

  abbrev pub Marked : List ℕ → ℕ → Origin → Type 0
  Marked ns v (own c) = (v ≡ c) × (c < container_limit)
  Marked ns v (made i u) = (i < length ns) × (v ≡ record_mark (get_or ns i 0)) × ((p o : ℕ) × Asks (get_or ns i 0) (new_file p o u))
  Marked ns v (started i o u) = (i < length ns) × (v ≡ record_mark (get_or ns i 0)) × ((p : ℕ) × Asks (get_or ns i 0) (exec p o u))
  Marked ns v nowhere = v ≡ nowhere_mark

  pub record MarksGood (h : History) (ns marks : List ℕ) : Type 0 where
    pub long : length marks ≡ container_limit
    pub count : length ns ≡ step_count h
    pub each : (c : ℕ) → c < container_limit → Marked ns (get_or marks c 0) (origin h c)

  -- one more number changes nothing before it
  marked_more : (ns : List ℕ) (n v : ℕ) (a : Origin) → Marked ns v a → Marked (ns ++ (n ∷ [])) v a
  marked_more ns n v (own c) m = m
  marked_more ns n v (made i u) (l, e, (p, o, x)) =
      let q : get_or (ns ++ (n ∷ [])) i 0 ≡ get_or ns i 0 = get_or-append ns (n ∷ []) 0 i l in
      (omega (arith, length-append ns (n ∷ []), l), e ∙ ap record_mark (sym q), (p, o, subst (λ (k : ℕ). Asks k (new_file p o u)) (sym q) x))
  marked_more ns n v (started i o u) (l, e, (p, x)) =
      let q : get_or (ns ++ (n ∷ [])) i 0 ≡ get_or ns i 0 = get_or-append ns (n ∷ []) 0 i l in
      (omega (arith, length-append ns (n ∷ []), l), e ∙ ap record_mark (sym q), (p, subst (λ (k : ℕ). Asks k (exec p o u)) (sym q) x))
  marked_more ns n v nowhere m = m

  -- a mark is put at a container
  marked_put : (h : History) (ns marks : List ℕ) → length marks ≡ container_limit → ((c : ℕ) → c < container_limit → Marked ns (get_or marks c 0) (origin h c))
      → (to v : ℕ) (a : Origin) → to < container_limit → Marked ns v a
      → (c : ℕ) → c < container_limit → Marked ns (get_or (set marks to v) c 0) (cond (eqb c to) a (origin h c))
  marked_put h ns marks e each to v a l m c k = on (eqb c to) refl
    where
      on : (b : Bool) → eqb c to ≡ b → Marked ns (get_or (set marks to v) c 0) (cond b a (origin h c))
      on true t =
          let z : get_or (set marks to v) c 0 ≡ v = ap (λ (x : ℕ). get_or (set marks to v) x 0) (eqb-true c to t) ∙ get_or-set_same marks to v 0 (omega arith) in
          subst (λ (x : ℕ). Marked ns x a) (sym z) m
      on false t =
          let z : get_or (set marks to v) c 0 ≡ get_or marks c 0 = get_or-set_other marks to c v 0 (eqb-false c to t) in
          subst (λ (x : ℕ). Marked ns x (origin h c)) (sym z) (each c k)

  -- one more step, by record number n
  module _ (h : History) (ns marks : List ℕ) (n : ℕ) (g : MarksGood h ns marks) where
    each_more : (c : ℕ) → c < container_limit → Marked (ns ++ (n ∷ [])) (get_or marks c 0) (origin h c)
    each_more c l = marked_more ns n (get_or marks c 0) (origin h c) (g.each c l)

    new_number : get_or (ns ++ (n ∷ [])) (step_count h) 0 ≡ n
    new_number = rw (← g.count) (get_or-append_seam ns n [] 0)

    new_inside : step_count h < length (ns ++ (n ∷ []))
    new_inside = omega (arith, g.count, length-append ns (n ∷ []))

    put : (to v : ℕ) (a : Origin) → to < container_limit → Marked (ns ++ (n ∷ [])) v a
        → (c : ℕ) → c < container_limit → Marked (ns ++ (n ∷ [])) (get_or (set marks to v) c 0) (cond (eqb c to) a (origin h c))
    put = marked_put h (ns ++ (n ∷ [])) marks g.long each_more

    -- what is put is what stands there
    kept : (to : ℕ) (c : ℕ) → c < container_limit → Marked (ns ++ (n ∷ [])) (get_or (set marks to (get_or marks to 0)) c 0) (origin h c)
    kept to c l = rw (set-get_or marks to 0) (each_more c l)

    each_next : (x : Step) → Within x → Asks n x → (c : ℕ) → c < container_limit
        → Marked (ns ++ (n ∷ [])) (get_or (marks_after marks n x) c 0) (origin (h ▸ x) c)
    unfolding marks_after next_mark origin
    each_next (read p o) w k = kept p
    each_next (write p o) w k = kept o
    each_next (append p o) w k = kept o
    each_next (exec p o u) w k =
        put p (record_mark n) (started (step_count h) o u) w.0
        (new_inside, ap record_mark (sym new_number), (p, subst (λ (j : ℕ). Asks j (exec p o u)) (sym new_number) k))
    each_next (fork p o) w k = put o (get_or marks p 0) (origin h p) w.1 (each_more p w.0)
    each_next (new_file p o u) w k =
        put o (record_mark n) (made (step_count h) u) w.1
        (new_inside, ap record_mark (sym new_number), (p, o, subst (λ (j : ℕ). Asks j (new_file p o u)) (sym new_number) k))
    each_next (new_volatile p o) w k = put o nowhere_mark nowhere w.1 refl
    each_next (end p) w k = put p nowhere_mark nowhere w.0 refl
    each_next (delete p o) w k = put o nowhere_mark nowhere w.1 refl

    good_next : (x : Step) → Within x → Asks n x → MarksGood (h ▸ x) (ns ++ (n ∷ [])) (marks_after marks n x)
    good_next x w k =
        record {
          long = unfold marks_after in (length-set marks (receiver x) (next_mark marks n x) ∙ g.long);
          count = omega (arith, g.count, length-append ns (n ∷ []));
          each = each_next x w k;
        }

  -- ---- a list of records

  module _ (s r : List ℕ) (marks : List ℕ) (n : ℕ) where
    on_accepted : accepted (step_answer s r) ≡ true → marks_on marks n s r ≡ marks_after marks n (step_asked r)
    unfolding marks_on
    on_accepted a = rw a

    on_skipped : accepted (step_answer s r) ≡ false → marks_on marks n s r ≡ marks
    unfolding marks_on
    on_skipped a = rw a

  good_list : (h : History) (n : ℕ) (ns marks s : List ℕ) (rs : List (List ℕ))
      → ((j : ℕ) (r : List ℕ) → get_elem? rs j ≡ some r → accepted (step_answer (run_effect s (take j rs)) r) ≡ true → Is (n + j) r)
      → MarksGood h ns marks → MarksGood (history_from step_on step_of h s rs) (ns ++ numbers_from n s rs) (marks_all marks n s rs)
  unfolding marks_all
  good_list h n ns marks s [] is g = unfold numbers_from in (rw (append-nil ns) g)
  good_list h n ns marks s (r ∷ rs) is g =
      on (λ k ms ws. good_list k (suc n) ms ws (step_effect s r) rs (λ j x e a. let f : suc n + j ≡ n + suc j = omega arith in rw f (is (suc j) x e (unfold run_effect step_on in a))))
      (decide (accepted (step_answer s r)))
    where
      first : accepted (step_answer s r) ≡ true → Is n r
      first a = let z : n + 0 ≡ n = omega arith in rw z at (is 0 r refl (unfold run_effect in a))

      on : ((k : History) (ms ws : List ℕ) → MarksGood k ms ws
          → MarksGood (history_from step_on step_of k (step_effect s r) rs) (ms ++ numbers_from (suc n) (step_effect s r) rs) (marks_all ws (suc n) (step_effect s r) rs))
          → (accepted (step_answer s r) ≡ true) ⊎ (accepted (step_answer s r) ≡ false)
          → MarksGood (history_from step_on step_of h s (r ∷ rs)) (ns ++ numbers_from n s (r ∷ rs)) (marks_all (marks_on marks n s r) (suc n) (step_effect s r) rs)
      on ih (inl a) =
          rw (history_accepted s r a h rs, numbers_accepted s r a n rs, on_accepted s r marks n a, ← append_assoc ns (n ∷ []) (numbers_from (suc n) (step_effect s r) rs))
          (ih (h ▸ step_asked r) (ns ++ (n ∷ [])) (marks_after marks n (step_asked r))
          (good_next h ns marks n g (step_asked r) (unfold step_asked in within (request_in r) (accepted_asked s r a)) (r, first a, refl)))
      on ih (inr a) = rw (history_skipped s r a h rs, numbers_skipped s r a n rs, on_skipped s r marks n a) (ih h ns marks g)

-- ---- from the start

-- record number n of rs on the session s is r, and is accepted
abbrev pub AcceptedRecord : List ℕ → List (List ℕ) → ℕ → List ℕ → Type 0
AcceptedRecord s rs n r = (get_elem? rs n ≡ some r) × (accepted (step_answer (run_effect s (take n rs)) r) ≡ true)

pub good_start : (Is : ℕ → List ℕ → Type 0) → MarksGood Is start [] (count_from 0 container_limit)
unfolding origin
good_start Is =
    record {
      long = count_length 0 container_limit;
      count = refl;
      each = λ c l. (count_at 0 container_limit c l ∙ zero-add c, l);
    }

pub good_all : (s : List ℕ) (rs : List (List ℕ))
    → MarksGood (AcceptedRecord s rs) (history_of step_on step_of s rs) (accepted_numbers s rs) (marks_all (count_from 0 container_limit) 0 s rs)
unfolding accepted_numbers
good_all s rs =
    good_list (AcceptedRecord s rs) start 0 [] (count_from 0 container_limit) s rs
    (λ j r e a. let z : 0 + j ≡ j = omega arith in rw z (e, a)) (good_start (AcceptedRecord s rs))
