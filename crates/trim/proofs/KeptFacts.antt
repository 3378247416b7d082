-- What holds of the kept positions, of their records, and of the refusals.
use Prim.Native.Nat.{ℕ, zero, suc, ◌+◌, ◌*◌, ◌-◌, ◌/◌, ◌%◌, ◌≤◌, ◌<◌}
use native.Mathlib.Omega.{arith}
use native.Mathlib.Nat.{zero-add}
use native.Mathlib.Decide.{dec_lt}
use mathlib.Core.Path.{◌≡◌, refl, sym, subst, ap, ◌∙◌}
use mathlib.Core.Logic.{◌⊎◌, inl, inr, ◌↔◌, ◌≢◌, ⊎_elim}
use mathlib.Core.Bool.{Bool, true, false, ◌&&◌}
use mathlib.Core.List.{List, [], ◌∷◌, ◌++◌}
use lib.Dec.{leb, ltb}
use lib.ListN.{length, take}
use lib.ListN as ListN
use lib.Seq.{drop-drop, take_at, drop_at}
use borrow.Author.Tests.{lt-ltb, ltb-true, le-leb, leb-true, eq-eqb, ne_eqb}
use Rattle.lists.specs.Lists.{every, elem}
use Rattle.lists.specs.Counting.{count_from}
use Rattle.lists.specs.Conditions.{numbers_of, numbers_distinct}
use Rattle.lists.proofs.Bools.{and_in, and_0, and_1, clash, decide}
use Rattle.lists.proofs.Every.{every_0, every_1, every_nil, every_cons, every_append, every_imp, every_left}
use Rattle.lists.proofs.Counting.{count_length}
use Rattle.lists.proofs.Conditions.{zero_or_not, given_among}
use Rattle.answers.specs.Refusals.{lent_length, trim_trace}
use Rattle.answers.specs.Answers.{accepted, is_alert}
use Rattle.answers.proofs.Cases.{alert_accepted}
use Rattle.fields.specs.Bytes.{Bytes, cut}
use Rattle.fields.specs.Writing.{overwritten}
use Rattle.image.specs.Image.{image_conditions, check_of, policy_in}
use Rattle.session.specs.Session.{start_of}
use Rattle.chains.specs.History.{receiver}
use Rattle.chains.specs.Chains.{Forbidden}
use Rattle.chains.specs.Demand.{judged}
use Rattle.records.specs.Records.{record_length}
use Rattle.records.specs.Traces.{trace_records}
use Rattle.operations.specs.View.{view}
use Rattle.monitor.specs.Steps.{step_asked, step_answer}
use Rattle.monitor.specs.Runs.{step_on, run_answers, run_effect, history_in}
use Rattle.monitor.proofs.StepLaws.{made_answer_lem, accepted_zero}
use Rattle.monitor.proofs.AnswerNumbers.{new_quiet}
use Rattle.monitor.proofs.RunHistories.{run_answers_append}
use Rattle.monitor.proofs.DemandLaws.{alert_last}
use Rattle.monitor.proofs.Theorems.{demand3}
use Rattle.trim.specs.Cuts.{pass, Cut, none, keep, drop}
use Rattle.trim.specs.Trims.{trim_limit, record_at, records_at, cut_counts, last_of, front_of, kept_front, kept_of, trace_good, trim_conditions, trim_refusal, positions_of, trim_answer, trim_effect}
use Rattle.trim.proofs.MinimalTraces.{cut_every, trim_fixed, trim_minimal, trim_counts, trim_cut}
use Rattle.trim.proofs.ReplayLaws.{records_append}
use Rattle.trim.proofs.WholeTraces.{records_count, every_between, short_counts}
use Rattle.trim.proofs.TrimCases.{refusal_9, refusal_image, refusal_trace, refusal_good}

-- ---- lists that rise

abbrev Rises : List ℕ → Type 0
Rises [] = Unit {0}
Rises (k ∷ ks) = (every (ltb k) ks ≡ true) × Rises ks

rises_count : (k n : ℕ) → Rises (count_from k n)
unfolding count_from
rises_count k zero = tt
rises_count k (suc n) = (every_between (ltb k) (suc k) n (λ b l h. lt-ltb k b (omega arith)), rises_count (suc k) n)

rises_cut : {ks ls : List ℕ} → Cut ks ls → Rises ls → Rises ks
rises_cut none h = h
rises_cut (keep {k} {ks} {ls} c) h = (cut_every (ltb k) c h.0, rises_cut c h.1)
rises_cut (drop {k} {ks} {ls} c) h = rises_cut c h.1

rises_last : (ks : List ℕ) (n : ℕ) → Rises ks → every (λ k. ltb k n) ks ≡ true → Rises (ks ++ (n ∷ []))
rises_last [] n h b = (every_nil (ltb n), tt)
rises_last (k ∷ ks) n h b =
    (every_append (ltb k) ks (n ∷ []) h.0 (every_cons (ltb k) n [] (every_0 (λ k. ltb k n) k ks b) (every_nil (ltb k))), rises_last ks n h.1 (every_1 (λ k. ltb k n) k ks b))

rises_pair : (xs : List ℕ) (a b : ℕ) (ys : List ℕ) → Rises (xs ++ (a ∷ b ∷ ys)) → a < b
rises_pair [] a b ys h = ltb-true a b (every_0 (ltb a) b ys h.0)
rises_pair (x ∷ xs) a b ys h = rises_pair xs a b ys h.1

-- ---- the records at all positions

count_snoc : (k n : ℕ) → count_from k n ++ ((k + n) ∷ []) ≡ count_from k (suc n)
unfolding count_from
count_snoc k zero = let z : k + 0 ≡ k = omega arith in rw z
count_snoc k (suc n) = let z : k + suc n ≡ suc k + n = omega arith in rw z (ap (λ (l : List ℕ). k ∷ l) (count_snoc (suc k) n))

cut_records : (t : List ℕ) (k n : ℕ) → records_at t (count_from k n) ≡ cut record_length n (ListN.drop (k * record_length) t)
unfolding records_at record_at count_from cut
cut_records t k zero = refl
cut_records t k (suc n) =
    let z : k * record_length + record_length ≡ suc k * record_length = omega arith in
    ap (λ (l : List (List ℕ)). take record_length (ListN.drop (k * record_length) t) ∷ l)
    (cut_records t (suc k) n ∙ ap (cut record_length n) (sym (drop-drop record_length (k * record_length) t ∙ ap (λ (m : ℕ). ListN.drop m t) z)))

pub all_records : (t : List ℕ) → 1 ≤ length (trace_records t) → records_at t (front_of t ++ (last_of t ∷ [])) ≡ trace_records t
unfolding front_of last_of
all_records t l =
    let n : ℕ = length (trace_records t) - 1 in
    let z : n ≡ 0 + n = sym (zero-add n) in
    let s : suc n ≡ (length t + (record_length - 1)) / record_length = omega (arith, l, records_count t) in
    ap (λ (m : ℕ). records_at t (count_from 0 n ++ (m ∷ []))) z
    ∙ ap (records_at t) (count_snoc 0 n)
    ∙ cut_records t 0 (suc n)
    ∙ ap (λ (m : ℕ). cut record_length m t) s
    ∙ (unfold trace_records in refl)

-- ---- records and their last

module _ (s t : List ℕ) (last : ℕ) (ks : List ℕ) where
  snoc_records : records_at t (ks ++ (last ∷ [])) ≡ records_at t ks ++ (record_at t last ∷ [])
  unfolding records_at
  snoc_records = records_append t ks (last ∷ [])

  snoc_answers : run_answers s (records_at t (ks ++ (last ∷ []))) ≡ run_answers s (records_at t ks) ++ (step_answer (run_effect s (records_at t ks)) (record_at t last) ∷ [])
  snoc_answers = ap (run_answers s) snoc_records ∙ run_answers_append s (records_at t ks) (record_at t last ∷ []) ∙ (unfold run_answers step_on in refl)

  module _ (h : cut_counts s t last ks ≡ true) where
    front_accepted : every accepted (run_answers s (records_at t ks)) ≡ true
    unfolding cut_counts
    front_accepted = and_0 (every accepted (run_answers s (records_at t ks))) (is_alert (step_answer (run_effect s (records_at t ks)) (record_at t last))) h

    last_alerts : is_alert (step_answer (run_effect s (records_at t ks)) (record_at t last)) ≡ true
    unfolding cut_counts
    last_alerts = and_1 (every accepted (run_answers s (records_at t ks))) h

    snoc_accepted : every accepted (run_answers s (records_at t (ks ++ (last ∷ [])))) ≡ true
    snoc_accepted =
        ap (every accepted) snoc_answers
        ∙ every_append accepted (run_answers s (records_at t ks)) (step_answer (run_effect s (records_at t ks)) (record_at t last) ∷ []) front_accepted
        (every_cons accepted (step_answer (run_effect s (records_at t ks)) (record_at t last)) []
        (alert_accepted (step_answer (run_effect s (records_at t ks)) (record_at t last)) last_alerts) (every_nil accepted))

counts_in : (s t : List ℕ) (last : ℕ) (ks : List ℕ) → every accepted (run_answers s (records_at t ks)) ≡ true
    → is_alert (step_answer (run_effect s (records_at t ks)) (record_at t last)) ≡ true → cut_counts s t last ks ≡ true
unfolding cut_counts
counts_in s t last ks a b = and_in a b

good_in : (s t : List ℕ) → 1 ≤ length (trace_records t) → length (trace_records t) ≤ trim_limit → cut_counts s t (last_of t) (front_of t) ≡ true → trace_good s t ≡ true
unfolding trace_good
good_in s t a b c = and_in (le-leb 1 (length (trace_records t)) a) (and_in (le-leb (length (trace_records t)) trim_limit b) c)

-- ---- the kept positions

module _ (s t : List ℕ) where
  front_length : length (front_of t) ≤ last_of t
  unfolding front_of
  front_length = omega (arith, count_length 0 (last_of t))

  front_cut : Cut (kept_front s t) (front_of t)
  unfolding kept_front
  front_cut = trim_cut (cut_counts s t (last_of t)) (last_of t) (front_of t)

  front_below : every (λ k. ltb k (last_of t)) (kept_front s t) ≡ true
  unfolding front_of
  front_below = cut_every (λ k. ltb k (last_of t)) front_cut (every_between (λ k. ltb k (last_of t)) 0 (last_of t) (λ b l h. lt-ltb b (last_of t) (omega arith)))

  pub rising : (xs : List ℕ) (a b : ℕ) (ys : List ℕ) → xs ++ (a ∷ b ∷ ys) ≡ kept_of s t → a < b
  unfolding kept_of front_of
  rising xs a b ys e = rises_pair xs a b ys (subst Rises (sym e) (rises_last (kept_front s t) (last_of t) (rises_cut front_cut (rises_count 0 (last_of t))) front_below))

  pub fixed : pass (cut_counts s t (last_of t)) (kept_front s t) ≡ kept_front s t
  unfolding kept_front
  fixed = trim_fixed (cut_counts s t (last_of t)) (last_of t) (front_of t) front_length

  pub minimal : (xs : List ℕ) (k : ℕ) (ys : List ℕ) → xs ++ (k ∷ ys) ≡ kept_front s t
      → (every accepted (run_answers s (records_at t (xs ++ ys))) ≡ false) ⊎ (is_alert (step_answer (run_effect s (records_at t (xs ++ ys))) (record_at t (last_of t))) ≡ false)
  unfolding kept_front cut_counts
  minimal xs k ys e = by (every accepted (run_answers s (records_at t (xs ++ ys)))) (trim_minimal (cut_counts s t (last_of t)) (last_of t) (front_of t) front_length xs k ys e)
    where
      by : (b : Bool) → (b && is_alert (step_answer (run_effect s (records_at t (xs ++ ys))) (record_at t (last_of t)))) ≡ false
          → (b ≡ false) ⊎ (is_alert (step_answer (run_effect s (records_at t (xs ++ ys))) (record_at t (last_of t))) ≡ false)
      by true h = inr h
      by false h = inl refl

  pub ends : kept_of s t ≡ kept_front s t ++ ((length (trace_records t) - 1) ∷ [])
  unfolding kept_of last_of
  ends = refl

  module _ (g : trace_good s t ≡ true) where
    some : 1 ≤ length (trace_records t)
    unfolding trace_good
    some = leb-true 1 (length (trace_records t)) (and_0 (leb 1 (length (trace_records t))) (leb (length (trace_records t)) trim_limit && cut_counts s t (last_of t) (front_of t)) g)

    few : length (trace_records t) ≤ trim_limit
    unfolding trace_good
    few = leb-true (length (trace_records t)) trim_limit (and_0 (leb (length (trace_records t)) trim_limit) (cut_counts s t (last_of t) (front_of t)) (and_1 (leb 1 (length (trace_records t))) g))

    whole_counts : cut_counts s t (last_of t) (front_of t) ≡ true
    unfolding trace_good
    whole_counts = and_1 (leb (length (trace_records t)) trim_limit) (and_1 (leb 1 (length (trace_records t))) g)

    kept_counts : cut_counts s t (last_of t) (kept_front s t) ≡ true
    unfolding kept_front
    kept_counts = trim_counts (cut_counts s t (last_of t)) (last_of t) (front_of t) whole_counts

    pub below : every (λ k. ltb k (length (trace_records t))) (kept_of s t) ≡ true
    unfolding kept_of last_of
    below =
        every_append (λ k. ltb k (length (trace_records t))) (kept_front s t) (last_of t ∷ [])
        (every_imp (λ k. ltb k (last_of t)) (λ k. ltb k (length (trace_records t))) (kept_front s t) (λ k h. lt-ltb k (length (trace_records t)) (omega (arith, ltb-true k (last_of t) h))) front_below)
        (every_cons (λ k. ltb k (length (trace_records t))) (last_of t) [] (lt-ltb (last_of t) (length (trace_records t)) (omega (arith, some))) (every_nil (λ k. ltb k (length (trace_records t)))))

    pub alerts : is_alert (step_answer (run_effect s (records_at t (kept_front s t))) (record_at t (last_of t))) ≡ true
    alerts = last_alerts s t (last_of t) (kept_front s t) kept_counts

    pub accepted_all : every accepted (run_answers s (records_at t (kept_of s t))) ≡ true
    unfolding kept_of
    accepted_all = snoc_accepted s t (last_of t) (kept_front s t) kept_counts

  pub good_exactly : (trace_good s t ≡ true)
      ↔ ((1 ≤ length (trace_records t)) × (length (trace_records t) ≤ trim_limit) × (every accepted (run_answers s (trace_records t)) ≡ true)
      × (is_alert (step_answer (run_effect s (records_at t (front_of t))) (record_at t (last_of t))) ≡ true))
  good_exactly = (to, back)
    where
      to : trace_good s t ≡ true → (1 ≤ length (trace_records t)) × (length (trace_records t) ≤ trim_limit) × (every accepted (run_answers s (trace_records t)) ≡ true)
          × (is_alert (step_answer (run_effect s (records_at t (front_of t))) (record_at t (last_of t))) ≡ true)
      to g = (
        some g,
        few g,
        ap (λ (r : List (List ℕ)). every accepted (run_answers s r)) (sym (all_records t (some g))) ∙ snoc_accepted s t (last_of t) (front_of t) (whole_counts g),
        last_alerts s t (last_of t) (front_of t) (whole_counts g),
      )

      back : (1 ≤ length (trace_records t)) × (length (trace_records t) ≤ trim_limit) × (every accepted (run_answers s (trace_records t)) ≡ true)
          × (is_alert (step_answer (run_effect s (records_at t (front_of t))) (record_at t (last_of t))) ≡ true) → trace_good s t ≡ true
      back (a, b, c, d) = good_in s t a b (counts_in s t (last_of t) (front_of t) (all_front a c) d)
        where
          all_front : 1 ≤ length (trace_records t) → every accepted (run_answers s (trace_records t)) ≡ true → every accepted (run_answers s (records_at t (front_of t))) ≡ true
          all_front a c =
              every_left accepted (run_answers s (records_at t (front_of t))) (step_answer (run_effect s (records_at t (front_of t))) (record_at t (last_of t)) ∷ [])
              (sym (ap (every accepted) (snoc_answers s t (last_of t) (front_of t))) ∙ ap (λ (r : List (List ℕ)). every accepted (run_answers s r)) (all_records t a) ∙ c)

-- a short last record is refused by 7
pub short : (s t : List ℕ) → (length t % record_length ≡ 0 → ⊥) → trace_good s t ≡ false
short s t h = ⊎_elim (λ g. clash (whole_counts s t g) (short_counts s t h)) (λ g. g) (decide (trace_good s t))

-- ---- the cut's last record is forbidden

alert_judged : (s r : List ℕ) → is_alert (step_answer s r) ≡ true → judged (step_asked r) ≡ true
alert_judged s r h =
    ⊎_elim (λ j. j) (λ j. clash h (ap is_alert (made_answer_lem s r (accepted_zero s r (alert_accepted (step_answer s r) h)) ∙ new_quiet (view s) (step_asked r) j)))
    (decide (judged (step_asked r)))

pub forbidden : (image t : List ℕ) → Bytes image → check_of image ≡ 0 → trace_good (start_of (policy_in image)) t ≡ true
    → Forbidden (policy_in image) (history_in (records_at t (positions_of image t)) (run_answers (start_of (policy_in image)) (records_at t (positions_of image t))))
    (receiver (step_asked (record_at t (last_of t))))
unfolding positions_of kept_of
forbidden image t bytes ok g =
    let s : List ℕ = start_of (policy_in image) in
    let rs : List (List ℕ) = records_at t (kept_front s t) in
    let r : List ℕ = record_at t (last_of t) in
    let a : is_alert (step_answer (run_effect s rs) r) ≡ true = alerts s t g in
    rw (snoc_records s t (last_of t) (kept_front s t))
    ((alert_last s (policy_in image) rs r (alert_accepted (step_answer (run_effect s rs) r) a) (demand3 image bytes ok) (alert_judged (run_effect s rs) r a)).0 a)

-- ---- the refusals

module _ (i t out : List ℕ) where
  pub numbers : numbers_distinct (numbers_of (trim_conditions i t out)) ≡ true
  unfolding trim_conditions image_conditions numbers_of numbers_distinct elem
  numbers = refl

  -- the three tests one after the other
  by_tests : (C : ℕ → Type 0) → (leb trim_limit (length out) ≡ false → C lent_length)
      → (leb trim_limit (length out) ≡ true → check_of i ≢ 0 → C (check_of i))
      → (leb trim_limit (length out) ≡ true → check_of i ≡ 0 → trace_good (start_of (policy_in i)) t ≡ false → C trim_trace)
      → (leb trim_limit (length out) ≡ true → check_of i ≡ 0 → trace_good (start_of (policy_in i)) t ≡ true → C 0) → C (trim_refusal i t out)
  by_tests C a b c d = ⊎_elim room (λ h. subst C (sym (refusal_9 i t out (short_out h))) (a h)) (decide (leb trim_limit (length out)))
    where
      short_out : leb trim_limit (length out) ≡ false → length out < trim_limit
      short_out h = by (dec_lt (length out) trim_limit)
        where
          by : Dec (length out < trim_limit) → length out < trim_limit
          by (yes l) = l
          by (no l) = clash (le-leb trim_limit (length out) (omega (arith, l))) h

      room : leb trim_limit (length out) ≡ true → C (trim_refusal i t out)
      room h = ⊎_elim image (λ n. subst C (sym (refusal_image i t out l refl n)) (b h n)) (zero_or_not (check_of i))
        where
          l : trim_limit ≤ length out
          l = leb-true trim_limit (length out) h

          image : check_of i ≡ 0 → C (trim_refusal i t out)
          image e = ⊎_elim (λ g. subst C (sym (refusal_good i t out l e g)) (d h e g)) (λ g. subst C (sym (refusal_trace i t out l e g)) (c h e g)) (decide (trace_good (start_of (policy_in i)) t))

  never_22 : check_of i ≢ trim_trace
  unfolding check_of image_conditions numbers_of elem
  never_22 e = clash (sym (ap (λ (n : ℕ). elem n (0 ∷ numbers_of (image_conditions i))) e) ∙ given_among (image_conditions i)) refl

  pub image_refused : (n : ℕ) → n ≢ 0 → n ≢ lent_length → n ≢ trim_trace → (trim_refusal i t out ≡ n) ↔ ((leb trim_limit (length out) ≡ true) × (check_of i ≡ n))
  image_refused n d0 d9 d22 = (
    by_tests (λ x. x ≡ n → (leb trim_limit (length out) ≡ true) × (check_of i ≡ n)) (λ h e. absurd (d9 (sym e))) (λ r c e. (r, e)) (λ r o h e. absurd (d22 (sym e))) (λ r o h e. absurd (d0 (sym e))),
    λ h. refusal_image i t out (leb-true trim_limit (length out) h.0) (sym h.1) d0,
  )

  pub trace_refused : (trim_refusal i t out ≡ trim_trace) ↔ ((leb trim_limit (length out) ≡ true) × (check_of i ≡ 0) × (trace_good (start_of (policy_in i)) t ≡ false))
  trace_refused = (
    by_tests (λ x. x ≡ trim_trace → (leb trim_limit (length out) ≡ true) × (check_of i ≡ 0) × (trace_good (start_of (policy_in i)) t ≡ false))
        (λ h e. absurd (omega (arith, e))) (λ r c e. absurd (never_22 e)) (λ r o h e. (r, o, h)) (λ r o h e. absurd (omega (arith, e))),
    λ h. refusal_trace i t out (leb-true trim_limit (length out) h.0) h.1 h.2,
  )

  pub none_refused : (trim_refusal i t out ≡ 0) ↔ ((leb trim_limit (length out) ≡ true) × (check_of i ≡ 0) × (trace_good (start_of (policy_in i)) t ≡ true))
  none_refused = (
    by_tests (λ x. x ≡ 0 → (leb trim_limit (length out) ≡ true) × (check_of i ≡ 0) × (trace_good (start_of (policy_in i)) t ≡ true))
        (λ h e. absurd (omega (arith, e))) (λ r c e. absurd (c e)) (λ r o h e. absurd (omega (arith, e))) (λ r o h e. (r, o, h)),
    λ h. refusal_good i t out (leb-true trim_limit (length out) h.0) h.1 h.2,
  )

  -- ---- the answer and the output

  pub given : trim_refusal i t out ≡ 0
      → ((trim_answer i t out).refusal ≡ 0) × ((trim_answer i t out).kept ≡ length (positions_of i t)) × (take (length (positions_of i t)) (trim_effect i t out) ≡ positions_of i t)
      × (ListN.drop (length (positions_of i t)) (trim_effect i t out) ≡ ListN.drop (length (positions_of i t)) out)
  unfolding trim_answer trim_effect overwritten
  given h =
      let b = eq-eqb (trim_refusal i t out) 0 h in
      let p : List ℕ = positions_of i t in
      let r : List ℕ = ListN.drop (0 + length p) out in
      let z : 0 + length p ≡ length p = zero-add (length p) in
      (rw b, rw b, rw b (take_at p r (length p) refl), rw b (drop_at p r (length p) refl ∙ ap (λ (n : ℕ). ListN.drop n out) z))

  pub refused : trim_refusal i t out ≢ 0 → ((trim_answer i t out).refusal ≡ trim_refusal i t out) × ((trim_answer i t out).kept ≡ 0) × (trim_effect i t out ≡ out)
  unfolding trim_answer trim_effect
  refused h = let b = ne_eqb (trim_refusal i t out) 0 h in (rw b, rw b, rw b)
