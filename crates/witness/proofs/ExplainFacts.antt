-- When an explanation is refused, and what it tells where it is not.
use Prim.Native.Nat.{ℕ, ◌-◌, ◌<◌}
use native.Mathlib.Omega.{arith}
use mathlib.Core.Path.{◌≡◌, refl, sym, subst, ◌∙◌, ap}
use mathlib.Core.Logic.{◌≢◌, ◌↔◌, ⊎_elim}
use mathlib.Core.Bool.{true, false}
use mathlib.Core.List.{List, ◌∷◌}
use lib.ListN.{length, take, drop, length-take}
use lib.Seq.{take_at, drop_at}
use borrow.Author.Tests.{eq-eqb, ne_eqb}
use Rattle.lists.specs.Lists.{elem}
use Rattle.lists.specs.Conditions.{numbers_of, numbers_distinct}
use Rattle.lists.proofs.Bools.{clash, decide}
use Rattle.lists.proofs.Conditions.{zero_or_not, given_among}
use Rattle.answers.specs.Refusals.{lent_length, explain_bounds}
use Rattle.image.specs.Limits.{container_limit}
use Rattle.image.specs.Image.{part, containers_in, image_conditions, check_of, policy_in}
use Rattle.image.proofs.AcceptedImage.{few_containers_lem}
use Rattle.session.specs.Session.{start_of}
use Rattle.chains.specs.Chains.{Item, data_atom, running_atom, run_rule, Starts}
use Rattle.chains.specs.Demand.{history_of}
use Rattle.records.specs.Records.{step_of}
use Rattle.records.specs.Traces.{trace_records}
use Rattle.monitor.specs.Runs.{step_on}
use Rattle.witness.specs.Told.{told_history, item_of, chain_records, found_in, at_end}
use Rattle.witness.specs.Explains.{rule_witness, rule_numbers, rule_found, rule_steps, atom_witness, atom_numbers, atom_found}
use Rattle.witness.specs.Explains.{atom_steps, lent_good, asked_good, explain_conditions, explain_refusal, explain_answer, explain_steps, explain_links}
use Rattle.witness.specs.Tells.{ChainTold}
use Rattle.witness.proofs.WitnessLaws.{right}
use Rattle.witness.proofs.BeginLaws.{containers_count, at_inside}
use Rattle.witness.proofs.ToldRecords.{accepted_told, explained_told, chain_told}
use Rattle.witness.proofs.ExplainLaws as laws

-- ---- the numbers at the end of the buffer

pub end_front : (xs steps : List ℕ) → take (length steps - length xs) (at_end xs steps) ≡ take (length steps - length xs) steps
unfolding at_end
end_front xs steps = take_at (take (length steps - length xs) steps) xs (length steps - length xs) (omega (arith, length-take (length steps - length xs) steps))

pub end_back : (xs steps : List ℕ) → drop (length steps - length xs) (at_end xs steps) ≡ xs
unfolding at_end
end_back xs steps = drop_at (take (length steps - length xs) steps) xs (length steps - length xs) (omega (arith, length-take (length steps - length xs) steps))

-- ---- the files of an accepted image

starts_at : (image : List ℕ) → check_of image ≡ 0 → (f : ℕ) (x : Item) → Starts (policy_in image) f x → f < container_limit
unfolding policy_in
starts_at image ok f (data_atom d) (K, i_k, fK, aK, ne) = omega (arith, at_inside (containers_in (part image 0)) f K i_k, containers_count (part image 0), few_containers_lem image ok)
starts_at image ok f (running_atom d) s = absurd s
starts_at image ok f (run_rule r) (K, i_k, fK, rK) = omega (arith, at_inside (containers_in (part image 0)) f K i_k, containers_count (part image 0), few_containers_lem image ok)

-- ---- the chain of a run rule, and of an atom

pub rule_told : (image trace rule : List ℕ) (c : ℕ) (steps : List ℕ) → check_of image ≡ 0
    → ChainTold (policy_in image) (history_of step_on step_of (start_of (policy_in image)) (trace_records trace)) (start_of (policy_in image)) (trace_records trace) (run_rule rule) c
    (rule_found image trace rule c steps).file (drop (rule_found image trace rule c steps).first (rule_steps image trace rule c steps))
unfolding rule_found rule_steps found_in rule_witness rule_numbers
rule_told image trace rule c steps ok =
    rw (end_back (chain_records (rule_numbers image trace) (rule_witness image trace rule c)) steps)
    (chain_told (history_of step_on step_of (start_of (policy_in image)) (trace_records trace)) (start_of (policy_in image)) (trace_records trace) (rule_numbers image trace)
    (accepted_told (start_of (policy_in image)) (trace_records trace)) (policy_in image) (run_rule rule) c (rule_witness image trace rule c) (starts_at image ok)
    (right (policy_in image) (history_of step_on step_of (start_of (policy_in image)) (trace_records trace)) (run_rule rule) c))

atom_told : (image trace : List ℕ) (c k : ℕ) (steps : List ℕ) → check_of image ≡ 0
    → ChainTold (policy_in image) (told_history (start_of (policy_in image)) (trace_records trace)) (start_of (policy_in image)) (trace_records trace) (item_of k) c
    (atom_found image trace c k steps).file (drop (atom_found image trace c k steps).first (atom_steps image trace c k steps))
unfolding atom_found atom_steps found_in atom_witness atom_numbers
atom_told image trace c k steps ok =
    rw (end_back (chain_records (atom_numbers image trace) (atom_witness image trace c k)) steps)
    (chain_told (told_history (start_of (policy_in image)) (trace_records trace)) (start_of (policy_in image)) (trace_records trace) (atom_numbers image trace)
    (explained_told (start_of (policy_in image)) (trace_records trace)) (policy_in image) (item_of k) c (atom_witness image trace c k) (starts_at image ok)
    (right (policy_in image) (told_history (start_of (policy_in image)) (trace_records trace)) (item_of k) c))

module _ (i t : List ℕ) (c k : ℕ) (links steps : List ℕ) where
  pub numbers : numbers_distinct (numbers_of (explain_conditions i t c k links steps)) ≡ true
  unfolding explain_conditions image_conditions numbers_of numbers_distinct elem
  numbers = refl

  -- the three tests one after the other
  by_tests : (C : ℕ → Type 0) → (lent_good t links steps ≡ false → C lent_length)
      → (lent_good t links steps ≡ true → check_of i ≢ 0 → C (check_of i))
      → (lent_good t links steps ≡ true → check_of i ≡ 0 → asked_good c k ≡ false → C explain_bounds)
      → (lent_good t links steps ≡ true → check_of i ≡ 0 → asked_good c k ≡ true → C 0) → C (explain_refusal i t c k links steps)
  by_tests C x y z w = ⊎_elim room (λ h. subst C (sym (laws.refusal_9 i t c k links steps h)) (x h)) (decide (lent_good t links steps))
    where
      room : lent_good t links steps ≡ true → C (explain_refusal i t c k links steps)
      room g = ⊎_elim image (λ n. subst C (sym (laws.refusal_image i t c k links steps g refl n)) (y g n)) (zero_or_not (check_of i))
        where
          image : check_of i ≡ 0 → C (explain_refusal i t c k links steps)
          image ok =
              ⊎_elim (λ a. subst C (sym (laws.refusal_none i t c k links steps g ok a)) (w g ok a))
              (λ a. subst C (sym (laws.refusal_24 i t c k links steps g ok a)) (z g ok a)) (decide (asked_good c k))

  never_24 : check_of i ≡ explain_bounds → ⊥
  unfolding check_of image_conditions numbers_of elem
  never_24 e = clash (sym (ap (λ (n : ℕ). elem n (0 ∷ numbers_of (image_conditions i))) e) ∙ given_among (image_conditions i)) refl

  pub image_refused : (n : ℕ) → n ≢ 0 → n ≢ lent_length → n ≢ explain_bounds → (explain_refusal i t c k links steps ≡ n) ↔ ((lent_good t links steps ≡ true) × (check_of i ≡ n))
  image_refused n d0 d9 d24 = (
    by_tests (λ x. x ≡ n → (lent_good t links steps ≡ true) × (check_of i ≡ n)) (λ h e. absurd (d9 (sym e))) (λ g d e. (g, e)) (λ g o h e. absurd (d24 (sym e))) (λ g o h e. absurd (d0 (sym e))),
    λ h. laws.refusal_image i t c k links steps h.0 (sym h.1) d0,
  )

  pub bounds_refused : (explain_refusal i t c k links steps ≡ explain_bounds) ↔ ((lent_good t links steps ≡ true) × (check_of i ≡ 0) × (asked_good c k ≡ false))
  bounds_refused = (
    by_tests (λ x. x ≡ explain_bounds → (lent_good t links steps ≡ true) × (check_of i ≡ 0) × (asked_good c k ≡ false)) (λ h e. absurd (omega (arith, e)))
        (λ g d e. absurd (never_24 e)) (λ g o h e. (g, o, h)) (λ g o h e. absurd (omega (arith, e))),
    λ h. laws.refusal_24 i t c k links steps h.0 h.1 h.2,
  )

  pub none_refused : (explain_refusal i t c k links steps ≡ 0) ↔ ((lent_good t links steps ≡ true) × (check_of i ≡ 0) × (asked_good c k ≡ true))
  none_refused = (
    by_tests (λ x. x ≡ 0 → (lent_good t links steps ≡ true) × (check_of i ≡ 0) × (asked_good c k ≡ true)) (λ h e. absurd (omega (arith, e))) (λ g d e. absurd (d e))
        (λ g o h e. absurd (omega (arith, e))) (λ g o h e. (g, o, h)),
    λ h. laws.refusal_none i t c k links steps h.0 h.1 h.2,
  )

  -- ---- the answer, and what is left

  pub refused : explain_refusal i t c k links steps ≢ 0
      → ((explain_answer i t c k links steps).refusal ≡ explain_refusal i t c k links steps) × ((explain_answer i t c k links steps).file ≡ 0) × ((explain_answer i t c k links steps).first ≡ 0)
      × (explain_links i t c k links steps ≡ links) × (explain_steps i t c k links steps ≡ steps)
  unfolding explain_answer explain_links explain_steps
  refused d = let b = ne_eqb (explain_refusal i t c k links steps) 0 d in (rw b, rw b, rw b, rw b, rw b)

  pub told : explain_refusal i t c k links steps ≡ 0
      → ChainTold (policy_in i) (told_history (start_of (policy_in i)) (trace_records t)) (start_of (policy_in i)) (trace_records t) (item_of k) c
      (explain_answer i t c k links steps).file (drop (explain_answer i t c k links steps).first (explain_steps i t c k links steps))
  unfolding explain_answer explain_steps
  told e = let b = eq-eqb (explain_refusal i t c k links steps) 0 e in rw b (atom_told i t c k steps (none_refused.0 e).1)

  pub in_front : explain_refusal i t c k links steps ≡ 0
      → take (explain_answer i t c k links steps).first (explain_steps i t c k links steps) ≡ take (explain_answer i t c k links steps).first steps
  unfolding explain_answer explain_steps atom_found atom_steps found_in
  in_front e = let b = eq-eqb (explain_refusal i t c k links steps) 0 e in rw b (end_front (chain_records (atom_numbers i t) (atom_witness i t c k)) steps)
