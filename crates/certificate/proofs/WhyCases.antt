-- The refusals of `why` in their order, and what it answers and leaves.
use Prim.Native.Nat.{ℕ, ◌≤◌, ◌<◌}
use native.Mathlib.Omega.{arith}
use mathlib.Core.Path.{◌≡◌, refl, sym, ap, subst, ◌∙◌}
use mathlib.Core.Bool.{Bool, true, false}
use mathlib.Core.List.{List, [], ◌∷◌, ◌++◌}
use mathlib.Core.Logic.{◌≢◌, ◌↔◌, ⊎_elim, ◌⊎◌, inl, inr}
use lib.ListN.{length}
use borrow.Author.Tests.{ne_eqb, le-leb, lt-leb}
use Rattle.lists.specs.Lists.{elem}
use Rattle.lists.specs.Conditions.{Condition, ◌or_refuse◌, first_failed, numbers_of, numbers_distinct}
use Rattle.lists.proofs.Bools.{and_in, decide, clash}
use Rattle.lists.proofs.Conditions.{passed, failed, none_left, first_stops, first_passed, zero_or_not, given_among}
use Rattle.std.proofs.Common.{Result, Err}
use Rattle.answers.specs.declared.Refusal.{Refusal}
use Rattle.answers.specs.Outcomes.{refusal_number, outcome_number}
use Rattle.answers.proofs.Outcomes.{refusal_number_positive}
use Rattle.answers.specs.Refusals.{lent_length, explain_trace}
use Rattle.image.specs.Image.{image_conditions, check_of}
use Rattle.image.proofs.ImageRefusals.{refused_by_none}
use Rattle.witness.specs.Explains.{lent_good}
use Rattle.certificate.specs.Whys.{why_length, room_good, forbidden_last, why_conditions, why_refusal, why_effect, why_steps, why_links}

-- ---- the tests of the code

module _ (t links steps out : List ℕ) where
  module _ {b : Bool} (e : b ≡ lent_good t links steps) where
    pub room_short : (b ≡ false) ⊎ ((b ≡ true) × (length out < why_length)) → room_good t links steps out ≡ false
    unfolding room_good
    room_short (inl h) = rw (← e, h)
    room_short (inr q) = rw (← e, q.0, lt-leb why_length (length out) q.1)

    pub room_long : b ≡ true → why_length ≤ length out → room_good t links steps out ≡ true
    unfolding room_good
    room_long h l = and_in (sym e ∙ h) (le-leb why_length (length out) l)

-- ---- the refusals

module _ (i t links steps out : List ℕ) where
  abbrev last_test : Condition
  last_test = forbidden_last i t or_refuse explain_trace

  abbrev room_test : Condition
  room_test = room_good t links steps out or_refuse lent_length

  -- ---- one after the other

  pub refusal_9 : room_good t links steps out ≡ false → why_refusal i t links steps out ≡ lent_length
  unfolding why_refusal why_conditions
  refusal_9 h = failed room_test (image_conditions i ++ (last_test ∷ [])) h

  module _ (g : room_good t links steps out ≡ true) where
    room : why_refusal i t links steps out ≡ first_failed (image_conditions i ++ (last_test ∷ []))
    unfolding why_refusal why_conditions
    room = passed room_test (image_conditions i ++ (last_test ∷ [])) g

    pub refusal_image : {n : ℕ} → n ≡ check_of i → n ≢ 0 → why_refusal i t links steps out ≡ n
    unfolding check_of
    refusal_image {n} e d = room ∙ first_stops (image_conditions i) (last_test ∷ []) (λ z. d (e ∙ z)) ∙ sym e

    module _ (ok : check_of i ≡ 0) where
      held : why_refusal i t links steps out ≡ first_failed (last_test ∷ [])
      held = room ∙ first_passed (image_conditions i) (last_test ∷ []) ((refused_by_none i).0 ok)

      pub refusal_25 : forbidden_last i t ≡ false → why_refusal i t links steps out ≡ explain_trace
      refusal_25 h = held ∙ failed last_test [] h

      pub refusal_none : forbidden_last i t ≡ true → why_refusal i t links steps out ≡ 0
      refusal_none h = held ∙ passed last_test [] h ∙ none_left

  -- ---- what is answered and left where something is refused

  abbrev pub Left : ℕ → List ℕ → List ℕ → List ℕ → Type 0
  Left r out' steps' links' =
      (r ≡ why_refusal i t links steps out) × (out' ≡ why_effect i t links steps out) × (steps' ≡ why_steps i t links steps out) × (links' ≡ why_links i t links steps out)

  pub left_refused : {r : Result (Unit {0}) Refusal} (f : Refusal) → r ≡ Err f → why_refusal i t links steps out ≡ refusal_number f → Left (outcome_number r) out steps links
  unfolding why_effect why_steps why_links
  left_refused {r} f q e =
      let b = ne_eqb (why_refusal i t links steps out) 0 (λ z. absurd (omega (arith, refusal_number_positive f, e, z))) in (ap outcome_number q ∙ sym e, rw b, rw b, rw b)

  pub refused_all : why_refusal i t links steps out ≢ 0
      → (why_effect i t links steps out ≡ out) × (why_steps i t links steps out ≡ steps) × (why_links i t links steps out ≡ links)
  unfolding why_effect why_steps why_links
  refused_all d = let b = ne_eqb (why_refusal i t links steps out) 0 d in (rw b, rw b, rw b)

  -- ---- each refusal has its condition

  pub numbers : numbers_distinct (numbers_of (why_conditions i t links steps out)) ≡ true
  unfolding why_conditions image_conditions numbers_of numbers_distinct elem
  numbers = refl

  by_tests : (C : ℕ → Type 0) → (room_good t links steps out ≡ false → C lent_length)
      → (room_good t links steps out ≡ true → check_of i ≢ 0 → C (check_of i))
      → (room_good t links steps out ≡ true → check_of i ≡ 0 → forbidden_last i t ≡ false → C explain_trace)
      → (room_good t links steps out ≡ true → check_of i ≡ 0 → forbidden_last i t ≡ true → C 0) → C (why_refusal i t links steps out)
  by_tests C a b c d = ⊎_elim long (λ h. subst C (sym (refusal_9 h)) (a h)) (decide (room_good t links steps out))
    where
      long : room_good t links steps out ≡ true → C (why_refusal i t links steps out)
      long h = ⊎_elim image (λ n. subst C (sym (refusal_image h refl n)) (b h n)) (zero_or_not (check_of i))
        where
          image : check_of i ≡ 0 → C (why_refusal i t links steps out)
          image e = ⊎_elim (λ g. subst C (sym (refusal_none h e g)) (d h e g)) (λ g. subst C (sym (refusal_25 h e g)) (c h e g)) (decide (forbidden_last i t))

  never_25 : check_of i ≢ explain_trace
  unfolding check_of image_conditions numbers_of elem
  never_25 e = clash (sym (ap (λ (n : ℕ). elem n (0 ∷ numbers_of (image_conditions i))) e) ∙ given_among (image_conditions i)) refl

  pub image_refused : (n : ℕ) → n ≢ 0 → n ≢ lent_length → n ≢ explain_trace → (why_refusal i t links steps out ≡ n) ↔ ((room_good t links steps out ≡ true) × (check_of i ≡ n))
  image_refused n d0 d9 d25 = (
    by_tests (λ x. x ≡ n → (room_good t links steps out ≡ true) × (check_of i ≡ n)) (λ h e. absurd (d9 (sym e))) (λ r c e. (r, e)) (λ r o h e. absurd (d25 (sym e))) (λ r o h e. absurd (d0 (sym e))),
    λ h. refusal_image h.0 (sym h.1) d0,
  )

  pub trace_refused : (why_refusal i t links steps out ≡ explain_trace) ↔ ((room_good t links steps out ≡ true) × (check_of i ≡ 0) × (forbidden_last i t ≡ false))
  trace_refused = (
    by_tests (λ x. x ≡ explain_trace → (room_good t links steps out ≡ true) × (check_of i ≡ 0) × (forbidden_last i t ≡ false))
        (λ h e. absurd (omega (arith, e))) (λ r c e. absurd (never_25 e)) (λ r o h e. (r, o, h)) (λ r o h e. absurd (omega (arith, e))),
    λ h. refusal_25 h.0 h.1 h.2,
  )

  pub none_refused : (why_refusal i t links steps out ≡ 0) ↔ ((room_good t links steps out ≡ true) × (check_of i ≡ 0) × (forbidden_last i t ≡ true))
  none_refused = (
    by_tests (λ x. x ≡ 0 → (room_good t links steps out ≡ true) × (check_of i ≡ 0) × (forbidden_last i t ≡ true))
        (λ h e. absurd (omega (arith, e))) (λ r c e. absurd (c e)) (λ r o h e. absurd (omega (arith, e))) (λ r o h e. (r, o, h)),
    λ h. refusal_none h.0 h.1 h.2,
  )
