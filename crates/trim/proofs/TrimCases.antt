-- The refusals in their order, and what the function answers and leaves.
use Prim.Native.Nat.{ℕ, ◌+◌, ◌≤◌, ◌<◌}
use native.Mathlib.Omega.{arith}
use mathlib.Core.Path.{◌≡◌, sym, ap, ap₂, ◌∙◌}
use mathlib.Core.Logic.{◌≢◌}
use mathlib.Core.Bool.{true, false}
use mathlib.Core.List.{List, [], ◌∷◌, ◌++◌}
use lib.Dec.{leb}
use lib.ListN.{length, take, drop}
use lib.Seq.{length-take-le}
use borrow.Author.Tests.{eq-eqb, ne_eqb, le-leb, leb-true}
use Rattle.lists.specs.Conditions.{Condition, ◌or_refuse◌, first_failed}
use Rattle.lists.proofs.Bools.{refuted}
use Rattle.lists.proofs.Conditions.{passed, failed, none_left, first_stops, first_passed}
use Rattle.answers.specs.Refusals.{lent_length, trim_trace}
use Rattle.fields.specs.Writing.{overwritten}
use Rattle.image.proofs.ImageRefusals.{refused_by_none}
use Rattle.image.specs.Image.{policy_in, image_conditions, check_of}
use Rattle.session.specs.Session.{start_of}
use Rattle.trim.specs.Trims.{trim_limit, cut_counts, last_of, front_of, kept_of, trace_good, trim_conditions, trim_refusal, positions_of, trim_answer, trim_effect}
use Rattle.trim.specs.Replays.{whole_trace, Found}
use Rattle.trim.proofs.WholeTraces.{whole_good_lem, part_refused}

module _ (i t out : List ℕ) where
  abbrev trace_test : Condition
  trace_test = trace_good (start_of (policy_in i)) t or_refuse trim_trace

  pub refusal_9 : length out < trim_limit → trim_refusal i t out ≡ lent_length
  unfolding trim_refusal trim_conditions
  refusal_9 l =
      failed (leb trim_limit (length out) or_refuse lent_length) (image_conditions i ++ (trace_test ∷ []))
      (refuted (leb trim_limit (length out)) (λ h. omega (arith, l, leb-true trim_limit (length out) h)))

  module _ (l : trim_limit ≤ length out) where
    room : trim_refusal i t out ≡ first_failed (image_conditions i ++ (trace_test ∷ []))
    unfolding trim_refusal trim_conditions
    room =
        passed (leb trim_limit (length out) or_refuse lent_length) (image_conditions i ++ (trace_test ∷ []))
        (le-leb trim_limit (length out) l)

    pub refusal_image : {n : ℕ} → n ≡ check_of i → n ≢ 0 → trim_refusal i t out ≡ n
    unfolding check_of
    refusal_image {n} e d = room ∙ first_stops (image_conditions i) (trace_test ∷ []) (λ z. d (e ∙ z)) ∙ sym e

    module _ (ok : check_of i ≡ 0) where
      held : trim_refusal i t out ≡ first_failed (trace_test ∷ [])
      held = room ∙ first_passed (image_conditions i) (trace_test ∷ []) ((refused_by_none i).0 ok)

      pub refusal_trace : trace_good (start_of (policy_in i)) t ≡ false → trim_refusal i t out ≡ trim_trace
      refusal_trace h = held ∙ failed trace_test [] h

      pub refusal_good : trace_good (start_of (policy_in i)) t ≡ true → trim_refusal i t out ≡ 0
      refusal_good h = held ∙ passed trace_test [] h ∙ none_left

      pub refusal_part : whole_trace t ≡ false → trim_refusal i t out ≡ trim_trace
      refusal_part h = refusal_trace (part_refused (start_of (policy_in i)) t h)

      module _ (w : whole_trace t ≡ true) where
        pub refusal_22 : cut_counts (start_of (policy_in i)) t (last_of t) (front_of t) ≡ false → trim_refusal i t out ≡ trim_trace
        refusal_22 h = refusal_trace (whole_good_lem (start_of (policy_in i)) t w ∙ h)

        pub refusal_none : cut_counts (start_of (policy_in i)) t (last_of t) (front_of t) ≡ true → trim_refusal i t out ≡ 0
        refusal_none h = refusal_good (whole_good_lem (start_of (policy_in i)) t w ∙ h)

  -- ---- what is answered and left

  pub answered_refused : {n : ℕ} → trim_refusal i t out ≡ n → n ≢ 0 → (record { refusal = n; kept = 0 } ≡ trim_answer i t out) × (out ≡ trim_effect i t out)
  unfolding trim_answer trim_effect
  answered_refused h d = let b = ne_eqb (trim_refusal i t out) 0 (λ z. d (sym h ∙ z)) in (rw (b, h), rw b)

  pub answered_kept : {ps' x : List ℕ} {kept : ℕ} → Found i t ps' kept → length ps' ≡ trim_limit → x ≡ take kept ps'
      → trim_refusal i t out ≡ 0 → (record { refusal = 0; kept = kept } ≡ trim_answer i t out) × (x ++ drop kept out ≡ trim_effect i t out)
  unfolding trim_answer trim_effect positions_of overwritten
  answered_kept {ps'} {x} {kept} g l e h =
      let b = eq-eqb (trim_refusal i t out) 0 h in
      let z : length (kept_of (start_of (policy_in i)) t) ≡ kept = sym (ap length g.is) ∙ length-take-le kept ps' (omega (arith, g.fewer, l)) in
      let m : kept ≡ 0 + length (kept_of (start_of (policy_in i)) t) = omega (arith, z) in
      (rw (b, z), rw b (ap₂ (λ (y : List ℕ) (n : ℕ). y ++ drop n out) (e ∙ g.is) m))
