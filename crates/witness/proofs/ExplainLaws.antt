-- The refusals of an explanation in their order, and what it answers and leaves.
use Prim.Native.Nat.{ℕ, ◌+◌, ◌*◌, ◌-◌, ◌%◌, ◌≤◌, ◌<◌}
use native.Mathlib.Omega.{arith}
use native.Mathlib.Decide.{dec_lt}
use mathlib.Core.Path.{◌≡◌, sym, ap, ◌∙◌}
use mathlib.Core.Logic.{◌≢◌, ◌⊎◌, inl, inr}
use mathlib.Core.Bool.{true, false, cond, ◌&&◌}
use mathlib.Core.List.{List, [], ◌∷◌, ◌++◌}
use lib.Dec.{leb, ltb}
use lib.ListN.{length, get_or}
use borrow.Author.Tests.{eq-eqb, ne_eqb, le-leb, leb-true, lt-ltb, le-ltb}
use Rattle.lists.specs.Conditions.{Condition, ◌or_refuse◌, first_failed}
use Rattle.lists.proofs.Bools.{refuted, and_in, and_0, and_1}
use Rattle.lists.proofs.Conditions.{passed, failed, none_left, first_stops, first_passed}
use Rattle.std.proofs.Common.{Result, Err}
use Rattle.std.specs.Prelude.{IfOk}
use Rattle.answers.specs.declared.Refusal.{Refusal}
use Rattle.answers.specs.Outcomes.{refusal_number}
use Rattle.answers.proofs.Outcomes.{refusal_number_positive}
use Rattle.answers.specs.Refusals.{lent_length, explain_bounds}
use Rattle.rules.specs.Answers.{data_width, tag_width}
use Rattle.image.proofs.ImageRefusals.{refused_by_none}
use Rattle.image.specs.Limits.{container_limit}
use Rattle.image.specs.Policy.{Policy}
use Rattle.image.specs.Image.{image_conditions, check_of}
use Rattle.chains.specs.History.{History}
use Rattle.chains.specs.Chains.{Item, data_atom, running_atom}
use Rattle.records.specs.Traces.{trace_records}
use Rattle.witness.specs.declared.Found as code
use Rattle.witness.specs.Found.{Found, file_number, found_numbers, Inside}
use Rattle.witness.specs.Witness.{witness}
use Rattle.witness.specs.Told.{item_of, chain_records, found_in, at_end}
use Rattle.witness.specs.Links.{first_node, node_of, Family, of_atom}
use Rattle.witness.specs.Nodes.{place_of, OfFamily, Tracked, Backed, ToldBack}
use Rattle.witness.specs.Explains.{Explained, explained, atom_found, atom_steps, atom_links, lent_good, asked_good, explain_conditions, explain_refusal, explain_answer, explain_steps, explain_links}
use Rattle.witness.proofs.BackLaws.{stored_room}

-- ---- the atom's number, and the place of its node

pub item_family : (k : ℕ) → k < tag_width → OfFamily (of_atom (k % data_width)) (item_of k)
unfolding item_of
item_family k l = on (dec_lt k data_width)
  where
    on : Dec (k < data_width) → OfFamily (of_atom (k % data_width)) (cond (ltb k data_width) (data_atom k) (running_atom (k - data_width)))
    on (yes z) = rw (lt-ltb k data_width z) (omega arith)
    on (no z) = let m : data_width ≤ k = omega arith in rw (le-ltb k data_width m) (omega arith)

pub item_low : (k c : ℕ) → k < data_width → place_of (item_of k) c ≡ c
unfolding item_of
item_low k c l = rw (lt-ltb k data_width l)

pub item_high : (k c : ℕ) → data_width ≤ k → place_of (item_of k) c ≡ container_limit + c
unfolding item_of
item_high k c l = rw (le-ltb k data_width l)

-- ---- the chain that is held, told

module _ (P : Policy) (F : Family) (ns : List ℕ) (h : History) (n : ℕ) (held links : List ℕ) (T : Tracked P F ns h n held links)
    (y : Item) (a : OfFamily F y) (c : ℕ) (lc : c < container_limit) (at : ℕ) (ea : at ≡ place_of y c) (long : ℕ) (room : n ≤ long) where
  pub held_backed : Backed links (get_or held at 0) long
  held_backed = (
    ns,
    witness P h y c,
    rw ea (T.shown y a c lc),
    stored_room ns links (get_or held at 0) n long (witness P h y c) (rw ea (T.shown y a c lc)) (T.low at) room,
  )

  pub held_told : (before : List ℕ) → length before ≡ long → (r : Found) (steps : List ℕ) → ToldBack links (get_or held at 0) before r steps
      → (r ≡ found_in ns (witness P h y c) before) × (steps ≡ at_end (chain_records ns (witness P h y c)) before)
  held_told before e r steps told =
      told ns (witness P h y c) (rw ea (T.shown y a c lc))
      (rw e (stored_room ns links (get_or held at 0) n long (witness P h y c) (rw ea (T.shown y a c lc)) (T.low at) room))

-- ---- what is lent

module _ (t links steps : List ℕ) where
  module _ {n : ℕ} (e : n ≡ length (trace_records t)) where
    pub lent_short : length links < first_node + 2 * n → false ≡ lent_good t links steps
    unfolding lent_good
    lent_short l =
        sym (refuted (leb (node_of (length (trace_records t))) (length links) && leb (length (trace_records t)) (length steps))
        (λ h. omega (
          arith,
          l,
          e,
          leb-true (node_of (length (trace_records t))) (length links) (and_0 (leb (node_of (length (trace_records t))) (length links)) (leb (length (trace_records t)) (length steps)) h),
        )))

    pub lent_long : first_node + 2 * n ≤ length links → leb n (length steps) ≡ lent_good t links steps
    unfolding lent_good
    lent_long l = rw (le-leb (node_of (length (trace_records t))) (length links) (omega (arith, l, e)), e)

-- what was lent is long enough
pub lent_room : (t links steps : List ℕ) → lent_good t links steps ≡ true → (node_of (length (trace_records t)) ≤ length links) × (length (trace_records t) ≤ length steps)
unfolding lent_good
lent_room t links steps g = (
  leb-true (node_of (length (trace_records t))) (length links) (and_0 (leb (node_of (length (trace_records t))) (length links)) (leb (length (trace_records t)) (length steps)) g),
  leb-true (length (trace_records t)) (length steps) (and_1 (leb (node_of (length (trace_records t))) (length links)) g),
)

-- ---- what is asked for

pub none_asked : (c k : ℕ) → (container_limit ≤ c) ⊎ ((c < container_limit) × (tag_width ≤ k)) → asked_good c k ≡ false
unfolding asked_good
none_asked c k (inl l) = rw (le-ltb c container_limit l)
none_asked c k (inr m) = rw (lt-ltb c container_limit m.0, le-ltb k tag_width m.1)

pub both_there : (c k : ℕ) → c < container_limit → k < tag_width → asked_good c k ≡ true
unfolding asked_good
both_there c k l m = and_in (lt-ltb c container_limit l) (lt-ltb k tag_width m)

abbrev told_as : Found → Explained
told_as x = record { refusal = 0; file = x.file; first = x.first }

-- ---- the conditions in their order

module _ (i t : List ℕ) (c k : ℕ) (links steps : List ℕ) where
  abbrev asked_test : Condition
  asked_test = asked_good c k or_refuse explain_bounds

  pub refusal_9 : lent_good t links steps ≡ false → explain_refusal i t c k links steps ≡ lent_length
  unfolding explain_refusal explain_conditions
  refusal_9 h = failed (lent_good t links steps or_refuse lent_length) (image_conditions i ++ (asked_test ∷ [])) h

  module _ (g : lent_good t links steps ≡ true) where
    room : explain_refusal i t c k links steps ≡ first_failed (image_conditions i ++ (asked_test ∷ []))
    unfolding explain_refusal explain_conditions
    room = passed (lent_good t links steps or_refuse lent_length) (image_conditions i ++ (asked_test ∷ [])) g

    pub refusal_image : {n : ℕ} → n ≡ check_of i → n ≢ 0 → explain_refusal i t c k links steps ≡ n
    unfolding check_of
    refusal_image {n} e d = room ∙ first_stops (image_conditions i) (asked_test ∷ []) (λ z. d (e ∙ z)) ∙ sym e

    module _ (ok : check_of i ≡ 0) where
      held : explain_refusal i t c k links steps ≡ first_failed (asked_test ∷ [])
      held = room ∙ first_passed (image_conditions i) (asked_test ∷ []) ((refused_by_none i).0 ok)

      pub refusal_24 : asked_good c k ≡ false → explain_refusal i t c k links steps ≡ explain_bounds
      refusal_24 h = held ∙ failed asked_test [] h

      pub refusal_none : asked_good c k ≡ true → explain_refusal i t c k links steps ≡ 0
      refusal_none h = held ∙ passed asked_test [] h ∙ none_left

  -- ---- what is answered and left

  pub answered_refused : {r : Result code.Found Refusal} (f : Refusal) → r ≡ Err f → explain_refusal i t c k links steps ≡ refusal_number f
      → (explained r ≡ explain_answer i t c k links steps) × (links ≡ explain_links i t c k links steps) × (steps ≡ explain_steps i t c k links steps)
      × IfOk r (λ x. Inside x.file)
  unfolding explain_answer explain_links explain_steps
  answered_refused {r} f e h =
      let b = ne_eqb (explain_refusal i t c k links steps) 0 (λ z. absurd (omega (arith, refusal_number_positive f, h, z))) in
      (ap explained e ∙ rw (b, h), rw b, rw b, rw e tt)

  pub answered_found : {links' steps' : List ℕ} (r : code.Found) → found_numbers r ≡ atom_found i t c k steps → steps' ≡ atom_steps i t c k steps
      → links' ≡ atom_links i t (k % data_width) links → explain_refusal i t c k links steps ≡ 0 → Inside r.file
      → (record { refusal = 0; file = file_number r.file; first = r.first } ≡ explain_answer i t c k links steps) × (links' ≡ explain_links i t c k links steps)
      × (steps' ≡ explain_steps i t c k links steps) × Inside r.file
  unfolding explain_answer explain_links explain_steps
  answered_found {links'} {steps'} r er es el h inside =
      let b = eq-eqb (explain_refusal i t c k links steps) 0 h in
      (rw b (ap told_as er), rw b el, rw b es, inside)
