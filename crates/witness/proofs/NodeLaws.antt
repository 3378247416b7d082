-- The nodes that are held stand for the chains of the history, step by step.
use Prim.Native.Nat.{ℕ, suc, ◌+◌, ◌-◌, ◌/◌, ◌≤◌, ◌<◌}
use native.Mathlib.Omega.{arith}
use native.Mathlib.Decide.{ℕ_discrete}
use mathlib.Core.Path.{◌≡◌, refl, sym, subst, ◌∙◌, ap, ap₂}
use mathlib.Core.Bool.{Bool, true, false, cond}
use mathlib.Core.List.{List, [], ◌∷◌}
use mathlib.Core.Logic.{◌≢◌}
use mathlib.Core.Option.{Option, none, some}
use lib.Dec.{eqb}
use lib.ListN.{length, get_or, set, length-set}
use lib.Seq.{get_or-set_same, get_or-set_other}
use borrow.Author.Tests.{eq-eqb, ne_eqb}
use Rattle.image.specs.Limits.{container_limit}
use Rattle.image.specs.Policy.{Policy}
use Rattle.chains.specs.History.{Step, read, write, append, exec, fork, new_file, new_volatile, end, delete, History, ◌▸◌, step_count, receiver}
use Rattle.chains.specs.Chains.{Item, data_atom, running_atom, run_rule}
use Rattle.lists.proofs.Places.{some_inj, none_some}
use Rattle.witness.specs.Witness.{Source, takes_up, ends_item, Witness, stays, further, carried_on, first_of, witness}
use Rattle.witness.specs.Links.{first_node, node_of, form_of, node_after, chain_node, Family, of_atom, of_rule, taken_link, main_link, running_link, links_at}
use Rattle.witness.specs.Nodes.{held_length, place_of, is_rule, source_node, main_source, running_source, taken_node, next_node}
use Rattle.witness.specs.Nodes.{ends_main, ends_running, held_after, links_after, LeadsBack, Stored, OfFamily, Tracked}
use Rattle.witness.proofs.StepCases.{each_step}

module _ (ns : List ℕ) where
  -- ---- links that agree below a bound

  back_kept : (links more : List ℕ) (B : ℕ) → ((v : ℕ) → v < B → get_or more v 0 ≡ get_or links v 0)
      → (f v : ℕ) (is : List ℕ) → v < B → LeadsBack ns links f v is → LeadsBack ns more f v is
  back_kept links more B same f v [] l b = b
  back_kept links more B same f v (i ∷ is) l (low, en, fall, b) =
      let e : get_or more v 0 ≡ get_or links v 0 = same v l in (
        low,
        en,
        rw e fall,
        subst (λ (x : ℕ). LeadsBack ns more f x is) (sym e) (back_kept links more B same f (get_or links v 0) is (omega arith) b),
      )

  stored_kept : (links more : List ℕ) (B : ℕ) → ((v : ℕ) → v < B → get_or more v 0 ≡ get_or links v 0)
      → (v : ℕ) (w : Option Witness) → v < B → Stored ns links v w → Stored ns more v w
  stored_kept links more B same v none l st = st
  stored_kept links more B same v (some w) l st = back_kept links more B same w.file v w.falling l st

  back_some : (links : List ℕ) (f v : ℕ) (is : List ℕ) → LeadsBack ns links f v is → v ≢ 0
  back_some links f v [] b = λ z. absurd (omega (arith, b.0, z))
  back_some links f v (i ∷ is) b = λ z. absurd (omega (arith, b.0, z))

  -- ---- one step, of one item: the links lead back

  module _ (links more : List ℕ) (n B N : ℕ) (same : (v : ℕ) → v < B → get_or more v 0 ≡ get_or links v 0)
      (low : first_node ≤ N) (above : B ≤ node_of n) (own : (N - first_node) / 2 ≡ n) where
    taken_stored : (k : ℕ) → n ≡ get_or ns k 0 → (v : ℕ) (w : Option Witness) → v < B → get_or more N 0 ≡ v → Stored ns links v w
        → Stored ns more (taken_node v N) (further k w)
    unfolding taken_node
    taken_stored k ek v none l e st = let z : eqb v 0 ≡ true = eq-eqb v 0 st in ap (λ b. cond b 0 N) z
    taken_stored k ek v (some w) l e st =
        let z : eqb v 0 ≡ false = ne_eqb v 0 (back_some links w.file v w.falling st) in
        subst (λ (b : Bool). Stored ns more (cond b 0 N) (further k (some w))) (sym z) (
          low,
          own ∙ ek,
          omega (arith, e, l, above, ek),
          subst (λ (x : ℕ). LeadsBack ns more w.file x w.falling) (sym e) (back_kept links more B same w.file v w.falling l st),
        )

    next_stored : (v : ℕ) (w : Option Witness) → v < B → Stored ns links v w
        → (v' : ℕ) (w' : Option Witness) → Stored ns more (taken_node v' N) w'
        → (b : Bool) → Stored ns more (next_node v v' b N) (first_of (stays b w) w')
    unfolding next_node
    next_stored v w l st v' w' st' true = st'
    next_stored v none l st v' w' st' false =
        subst (λ (b : Bool). Stored ns more (cond b (taken_node v' N) v) w') (sym (eq-eqb v 0 st)) st'
    next_stored v (some w) l st v' w' st' false =
        subst (λ (b : Bool). Stored ns more (cond b (taken_node v' N) v) (some w)) (sym (ne_eqb v 0 (back_some links w.file v w.falling st)))
        (back_kept links more B same w.file v w.falling l st)

  -- ---- one step, of one item: the node is that of the chain

  node_some : (y : Item) (f : ℕ) (is : List ℕ) → node_after ns y f is ≢ 0
  node_some y f [] = λ z. absurd (omega arith)
  node_some y f (i ∷ is) = λ z. absurd (omega arith)

  taken_named : (k n N : ℕ) (y x : Item) → n ≡ get_or ns k 0 → N ≡ node_of n + form_of y → (w : Option Witness)
      → taken_node (chain_node ns x w) N ≡ chain_node ns y (further k w)
  unfolding taken_node
  taken_named k n N y x ek e_n none = refl
  taken_named k n N y x ek e_n (some w) =
      let z : eqb (node_after ns x w.file w.falling) 0 ≡ false = ne_eqb (node_after ns x w.file w.falling) 0 (node_some x w.file w.falling) in
      ap (λ b. cond b 0 N) z ∙ e_n ∙ ap (λ (m : ℕ). node_of m + form_of y) ek

  next_named : (N v' : ℕ) (y : Item) (w w' : Option Witness) → taken_node v' N ≡ chain_node ns y w'
      → (b : Bool) → next_node (chain_node ns y w) v' b N ≡ chain_node ns y (first_of (stays b w) w')
  unfolding next_node
  next_named N v' y w w' e true = e
  next_named N v' y none w' e false = e
  next_named N v' y (some w) w' e false =
      let z : eqb (node_after ns y w.file w.falling) 0 ≡ false = ne_eqb (node_after ns y w.file w.falling) 0 (node_some y w.file w.falling) in
      ap (λ b. cond b (taken_node v' N) (node_after ns y w.file w.falling)) z

-- ---- what a step takes up and ends does not depend on the atom's number, or on the rule

main_atom : (held : List ℕ) (s : Step) (d : ℕ) → source_node held (takes_up s (data_atom d)) ≡ main_source false held s
unfolding main_source
main_atom held s d =
    each_step (λ x. source_node held (takes_up x (data_atom d)) ≡ main_source false held x)
    (λ p o. refl) (λ p o. refl) (λ p o. refl) (λ p o u. refl) (λ p o. refl) (λ p o u. refl) (λ p o. refl) (λ p. refl) (λ p o. refl) s

main_rule : (held : List ℕ) (s : Step) (r : List ℕ) → source_node held (takes_up s (run_rule r)) ≡ main_source true held s
unfolding main_source
main_rule held s r =
    each_step (λ x. source_node held (takes_up x (run_rule r)) ≡ main_source true held x)
    (λ p o. refl) (λ p o. refl) (λ p o. refl) (λ p o u. refl) (λ p o. refl) (λ p o u. refl) (λ p o. refl) (λ p. refl) (λ p o. refl) s

running_atom_lem : (held : List ℕ) (s : Step) (d : ℕ) → source_node held (takes_up s (running_atom d)) ≡ running_source false held s
unfolding running_source
running_atom_lem held s d =
    each_step (λ x. source_node held (takes_up x (running_atom d)) ≡ running_source false held x)
    (λ p o. refl) (λ p o. refl) (λ p o. refl) (λ p o u. refl) (λ p o. refl) (λ p o u. refl) (λ p o. refl) (λ p. refl) (λ p o. refl) s

ends_atom : (s : Step) (d : ℕ) → ends_item s (data_atom d) ≡ ends_main false s
unfolding ends_main
ends_atom s d =
    each_step (λ x. ends_item x (data_atom d) ≡ ends_main false x)
    (λ p o. refl) (λ p o. refl) (λ p o. refl) (λ p o u. refl) (λ p o. refl) (λ p o u. refl) (λ p o. refl) (λ p. refl) (λ p o. refl) s

ends_rule : (s : Step) (r : List ℕ) → ends_item s (run_rule r) ≡ ends_main true s
unfolding ends_main
ends_rule s r =
    each_step (λ x. ends_item x (run_rule r) ≡ ends_main true x)
    (λ p o. refl) (λ p o. refl) (λ p o. refl) (λ p o u. refl) (λ p o. refl) (λ p o u. refl) (λ p o. refl) (λ p. refl) (λ p o. refl) s

ends_running_lem : (s : Step) (d : ℕ) → ends_item s (running_atom d) ≡ ends_running s
unfolding ends_running
ends_running_lem s d =
    each_step (λ x. ends_item x (running_atom d) ≡ ends_running x)
    (λ p o. refl) (λ p o. refl) (λ p o. refl) (λ p o u. refl) (λ p o. refl) (λ p o u. refl) (λ p o. refl) (λ p. refl) (λ p o. refl) s

-- ---- what is taken up is of the family

kept_family : (F : Family) (x y : Item) (b : ℕ) (t : Source) → OfFamily F x → some (record { at = b; item = x }) ≡ some t → OfFamily F t.item
kept_family F x y b t a m = subst (λ (z : Source). OfFamily F z.item) (some_inj m) a

running_data : (F : Family) (d : ℕ) → OfFamily F (running_atom d) → OfFamily F (data_atom d)
running_data (of_atom e) d a = a
running_data (of_rule r) d a = absurd a

takes_family : (F : Family) (s : Step) (y : Item) (t : Source) → OfFamily F y → takes_up s y ≡ some t → OfFamily F t.item
takes_family F (read p o) (data_atom e) t a m = kept_family F (data_atom e) (data_atom e) o t a m
takes_family F (read p o) (running_atom e) t a m = absurd (none_some m)
takes_family F (read p o) (run_rule r) t a m = kept_family F (run_rule r) (run_rule r) o t a m
takes_family F (write p o) y t a m = kept_family F y y p t a m
takes_family F (append p o) y t a m = kept_family F y y p t a m
takes_family F (exec p o u) (data_atom e) t a m = absurd (none_some m)
takes_family F (exec p o u) (running_atom e) t a m = kept_family F (data_atom e) (running_atom e) o t (running_data F e a) m
takes_family F (exec p o u) (run_rule r) t a m = kept_family F (run_rule r) (run_rule r) o t a m
takes_family F (fork p o) y t a m = kept_family F y y p t a m
takes_family F (new_file p o u) y t a m = absurd (none_some m)
takes_family F (new_volatile p o) y t a m = absurd (none_some m)
takes_family F (end p) y t a m = absurd (none_some m)
takes_family F (delete p o) y t a m = absurd (none_some m)

-- ---- the whole table

-- the numbers that a step names are containers of the session
pub record StepWithin (s : Step) : Type 0 where
  pub to : receiver s < container_limit
  pub from : (y : Item) (t : Source) → takes_up s y ≡ some t → t.at < container_limit

-- what is taken up is held by the node of its chain
source_named : (P : Policy) (F : Family) (ns : List ℕ) (h : History) (n : ℕ) (held links : List ℕ) → Tracked P F ns h n held links → (s : Step) → StepWithin s
    → (y : Item) → OfFamily F y → (m : Option Source) → takes_up s y ≡ m → source_node held m ≡ taken_link P ns h m
source_named P F ns h n held links T s W y a none em = refl
source_named P F ns h n held links T s W y a (some t) em = T.named t.item (takes_family F s y t a em) t.at (W.from y t em)

module _ (P : Policy) (F : Family) (ns : List ℕ) where
  -- a record that is no step
  pub tracked_skip : (h : History) (n : ℕ) (held links : List ℕ) → Tracked P F ns h n held links → Tracked P F ns h (suc n) held links
  tracked_skip h n held links t = record { long = t.long; low = λ k. omega (arith, t.low k); named = t.named; shown = t.shown }

  module _ (h : History) (n : ℕ) (held links : List ℕ) (T : Tracked P F ns h n held links) (s : Step) (W : StepWithin s) (en : n ≡ get_or ns (step_count h) 0)
      (room : node_of n + 2 ≤ length links) where
    same : (v : ℕ) → v < node_of n → get_or (links_after (is_rule F) held links n s) v 0 ≡ get_or links v 0
    unfolding links_after
    same v l =
        get_or-set_other (set links (node_of n) (main_source (is_rule F) held s)) (node_of n + 1) v (running_source (is_rule F) held s) 0 (λ z. absurd (omega arith))
        ∙ get_or-set_other links (node_of n) v (main_source (is_rule F) held s) 0 (λ z. absurd (omega arith))

    at_main : get_or (links_after (is_rule F) held links n s) (node_of n) 0 ≡ main_source (is_rule F) held s
    unfolding links_after
    at_main =
        get_or-set_other (set links (node_of n) (main_source (is_rule F) held s)) (node_of n + 1) (node_of n) (running_source (is_rule F) held s) 0 (λ z. absurd (omega arith))
        ∙ get_or-set_same links (node_of n) (main_source (is_rule F) held s) 0 (omega arith)

    at_running : get_or (links_after (is_rule F) held links n s) (node_of n + 1) 0 ≡ running_source (is_rule F) held s
    unfolding links_after
    at_running =
        get_or-set_same (set links (node_of n) (main_source (is_rule F) held s)) (node_of n + 1) (running_source (is_rule F) held s) 0
        (omega (arith, length-set links (node_of n) (main_source (is_rule F) held s)))

    -- what is taken up, by its node
    taken_shown : (N : ℕ) → first_node ≤ N → (N - first_node) / 2 ≡ n → (y : Item) → OfFamily F y
        → (m : Option Source) → takes_up s y ≡ m → get_or (links_after (is_rule F) held links n s) N 0 ≡ source_node held m
        → Stored ns (links_after (is_rule F) held links n s) (taken_node (source_node held m) N) (carried_on (λ x b. witness P h x b) (step_count h) m)
    unfolding taken_node
    taken_shown N lo own y a none em e = refl
    taken_shown N lo own y a (some t) em e =
        taken_stored ns links (links_after (is_rule F) held links n s) n (node_of n) N same lo (omega arith) own (step_count h) en
        (get_or held (place_of t.item t.at) 0) (witness P h t.item t.at) (T.low (place_of t.item t.at)) e
        (T.shown t.item (takes_family F s y t a em) t.at (W.from y t em))

    taken_node_lem : (N : ℕ) (y : Item) → N ≡ node_of n + form_of y → (m : Option Source)
        → taken_node (taken_link P ns h m) N ≡ chain_node ns y (carried_on (λ x b. witness P h x b) (step_count h) m)
    unfolding taken_node
    taken_node_lem N y e_n none = refl
    taken_node_lem N y e_n (some t) = taken_named ns (step_count h) n N y t.item en e_n (witness P h t.item t.at)

    -- the receiver's node for y
    receiver_shown : (N : ℕ) → first_node ≤ N → (N - first_node) / 2 ≡ n → (y : Item) → OfFamily F y
        → get_or (links_after (is_rule F) held links n s) N 0 ≡ source_node held (takes_up s y)
        → Stored ns (links_after (is_rule F) held links n s)
        (next_node (get_or held (place_of y (receiver s)) 0) (source_node held (takes_up s y)) (ends_item s y) N)
        (first_of (stays (ends_item s y) (witness P h y (receiver s))) (carried_on (λ x b. witness P h x b) (step_count h) (takes_up s y)))
    receiver_shown N lo own y a e =
        next_stored ns links (links_after (is_rule F) held links n s) n (node_of n) N same lo (omega arith) own
        (get_or held (place_of y (receiver s)) 0) (witness P h y (receiver s)) (T.low (place_of y (receiver s))) (T.shown y a (receiver s) W.to)
        (source_node held (takes_up s y)) (carried_on (λ x b. witness P h x b) (step_count h) (takes_up s y)) (taken_shown N lo own y a (takes_up s y) refl e)
        (ends_item s y)

    receiver_named : (N : ℕ) (y : Item) → OfFamily F y → N ≡ node_of n + form_of y
        → next_node (get_or held (place_of y (receiver s)) 0) (source_node held (takes_up s y)) (ends_item s y) N
        ≡ chain_node ns y (first_of (stays (ends_item s y) (witness P h y (receiver s))) (carried_on (λ x b. witness P h x b) (step_count h) (takes_up s y)))
    receiver_named N y a e_n =
        ap₂ (λ (v x : ℕ). next_node v x (ends_item s y) N) (T.named y a (receiver s) W.to) (source_named P F ns h n held links T s W y a (takes_up s y) refl)
        ∙ next_named ns N (taken_link P ns h (takes_up s y)) y (witness P h y (receiver s)) (carried_on (λ x b. witness P h x b) (step_count h) (takes_up s y))
        (taken_node_lem N y e_n (takes_up s y)) (ends_item s y)

    -- the node at each place afterwards
    unchanged : (k : ℕ) → k ≢ receiver s → k ≢ container_limit + receiver s → get_or (held_after (is_rule F) held n s) k 0 ≡ get_or held k 0
    unfolding held_after
    unchanged k nd nr =
        get_or-set_other (set held (receiver s) (next_node (get_or held (receiver s) 0) (main_source (is_rule F) held s) (ends_main (is_rule F) s) (node_of n)))
        (container_limit + receiver s) k (next_node (get_or held (container_limit + receiver s) 0) (running_source (is_rule F) held s) (ends_running s) (node_of n + 1)) 0 nr
        ∙ get_or-set_other held (receiver s) k (next_node (get_or held (receiver s) 0) (main_source (is_rule F) held s) (ends_main (is_rule F) s) (node_of n)) 0 nd

    main_put : get_or (held_after (is_rule F) held n s) (receiver s) 0 ≡ next_node (get_or held (receiver s) 0) (main_source (is_rule F) held s) (ends_main (is_rule F) s) (node_of n)
    unfolding held_after
    main_put =
        get_or-set_other (set held (receiver s) (next_node (get_or held (receiver s) 0) (main_source (is_rule F) held s) (ends_main (is_rule F) s) (node_of n))) (container_limit + receiver s)
        (receiver s) (next_node (get_or held (container_limit + receiver s) 0) (running_source (is_rule F) held s) (ends_running s) (node_of n + 1)) 0 (λ z. absurd (omega arith))
        ∙ get_or-set_same held (receiver s) (next_node (get_or held (receiver s) 0) (main_source (is_rule F) held s) (ends_main (is_rule F) s) (node_of n)) 0 (omega (arith, T.long, W.to))

    running_put : get_or (held_after (is_rule F) held n s) (container_limit + receiver s) 0
        ≡ next_node (get_or held (container_limit + receiver s) 0) (running_source (is_rule F) held s) (ends_running s) (node_of n + 1)
    unfolding held_after
    running_put =
        get_or-set_same (set held (receiver s) (next_node (get_or held (receiver s) 0) (main_source (is_rule F) held s) (ends_main (is_rule F) s) (node_of n))) (container_limit + receiver s)
        (next_node (get_or held (container_limit + receiver s) 0) (running_source (is_rule F) held s) (ends_running s) (node_of n + 1)) 0
        (omega (arith, T.long, W.to, length-set held (receiver s) (next_node (get_or held (receiver s) 0) (main_source (is_rule F) held s) (ends_main (is_rule F) s) (node_of n))))

    witness_receiver : (y : Item) → witness P (h ▸ s) y (receiver s)
        ≡ first_of (stays (ends_item s y) (witness P h y (receiver s))) (carried_on (λ x b. witness P h x b) (step_count h) (takes_up s y))
    unfolding witness
    witness_receiver y =
        ap (λ (b : Bool). cond b (first_of (stays (ends_item s y) (witness P h y (receiver s))) (carried_on (λ x b. witness P h x b) (step_count h) (takes_up s y))) (witness P h y (receiver s)))
        (eq-eqb (receiver s) (receiver s) refl)

    witness_other : (y : Item) (c : ℕ) → c ≢ receiver s → witness P (h ▸ s) y c ≡ witness P h y c
    unfolding witness
    witness_other y c ne =
        ap (λ (b : Bool). cond b (first_of (stays (ends_item s y) (witness P h y c)) (carried_on (λ x b. witness P h x b) (step_count h) (takes_up s y))) (witness P h y c))
        (ne_eqb c (receiver s) ne)

    next_low : (own from N B : ℕ) (b : Bool) → own < B → N < B → next_node own from b N < B
    unfolding next_node taken_node
    next_low own from N B true lo ln = on (eqb from 0)
      where
        on : (z : Bool) → cond z 0 N < B
        on true = omega arith
        on false = ln
    next_low own from N B false lo ln = by (eqb own 0) (eqb from 0)
      where
        by : (x z : Bool) → cond x (cond z 0 N) own < B
        by false z = lo
        by true true = omega arith
        by true false = ln

    low_next : (k : ℕ) → get_or (held_after (is_rule F) held n s) k 0 < node_of (suc n)
    low_next k = on (ℕ_discrete k (receiver s)) (ℕ_discrete k (container_limit + receiver s))
      where
        on : Dec (k ≡ receiver s) → Dec (k ≡ container_limit + receiver s) → get_or (held_after (is_rule F) held n s) k 0 < node_of (suc n)
        on (yes e) r =
            rw (e, main_put) (next_low (get_or held (receiver s) 0) (main_source (is_rule F) held s) (node_of n) (node_of (suc n))
            (ends_main (is_rule F) s) (omega (arith, T.low (receiver s))) (omega arith))
        on (no e) (yes r) =
            rw (r, running_put)
            (next_low (get_or held (container_limit + receiver s) 0) (running_source (is_rule F) held s) (node_of n + 1) (node_of (suc n)) (ends_running s)
            (omega (arith, T.low (container_limit + receiver s))) (omega arith))
        on (no e) (no r) = rw (unchanged k e r) (omega (arith, T.low k))

    -- what is to be shown of the item y at the container c
    abbrev Next : Item → ℕ → Type 0
    Next y c =
        (get_or (held_after (is_rule F) held n s) (place_of y c) 0 ≡ chain_node ns y (witness P (h ▸ s) y c))
        × Stored ns (links_after (is_rule F) held links n s) (get_or (held_after (is_rule F) held n s) (place_of y c) 0) (witness P (h ▸ s) y c)

    -- an item at the receiver, by the node that is put at its place
    next_receiver : (N v : ℕ) → first_node ≤ N → (N - first_node) / 2 ≡ n → (y : Item) → OfFamily F y → N ≡ node_of n + form_of y
        → source_node held (takes_up s y) ≡ v → get_or (links_after (is_rule F) held links n s) N 0 ≡ v
        → (b : Bool) → ends_item s y ≡ b
        → get_or (held_after (is_rule F) held n s) (place_of y (receiver s)) 0 ≡ next_node (get_or held (place_of y (receiver s)) 0) v b N
        → Next y (receiver s)
    next_receiver N v lo own y a e_n ev e b eb ep = (
      rw (ep, witness_receiver y, sym ev, sym eb) (receiver_named N y a e_n),
      rw (ep, witness_receiver y, sym ev, sym eb) (receiver_shown N lo own y a (e ∙ sym ev)),
    )

    -- and any other
    next_other : (y : Item) → OfFamily F y → (c : ℕ) → c < container_limit → c ≢ receiver s
        → get_or (held_after (is_rule F) held n s) (place_of y c) 0 ≡ get_or held (place_of y c) 0 → Next y c
    next_other y a c lc ne e = (
      rw (e, witness_other y c ne) (T.named y a c lc),
      rw (e, witness_other y c ne)
          (stored_kept ns links (links_after (is_rule F) held links n s) (node_of n) same (get_or held (place_of y c) 0) (witness P h y c) (T.low (place_of y c)) (T.shown y a c lc)),
    )

    -- an item that stands at the container's own place
    next_main : (y : Item) → OfFamily F y → ((c : ℕ) → place_of y c ≡ c) → form_of y ≡ 0 → source_node held (takes_up s y) ≡ main_source (is_rule F) held s
        → ends_item s y ≡ ends_main (is_rule F) s → (c : ℕ) → c < container_limit → Dec (c ≡ receiver s) → Next y c
    next_main y a pl f ev eb c lc (yes q) =
        let e_n : node_of n ≡ node_of n + form_of y = omega (arith, f) in
        rw q
        (next_receiver (node_of n) (main_source (is_rule F) held s) (omega arith) (omega arith) y a e_n ev at_main (ends_main (is_rule F) s) eb
        (rw (pl (receiver s)) main_put))
    next_main y a pl f ev eb c lc (no q) = next_other y a c lc q (rw (pl c) (unchanged c q (λ z. absurd (omega (arith, z, lc)))))

    next_running : (d : ℕ) → OfFamily F (running_atom d) → source_node held (takes_up s (running_atom d)) ≡ running_source (is_rule F) held s
        → (c : ℕ) → c < container_limit → Dec (c ≡ receiver s) → Next (running_atom d) c
    next_running d a ev c lc (yes q) =
        rw q
        (next_receiver (node_of n + 1) (running_source (is_rule F) held s) (omega arith) (omega arith) (running_atom d) a refl ev at_running (ends_running s) (ends_running_lem s d) running_put)
    next_running d a ev c lc (no q) =
        next_other (running_atom d) a c lc q (unchanged (container_limit + c) (λ z. absurd (omega (arith, z, W.to))) (λ z. q (omega (arith, z))))

    long_next : length (held_after (is_rule F) held n s) ≡ held_length
    unfolding held_after
    long_next =
        length-set (set held (receiver s) (next_node (get_or held (receiver s) 0) (main_source (is_rule F) held s) (ends_main (is_rule F) s) (node_of n))) (container_limit + receiver s)
        (next_node (get_or held (container_limit + receiver s) 0) (running_source (is_rule F) held s) (ends_running s) (node_of n + 1))
        ∙ length-set held (receiver s) (next_node (get_or held (receiver s) 0) (main_source (is_rule F) held s) (ends_main (is_rule F) s) (node_of n)) ∙ T.long

-- an item of the family after one more step
next_item : (P : Policy) (F : Family) (ns : List ℕ) (h : History) (n : ℕ) (held links : List ℕ) (T : Tracked P F ns h n held links) (s : Step) (W : StepWithin s)
    (en : n ≡ get_or ns (step_count h) 0) (room : node_of n + 2 ≤ length links) (y : Item) → OfFamily F y → (c : ℕ) → c < container_limit
    → Next P F ns h n held links T s W en room y c
next_item P (of_atom d) ns h n held links T s W en room (data_atom e) a c lc =
    next_main P (of_atom d) ns h n held links T s W en room (data_atom e) a (λ x. refl) refl (main_atom held s e) (ends_atom s e) c lc (ℕ_discrete c (receiver s))
next_item P (of_atom d) ns h n held links T s W en room (running_atom e) a c lc =
    next_running P (of_atom d) ns h n held links T s W en room e a (running_atom_lem held s e) c lc (ℕ_discrete c (receiver s))
next_item P (of_atom d) ns h n held links T s W en room (run_rule q) a c lc = absurd a
next_item P (of_rule r) ns h n held links T s W en room (data_atom e) a c lc = absurd a
next_item P (of_rule r) ns h n held links T s W en room (running_atom e) a c lc = absurd a
next_item P (of_rule r) ns h n held links T s W en room (run_rule q) a c lc =
    next_main P (of_rule r) ns h n held links T s W en room (run_rule q) a (λ x. refl) refl (main_rule held s q) (ends_rule s q) c lc (ℕ_discrete c (receiver s))

module _ (P : Policy) (F : Family) (ns : List ℕ) (h : History) (n : ℕ) (held links : List ℕ) (T : Tracked P F ns h n held links) (s : Step) (W : StepWithin s)
    (en : n ≡ get_or ns (step_count h) 0) (room : node_of n + 2 ≤ length links) where
  -- a record that is a step
  pub tracked_next : Tracked P F ns (h ▸ s) (suc n) (held_after (is_rule F) held n s) (links_after (is_rule F) held links n s)
  tracked_next =
      record {
        long = long_next P F ns h n held links T s W en room;
        low = low_next P F ns h n held links T s W en room;
        named = λ y a c lc. (next_item P F ns h n held links T s W en room y a c lc).0;
        shown = λ y a c lc. (next_item P F ns h n held links T s W en room y a c lc).1;
      }

-- the links that are set are the nodes of the chains that are taken up
links_named : (P : Policy) (F : Family) (ns : List ℕ) (h : History) (n : ℕ) (held links : List ℕ) → Tracked P F ns h n held links → (s : Step) → StepWithin s
    → (main_source (is_rule F) held s ≡ main_link P ns F h s) × (running_source (is_rule F) held s ≡ running_link P ns F h s)
links_named P (of_atom d) ns h n held links T s W = (
  sym (main_atom held s d) ∙ source_named P (of_atom d) ns h n held links T s W (data_atom d) refl (takes_up s (data_atom d)) refl,
  sym (running_atom_lem held s d) ∙ source_named P (of_atom d) ns h n held links T s W (running_atom d) refl (takes_up s (running_atom d)) refl,
)
links_named P (of_rule r) ns h n held links T s W = (
  sym (main_rule held s r) ∙ source_named P (of_rule r) ns h n held links T s W (run_rule r) refl (takes_up s (run_rule r)) refl,
  unfold running_source in refl,
)

pub links_next : (P : Policy) (F : Family) (ns : List ℕ) (h : History) (n : ℕ) (held links : List ℕ) → Tracked P F ns h n held links → (s : Step) → StepWithin s
    → links_after (is_rule F) held links n s ≡ links_at P ns F h n s links
unfolding links_after links_at
links_next P F ns h n held links T s W =
    let e = links_named P F ns h n held links T s W in
    ap₂ (λ (a b : ℕ). set (set links (node_of n) a) (node_of n + 1) b) e.0 e.1
