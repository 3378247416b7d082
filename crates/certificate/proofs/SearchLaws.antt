-- The search for a run rule that forbids and has a chain.
use Prim.Native.Nat.{ℕ, zero, suc, ◌+◌, ◌-◌, ◌/◌, ◌≤◌, ◌<◌}
use native.Mathlib.Omega.{arith}
use native.Mathlib.Numerals.{add-one}
use mathlib.Core.Path.{◌≡◌, refl, sym, ap, subst, ◌∙◌}
use mathlib.Core.Bool.{Bool, true, false}
use mathlib.Core.List.{List, [], ◌∷◌, append-nil}
use mathlib.Core.Logic.{◌≢◌}
use mathlib.Core.Option.{Option, none, some}
use lib.ListN.{length, take, drop, get_elem?, drop_of_length-le}
use lib.Seq.{take_all}
use Rattle.lists.proofs.Bools.{clash}
use Rattle.lists.proofs.Places.{some_inj, none_some}
use Rattle.rules.specs.declared.Bounded.{Bounded}
use Rattle.rules.specs.Answers.{bounded_of}
use Rattle.image.specs.Limits.{container_limit, container_size}
use Rattle.image.specs.Policy.{Container, Policy, rule_at}
use Rattle.image.specs.Image.{part, policy_in, check_of}
use Rattle.image.proofs.AcceptedImage.{few_containers_lem}
use Rattle.image.proofs.RecordsByPlace.{containers_count}
use Rattle.session.specs.Session.{start_of}
use Rattle.chains.specs.History.{History}
use Rattle.chains.specs.Chains.{Item, data_atom, running_atom, run_rule, Starts}
use Rattle.chains.specs.Demand.{history_of}
use Rattle.records.specs.Records.{step_of}
use Rattle.records.specs.Traces.{trace_records}
use Rattle.monitor.specs.Runs.{step_on}
use Rattle.std.specs.Prelude as Option
use Rattle.std.specs.Option.{is_some}
use Rattle.witness.specs.Found.{Found, file_number, Inside}
use Rattle.witness.specs.Witness.{Witness, first_of, witness}
use Rattle.witness.specs.Told.{chain_file, chain_records, found_in, at_end}
use Rattle.witness.specs.Links.{of_rule, links_left}
use Rattle.witness.specs.Explains.{rule_witness, rule_numbers, rule_found, rule_steps, rule_links}
use Rattle.witness.specs.Tells.{Right}
use Rattle.witness.proofs.HistoryLaws.{rule_links_long}
use Rattle.witness.proofs.Theorems.{witness_right}
use Rattle.certificate.specs.Whys.{run_of, run_forbids, run_witness, run_chain, pass_links, search_links}
use Rattle.certificate.specs.Marks.{forbids_at, search_chain, searched_links, Roomy, FileFound, Searched}
use Rattle.certificate.proofs.ImageRules.{read_rule}

-- ---- a chain begins in a container

starts_inside : (P : Policy) (f : ℕ) (x : Item) → Starts P f x → f < length P.containers
starts_inside P f x st = on x st
  where
    inside : {A : Type 0} (l : List A) (n : ℕ) (a : A) → get_elem? l n ≡ some a → n < length l
    inside [] n a e = absurd (none_some e)
    inside (y ∷ l) zero a e = omega arith
    inside (y ∷ l) (suc n) a e = omega (arith, inside l n a e)

    on : (x : Item) → Starts P f x → f < length P.containers
    on (data_atom d) (K, at, kind, names, other) = inside P.containers f K at
    on (running_atom d) s = absurd s
    on (run_rule r) (K, at, kind, names) = inside P.containers f K at

image_few : (i : List ℕ) → check_of i ≡ 0 → length (policy_in i).containers ≤ container_limit
unfolding policy_in
image_few i ok = omega (arith, containers_count (part i 0), few_containers_lem i ok)

pub chain_file_lem : (i : List ℕ) → check_of i ≡ 0 → (h : History) (y : Item) (o : ℕ) (w : Witness) → witness (policy_in i) h y o ≡ some w → w.file < container_limit
chain_file_lem i ok h y o w e =
    let r : Right (policy_in i) h y o (some w) = subst (λ (v : Option Witness). Right (policy_in i) h y o v) e (witness_right (policy_in i) h y o) in
    omega (arith, starts_inside (policy_in i) w.file w.item r.0, image_few i ok)

-- ---- what is found of a rule of the image

module _ (i t : List ℕ) (f o : ℕ) (ok : check_of i ≡ 0) {n : ℕ} (en : n ≡ run_of (get_elem? (policy_in i).containers f))
    {b : Bounded} (eb : b ≡ bounded_of (rule_at (policy_in i).rules n)) {links steps links' steps' : List ℕ} {r : Found} where
  pub file_found : r ≡ rule_found i t (take (b.count - 0) (drop 0 b.mixtures)) o steps
      → steps' ≡ rule_steps i t (take (b.count - 0) (drop 0 b.mixtures)) o steps
      → links' ≡ rule_links i t (take (b.count - 0) (drop 0 b.mixtures)) links
      → FileFound i t (run_of (get_elem? (policy_in i).containers f)) o links steps r links' steps'
  file_found x y z =
      let q : take (b.count - 0) (drop 0 b.mixtures) ≡ rule_at (policy_in i).rules (run_of (get_elem? (policy_in i).containers f)) =
      read_rule i n ok eb ∙ ap (rule_at (policy_in i).rules) en in
      record {
        found = x ∙ ap (λ (l : List ℕ). rule_found i t l o steps) q;
        in_steps = y ∙ ap (λ (l : List ℕ). rule_steps i t l o steps) q;
        in_links = z ∙ ap (λ (l : List ℕ). rule_links i t l links) q;
      }

-- ---- the search

-- the containers before f are passed
pub record Searching (i t : List ℕ) (tag o : ℕ) (links₀ steps₀ links steps : List ℕ) (f : ℕ) : Type 0 where
  pub same : steps ≡ steps₀
  pub even : length steps ≡ length steps₀
  pub long : length links ≡ length links₀
  pub chain : run_chain (policy_in i) (history_of step_on step_of (start_of (policy_in i)) (trace_records t)) tag o (drop f (policy_in i).containers) ≡ search_chain i t tag o
  pub left :
      search_links (policy_in i) (start_of (policy_in i)) (trace_records t) tag o (drop f (policy_in i).containers) links ≡ searched_links i t tag o links₀

pub searching_start : (i t : List ℕ) (tag o : ℕ) (links steps : List ℕ) → Searching i t tag o links steps links steps 0
unfolding search_chain searched_links
searching_start i t tag o links steps = record { same = refl; even = refl; long = refl; chain = refl; left = refl }

pub searching_roomy : {i t : List ℕ} {tag o : ℕ} {links₀ steps₀ links steps : List ℕ} {f : ℕ} → Searching i t tag o links₀ steps₀ links steps f
    → Roomy t links₀ steps₀ → Roomy t links steps
searching_roomy g r = record { for_links = omega (arith, g.long, r.for_links); for_steps = omega (arith, ap length g.same, r.for_steps) }

pub searching_count : (i : List ℕ) {s : List ℕ} {f : ℕ} → s ≡ part i 0 → f < length s / container_size → f < length (policy_in i).containers
unfolding policy_in
searching_count i {s} {f} e l = omega (arith, containers_count (part i 0), ap length e, l)

drop_element : {A : Type 0} (l : List A) (f : ℕ) (x : A) → get_elem? l f ≡ some x → drop f l ≡ x ∷ drop (f + 1) l
drop_element l f x e = rw (add-one f) (on l f e)
  where
    on : {A : Type 0} {x : A} (l : List A) (f : ℕ) → get_elem? l f ≡ some x → drop f l ≡ x ∷ drop (suc f) l
    on [] f e = absurd (none_some e)
    on (y ∷ l) zero e = ap (λ z. z ∷ l) (some_inj e)
    on (y ∷ l) (suc f) e = on l f e

element : {A : Type 0} (l : List A) (f : ℕ) → f < length l → (x : A) × (get_elem? l f ≡ some x)
element [] f l = absurd (omega arith)
element (y ∷ l) zero h = (y, refl)
element (y ∷ l) (suc f) h = element l f (omega arith)

-- with no chain the steps are as they were
pub no_steps : (ns steps : List ℕ) → at_end (chain_records ns none) steps ≡ steps
unfolding at_end chain_records
no_steps ns steps = append-nil (take (length steps - 0) steps) ∙ take_all (length steps - 0) steps (omega arith)

module _ (i t : List ℕ) (tag o : ℕ) where
  abbrev policy : Policy
  policy = policy_in i

  abbrev history : History
  history = history_of step_on step_of (start_of (policy_in i)) (trace_records t)

  abbrev rest : ℕ → List Container
  rest f = drop f (policy_in i).containers

  -- container number f of the image is K
  module _ (f : ℕ) (K : Container) (at : get_elem? (policy_in i).containers f ≡ some K) where
    here : rest f ≡ K ∷ rest (f + 1)
    here = drop_element (policy_in i).containers f K at

    forbids_here : {b x : Bool} → b ≡ forbids_at policy tag (get_elem? (policy_in i).containers f) → b ≡ x → run_forbids policy tag K ≡ x
    forbids_here {b} {x} e h = sym (ap (forbids_at policy tag) at) ∙ sym e ∙ h

    chain_skip : run_forbids policy tag K ≡ false → run_chain policy history tag o (rest f) ≡ run_chain policy history tag o (rest (f + 1))
    unfolding run_chain
    chain_skip e = rw (here, e)

    chain_first : run_forbids policy tag K ≡ true → (v : Option Witness) → run_witness policy history o K ≡ v
        → run_chain policy history tag o (rest f) ≡ first_of v (run_chain policy history tag o (rest (f + 1)))
    unfolding run_chain
    chain_first e v g = rw (here, e, g)

    links_skip : run_forbids policy tag K ≡ false → (links : List ℕ)
        → search_links policy (start_of policy) (trace_records t) tag o (rest f) links ≡ search_links policy (start_of policy) (trace_records t) tag o (rest (f + 1)) links
    unfolding search_links
    links_skip e links = rw (here, e)

    links_first : run_forbids policy tag K ≡ true → (v : Option Witness) → run_witness policy history o K ≡ v → (links : List ℕ)
        → search_links policy (start_of policy) (trace_records t) tag o (rest f) links
        ≡ pass_links v (links_left policy (of_rule (rule_at policy.rules K.run)) (start_of policy) (trace_records t) links)
        (search_links policy (start_of policy) (trace_records t) tag o (rest (f + 1)) (links_left policy (of_rule (rule_at policy.rules K.run)) (start_of policy) (trace_records t) links))
    unfolding search_links
    links_first e v g links = rw (here, e, g)

    -- what is found of its run rule
    module _ {links steps links' steps' : List ℕ} {r : Found} (g : FileFound i t (run_of (get_elem? (policy_in i).containers f)) o links steps r links' steps') where
      number_here : run_of (get_elem? (policy_in i).containers f) ≡ K.run
      number_here = ap run_of at

      found_here : r ≡ found_in (rule_numbers i t) (run_witness policy history o K) steps
      unfolding rule_found rule_witness run_witness
      found_here = g.found ∙ ap (λ (n : ℕ). rule_found i t (rule_at (policy_in i).rules n) o steps) number_here

      steps_here : steps' ≡ at_end (chain_records (rule_numbers i t) (run_witness policy history o K)) steps
      unfolding rule_steps rule_witness run_witness
      steps_here = g.in_steps ∙ ap (λ (n : ℕ). rule_steps i t (rule_at (policy_in i).rules n) o steps) number_here

      links_here : links' ≡ links_left policy (of_rule (rule_at policy.rules K.run)) (start_of policy) (trace_records t) links
      unfolding rule_links
      links_here = g.in_links ∙ ap (λ (n : ℕ). rule_links i t (rule_at (policy_in i).rules n) links) number_here

      file_here : (v : Option Witness) → run_witness policy history o K ≡ v → r.file ≡ chain_file v
      unfolding found_in
      file_here v e = ap (λ (x : Found). x.file) found_here ∙ ap chain_file e

  module _ {links₀ steps₀ links steps : List ℕ} {f : ℕ} (g : Searching i t tag o links₀ steps₀ links steps f) where
    pub skip : f < length (policy_in i).containers → {b : Bool} → b ≡ forbids_at policy tag (get_elem? (policy_in i).containers f) → b ≡ false
        → Searching i t tag o links₀ steps₀ links steps (f + 1)
    skip l {b} e h =
        let x = element (policy_in i).containers f l in
        let n : run_forbids policy tag x.0 ≡ false = forbids_here f x.0 x.1 e h in
        record { same = g.same; even = g.even; long = g.long; chain = sym (chain_skip f x.0 x.1 n) ∙ g.chain; left = sym (links_skip f x.0 x.1 n links) ∙ g.left }

    module _ (ok : check_of i ≡ 0) (l : f < length (policy_in i).containers) {b : Bool} (e : b ≡ forbids_at policy tag (get_elem? (policy_in i).containers f)) (h : b ≡ true)
        {links' steps' : List ℕ} {r : Found} (w : FileFound i t (run_of (get_elem? (policy_in i).containers f)) o links steps r links' steps') where
      -- the container at f, whose run rule forbids
      x : (K : Container) × (get_elem? (policy_in i).containers f ≡ some K)
      x = element (policy_in i).containers f l

      n : run_forbids policy tag x.0 ≡ true
      n = forbids_here f x.0 x.1 e h

      pub nothing : r.file ≡ container_limit → Searching i t tag o links₀ steps₀ links' steps' (f + 1)
      nothing z = on (run_witness policy history o x.0) refl
        where
          on : (v : Option Witness) → run_witness policy history o x.0 ≡ v → Searching i t tag o links₀ steps₀ links' steps' (f + 1)
          on none q =
              let k : steps' ≡ steps₀ =
              steps_here f x.0 x.1 w ∙ ap (λ (v : Option Witness). at_end (chain_records (rule_numbers i t) v) steps) q ∙ no_steps (rule_numbers i t) steps ∙ g.same in
              record {
                same = k;
                even = ap length k;
                long = ap length w.in_links ∙ rule_links_long i t (rule_at (policy_in i).rules (run_of (get_elem? (policy_in i).containers f))) links ∙ g.long;
                chain = sym (chain_first f x.0 x.1 n none q) ∙ g.chain;
                left =
                    ap (search_links policy (start_of policy) (trace_records t) tag o (rest (f + 1))) (links_here f x.0 x.1 w) ∙ sym (links_first f x.0 x.1 n none q links) ∙ g.left;
              }
          on (some v) q =
              let s : witness policy history (run_rule (rule_at policy.rules x.0.run)) o ≡ some v = unfold run_witness in q in
              let k : chain_file (some v) ≡ v.file = unfold chain_file in refl in
              absurd (omega (arith, z, file_here f x.0 x.1 w (some v) q, k, chain_file_lem i ok history (run_rule (rule_at policy.rules x.0.run)) o v s))

      pub found : r.file ≢ container_limit → Searched i t tag o links₀ steps₀ r links' steps'
      found z = on (run_witness policy history o x.0) refl
        where
          on : (v : Option Witness) → run_witness policy history o x.0 ≡ v → Searched i t tag o links₀ steps₀ r links' steps'
          on none q = absurd (z (file_here f x.0 x.1 w none q ∙ unfold chain_file in refl))
          on (some v) q =
              let s : search_chain i t tag o ≡ some v = sym g.chain ∙ chain_first f x.0 x.1 n (some v) q in
              let c : run_witness policy history o x.0 ≡ search_chain i t tag o = q ∙ sym s in
              record {
                found = found_here f x.0 x.1 w ∙ ap (λ (u : Option Witness). found_in (rule_numbers i t) u steps) c ∙ ap (found_in (rule_numbers i t) (search_chain i t tag o)) g.same;
                in_steps =
                    steps_here f x.0 x.1 w ∙ ap (λ (u : Option Witness). at_end (chain_records (rule_numbers i t) u) steps) c
                    ∙ ap (at_end (chain_records (rule_numbers i t) (search_chain i t tag o))) g.same;
                in_links = links_here f x.0 x.1 w ∙ sym (links_first f x.0 x.1 n (some v) q links) ∙ g.left;
              }

    pub ended : {s : List ℕ} → s ≡ part i 0 → length s / container_size ≤ f → Searched i t tag o links₀ steps₀ (record { file = container_limit; first = length steps }) links steps
    ended {s} e l =
        let m : length (policy_in i).containers ≤ f = unfold policy_in in (omega (arith, containers_count (part i 0), ap length e, l)) in
        let d : rest f ≡ [] = drop_of_length-le (policy_in i).containers {i = f} m in
        let c : search_chain i t tag o ≡ none = sym g.chain ∙ ap (run_chain policy history tag o) d ∙ unfold run_chain in refl in
        let z : length steps ≡ length steps - 0 = omega arith in
        record {
          found =
              (λ j. record { file = container_limit; first = z j })
              ∙ none_found steps ∙ ap (λ (v : Option Witness). found_in (rule_numbers i t) v steps) (sym c) ∙ ap (found_in (rule_numbers i t) (search_chain i t tag o)) g.same;
          in_steps = g.same ∙ sym (no_steps (rule_numbers i t) steps₀) ∙ ap (λ (v : Option Witness). at_end (chain_records (rule_numbers i t) v) steps₀) (sym c);
          in_links = none_left ∙ ap (λ (k : List Container). search_links policy (start_of policy) (trace_records t) tag o k links) (sym d) ∙ g.left;
        }
      where
        none_found : (steps : List ℕ) → record { file = container_limit; first = length steps - 0 } ≡ found_in (rule_numbers i t) none steps
        none_found steps = unfold found_in chain_file chain_records in refl

        none_left : links ≡ search_links policy (start_of policy) (trace_records t) tag o [] links
        none_left = unfold search_links in refl

-- ---- the file of what is found, as the code tests it

pub inside_some : {b : Bool} (o : Option.Option ℕ) → Inside o → b ≡ is_some o → b ≡ true → file_number o ≢ container_limit
inside_some Option.None l e h = clash h e
inside_some (Option.Some f) l e h = λ z. absurd (omega (arith, l, z))

pub none_file : {b : Bool} (o : Option.Option ℕ) → b ≡ is_some o → b ≡ false → file_number o ≡ container_limit
none_file Option.None e h = refl
none_file (Option.Some f) e h = clash e h
