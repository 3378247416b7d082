-- The nodes at the start stand for the chains with no step.
use Prim.Native.Nat.{ℕ, suc, zero, ◌+◌, ◌*◌, ◌/◌, ◌-◌, ◌≤◌, ◌<◌}
use native.Mathlib.Omega.{arith}
use native.Mathlib.Decide.{dec_lt, ℕ_discrete}
use mathlib.Core.Path.{◌≡◌, refl, sym, ◌∙◌, ap}
use mathlib.Core.Bool.{Bool, true, false, cond, ◌&&◌, ◌||◌}
use mathlib.Core.List.{List, [], ◌∷◌}
use mathlib.Core.Option.{Option, none, some}
use lib.Dec.{eqb, ltb}
use lib.ListN.{length, get_or, set, get_elem?, take, drop, length-set, length-map}
use lib.Seq.{get_or-set_same, get_or-set_other}
use borrow.Author.Tests.{ne_eqb}
use Rattle.lists.specs.Lists.{same_list, every}
use Rattle.lists.proofs.Bools.{and_1}
use Rattle.lists.proofs.Places.{every_at, none_some}
use Rattle.fields.specs.Bytes.{field, records}
use Rattle.fields.proofs.SectionRecords.{records_count, record_at}
use Rattle.rules.specs.Answers.{data_width}
use Rattle.image.specs.Limits.{container_limit, rule_size, container_size, container_kind_at, container_atom_at, container_permit_at, container_run_at, size8, size16, is_file, no_atom}
use Rattle.image.specs.Policy.{Container, Policy, named, container_good, rule_at}
use Rattle.image.specs.Image.{part, container_in, containers_in, check_of, policy_in}
use Rattle.image.proofs.AcceptedImage.{accepted_containers}
use Rattle.chains.specs.History.{start}
use Rattle.chains.specs.Chains.{Item, data_atom, running_atom, run_rule}
use Rattle.witness.specs.Witness.{starts_as, starts_in, witness}
use Rattle.witness.specs.Links.{first_node, node_of, chain_node, Family, of_atom, of_rule, main_item}
use Rattle.witness.specs.Nodes.{held_length, place_of, Stored, OfFamily, Tracked, start_node, Begun}

-- ---- places of a list

at_in : {A : Type 0} (l : List A) (c : ℕ) (z : A) → c < length l → get_elem? l c ≡ some (get_or l c z)
at_in [] c z h = absurd (omega arith)
at_in (x ∷ l) zero z h = refl
at_in (x ∷ l) (suc c) z h = at_in l c z (omega arith)

at_past : {A : Type 0} (l : List A) (c : ℕ) → length l ≤ c → get_elem? l c ≡ none
at_past [] c h = refl
at_past (x ∷ l) zero h = absurd (omega arith)
at_past (x ∷ l) (suc c) h = at_past l c (omega arith)

pub at_inside : {A : Type 0} (l : List A) (c : ℕ) (x : A) → get_elem? l c ≡ some x → c < length l
at_inside [] c x e = absurd (none_some e)
at_inside (y ∷ l) zero x e = omega arith
at_inside (y ∷ l) (suc c) x e = omega (arith, at_inside l c x e)

past_zero : (l : List ℕ) (c : ℕ) → length l ≤ c → get_or l c 0 ≡ 0
past_zero [] c h = refl
past_zero (x ∷ l) zero h = absurd (omega arith)
past_zero (x ∷ l) (suc c) h = past_zero l c (omega arith)

-- ---- a container of the image

pub containers_count : (cs : List ℕ) → length (containers_in cs) ≡ length cs / container_size
unfolding containers_in
containers_count cs = length-map (records container_size cs) container_in ∙ records_count container_size cs

no_container : Container
no_container = record { kind = 0; atom = 0; permit = 0; run = 0 }

container_in_lem : (cs : List ℕ) (c : ℕ) → c < length cs / container_size
    → get_elem? (containers_in cs) c ≡ some (container_in (take container_size (drop (c * container_size) cs)))
container_in_lem cs c h =
    at_in (containers_in cs) c no_container (omega (arith, containers_count cs))
    ∙ ap some (unfold containers_in in record_at container_in container_size c cs no_container h)

-- a container of the section is as the image has it
pub container_good_lem : (cs : List ℕ) (n c : ℕ) → every (container_good n) (containers_in cs) ≡ true → c < length cs / container_size
    → container_good n (container_in (take container_size (drop (c * container_size) cs))) ≡ true
container_good_lem cs n c g h = every_at (container_good n) (containers_in cs) c (container_in (take container_size (drop (c * container_size) cs))) g (container_in_lem cs c h)

module _ (rules : List (List ℕ)) (y : Item) (cs : List ℕ) (c : ℕ) where
  pub node_past : length cs / container_size ≤ c → 0 ≡ start_node rules y (get_elem? (containers_in cs) c) c
  node_past h = rw (at_past (containers_in cs) c (omega (arith, containers_count cs)))

  module _ (h : c < length cs / container_size) (b : Bool) (e : b ≡ starts_as rules y (container_in (take container_size (drop (c * container_size) cs)))) where
    pub node_none : b ≡ false → 0 ≡ start_node rules y (get_elem? (containers_in cs) c) c
    node_none t = rw (container_in_lem cs c h, sym e, t)

    pub node_own : b ≡ true → c + 1 ≡ start_node rules y (get_elem? (containers_in cs) c) c
    node_own t = let z : c + 1 ≡ suc c = omega arith in rw (container_in_lem cs c h, sym e, t) z

-- ---- the loop over the containers

-- the nodes of the containers below c are those of the start
pub record Beginning (containers : List Container) (rules : List (List ℕ)) (F : Family) (held : List ℕ) (c : ℕ) : Type 0 where
  pub within : c ≤ container_limit
  pub long : length held ≡ held_length
  pub main_nodes : (k : ℕ) → k < c → get_or held k 0 ≡ start_node rules (main_item F) (get_elem? containers k) k
  pub running_nodes : (k : ℕ) → k < c → get_or held (container_limit + k) 0 ≡ 0

module _ (containers : List Container) (rules : List (List ℕ)) (F : Family) where
  pub beginning_start : (held : List ℕ) → length held ≡ held_length → Beginning containers rules F held 0
  beginning_start held l = record { within = omega arith; long = l; main_nodes = λ k h. absurd (omega arith); running_nodes = λ k h. absurd (omega arith) }

  pub beginning_next : (held : List ℕ) (c v : ℕ) → Beginning containers rules F held c → c < container_limit
      → v ≡ start_node rules (main_item F) (get_elem? containers c) c → Beginning containers rules F (set (set held c v) (container_limit + c) 0) (c + 1)
  beginning_next held c v b l e =
      record {
        within = omega arith;
        long = length-set (set held c v) (container_limit + c) 0 ∙ length-set held c v ∙ b.long;
        main_nodes = λ k h. at k h (ℕ_discrete k c);
        running_nodes = λ k h. up k h (ℕ_discrete k c);
      }
    where
      at : (k : ℕ) → k < c + 1 → Dec (k ≡ c) → get_or (set (set held c v) (container_limit + c) 0) k 0 ≡ start_node rules (main_item F) (get_elem? containers k) k
      at k h (yes z) =
          rw z (get_or-set_other (set held c v) (container_limit + c) c 0 0 (λ q. absurd (omega arith)) ∙ get_or-set_same held c v 0 (omega (arith, b.long)) ∙ e)
      at k h (no z) =
          get_or-set_other (set held c v) (container_limit + c) k 0 0 (λ q. absurd (omega (arith, q))) ∙ get_or-set_other held c k v 0 z ∙ b.main_nodes k (omega arith)

      up : (k : ℕ) → k < c + 1 → Dec (k ≡ c) → get_or (set (set held c v) (container_limit + c) 0) (container_limit + k) 0 ≡ 0
      up k h (yes z) = rw z (get_or-set_same (set held c v) (container_limit + c) 0 0 (omega (arith, b.long, length-set held c v)))
      up k h (no z) =
          get_or-set_other (set held c v) (container_limit + c) (container_limit + k) 0 0 (λ q. z (omega (arith, q)))
          ∙ get_or-set_other held c (container_limit + k) v 0 (λ q. absurd (omega (arith, q, l))) ∙ b.running_nodes k (omega arith)

  pub beginning_end : (held : List ℕ) (c : ℕ) → Beginning containers rules F held c → container_limit ≤ c → Begun containers rules F held
  beginning_end held c b l =
      record { long = b.long; main_nodes = λ k h. b.main_nodes k (omega arith); running_nodes = λ k h. b.running_nodes k (omega arith) }

-- ---- what they stand for

node_low : (b : Bool) (c : ℕ) → c < container_limit → cond b (suc c) 0 < first_node
node_low true c l = omega arith
node_low false c l = omega arith

running_starts : (rules : List (List ℕ)) (d : ℕ) (m : Option Container) → starts_in rules (running_atom d) m ≡ false
unfolding starts_as
running_starts rules d none = refl
running_starts rules d (some K) = refl

module _ (P : Policy) (F : Family) (ns held links : List ℕ) (B : Begun P.containers P.rules F held) where
  low : (k : ℕ) → get_or held k 0 < node_of 0
  low k = on (dec_lt k container_limit) (dec_lt k held_length)
    where
      on : Dec (k < container_limit) → Dec (k < held_length) → get_or held k 0 < node_of 0
      on (yes l) m = rw (B.main_nodes k l) (let z = node_low (starts_in P.rules (main_item F) (get_elem? P.containers k)) k l in omega (arith, z))
      on (no l) (yes m) =
          let z : container_limit + (k - container_limit) ≡ k = omega arith in
          let y : get_or held k 0 ≡ 0 = ap (λ (x : ℕ). get_or held x 0) (sym z) ∙ B.running_nodes (k - container_limit) (omega arith) in
          omega (arith, y)
      on (no l) (no m) = let y : get_or held k 0 ≡ 0 = past_zero held k (omega (arith, B.long)) in omega (arith, y)

  -- what is to be shown of the item y at the container c
  abbrev At : Item → ℕ → Type 0
  At y c = (get_or held (place_of y c) 0 ≡ chain_node ns y (witness P start y c)) × Stored ns links (get_or held (place_of y c) 0) (witness P start y c)

  begun_at : (y : Item) (c : ℕ) → c < container_limit → (b : Bool) → starts_in P.rules y (get_elem? P.containers c) ≡ b
      → get_or held (place_of y c) 0 ≡ cond b (suc c) 0 → At y c
  unfolding witness
  begun_at y c l true eb e = (rw (e, eb), rw (e, eb) (refl, l))
  begun_at y c l false eb e = (rw (e, eb), rw (e, eb) refl)

  main_at : (c : ℕ) → c < container_limit → (x : ℕ) → x ≡ c → get_or held x 0 ≡ cond (starts_in P.rules (main_item F) (get_elem? P.containers c)) (suc c) 0
  main_at c l x e = rw e (B.main_nodes c l)

begun_item : (P : Policy) (F : Family) (ns held links : List ℕ) (B : Begun P.containers P.rules F held) (y : Item) → OfFamily F y → (c : ℕ) → c < container_limit
    → At P F ns held links B y c
begun_item P (of_atom d) ns held links B (data_atom e) a c l =
    rw a (begun_at P (of_atom d) ns held links B (data_atom d) c l (starts_in P.rules (data_atom d) (get_elem? P.containers c)) refl (B.main_nodes c l))
begun_item P (of_atom d) ns held links B (running_atom e) a c l =
    begun_at P (of_atom d) ns held links B (running_atom e) c l false (running_starts P.rules e (get_elem? P.containers c)) (B.running_nodes c l)
begun_item P (of_atom d) ns held links B (run_rule q) a c l = absurd a
begun_item P (of_rule r) ns held links B (data_atom e) a c l = absurd a
begun_item P (of_rule r) ns held links B (running_atom e) a c l = absurd a
begun_item P (of_rule r) ns held links B (run_rule q) a c l =
    rw a (begun_at P (of_rule r) ns held links B (run_rule r) c l (starts_in P.rules (run_rule r) (get_elem? P.containers c)) refl (B.main_nodes c l))

pub tracked_begin : (P : Policy) (F : Family) (ns held links : List ℕ) → Begun P.containers P.rules F held → Tracked P F ns start 0 held links
tracked_begin P F ns held links B =
    record {
      long = B.long;
      low = low P F ns held links B;
      named = λ y a c l. (begun_item P F ns held links B y a c l).0;
      shown = λ y a c l. (begun_item P F ns held links B y a c l).1;
    }

-- ---- the record of a container

module _ (r : List ℕ) (kind : ℕ) (b : Bool) (ek : kind ≡ field r container_kind_at size8) (eb : b ≡ is_file kind) where
  kept_kind : is_file (field r container_kind_at size8) ≡ b
  kept_kind = ap is_file (sym ek) ∙ sym eb

  pub no_file : (rules : List (List ℕ)) (F : Family) → b ≡ false → false ≡ starts_as rules (main_item F) (container_in r)
  unfolding starts_as container_in
  no_file rules (of_atom d) t = rw (kept_kind, t)
  no_file rules (of_rule q) t = rw (kept_kind, t)

  pub file_atom : (rules : List (List ℕ)) (d atom : ℕ) → d < data_width → atom ≡ field r container_atom_at size8 → b ≡ true
      → eqb atom d ≡ starts_as rules (data_atom d) (container_in r)
  unfolding starts_as container_in
  file_atom rules d atom l ea t = rw (kept_kind, t, sym ea, ne_eqb d no_atom (λ e. absurd (omega (arith, e, l)))) (by (eqb atom d))
    where
      by : (x : Bool) → x ≡ (x && true)
      by true = refl
      by false = refl

  pub file_rule : (rules : List (List ℕ)) (q : List ℕ) (run : ℕ) (x : Bool) → run ≡ field r container_run_at size16 → x ≡ same_list (rule_at rules run) q → b ≡ true
      → x ≡ starts_as rules (run_rule q) (container_in r)
  unfolding starts_as container_in
  file_rule rules q run x er ex t = rw (kept_kind, t, sym er) ex

  -- a file names a rule of the image
  pub run_named : (n run : ℕ) → container_good n (container_in r) ≡ true → run ≡ field r container_run_at size16 → b ≡ true → named n run ≡ true
  unfolding container_good container_in
  run_named n run g er t =
      let h : ((ltb (field r container_atom_at size8) data_width || eqb (field r container_atom_at size8) no_atom) &&
      (named n (field r container_permit_at size16) && named n (field r container_run_at size16))) ≡ true = rw (kept_kind, t) at g in
      rw er (and_1 (named n (field r container_permit_at size16)) (and_1 (ltb (field r container_atom_at size8) data_width || eqb (field r container_atom_at size8) no_atom) h))

-- ---- a container of an accepted image

module _ (i : List ℕ) {cs : List ℕ} (ec : cs ≡ part i 0) (c : ℕ) where
  pub accepted_container : check_of i ≡ 0 → c < length cs / container_size
      → container_good (length (part i 2) / rule_size) (container_in (take container_size (drop (c * container_size) cs))) ≡ true
  accepted_container ok h = container_good_lem cs (length (part i 2) / rule_size) c (rw ec (accepted_containers i ok)) h

  module _ (y : Item) where
    pub start_past : length cs / container_size ≤ c → 0 ≡ start_node (policy_in i).rules y (get_elem? (policy_in i).containers c) c
    unfolding policy_in
    start_past h = rw (← ec) (node_past (policy_in i).rules y cs c h)

    module _ (h : c < length cs / container_size) {b : Bool} (e : b ≡ starts_as (policy_in i).rules y (container_in (take container_size (drop (c * container_size) cs)))) where
      pub start_none : b ≡ false → 0 ≡ start_node (policy_in i).rules y (get_elem? (policy_in i).containers c) c
      unfolding policy_in
      start_none t = rw (← ec) (node_none (policy_in i).rules y cs c h b e t)

      pub start_own : b ≡ true → c + 1 ≡ start_node (policy_in i).rules y (get_elem? (policy_in i).containers c) c
      unfolding policy_in
      start_own t = rw (← ec) (node_own (policy_in i).rules y cs c h b e t)
