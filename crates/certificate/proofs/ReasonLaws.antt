-- The reason by the records before an exec is that by the history before it.
use Prim.Native.Nat.{ℕ, suc, ◌<◌}
use native.Mathlib.Omega.{arith}
use mathlib.Core.Path.{◌≡◌, refl, sym, ap, ap₂, ◌∙◌}
use mathlib.Core.Bool.{Bool, true, false, cond}
use mathlib.Core.List.{List, [], ◌∷◌, ◌++◌, map}
use mathlib.Core.Option.{Option, none, some}
use lib.Dec.{eqb}
use lib.ListN.{length, take, get_or, get_elem?}
use lib.Seq.{get_or-take}
use Rattle.image.specs.Policy.{Container, Policy, rule_at}
use Rattle.chains.specs.History.{History, start, ◌▸◌, step_count, receiver}
use Rattle.chains.specs.Chains.{Item, run_rule}
use Rattle.chains.specs.Demand.{history_of}
use Rattle.records.specs.Records.{step_of}
use Rattle.monitor.specs.Runs.{step_on}
use Rattle.witness.specs.Witness.{Source, Witness, rising, takes_up, ends_item, starts_in, stays, further, carried_on, first_of, witness}
use Rattle.witness.specs.Told.{accepted_numbers, chain_records}
use Rattle.certificate.specs.Origins.{Origin, own, made, started, nowhere, before}
use Rattle.certificate.specs.Whys.{run_forbids, run_witness, run_chain, run_reason, exec_reason, reason_by, links_by}
use Rattle.certificate.specs.Marks.{reason_at, links_at}
use Rattle.certificate.proofs.OriginLaws.{Inside, before_size}
use Rattle.certificate.proofs.NumberLaws.{accepted_size, Placed, placed}
use Rattle.certificate.proofs.MarkOrigins.{renumbered}

-- ---- the steps of a chain are steps of the history

abbrev AllBelow : ℕ → List ℕ → Type 0
AllBelow n [] = Unit {0}
AllBelow n (i ∷ is) = (i < n) × AllBelow n is

abbrev pub ChainBelow : ℕ → Option Witness → Type 0
ChainBelow n none = Unit {0}
ChainBelow n (some w) = AllBelow n w.falling

all_more : (n : ℕ) (is : List ℕ) → AllBelow n is → AllBelow (suc n) is
all_more n [] b = tt
all_more n (i ∷ is) b = let l = b.0 in (omega arith, all_more n is b.1)

more : (n : ℕ) (w : Option Witness) → ChainBelow n w → ChainBelow (suc n) w
more n none b = tt
more n (some w) b = all_more n w.falling b

stays_below : (n : ℕ) (e : Bool) (w : Option Witness) → ChainBelow n w → ChainBelow n (stays e w)
stays_below n true w b = tt
stays_below n false w b = b

further_below : (n : ℕ) (w : Option Witness) → ChainBelow n w → ChainBelow (suc n) (further n w)
further_below n none b = tt
further_below n (some w) b = (omega arith, all_more n w.falling b)

first_below : (n : ℕ) (v w : Option Witness) → ChainBelow n v → ChainBelow n w → ChainBelow n (first_of v w)
first_below n none w a b = b
first_below n (some v) w a b = a

carried_below : (held : Item → ℕ → Option Witness) (n : ℕ) (x : Option Source) → ((y : Item) (c : ℕ) → ChainBelow n (held y c)) → ChainBelow (suc n) (carried_on held n x)
carried_below held n none h = tt
carried_below held n (some x) h = further_below n (held x.item x.at) (h x.item x.at)

cond_below : (n : ℕ) (b : Bool) (v w : Option Witness) → ChainBelow n v → ChainBelow n w → ChainBelow n (cond b v w)
cond_below n true v w x y = x
cond_below n false v w x y = y

pub witness_below : (P : Policy) (h : History) (y : Item) (c : ℕ) → ChainBelow (step_count h) (witness P h y c)
unfolding witness
witness_below P start y c =
    cond_below 0 (starts_in P.rules y (get_elem? P.containers c)) (some (record { file = c; item = y; falling = [] })) none tt tt
witness_below P (h ▸ s) y c =
    cond_below (suc (step_count h)) (eqb c (receiver s)) _ _
    (first_below (suc (step_count h)) (stays (ends_item s y) (witness P h y c)) _
    (more (step_count h) (stays (ends_item s y) (witness P h y c)) (stays_below (step_count h) (ends_item s y) (witness P h y c) (witness_below P h y c)))
    (carried_below (λ x b. witness P h x b) (step_count h) (takes_up s y) (λ x b. witness_below P h x b)))
    (more (step_count h) (witness P h y c) (witness_below P h y c))

pub run_below : (P : Policy) (h : History) (t o : ℕ) (Ks : List Container) → ChainBelow (step_count h) (run_chain P h t o Ks)
unfolding run_chain run_witness
run_below P h t o [] = tt
run_below P h t o (K ∷ Ks) =
    cond_below (step_count h) (run_forbids P t K) _ _
    (first_below (step_count h) (witness P h (run_rule (rule_at P.rules K.run)) o) (run_chain P h t o Ks) (witness_below P h (run_rule (rule_at P.rules K.run)) o) (run_below P h t o Ks))
    (run_below P h t o Ks)

-- ---- so that their records are among the first

map-append : (f : ℕ → ℕ) (x y : List ℕ) → map f (x ++ y) ≡ map f x ++ map f y
map-append f [] y = refl
map-append f (a ∷ x) y = ap (λ (l : List ℕ). f a ∷ l) (map-append f x y)

rising_same : (f g : ℕ → ℕ) (n : ℕ) → ((i : ℕ) → i < n → f i ≡ g i) → (is : List ℕ) → AllBelow n is → map f (rising is) ≡ map g (rising is)
rising_same f g n e [] b = refl
rising_same f g n e (i ∷ is) b =
    map-append f (rising is) (i ∷ [])
    ∙ ap₂ (λ (x : List ℕ) (k : ℕ). x ++ (k ∷ [])) (rising_same f g n e is b.1) (e i b.0)
    ∙ sym (map-append g (rising is) (i ∷ []))

pub records_same : (ms ns : List ℕ) (n : ℕ) → ((i : ℕ) → i < n → get_or ms i 0 ≡ get_or ns i 0) → (w : Option Witness) → ChainBelow n w → chain_records ms w ≡ chain_records ns w
unfolding chain_records
records_same ms ns n e none b = refl
records_same ms ns n e (some w) b = rising_same (λ i. get_or ms i 0) (λ i. get_or ns i 0) n e w.falling b

pub run_same : (P : Policy) (ms ns : List ℕ) (n k : ℕ) → ((i : ℕ) → i < n → get_or ms i 0 ≡ get_or ns i 0) → (w : Option Witness) → ChainBelow n w → run_reason P ms k w ≡ run_reason P ns k w
run_same P ms ns n k e none b = refl
run_same P ms ns n k e (some w) b = let q : chain_records ms (some w) ≡ chain_records ns (some w) = records_same ms ns n e (some w) b in rw q

pub exec_same : (P : Policy) (ms ns : List ℕ) (n k u t : ℕ) → ((i : ℕ) → i < n → get_or ms i 0 ≡ get_or ns i 0) → (w : Option Witness) → ChainBelow n w
    → exec_reason P ms k u t w ≡ exec_reason P ns k u t w
unfolding exec_reason
exec_same P ms ns n k u t e w b = rw (run_same P ms ns n k e w b)

-- ---- by the records before an exec

module _ (P : Policy) (s : List ℕ) (rs : List (List ℕ)) (t : ℕ) where
  pub reason_same : (a : Origin) → Inside (history_of step_on step_of s rs) a
      → reason_at P s rs t (renumbered (accepted_numbers s rs) a) ≡ reason_by P (history_of step_on step_of s rs) (accepted_numbers s rs) t a
  reason_same (own c) l = refl
  reason_same (made i u) l = refl
  reason_same (started i o u) l =
      let m : i < length (accepted_numbers s rs) = omega (arith, accepted_size s rs, l) in
      let q : Placed s rs i (get_or (accepted_numbers s rs) i 0) = placed s rs i m in
      let z : step_count (before i (history_of step_on step_of s rs)) ≡ i = before_size i (history_of step_on step_of s rs) l in
      rw (← q.earlier, q.numbers)
      (exec_same P (take i (accepted_numbers s rs)) (accepted_numbers s rs) (step_count (before i (history_of step_on step_of s rs))) (get_or (accepted_numbers s rs) i 0) u t
      (λ j k. get_or-take i (accepted_numbers s rs) j 0 (omega (arith, k, z)))
      (run_chain P (before i (history_of step_on step_of s rs)) t o P.containers)
      (run_below P (before i (history_of step_on step_of s rs)) t o P.containers))
  reason_same nowhere l = refl

  pub links_same : (ns : List ℕ) (a : Origin) (links : List ℕ) → links_at P s rs t (renumbered ns a) links ≡ links_by P s rs ns t a links
  links_same ns (own c) links = refl
  links_same ns (made i u) links = refl
  links_same ns (started i o u) links = refl
  links_same ns nowhere links = refl
