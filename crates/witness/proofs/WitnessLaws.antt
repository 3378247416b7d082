-- The chain that is shown is a chain, and where none is shown there is none.
use Prim.Native.Nat.{ℕ, zero}
use native.Mathlib.Omega.{arith}
use mathlib.Core.Path.{◌≡◌, refl, sym, subst, ◌∙◌, ap}
use mathlib.Core.Bool.{Bool, true, false, not, cond, ◌&&◌}
use mathlib.Core.List.{List, []}
use mathlib.Core.Logic.{◌⊎◌, inl, inr, ◌≢◌}
use mathlib.Core.Option.{Option, none, some}
use lib.Dec.{eqb}
use lib.ListN.{get_elem?}
use borrow.Author.Tests.{eqb-true, eqb-false, eq-eqb, ne_eqb, not-true}
use Rattle.lists.specs.Lists.{same_list}
use Rattle.lists.proofs.Bools.{and_in, and_0, and_1, clash}
use Rattle.lists.proofs.Places.{some_inj, none_some}
use Rattle.lists.proofs.Same.{same_refl, same_eq}
use Rattle.image.specs.Limits.{is_file, no_atom}
use Rattle.image.specs.Policy.{Container, Policy, rule_at}
use Rattle.chains.specs.History.{Step, read, write, append, exec, fork, new_file, new_volatile, end, delete, History, start, ◌▸◌, step_count, receiver}
use Rattle.chains.specs.Chains.{Item, data_atom, running_atom, run_rule, Starts, Carries, read_atom, read_rule, write_any, append_any}
use Rattle.chains.specs.Chains.{exec_atom, exec_rule, fork_any, Ends, write_ends, exec_ends_atom, exec_ends_rule, end_ends, delete_ends, Chain}
use Rattle.chains.proofs.ChainLaws.{chain_snoc, chain_none}
use Rattle.witness.specs.Witness.{Source, source, takes_up, ends_item, starts_as, starts_in, Witness, rising, stays, further, carried_on, first_of, witness}
use Rattle.witness.specs.Tells.{Right}
use Rattle.witness.proofs.LeadLaws.{leads_stay, leads_carry}

-- ---- one step

pub takes_carries : (s : Step) (y : Item) (t : Source) → takes_up s y ≡ some t → Carries s t.at t.item (receiver s) y
takes_carries (read p o) (data_atom d) t e = subst (λ (x : Source). Carries (read p o) x.at x.item p (data_atom d)) (some_inj e) read_atom
takes_carries (read p o) (running_atom d) t e = absurd (none_some e)
takes_carries (read p o) (run_rule r) t e = subst (λ (x : Source). Carries (read p o) x.at x.item p (run_rule r)) (some_inj e) read_rule
takes_carries (write p o) y t e = subst (λ (x : Source). Carries (write p o) x.at x.item o y) (some_inj e) write_any
takes_carries (append p o) y t e = subst (λ (x : Source). Carries (append p o) x.at x.item o y) (some_inj e) append_any
takes_carries (exec p o u) (data_atom d) t e = absurd (none_some e)
takes_carries (exec p o u) (running_atom d) t e = subst (λ (x : Source). Carries (exec p o u) x.at x.item p (running_atom d)) (some_inj e) exec_atom
takes_carries (exec p o u) (run_rule r) t e = subst (λ (x : Source). Carries (exec p o u) x.at x.item p (run_rule r)) (some_inj e) exec_rule
takes_carries (fork p o) y t e = subst (λ (x : Source). Carries (fork p o) x.at x.item o y) (some_inj e) fork_any
takes_carries (new_file p o u) y t e = absurd (none_some e)
takes_carries (new_volatile p o) y t e = absurd (none_some e)
takes_carries (end p) y t e = absurd (none_some e)
takes_carries (delete p o) y t e = absurd (none_some e)

pub carries_takes : {s : Step} {b : ℕ} {x : Item} {c : ℕ} {y : Item} → Carries s b x c y → (c ≡ receiver s) × (takes_up s y ≡ some (source b x))
carries_takes read_atom = (refl, refl)
carries_takes read_rule = (refl, refl)
carries_takes write_any = (refl, refl)
carries_takes append_any = (refl, refl)
carries_takes exec_atom = (refl, refl)
carries_takes exec_rule = (refl, refl)
carries_takes fork_any = (refl, refl)

pub ends_told : {s : Step} {c : ℕ} {y : Item} → Ends s c y → (c ≡ receiver s) × (ends_item s y ≡ true)
ends_told write_ends = (refl, refl)
ends_told exec_ends_atom = (refl, refl)
ends_told exec_ends_rule = (refl, refl)
ends_told end_ends = (refl, refl)
ends_told delete_ends = (refl, refl)

pub told_ends : (s : Step) (y : Item) → ends_item s y ≡ true → Ends s (receiver s) y
told_ends (read p o) y e = clash e refl
told_ends (write p o) y e = write_ends
told_ends (append p o) y e = clash e refl
told_ends (exec p o u) (data_atom d) e = clash e refl
told_ends (exec p o u) (running_atom d) e = exec_ends_atom
told_ends (exec p o u) (run_rule r) e = exec_ends_rule
told_ends (fork p o) y e = clash e refl
told_ends (new_file p o u) y e = clash e refl
told_ends (new_volatile p o) y e = clash e refl
told_ends (end p) y e = end_ends
told_ends (delete p o) y e = delete_ends

-- ---- the start

module _ (P : Policy) where
  starts_told : (c : ℕ) (y : Item) → Starts P c y → starts_in P.rules y (get_elem? P.containers c) ≡ true
  unfolding starts_as
  starts_told c (data_atom d) (K, i_k, fK, aK, ne) = rw i_k (and_in fK (and_in (eq-eqb K.atom d aK) (ap not (ne_eqb d no_atom ne))))
  starts_told c (running_atom d) s = absurd s
  starts_told c (run_rule r) (K, i_k, fK, rK) = rw i_k (and_in fK (subst (λ (z : List ℕ). same_list (rule_at P.rules K.run) z ≡ true) rK (same_refl (rule_at P.rules K.run))))

  told_starts : (c : ℕ) (y : Item) (m : Option Container) → get_elem? P.containers c ≡ m → starts_in P.rules y m ≡ true → Starts P c y
  unfolding starts_as
  told_starts c y none e t = clash t refl
  told_starts c (data_atom d) (some K) e t =
      let u : (eqb K.atom d && not (eqb d no_atom)) ≡ true = and_1 (is_file K.kind) t in (
        K,
        e,
        and_0 (is_file K.kind) _ t,
        eqb-true K.atom d (and_0 (eqb K.atom d) _ u),
        eqb-false d no_atom (not-true _ (and_1 (eqb K.atom d) u)),
      )
  told_starts c (running_atom d) (some K) e t = clash t refl
  told_starts c (run_rule r) (some K) e t = (K, e, and_0 (is_file K.kind) _ t, same_eq (rule_at P.rules K.run) r (and_1 (is_file K.kind) t))

  -- ---- the chain

  right_start : (y : Item) (c : ℕ) (b : Bool) → starts_in P.rules y (get_elem? P.containers c) ≡ b
      → Right P start y c (cond b (some (record { file = c; item = y; falling = [] })) none)
  right_start y c true e = (told_starts c y (get_elem? P.containers c) refl e, (refl, refl, λ j s l g z. absurd z))
  right_start y c false e = λ ch. clash (starts_told c y (chain_none P y c ch)) e

  module _ (h : History) (s : Step) (y : Item) (c : ℕ) where
    -- any container but the receiver
    right_other : c ≢ receiver s → (own : Option Witness) → Right P h y c own → Right P (h ▸ s) y c own
    right_other ne none r = λ ch. on (chain_snoc P h s y c ch)
      where
        on : (Chain P h y c × ¬ Ends s c y) ⊎ ((b : ℕ) × (x : Item) × Chain P h x b × Carries s b x c y) → ⊥
        on (inl (k, z)) = r k
        on (inr (b, x, k, ca)) = ne (carries_takes ca).0
    right_other ne (some w) r =
        (r.0, leads_stay h s zero w.file w.item (rising w.falling) c y r.1 (λ z. ne (ends_told z).0))

    -- nothing stays there: what the step carries on
    right_carried : c ≡ receiver s → ¬ (Chain P h y c × ¬ Ends s c y) → (m : Option Source) → takes_up s y ≡ m
        → (held : Item → ℕ → Option Witness) → ((x : Item) (b : ℕ) → Right P h x b (held x b)) → Right P (h ▸ s) y c (carried_on held (step_count h) m)
    right_carried ec gone none em held ih = λ ch. on (chain_snoc P h s y c ch)
      where
        on : (Chain P h y c × ¬ Ends s c y) ⊎ ((b : ℕ) × (x : Item) × Chain P h x b × Carries s b x c y) → ⊥
        on (inl k) = gone k
        on (inr (b, x, k, ca)) = none_some (sym em ∙ (carries_takes ca).1)
    right_carried ec gone (some t) em held ih = by (held t.item t.at) (ih t.item t.at)
      where
        by : (v : Option Witness) → Right P h t.item t.at v → Right P (h ▸ s) y c (further (step_count h) v)
        by none r = λ ch. on (chain_snoc P h s y c ch)
          where
            on : (Chain P h y c × ¬ Ends s c y) ⊎ ((b : ℕ) × (x : Item) × Chain P h x b × Carries s b x c y) → ⊥
            on (inl k) = gone k
            on (inr (b, x, k, ca)) =
                r (subst (λ (z : Source). Chain P h z.item z.at) (some_inj (sym (carries_takes ca).1 ∙ em)) k)
        by (some w) r = (
          r.0,
          leads_carry h s zero w.file w.item (rising w.falling) t.at t.item c y (omega arith) r.1
              (subst (λ (z : ℕ). Carries s t.at t.item z y) (sym ec) (takes_carries s y t em)),
        )

    right_receiver : c ≡ receiver s → (own : Option Witness) → Right P h y c own → (b : Bool) → ends_item s y ≡ b
        → (held : Item → ℕ → Option Witness) → ((x : Item) (b : ℕ) → Right P h x b (held x b))
        → Right P (h ▸ s) y c (first_of (stays b own) (carried_on held (step_count h) (takes_up s y)))
    right_receiver ec own r true e held ih =
        right_carried ec (λ k. k.1 (subst (λ (z : ℕ). Ends s z y) (sym ec) (told_ends s y e))) (takes_up s y) refl held ih
    right_receiver ec none r false e held ih = right_carried ec (λ k. r k.0) (takes_up s y) refl held ih
    right_receiver ec (some w) r false e held ih =
        (r.0, leads_stay h s zero w.file w.item (rising w.falling) c y r.1 (λ z. clash (ends_told z).1 e))

  pub right : (h : History) (y : Item) (c : ℕ) → Right P h y c (witness P h y c)
  unfolding witness
  right start y c = right_start y c (starts_in P.rules y (get_elem? P.containers c)) refl
  right (h ▸ s) y c = on (eqb c (receiver s)) refl (right h y c) (λ x b. right h x b)
    where
      on : (b : Bool) → eqb c (receiver s) ≡ b → Right P h y c (witness P h y c) → ((x : Item) (b : ℕ) → Right P h x b (witness P h x b))
          → Right P (h ▸ s) y c (cond b (first_of (stays (ends_item s y) (witness P h y c)) (carried_on (λ x b. witness P h x b) (step_count h) (takes_up s y))) (witness P h y c))
      on true e r ih = right_receiver h s y c (eqb-true c (receiver s) e) (witness P h y c) r (ends_item s y) refl (λ x b. witness P h x b) ih
      on false e r ih = right_other h s y c (eqb-false c (receiver s) e) (witness P h y c) r
