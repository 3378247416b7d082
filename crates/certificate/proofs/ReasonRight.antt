-- The rule of the reason governs the receiver by its origin, and does not cover the tag.
use Prim.Native.Nat.{ℕ, zero, suc, ◌-◌, ◌^◌, ◌<◌}
use native.Mathlib.Omega.{arith}
use native.Mathlib.Nat.{mod-lt}
use native.Mathlib.Decide.{dec_lt}
use mathlib.Core.Path.{◌≡◌, refl, sym, ap, subst, ◌∙◌}
use mathlib.Core.Bool.{Bool, true, false, cond}
use mathlib.Core.List.{List, [], ◌∷◌}
use mathlib.Core.Logic.{◌⊎◌, inl, inr}
use mathlib.Core.Option.{Option, none, some}
use lib.ListN.{get_or, get_elem?}
use borrow.Author.Tests.{not-true}
use Rattle.lists.proofs.Bools.{and_in, and_1, or_0, clash}
use Rattle.lists.proofs.Places.{some_inj, none_some}
use Rattle.rules.specs.Sets.{atom, holds, data_of}
use Rattle.rules.specs.Rules.{covers, unrestricted}
use Rattle.rules.specs.Answers.{tag_width}
use Rattle.rules.proofs.SetLaws.{atom_le, ext, data_atom_lem, data_none, holds_all}
use Rattle.image.specs.Limits.{is_file, unrestricted_number}
use Rattle.image.specs.Policy.{Container, Policy, unrestricted_rule, rule_at}
use Rattle.chains.specs.History.{Step, History}
use Rattle.chains.specs.Chains.{UserRule, Item, data_atom, running_atom, run_rule, Starts, Carries, read_atom, read_rule, write_any, append_any, exec_atom, exec_rule, fork_any, Leads, Chain, Own}
use Rattle.witness.specs.Witness.{Witness, rising, first_of, witness}
use Rattle.witness.specs.Told.{chain_records}
use Rattle.witness.specs.Tells.{Right}
use Rattle.witness.proofs.Theorems.{witness_right}
use Rattle.certificate.specs.Origins.{Origin, own, made, started, nowhere, before, From}
use Rattle.certificate.specs.Whys.{permit_of, run_of, user_number, covers_by, run_forbids, run_witness, run_chain, Reason, own_reason, user_reason, run_reason, exec_reason, reason_by, user_origin}
use Rattle.certificate.specs.Certified.{ComesFrom}
use Rattle.certificate.proofs.LackLaws.{Wide}

-- ---- the unrestricted rule covers every tag

wide_below : (t : ℕ) → Wide t → t < 2 ^ tag_width
wide_below t wide = subst (λ (x : ℕ). x < 2 ^ tag_width) same (unfold data_of in (mod-lt t (omega arith)))
  where
    at : (k : ℕ) → Dec (k < tag_width) → atom (data_of tag_width t) k ≡ atom t k
    at k (yes l) = data_atom_lem tag_width t k l
    at k (no l) = let z : ¬ (atom t k ≡ 1) = λ e. l (wide k e) in omega (arith, atom_le t k, data_none tag_width t k (omega arith), z)

    same : data_of tag_width t ≡ t
    same = ext (data_of tag_width t) t (λ k. at k (dec_lt k tag_width))

unrestricted_covers : (rules : List (List ℕ)) (t : ℕ) → Wide t → covers (rule_at rules unrestricted_number) t ≡ true
unfolding rule_at unrestricted_rule unrestricted covers
unrestricted_covers rules t wide = or_0 (holds (2 ^ tag_width - 1) t) false (holds_all tag_width t (wide_below t wide))

-- ---- rules by their numbers

user_number_lem : (P : Policy) (u n : ℕ) → get_elem? P.users u ≡ some n → user_number P u ≡ n
unfolding user_number
user_number_lem P u n e = at P.users u e
  where
    at : (l : List ℕ) (u : ℕ) → get_elem? l u ≡ some n → get_or l u unrestricted_number ≡ n
    at [] u e = absurd (none_some e)
    at (x ∷ l) zero e = some_inj e
    at (x ∷ l) (suc u) e = at l u e

user_missing : (P : Policy) (u : ℕ) → get_elem? P.users u ≡ none → user_number P u ≡ unrestricted_number
unfolding user_number
user_missing P u e = at P.users u e
  where
    at : (l : List ℕ) (u : ℕ) → get_elem? l u ≡ none → get_or l u unrestricted_number ≡ unrestricted_number
    at [] u e = refl
    at (x ∷ l) zero e = absurd (none_some (sym e))
    at (x ∷ l) (suc u) e = at l u e

-- ---- a chain of a run rule begins with that run rule

abbrev IsRule : List ℕ → Item → Type 0
IsRule r (data_atom d) = ⊥
IsRule r (running_atom d) = ⊥
IsRule r (run_rule q) = q ≡ r

carries_rule : {s : Step} {b : ℕ} {x : Item} {c : ℕ} {y : Item} (r : List ℕ) → Carries s b x c y → IsRule r y → IsRule r x
carries_rule r read_atom a = absurd a
carries_rule r read_rule a = a
carries_rule r write_any a = a
carries_rule r append_any a = a
carries_rule r exec_atom a = absurd a
carries_rule r exec_rule a = a
carries_rule r fork_any a = a

leads_rule : (h : History) (lo a : ℕ) (x : Item) (is : List ℕ) (c : ℕ) (y : Item) (r : List ℕ) → Leads h lo a x is c y → IsRule r y → IsRule r x
leads_rule h lo a x [] c y r w o = subst (λ (z : Item). IsRule r z) (sym w.1) o
leads_rule h lo a x (i ∷ is) c y r w o = carries_rule r w.6 (leads_rule h (suc i) w.1 w.2 is c y r w.7 o)

is_rule : (r : List ℕ) (x : Item) → IsRule r x → x ≡ run_rule r
is_rule r (data_atom d) a = absurd a
is_rule r (running_atom d) a = absurd a
is_rule r (run_rule q) a = ap run_rule a

begins : (h : History) (a : ℕ) (x : Item) (is : List ℕ) (c : ℕ) (r : List ℕ) → Leads h zero a x is c (run_rule r) → x ≡ run_rule r
begins h a x is c r w = is_rule r x (leads_rule h zero a x is c (run_rule r) r w refl)

-- ---- the search

module _ (P : Policy) (h : History) (t o : ℕ) where
  -- what is found is the chain of a run rule that does not cover the tag
  abbrev pub FoundIn : Option Witness → Type 0
  FoundIn v = (w : Witness) → v ≡ some w → (K : Container) × (run_forbids P t K ≡ true) × (run_witness P h o K ≡ some w)

  pub found_from : (Ks : List Container) → FoundIn (run_chain P h t o Ks)
  unfolding run_chain
  found_from [] w e = absurd (none_some e)
  found_from (K ∷ Ks) w e = on (run_forbids P t K) refl (run_witness P h o K) refl (found_from Ks) e
    where
      on : (b : Bool) → run_forbids P t K ≡ b → (v : Option Witness) → run_witness P h o K ≡ v → FoundIn (run_chain P h t o Ks)
          → cond b (first_of v (run_chain P h t o Ks)) (run_chain P h t o Ks) ≡ some w
          → (K' : Container) × (run_forbids P t K' ≡ true) × (run_witness P h o K' ≡ some w)
      on true f (some x) g ih e = (K, f, g ∙ e)
      on true f none g ih e = ih w e
      on false f v g ih e = ih w e

  -- where one has a chain, something is found
  found_some : (Ks : List Container) (f : ℕ) (K : Container) (w : Witness) → get_elem? Ks f ≡ some K → run_forbids P t K ≡ true → run_witness P h o K ≡ some w
      → (v : Witness) × (run_chain P h t o Ks ≡ some v)
  unfolding run_chain
  found_some [] f K w e b g = absurd (none_some e)
  found_some (L ∷ Ks) zero K w e b g = let q : L ≡ K = some_inj e in rw (q, b, g) (w, refl)
  found_some (L ∷ Ks) (suc f) K w e b g = on (run_forbids P t L) (run_witness P h o L) (found_some Ks f K w e b g)
    where
      on : (b : Bool) (v : Option Witness) → (x : Witness) × (run_chain P h t o Ks ≡ some x)
          → (x : Witness) × (cond b (first_of v (run_chain P h t o Ks)) (run_chain P h t o Ks) ≡ some x)
      on true (some x) ih = (x, refl)
      on true none ih = ih
      on false v ih = ih

  -- ---- a chain into o of a run rule that does not cover the tag

  forbids_in : (K : Container) → is_file K.kind ≡ true → covers (rule_at P.rules K.run) t ≡ false → run_forbids P t K ≡ true
  unfolding run_forbids covers_by
  forbids_in K a b = and_in a (rw b)

  forbids_out : (K : Container) → run_forbids P t K ≡ true → covers (rule_at P.rules K.run) t ≡ false
  unfolding run_forbids covers_by
  forbids_out K a = not-true (covers (rule_at P.rules K.run) t) (and_1 (is_file K.kind) a)

  chain_some : (r : List ℕ) → Chain P h (run_rule r) o → (w : Witness) × (witness P h (run_rule r) o ≡ some w)
  chain_some r ch = on (witness P h (run_rule r) o) refl (witness_right P h (run_rule r) o)
    where
      on : (v : Option Witness) → witness P h (run_rule r) o ≡ v → Right P h (run_rule r) o v → (w : Witness) × (v ≡ some w)
      on none e n = absurd (n ch)
      on (some w) e n = (w, refl)

  chain_found : (r : List ℕ) → covers r t ≡ false → Chain P h (run_rule r) o → (w : Witness) × (run_chain P h t o P.containers ≡ some w)
  chain_found r u (f, x, st, is, l) = on (subst (λ (y : Item). Starts P f y) (begins h f x is o r l) st) (chain_some r (f, x, st, is, l))
    where
      on : Starts P f (run_rule r) → (w : Witness) × (witness P h (run_rule r) o ≡ some w) → (w : Witness) × (run_chain P h t o P.containers ≡ some w)
      on (K, at, file, e) (w, g) =
          found_some P.containers f K w at (forbids_in K file (ap (λ (x : List ℕ). covers x t) e ∙ u))
          (unfold run_witness in (ap (λ (x : List ℕ). witness P h (run_rule x) o) e ∙ g))

  -- ---- what is found

  pub record RunRight (w : Witness) : Type 0 where
    pub rule : List ℕ
    pub is : rule_at P.rules (run_of (get_elem? P.containers w.file)) ≡ rule
    pub uncovers : covers rule t ≡ false
    pub starts : Starts P w.file (run_rule rule)
    pub leads : Leads h zero w.file (run_rule rule) (rising w.falling) o (run_rule rule)

  run_right : (Ks : List Container) (w : Witness) → run_chain P h t o Ks ≡ some w → RunRight w
  run_right Ks w e = on (found_from Ks w e)
    where
      on : (K : Container) × (run_forbids P t K ≡ true) × (run_witness P h o K ≡ some w) → RunRight w
      on (K, b, g) =
          let e : witness P h (run_rule (rule_at P.rules K.run)) o ≡ some w = unfold run_witness in g in
          by (subst (λ (v : Option Witness). Right P h (run_rule (rule_at P.rules K.run)) o v) e (witness_right P h (run_rule (rule_at P.rules K.run)) o))
        where
          named : Starts P w.file (run_rule (rule_at P.rules K.run)) → rule_at P.rules (run_of (get_elem? P.containers w.file)) ≡ rule_at P.rules K.run
          named (L, at, file, e) = ap (λ (x : Option Container). rule_at P.rules (run_of x)) at ∙ e

          by : Starts P w.file w.item × Leads h zero w.file w.item (rising w.falling) o (run_rule (rule_at P.rules K.run)) → RunRight w
          by (st, l) =
              let q : w.item ≡ run_rule (rule_at P.rules K.run) = begins h w.file w.item (rising w.falling) o (rule_at P.rules K.run) l in
              let z : Starts P w.file (run_rule (rule_at P.rules K.run)) = subst (λ (y : Item). Starts P w.file y) q st in
              record {
                rule = rule_at P.rules K.run;
                is = named z;
                uncovers = forbids_out K b;
                starts = z;
                leads =
                    subst (λ (y : Item). Leads h zero w.file y (rising w.falling) o (run_rule (rule_at P.rules K.run))) q l;
              }

-- ---- the reason

pub record ReasonRight (P : Policy) (h : History) (ns : List ℕ) (t : ℕ) (a : Origin) (w : Reason) : Type 0 where
  pub comes : ComesFrom P h ns a (rule_at P.rules w.rule) w.kind w.at w.holder w.chain
  pub uncovers : covers (rule_at P.rules w.rule) t ≡ false

module _ (P : Policy) (h : History) (ns : List ℕ) (t : ℕ) (wide : Wide t) where
  own_right : (c : ℕ) (r : List ℕ) → Own P c r → covers r t ≡ false → ReasonRight P h ns t (own c) (own_reason P c)
  own_right c r (K, at, store, e) u =
      let q : rule_at P.rules (permit_of (get_elem? P.containers c)) ≡ r = ap (λ (x : Option Container). rule_at P.rules (permit_of x)) at ∙ e in
      record { comes = rw q (refl, refl, (K, at, store, e)); uncovers = ap (λ (x : List ℕ). covers x t) q ∙ u }

  -- a user's rule that does not cover the tag is that of a declared user
  user_right : (u : ℕ) → covers (rule_at P.rules (user_number P u)) t ≡ false → UserRule P u (rule_at P.rules (user_number P u))
  user_right u c = on (get_elem? P.users u) refl
    where
      on : (m : Option ℕ) → get_elem? P.users u ≡ m → UserRule P u (rule_at P.rules (user_number P u))
      on (some n) e = (n, e, ap (rule_at P.rules) (sym (user_number_lem P u n e)))
      on none e = clash (unrestricted_covers P.rules t wide) (ap (λ (n : ℕ). covers (rule_at P.rules n) t) (sym (user_missing P u e)) ∙ c)

  -- a user's rule is the one with the user's number
  user_same : (u : ℕ) (r : List ℕ) → UserRule P u r → rule_at P.rules (user_number P u) ≡ r
  user_same u r (n, e, f) = ap (rule_at P.rules) (user_number_lem P u n e) ∙ f

  made_right : (i u : ℕ) (r : List ℕ) → UserRule P u r → covers r t ≡ false → ReasonRight P h ns t (made i u) (user_reason P 1 (get_or ns i 0) u)
  made_right i u r x c =
      let d : covers (rule_at P.rules (user_number P u)) t ≡ false = ap (λ (y : List ℕ). covers y t) (user_same u r x) ∙ c in
      record { comes = (refl, refl, refl, user_right u d); uncovers = d }

  module _ (i o u : ℕ) where
    run_reason_lem : (v : Option Witness) (w : Witness) → v ≡ some w → RunRight P (before i h) t o w → ReasonRight P h ns t (started i o u) (run_reason P ns (get_or ns i 0) v)
    run_reason_lem none w e R = absurd (none_some e)
    run_reason_lem (some x) w e R =
        let q : x ≡ w = some_inj e in
        rw q
        record {
          comes = rw R.is (refl, inr (refl, R.starts, (rising w.falling, R.leads, (unfold chain_records in refl))));
          uncovers = ap (λ (y : List ℕ). covers y t) R.is ∙ R.uncovers;
        }

    started_right : (r : List ℕ) → UserRule P u r ⊎ Chain P (before i h) (run_rule r) o → covers r t ≡ false
        → ReasonRight P h ns t (started i o u) (exec_reason P ns (get_or ns i 0) u t (run_chain P (before i h) t o P.containers))
    unfolding exec_reason covers_by
    started_right r f c = on (covers (rule_at P.rules (user_number P u)) t) refl f
      where
        on : (b : Bool) → covers (rule_at P.rules (user_number P u)) t ≡ b → UserRule P u r ⊎ Chain P (before i h) (run_rule r) o
            → ReasonRight P h ns t (started i o u) (cond b (run_reason P ns (get_or ns i 0) (run_chain P (before i h) t o P.containers)) (user_reason P user_origin (get_or ns i 0) u))
        on false e f = record { comes = (refl, inl (refl, refl, user_right u e)); uncovers = e }
        on true e (inl x) = clash e (ap (λ (y : List ℕ). covers y t) (user_same u r x) ∙ c)
        on true e (inr ch) =
            let x = chain_found P (before i h) t o r c ch in
            run_reason_lem (run_chain P (before i h) t o P.containers) x.0 x.1 (run_right P (before i h) t o P.containers x.0 x.1)

  pub reason_right : (a : Origin) (r : List ℕ) → From P h a r → covers r t ≡ false → ReasonRight P h ns t a (reason_by P h ns t a)
  reason_right (own c) r f u = own_right c r f u
  reason_right (made i u) r f c = made_right i u r f c
  reason_right (started i o u) r f c = started_right i o u r f c
  reason_right nowhere r f c = absurd f

-- a rule that comes from the origin is one of its rules
pub comes_from : (P : Policy) (h : History) (ns : List ℕ) (a : Origin) (r : List ℕ) (kind n holder : ℕ) (chain : List ℕ) → ComesFrom P h ns a r kind n holder chain → From P h a r
comes_from P h ns (own c) r kind n holder chain x = x.2
comes_from P h ns (made i u) r kind n holder chain x = x.3
comes_from P h ns (started i o u) r kind n holder chain (e, inl x) = inl x.2
comes_from P h ns (started i o u) r kind n holder chain (e, inr x) = inr (holder, run_rule r, x.1, x.2.0, x.2.1)
comes_from P h ns nowhere r kind n holder chain x = absurd x
