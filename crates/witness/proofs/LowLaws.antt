-- The atoms that have a chain are those of the product: below 64.
use Prim.Native.Nat.{ℕ, zero, suc, ◌+◌, ◌-◌, ◌≤◌, ◌<◌}
use native.Mathlib.Omega.{arith}
use mathlib.Core.Path.{◌≡◌, refl, sym, subst, ◌∙◌}
use mathlib.Core.List.{List, [], ◌∷◌}
use mathlib.Core.Logic.{inl, inr, ◌↔◌}
use mathlib.Core.Bool.{cond}
use native.Mathlib.Decide.{dec_lt}
use lib.Dec.{ltb}
use borrow.Author.Tests.{lt-ltb, le-ltb}
use Rattle.witness.specs.Told.{item_of}
use Rattle.rules.specs.Answers.{data_width, tag_width}
use Rattle.image.specs.Policy.{Policy, Sound}
use Rattle.chains.specs.History.{Step, History}
use Rattle.chains.specs.Chains.{Item, data_atom, running_atom, run_rule, Starts, Carries, read_atom, read_rule, write_any, append_any, exec_atom, exec_rule, fork_any, Leads, Chain, Reaches}
use Rattle.image.proofs.KindLaws.{sound_at}
use Rattle.witness.specs.Links.{of_atom}
use Rattle.witness.specs.Nodes.{OfFamily}

carries_atom : {s : Step} {b : ℕ} {x : Item} {c : ℕ} {y : Item} (d : ℕ) → Carries s b x c y → OfFamily (of_atom d) y → OfFamily (of_atom d) x
carries_atom d read_atom a = a
carries_atom d read_rule a = absurd a
carries_atom d write_any a = a
carries_atom d append_any a = a
carries_atom d exec_atom a = a
carries_atom d exec_rule a = absurd a
carries_atom d fork_any a = a

leads_atom : (h : History) (lo a : ℕ) (x : Item) (is : List ℕ) (c : ℕ) (y : Item) (d : ℕ) → Leads h lo a x is c y → OfFamily (of_atom d) y → OfFamily (of_atom d) x
leads_atom h lo a x [] c y d w o = subst (λ (z : Item). OfFamily (of_atom d) z) (sym w.1) o
leads_atom h lo a x (i ∷ is) c y d w o = carries_atom d w.6 (leads_atom h (suc i) w.1 w.2 is c y d w.7 o)

module _ (P : Policy) (ok : Sound P) where
  starts_low : (f : ℕ) (x : Item) (d : ℕ) → Starts P f x → OfFamily (of_atom d) x → d < data_width
  starts_low f (data_atom e) d (K, i_k, fK, aK, ne) o =
      let l : K.atom < data_width = ((sound_at P ok f K i_k).names (λ z. ne (sym aK ∙ z))).1 in
      omega (arith, l, aK, o)
  starts_low f (running_atom e) d s o = absurd s
  starts_low f (run_rule r) d s o = absurd o

  chain_low : (h : History) (y : Item) (c d : ℕ) → Chain P h y c → OfFamily (of_atom d) y → d < data_width
  chain_low h y c d (f, x, sx, is, w) o = starts_low f x d sx (leads_atom h zero f x is c y d w o)

  pub reaches_low : (h : History) (k c : ℕ) → Reaches P h k c → k < tag_width
  reaches_low h k c (inl ch) = let l : k < data_width = chain_low h (data_atom k) c k ch refl in omega arith
  reaches_low h k c (inr (d, e, ch)) = let l : d < data_width = chain_low h (running_atom d) c d ch refl in omega arith

  -- the atom k reaches c exactly if its item has a chain
  pub reaches_item : (h : History) (k c : ℕ) → Reaches P h k c ↔ Chain P h (item_of k) c
  unfolding item_of
  reaches_item h k c = on (dec_lt k data_width)
    where
      on : Dec (k < data_width) → Reaches P h k c ↔ Chain P h (cond (ltb k data_width) (data_atom k) (running_atom (k - data_width))) c
      on (yes l) = rw (lt-ltb k data_width l) (to, inl)
        where
          to : Reaches P h k c → Chain P h (data_atom k) c
          to (inl ch) = ch
          to (inr (d, e, ch)) = absurd (omega arith)
      on (no l) = let m : data_width ≤ k = omega arith in rw (le-ltb k data_width m) (to, back)
        where
          to : Reaches P h k c → Chain P h (running_atom (k - data_width)) c
          to (inl ch) = absurd (l (chain_low h (data_atom k) c k ch refl))
          to (inr (d, e, ch)) = let q : d ≡ k - data_width = omega arith in subst (λ (z : ℕ). Chain P h (running_atom z) c) q ch

          back : Chain P h (running_atom (k - data_width)) c → Reaches P h k c
          back ch = let q : k ≡ (k - data_width) + data_width = omega arith in inr (k - data_width, q, ch)
