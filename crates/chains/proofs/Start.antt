-- The rows that a policy starts stand for the chains with no step and for the rules of the policy.
use Prim.Native.Nat.{ℕ, ◌^◌}
use mathlib.Core.Path.{◌≡◌, refl, sym, subst, ◌∙◌, ap}
use mathlib.Core.Logic.{◌≢◌}
use mathlib.Core.Bool.{Bool, true, false, cond}
use mathlib.Core.List.{List, []}
use mathlib.Core.Option.{Option, none, some}
use lib.Dec.{eqb}
use lib.ListN.{get_or, get_elem?}
use borrow.Author.Tests.{eqb-true, eqb-false, eq-eqb}
use Rattle.lists.proofs.Bools.{clash}
use Rattle.image.specs.Limits.{is_free, is_file, is_store, no_atom, unrestricted_number}
use Rattle.image.specs.Policy.{Container, Policy, unrestricted_rule, rule_at, Sound}
use Rattle.image.specs.Normal.{normal_at, place_of, meaning}
use Rattle.chains.specs.History.{History, start}
use Rattle.chains.specs.Chains.{ContainerAt, UserRule, Item, data_atom, running_atom, run_rule, Starts, Chain, Own, Governs}
use Rattle.chains.specs.Table.{State, free_row, start_row_of, begin}
use Rattle.session.specs.Session.{start_tag, start_row}
use Rattle.chains.proofs.ChainLaws.{chain_none, chain_here}
use Rattle.chains.proofs.Exact.{Exact, exact_unrestricted, exact_normal, exact_one, Tagged, tagged_none, tagged_one}
use Rattle.chains.proofs.Rows.{Good, RowOk}
use Rattle.lists.proofs.Places.{some_inj, none_some, mapped, mapped_at}
use Rattle.image.proofs.KindLaws.{not_file, Accepted, sound_at}
use Rattle.chains.proofs.GuardLaws.{Guarding, guarding_start}

-- the state stands for the chains of the history and the rules governing after it
pub record Inv (P : Policy) (h : History) (σ : State) : Type 0 where
  pub rows : (c : ℕ) → RowOk P h c (σ.row c)
  pub users : (u : ℕ) (v : List ℕ) → σ.user u ≡ some v → Exact (λ r. UserRule P u r) v
  pub guarding : (c : ℕ) → Guarding P h c (σ.row c)

named_unrestricted : (rules : List (List ℕ)) (n : ℕ) → n ≡ unrestricted_number → rule_at rules n ≡ unrestricted_rule
unfolding rule_at
named_unrestricted rules n e = ap (λ b. cond b unrestricted_rule (get_or rules n [])) (eq-eqb n unrestricted_number e)

module _ (P : Policy) where
  module _ (c : ℕ) (K : Container) (i_k : ContainerAt P c K) (ok : Accepted K) where
    same : (L : Container) → ContainerAt P c L → K ≡ L
    same L iL = some_inj (sym i_k ∙ iL)

    names : (d : ℕ) → Starts P c (data_atom d) → (d ≡ K.atom) × (d ≢ no_atom)
    names d (L, iL, kL, aL, ne) = (sym (ap (λ (X : Container). X.atom) (same L iL) ∙ aL), ne)

    runs : (r : List ℕ) → Starts P c (run_rule r) → (is_file K.kind ≡ true) × (rule_at P.rules K.run ≡ r)
    runs r (L, iL, kL, rL) = (
      ap (λ (X : Container). is_file X.kind) (same L iL) ∙ kL,
      ap (λ (X : Container). rule_at P.rules X.run) (same L iL) ∙ rL,
    )

    owns : (r : List ℕ) → Own P c r → (is_store K.kind ≡ true) × (rule_at P.rules K.permit ≡ r)
    owns r (L, iL, kL, pL) = (
      ap (λ (X : Container). is_store X.kind) (same L iL) ∙ kL,
      ap (λ (X : Container). rule_at P.rules X.permit) (same L iL) ∙ pL,
    )

    start_tag_lem : (b : Bool) → eqb K.atom no_atom ≡ b → Tagged (λ d. Chain P start (data_atom d) c) (λ d. Chain P start (running_atom d) c) (cond b 0 (2 ^ K.atom))
    start_tag_lem true e =
        tagged_none
        (λ d ch. (names d (chain_none P (data_atom d) c ch)).1 ((names d (chain_none P (data_atom d) c ch)).0 ∙ eqb-true K.atom no_atom e))
        (λ d ch. chain_none P (running_atom d) c ch)
    start_tag_lem false e =
        let ne : K.atom ≢ no_atom = eqb-false K.atom no_atom e in
        tagged_one K.atom (ok.names ne).1 (chain_here P (data_atom K.atom) c (K, i_k, (ok.names ne).0, refl, ne))
        (λ d ch. (names d (chain_none P (data_atom d) c ch)).0)
        (λ d ch. chain_none P (running_atom d) c ch)

    start_run : (b : Bool) → is_file K.kind ≡ b → Exact (λ r. Chain P start (run_rule r) c) (rule_at P.rules K.run)
    start_run true e =
        exact_one (rule_at P.rules K.run) (chain_here P (run_rule (rule_at P.rules K.run)) c (K, i_k, e, refl)) (λ r ch. (runs r (chain_none P (run_rule r) c ch)).1)
    start_run false e =
        subst (λ w. Exact (λ r. Chain P start (run_rule r) c) w) (sym (named_unrestricted P.rules K.run (ok.plain e).1))
        (exact_unrestricted (λ r ch. clash (runs r (chain_none P (run_rule r) c ch)).0 e))

    start_permit : (b : Bool) → is_store K.kind ≡ b → Exact (λ r. Governs P start c r) (rule_at P.rules K.permit)
    start_permit true e = exact_one (rule_at P.rules K.permit) (K, i_k, e, refl) (λ r g. (owns r g).1)
    start_permit false e =
        subst (λ w. Exact (λ r. Governs P start c r) w) (sym (named_unrestricted P.rules K.permit (ok.plain (not_file K.kind e)).0))
        (exact_unrestricted (λ r g. clash (owns r g).0 e))

    start_good : Good P start c (start_row (place_of P.rules K))
    unfolding start_row start_tag place_of normal_at
    start_good = record {
      tag = start_tag_lem (eqb K.atom no_atom) refl;
      run = exact_normal (rule_at P.rules K.run) (start_run (is_file K.kind) refl);
      permit = exact_normal (rule_at P.rules K.permit) (start_permit (is_store K.kind) refl);
      behalf = refl;
    }

  -- nothing starts where the image has no container
  starts_none : (c : ℕ) → get_elem? P.containers c ≡ none → (x : Item) → ¬ Starts P c x
  starts_none c e (data_atom d) (K, i_k, kK, aK, ne) = none_some (sym e ∙ i_k)
  starts_none c e (running_atom d) z = z
  starts_none c e (run_rule r) (K, i_k, kK, rK) = none_some (sym e ∙ i_k)

  module _ (ok : Sound P) where
    row_start : (c : ℕ) (m : Option Container) → get_elem? P.containers c ≡ m → RowOk P start c (start_row_of (mapped (place_of P.rules) m))
    unfolding free_row is_free start_row place_of
    row_start c none e = record {
      empty = λ f x ch. starts_none c e x (chain_none P x c ch);
      good = λ f. clash refl f;
    }
    row_start c (some K) e = record {
      empty = λ f. clash f (sound_at P ok c K e).used;
      good = λ f. start_good c K e (sound_at P ok c K e);
    }

    user_start : (u : ℕ) (m : Option ℕ) → get_elem? P.users u ≡ m → (v : List ℕ) → mapped (normal_at P.rules) m ≡ some v → Exact (λ r. UserRule P u r) v
    unfolding normal_at
    user_start u none e v q = absurd (none_some q)
    user_start u (some n) e v q =
        subst (λ w. Exact (λ r. UserRule P u r) w) (some_inj q)
        (exact_normal (rule_at P.rules n) (exact_one (rule_at P.rules n) (n, e, refl) (λ r g. ap (rule_at P.rules) (some_inj (sym e ∙ g.1)) ∙ g.2)))

    pub begin_ok : Inv P start (begin P)
    unfolding begin meaning
    begin_ok = record {
      rows = λ c. subst (λ m. RowOk P start c (start_row_of m)) (sym (mapped_at (place_of P.rules) P.containers c)) (row_start c (get_elem? P.containers c) refl);
      users = λ u v e. user_start u (get_elem? P.users u) refl v (sym (mapped_at (normal_at P.rules) P.users u) ∙ e);
      guarding = guarding_start P;
    }
