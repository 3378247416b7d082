-- The session that a policy starts reads as the table's start, and is valid.
use Prim.Native.Nat.{ℕ, zero, suc, ◌≤◌, ◌<◌}
use native.Mathlib.Omega.{arith}
use native.Mathlib.Decide.{dec_lt}
use mathlib.Core.Path.{◌≡◌, refl, sym, ap, ◌∙◌}
use mathlib.Core.Logic.{◌↔◌}
use mathlib.Core.Bool.{true, cond}
use mathlib.Core.List.{List, [], ◌∷◌}
use mathlib.Core.Option.{none, some}
use lib.ListN.{length, get_or, get_elem?}
use Rattle.rules.specs.Answers.{mixture_limit}
use Rattle.image.specs.Limits.{container_limit, user_limit}
use Rattle.image.specs.Policy.{Container, Policy, Sound}
use Rattle.image.specs.Normal.{normal_at, place_of, meaning}
use Rattle.session.specs.Rows.{row_of, permit_words, run_words, free_words, is_declared, user_rule_of, user_words, undeclared_words}
use Rattle.rule_words.specs.Words.{rule_of}
use Rattle.session.specs.Session.{start_of}
use Rattle.session.proofs.RowMeaning.{user_words_lem, user_declared, undeclared_not}
use Rattle.session.proofs.StartRows.{start_length, start_said, start_free, start_user, start_user_short, start_undeclared, start_rows_good, start_users_good}
use Rattle.chains.specs.Table.{free_row, is_some, start_row_of, begin}
use Rattle.lists.proofs.Bools.{clash}
use Rattle.lists.proofs.Places.{mapped, mapped_at}
use Rattle.chains.proofs.TableStates.{same_state}
use Rattle.operations.specs.View.{view}
use Rattle.operations.proofs.PlacedRows.{Valid}
use Rattle.operations.proofs.ViewLaws.{view_row, view_user, view_no_row, view_no_user}

pub start_valid : (P : Policy) → Sound P → Valid (start_of P)
start_valid P ok = record { long = start_length P ok; rows = start_rows_good P ok; users = start_users_good P ok }

-- ---- a place of a list

module _ {A : Type 0} where
  at_in : (l : List A) (c : ℕ) (z : A) → c < length l → get_elem? l c ≡ some (get_or l c z)
  at_in [] c z h = absurd (omega arith)
  at_in (x ∷ l) zero z h = refl
  at_in (x ∷ l) (suc c) z h = at_in l c z (omega arith)

  at_past : (l : List A) (c : ℕ) → length l ≤ c → get_elem? l c ≡ none
  at_past [] c h = refl
  at_past (x ∷ l) zero h = absurd (omega arith)
  at_past (x ∷ l) (suc c) h = at_past l c (omega arith)

free_said : row_of free_words ≡ free_row
unfolding row_of free_words free_row rule_of permit_words run_words
free_said = refl

module _ (P : Policy) (ok : Sound P) where
  -- ---- containers

  place_at : (c : ℕ) → (begin P).row c ≡ start_row_of (mapped (place_of P.rules) (get_elem? P.containers c))
  unfolding begin meaning
  place_at c = ap start_row_of (mapped_at (place_of P.rules) P.containers c)

  place_past : (c : ℕ) → length P.containers ≤ c → (begin P).row c ≡ free_row
  place_past c h = place_at c ∙ ap (λ m. start_row_of (mapped (place_of P.rules) m)) (at_past P.containers c h)

  begun_row : (c : ℕ) → (view (start_of P)).row c ≡ (begin P).row c
  begun_row c = by (dec_lt c (length P.containers)) (dec_lt c container_limit)
    where
      z : Container
      z = record { kind = 0; atom = 0; permit = 0; run = 0 }

      by : Dec (c < length P.containers) → Dec (c < container_limit) → (view (start_of P)).row c ≡ (begin P).row c
      by (yes h) k =
          view_row (start_of P) c (omega (arith, ok.few_containers))
          ∙ start_said P ok c z h
          ∙ sym (place_at c ∙ ap (λ m. start_row_of (mapped (place_of P.rules) m)) (at_in P.containers c z h))
      by (no h) (yes k) = view_row (start_of P) c k ∙ ap row_of (start_free P ok c (omega arith) k) ∙ free_said ∙ sym (place_past c (omega arith))
      by (no h) (no k) = view_no_row (start_of P) c (omega arith) ∙ sym (place_past c (omega arith))

  -- ---- users

  rule_at_lem : (u : ℕ) → (begin P).user u ≡ mapped (normal_at P.rules) (get_elem? P.users u)
  unfolding begin meaning
  rule_at_lem u = mapped_at (normal_at P.rules) P.users u

  rule_past : (u : ℕ) → length P.users ≤ u → (begin P).user u ≡ none
  rule_past u h = rule_at_lem u ∙ ap (mapped (normal_at P.rules)) (at_past P.users u h)

  begun_user : (u : ℕ) → (view (start_of P)).user u ≡ (begin P).user u
  begun_user u = by (dec_lt u (length P.users)) (dec_lt u user_limit)
    where
      declared_said : (r : List ℕ) → length r ≤ mixture_limit → cond (is_declared (user_words r)) (some (user_rule_of (user_words r))) none ≡ some r
      declared_said r l = rw (user_declared r, user_words_lem r l)

      undeclared_said : cond (is_declared undeclared_words) (some (user_rule_of undeclared_words)) none ≡ none
      undeclared_said = rw undeclared_not

      by : Dec (u < length P.users) → Dec (u < user_limit) → (view (start_of P)).user u ≡ (begin P).user u
      by (yes h) k =
          view_user (start_of P) u (omega (arith, ok.few_users))
          ∙ ap (λ (ws : List ℕ). cond (is_declared ws) (some (user_rule_of ws)) none) (start_user P ok u h)
          ∙ declared_said (normal_at P.rules (get_or P.users u 0)) (start_user_short P ok u h)
          ∙ sym (rule_at_lem u ∙ ap (mapped (normal_at P.rules)) (at_in P.users u 0 h))
      by (no h) (yes k) =
          view_user (start_of P) u k
          ∙ ap (λ (ws : List ℕ). cond (is_declared ws) (some (user_rule_of ws)) none) (start_undeclared P ok u (omega arith) k)
          ∙ undeclared_said
          ∙ sym (rule_past u (omega arith))
      by (no h) (no k) = view_no_user (start_of P) u (omega arith) ∙ sym (rule_past u (omega arith))

  pub start_view : view (start_of P) ≡ begin P
  start_view = same_state (view (start_of P)) (begin P) begun_row begun_user

  -- a user has a rule exactly if the policy declares it
  pub begun_declared : (u : ℕ) → (is_some ((begin P).user u) ≡ true) ↔ (u < length P.users)
  begun_declared u = by (dec_lt u (length P.users))
    where
      by : Dec (u < length P.users) → (is_some ((begin P).user u) ≡ true) ↔ (u < length P.users)
      by (yes h) = rw (rule_at_lem u, at_in P.users u 0 h) (λ e. h, λ l. refl)
      by (no h) = rw (rule_past u (omega arith)) (λ e. clash e refl, λ l. absurd (h l))
