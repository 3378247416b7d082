-- The mixtures of a rule of the image, compared in their place.
use Prim.Native.Nat.{ℕ, ◌+◌, ◌*◌, ◌/◌, ◌≤◌, ◌<◌}
use native.Mathlib.Omega.{arith}
use mathlib.Core.Path.{◌≡◌, sym, ap, ◌∙◌}
use mathlib.Core.Bool.{Bool, true, false}
use mathlib.Core.List.{List, [], ◌∷◌}
use lib.ListN.{length, get_or, take, drop}
use borrow.Author.Tests.{eq-eqb, ne_eqb}
use Rattle.lists.specs.Lists.{same_list}
use Rattle.lists.proofs.Same.{same_unlike, same_passed, same_stopped, same_ended}
use Rattle.fields.specs.Bytes.{field}
use Rattle.rules.specs.Rules.{unrestricted}
use Rattle.image.specs.Limits.{rule_size, mixture_size, rule_count_at, size16, unrestricted_number}
use Rattle.image.specs.Policy.{unrestricted_rule, named, rule_at}
use Rattle.image.specs.Image.{part, mixtures_in, check_of, policy_in}
use Rattle.image.proofs.AcceptedImage.{accepted_spans}
use Rattle.image.proofs.RecordsByPlace.{mixture_at, rule_at_lem, rule_fits}
use Rattle.image.proofs.RulesByNumber.{named_own, from_length, from_at}

module _ (m : List ℕ) (first : ℕ) (rule : List ℕ) (j : ℕ) (h : first + length rule ≤ length m / mixture_size)
    (e : same_list (drop j (take (length rule) (drop first (mixtures_in m)))) (drop j rule) ≡ same_list (take (length rule) (drop first (mixtures_in m))) rule) where
  long : length (take (length rule) (drop first (mixtures_in m))) ≡ length rule
  long = from_length m first (length rule) h

  module _ (l : j < length rule) (x : ℕ) (ex : x ≡ field m ((first + j) * mixture_size) mixture_size) where
    here : x ≡ get_or (take (length rule) (drop first (mixtures_in m))) j 0
    here = ex ∙ mixture_at m (first + j) (omega arith) ∙ from_at m first (length rule) h j l

    pub mixture_passed : x ≡ get_or rule j 0
        → same_list (drop (j + 1) (take (length rule) (drop first (mixtures_in m)))) (drop (j + 1) rule) ≡ same_list (take (length rule) (drop first (mixtures_in m))) rule
    mixture_passed z = same_passed (take (length rule) (drop first (mixtures_in m))) rule j e long (omega (arith, long)) (sym here ∙ z)

    pub mixture_stopped : (x ≡ get_or rule j 0 → ⊥) → false ≡ same_list (take (length rule) (drop first (mixtures_in m))) rule
    mixture_stopped n = same_stopped (take (length rule) (drop first (mixtures_in m))) rule j e long (omega (arith, long)) (λ z. n (here ∙ z))

  pub mixture_ended : length rule ≤ j → true ≡ same_list (take (length rule) (drop first (mixtures_in m))) rule
  mixture_ended l = same_ended (take (length rule) (drop first (mixtures_in m))) rule j e long (omega (arith, long))

-- ---- a rule by its number

module _ (rules : List (List ℕ)) (n : ℕ) (rule : List ℕ) where
  pub all_same : (x : Bool) → n ≡ unrestricted_number → x ≡ same_list (18446744073709551615 ∷ []) rule → x ≡ same_list (rule_at rules n) rule
  unfolding rule_at unrestricted_rule unrestricted
  all_same x e ex = rw (eq-eqb n unrestricted_number e) ex

module _ (i : List ℕ) (ok : check_of i ≡ 0) {rs : List ℕ} (er : rs ≡ part i 2) (n : ℕ) (rule : List ℕ) (g : named (length (part i 2) / rule_size) n ≡ true)
    (d : n ≡ unrestricted_number → ⊥) where
  inside : n < length (part i 2) / rule_size
  inside = named_own (length (part i 2) / rule_size) n g d

  pub own_place : n < length rs / rule_size
  own_place = omega (arith, inside, ap length er)

  module _ (first count : ℕ) (ef : first ≡ field rs (n * rule_size) size16) (ec : count ≡ field rs (n * rule_size + rule_count_at) size16) where
    own_at : rule_at (policy_in i).rules n ≡ take count (drop first (mixtures_in (part i 3)))
    unfolding rule_at policy_in
    own_at = rw (ne_eqb n unrestricted_number d, ef, ec, er) (rule_at_lem (part i 2) (part i 3) (accepted_spans i ok) n inside)

    pub own_fits : first + count ≤ length (part i 3) / mixture_size
    own_fits =
        let f : first ≡ field (part i 2) (n * rule_size) size16 = rw er at ef in
        let c : count ≡ field (part i 2) (n * rule_size + rule_count_at) size16 = rw er at ec in
        omega (arith, f, c, (rule_fits (part i 2) (part i 3) (accepted_spans i ok) n inside).1)

    pub own_unlike : (count ≡ length rule → ⊥) → false ≡ same_list (rule_at (policy_in i).rules n) rule
    own_unlike u = rw own_at (same_unlike (take count (drop first (mixtures_in (part i 3)))) rule (λ z. u (sym (from_length (part i 3) first count own_fits) ∙ z)))

    pub own_same : {m : List ℕ} → m ≡ part i 3 → (x : Bool) → count ≡ length rule → x ≡ same_list (take (length rule) (drop first (mixtures_in m))) rule
        → x ≡ same_list (rule_at (policy_in i).rules n) rule
    own_same em x e ex = rw (own_at, e, ← em) ex
