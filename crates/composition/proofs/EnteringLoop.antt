-- The mixtures of two rules that enter, one behind the other, and the rule that they make.
use Prim.Native.Nat.{ℕ, suc, ◌+◌, ◌-◌, ◌≤◌, ◌<◌}
use mathlib.Core.Path.{◌≡◌, refl, sym, ap, ap₂, ◌∙◌}
use mathlib.Core.Bool.{Bool, true, false, cond}
use mathlib.Core.List.{List, [], ◌∷◌, ◌++◌, append_assoc, append-nil}
use native.Mathlib.Omega.{arith}
use native.Mathlib.Numerals.{add-one}
use lib.Bits.{bit_and}
use lib.Dec.{leb}
use lib.ListN.{length, get_or, take, drop, set, length-append, length-take, length-set, drop_of_length-le}
use lib.Seq.{drop-cons, take-suc-set, length-take-le}
use borrow.Author.Tests.{leb-true, le-leb}
use Rattle.lists.proofs.Bools.{or_1, or_none, clash}
use Rattle.lists.proofs.Same.{same_eq}
use Rattle.lists.specs.Lists.{same_list}
use Rattle.rules.specs.Sets.{holds}
use Rattle.rules.specs.Rules.{covers, normal}
use Rattle.rules.specs.Answers.{mixture_limit, bounded_if_fits}
use Rattle.std.specs.Prelude.{Option, Some, None}
use Rattle.rules.specs.declared.Bounded.{Bounded}
use Rattle.rules.proofs.SetLaws.{holds_is, holds_not}
use Rattle.rules.proofs.BoundedLaws.{bounded_some, bounded_none}
use Rattle.rule_words.specs.Words.{rule_width, rule_of, words_of, kept_well}
use Rattle.rule_words.proofs.WordLaws.{bounded_words_lem, words_nine}
use Rattle.rule_words.proofs.KeptWords.{kept_words, kept_normal, kept_short}
use Rattle.composition.specs.Composed.{enters, entering, composed_rule}
use Rattle.composition.specs.Tables.{entering_limit, Entered, WordsComposed}
use Rattle.composition.proofs.ComposedLaws.{composed_self}

-- ---- one mixture

pub enters_consenting : (c m : ℕ) (other : List ℕ) → bit_and c m ≡ m → true ≡ enters c other m
unfolding enters
enters_consenting c m other e = sym (or_1 (covers other m) (holds c m) (holds_is c m e))

pub enters_covered : (c m : ℕ) (other : List ℕ) → (bit_and c m ≡ m → ⊥) → {r : Bool} → r ≡ covers other m → r ≡ enters c other m
unfolding enters
enters_covered c m other d e = e ∙ sym (rw (holds_not c m d) (or_none (covers other m)))

-- ---- the mixtures of a rule

pub entering_length : (c : ℕ) (other r : List ℕ) → length (entering c other r) ≤ length r
unfolding entering
entering_length c other [] = omega arith
entering_length c other (m ∷ r) = by (enters c other m) (entering_length c other r)
  where
    by : (b : Bool) → length (entering c other r) ≤ length r → length (cond b (m ∷ entering c other r) (entering c other r)) ≤ suc (length r)
    by true h = omega arith
    by false h = omega arith

-- those of the first i that enter stand behind the first n
pub record Gathering (c : ℕ) (other rule before list : List ℕ) (n at i : ℕ) : Type 0 where
  pub place : i ≤ length rule
  pub room : n + length rule ≤ entering_limit
  pub most : at ≤ n + i
  pub was : length before ≡ entering_limit
  pub long : length list ≡ entering_limit
  pub front : take at list ++ entering c other (drop i rule) ≡ take n before ++ entering c other rule

pub gathering_start : (c : ℕ) (other rule list : List ℕ) (n : ℕ) → length list ≡ entering_limit → n + length rule ≤ entering_limit → Gathering c other rule list list n n 0
gathering_start c other rule list n l h = record { place = omega arith; room = h; most = omega arith; was = l; long = l; front = refl }

module _ {c : ℕ} {other rule before list : List ℕ} {n at i : ℕ} (h : Gathering c other rule before list n at i) (l : i < length rule) where
  next_entering : (b : Bool) → b ≡ enters c other (get_or rule i 0)
      → entering c other (drop i rule) ≡ cond b (get_or rule i 0 ∷ entering c other (drop (i + 1) rule)) (entering c other (drop (i + 1) rule))
  unfolding entering
  next_entering b e =
      ap (entering c other) (drop-cons rule i 0 l)
      ∙ ap (λ (x : Bool). cond x (get_or rule i 0 ∷ entering c other (drop (suc i) rule)) (entering c other (drop (suc i) rule))) (sym e)
      ∙ ap (λ (k : ℕ). cond b (get_or rule i 0 ∷ entering c other (drop k rule)) (entering c other (drop k rule))) (sym (add-one i))

  pub gathering_keep : {b : Bool} → b ≡ enters c other (get_or rule i 0) → b ≡ true → Gathering c other rule before (set list at (get_or rule i 0)) n (at + 1) (i + 1)
  gathering_keep {b} e t =
      record {
        place = omega arith;
        room = h.room;
        most = omega (arith, h.most);
        was = h.was;
        long = length-set list at (get_or rule i 0) ∙ h.long;
        front =
            ap (λ (x : List ℕ). x ++ entering c other (drop (i + 1) rule))
            (ap (λ (k : ℕ). take k (set list at (get_or rule i 0))) (add-one at)
            ∙ take-suc-set list at (get_or rule i 0) (omega (arith, h.most, h.room, h.long)))
            ∙ append_assoc (take at list) (get_or rule i 0 ∷ []) (entering c other (drop (i + 1) rule))
            ∙ ap (λ (x : List ℕ). take at list ++ x) (sym (next_entering b e ∙ rw t))
            ∙ h.front;
      }

  pub gathering_skip : {b : Bool} → b ≡ enters c other (get_or rule i 0) → b ≡ false → Gathering c other rule before list n at (i + 1)
  gathering_skip {b} e t =
      record {
        place = omega arith;
        room = h.room;
        most = omega (arith, h.most);
        was = h.was;
        long = h.long;
        front = ap (λ (x : List ℕ). take at list ++ x) (sym (next_entering b e ∙ rw t)) ∙ h.front;
      }

pub gathering_end : {c : ℕ} {other rule before list : List ℕ} {n at i : ℕ} → Gathering c other rule before list n at i → length rule ≤ i → Entered (entering c other rule) before list n at
unfolding entering
gathering_end {c} {other} {rule} {before} {list} {n} {at} {i} h l =
    let f : take at list ≡ take n before ++ entering c other rule =
    sym (append-nil (take at list)) ∙ ap (λ (x : List ℕ). take at list ++ x) (sym (ap (entering c other) (drop_of_length-le rule {i = i} l))) ∙ h.front in
    let a : length (take at list) ≡ at = length-take-le at list (omega (arith, h.most, h.room, h.long, h.place)) in
    let b : length (take n before) ≡ n = length-take-le n before (omega (arith, h.room, h.was)) in
    record { front = f; count = omega (arith, ap length f, length-append (take n before) (entering c other rule)); long = h.long }

-- ---- two rules in normal form

pub first_few : (c : ℕ) (r s : List ℕ) {list one : List ℕ} {n : ℕ} → Entered (entering c s r) list one 0 n → n ≤ length r
first_few c r s p = omega (arith, p.count, entering_length c s r)

module _ (c : ℕ) (r s : List ℕ) {list one two : List ℕ} {n m : ℕ} (p : Entered (entering c s r) list one 0 n) (q : Entered (entering c r s) one two n m) where
  pub second_few : m ≤ length r + length s
  second_few = omega (arith, first_few c r s p, q.count, entering_length c r s)

  both_listed : take (m - 0) two ≡ entering c s r ++ entering c r s
  both_listed =
      let z : m - 0 ≡ m = omega arith in
      ap (λ (k : ℕ). take k two) z ∙ q.front ∙ ap (λ (x : List ℕ). x ++ entering c r s) p.front

  pub both_few : length (take (m - 0) two) ≤ length r + length s
  both_few = omega (arith, length-take (m - 0) two, second_few)

  pub made_of_both : normal r ≡ r → normal s ≡ s → {o : Option Bounded} → o ≡ bounded_if_fits (normal (take (m - 0) two)) → o ≡ bounded_if_fits (composed_rule c r s)
  unfolding composed_rule
  made_of_both h k e = e ∙ ap (λ (x : List ℕ). bounded_if_fits (normal x)) (both_listed ∙ ap₂ (λ (x y : List ℕ). entering c s x ++ entering c r y) (sym h) (sym k))

-- ---- words

module _ (c : ℕ) (ws other : List ℕ) (long : length ws ≡ rule_width) (kept : kept_well ws ≡ true) where
  -- equal words stay
  pub words_equal : {b : Bool} → b ≡ same_list ws other → b ≡ true → WordsComposed c ws other ws true
  words_equal e t =
      let w : ws ≡ other = same_eq ws other (sym e ∙ t) in
      let x : composed_rule c (rule_of ws) (rule_of other) ≡ rule_of ws = ap (λ (y : List ℕ). composed_rule c (rule_of ws) (rule_of y)) (sym w) ∙ composed_self c (rule_of ws) ∙ kept_normal ws kept in
      record {
        told = sym (ap (λ (y : List ℕ). leb (length y) mixture_limit) x ∙ le-leb (length (rule_of ws)) mixture_limit (kept_short ws kept));
        long = long;
        words = λ _. kept_words ws long kept ∙ ap words_of (sym x);
      }

module _ (c : ℕ) (ws other : List ℕ) {o : Option Bounded} (e : o ≡ bounded_if_fits (composed_rule c (rule_of ws) (rule_of other))) where
  pub words_over : length ws ≡ rule_width → o ≡ None → WordsComposed c ws other ws false
  words_over l h = record { told = sym (bounded_none (composed_rule c (rule_of ws) (rule_of other)) e h); long = l; words = λ t. clash t refl }

  pub words_put : {b : Bounded} → o ≡ Some b → {after : List ℕ} → after ≡ b.count ∷ b.mixtures → WordsComposed c ws other after true
  words_put {b} h w =
      let m = bounded_some (composed_rule c (rule_of ws) (rule_of other)) e h in
      let f : true ≡ leb (length (composed_rule c (rule_of ws) (rule_of other))) mixture_limit = sym m.0 in
      let l : length (composed_rule c (rule_of ws) (rule_of other)) ≤ mixture_limit = leb-true (length (composed_rule c (rule_of ws) (rule_of other))) mixture_limit (sym f) in
      let x = w ∙ bounded_words_lem (composed_rule c (rule_of ws) (rule_of other)) b m.1 in
      record { told = f; long = ap length x ∙ words_nine (composed_rule c (rule_of ws) (rule_of other)) l; words = λ _. x }
