-- The rule records, read one after the other, each held against the one before, and each with its owner.
use Prim.Native.Nat.{ℕ, suc, ◌+◌, ◌-◌, ◌*◌, ◌/◌, ◌≤◌, ◌<◌}
use mathlib.Core.Path.{◌≡◌, refl, sym, ◌∙◌}
use mathlib.Core.Bool.{Bool, true, false, ◌&&◌}
use mathlib.Core.List.{List, map}
use native.Mathlib.Omega.{arith}
use lib.Dec.{leb}
use lib.ListN.{length, drop}
use lib.Seq.{drop-drop}
use borrow.Author.Tests.{lt-leb, le-leb}
use Rattle.lists.specs.Lists.{every}
use Rattle.fields.specs.Bytes.{cut, records}
use Rattle.fields.proofs.SectionRecords.{Scanned, scan_start, scan_next, scan_stop, scan_end}
use Rattle.image.specs.Policy.{owner_good}
use Rattle.image.specs.Image.{span_in, spans_in, owners_in, spans_good}
use Rattle.image.specs.Limits.{rule_size}
use Rattle.image.proofs.RecordsByPlace.{rule_first, rule_count, rule_owner, first_record, count_record, owner_record, owners_are}
use Rattle.rules.specs.Answers.{mixture_limit}

pub record SpansScanned (m : ℕ) (s : List ℕ) (n from i : ℕ) : Type 0 where
  pub count : n ≡ length s / rule_size
  pub place : i ≤ n
  pub rest : spans_good m from (map span_in (cut rule_size (n - i) (drop (i * rule_size) s))) ≡ spans_good m 0 (spans_in s)

spans_start : (m : ℕ) (s : List ℕ) → SpansScanned m s (length s / rule_size) 0 0
unfolding records spans_in
spans_start m s = let e : length s / rule_size - 0 ≡ length s / rule_size = omega arith in record { count = refl; place = omega arith; rest = rw e }

module _ (m : ℕ) (s : List ℕ) (n from i : ℕ) (g : SpansScanned m s n from i) where
  spans_step : i < n
      → spans_good m from (map span_in (cut rule_size (n - i) (drop (i * rule_size) s)))
      ≡ (leb from (rule_first s i) && (leb (rule_count s i) mixture_limit && (leb (rule_first s i + rule_count s i) m
      && spans_good m (rule_first s i) (map span_in (cut rule_size (n - (i + 1)) (drop ((i + 1) * rule_size) s))))))
  unfolding cut spans_good
  spans_step l =
      let e : n - i ≡ suc (n - (i + 1)) = omega arith in
      let k : (i + 1) * rule_size ≡ i * rule_size + rule_size = omega arith in
      rw (e, k, ← drop-drop rule_size (i * rule_size) s, first_record s i, count_record s i)

  spans_first : i < n → rule_first s i < from → false ≡ spans_good m 0 (spans_in s)
  spans_first l h = sym (rw (lt-leb from (rule_first s i) h) at (spans_step l)) ∙ g.rest

  spans_count : i < n → from ≤ rule_first s i → mixture_limit < rule_count s i → false ≡ spans_good m 0 (spans_in s)
  spans_count l a h = sym (rw (le-leb from (rule_first s i) a, lt-leb (rule_count s i) mixture_limit h) at (spans_step l)) ∙ g.rest

  spans_over : i < n
      → from ≤ rule_first s i → rule_count s i ≤ mixture_limit
      → m < rule_first s i + rule_count s i → false ≡ spans_good m 0 (spans_in s)
  spans_over l a b h =
      sym (rw (le-leb from (rule_first s i) a, le-leb (rule_count s i) mixture_limit b, lt-leb (rule_first s i + rule_count s i) m h) at (spans_step l)) ∙ g.rest

  spans_next : i < n
      → from ≤ rule_first s i → rule_count s i ≤ mixture_limit
      → rule_first s i + rule_count s i ≤ m → SpansScanned m s n (rule_first s i) (i + 1)
  spans_next l a b h =
      record {
        count = g.count;
        place = omega arith;
        rest = sym (rw (le-leb from (rule_first s i) a, le-leb (rule_count s i) mixture_limit b, le-leb (rule_first s i + rule_count s i) m h) at (spans_step l)) ∙ g.rest;
      }

  spans_end : n ≤ i → true ≡ spans_good m 0 (spans_in s)
  unfolding cut spans_good
  spans_end l = let e : n - i ≡ 0 = omega arith in rw e at g.rest

-- ---- with the owners, among so many users

pub record RulesScanned (m users : ℕ) (s : List ℕ) (n from i : ℕ) : Type 0 where
  pub spans : SpansScanned m s n from i
  pub owners : Scanned (owner_good users) (λ r. (span_in r).owner) rule_size s n i

pub rules_start : (m users : ℕ) (s : List ℕ) → RulesScanned m users s (length s / rule_size) 0 0
rules_start m users s = record { spans = spans_start m s; owners = scan_start (owner_good users) (λ r. (span_in r).owner) rule_size s }

pub last_fails : (a : Bool) {b : Bool} → false ≡ b → false ≡ (a && b)
last_fails true e = e
last_fails false e = refl

both_pass : {a b : Bool} → true ≡ a → true ≡ b → true ≡ (a && b)
both_pass e f = rw (← e, ← f)

module _ (m users : ℕ) (s : List ℕ) (n from i : ℕ) (g : RulesScanned m users s n from i) where
  pub rules_first : i < n → rule_first s i < from → false ≡ (spans_good m 0 (spans_in s) && every (owner_good users) (owners_in s))
  rules_first l h = rw (← spans_first m s n from i g.spans l h)

  pub rules_count : i < n
      → from ≤ rule_first s i → mixture_limit < rule_count s i
      → false ≡ (spans_good m 0 (spans_in s) && every (owner_good users) (owners_in s))
  rules_count l a h = rw (← spans_count m s n from i g.spans l a h)

  pub rules_over : i < n
      → from ≤ rule_first s i → rule_count s i ≤ mixture_limit
      → m < rule_first s i + rule_count s i
      → false ≡ (spans_good m 0 (spans_in s) && every (owner_good users) (owners_in s))
  rules_over l a b h = rw (← spans_over m s n from i g.spans l a b h)

  pub rules_owner : i < n → owner_good users (rule_owner s i) ≡ false → false ≡ (spans_good m 0 (spans_in s) && every (owner_good users) (owners_in s))
  rules_owner l h =
      rw (owners_are s)
      (last_fails (spans_good m 0 (spans_in s)) (scan_stop (owner_good users) (λ r. (span_in r).owner) rule_size s n i g.owners l (rw (owner_record s i) (sym h))))

  pub rules_next : i < n
      → from ≤ rule_first s i → rule_count s i ≤ mixture_limit
      → rule_first s i + rule_count s i ≤ m
      → owner_good users (rule_owner s i) ≡ true → RulesScanned m users s n (rule_first s i) (i + 1)
  rules_next l a b h o =
      record {
        spans = spans_next m s n from i g.spans l a b h;
        owners = scan_next (owner_good users) (λ r. (span_in r).owner) rule_size s n i g.owners l (rw (owner_record s i) (sym o));
      }

  pub rules_end : n ≤ i → true ≡ (spans_good m 0 (spans_in s) && every (owner_good users) (owners_in s))
  rules_end l = rw (owners_are s) (both_pass (spans_end m s n from i g.spans l) (scan_end (owner_good users) (λ r. (span_in r).owner) rule_size s n i g.owners l))
