-- The row of all that is reached, and the test of one row by numbers.
use Prim.Native.Nat.{ℕ, ◌+◌, ◌/◌, ◌%◌, ◌^◌, ◌≤◌, ◌<◌}
use mathlib.Core.Path.{◌≡◌, refl, sym, ap, ap₂, ◌∙◌}
use mathlib.Core.Bool.{Bool, true, false, cond, ◌&&◌, ◌||◌}
use mathlib.Core.List.{List}
use mathlib.Core.Logic.{◌⊎◌, inl, inr}
use native.Mathlib.Decide.{dec_lt}
use native.Mathlib.Numerals.{add-one}
use native.Mathlib.Omega.{arith}
use lib.Bits.{bit_and, bit_or}
use lib.Dec.{eqb}
use lib.ListN.{get_or}
use borrow.Author.Tests.{eq-eqb, ne_eqb}
use Rattle.rules.specs.Sets.{holds}
use Rattle.lists.proofs.Bools.{decide, clash, same_test, or_none}
use Rattle.matrix.specs.Flows.{has}
use Rattle.lists.specs.Counting.{some_below, least_below, all_below}
use Rattle.matrix.specs.Rows.{bit_at}
use Rattle.matrix.proofs.RowBits.{has_is, has_not, has_and, has_or, has_above, has_ext}
use Rattle.lists.proofs.Below.{Least, some_none, none_at, least_some, all_at, all_in, some_next}
use Rattle.withdrawals.specs.Returns.{FlowTable, reached_from, row_closed, leads_to, with_flows, source_fits, row_fits}
use Rattle.withdrawals.proofs.ReturnedRights.{holds_bits}

-- no row has bit b of 0
none_in_zero : (b : ℕ) → has 0 b ≡ false
none_in_zero b = has_above 0 0 b (omega arith) (omega arith)

-- ---- the row of all that is reached: the targets below y are done

pub record Reaching (rows : List ℕ) (n targets reached y : ℕ) : Type 0 where
  pub place : y ≤ n
  pub table : FlowTable n rows
  pub bits : (b : ℕ) → has reached b ≡ some_below (λ i. has targets i && bit_at rows i b) y

module _ (rows : List ℕ) (n targets : ℕ) where
  pub reaching_start : FlowTable n rows → Reaching rows n targets 0 0
  unfolding some_below
  reaching_start w = record { place = omega arith; table = w; bits = none_in_zero }

  next_bit : (y b : ℕ) → some_below (λ i. has targets i && bit_at rows i b) (y + 1)
      ≡ (some_below (λ i. has targets i && bit_at rows i b) y || (has targets y && bit_at rows y b))
  next_bit y b = ap (some_below (λ i. has targets i && bit_at rows i b)) (add-one y) ∙ some_next (λ i. has targets i && bit_at rows i b) y

  pub reaching_take : (reached y : ℕ) → Reaching rows n targets reached y → y < n → targets / 2 ^ y % 2 ≡ 1
      → Reaching rows n targets (bit_or reached (get_or rows y 0)) (y + 1)
  reaching_take reached y r l t = record { place = omega arith; table = r.table; bits = λ b. one b ∙ sym (next_bit y b) }
    where
      one : (b : ℕ) → has (bit_or reached (get_or rows y 0)) b ≡ (some_below (λ i. has targets i && bit_at rows i b) y || (has targets y && bit_at rows y b))
      one b = has_or reached (get_or rows y 0) b ∙ ap₂ (λ (u v : Bool). u || v) (r.bits b) (bit b)
        where
          bit : (b : ℕ) → has (get_or rows y 0) b ≡ (has targets y && bit_at rows y b)
          bit b = sym (rw (has_is targets y t) (unfold bit_at in refl))

  pub reaching_skip : (reached y : ℕ) → Reaching rows n targets reached y → y < n → (targets / 2 ^ y % 2 ≡ 1 → ⊥)
      → Reaching rows n targets reached (y + 1)
  reaching_skip reached y r l t = record { place = omega arith; table = r.table; bits = λ b. r.bits b ∙ sym (next_bit y b ∙ one b) }
    where
      one : (b : ℕ) → (some_below (λ i. has targets i && bit_at rows i b) y || (has targets y && bit_at rows y b)) ≡ some_below (λ i. has targets i && bit_at rows i b) y
      one b = rw (has_not targets y t) (or_none (some_below (λ i. has targets i && bit_at rows i b) y))

  pub reaching_end : (reached y : ℕ) → Reaching rows n targets reached y → n ≤ y → (b : ℕ) → has reached b ≡ reached_from (bit_at rows) n targets b
  unfolding reached_from
  reaching_end reached y r l b =
      let e : y ≡ n = omega (arith, r.place) in
      r.bits b ∙ ap (some_below (λ i. has targets i && bit_at rows i b)) e

  -- ---- the test of one row

  module _ (w : FlowTable n rows) where
    reached_below : (b : ℕ) → n ≤ b → reached_from (bit_at rows) n targets b ≡ false
    unfolding reached_from
    reached_below b l = some_none (λ y. has targets y && bit_at rows y b) n (λ y m. none y (w.beyond y b m l))
      where
        and-false : (x : Bool) → (x && false) ≡ false
        and-false true = refl
        and-false false = refl

        none : (y : ℕ) → bit_at rows y b ≡ false → (has targets y && bit_at rows y b) ≡ false
        none y e = rw e (and-false (has targets y))

    -- an object that a leads to and that is a source
    abbrev common : ℕ → ℕ → ℕ → Bool
    common sources a x = has (get_or rows a 0) x && has sources x

    leads_test : (sources a : ℕ) → a < n → leads_to (bit_at rows) n sources a ≡ true → eqb (bit_and (get_or rows a 0) sources) 0 ≡ false
    unfolding leads_to bit_at
    leads_test sources a l h =
        ne_eqb (bit_and (get_or rows a 0) sources) 0
        (λ z. clash (hit (least_some (common sources a) n h)) (ap (λ (m : ℕ). has m (least_below (common sources a) n)) z ∙ none_in_zero (least_below (common sources a) n)))
      where
        hit : Least (common sources a) n (least_below (common sources a) n) → has (bit_and (get_or rows a 0) sources) (least_below (common sources a) n) ≡ true
        hit u = has_and (get_or rows a 0) sources (least_below (common sources a) n) ∙ u.passes

    leads_none : (sources a : ℕ) → a < n → leads_to (bit_at rows) n sources a ≡ false → eqb (bit_and (get_or rows a 0) sources) 0 ≡ true
    unfolding leads_to bit_at
    leads_none sources a l h =
        eq-eqb (bit_and (get_or rows a 0) sources) 0
        (has_ext (bit_and (get_or rows a 0) sources) 0 (λ k. has_and (get_or rows a 0) sources k ∙ by k (dec_lt k n) ∙ sym (none_in_zero k)))
      where
        by : (k : ℕ) → Dec (k < n) → (has (get_or rows a 0) k && has sources k) ≡ false
        by k (yes m) = none_at (λ x. has (get_or rows a 0) x && has sources x) n k h m
        by k (no m) = let z : has (get_or rows a 0) k ≡ false = w.beyond a k l (omega arith) in rw z

    row_has : (row sources a b : ℕ) → has (cond (has sources a) (bit_or row targets) row) b ≡ (has row b || (has sources a && has targets b))
    row_has row sources a b = by (has sources a)
      where
        by : (t : Bool) → has (cond t (bit_or row targets) row) b ≡ (has row b || (t && has targets b))
        by true = has_or row targets b
        by false = sym (or_none (has row b))

    -- a row of bits g holds the row of all that is reached
    held_is : (g : ℕ → Bool) (row reached : ℕ) → ((b : ℕ) → has row b ≡ g b) → ((b : ℕ) → has reached b ≡ reached_from (bit_at rows) n targets b)
        → holds row reached ≡ all_below (λ b. cond (reached_from (bit_at rows) n targets b) (g b) true) n
    held_is g row reached f e = same_test (holds row reached) (all_below (λ b. cond (reached_from (bit_at rows) n targets b) (g b) true) n) to back
      where
        to : holds row reached ≡ true → all_below (λ b. cond (reached_from (bit_at rows) n targets b) (g b) true) n ≡ true
        to h = all_in (λ b. cond (reached_from (bit_at rows) n targets b) (g b) true) n (λ b m. one b (reached_from (bit_at rows) n targets b) refl)
          where
            one : (b : ℕ) (r : Bool) → reached_from (bit_at rows) n targets b ≡ r → cond r (g b) true ≡ true
            one b true q = sym (f b) ∙ (holds_bits row reached).0 h b (e b ∙ q)
            one b false q = refl

        back : all_below (λ b. cond (reached_from (bit_at rows) n targets b) (g b) true) n ≡ true → holds row reached ≡ true
        back h = (holds_bits row reached).1 (λ b q. one b (sym (e b) ∙ q) (dec_lt b n))
          where
            one : (b : ℕ) → reached_from (bit_at rows) n targets b ≡ true → Dec (b < n) → has row b ≡ true
            one b q (yes m) = f b ∙ (rw q at (all_at (λ b. cond (reached_from (bit_at rows) n targets b) (g b) true) n b h m))
            one b q (no m) = clash q (reached_below b (omega arith))

    pub row_fits_is : (a sources reached : ℕ) → a < n → ((b : ℕ) → has reached b ≡ reached_from (bit_at rows) n targets b)
        → row_fits (get_or rows a 0) a sources targets reached ≡ source_fits (bit_at rows) n sources targets a
    unfolding row_fits source_fits
    row_fits_is a sources reached l e = by (decide (leads_to (bit_at rows) n sources a))
      where
        flow : (b : ℕ) → has (cond (has sources a) (bit_or (get_or rows a 0) targets) (get_or rows a 0)) b ≡ with_flows (bit_at rows) sources targets a b
        flow b = row_has (get_or rows a 0) sources a b ∙ (unfold with_flows bit_at in refl)

        by : (leads_to (bit_at rows) n sources a ≡ true) ⊎ (leads_to (bit_at rows) n sources a ≡ false)
            → cond (eqb (bit_and (get_or rows a 0) sources) 0) true (holds (cond (has sources a) (bit_or (get_or rows a 0) targets) (get_or rows a 0)) reached)
            ≡ cond (leads_to (bit_at rows) n sources a) (all_below (λ b. cond (reached_from (bit_at rows) n targets b) (with_flows (bit_at rows) sources targets a b) true) n) true
        by (inl h) = rw (leads_test sources a l h, h) (held_is (with_flows (bit_at rows) sources targets a) (cond (has sources a) (bit_or (get_or rows a 0) targets) (get_or rows a 0)) reached flow e)
        by (inr h) = rw (leads_none sources a l h, h)

-- the test of one row for itself
pub row_closed_is : (rows : List ℕ) (n : ℕ) → FlowTable n rows → (a reached : ℕ) → ((b : ℕ) → has reached b ≡ reached_from (bit_at rows) n (get_or rows a 0) b)
    → holds (get_or rows a 0) reached ≡ row_closed rows n a
unfolding row_closed bit_at
row_closed_is rows n w a reached e = held_is rows n (get_or rows a 0) w (bit_at rows a) (get_or rows a 0) reached (λ b. refl) e
