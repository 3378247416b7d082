-- The test of words that are kept well, one condition after the other.
use Prim.Native.Nat.{ℕ, ◌+◌, ◌≤◌, ◌<◌}
use mathlib.Core.Path.{◌≡◌, sym, ap, ◌∙◌}
use mathlib.Core.Bool.{Bool, true, false, ◌&&◌, and-true}
use mathlib.Core.List.{List}
use native.Mathlib.Omega.{arith}
use lib.ListN.{get_or, take, drop, length-take}
use borrow.Author.Tests.{le-leb, lt-leb}
use Rattle.rules.specs.Answers.{mixture_limit}
use Rattle.rule_words.specs.Words.{rule_of, is_normal, all_zero, kept_well}
use Rattle.rule_words.proofs.NormalTest.{front_start, front_end}

module _ (ws : List ℕ) where
  pub over_words : mixture_limit < get_or ws 0 0 → false ≡ kept_well ws
  unfolding kept_well
  over_words l = rw (lt-leb (get_or ws 0 0) mixture_limit l)

  -- n mixtures: the words behind them, and the mixtures
  module _ (n : ℕ) (e : get_or ws 0 0 ≡ n) (l : n ≤ mixture_limit) where
    kept_is : kept_well ws ≡ (all_zero (drop (n + 1) ws) && is_normal (take n (drop 1 ws)))
    unfolding kept_well rule_of
    kept_is = rw (e, le-leb n mixture_limit l)

    pub kept_not : all_zero (drop (n + 1) ws) ≡ false → false ≡ kept_well ws
    kept_not z = sym (kept_is ∙ ap (λ (t : Bool). t && is_normal (take n (drop 1 ws))) z)

    pub kept_if : all_zero (drop (n + 1) ws) ≡ true → is_normal (take n (drop 1 ws)) ≡ kept_well ws
    kept_if z = sym (kept_is ∙ ap (λ (t : Bool). t && is_normal (take n (drop 1 ws))) z)

    -- fewer than two are in normal form
    pub kept_few : n ≤ 1 → all_zero (drop (n + 1) ws) ≡ kept_well ws
    kept_few h =
        sym (kept_is ∙ ap (λ (t : Bool). all_zero (drop (n + 1) ws) && t) (sym (front_end (take n (drop 1 ws)) 1 (front_start (take n (drop 1 ws))) (omega (arith, length-take n (drop 1 ws)))))
        ∙ and-true (all_zero (drop (n + 1) ws)))
