-- The numbers that are told, and how they are put.
use Prim.Native.Nat.{ℕ, ◌+◌, ◌≤◌}
use native.Mathlib.Omega.{arith}
use mathlib.Core.Path.{◌≡◌, ap, ap₂, ◌∙◌}
use mathlib.Core.List.{List, ◌++◌}
use lib.ListN.{length, take, drop, replicate, length-replicate}
use lib.Seq.{take_all}
use Rattle.lists.proofs.Copying.{Copied, copied_start}
use Rattle.fields.specs.Writing.{overwritten}
use Rattle.rules.specs.Answers.{mixture_limit, padded}
use Rattle.rule_words.proofs.ZeroLaws.{drop_zeros}

-- all are put
pub put_all : (x out₀ out : List ℕ) (j : ℕ) → Copied x out₀ out 0 j → length x ≤ j → out ≡ overwritten x 0 out₀
unfolding overwritten
put_all x out₀ out j g l =
    let e : 0 + j ≡ 0 + length x = omega (arith, g.place) in
    g.is ∙ ap₂ (λ (a b : List ℕ). take 0 out₀ ++ a ++ b) (take_all j x l) (ap (λ (n : ℕ). drop n out₀) e)

-- over eight zeros
pub padded_start : (x : List ℕ) → length x ≤ mixture_limit → Copied x (replicate mixture_limit 0) (replicate mixture_limit 0) 0 0
padded_start x l = copied_start x (replicate mixture_limit 0) 0 (omega (arith, length-replicate {A = ℕ} mixture_limit 0))

pub padded_end : (x out : List ℕ) (j : ℕ) → Copied x (replicate mixture_limit 0) out 0 j → length x ≤ j → out ≡ padded x
unfolding padded overwritten
padded_end x out j g l =
    let z : 0 + length x ≡ length x = omega arith in
    put_all x (replicate mixture_limit 0) out j g l
    ∙ ap (λ (n : ℕ). x ++ drop n (replicate mixture_limit 0)) z
    ∙ ap (λ (y : List ℕ). x ++ y) (drop_zeros (length x) mixture_limit)
