-- `listing::put_position`. By the number of digits.
use Prim.Native.Nat.{◌+◌, ◌/◌, ◌%◌, ◌≤◌, ◌<◌}
use native.Mathlib.Omega.{arith}
use mathlib.Core.Path.{◌≡◌, sym, ap, ◌∙◌}
use mathlib.Core.List.{[], ◌∷◌, ◌++◌}
use lib.ListN.{length, set, length-set}
use Rattle.fields.proofs.WritingLaws.{wrote_join, wrote_byte, wrote_as, wrote_length}
use Rattle.listing.specs.Text.{digit}
use Rattle.listing.specs.Lines.{newline}
use Rattle.listing.proofs.NumberTexts.{zero_code, digit_low, digits_length, decimal_below, decimal_two, decimal_three}
use Rattle.listing.proofs.BufferLaws.{spare_none, spare_byte, spare_as}
use Rattle.listing.proofs.put_position.Goals as goal

pub returns-then-n-lt10 : goal.returns-then-n-lt10
returns-then-n-lt10 c =
    let n = c.args.n in
    let l : n < 10 = c.if-n-lt10.true in
    let e : n % 10 ≡ n = omega arith in
    wrote_as (ap (λ x. digit x ∷ newline ∷ []) e ∙ ap (λ x. x ++ (newline ∷ [])) (sym (decimal_below n l))) c.put_last_digit.ensures

pub put_last_digit-requires-then-n-lt100 : goal.put_last_digit-requires-then-n-lt100
put_last_digit-requires-then-n-lt100 c = simp length-set (omega arith)

pub shape_of-out-then-n-lt100 : goal.shape_of-out-then-n-lt100
shape_of-out-then-n-lt100 c =
    let a = c.args in
    let l : a.at + 1 + 2 ≤ length (set a.out.now a.at (zero_code + a.n / 10)) = simp length-set (omega arith) in
    wrote_length l c.put_last_digit-then-n-lt100.ensures ∙ length-set a.out.now a.at (zero_code + a.n / 10)

pub returns-then-n-lt100 : goal.returns-then-n-lt100
returns-then-n-lt100 c =
    let a = c.args in
    let n = a.n in
    let l : 10 ≤ n = c.if-n-lt10.false in
    let m : n < 100 = c.if-n-lt100.true in
    let t : n / 10 < 10 = omega arith in
    let h : a.at ≤ length a.out.now = omega arith in
    let i : a.at < length a.out.now = omega arith in
    wrote_as (ap (λ x. x ∷ digit (n % 10) ∷ newline ∷ []) (sym (digit_low (n / 10) t)) ∙ ap (λ x. x ++ (newline ∷ [])) (sym (decimal_two n l m)))
    (wrote_join h (wrote_byte (zero_code + n / 10) a.at a.out.now i) c.put_last_digit-then-n-lt100.ensures)

pub bounds-out-next : goal.bounds-out-next
bounds-out-next c = omega (arith, digits_length 10 3 c.args.n)

pub overflow_add-result : goal.overflow_add-result
overflow_add-result c = omega (arith, digits_length 10 3 c.args.n)

pub returns : goal.returns
returns c =
    let a = c.args in
    let p = c.put_group-next in
    let l : p.result < length p.new.out = omega (arith, digits_length 10 3 a.n) in
    let m : 100 ≤ a.n = c.if-n-lt100.false in
    spare_none
    (spare_as (ap (λ x. x ++ (newline ∷ [])) (decimal_three a.n m (omega arith)))
    (spare_byte newline 0 l (omega arith) p.ensures))
