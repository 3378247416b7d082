-- The tables say where a class stands in the order of first use.
use native.Mathlib.Omega.{arith}
use Rattle.normaliser.proofs.FirstUse.{number_none, number_known, number_unlimited, number_small, number_positive, number_some}
use Rattle.normaliser.proofs.Numbering.number.Goals as goal

pub returns-then-k-eq-UNRESTRICTED_NUMBER : goal.returns-then-k-eq-UNRESTRICTED_NUMBER
returns-then-k-eq-UNRESTRICTED_NUMBER c = number_none _ _ _ c.requires c.if-k-eq-UNRESTRICTED_NUMBER.true

pub offset_bounds-self-k : goal.offset_bounds-self-k
offset_bounds-self-k c = omega (arith, number_known _ _ _ c.requires c.if-k-eq-UNRESTRICTED_NUMBER.false)

pub bounds-self-k : goal.bounds-self-k
bounds-self-k c = number_known _ _ _ c.requires c.if-k-eq-UNRESTRICTED_NUMBER.false

pub returns-then-v-eq-UNRESTRICTED_NUMBER : goal.returns-then-v-eq-UNRESTRICTED_NUMBER
returns-then-v-eq-UNRESTRICTED_NUMBER c = number_unlimited _ _ _ c.requires c.if-k-eq-UNRESTRICTED_NUMBER.false c.if-v-eq-UNRESTRICTED_NUMBER.true

pub offset_bounds-self-v : goal.offset_bounds-self-v
offset_bounds-self-v c = omega (arith, number_small _ _ _ c.requires c.if-k-eq-UNRESTRICTED_NUMBER.false c.if-v-eq-UNRESTRICTED_NUMBER.false)

pub bounds-self-v : goal.bounds-self-v
bounds-self-v c = number_small _ _ _ c.requires c.if-k-eq-UNRESTRICTED_NUMBER.false c.if-v-eq-UNRESTRICTED_NUMBER.false

pub overflow_sub-result : goal.overflow_sub-result
overflow_sub-result c = number_positive _ _ _ c.requires c.if-k-eq-UNRESTRICTED_NUMBER.false c.if-v-eq-UNRESTRICTED_NUMBER.false

pub returns : goal.returns
returns c = number_some _ _ _ c.requires c.if-k-eq-UNRESTRICTED_NUMBER.false c.if-v-eq-UNRESTRICTED_NUMBER.false
