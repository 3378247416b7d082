-- `confinement::put_path_rule`. An even rule is a permit rule, an odd one a run rule.
use native.Mathlib.Omega.{arith}
use Rattle.confinement.proofs.ListedLaws.{listed_few, listed_size, listed_form, permit_rule, run_rule}
use Rattle.confinement.proofs.put_path_rule.Goals as goal

pub slice_bounds-put_form-end : goal.slice_bounds-put_form-end
slice_bounds-put_form-end c = listed_few c.list_permit-permits.ensures

pub slice_bounds-put_form-end-then-i-eq0 : goal.slice_bounds-put_form-end-then-i-eq0
slice_bounds-put_form-end-then-i-eq0 c = listed_size c.list_permit-permits.ensures

pub put_form-requires : goal.put_form-requires
put_form-requires c =
    (c.requires.0, omega (arith, listed_size c.list_permit-permits.ensures, listed_few c.list_permit-permits.ensures, c.list_permit-permits.ensures.long))

pub returns-then-i-eq0 : goal.returns-then-i-eq0
returns-then-i-eq0 c =
    permit_rule _ _ _ _ c.if-i-eq0.true (listed_form c.list_permit-permits.ensures c.put_form.ensures)

pub slice_bounds-put_form-end-2 : goal.slice_bounds-put_form-end-2
slice_bounds-put_form-end-2 c = listed_few c.list_run-mixtures.ensures

pub slice_bounds-put_form-end-3 : goal.slice_bounds-put_form-end-3
slice_bounds-put_form-end-3 c = listed_size c.list_run-mixtures.ensures

pub put_form-requires-2 : goal.put_form-requires-2
put_form-requires-2 c =
    (c.requires.0, omega (arith, listed_size c.list_run-mixtures.ensures, listed_few c.list_run-mixtures.ensures, c.list_run-mixtures.ensures.long))

pub returns : goal.returns
returns c =
    run_rule _ _ _ _ c.if-i-eq0.false (listed_form c.list_run-mixtures.ensures c.put_form-2.ensures)
