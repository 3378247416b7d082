-- `confinement::put_form`. The answer of the normal form tells whether it fits.
use Rattle.confinement.proofs.ListedLaws.{form_over, form_put}
use Rattle.confinement.proofs.put_form.Goals as goal

pub returns-in_default : goal.returns-in_default
returns-in_default c = form_over _ c.normal.ensures _ c.in_default.is

pub returns : goal.returns
returns c = form_put _ c.normal.ensures c.args.form.now c.requires.0 c.in-Some.is c.put_rule.ensures
