use Rattle.confinement.proofs.PathSearch.{head_start, head_same, head_differs, head_end}
use Rattle.confinement.proofs.scan.same_bytes.Goals.{then-text-a, else-text-a}
use Rattle.confinement.proofs.scan.same_bytes.Goals as goal

pub loop-i-init : goal.loop-i-init
loop-i-init c = head_start _ _ _ _ c.requires.0 c.requires.1

pub loop-i-preserved : goal.loop-i-preserved
loop-i-preserved c =
    elim c.if-text-a.branch [
      | then-text-a w ↦ rw w.same-is (head_differs _ _ _ _ _ _ c.loop-i.invariant c.loop-i-test.true w.if-text-a.true)
      | else-text-a w ↦ rw w.same-is (head_same _ _ _ _ _ _ c.loop-i.invariant c.loop-i-test.true w.if-text-a.false)
    ]

pub returns : goal.returns
returns c = head_end _ _ _ _ _ _ c.loop-i.invariant c.loop-i-test.false
