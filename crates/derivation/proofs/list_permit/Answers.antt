use native.Mathlib.Omega.{arith}
use mathlib.Core.Path.{sym, ap, ◌∙◌}
use lib.Bits.{bit_or}
use lib.ListN.{length, get_or, length-set}
use Rattle.derivation.proofs.PermitWords.{permit_start, permit_long, permit_take, permit_leave, permit_alone, permit_writers, own_is}
use Rattle.derivation.proofs.list_permit.Goals as goal
use Rattle.derivation.proofs.list_permit.Goals.{then-rights-s-eq1, else-rights-s-eq1}

pub loop-s-init : goal.loop-s-init
loop-s-init c = permit_start c.args.rights.reads.now c.args.rights.writes.now c.args.b c.args.rights.even c.args.rights.few c.requires.1

pub bounds-words-count : goal.bounds-words-count
bounds-words-count c =
    let loop = c.loop-s in
    omega (arith, permit_long loop.invariant, loop.invariant.sum, loop.invariant.most, loop.invariant.few)

pub loop-s-preserved : goal.loop-s-preserved
loop-s-preserved c =
    let loop = c.loop-s in
    let taken = c.loop-s-test.true in
    elim c.if-rights-s-eq1.branch [
      | then-rights-s-eq1 w ↦ rw (w.words-is, w.count-is)
          (permit_take loop.invariant taken w.if-rights-s-eq1.true (ap (bit_or (get_or c.args.rights.reads.now loop.s 0)) (own_is _ c.requires.0)))
      | else-rights-s-eq1 w ↦ rw (w.words-is, w.count-is) (permit_leave loop.invariant taken w.if-rights-s-eq1.false)
    ]

pub bounds-words-0 : goal.bounds-words-0
bounds-words-0 c = omega (arith, permit_long c.loop-s.invariant)

pub bounds-words-1 : goal.bounds-words-1
bounds-words-1 c = simp length-set (omega (arith, permit_long c.loop-s.invariant))

pub shape_of-words-then-count-eq0 : goal.shape_of-words-then-count-eq0
shape_of-words-then-count-eq0 c = simp length-set (permit_long c.loop-s.invariant ∙ sym (ap length c.requires.1))

pub returns-then-count-eq0 : goal.returns-then-count-eq0
returns-then-count-eq0 c = permit_alone c.loop-s.invariant c.loop-s-test.false c.if-count-eq0.true (own_is _ c.requires.0)

pub bounds-words-0-2 : goal.bounds-words-0-2
bounds-words-0-2 c = omega (arith, permit_long c.loop-s.invariant)

pub shape_of-words : goal.shape_of-words
shape_of-words c = simp length-set (permit_long c.loop-s.invariant ∙ sym (ap length c.requires.1))

pub returns : goal.returns
returns c = permit_writers c.loop-s.invariant c.loop-s-test.false c.if-count-eq0.false
