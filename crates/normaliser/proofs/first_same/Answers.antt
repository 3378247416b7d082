use Rattle.normaliser.proofs.FirstEqual.{seek_start, seek_found, seek_next, seek_end, words_part}
use mathlib.Core.Path.{sym, ◌∙◌}
use Rattle.normaliser.proofs.first_same.Goals as goal

pub loop-j-init : goal.loop-j-init
loop-j-init c = seek_start c.args.forms.now c.args.k

pub returns-then-same : goal.returns-then-same
returns-then-same c =
    let loop = c.loop-j in
    seek_found c.args.forms.now c.args.k loop.j c.requires loop.invariant (sym c.if-same.true ∙ (rw (
      words_part c.args.forms.now c.args.k,
      words_part
          c.args.forms.now loop.j,
    ) at c.same.ensures))

pub loop-j-preserved : goal.loop-j-preserved
loop-j-preserved c =
    let loop = c.loop-j in
    let loop_test = c.loop-j-test in
    seek_next c.args.forms.now c.args.k loop.j c.requires loop.invariant loop_test.true (sym c.if-same.false ∙ (rw (
      words_part c.args.forms.now
          c.args.k,
      words_part c.args.forms.now loop.j,
    ) at c.same.ensures))

pub returns : goal.returns
returns c =
    seek_end c.args.forms.now c.args.k c.loop-j.j c.requires c.loop-j.invariant c.loop-j-test.false
