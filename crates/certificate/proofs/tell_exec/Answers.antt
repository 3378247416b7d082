-- The user's rule where it does not cover the tag, else the search.
use Rattle.certificate.proofs.ExecLaws.{exec_user, exec_run}
use Rattle.certificate.proofs.tell_exec.Goals as goal

pub returns-then-not-covers_by : goal.returns-then-not-covers_by
returns-then-not-covers_by c =
    exec_user c.args.image.bytes.now c.args.trace.now c.args.n c.args.q.o c.args.q.u c.args.tag c.user_number.ensures c.covers_by.ensures
    c.if-not-covers_by.true-raw c.args.links.now c.args.steps.now c.user_told.ensures

pub returns : goal.returns
returns c =
    exec_run c.args.image.bytes.now c.args.trace.now c.args.n c.args.q.o c.args.q.u c.args.tag c.user_number.ensures c.covers_by.ensures
    c.if-not-covers_by.false-raw c.args.image.accepted c.args.links.now c.args.steps.now c.search-found.ensures.0 c.run_told.ensures
