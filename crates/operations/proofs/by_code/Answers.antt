-- `operations::by_code`. The code decides which step the request asks for.
use native.Mathlib.Omega.{arith}
use Rattle.chains.specs.History.{read, write, append, exec, fork, new_file, new_volatile}
use Rattle.records.proofs.CodeLaws.{step_read, step_write, step_append, step_exec, step_fork, step_file, step_volatile, step_leaves}
use Rattle.operations.proofs.PerformLaws.{ready_as, done_as, released}
use Rattle.operations.proofs.by_code.Goals as goal

pub read-requires : goal.read-requires
read-requires c = let q = c.args.q in ready_as c.args.s.now q (read q.p q.o) (step_read q c.in-1.is) c.requires.1

pub returns-in-1 : goal.returns-in-1
returns-in-1 c =
    let q = c.args.q in
    done_as c.args.s.now q (read q.p q.o) (step_read q c.in-1.is)
    _ _ c.read.ensures

pub write-requires : goal.write-requires
write-requires c =
    let q = c.args.q in
    ready_as c.args.s.now q (write q.p q.o) (step_write q c.in-2.is) c.requires.1

pub returns-in-2 : goal.returns-in-2
returns-in-2 c =
    let q = c.args.q in
    done_as c.args.s.now q (write q.p q.o) (step_write q c.in-2.is) _ _ c.write.ensures

pub append-requires : goal.append-requires
append-requires c =
    let q = c.args.q in
    ready_as c.args.s.now q (append q.p q.o) (step_append q c.in-3.is) c.requires.1

pub returns-in-3 : goal.returns-in-3
returns-in-3 c =
    let q = c.args.q in
    done_as c.args.s.now q (append q.p q.o) (step_append q c.in-3.is) _ _ c.append.ensures

pub exec-requires : goal.exec-requires
exec-requires c =
    let q = c.args.q in
    ready_as c.args.s.now q (exec q.p q.o q.u) (step_exec q c.in-4.is) c.requires.1

pub returns-in-4 : goal.returns-in-4
returns-in-4 c =
    let q = c.args.q in
    done_as c.args.s.now q (exec q.p q.o q.u) (step_exec q c.in-4.is) _ _ c.exec.ensures

pub fork-requires : goal.fork-requires
fork-requires c =
    let q = c.args.q in
    ready_as c.args.s.now q (fork q.p q.o) (step_fork q c.in-5.is) c.requires.1

pub returns-in-5 : goal.returns-in-5
returns-in-5 c =
    let q = c.args.q in
    done_as c.args.s.now q (fork q.p q.o) (step_fork q c.in-5.is)
    _ _ c.fork.ensures

pub new_file-requires : goal.new_file-requires
new_file-requires c =
    let q = c.args.q in
    ready_as c.args.s.now q (new_file q.p q.o q.u) (step_file q c.in-6.is) c.requires.1

pub returns-in-6 : goal.returns-in-6
returns-in-6 c =
    let q = c.args.q in
    done_as c.args.s.now q (new_file q.p q.o q.u) (step_file q c.in-6.is) _ _ c.new_file.ensures

pub new_volatile-requires : goal.new_volatile-requires
new_volatile-requires c =
    let q = c.args.q in
    ready_as c.args.s.now q (new_volatile q.p q.o) (step_volatile q c.in-7.is) c.requires.1

pub returns-in-7 : goal.returns-in-7
returns-in-7 c =
    let q = c.args.q in
    done_as c.args.s.now q (new_volatile q.p q.o) (step_volatile q c.in-7.is) _ _ c.new_volatile.ensures

pub release-requires : goal.release-requires
release-requires c =
    (c.requires.0.long, c.requires.0.asked.object)

pub returns-in_default : goal.returns-in_default
returns-in_default c =
    let q = c.args.q in
    released c.args.s.now q (step_leaves q c.requires.0.asked (λ e. omega (arith, e)) (λ e. omega (arith, e)) (λ e. omega (arith, e))
    (λ e. omega (arith, e)) (λ e. omega (arith, e)) (λ e. omega (arith, e)) (λ e. omega (arith, e))) _ _ c.release.ensures
