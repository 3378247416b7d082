-- `confinement::write_tables`. The policy of the tables is that of their profiles, which the writer takes (`tables_tabled`).
use borrow.Author.Rules.{rules}
use native.Mathlib.Omega.{arith}
use Rattle.confinement.specs.Confinement.{initial_process}
use Rattle.confinement.proofs.TablePolicy.{own_less}
use Rattle.confinement.proofs.DeriveLaws.{forms_as, rule_lent, over_limit, files_end_at, containers_end, tables_tabled, tables_written}
use Rattle.confinement.proofs.write_tables.Goals as goal

pub put_mixtures-requires : goal.put_mixtures-requires
put_mixtures-requires c =
    let t = c.requires.0.tables in (
      t.few,
      t.programs.few,
      search rules,
      t.programs.own_long,
      t.programs.modes_long,
      own_less c.requires.0.profiles c.args.own.now c.args.modes.now c.args.n c.args.m c.requires.0.tables,
    )

pub returns-then-not-put_rules : goal.returns-then-not-put_rules
returns-then-not-put_rules c =
    over_limit c.args.own.now c.args.modes.now c.args.n c.args.m (forms_as (rule_lent c.args.own.now c.args.modes.now _
    c.args.n c.args.m c.put_mixtures.ensures)
    c.put_rules.ensures) c.if-not-put_rules.true _

pub put_container_record-end-requires : goal.put_container_record-end-requires
put_container_record-end-requires c =
    omega (
      arith,
      c.requires.0.tables.few,
      files_end_at c.requires.0.profiles c.args.own.now c.args.modes.now c.args.n c.args.m
          c.requires.0.tables c.put_files-process.ensures,
    )

pub overflow_mul-w : goal.overflow_mul-w
overflow_mul-w c =
    omega (arith, c.requires.0.tables.few)

pub slice_bounds-write_policy-end : goal.slice_bounds-write_policy-end
unfolding initial_process
slice_bounds-write_policy-end c =
    omega (
      arith,
      c.requires.0.tables.few,
      containers_end c.requires.0.profiles c.args.own.now c.args.modes.now c.args.n c.args.m c.requires.0.tables
          c.put_files-process.ensures c.put_container_record-end.ensures,
    )

pub slice_bounds-write_policy-end-3 : goal.slice_bounds-write_policy-end-3
slice_bounds-write_policy-end-3 c =
    omega (arith, c.requires.0.tables.few)

pub write_policy-requires : goal.write_policy-requires
unfolding initial_process
write_policy-requires c = (
  tables_tabled c.requires.0.profiles c.args.own.now c.args.modes.now c.args.n c.args.m c.requires.0.tables
      c.put_files-process.ensures c.put_container_record-end.ensures c.put16.ensures (search rules)
      (forms_as (rule_lent c.args.own.now c.args.modes.now _ c.args.n c.args.m c.put_mixtures.ensures)
      c.put_rules.ensures) c.if-not-put_rules.false,
  c.requires.1,
)

pub returns : goal.returns
unfolding initial_process
returns c =
    tables_written c.requires.0.profiles c.args.own.now c.args.modes.now c.args.n c.args.m c.requires.0.tables
    c.put_files-process.ensures c.put_container_record-end.ensures c.put16.ensures (search rules)
    (forms_as (rule_lent c.args.own.now c.args.modes.now _ c.args.n c.args.m c.put_mixtures.ensures)
    c.put_rules.ensures) c.if-not-put_rules.false c.write_policy.ensures
