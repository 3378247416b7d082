-- On whose behalf a process runs, from the accepted steps alone (change request No. 5, "Show on whose behalf a process runs").
use Rattle.std.specs.Prelude.{ℕ, cond, eqb}
use Rattle.session.specs.Limits.{nobody}
use Rattle.chains.specs.History.{
  read,
  write,
  append,
  exec,
  fork,
  new_file,
  new_volatile,
  end,
  delete,
  History,
  start,
  ◌▸◌,
}

-- "So far this is implied by the last exec": its user, through forks; nobody for an initial process, a file or a volatile
abbrev pub on_behalf : History → ℕ → ℕ
on_behalf start c = nobody
on_behalf (h ▸ read p o) c = on_behalf h c
on_behalf (h ▸ write p o) c = on_behalf h c
on_behalf (h ▸ append p o) c = on_behalf h c
on_behalf (h ▸ exec p o u) c = cond (eqb c p) u (on_behalf h c)
on_behalf (h ▸ fork p o) c = cond (eqb c o) (on_behalf h p) (on_behalf h c)
on_behalf (h ▸ new_file p o u) c = cond (eqb c o) nobody (on_behalf h c)
on_behalf (h ▸ new_volatile p o) c = cond (eqb c o) nobody (on_behalf h c)
on_behalf (h ▸ end p) c = cond (eqb c p) nobody (on_behalf h c)
on_behalf (h ▸ delete p o) c = cond (eqb c o) nobody (on_behalf h c)
