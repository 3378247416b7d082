-- Guarded files, from the policy and the accepted steps alone (change request No. 9, "Stop it instead").
use Rattle.std.specs.Prelude.{ℕ, Bool, true, false, cond, ◌&&◌, ◌||◌, eqb}
use Rattle.std.proofs.Math.Option.{Option, none, some}
use Rattle.std.proofs.Math.ListN.{get_elem?}
use Rattle.image.specs.Limits.{is_guarded}
use Rattle.image.specs.Policy.{Container, Policy}
use Rattle.chains.specs.History.{Step, read, write, append, exec, fork, new_file, new_volatile, end, delete, History, start, ◌▸◌, receiver}

abbrev pub guarded_file : Option Container → Bool
guarded_file none = false
guarded_file (some K) = is_guarded K.kind

-- "Kind 4 .. is a guarded file": one of the image, until it is deleted. Code 6 makes a plain file, so that whatever takes the number is
-- not guarded.
abbrev pub guarded : Policy → History → ℕ → Bool
guarded P start c = guarded_file (get_elem? P.containers c)
guarded P (h ▸ read p o) c = guarded P h c
guarded P (h ▸ write p o) c = guarded P h c
guarded P (h ▸ append p o) c = guarded P h c
guarded P (h ▸ exec p o u) c = guarded P h c
guarded P (h ▸ fork p o) c = cond (eqb c o) false (guarded P h c)
guarded P (h ▸ new_file p o u) c = cond (eqb c o) false (guarded P h c)
guarded P (h ▸ new_volatile p o) c = cond (eqb c o) false (guarded P h c)
guarded P (h ▸ end p) c = cond (eqb c p) false (guarded P h c)
guarded P (h ▸ delete p o) c = cond (eqb c o) false (guarded P h c)

-- "A write or append into it"
abbrev pub writing : Step → Bool
writing (read p o) = false
writing (write p o) = true
writing (append p o) = true
writing (exec p o u) = false
writing (fork p o) = false
writing (new_file p o u) = false
writing (new_volatile p o) = false
writing (end p) = false
writing (delete p o) = false

-- some write or append of the history went into c
abbrev pub written_into : History → ℕ → Bool
written_into start c = false
written_into (h ▸ s) c = (eqb c (receiver s) && writing s) || written_into h c
