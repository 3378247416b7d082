-- A fact of each kind of step is a fact of every step.
use Prim.Native.Nat.{ℕ}
use Rattle.chains.specs.History.{Step, read, write, append, exec, fork, new_file, new_volatile, end, delete}

pub each_step : (A : Step → Type 0) → ((p o : ℕ) → A (read p o)) → ((p o : ℕ) → A (write p o)) → ((p o : ℕ) → A (append p o)) → ((p o u : ℕ) → A (exec p o u))
    → ((p o : ℕ) → A (fork p o)) → ((p o u : ℕ) → A (new_file p o u)) → ((p o : ℕ) → A (new_volatile p o)) → ((p : ℕ) → A (end p))
    → ((p o : ℕ) → A (delete p o)) → (s : Step) → A s
each_step A r w a e f n v x d (read p o) = r p o
each_step A r w a e f n v x d (write p o) = w p o
each_step A r w a e f n v x d (append p o) = a p o
each_step A r w a e f n v x d (exec p o u) = e p o u
each_step A r w a e f n v x d (fork p o) = f p o
each_step A r w a e f n v x d (new_file p o u) = n p o u
each_step A r w a e f n v x d (new_volatile p o) = v p o
each_step A r w a e f n v x d (end p) = x p
each_step A r w a e f n v x d (delete p o) = d p o
