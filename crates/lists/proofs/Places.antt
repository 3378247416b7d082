-- What holds of each of a list holds of the one at a place; a place of a mapped list.
use Prim.Native.Nat.{ℕ, zero, suc, ◌<◌}
use native.Mathlib.Omega.{arith}
use mathlib.Core.Path.{◌≡◌, refl, subst}
use mathlib.Core.Bool.{Bool, true}
use mathlib.Core.List.{List, [], ◌∷◌, map}
use mathlib.Core.Option.{Option, none, some}
use lib.ListN.{length, get_or, get_elem?}
use Rattle.lists.proofs.Bools.{and_0, and_1}
use Rattle.lists.specs.Lists.{every}

pub some_inj : {A : Type 0} {a b : A} → some a ≡ some b → a ≡ b
some_inj e = cc

pub none_some : {A : Type 0} {a : A} → ◌≡◌ {A = Option A} none (some a) → ⊥
none_some e = let z : ◌≡◌ {A = ℕ} 0 1 = cc in omega arith

pub every_at : {A : Type 0} (f : A → Bool) (l : List A) (c : ℕ) (x : A) → every f l ≡ true → get_elem? l c ≡ some x → f x ≡ true
unfolding every
every_at f [] c x t e = absurd (none_some e)
every_at f (y ∷ l) zero x t e = subst (λ z. f z ≡ true) (some_inj e) (and_0 (f y) (every f l) t)
every_at f (y ∷ l) (suc c) x t e = every_at f l c x (and_1 (f y) t) e

-- the same of what may stand there
abbrev pub mapped : {A B : Type 0} → (A → B) → Option A → Option B
mapped f none = none
mapped f (some x) = some (f x)

pub mapped_at : {A B : Type 0} (f : A → B) (l : List A) (c : ℕ) → get_elem? (map f l) c ≡ mapped f (get_elem? l c)
mapped_at f [] c = refl
mapped_at f (x ∷ l) zero = refl
mapped_at f (x ∷ l) (suc c) = mapped_at f l c

pub map_at : {A B : Type 0} (f : A → B) (l : List A) (n : ℕ) (d : A) (e : B) → n < length l → get_or (map f l) n e ≡ f (get_or l n d)
map_at f [] n d e h = absurd (omega arith)
map_at f (x ∷ l) zero d e h = refl
map_at f (x ∷ l) (suc n) d e h = map_at f l n d e (omega arith)
