-- The kinds of containers: which tests pass together, and what a policy that an image can spell says of each container.
use Prim.Native.Nat.{ℕ, zero, suc, ◌^◌, ◌≤◌, ◌<◌}
use native.Mathlib.Omega.{arith}
use native.Mathlib.Decide.{ℕ_discrete}
use native.Mathlib.Nat.{lt_of_lt_of_le}
use mathlib.Core.Path.{◌≡◌, refl, sym, ap, ◌∙◌}
use mathlib.Core.Logic.{◌⊎◌, ◌≢◌, ⊎_elim}
use mathlib.Core.Bool.{Bool, true, false, cond, ◌&&◌, ◌||◌}
use mathlib.Core.Option.{some}
use lib.Dec.{eqb, ltb}
use lib.ListN.{length, get_elem?}
use lib.Pow.{pow_mono}
use borrow.Author.Tests.{eqb-true, eq-eqb, ne_eqb, ltb-true}
use Rattle.rules.specs.Answers.{data_width}
use Rattle.rules.specs.Sets.{atom}
use Rattle.rules.proofs.SetLaws.{atom_above, single_same, single_other}
use Rattle.lists.proofs.Bools.{and_in, and_0, and_1, or_0, or_1, or_cases, clash, refuted}
use Rattle.lists.proofs.Places.{every_at}
use Rattle.image.specs.Limits.{
  free_kind,
  file_kind,
  volatile_kind,
  process_kind,
  guarded_kind,
  last_kind,
  kind_in,
  free_kinds,
  file_kinds,
  store_kinds,
  process_kinds,
  used_kinds,
  is_free,
  is_guarded,
  is_file,
  is_volatile,
  is_process,
  is_store,
  used_kind,
  no_atom,
  unrestricted_number,
  size8,
}
use Rattle.image.specs.Policy.{Container, Policy, named, container_good, Sound}

-- ---- kind by kind: what holds of each of the kinds and of what is none of them

module _ (P : ℕ → Type 0) (frees : P free_kind) (files : P file_kind) (volatiles : P volatile_kind) (processes : P process_kind) (guardeds : P guarded_kind)
    (others : (k : ℕ) → last_kind < k → P k) where
  pub by_kind : (k : ℕ) → P k
  by_kind zero = frees
  by_kind (suc zero) = files
  by_kind (suc (suc zero)) = volatiles
  by_kind (suc (suc (suc zero))) = processes
  by_kind (suc (suc (suc (suc zero)))) = guardeds
  by_kind (suc (suc (suc (suc (suc k))))) = others (suc (suc (suc (suc (suc k))))) (omega arith)

-- ---- sets of kinds

-- a set of kinds has no other kind
pub other_kind : (kinds k : ℕ) → kinds < 2 ^ suc last_kind → last_kind < k → kind_in kinds k ≡ false
unfolding kind_in
other_kind m k l h = ap (λ (x : ℕ). eqb x 1) (atom_above m k (lt_of_lt_of_le l (pow_mono h)))

-- a set of one kind
single_kind : (a k : ℕ) → kind_in (2 ^ a) k ≡ eqb k a
unfolding kind_in
single_kind a k = by (ℕ_discrete k a)
  where
    by : Dec (k ≡ a) → eqb (atom (2 ^ a) k) 1 ≡ eqb k a
    by (yes e) = rw (eq-eqb k a e, e, single_same a)
    by (no n) = rw (ne_eqb k a n, single_other a k n)

pub free_kinds_lem : (k : ℕ) → kind_in free_kinds k ≡ is_free k
unfolding is_free
free_kinds_lem k = single_kind free_kind k

pub process_kinds_lem : (k : ℕ) → kind_in process_kinds k ≡ is_process k
unfolding is_process
process_kinds_lem k = single_kind process_kind k

pub file_tests : (k : ℕ) → is_file k ≡ (eqb k file_kind || is_guarded k)
unfolding is_file is_guarded kind_in atom
file_tests =
    by_kind (λ k. kind_in file_kinds k ≡ (eqb k file_kind || eqb k guarded_kind)) refl refl refl refl refl
    (λ k h. other_kind file_kinds k (omega arith) h ∙ sym (simp (ne_eqb k file_kind (λ e. omega (arith, h, e)), ne_eqb k guarded_kind (λ e. omega (arith, h, e)))))

pub store_tests : (k : ℕ) → is_store k ≡ (is_file k || is_volatile k)
unfolding is_store is_file is_volatile kind_in atom
store_tests =
    by_kind (λ k. kind_in store_kinds k ≡ (kind_in file_kinds k || eqb k volatile_kind)) refl refl refl refl refl
    (λ k h. other_kind store_kinds k (omega arith) h ∙ sym (simp (other_kind file_kinds k (omega arith) h, ne_eqb k volatile_kind (λ e. omega (arith, h, e)))))

pub used_tests : (k : ℕ) → used_kind k ≡ (is_store k || is_process k)
unfolding used_kind is_store is_process kind_in atom
used_tests =
    by_kind (λ k. kind_in used_kinds k ≡ (kind_in store_kinds k || eqb k process_kind)) refl refl refl refl refl
    (λ k h. other_kind used_kinds k (omega arith) h ∙ sym (simp (other_kind store_kinds k (omega arith) h, ne_eqb k process_kind (λ e. omega (arith, h, e)))))

-- ---- what is used

-- what is of one of these kinds is used, unless a free row is
pub kind_used : (kinds k : ℕ) → kind_in kinds free_kind ≡ false → kind_in kinds k ≡ true → is_free k ≡ false
unfolding is_free
kind_used kinds k f h = ne_eqb k free_kind (λ e. clash h (ap (kind_in kinds) e ∙ f))

-- there is one kind of processes
pub process_is : (k : ℕ) → is_process k ≡ true → k ≡ process_kind
unfolding is_process
process_is k e = eqb-true k process_kind e

pub is_process_lem : (k : ℕ) → k ≡ process_kind → is_process k ≡ true
unfolding is_process
is_process_lem k e = eq-eqb k process_kind e

pub process_used : (k : ℕ) → is_process k ≡ true → is_free k ≡ false
unfolding is_free
process_used k e = ne_eqb k free_kind (λ z. omega (arith, process_is k e))

-- a process is not guarded
pub process_free : (k : ℕ) → is_process k ≡ true → is_guarded k ≡ false
unfolding is_guarded
process_free k e = ne_eqb k guarded_kind (λ z. omega (arith, z, process_is k e))

pub guarded_used : (k : ℕ) → is_guarded k ≡ true → is_free k ≡ false
unfolding is_guarded is_free
guarded_used k e = ne_eqb k free_kind (λ z. omega (arith, z, eqb-true k guarded_kind e))

pub file_used : (k : ℕ) → is_file k ≡ true → is_free k ≡ false
unfolding is_file kind_in atom
file_used k e = kind_used file_kinds k refl e

pub store_used : (k : ℕ) → is_store k ≡ true → is_free k ≡ false
unfolding is_store kind_in atom
store_used k e = kind_used store_kinds k refl e

pub used_free : (k : ℕ) → used_kind k ≡ true → is_free k ≡ false
unfolding used_kind kind_in atom
used_free k e = kind_used used_kinds k refl e

-- a used kind is one of the image
pub used_kind_lem : (k : ℕ) → used_kind k ≡ true → (1 ≤ k) × (k ≤ last_kind)
unfolding used_kind kind_in atom is_free
used_kind_lem k e = (low (ℕ_discrete k free_kind), high (native.Mathlib.Decide.dec_lt last_kind k))
  where
    low : Dec (k ≡ free_kind) → 1 ≤ k
    low (yes z) = clash (eq-eqb k free_kind z) (used_free k e)
    low (no n) = omega (arith, n)

    high : Dec (last_kind < k) → k ≤ last_kind
    high (yes l) = clash e (other_kind used_kinds k (omega arith) l)
    high (no n) = omega (arith, n)

-- what is no store is no file
pub not_file : (k : ℕ) → is_store k ≡ false → is_file k ≡ false
not_file k e = refuted (is_file k) (λ f. clash (store_tests k ∙ or_0 (is_file k) (is_volatile k) f) e)

pub file_known : (k : ℕ) → is_file k ≡ true → used_kind k ≡ true
file_known k e = used_tests k ∙ or_0 (is_store k) (is_process k) (store_tests k ∙ or_0 (is_file k) (is_volatile k) e)

pub other_known : (k : ℕ) → (is_volatile k || is_process k) ≡ true → used_kind k ≡ true
other_known k h =
    used_tests k
    ∙ ⊎_elim (λ e. or_0 (is_store k) (is_process k) (store_tests k ∙ or_1 (is_file k) (is_volatile k) e)) (λ e. or_1 (is_store k) (is_process k) e) (or_cases (is_volatile k) h)

-- a record of the shape that an image asks for: a file with x, or a volatile or process with y
pub shape_known : (k : ℕ) (x y : Bool) → cond (is_file k) x ((is_volatile k || is_process k) && y) ≡ true → used_kind k ≡ true
shape_known k x y = by (is_file k) refl
  where
    by : (b : Bool) → is_file k ≡ b → cond b x ((is_volatile k || is_process k) && y) ≡ true → used_kind k ≡ true
    by true f h = file_known k f
    by false f h = other_known k (and_0 (is_volatile k || is_process k) y h)

-- ---- a container of an image that is accepted

pub container_known : (n : ℕ) (K : Container) → container_good n K ≡ true → used_kind K.kind ≡ true
unfolding container_good
container_known n K h =
    shape_known K.kind ((ltb K.atom data_width || eqb K.atom no_atom) && (named n K.permit && named n K.run))
    (eqb K.atom no_atom && (eqb K.permit unrestricted_number && eqb K.run unrestricted_number)) h

-- the record of a file is accepted by its atom and its rules, and that of a process
pub file_accepted : (n a p r : ℕ) → (ltb a data_width || eqb a no_atom) ≡ true → named n p ≡ true → named n r ≡ true
    → container_good n (record { kind = file_kind; atom = a; permit = p; run = r }) ≡ true
unfolding container_good is_file kind_in atom
file_accepted n a p r h k l = and_in h (and_in k l)

pub process_accepted : (n : ℕ) → container_good n (record { kind = process_kind; atom = no_atom; permit = unrestricted_number; run = unrestricted_number }) ≡ true
unfolding container_good is_file kind_in atom is_volatile is_process
process_accepted n = refl

-- its kind is one byte
pub kind_low : (n : ℕ) (K : Container) → container_good n K ≡ true → K.kind < 256 ^ size8
kind_low n K h = omega (arith, (used_kind_lem K.kind (container_known n K h)).1)

pub record Accepted (K : Container) : Type 0 where
  pub used : is_free K.kind ≡ false
  pub names : K.atom ≢ no_atom → (is_file K.kind ≡ true) × (K.atom < data_width)
  pub plain : is_file K.kind ≡ false → (K.permit ≡ unrestricted_number) × (K.run ≡ unrestricted_number)

container_accepted : (n : ℕ) (K : Container) → container_good n K ≡ true → Accepted K
unfolding container_good
container_accepted n K = λ g. on (used_free K.kind (container_known n K g)) (is_file K.kind) refl g
  where
    atom_test : Bool
    atom_test = ltb K.atom data_width || eqb K.atom no_atom

    names_test : Bool
    names_test = named n K.permit && named n K.run

    kind_test : Bool
    kind_test = is_volatile K.kind || is_process K.kind

    rules_test : Bool
    rules_test = eqb K.permit unrestricted_number && eqb K.run unrestricted_number

    on : is_free K.kind ≡ false → (b : Bool) → is_file K.kind ≡ b
        → cond b (atom_test && names_test) (kind_test && (eqb K.atom no_atom && rules_test)) ≡ true → Accepted K
    on u true f g =
        let a : (ltb K.atom data_width ≡ true) ⊎ (eqb K.atom no_atom ≡ true) = or_cases (ltb K.atom data_width) (and_0 atom_test names_test g) in
        record {
          used = u;
          names = λ ne. (f, ⊎_elim (λ l. ltb-true K.atom data_width l) (λ e. absurd (ne (eqb-true K.atom no_atom e))) a);
          plain = λ e. clash f e;
        }
    on u false f g =
        let a : K.atom ≡ no_atom = eqb-true K.atom no_atom (and_0 (eqb K.atom no_atom) rules_test (and_1 kind_test g)) in
        let r : rules_test ≡ true = and_1 (eqb K.atom no_atom) (and_1 kind_test g) in
        record {
          used = u;
          names = λ ne. absurd (ne a);
          plain = λ e. (
            eqb-true K.permit unrestricted_number (and_0 (eqb K.permit unrestricted_number) (eqb K.run unrestricted_number) r),
            eqb-true K.run unrestricted_number (and_1 (eqb K.permit unrestricted_number) r),
          );
        }

-- each container of a policy that an image can spell
pub sound_at : (P : Policy) → Sound P → (c : ℕ) (K : Container) → get_elem? P.containers c ≡ some K → Accepted K
sound_at P ok c K e =
    container_accepted (length P.rules) K
    (every_at (container_good (length P.rules)) P.containers c K ok.containers_good e)
