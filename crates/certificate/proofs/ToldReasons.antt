-- What is told of each kind of reason.
use Prim.Native.Nat.{ℕ, ◌-◌, ◌<◌}
use native.Mathlib.Omega.{arith}
use mathlib.Core.Path.{◌≡◌, sym, ap, ◌∙◌}
use lib.ListN.{get_elem?}
use borrow.Author.Tests.{eq-eqb, ne_eqb}
use Rattle.image.specs.Limits.{container_limit, unrestricted_number}
use Rattle.image.specs.Policy.{Policy}
use Rattle.witness.specs.Found.{Found}
use Rattle.certificate.specs.declared.Told.{Told}
use Rattle.certificate.specs.Whys.{permit_of, run_of, user_number, no_reason, own_reason, user_reason, own_origin, run_origin}
use Rattle.certificate.specs.Marks.{told_of, run_told}

-- with no chain the place behind the buffer
no_chain : (room : ℕ) → room ≡ room - 0
no_chain room = omega arith

pub told_nothing : (room : ℕ) → record { kind = own_origin; at = 0; holder = 0; rule = unrestricted_number; first = room } ≡ told_of room no_reason
told_nothing room = ap (λ (f : ℕ). record { kind = own_origin; at = 0; holder = 0; rule = unrestricted_number; first = f }) (no_chain room)

pub told_own : (P : Policy) (c room : ℕ) {n : ℕ} → n ≡ permit_of (get_elem? P.containers c)
    → record { kind = own_origin; at = 0; holder = c; rule = n; first = room } ≡ told_of room (own_reason P c)
told_own P c room {n} e = rw e (ap (λ (f : ℕ). record { kind = own_origin; at = 0; holder = c; rule = permit_of (get_elem? P.containers c); first = f }) (no_chain room))

pub told_user : (P : Policy) (kind at u room : ℕ) {n : ℕ} → n ≡ user_number P u
    → record { kind = kind; at = at; holder = u; rule = n; first = room } ≡ told_of room (user_reason P kind at u)
told_user P kind at u room {n} e = rw e (ap (λ (f : ℕ). record { kind = kind; at = at; holder = u; rule = user_number P u; first = f }) (no_chain room))

module _ (P : Policy) (n : ℕ) (f : Found) where
  pub found_none : {r : Told} → f.file ≡ container_limit → r ≡ told_of f.first no_reason → r ≡ run_told P n f
  unfolding run_told
  found_none {r} e h = rw (eq-eqb f.file container_limit e) (h ∙ sym (told_nothing f.first))

  pub found_file : {file m : ℕ} → f.file ≡ file → file < container_limit → m ≡ run_of (get_elem? P.containers file)
      → record { kind = run_origin; at = n; holder = file; rule = m; first = f.first } ≡ run_told P n f
  unfolding run_told
  found_file {file} {m} e l em = rw (ne_eqb f.file container_limit (λ z. absurd (omega (arith, e, l, z))), em, e)
