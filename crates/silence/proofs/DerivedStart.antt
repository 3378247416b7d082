-- The session that the derived policy starts.
use Prim.Native.Nat.{ℕ, zero, suc, ◌+◌, ◌^◌, ◌<◌}
use native.Mathlib.Omega.{arith}
use mathlib.Core.Path.{◌≡◌, refl, sym, subst, ap, ◌∙◌}
use mathlib.Core.Bool.{true}
use mathlib.Core.List.{List, ◌++◌, map}
use mathlib.Core.Option.{some}
use lib.Dec.{eqb}
use lib.ListN.{length, get_elem?, replicate}
use native.Mathlib.Decide.{ℕ_discrete}
use native.Mathlib.Nat.{zero-div}
use borrow.Author.Tests.{eq-eqb, ne_eqb}
use Rattle.lists.proofs.Bools.{or_0}
use Rattle.rules.specs.Sets.{atom}
use Rattle.rules.proofs.SetLaws.{single_same, single_other}
use Rattle.image.specs.Limits.{no_atom}
use Rattle.image.specs.Policy.{Policy}
use Rattle.image.specs.Normal.{Place, process_place, Meaning, normal_policy}
use Rattle.session.specs.Rows.{Row}
use Rattle.session.specs.Session.{start_row, start_tag}
use Rattle.matrix.specs.Flows.{granted, step, Composed}
use Rattle.matrix.proofs.GoodLaws.{Good}
use Rattle.lists.specs.Counting.{count_from}
use Rattle.derivation.specs.Derived.{derived_policy}
use Rattle.derivation.proofs.DerivedLaws.{file_place, derived_means}
use Rattle.chains.specs.Table.{start_row_of, begin}
use Rattle.silence.proofs.HeldSources.{Holding, ObjectRow, SubjectRow}
use Rattle.silence.proofs.GatherLaws.{Owning}

pub file_at : (f : ℕ → Place) (k n b : ℕ) (rest : List Place) → b < n → get_elem? (map f (count_from k n) ++ rest) b ≡ some (f (k + b))
unfolding count_from
file_at f k zero b rest l = absurd (omega arith)
file_at f k (suc n) zero rest l = let e : k ≡ k + 0 = omega arith in ap (λ (x : ℕ). some (f x)) e
file_at f k (suc n) (suc b) rest l = let e : suc k + b ≡ k + suc b = omega arith in file_at f (suc k) n b rest (omega arith) ∙ ap (λ (x : ℕ). some (f x)) e

copies : {A : Type 0} (m s : ℕ) (p : A) → s < m → get_elem? (replicate m p) s ≡ some p
copies zero s p l = absurd (omega arith)
copies (suc m) zero p l = refl
copies (suc m) (suc s) p l = copies m s p (omega arith)

process_at : (f : ℕ → Place) (k n s m : ℕ) (p : Place) → s < m → get_elem? (map f (count_from k n) ++ replicate m p) (n + s) ≡ some p
unfolding count_from
process_at f k zero s m p l = let e : 0 + s ≡ s = omega arith in rw e (copies m s p l)
process_at f k (suc n) s m p l = let e : suc n + s ≡ suc (n + s) = omega arith in rw e (process_at f (suc k) n s m p l)

module _ (reads writes : List ℕ) (n : ℕ) (g : Good reads writes n) where
  abbrev P : Policy
  P = normal_policy (derived_policy reads writes n)

  object_row : (b : ℕ) → b < n → (begin P).row b ≡ start_row (file_place reads writes b)
  unfolding begin
  object_row b l =
      ap (λ (m : Meaning). start_row_of (get_elem? m.places b)) (derived_means reads writes n g)
      ∙ ap start_row_of (file_at (file_place reads writes) 0 n b (replicate (length reads) process_place) l ∙ ap (λ (x : ℕ). some (file_place reads writes x)) (let e : 0 + b ≡ b = omega arith in e))

  subject_row : (s : ℕ) → s < length reads → (begin P).row (n + s) ≡ start_row process_place
  unfolding begin
  subject_row s l =
      ap (λ (m : Meaning). start_row_of (get_elem? m.places (n + s))) (derived_means reads writes n g)
      ∙ ap start_row_of (process_at (file_place reads writes) 0 n s (length reads) process_place l)

  own_tag : (b : ℕ) → b < n → start_tag b ≡ 2 ^ b
  unfolding start_tag
  own_tag b l = rw (ne_eqb b no_atom (λ e. omega (arith, g.few))) refl

  begin_object : (b : ℕ) → b < n → ObjectRow reads writes n b (start_row (file_place reads writes b))
  unfolding start_row
  begin_object b l = record {
    kind = refl;
    permit = refl;
    run = refl;
    sources = λ k e. only k (by k (ℕ_discrete k b) (subst (λ (t : ℕ). atom t k ≡ 1) (own_tag b l) e));
  }
    where
      by : (k : ℕ) → Dec (k ≡ b) → atom (2 ^ b) k ≡ 1 → k ≡ b
      by k (yes q) e = q
      by k (no q) e = absurd (omega (arith, e, single_other b k q))

      itself : granted reads writes b b ≡ true
      itself = unfold granted in or_0 (eqb b b) _ (eq-eqb b b refl)

      only : (k : ℕ) → k ≡ b → Composed reads writes n k b
      only k q = subst (λ (x : ℕ). Composed reads writes n x b) (sym q) (step l l itself)

  begin_subject : (s : ℕ) → SubjectRow reads writes n s (start_row process_place)
  unfolding start_row start_tag
  begin_subject s = record {
    kind = refl;
    permit = refl;
    run = refl;
    sources = λ k e. absurd (nothing k e);
  }
    where
      nothing : (k : ℕ) → atom 0 k ≡ 1 → ⊥
      nothing k e = unfold atom in omega (arith, e, zero-div (2 ^ k))

  pub begin_holding : Holding reads writes n (begin P)
  begin_holding = record {
    object = λ b l. subst (ObjectRow reads writes n b) (sym (object_row b l)) (begin_object b l);
    subject = λ s l. subst (SubjectRow reads writes n s) (sym (subject_row s l)) (begin_subject s);
  }

  pub begin_owning : Owning reads writes n g.even g.few (begin P)
  begin_owning b l = subst (λ (w : Row). atom w.tag b ≡ 1) (sym (object_row b l)) (unfold start_row in subst (λ (t : ℕ). atom t b ≡ 1) (sym (own_tag b l)) (single_same b))
