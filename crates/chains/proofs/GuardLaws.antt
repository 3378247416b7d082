-- Guarded files (change request No. 9): which rows are guarded, and what these hold.
use Prim.Native.Nat.{ℕ}
use mathlib.Core.Path.{◌≡◌, refl, sym, ◌∙◌}
use mathlib.Core.Logic.{◌≢◌}
use mathlib.Core.Bool.{true, false}
use mathlib.Core.Option.{Option, none, some}
use lib.ListN.{get_elem?}
use borrow.Author.Tests.{eq-eqb, ne_eqb, not-false}
use Rattle.lists.proofs.Bools.{clash}
use Rattle.lists.proofs.Places.{mapped, mapped_at}
use Rattle.rules.specs.Rules.{covers}
use Rattle.image.specs.Limits.{is_guarded}
use Rattle.image.specs.Policy.{Container, Policy}
use Rattle.image.specs.Normal.{place_of, meaning}
use Rattle.session.specs.Rows.{Row}
use Rattle.session.specs.Session.{start_row}
use Rattle.chains.specs.History.{Step, read, write, append, exec, fork, new_file, new_volatile, end, delete, History, start, ◌▸◌, receiver}
use Rattle.chains.specs.Guards.{guarded_file, guarded, writing, written_into}
use Rattle.chains.specs.Demand.{judged}
use Rattle.chains.specs.Table.{State, free_row, read_row, write_row, append_row, exec_row, fork_row, new_file_row, new_volatile_row, entry, process_good, object_good, alerts, blocks}
use Rattle.chains.specs.Table.{start_row_of, begin}
use Rattle.image.proofs.KindLaws.{process_free, guarded_used, free_kinds_lem}
use Rattle.chains.proofs.TableStates.{Passed}

-- the row w of container c is guarded as the history says; if it is, its permit rule covers what was written into it, or nothing was
pub record Guarding (P : Policy) (h : History) (c : ℕ) (w : Row) : Type 0 where
  pub guards : is_guarded w.kind ≡ guarded P h c
  pub covered : guarded P h c ≡ true → written_into h c ≡ true → covers w.permit w.tag ≡ true
  pub first : guarded P h c ≡ true → written_into h c ≡ false → w.tag ≡ ((begin P).row c).tag

-- ---- the start

module _ (P : Policy) (c : ℕ) where
  start_guards : (m : Option Container) → is_guarded (start_row_of (mapped (place_of P.rules) m)).kind ≡ guarded_file m
  unfolding free_row start_row place_of is_guarded
  start_guards none = refl
  start_guards (some K) = refl

  pub guarding_start : Guarding P start c ((begin P).row c)
  unfolding begin meaning
  guarding_start = record {
    guards = rw (mapped_at (place_of P.rules) P.containers c) (start_guards (get_elem? P.containers c));
    covered = λ g w. clash w refl;
    first = λ g w. refl;
  }

-- ---- only the receiver is concerned

module _ (P : Policy) (h : History) where
  guarded_other : (s : Step) (c : ℕ) → c ≢ receiver s → guarded P (h ▸ s) c ≡ guarded P h c
  guarded_other (read p o) c ne = refl
  guarded_other (write p o) c ne = refl
  guarded_other (append p o) c ne = refl
  guarded_other (exec p o u) c ne = refl
  guarded_other (fork p o) c ne = rw (ne_eqb c o ne)
  guarded_other (new_file p o u) c ne = rw (ne_eqb c o ne)
  guarded_other (new_volatile p o) c ne = rw (ne_eqb c o ne)
  guarded_other (end p) c ne = rw (ne_eqb c p ne)
  guarded_other (delete p o) c ne = rw (ne_eqb c o ne)

  written_other : (s : Step) (c : ℕ) → c ≢ receiver s → written_into (h ▸ s) c ≡ written_into h c
  written_other s c ne = rw (ne_eqb c (receiver s) ne)

  pub guarding_other : (s : Step) (c : ℕ) (w : Row) → c ≢ receiver s → Guarding P h c w → Guarding P (h ▸ s) c w
  guarding_other s c w ne g = record {
    guards = g.guards ∙ sym (guarded_other s c ne);
    covered = λ q k. g.covered (sym (guarded_other s c ne) ∙ q) (sym (written_other s c ne) ∙ k);
    first = λ q k. g.first (sym (guarded_other s c ne) ∙ q) (sym (written_other s c ne) ∙ k);
  }

-- ---- the row that a step puts

-- a guarded one is put by a write or an append alone
pub guarded_written : (σ : State) (s : Step) → Passed σ s → is_guarded (entry σ s).row.kind ≡ true → writing s ≡ true
unfolding entry read_row exec_row fork_row new_file_row new_volatile_row free_row process_good is_guarded
guarded_written σ (read p o) g e = clash e (process_free (σ.row p).kind g.process)
guarded_written σ (write p o) g e = refl
guarded_written σ (append p o) g e = refl
guarded_written σ (exec p o u) g e = clash e (process_free (σ.row p).kind g.process)
guarded_written σ (fork p o) g e = clash e (process_free (σ.row p).kind g.process)
guarded_written σ (new_file p o u) g e = clash e refl
guarded_written σ (new_volatile p o) g e = clash e refl
guarded_written σ (end p) g e = clash e refl
guarded_written σ (delete p o) g e = clash e refl

pub writing_judged : (s : Step) → writing s ≡ true → judged s ≡ true
writing_judged (read p o) e = refl
writing_judged (write p o) e = refl
writing_judged (append p o) e = refl
writing_judged (exec p o u) e = refl
writing_judged (fork p o) e = refl
writing_judged (new_file p o u) e = clash e refl
writing_judged (new_volatile p o) e = clash e refl
writing_judged (end p) e = clash e refl
writing_judged (delete p o) e = clash e refl

-- a write and an append leave the kind
pub written_kind : (σ : State) (s : Step) → writing s ≡ true → (entry σ s).row.kind ≡ (σ.row (receiver s)).kind
unfolding entry write_row append_row
written_kind σ (read p o) e = clash e refl
written_kind σ (write p o) e = refl
written_kind σ (append p o) e = refl
written_kind σ (exec p o u) e = clash e refl
written_kind σ (fork p o) e = clash e refl
written_kind σ (new_file p o u) e = clash e refl
written_kind σ (new_volatile p o) e = clash e refl
written_kind σ (end p) e = clash e refl
written_kind σ (delete p o) e = clash e refl

module _ (P : Policy) (h : History) (σ : State) (G : (c : ℕ) → Guarding P h c (σ.row c)) where
  pub guards_next : (s : Step) → Passed σ s → is_guarded (entry σ s).row.kind ≡ guarded P (h ▸ s) (receiver s)
  unfolding entry read_row write_row append_row exec_row fork_row new_file_row new_volatile_row free_row process_good is_guarded
  guards_next (read p o) g = (G p).guards
  guards_next (write p o) g = (G o).guards
  guards_next (append p o) g = (G o).guards
  guards_next (exec p o u) g = (G p).guards
  guards_next (fork p o) g = rw (process_free (σ.row p).kind g.process, eq-eqb o o refl)
  guards_next (new_file p o u) g = rw (eq-eqb o o refl)
  guards_next (new_volatile p o) g = rw (eq-eqb o o refl)
  guards_next (end p) g = rw (eq-eqb p p refl)
  guards_next (delete p o) g = rw (eq-eqb o o refl)

  -- what is guarded stays so through the steps that are judged
  pub guarded_stays : (s : Step) → Passed σ s → judged s ≡ true → guarded P h (receiver s) ≡ true → guarded P (h ▸ s) (receiver s) ≡ true
  unfolding entry object_good
  guarded_stays (read p o) g j q = q
  guarded_stays (write p o) g j q = q
  guarded_stays (append p o) g j q = q
  guarded_stays (exec p o u) g j q = q
  guarded_stays (fork p o) g j q = clash (sym (free_kinds_lem (σ.row o).kind) ∙ g.object) (guarded_used (σ.row o).kind ((G o).guards ∙ q))
  guarded_stays (new_file p o u) g j q = clash j refl
  guarded_stays (new_volatile p o) g j q = clash j refl
  guarded_stays (end p) g j q = clash j refl
  guarded_stays (delete p o) g j q = clash j refl

  -- one that does not block leaves what the permit rule covers
  pub guarding_next : (s : Step) → Passed σ s → blocks s (entry σ s).row ≡ false → Guarding P (h ▸ s) (receiver s) (entry σ s).row
  guarding_next s g free = record {
    guards = guards_next s g;
    covered = λ q k. covered (guards_next s g ∙ q);
    first = λ q k. clash (written (guards_next s g ∙ q)) k;
  }
    where
      w : Row
      w = (entry σ s).row

      covered : is_guarded w.kind ≡ true → covers w.permit w.tag ≡ true
      covered q =
          unfold blocks alerts in (not-false (covers w.permit w.tag) (rw (q, writing_judged s (guarded_written σ s g q)) at free))

      written : is_guarded w.kind ≡ true → written_into (h ▸ s) (receiver s) ≡ true
      written q = rw (eq-eqb (receiver s) (receiver s) refl, guarded_written σ s g q)
