-- What a step that is not refused by 10 to 14 or 18 finds: the rows of p, o and u.
use Prim.Native.Nat.{ℕ}
use mathlib.Core.Path.{◌≡◌, refl, sym, ap, ◌∙◌}
use mathlib.Core.Bool.{Bool, true, false, cond, ◌&&◌}
use mathlib.Core.List.{List}
use mathlib.Core.Option.{some, none}
use Rattle.rules.specs.Sets.{atom}
use Rattle.lists.specs.Lists.{elem}
use Rattle.lists.specs.Conditions.{AllHold, first_failed, numbers_of, numbers_distinct}
use Rattle.lists.proofs.Bools.{and_0, and_1, clash}
use Rattle.lists.proofs.Conditions.{given_none}
use Rattle.image.specs.Limits.{process_kind, is_process, kind_in, free_kind}
use Rattle.session.specs.Rows.{Row, row_of, user_rule_of, container_row, user_row, container_row_good, is_declared}
use Rattle.chains.specs.History.{Step, read, write, append, exec, fork, new_file, new_volatile, end, delete}
use Rattle.chains.specs.Table.{State, needs_free, entry, is_some, process_good, object_good, kind_good, free_good, user_good, early_conditions}
use Rattle.chains.proofs.TableStates.{either_way}
use Rattle.image.proofs.KindLaws.{kind_used, process_used, process_is}
use Rattle.operations.specs.View.{view}
use Rattle.operations.specs.Effects.{user_named_good, rows_good}
use Rattle.operations.specs.EarlyTests.{first_conditions, Ready, UsedAt, DeclaredAt}
use Rattle.operations.proofs.ViewLaws.{view_row, view_user}

-- ---- the tests one by one

pub record Tests (s : List ℕ) (t : Step) : Type 0 where
  pub rows : rows_good s t ≡ true
  pub process : process_good (view s) t ≡ true
  pub object : object_good (view s) t ≡ true
  pub user : user_good (view s) t ≡ true

pub tests : (s : List ℕ) (t : Step) → first_failed (first_conditions s t) ≡ 0 → Tests s t
tests s t e = of ((given_none (first_conditions s t) numbers).0 e)
  where
    numbers : numbers_distinct (numbers_of (first_conditions s t)) ≡ true
    numbers = unfold first_conditions early_conditions numbers_of numbers_distinct elem in refl

    of : AllHold (first_conditions s t) → Tests s t
    of = unfold first_conditions early_conditions in (λ h. record {
      rows = h.0;
      process = h.1.0;
      object = either_way (needs_free (entry (view s) t).need) (object_good (view s) t) (unfold kind_good in h.1.1.0) (unfold free_good in h.1.1.1.0);
      user = h.1.1.1.1.0;
    })

-- a step that needs no free row is served by none
need_used : (σ : State) (t : Step) → needs_free (entry σ t).need ≡ false → kind_in (entry σ t).need free_kind ≡ false
unfolding entry kind_in atom
need_used σ (read p o) e = refl
need_used σ (write p o) e = refl
need_used σ (append p o) e = refl
need_used σ (exec p o u) e = refl
need_used σ (fork p o) e = clash refl e
need_used σ (new_file p o u) e = clash refl e
need_used σ (new_volatile p o) e = clash refl e
need_used σ (end p) e = refl
need_used σ (delete p o) e = refl

module _ (s : List ℕ) (t : Step) (h : Ready s t) where
  found : Tests s t
  found = tests s t h.passed

  process_row : container_row_good (container_row s (entry (view s) t).process) ≡ true
  unfolding rows_good
  process_row = and_0 (container_row_good (container_row s (entry (view s) t).process)) _ found.rows

  other_rows : (container_row_good (container_row s (entry (view s) t).object) && user_named_good s (entry (view s) t).user) ≡ true
  unfolding rows_good
  other_rows = and_1 (container_row_good (container_row s (entry (view s) t).process)) found.rows

  pub process_kind_lem : ((view s).row (entry (view s) t).process).kind ≡ process_kind
  unfolding process_good
  process_kind_lem = process_is ((view s).row (entry (view s) t).process).kind found.process

  pub ready_process : UsedAt s (entry (view s) t).process
  unfolding process_good row_of
  ready_process = record {
    long = h.long;
    low = h.process;
    good = process_row;
    used = process_used _ (ap (λ (w : Row). is_process w.kind) (sym (view_row s (entry (view s) t).process h.process)) ∙ found.process);
  }

  pub ready_object : needs_free (entry (view s) t).need ≡ false → UsedAt s (entry (view s) t).object
  unfolding object_good row_of
  ready_object n = record {
    long = h.long;
    low = h.object;
    good = and_0 (container_row_good (container_row s (entry (view s) t).object)) _ other_rows;
    used =
        kind_used (entry (view s) t).need _ (need_used (view s) t n)
        (ap (λ (w : Row). kind_in (entry (view s) t).need w.kind) (sym (view_row s (entry (view s) t).object h.object)) ∙ found.object);
  }

  pub ready_user : (u : ℕ) → (entry (view s) t).user ≡ some u → DeclaredAt s u
  unfolding user_good
  ready_user u e = record {
    long = h.long;
    low = h.user u e;
    good = rw e at (and_1 (container_row_good (container_row s (entry (view s) t).object)) other_rows);
    declared = by (is_declared (user_row s u)) (rw (e, view_user s u (h.user u e)) at found.user);
  }
    where
      by : (b : Bool) → is_some (cond b (some (user_rule_of (user_row s u))) none) ≡ true → b ≡ true
      by true k = refl
      by false k = k
