-- The row that an accepted step puts passes the row test of the session, and reads back as it was put.
use Prim.Native.Nat.{ℕ, ◌≤◌, ◌<◌}
use native.Mathlib.Omega.{arith}
use mathlib.Core.Path.{◌≡◌, refl, subst}
use mathlib.Core.Bool.{true}
use mathlib.Core.List.{List, [], ◌∷◌}
use lib.Dec.{eqb}
use lib.ListN.{length, get_or, drop, length-take, length-drop}
use borrow.Author.Tests.{lt-ltb}
use Rattle.image.proofs.KindLaws.{is_process_lem}
use Rattle.rules.specs.Sets.{atom}
use Rattle.lists.specs.Lists.{every}
use Rattle.lists.proofs.Bools.{and_0, and_in, or_1}
use Rattle.rules.specs.Rules.{normal, meet, intersections, unrestricted}
use Rattle.rules.specs.Answers.{mixture_limit, padded}
use Rattle.rules.proofs.RuleLaws.{normal_normal}
use Rattle.rules.proofs.MeetAll.{normal_one}
use Rattle.image.specs.Limits.{user_limit, file_kind, volatile_kind, process_kind, is_free, used_kind, kind_in}
use Rattle.image.specs.Policy.{unrestricted_rule}
use Rattle.rule_words.specs.Words.{rule_width, rule_of, words_of, all_zero}
use Rattle.session.specs.Limits.{row_width, permit_at, nobody}
use Rattle.session.specs.Rows.{Row, row_of, row_words, permit_words, run_words, behalf_good, container_row_good, InUse, user_row}
use Rattle.session.proofs.RowMeaning.{nobody_good, row_length, row_words_lem, row_good, good_declared}
use Rattle.chains.specs.History.{Step, read, write, append, exec, fork, new_file, new_volatile, end, delete}
use Rattle.chains.specs.Table.{free_row, read_row, write_row, append_row, exec_row, fork_row, new_file_row, new_volatile_row, rule_or, entry, fits, meet_good}
use Rattle.operations.specs.View.{view}
use Rattle.operations.specs.EarlyTests.{Ready, UsedAt, DeclaredAt}
use Rattle.operations.proofs.ViewLaws.{view_row, view_user}
use Rattle.operations.proofs.ReadyLaws.{process_kind_lem, ready_process, ready_object, ready_user}
use Rattle.operations.proofs.RowSteps.{row_used, fits_short}

-- ---- rows that can be put: their numbers are a row of the session, read back as the row, and pass the row test

pub record Laid (w : Row) : Type 0 where
  pub long : length (row_words w) ≡ row_width
  pub said : row_of (row_words w) ≡ w
  pub good : container_row_good (row_words w) ≡ true

-- their permit rules have at most 8 mixtures
pub laid_short : (w : Row) → Laid w → length w.permit ≤ mixture_limit
unfolding row_of rule_of permit_words
laid_short w W =
    subst (λ (x : Row). length x.permit ≤ mixture_limit) W.said
    (short (row_words w))
  where
    short : (ws : List ℕ) → length (row_of ws).permit ≤ mixture_limit
    short ws = omega (arith, length-take (get_or (permit_words ws) 0 0) (drop 1 (permit_words ws)), length-drop 1 (permit_words ws), length-take rule_width (drop permit_at ws))

pub laid_used : (w : Row) → InUse w → Laid w
laid_used w W = record {
  long = row_length w W.permit_short W.run_short;
  said = row_words_lem w W.permit_short W.run_short;
  good = row_good w W;
}

pub laid_free : Laid free_row
unfolding free_row row_words row_of words_of padded rule_of permit_words run_words container_row_good is_free all_zero
laid_free = record { long = refl; said = refl; good = refl }

-- ---- rules

-- a rule that a row can have
record RuleKept (r : List ℕ) : Type 0 where
  short : length r ≤ mixture_limit
  normalised : normal r ≡ r

meet_kept : (r s : List ℕ) → fits (meet r s) ≡ true → RuleKept (meet r s)
unfolding meet
meet_kept r s e = record { short = fits_short (normal (intersections r s)) e; normalised = normal_normal (intersections r s) }

unrestricted_kept : RuleKept unrestricted_rule
unfolding unrestricted_rule unrestricted
unrestricted_kept = record { short = omega arith; normalised = normal_one _ }

made : (w : Row) → used_kind w.kind ≡ true → RuleKept w.permit → RuleKept w.run → behalf_good w.kind w.behalf ≡ true → Laid w
made w k p r b = laid_used w (record {
  used = k;
  permit_short = p.short;
  permit_normal = p.normalised;
  run_short = r.short;
  run_normal = r.normalised;
  behalf_kept = b;
})

-- a process may name any user's number
user_behalf : (k u : ℕ) → k ≡ process_kind → u < user_limit → behalf_good k u ≡ true
unfolding behalf_good
user_behalf k u e l = or_1 (eqb u nobody) _ (and_in (is_process_lem k e) (lt-ltb u user_limit l))

-- ---- the rows and rules that a step finds

module _ (s : List ℕ) where
  in_use : (c : ℕ) → UsedAt s c → InUse ((view s).row c)
  in_use c h = rw (view_row s c h.low) (row_used s c h)

  permit_rule : (c : ℕ) → UsedAt s c → RuleKept ((view s).row c).permit
  permit_rule c h = record { short = (in_use c h).permit_short; normalised = (in_use c h).permit_normal }

  run_rule : (c : ℕ) → UsedAt s c → RuleKept ((view s).row c).run
  run_rule c h = record { short = (in_use c h).run_short; normalised = (in_use c h).run_normal }

  user_rule : (u : ℕ) → DeclaredAt s u → RuleKept (rule_or ((view s).user u))
  user_rule u h =
      rw (view_user s u h.low, h.declared)
      (record { short = (good_declared (user_row s u) h.good h.declared).0; normalised = (good_declared (user_row s u) h.good h.declared).1 })

  met_kept : (r v : List ℕ) → every fits (meet r v ∷ []) ≡ true → RuleKept (meet r v)
  unfolding every
  met_kept r v e = meet_kept r v (and_0 (fits (meet r v)) true e)

  -- the row of the table, by its clauses
  pub entry_laid : (t : Step) → Ready s t → meet_good (view s) t ≡ true → Laid (entry (view s) t).row
  unfolding entry meet_good read_row write_row append_row exec_row fork_row new_file_row new_volatile_row used_kind kind_in atom
  entry_laid (read p o) h m =
      let up : UsedAt s p = ready_process s (read p o) h in
      made _ (in_use p up).used (permit_rule p up) (met_kept ((view s).row p).run ((view s).row o).run m) (in_use p up).behalf_kept
  entry_laid (write p o) h m =
      let uo : UsedAt s o = ready_object s (write p o) h refl in
      made _ (in_use o uo).used (permit_rule o uo) (run_rule p (ready_process s (write p o) h)) (in_use o uo).behalf_kept
  entry_laid (append p o) h m =
      let uo : UsedAt s o = ready_object s (append p o) h refl in
      made _ (in_use o uo).used (permit_rule o uo) (met_kept ((view s).row o).run ((view s).row p).run m) (in_use o uo).behalf_kept
  entry_laid (exec p o u) h m =
      made _ (in_use p (ready_process s (exec p o u) h)).used (met_kept ((view s).row o).run (rule_or ((view s).user u)) m)
      (run_rule o (ready_object s (exec p o u) h refl)) (user_behalf ((view s).row p).kind u (process_kind_lem s (exec p o u) h) (h.user u refl))
  entry_laid (fork p o) h m =
      let up : UsedAt s p = ready_process s (fork p o) h in
      made _ (in_use p up).used (permit_rule p up) (run_rule p up) (in_use p up).behalf_kept
  entry_laid (new_file p o u) h m = made _ refl (user_rule u (ready_user s (new_file p o u) h u refl)) unrestricted_kept (nobody_good file_kind)
  entry_laid (new_volatile p o) h m = made _ refl unrestricted_kept unrestricted_kept (nobody_good volatile_kind)
  entry_laid (end p) h m = laid_free
  entry_laid (delete p o) h m = laid_free
