-- The operations on rows, as the table of the paper's section "Operations" has them; the start; and what makes a monitor
-- one that follows the table.
use Rattle.std.specs.Prelude.{ℕ, ◌≡◌, Bool, true, false, not, cond, ◌&&◌, ◌||◌, List, [], ◌∷◌, ◌++◌, eqb, leb, length}
use Rattle.std.proofs.Math.Option.{Option, none, some}
use Rattle.std.specs.Int.Bits.{bit_or}
use Rattle.std.proofs.Math.ListN.{get_elem?}
use Rattle.rules.specs.Sets.{data_of, running_of}
use Rattle.rules.specs.Rules.{covers, cover_place, meet}
use Rattle.rules.specs.Answers.{data_width, mixture_limit}
use Rattle.image.specs.Limits.{free_kind, file_kind, volatile_kind, kind_in, free_kinds, file_kinds, store_kinds, process_kinds, is_guarded, is_process}
use Rattle.image.specs.Policy.{Policy, unrestricted_rule}
use Rattle.image.specs.Normal.{Place, meaning}
use Rattle.lists.specs.Lists.{every}
use Rattle.lists.specs.Conditions.{Condition, ◌or_refuse◌, first_failed}
use Rattle.answers.specs.Refusals.{no_process, wrong_kind, not_free, not_declared, other_user, over_limit}
use Rattle.session.specs.Limits.{nobody}
use Rattle.session.specs.Rows.{Row}
use Rattle.session.specs.Session.{start_row}
use Rattle.chains.specs.History.{Step, read, write, append, exec, fork, new_file, new_volatile, end, delete, receiver}
use Rattle.answers.specs.declared.Answer.{Answer}
use Rattle.answers.specs.Answers.{refused, quiet, alert, blocked, is_refused}
use Rattle.chains.specs.Demand.{judged}

-- ---- rows

-- a row for each container number, and a rule for each user number that is declared
pub record State : Type 0 where
  pub row : ℕ → Row
  pub user : ℕ → Option (List ℕ)

-- "a free .. row is all 0"
unfoldable pub free_row : Row
free_row = record { kind = free_kind; tag = 0; permit = []; run = []; behalf = 0 }

-- ---- the column "effect": the receiver's row afterwards, from the rows of p and o and the rule of u; on whose behalf: "exec sets it
-- and fork copies it" (change request No. 5)

-- 1 read: "p's tag gains o's data atoms; p's run rule becomes its meet with o's"
unfoldable pub read_row : Row → Row → Row
read_row p o =
    record { kind = p.kind; tag = bit_or p.tag (data_of data_width o.tag); permit = p.permit; run = meet p.run o.run; behalf = p.behalf }

-- 2 write: "o's tag and run rule become p's"
unfoldable pub write_row : Row → Row → Row
write_row p o = record { kind = o.kind; tag = p.tag; permit = o.permit; run = p.run; behalf = o.behalf }

-- 3 append: "o's tag gains all of p's; o's run rule becomes its meet with p's"
unfoldable pub append_row : Row → Row → Row
append_row p o =
    record { kind = o.kind; tag = bit_or o.tag p.tag; permit = o.permit; run = meet o.run p.run; behalf = o.behalf }

-- 4 exec: "p's tag becomes the twins of o's data atoms"; it "keeps p's old data atoms beside the new twins. It still drops old
-- twins and replaces the run rule" (change request No. 2); "p's run rule becomes o's; p's permit rule becomes the meet of o's run
-- rule and u's"
unfoldable pub exec_row : Row → Row → List ℕ → ℕ → Row
exec_row p o v u =
    record {
      kind = p.kind;
      tag = bit_or (running_of data_width o.tag) (data_of data_width p.tag);
      permit = meet o.run v;
      run = o.run;
      behalf = u;
    }

-- 5 fork: "o becomes a copy of p"
unfoldable pub fork_row : Row → Row
fork_row p = record { kind = p.kind; tag = p.tag; permit = p.permit; run = p.run; behalf = p.behalf }

-- 6 new file: "empty tag, permit u's rule, run unrestricted"
unfoldable pub new_file_row : List ℕ → Row
new_file_row v = record { kind = file_kind; tag = 0; permit = v; run = unrestricted_rule; behalf = nobody }

-- 7 new volatile: "empty tag, both unrestricted"
unfoldable pub new_volatile_row : Row
new_volatile_row = record { kind = volatile_kind; tag = 0; permit = unrestricted_rule; run = unrestricted_rule; behalf = nobody }

-- ---- the table: what a step names and needs, the meets that it forms, and the receiver's row afterwards

-- the column "o": what a step needs of its object is the set of the kinds that serve (crate image, specs/Limits); an end needs a process.
-- "free": it needs a free row
abbrev pub needs_free : ℕ → Bool
needs_free kinds = eqb kinds free_kinds

-- a row of the table: the numbers of p and o, and of u where the code names one; the kinds that serve as o; the meets; the row
pub record Entry : Type 0 where
  pub process : ℕ
  pub object : ℕ
  pub user : Option ℕ
  pub need : ℕ
  pub meets : List (List ℕ)
  pub row : Row

-- the rule of user u; of one that is not declared, none
abbrev pub rule_or : Option (List ℕ) → List ℕ
rule_or none = []
rule_or (some v) = v

unfoldable pub entry : State → Step → Entry
entry σ (read p o) =
    record {
      process = p;
      object = o;
      user = none;
      need = store_kinds;
      meets = meet (σ.row p).run (σ.row o).run ∷ [];
      row = read_row (σ.row p) (σ.row o);
    }
entry σ (write p o) =
    record { process = p; object = o; user = none; need = store_kinds; meets = []; row = write_row (σ.row p) (σ.row o) }
entry σ (append p o) =
    record {
      process = p;
      object = o;
      user = none;
      need = store_kinds;
      meets = meet (σ.row o).run (σ.row p).run ∷ [];
      row = append_row (σ.row p) (σ.row o);
    }
entry σ (exec p o u) =
    record {
      process = p;
      object = o;
      user = some u;
      need = file_kinds;
      meets = meet (σ.row o).run (rule_or (σ.user u)) ∷ [];
      row = exec_row (σ.row p) (σ.row o) (rule_or (σ.user u)) u;
    }
entry σ (fork p o) =
    record { process = p; object = o; user = none; need = free_kinds; meets = []; row = fork_row (σ.row p) }
entry σ (new_file p o u) =
    record { process = p; object = o; user = some u; need = free_kinds; meets = []; row = new_file_row (rule_or (σ.user u)) }
entry σ (new_volatile p o) =
    record { process = p; object = o; user = none; need = free_kinds; meets = []; row = new_volatile_row }
-- "The row becomes free" (change request No. 4)
entry σ (end p) = record { process = p; object = p; user = none; need = process_kinds; meets = []; row = free_row }
entry σ (delete p o) = record { process = p; object = o; user = none; need = store_kinds; meets = []; row = free_row }

-- ---- "Refused because of the session": 11 to 15 in the order of the paper, 18 "placed after 14"

-- 11: "p is no process"
unfoldable pub process_good : State → Step → Bool
process_good σ t = is_process (σ.row (entry σ t).process).kind

-- the object is of one of the kinds that serve
unfoldable pub object_good : State → Step → Bool
object_good σ t = kind_in (entry σ t).need (σ.row (entry σ t).object).kind

-- 12: "o of the wrong kind (codes 1 to 4)", and "code 9 with o of another kind" (change request No. 4)
unfoldable pub kind_good : State → Step → Bool
kind_good σ t = needs_free (entry σ t).need || object_good σ t

-- 13: "o not free (5 to 7)"
unfoldable pub free_good : State → Step → Bool
free_good σ t = not (needs_free (entry σ t).need) || object_good σ t

abbrev pub is_some : {A : Type 0} → Option A → Bool
is_some none = false
is_some (some x) = true

abbrev pub declared_in : State → Option ℕ → Bool
declared_in σ none = true
declared_in σ (some u) = is_some (σ.user u)

-- 14: "u not declared"
unfoldable pub user_good : State → Step → Bool
user_good σ t = declared_in σ (entry σ t).user

-- 18: "code 6 names a user other than p's own recorded one"; "a process with 65535 may name any declared user"
unfoldable pub behalf_fits : State → Step → Bool
behalf_fits σ (read p o) = true
behalf_fits σ (write p o) = true
behalf_fits σ (append p o) = true
behalf_fits σ (exec p o u) = true
behalf_fits σ (fork p o) = true
behalf_fits σ (new_file p o u) = eqb (σ.row p).behalf nobody || eqb (σ.row p).behalf u
behalf_fits σ (new_volatile p o) = true
behalf_fits σ (end p) = true
behalf_fits σ (delete p o) = true

-- a rule has at most 8 mixtures
unfoldable pub fits : List ℕ → Bool
fits r = leb (length r) mixture_limit

-- 15: "a meet has over 8 mixtures"
unfoldable pub meet_good : State → Step → Bool
meet_good σ t = every fits (entry σ t).meets

-- those that are tested before a meet is formed
unfoldable pub early_conditions : State → Step → List Condition
early_conditions σ t =
    (process_good σ t or_refuse no_process)
    ∷ (kind_good σ t or_refuse wrong_kind)
    ∷ (free_good σ t or_refuse not_free)
    ∷ (user_good σ t or_refuse not_declared)
    ∷ (behalf_fits σ t or_refuse other_user)
    ∷ []

unfoldable pub table_conditions : State → Step → List Condition
table_conditions σ t = early_conditions σ t ++ ((meet_good σ t or_refuse over_limit) ∷ [])

-- ---- one operation

-- "Codes 1 to 5 answer alert if the receiver's permit rule does not cover its tag afterwards, else quiet; 6 and 7 answer
-- quiet"; so do 8 and 9.
unfoldable pub alerts : Step → Row → Bool
alerts s w = judged s && not (covers w.permit w.tag)

-- "A write or append into it that would raise an alert answers blocked" (change request No. 9): no other step puts a row of a
-- guarded file
unfoldable pub blocks : Step → Row → Bool
blocks s w = is_guarded w.kind && alerts s w

-- "Each answer gives receiver and tag"; it "carries" the position of the first covering mixture "for the receiver's permit rule,
-- blocked ones included, codes 8 and 9 giving 255" (change request No. 12): a free row has no mixture
unfoldable pub verdict : Step → Row → Answer
verdict s w =
    cond (blocks s w) blocked (cond (alerts s w) alert quiet) (receiver s) w.tag (cover_place w.permit w.tag)

-- the row w in the place of container c's
unfoldable pub placed : State → ℕ → Row → State
placed σ c w = record { row = λ x. cond (eqb x c) w (σ.row x); user = σ.user }

-- the state after a step that is not refused: a blocked one "changes nothing"
unfoldable pub left : State → Step → Row → State
left σ t w = cond (blocks t w) σ (placed σ (receiver t) w)

-- the state after the step, and the answer: "A refusal .. changes no lent memory"; "An alert does not undo the access."
unfoldable pub operate : State → Step → State × Answer
operate σ t =
    cond (eqb (first_failed (table_conditions σ t)) 0)
    (left σ t (entry σ t).row, verdict t (entry σ t).row)
    (σ, refused (first_failed (table_conditions σ t)))

-- ---- the start

abbrev pub start_row_of : Option Place → Row
start_row_of none = free_row
start_row_of (some K) = start_row K

-- the containers and users of the policy, their rules in normal form; the other rows are free, the other users undeclared
unfoldable pub begin : Policy → State
begin P = record { row = λ c. start_row_of (get_elem? (meaning P).places c); user = λ u. get_elem? (meaning P).users u }

-- ---- a monitor that follows the table

-- A monitor with states that read as rows: refusing, it leaves the rows; else it does what the table says of the step that the
-- record spells. Valid says of which states this is claimed.
pub record Faithful {S R : Type 0} (op : S → R → S × Answer) (step_of : R → Option Step) (view : S → State) (Valid : S → Type 0) : Type 0 where
  pub stays : (σ : S) (r : R) → Valid σ → Valid (op σ r).0
  pub refusing : (σ : S) (r : R) → Valid σ → is_refused (op σ r).1 ≡ true → view (op σ r).0 ≡ view σ
  pub answering : (σ : S) (r : R) → Valid σ → is_refused (op σ r).1 ≡ false
      → (s : Step) × (step_of r ≡ some s) × (view (op σ r).0 ≡ (operate (view σ) s).0) × ((op σ r).1 ≡ (operate (view σ) s).1)
