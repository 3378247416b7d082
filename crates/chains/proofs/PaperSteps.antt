-- The paper's listing ("Checked examples"), run by the table: its answers, a chain of four steps that an alert shows, and that
-- an overwritten file keeps no chain.
use Prim.Native.Nat.{ℕ}
use native.Mathlib.Omega.{arith}
use mathlib.Core.Path.{◌≡◌, refl, sym, subst, ap}
use mathlib.Core.Logic.{inl, inr}
use mathlib.Core.List.{List, [], ◌∷◌}
use mathlib.Core.Option.{some}
use lib.ListN.{get_elem?, take}
use Rattle.rules.specs.Sets.{atom, holds, data_of}
use Rattle.rules.specs.Rules.{covers, cover_from, cover_place, distinct, held_in, unheld_in, insert, sort, normal, intersections, meet, unrestricted}
use Rattle.lists.specs.Conditions.{first_failed}
use Rattle.lists.specs.Lists.{elem, every}
use Rattle.image.specs.Limits.{is_guarded, is_file, is_volatile, is_process, file_kind, process_kind, no_atom, unrestricted_number, no_owner, kind_in}
use Rattle.image.specs.Policy.{Container, Policy, unrestricted_rule, rule_at, named, owner_good, container_good, rule_good, Sound}
use Rattle.image.specs.Normal.{normal_at, place_of, meaning}
use Rattle.chains.specs.History.{Step, read, write, append, History, start, ◌▸◌}
use Rattle.chains.specs.Chains.{data_atom, Chain, read_atom, append_any}
use Rattle.answers.specs.Answers.{quiet, alert, refused}
use Rattle.chains.specs.Demand.{answers, history_of, AcceptedAt}
use Rattle.chains.specs.Table.{
  read_row,
  write_row,
  append_row,
  free_row,
  entry,
  process_good,
  object_good,
  kind_good,
  free_good,
  user_good,
  behalf_fits,
  fits,
  meet_good,
  early_conditions,
  table_conditions,
  alerts,
  blocks,
  verdict,
  placed,
  left,
  operate,
  begin,
}
use Rattle.session.specs.Session.{start_tag, start_row}
use Rattle.chains.proofs.TableMonitor.{table_tag_told}

-- the derived policy of document 000's matrix: four files, three processes, one user
abbrev object : ℕ → Container
object d = record { kind = file_kind; atom = d; permit = d; run = unrestricted_number }

abbrev subject : Container
subject = record { kind = process_kind; atom = no_atom; permit = unrestricted_number; run = unrestricted_number }

abbrev P : Policy
P = record {
  containers = object 0 ∷ object 1 ∷ object 2 ∷ object 3 ∷ subject ∷ subject ∷ subject ∷ [];
  users = unrestricted_number ∷ [];
  rules = (5 ∷ []) ∷ (3 ∷ []) ∷ (4 ∷ []) ∷ (10 ∷ []) ∷ [];
  owners = no_owner ∷ no_owner ∷ no_owner ∷ no_owner ∷ [];
}

abbrev steps : List Step
steps = read 4 2 ∷ append 4 0 ∷ read 5 0 ∷ append 5 1 ∷ write 6 1 ∷ read 6 9 ∷ []

abbrev four : History
four = start ▸ read 4 2 ▸ append 4 0 ▸ read 5 0 ▸ append 5 1

-- the answers, and the history up to the write and the refused read
pub record Run : Type 0 where
  pub told : answers operate (begin P) steps ≡ quiet 4 4 0 ∷ quiet 0 5 0 ∷ quiet 5 5 0 ∷ alert 1 7 255 ∷ quiet 1 0 0 ∷ refused 12 ∷ []
  pub up_to_write : history_of operate some (begin P) (take 5 steps) ≡ four ▸ write 6 1
  pub whole : history_of operate some (begin P) steps ≡ four ▸ write 6 1

listing : Run
unfolding operate entry process_good object_good kind_good free_good user_good behalf_fits meet_good early_conditions table_conditions
    first_failed every alerts blocks verdict placed left is_guarded fits read_row write_row append_row free_row begin start_row start_tag meaning
    place_of normal_at rule_at unrestricted_rule unrestricted kind_in atom is_process covers cover_from cover_place holds
    data_of elem distinct held_in unheld_in insert sort normal intersections meet
listing = record { told = refl; up_to_write = refl; whole = refl }

-- the chain of the alert: atom 2 by steps 0, 1, 2 and 3 from file 2 into file 1
chain : Chain P four (data_atom 2) 1
unfolding is_file kind_in atom
chain = (
  2,
  data_atom 2,
  (object 2, refl, refl, refl, λ e. omega arith),
  0 ∷ 1 ∷ 2 ∷ 3 ∷ [],
  (
    read 4 2,
    4,
    data_atom 2,
    omega arith,
    inr (inr (inr (inl (refl, refl)))),
    λ j s l g e. absurd (omega arith),
    read_atom,
    (
      append 4 0,
      0,
      data_atom 2,
      omega arith,
      inr (inr (inl (refl, refl))),
      λ j s l g e. absurd (omega arith),
      append_any,
      (
        read 5 0,
        5,
        data_atom 2,
        omega arith,
        inr (inl (refl, refl)),
        λ j s l g e. absurd (omega arith),
        read_atom,
        (
          append 5 1,
          1,
          data_atom 2,
          omega arith,
          inl (refl, refl),
          λ j s l g e. absurd (omega arith),
          append_any,
          (refl, refl, λ j s l g e. absurd (omega arith)),
        ),
      ),
    ),
  ),
)

sound : Sound P
unfolding every rule_good container_good named owner_good is_file kind_in atom is_volatile is_process
sound = record {
  few_containers = omega arith;
  few_users = omega arith;
  few_rules = omega arith;
  rules_good = refl;
  containers_good = refl;
  users_good = refl;
  owners_long = refl;
  owners_good = refl;
}

-- and after the write of step 4 it is none
gone : ¬ Chain P (four ▸ write 6 1) (data_atom 2) 1
unfolding atom
gone ch =
    let at : AcceptedAt operate some (begin P) steps 4 (write 6 1) (quiet 1 0 0) =
    record { spelled = (write 6 1, refl, refl); answered = ap (λ l. get_elem? l 4) listing.told; accepting = refl } in
    let e : ◌≡◌ {A = ℕ} 0 1 =
    ((table_tag_told P sound steps 4 (write 6 1) (quiet 1 0 0) at).1 2).1 (inl (subst (λ h. Chain P h (data_atom 2) 1) (sym listing.up_to_write) ch)) in
    omega arith
