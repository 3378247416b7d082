-- Demand 3, "one claim about the whole list": of any monitor, given by its operation on its states and records, and by the
-- step that a record spells (the paper, "Operations" and "Chains").
use Rattle.std.specs.Prelude.{ℕ, suc, ◌≡◌, ◌↔◌, Bool, true, false, ◌||◌, List, [], ◌∷◌, take}
use Rattle.std.proofs.Math.Option.{Option, none, some}
use Rattle.std.proofs.Math.ListN.{get_elem?}
use Rattle.rules.specs.Sets.{atom}
use Rattle.image.specs.Policy.{Policy}
use Rattle.answers.specs.declared.Answer.{Answer}
use Rattle.answers.specs.Answers.{accepted, is_alert, is_blocked, is_refused, receiver_of, tag_of}
use Rattle.chains.specs.History.{
  Step,
  read,
  write,
  append,
  exec,
  fork,
  new_file,
  new_volatile,
  end,
  delete,
  History,
  start,
  ◌▸◌,
  receiver,
}
use Rattle.chains.specs.Chains.{UserRule, Item, Chain, Governs, Reaches, Forbidden}
use Rattle.chains.specs.Guards.{guarded, written_into}

-- ---- which steps are judged

-- "Codes 1 to 5 answer alert if ..; 6 and 7 answer quiet"; 8 and 9 too: "Both answer quiet with tag 0" (change request No. 4).
abbrev pub judged : Step → Bool
judged (read p o) = true
judged (write p o) = true
judged (append p o) = true
judged (exec p o u) = true
judged (fork p o) = true
judged (new_file p o u) = false
judged (new_volatile p o) = false
judged (end p) = false
judged (delete p o) = false

-- ---- numbers that are taken

-- What stands right after the history h when a step takes a free number, whatever its past: "a later holder of the number
-- inherits neither information nor rules" (change request No. 4). A new file has its user's rule, a new volatile none, a forked
-- process what its parent has.
abbrev pub Taken : Policy → History → Step → Type 0
Taken P h (read p o) = Unit {0}
Taken P h (write p o) = Unit {0}
Taken P h (append p o) = Unit {0}
Taken P h (exec p o u) = Unit {0}
Taken P h (fork p o) =
    ((x : Item) → Chain P (h ▸ fork p o) x o ↔ Chain P h x p) × ((r : List ℕ) → Governs P (h ▸ fork p o) o r ↔ Governs P h p r)
Taken P h (new_file p o u) =
    ((x : Item) → ¬ Chain P (h ▸ new_file p o u) x o) × ((r : List ℕ) → Governs P (h ▸ new_file p o u) o r ↔ UserRule P u r)
Taken P h (new_volatile p o) =
    ((x : Item) → ¬ Chain P (h ▸ new_volatile p o) x o) × ((r : List ℕ) → ¬ Governs P (h ▸ new_volatile p o) o r)
Taken P h (end p) = Unit {0}
Taken P h (delete p o) = Unit {0}

-- ---- blocked accesses (change request No. 9)

-- "A write or append into it that would raise an alert answers blocked, with the receiver and the tag it would have had";
-- "Blocked is given in just those cases"; "A blocked access is no part of the history from which later alerts are judged":
-- h is the history of the records before, and h ▸ s what it would be with the access.
pub record BlockedTold (P : Policy) (h : History) (s : Step) (a : Answer) : Type 0 where
  pub told : ((is_alert a || is_blocked a) ≡ true) ↔ Forbidden P (h ▸ s) (receiver s)
  pub blocks : (is_blocked a ≡ true) ↔ (Forbidden P (h ▸ s) (receiver s) × (guarded P (h ▸ s) (receiver s) ≡ true))
  pub at : receiver_of a ≡ receiver s
  pub tag : (k : ℕ) → (atom (tag_of a) k ≡ 1) ↔ Reaches P (h ▸ s) k (receiver s)

-- ---- a list of records

-- the history with one more record, which counts if it was accepted
abbrev pub extend : History → Option Step → Bool → History
extend h none b = h
extend h (some s) false = h
extend h (some s) true = h ▸ s

module _ {S R : Type 0} (op : S → R → S × Answer) where
  -- The answers to a list of records: "the first finds the session as the start filled it .., each later one finds it as
  -- the one before left it".
  abbrev pub answers : S → List R → List Answer
  answers σ [] = []
  answers σ (r ∷ rs) = (op σ r).1 ∷ answers (op σ r).0 rs

  -- the state that a list of records leaves
  abbrev pub after : S → List R → S
  after σ [] = σ
  after σ (r ∷ rs) = after (op σ r).0 rs

  module _ (step_of : R → Option Step) where
    -- the accepted steps of a list of records, in order, behind those of h
    abbrev pub history_from : History → S → List R → History
    history_from h σ [] = h
    history_from h σ (r ∷ rs) = history_from (extend h (step_of r) (accepted (op σ r).1)) (op σ r).0 rs

    -- "The history is the accepted steps in order."
    abbrev pub history_of : S → List R → History
    history_of σ rs = history_from start σ rs

    -- ---- the demand

    -- Of any list of records, record number n spells the step s, and its answer a accepts it.
    pub record AcceptedAt (σ : S) (rs : List R) (n : ℕ) (s : Step) (a : Answer) : Type 0 where
      pub spelled : (r : R) × (get_elem? rs n ≡ some r) × (step_of r ≡ some s)
      pub answered : get_elem? (answers σ rs) n ≡ some a
      pub accepting : accepted a ≡ true

    -- Demand 3, of the state σ that the policy P starts: of any list of records, each accepted read, write, append, exec or
    -- fork is answered by an alert exactly when its receiver is forbidden what it holds after the history up to and with it.
    abbrev pub Demand3 : S → Policy → Type 0
    Demand3 σ P = (rs : List R) (n : ℕ) (s : Step) (a : Answer) → AcceptedAt σ rs n s a → judged s ≡ true
        → (is_alert a ≡ true) ↔ Forbidden P (history_of σ (take (suc n) rs)) (receiver s)

    -- Each accepted record is answered with its receiver, and with exactly the information for which the history up to and
    -- with it has a chain into the receiver.
    abbrev pub TagTold : S → Policy → Type 0
    TagTold σ P = (rs : List R) (n : ℕ) (s : Step) (a : Answer) → AcceptedAt σ rs n s a
        → (receiver_of a ≡ receiver s)
        × ((k : ℕ) → (atom (tag_of a) k ≡ 1) ↔ Reaches P (history_of σ (take (suc n) rs)) k (receiver s))

    -- Each accepted record that takes a free number begins it so.
    abbrev pub TakenAnew : S → Policy → Type 0
    TakenAnew σ P = (rs : List R) (n : ℕ) (s : Step) (a : Answer) → AcceptedAt σ rs n s a → Taken P (history_of σ (take n rs)) s

    -- ---- blocked accesses

    -- Of any list of records, record number n spells the step s, and its answer a is no refusal: it is accepted, or blocked.
    pub record GivenAt (σ : S) (rs : List R) (n : ℕ) (s : Step) (a : Answer) : Type 0 where
      pub spelled : (r : R) × (get_elem? rs n ≡ some r) × (step_of r ≡ some s)
      pub answered : get_elem? (answers σ rs) n ≡ some a
      pub given : is_refused a ≡ false

    -- Each read, write, append, exec or fork that is not refused is answered so.
    abbrev pub BlockedExactly : S → Policy → Type 0
    BlockedExactly σ P = (rs : List R) (n : ℕ) (s : Step) (a : Answer) → GivenAt σ rs n s a → judged s ≡ true
        → BlockedTold P (history_of σ (take n rs)) s a

    -- "Statement files should never receive a forbidden mixture": after any list of records a guarded file is not forbidden what it
    -- holds, once a write or an append went into it. Before, it holds what it was started with.
    abbrev pub GuardedHolds : S → Policy → Type 0
    GuardedHolds σ P = (rs : List R) (c : ℕ) → guarded P (history_of σ rs) c ≡ true → written_into (history_of σ rs) c ≡ true
        → ¬ Forbidden P (history_of σ rs) c

    -- No accepted record raises an alert at a guarded file.
    abbrev pub GuardedSpared : S → Policy → Type 0
    GuardedSpared σ P = (rs : List R) (n : ℕ) (s : Step) (a : Answer) → AcceptedAt σ rs n s a
        → guarded P (history_of σ (take n rs)) (receiver s) ≡ true → is_alert a ≡ false
