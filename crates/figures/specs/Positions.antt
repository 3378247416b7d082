-- The records at which an alert is due, by demand 3 (the paper, "Chains"), and those which are to be blocked (change request No. 9).
use Rattle.std.specs.Prelude.{◌≡◌, ℕ, suc, true, List, take}
use Rattle.answers.specs.declared.Answer.{Answer}
use Rattle.image.specs.Policy.{Policy}
use Rattle.chains.specs.History.{Step, ◌▸◌, receiver}
use Rattle.chains.specs.Chains.{Forbidden}
use Rattle.chains.specs.Guards.{guarded}
use Rattle.chains.specs.Demand.{judged, history_of, AcceptedAt, GivenAt}
use Rattle.records.specs.Records.{step_of}
use Rattle.monitor.specs.Runs.{step_on}

-- record number n spells a step that is accepted and judged, and its receiver is forbidden what it holds after the history up to and
-- with it
abbrev pub ForbiddenAt : List ℕ → Policy → List (List ℕ) → ℕ → Type 0
ForbiddenAt s P rs n =
    (t : Step) × (a : Answer) × AcceptedAt step_on step_of s rs n t a × (judged t ≡ true)
    × Forbidden P (history_of step_on step_of s (take (suc n) rs)) (receiver t)

-- and the receiver is container c
abbrev pub ForbiddenInto : List ℕ → Policy → List (List ℕ) → ℕ → ℕ → Type 0
ForbiddenInto s P rs c n =
    (t : Step) × (a : Answer) × AcceptedAt step_on step_of s rs n t a × (judged t ≡ true)
    × Forbidden P (history_of step_on step_of s (take (suc n) rs)) (receiver t) × (receiver t ≡ c)

-- record number n spells a judged step that is not refused; with it, after the history before it, its receiver would be forbidden what it
-- would hold, and is guarded
abbrev pub BlockedAt : List ℕ → Policy → List (List ℕ) → ℕ → Type 0
BlockedAt s P rs n =
    (t : Step) × (a : Answer) × GivenAt step_on step_of s rs n t a × (judged t ≡ true)
    × Forbidden P (history_of step_on step_of s (take n rs) ▸ t) (receiver t) × (guarded P (history_of step_on step_of s (take n rs) ▸ t) (receiver t) ≡ true)
