-- "no session from the derived policy, of reads, writes and appends that the matrix allows (write right for both of the latter),
-- raises an alert" (change request No. 8).
use Rattle.std.specs.Prelude.{ℕ, ◌+◌, ◌<◌, ◌≡◌, Bool, true, not, List, [], ◌∷◌, length, get_or}
use Rattle.std.proofs.Math.Option.{Option, some}
use Rattle.answers.specs.declared.Answer.{Answer}
use Rattle.answers.specs.Answers.{is_alert}
use Rattle.lists.specs.Lists.{every}
use Rattle.matrix.specs.Flows.{has}
use Rattle.chains.specs.History.{Step, read, write, append}

-- an access that the matrix allows: subject s, which is container objects + s of the derived policy, and object k
pub data Allowed (reads writes : List ℕ) (objects : ℕ) : Step → Type 0 where
  may_read : {s k : ℕ} → s < length reads → k < objects → has (get_or reads s 0) k ≡ true → Allowed reads writes objects (read (objects + s) k)
  may_write : {s k : ℕ} → s < length reads → k < objects → has (get_or writes s 0) k ≡ true → Allowed reads writes objects (write (objects + s) k)
  may_append : {s k : ℕ} → s < length reads → k < objects → has (get_or writes s 0) k ≡ true → Allowed reads writes objects (append (objects + s) k)

-- each record of a list spells one
abbrev pub AllAllowed : {R : Type 0} → (R → Option Step) → List ℕ → List ℕ → ℕ → List R → Type 0
AllAllowed step_of reads writes objects [] = Unit {0}
AllAllowed step_of reads writes objects (r ∷ rs) =
    ((t : Step) × (step_of r ≡ some t) × Allowed reads writes objects t) × AllAllowed step_of reads writes objects rs

-- no answer is an alert
unfoldable pub no_alert : List Answer → Bool
no_alert given = every (λ a. not (is_alert a)) given
