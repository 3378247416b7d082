-- Steps and histories (the paper, "Operations" and "Chains").
use Rattle.std.specs.Prelude.{ℕ, suc, zero, ◌≡◌, ◌⊎◌}

-- The seven operations of "Operations", with process p, object o and, for exec and new file, user u; "Code 8 ends process p";
-- "code 9 lets p remove file or volatile o" (change request No. 4).
pub data Step : Type 0 where
  read write append fork new_volatile delete : (p o : ℕ) → Step
  exec new_file : (p o u : ℕ) → Step
  end : (p : ℕ) → Step

-- "The history is the accepted steps in order": none at the session's start, then one more at the right.
pub data History : Type 0 where
  start : History
  ◌▸◌ : History → Step → History

infixl 40 ◌▸◌
-- how many steps the history has
abbrev pub step_count : History → ℕ
step_count start = zero
step_count (h ▸ s) = suc (step_count h)

-- step number i of the history, counted from 0, is s
abbrev pub StepAt : History → ℕ → Step → Type 0
StepAt start i s = ⊥
StepAt (h ▸ t) i s = ((i ≡ step_count h) × (t ≡ s)) ⊎ StepAt h i s

-- "The receiver is p for 1 and 4, else o"; for 8, "with o equal to p", that is p.
abbrev pub receiver : Step → ℕ
receiver (read p o) = p
receiver (write p o) = o
receiver (append p o) = o
receiver (exec p o u) = p
receiver (fork p o) = o
receiver (new_file p o u) = o
receiver (new_volatile p o) = o
receiver (end p) = p
receiver (delete p o) = o
