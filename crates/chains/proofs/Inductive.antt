-- The same chains, built up step by step: a cross-check of the definition by rising lists.
use Prim.Native.Nat.{ℕ}
use mathlib.Core.Logic.{◌⊎◌, inl, inr}
use Rattle.image.specs.Policy.{Policy}
use Rattle.chains.specs.History.{Step, History, start, ◌▸◌}
use Rattle.chains.specs.Chains.{Item, Starts, Carries, Ends, Chain}
use Rattle.chains.proofs.ChainLaws.{chain_snoc, chain_stay, chain_carry, chain_none, chain_here}

pub data Built (P : Policy) : History → Item → ℕ → Type 0 where
  begins : {x : Item} {f : ℕ} → Starts P f x → Built P start x f
  stays : {h : History} {s : Step} {x : Item} {c : ℕ} → Built P h x c → ¬ Ends s c x → Built P (h ▸ s) x c
  carried : {h : History} {s : Step} {x y : Item} {b c : ℕ} → Built P h x b → Carries s b x c y → Built P (h ▸ s) y c

pub listed : {P : Policy} {h : History} {x : Item} {c : ℕ} → Built P h x c → Chain P h x c
listed {P} (begins {x = x} {f = f} st) = chain_here P x f st
listed {P} (stays {h = h} {s = s} {x = x} {c = c} ch ne) = chain_stay P h s x c (listed ch) ne
listed {P} (carried {h = h} {s = s} {x = x} {y = y} {b = b} {c = c} ch ca) = chain_carry P h s x y b c (listed ch) ca

pub built : (P : Policy) (h : History) (x : Item) (c : ℕ) → Chain P h x c → Built P h x c
built P start x c ch = begins (chain_none P x c ch)
built P (h ▸ s) x c ch = on (λ y b. built P h y b) (chain_snoc P h s x c ch)
  where
    on : ((y : Item) (b : ℕ) → Chain P h y b → Built P h y b)
        → (Chain P h x c × ¬ Ends s c x) ⊎ ((b : ℕ) × (y : Item) × Chain P h y b × Carries s b y c x) → Built P (h ▸ s) x c
    on ih (inl (k, ne)) = stays (ih x c k) ne
    on ih (inr (b, y, k, ca)) = carried (ih y b k) ca
