-- The table, run on steps, is a monitor that follows the table.
use mathlib.Core.Path.{◌≡◌, refl, ap, ◌∙◌}
use mathlib.Core.Logic.{◌⊎◌, inl, inr, ◌≢◌}
use Rattle.lists.specs.Conditions.{first_failed}
use Rattle.lists.proofs.Conditions.{zero_or_not}
use Rattle.answers.specs.declared.Answer.{Answer}
use Rattle.chains.proofs.TableStates.{operate_done, operate_refused}
use mathlib.Core.Bool.{true}
use mathlib.Core.Option.{some}
use Rattle.lists.proofs.Bools.{clash}
use Rattle.image.specs.Policy.{Policy, Sound}
use Rattle.chains.specs.History.{Step}
use Rattle.answers.specs.Answers.{is_refused}
use Rattle.chains.specs.Demand.{Demand3, TagTold}
use Rattle.chains.specs.Table.{State, entry, table_conditions, operate, begin, Faithful}
use Rattle.chains.proofs.ThreeAnswers.{verdict_given}
use Rattle.chains.proofs.Theorems.{demand3, tag_told}

-- a refused step changes nothing
pub refused_same : (σ : State) (s : Step) → is_refused (operate σ s).1 ≡ true → (operate σ s).0 ≡ σ
refused_same σ s f = by (zero_or_not (first_failed (table_conditions σ s)))
  where
    by : (first_failed (table_conditions σ s) ≡ 0) ⊎ (first_failed (table_conditions σ s) ≢ 0) → (operate σ s).0 ≡ σ
    by (inl e) = clash f (ap (λ (x : State × Answer). is_refused x.1) (operate_done σ s e) ∙ verdict_given s (entry σ s).row)
    by (inr n) = ap (λ (x : State × Answer). x.0) (operate_refused σ s n)

pub itself : Faithful operate some (λ σ. σ) (λ σ. Unit {0})
itself = record {
  stays = λ σ r k. tt;
  refusing = λ σ r k e. refused_same σ r e;
  answering = λ σ r k e. (r, refl, refl, refl);
}

pub table_demand3 : (P : Policy) → Sound P → Demand3 operate some (begin P) P
table_demand3 P ok = demand3 operate some (λ σ. σ) (λ σ. Unit {0}) itself P ok (begin P) tt refl

pub table_tag_told : (P : Policy) → Sound P → TagTold operate some (begin P) P
table_tag_told P ok = tag_told operate some (λ σ. σ) (λ σ. Unit {0}) itself P ok (begin P) tt refl
