-- What the numbers of `why` certify: a rule that governs the receiver, by its origin, and for each of its mixtures an atom that has a chain into
-- the receiver and that the mixture lacks.
use Rattle.std.specs.Prelude.{ℕ, zero, ◌+◌, ◌<◌, ◌≡◌, List, map, ◌⊎◌, length, drop, get_or}
use Rattle.answers.specs.declared.Answer.{Answer}
use Rattle.answers.specs.Answers.{receiver_of, tag_of}
use Rattle.rules.specs.Sets.{atom}
use Rattle.image.specs.Policy.{Policy, rule_at, owner_at}
use Rattle.chains.specs.History.{History}
use Rattle.chains.specs.Chains.{UserRule, run_rule, Starts, Leads, Own, Reaches}
use Rattle.certificate.specs.Origins.{Origin, own, made, started, nowhere, origin, before, From}
use Rattle.certificate.specs.Whys.{own_origin, made_origin, user_origin, run_origin, why_receiver_at, why_tag_at, why_kind_at}
use Rattle.certificate.specs.Whys.{why_record_at, why_holder_at, why_rule_at, why_owner_at, why_chain_at, why_count_at, why_atoms_at}

-- The rule r comes from the origin as the numbers say: kind, record, holder. Of a run rule the chain stands in the list: it begins in the
-- file `holder`, leads its run rule into o by the steps before the exec, and the list has the records of these steps. ns are the records of
-- the history's steps.
abbrev pub ComesFrom : Policy → History → List ℕ → Origin → List ℕ → ℕ → ℕ → ℕ → List ℕ → Type 0
ComesFrom P h ns (own c) r kind n holder chain = (kind ≡ own_origin) × (holder ≡ c) × Own P c r
ComesFrom P h ns (made i u) r kind n holder chain = (kind ≡ made_origin) × (n ≡ get_or ns i 0) × (holder ≡ u) × UserRule P u r
ComesFrom P h ns (started i o u) r kind n holder chain =
    (n ≡ get_or ns i 0)
    × (((kind ≡ user_origin) × (holder ≡ u) × UserRule P u r)
    ⊎ ((kind ≡ run_origin) × Starts P holder (run_rule r)
    × ((is : List ℕ) × Leads (before i h) zero holder (run_rule r) is o (run_rule r) × (chain ≡ map (λ j. get_or ns j 0) is))))
ComesFrom P h ns nowhere r kind n holder chain = ⊥

-- Of the answer a, after the history h: out has the 17 numbers at its front, and the chain of a run rule is in steps from the place on that the
-- eighth number says.
pub record Certified (P : Policy) (h : History) (ns : List ℕ) (a : Answer) (out steps : List ℕ) : Type 0 where
  pub receiver : get_or out why_receiver_at 0 ≡ receiver_of a
  pub tag : get_or out why_tag_at 0 ≡ tag_of a
  pub comes :
      ComesFrom P h ns (origin h (receiver_of a)) (rule_at P.rules (get_or out why_rule_at 0)) (get_or out why_kind_at 0) (get_or out why_record_at 0) (get_or out why_holder_at 0)
      (drop (get_or out why_chain_at 0) steps)
  pub from : From P h (origin h (receiver_of a)) (rule_at P.rules (get_or out why_rule_at 0))
  pub owner : get_or out why_owner_at 0 ≡ owner_at P.owners (get_or out why_rule_at 0)
  pub mixtures : get_or out why_count_at 0 ≡ length (rule_at P.rules (get_or out why_rule_at 0))
  pub lacks : (k : ℕ) → k < get_or out why_count_at 0 → atom (get_or (rule_at P.rules (get_or out why_rule_at 0)) k 0) (get_or out (why_atoms_at + k) 0) ≡ 0
  pub holds : (k : ℕ) → k < get_or out why_count_at 0 → atom (tag_of a) (get_or out (why_atoms_at + k) 0) ≡ 1
  pub reaches : (k : ℕ) → k < get_or out why_count_at 0 → Reaches P h (get_or out (why_atoms_at + k) 0) (receiver_of a)
