-- Silent, of every monitor that follows the table and refuses nothing that the table allows.
use Prim.Native.Nat.{ℕ, ◌≤◌, ◌<◌}
use mathlib.Core.Path.{◌≡◌, refl, sym, subst, ap, ◌∙◌}
use mathlib.Core.Logic.{◌⊎◌, inl, inr, ◌↔◌}
use mathlib.Core.Bool.{Bool, true, false, not}
use mathlib.Core.List.{List, [], ◌∷◌, ◌++◌}
use mathlib.Core.Option.{Option, some}
use lib.ListN.{length}
use borrow.Author.Tests.{not-true}
use Rattle.lists.specs.Lists.{every}
use Rattle.lists.specs.Conditions.{first_failed}
use Rattle.lists.proofs.Bools.{and_in, and_0, and_1, clash, decide}
use Rattle.lists.proofs.Below.{all_at, Miss, all_miss}
use Rattle.lists.proofs.Places.{some_inj}
use Rattle.rules.specs.Answers.{data_width}
use Rattle.answers.specs.declared.Answer.{Answer}
use Rattle.answers.specs.Answers.{accepted, is_alert, is_refused}
use Rattle.chains.specs.History.{Step}
use Rattle.chains.specs.Demand.{answers, after}
use Rattle.chains.specs.Table.{State, entry, table_conditions, alerts, operate, Faithful}
use Rattle.chains.proofs.TableStates.{operate_done}
use Rattle.chains.proofs.ThreeAnswers.{verdict_alert, verdict_quiet, verdict_accepted}
use Rattle.silence.specs.Silent.{quiet_object, silent}
use Rattle.silence.specs.Sessions.{Allowed, AllAllowed, no_alert}
use Rattle.silence.proofs.HeldSources.{Holding, passes, never_blocks, stays_quiet}
use Rattle.silence.proofs.GatherLaws.{Owning, next, first_steps, last_step, last_allowed, all_allowed, gathered_holding, last_alerts}

module _ {S R : Type 0} (op : S → R → S × Answer) (step_of : R → Option Step) (view : S → State) (Valid : S → Type 0) (F : Faithful op step_of view Valid)
    (accepts : (σ : S) (r : R) (t : Step) → Valid σ → step_of r ≡ some t → first_failed (table_conditions (view σ) t) ≡ 0 → is_refused (op σ r).1 ≡ false)
    (reads writes : List ℕ) (n : ℕ) (even : length writes ≡ length reads) (few : n ≤ data_width) where
  -- an allowed record does what the table says of it
  pub record Does (σ : S) (r : R) (t : Step) : Type 0 where
    pub taken : accepted (op σ r).1 ≡ true
    pub left : view (op σ r).0 ≡ (operate (view σ) t).0
    pub told : (op σ r).1 ≡ (operate (view σ) t).1

  does : (σ : S) → Valid σ → Holding reads writes n (view σ) → (r : R) (t : Step) → step_of r ≡ some t → Allowed reads writes n t → Does σ r t
  does σ v H r t e a =
      let k : is_refused (op σ r).1 ≡ false = accepts σ r t v e (passes reads writes n even few (view σ) H t a) in
      let f : (s : Step) × (step_of r ≡ some s) × (view (op σ r).0 ≡ (operate (view σ) s).0) × ((op σ r).1 ≡ (operate (view σ) s).1) = F.answering σ r v k in
      let q : f.0 ≡ t = some_inj (sym f.1 ∙ e) in
      let d : (op σ r).1 ≡ (operate (view σ) t).1 = f.3 ∙ ap (λ (s : Step). (operate (view σ) s).1) q in
      record {
        taken =
            ap accepted d
            ∙ ap (λ (x : State × Answer). accepted x.1) (operate_done (view σ) t (passes reads writes n even few (view σ) H t a))
            ∙ verdict_accepted t (entry (view σ) t).row (never_blocks reads writes n even few (view σ) H t a);
        left = f.2 ∙ ap (λ (s : Step). (operate (view σ) s).0) q;
        told = d;
      }

  does_next : (σ : S) → Valid σ → Holding reads writes n (view σ) → (r : R) (t : Step) → step_of r ≡ some t → Allowed reads writes n t → Holding reads writes n (view (op σ r).0)
  does_next σ v H r t e a = subst (Holding reads writes n) (sym (does σ v H r t e a).left) (next reads writes n even few (view σ) H t a)

  -- ---- every allowed record is accepted

  pub all_accepted : (σ : S) → Valid σ → Holding reads writes n (view σ) → (rs : List R) → AllAllowed step_of reads writes n rs → every accepted (answers op σ rs) ≡ true
  unfolding every
  all_accepted σ v H [] A = refl
  all_accepted σ v H (r ∷ rs) ((t, e, a), A) =
      and_in (does σ v H r t e a).taken (all_accepted (op σ r).0 (F.stays σ r v) (does_next σ v H r t e a) rs A)

  -- ---- silent: no alert

  quiet_answer : (σ : State) → Holding reads writes n σ → (t : Step) → Allowed reads writes n t → alerts t (entry σ t).row ≡ false → not (is_alert (operate σ t).1) ≡ true
  quiet_answer σ H t a q =
      ap (λ (x : State × Answer). not (is_alert x.1)) (operate_done σ t (passes reads writes n even few σ H t a))
      ∙ ap (λ (x : Answer). not (is_alert x)) (verdict_quiet t (entry σ t).row q)

  quiet_run : ((b : ℕ) → b < n → quiet_object reads writes n b ≡ true) → (σ : S) → Valid σ → Holding reads writes n (view σ) → (rs : List R)
      → AllAllowed step_of reads writes n rs → no_alert (answers op σ rs) ≡ true
  unfolding no_alert every
  quiet_run q σ v H [] A = refl
  quiet_run q σ v H (r ∷ rs) ((t, e, a), A) =
      and_in (ap (λ (x : Answer). not (is_alert x)) (does σ v H r t e a).told ∙ quiet_answer (view σ) H t a (stays_quiet reads writes n even few (view σ) H q t a))
      (quiet_run q (op σ r).0 (F.stays σ r v) (does_next σ v H r t e a) rs A)

  -- what every answer passes, the last one does
  pub every_last : (f : Answer → Bool) (σ : S) (front : List R) (r : R) → every f (answers op σ (front ++ (r ∷ []))) ≡ true → f (op (after op σ front) r).1 ≡ true
  unfolding every
  every_last f σ [] r h = and_0 (f (op σ r).1) true h
  every_last f σ (q ∷ front) r h = every_last f (op σ q).0 front r (and_1 (f (op σ q).1) h)

  pub quiet_last : (σ : S) (front : List R) (r : R) → no_alert (answers op σ (front ++ (r ∷ []))) ≡ true → is_alert (op (after op σ front) r).1 ≡ false
  unfolding no_alert
  quiet_last σ front r h = not-true (is_alert (op (after op σ front) r).1) (every_last (λ a. not (is_alert a)) σ front r h)

  -- ---- not silent: a list whose last record alerts

  pub record Alerting (σ : S) : Type 0 where
    pub front : List R
    pub last : R
    pub allowed : AllAllowed step_of reads writes n (front ++ (last ∷ []))
    pub alert : is_alert (op (after op σ front) last).1 ≡ true

  module _ (spell : (t : Step) → Allowed reads writes n t → (r : R) × (step_of r ≡ some t)) where
    spelled : (ts : List Step) → AllAllowed some reads writes n ts → List R
    spelled [] A = []
    spelled (t ∷ ts) ((u, e, a), A) = (spell u a).0 ∷ spelled ts A

    -- what the records of a list of allowed steps leave
    pub record Follows (σ : S) (ts : List Step) (u : Step) : Type 0 where
      pub front : List R
      pub last : R
      pub allowed : AllAllowed step_of reads writes n (front ++ (last ∷ []))
      pub told : (op (after op σ front) last).1 ≡ (operate (after operate (view σ) ts) u).1

    follow : (σ : S) → Valid σ → Holding reads writes n (view σ) → (ts : List Step) (u : Step) → AllAllowed some reads writes n (ts ++ (u ∷ [])) → Follows σ ts u
    follow σ v H [] u ((t, e, a), A) =
        let b : Allowed reads writes n u = subst (Allowed reads writes n) (sym (some_inj e)) a in
        let z = spell u b in
        record { front = []; last = z.0; allowed = ((u, z.1, b), tt); told = (does σ v H z.0 u z.1 b).told }
    follow σ v H (t ∷ ts) u ((w, e, a), A) =
        let b : Allowed reads writes n t = subst (Allowed reads writes n) (sym (some_inj e)) a in
        let z = spell t b in
        let k : Follows (op σ z.0).0 ts u = follow (op σ z.0).0 (F.stays σ z.0 v) (does_next σ v H z.0 t z.1 b) ts u A in
        record {
          front = z.0 ∷ k.front;
          last = k.last;
          allowed = ((t, z.1, b), k.allowed);
          told = k.told ∙ ap (λ (τ : State). (operate (after operate τ ts) u).1) (does σ v H z.0 t z.1 b).left;
        }

    alert_answer : (σ : State) → Holding reads writes n σ → (t : Step) → Allowed reads writes n t → alerts t (entry σ t).row ≡ true → is_alert (operate σ t).1 ≡ true
    alert_answer σ H t a q =
        ap (λ (x : State × Answer). is_alert x.1) (operate_done σ t (passes reads writes n even few σ H t a))
        ∙ ap is_alert (verdict_alert t (entry σ t).row (never_blocks reads writes n even few σ H t a) q)

    alerting_run : (b : ℕ) → b < n → quiet_object reads writes n b ≡ false → (σ : S) → Valid σ → Holding reads writes n (view σ) → Owning reads writes n even few (view σ) → Alerting σ
    alerting_run b lb q σ v H O =
        let ts : List Step = first_steps reads writes n even few b lb q in
        let u : Step = last_step reads writes n even few b lb q in
        let k : Follows σ ts u = follow σ v H ts u (all_allowed reads writes n even few b lb q) in
        record {
          front = k.front;
          last = k.last;
          allowed = k.allowed;
          alert =
              ap is_alert k.told
              ∙ alert_answer (after operate (view σ) ts) (gathered_holding reads writes n even few b lb q (view σ) H O) u
              (last_allowed reads writes n even few b lb q) (last_alerts reads writes n even few b lb q (view σ) H O);
        }

    -- not silent: allowed records of which the last alerts
    pub not_silent_alerts : (σ : S) → Valid σ → Holding reads writes n (view σ) → Owning reads writes n even few (view σ) → silent reads writes n ≡ false → Alerting σ
    unfolding silent
    not_silent_alerts σ v H O e = let z : Miss (quiet_object reads writes n) n = all_miss (quiet_object reads writes n) n e in alerting_run z.place z.below z.fails σ v H O

    -- SILENT exactly when no list of allowed records raises an alert
    pub silent_exactly : (σ : S) → Valid σ → Holding reads writes n (view σ) → Owning reads writes n even few (view σ)
        → (silent reads writes n ≡ true) ↔ ((rs : List R) → AllAllowed step_of reads writes n rs → no_alert (answers op σ rs) ≡ true)
    silent_exactly σ v H O = (to, λ h. from h (decide (silent reads writes n)))
      where
        to : silent reads writes n ≡ true → (rs : List R) → AllAllowed step_of reads writes n rs → no_alert (answers op σ rs) ≡ true
        to e rs A = quiet_run (λ b l. all_at (quiet_object reads writes n) n b (unfold silent in e) l) σ v H rs A

        from : ((rs : List R) → AllAllowed step_of reads writes n rs → no_alert (answers op σ rs) ≡ true)
            → (silent reads writes n ≡ true) ⊎ (silent reads writes n ≡ false) → silent reads writes n ≡ true
        from h (inl e) = e
        from h (inr e) = let k : Alerting σ = not_silent_alerts σ v H O e in clash k.alert (quiet_last σ k.front k.last (h (k.front ++ (k.last ∷ [])) k.allowed))
