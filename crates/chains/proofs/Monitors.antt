-- The whole list: after any records the state stands for the chains of the history, so each answer tells what they ask for.
use Prim.Native.Nat.{ℕ, suc, zero, ◌+◌, ◌-◌, ◌<◌}
use native.Mathlib.Omega.{arith}
use native.Mathlib.Decide.{dec_lt}
use mathlib.Core.Path.{◌≡◌, refl, sym, subst, ◌∙◌, ap}
use mathlib.Core.Logic.{◌⊎◌, inl, inr, ◌↔◌, ⊎_elim}
use mathlib.Core.Bool.{Bool, true, false, not, cond, ◌&&◌}
use mathlib.Core.List.{List, [], ◌∷◌, ◌++◌}
use mathlib.Core.Option.{Option, none, some}
use lib.Dec.{eqb}
use lib.ListN.{take}
use borrow.Author.Tests.{eqb-true, eqb-false}
use Rattle.rules.specs.Sets.{atom}
use Rattle.rules.specs.Rules.{covers}
use Rattle.lists.specs.Lists.{elem}
use Rattle.rules.specs.Answers.{data_width}
use Rattle.lists.proofs.Bools.{and_in, and_0, or_0, or_cases, clash, refuted, decide}
use Rattle.image.specs.Limits.{is_free, is_guarded, is_file, is_store}
use Rattle.image.specs.Policy.{Policy}
use Rattle.chains.specs.History.{Step, read, write, append, exec, fork, new_file, new_volatile, end, delete, History, ◌▸◌, receiver}
use Rattle.lists.specs.Conditions.{first_failed}
use Rattle.chains.specs.Chains.{UserRule, Item, data_atom, running_atom, Chain, Governs, Reaches, Forbidden}
use Rattle.answers.specs.declared.Answer.{Answer}
use Rattle.answers.specs.Answers.{accepted, is_alert, is_blocked, is_refused, receiver_of, tag_of}
use Rattle.answers.proofs.Cases.{accepted_given, blocked_given, unaccepted_cases}
use Rattle.chains.specs.Demand.{judged, extend, after, history_from, AcceptedAt, GivenAt, BlockedTold, Taken}
use Rattle.chains.specs.Guards.{guarded, writing, written_into}
use Rattle.chains.specs.Table.{
  State,
  free_row,
  read_row,
  write_row,
  append_row,
  exec_row,
  fork_row,
  new_file_row,
  new_volatile_row,
  rule_or,
  entry,
  process_good,
  object_good,
  user_good,
  table_conditions,
  alerts,
  blocks,
  verdict,
  placed,
  operate,
  Faithful,
}
use Rattle.session.specs.Rows.{Row}
use Rattle.chains.proofs.Exact.{Exact, covers_in, covers_out, Tagged, tagged_none}
use Rattle.chains.proofs.Rows.{Good, RowOk, other, read_good, write_good, append_good, exec_good, fork_good, new_file_good, new_volatile_good}
use Rattle.lists.proofs.Places.{some_inj, none_some}
use Rattle.image.proofs.KindLaws.{process_used, guarded_used, file_used, store_used, free_kinds_lem}
use Rattle.chains.proofs.TableStates.{Passed, passed, operate_done, operate_given, rule_declared}
use Rattle.chains.proofs.ThreeAnswers.{verdict_blocked, verdict_alert, verdict_quiet, verdict_receiver, verdict_tag, blocked_blocks, accepted_put, alert_alerts, left_put, left_blocked}
use Rattle.chains.proofs.GuardLaws.{Guarding, guarding_other, guarded_written, guards_next, guarded_stays, guarding_next}
use Rattle.chains.proofs.Steps.{end_none, delete_none, new_file_none, new_file_rules, new_volatile_none, new_volatile_rules, fork_chains, fork_rules}
use Rattle.chains.proofs.Start.{Inv}

-- ---- blocked accesses: of any state

-- one that is blocked is a write or an append, and changes nothing
operate_blocked : (σ : State) (s : Step) → is_blocked (operate σ s).1 ≡ true → ((operate σ s).0 ≡ σ) × (writing s ≡ true)
unfolding blocks
operate_blocked σ s k =
    let e : first_failed (table_conditions σ s) ≡ 0 = operate_given σ s (blocked_given (operate σ s).1 k) in
    let b : blocks s (entry σ s).row ≡ true = blocked_blocks s (entry σ s).row (ap (λ (x : State × Answer). is_blocked x.1) (sym (operate_done σ s e)) ∙ k) in (
      ap (λ (x : State × Answer). x.0) (operate_done σ s e) ∙ left_blocked s (entry σ s).row σ b,
      guarded_written σ s (passed σ s e) (and_0 (is_guarded (entry σ s).row.kind) (alerts s (entry σ s).row) b),
    )

module _ {S R : Type 0} (op : S → R → S × Answer) (step_of : R → Option Step) (view : S → State) (Valid : S → Type 0) (F : Faithful op step_of view Valid) where
  -- a blocked record spells a write or an append, and leaves the state
  pub op_blocked : (σ : S) → Valid σ → (r : R) → is_blocked (op σ r).1 ≡ true → (s : Step) × (step_of r ≡ some s) × (view (op σ r).0 ≡ view σ) × (writing s ≡ true)
  op_blocked σ ok r b =
      let f : (s : Step) × (step_of r ≡ some s) × (view (op σ r).0 ≡ (operate (view σ) s).0) × ((op σ r).1 ≡ (operate (view σ) s).1) = F.answering σ r ok (blocked_given (op σ r).1 b) in
      let k : ((operate (view σ) f.0).0 ≡ view σ) × (writing f.0 ≡ true) = operate_blocked (view σ) f.0 (ap is_blocked (sym f.3) ∙ b) in
      (f.0, f.1, f.2 ∙ k.0, k.1)

module _ (P : Policy) where
  -- ---- one step

  -- what the row put for the receiver is after the step
  pub record Put (h : History) (s : Step) (w : Row) : Type 0 where
    pub ok : RowOk P (h ▸ s) (receiver s) w
    pub tag : Tagged (λ d. Chain P (h ▸ s) (data_atom d) (receiver s)) (λ d. Chain P (h ▸ s) (running_atom d) (receiver s)) w.tag
    pub permit : judged s ≡ true → Exact (λ r. Governs P (h ▸ s) (receiver s) r) w.permit

  used : (h : History) (s : Step) (w : Row) → is_free w.kind ≡ false → Good P (h ▸ s) (receiver s) w → Put h s w
  used h s w e g = record { ok = record { empty = λ f. clash f e; good = λ f. g }; tag = g.tag; permit = λ j. g.permit }

  -- a free row, for what left
  left : (h : History) (s : Step) → judged s ≡ false → ((x : Item) → ¬ Chain P (h ▸ s) x (receiver s)) → Put h s free_row
  unfolding free_row is_free
  left h s j gone = record {
    ok = record { empty = λ f. gone; good = λ f. clash refl f };
    tag = tagged_none (λ d. gone (data_atom d)) (λ d. gone (running_atom d));
    permit = λ k. clash k j;
  }

  -- the row of the table, by its clauses
  puts : (h : History) (σ : State) → Inv P h σ → (s : Step) → Passed σ s → Put h s (entry σ s).row
  unfolding entry read_row write_row append_row exec_row fork_row new_file_row new_volatile_row process_good object_good user_good is_free is_file is_store
  puts h σ I (read p o) g =
      let up : is_free (σ.row p).kind ≡ false = process_used (σ.row p).kind g.process in
      let uo : is_free (σ.row o).kind ≡ false = store_used (σ.row o).kind g.object in
      used h (read p o) _ up (read_good P h p o (σ.row p) (σ.row o) ((I.rows p).good up) ((I.rows o).good uo))
  puts h σ I (write p o) g =
      let up : is_free (σ.row p).kind ≡ false = process_used (σ.row p).kind g.process in
      let uo : is_free (σ.row o).kind ≡ false = store_used (σ.row o).kind g.object in
      used h (write p o) _ uo (write_good P h p o (σ.row p) (σ.row o) ((I.rows p).good up) ((I.rows o).good uo))
  puts h σ I (append p o) g =
      let up : is_free (σ.row p).kind ≡ false = process_used (σ.row p).kind g.process in
      let uo : is_free (σ.row o).kind ≡ false = store_used (σ.row o).kind g.object in
      used h (append p o) _ uo (append_good P h p o (σ.row p) (σ.row o) ((I.rows p).good up) ((I.rows o).good uo))
  puts h σ I (exec p o u) g =
      let up : is_free (σ.row p).kind ≡ false = process_used (σ.row p).kind g.process in
      let uo : is_free (σ.row o).kind ≡ false = file_used (σ.row o).kind g.object in
      let gu : Exact (λ r. UserRule P u r) (rule_or (σ.user u)) = I.users u (rule_or (σ.user u)) (rule_declared (σ.user u) g.user) in
      used h (exec p o u) _ up (exec_good P h p o (σ.row p) (σ.row o) u (rule_or (σ.user u)) ((I.rows p).good up) ((I.rows o).good uo) gu)
  puts h σ I (fork p o) g =
      let up : is_free (σ.row p).kind ≡ false = process_used (σ.row p).kind g.process in
      used h (fork p o) _ up (fork_good P h p o (σ.row p) (σ.row o) ((I.rows o).empty (sym (free_kinds_lem (σ.row o).kind) ∙ g.object)) ((I.rows p).good up))
  puts h σ I (new_file p o u) g =
      let gu : Exact (λ r. UserRule P u r) (rule_or (σ.user u)) = I.users u (rule_or (σ.user u)) (rule_declared (σ.user u) g.user) in
      used h (new_file p o u) _ refl (new_file_good P h p o (σ.row p) (σ.row o) u (rule_or (σ.user u)) ((I.rows o).empty (sym (free_kinds_lem (σ.row o).kind) ∙ g.object)) gu)
  puts h σ I (new_volatile p o) g =
      used h (new_volatile p o) _ refl (new_volatile_good P h p o (σ.row p) (σ.row o) ((I.rows o).empty (sym (free_kinds_lem (σ.row o).kind) ∙ g.object)))
  puts h σ I (end p) g = left h (end p) refl (end_none P h p)
  puts h σ I (delete p o) g = left h (delete p o) refl (delete_none P h p o)

  -- what stands right after a free number is taken
  taken : (h : History) (σ : State) → Inv P h σ → (s : Step) → Passed σ s → Taken P h s
  unfolding entry object_good
  taken h σ I (read p o) g = tt
  taken h σ I (write p o) g = tt
  taken h σ I (append p o) g = tt
  taken h σ I (exec p o u) g = tt
  taken h σ I (fork p o) g = (fork_chains P h p o ((I.rows o).empty (sym (free_kinds_lem (σ.row o).kind) ∙ g.object)), fork_rules P h p o)
  taken h σ I (new_file p o u) g = (new_file_none P h p o u ((I.rows o).empty (sym (free_kinds_lem (σ.row o).kind) ∙ g.object)), new_file_rules P h p o u)
  taken h σ I (new_volatile p o) g = (new_volatile_none P h p o ((I.rows o).empty (sym (free_kinds_lem (σ.row o).kind) ∙ g.object)), new_volatile_rules P h p o)
  taken h σ I (end p) g = tt
  taken h σ I (delete p o) g = tt

  -- the row that a step puts, and every other
  placed_ok : (h : History) (σ : State) → Inv P h σ → (s : Step) (w : Row) → Put h s w → Guarding P (h ▸ s) (receiver s) w → Inv P (h ▸ s) (placed σ (receiver s) w)
  unfolding placed
  placed_ok h σ I s w g q = record { rows = λ x. at x (eqb x (receiver s)) refl; users = I.users; guarding = λ x. on x (eqb x (receiver s)) refl }
    where
      at : (x : ℕ) (b : Bool) → eqb x (receiver s) ≡ b → RowOk P (h ▸ s) x (cond b w (σ.row x))
      at x true e = subst (λ (z : ℕ). RowOk P (h ▸ s) z w) (sym (eqb-true x (receiver s) e)) g.ok
      at x false e = other P h s x (σ.row x) (eqb-false x (receiver s) e) (I.rows x)

      on : (x : ℕ) (b : Bool) → eqb x (receiver s) ≡ b → Guarding P (h ▸ s) x (cond b w (σ.row x))
      on x true e = subst (λ (z : ℕ). Guarding P (h ▸ s) z w) (sym (eqb-true x (receiver s) e)) q
      on x false e = guarding_other P h s x (σ.row x) (eqb-false x (receiver s) e) (I.guarding x)

  -- ---- the answer

  -- the answer to the step s tells the truth about the chains of h into the receiver
  pub record Told (h : History) (s : Step) (a : Answer) : Type 0 where
    pub at : receiver_of a ≡ receiver s
    pub tag : (k : ℕ) → (atom (tag_of a) k ≡ 1) ↔ Reaches P h k (receiver s)
    pub verdict : judged s ≡ true → (is_alert a ≡ true) ↔ Forbidden P h (receiver s)

  module _ (h : History) (c : ℕ) (t : ℕ) (g : Tagged (λ d. Chain P h (data_atom d) c) (λ d. Chain P h (running_atom d) c) t) where
    -- the tag is the information for which there is a chain
    reaches : (k : ℕ) → (atom t k ≡ 1) ↔ Reaches P h k c
    reaches k = (λ e. to (dec_lt k data_width) e, from)
      where
        to : Dec (k < data_width) → atom t k ≡ 1 → Reaches P h k c
        to (yes l) e = inl (g.low k l e)
        to (no l) e =
            let q : k ≡ (k - data_width) + data_width = omega arith in
            inr (k - data_width, q, g.high (k - data_width) (subst (λ (x : ℕ). atom t x ≡ 1) q e))

        from : Reaches P h k c → atom t k ≡ 1
        from (inl ch) = (g.low_in k ch).1
        from (inr (d, q, ch)) = subst (λ (x : ℕ). atom t x ≡ 1) (sym q) (g.high_in d ch)

    -- the permit rule does not cover the tag: some governing rule forbids what the chains bring
    uncovered : (w : List ℕ) → Exact (λ r. Governs P h c r) w → covers w t ≡ false → Forbidden P h c
    uncovered w x e =
        let q : (r : List ℕ) × Governs P h c r × (covers r t ≡ false) = x.fails t g.wide e in
        (q.0, q.1, λ m mem ha. clash (covers_in q.0 t m mem (λ k z. ha k ((reaches k).0 z))) q.2)

    -- it does: none does
    covered : (w : List ℕ) → Exact (λ r. Governs P h c r) w → covers w t ≡ true → ¬ Forbidden P h c
    covered w x e (r, gr, nm) =
        let q : (m : ℕ) × (elem m r ≡ true) × ((k : ℕ) → atom t k ≡ 1 → atom m k ≡ 1) = covers_out r t (x.holds t e r gr) in
        nm q.0 q.1 (λ k z. q.2 k ((reaches k).1 z))

  -- of a step that is not refused, whether it is made or blocked
  answered : (h : History) (s : Step) (w : Row) → Put h s w → is_guarded w.kind ≡ guarded P (h ▸ s) (receiver s) → judged s ≡ true → BlockedTold P h s (verdict s w)
  unfolding alerts blocks
  answered h s w g q j = on (decide (is_guarded w.kind)) (decide (covers w.permit w.tag))
    where
      info : (k : ℕ) → (atom w.tag k ≡ 1) ↔ Reaches P (h ▸ s) k (receiver s)
      info = reaches (h ▸ s) (receiver s) w.tag g.tag

      forbidden : covers w.permit w.tag ≡ false → Forbidden P (h ▸ s) (receiver s)
      forbidden e = uncovered (h ▸ s) (receiver s) w.tag g.tag w.permit (g.permit j) e

      permitted : covers w.permit w.tag ≡ true → ¬ Forbidden P (h ▸ s) (receiver s)
      permitted e = covered (h ▸ s) (receiver s) w.tag g.tag w.permit (g.permit j) e

      alerting : covers w.permit w.tag ≡ false → alerts s w ≡ true
      alerting e = and_in j (ap not e)

      resting : covers w.permit w.tag ≡ true → alerts s w ≡ false
      resting e = ap (λ b. judged s && not b) e ∙ ap (λ b. b && false) j

      on : (is_guarded w.kind ≡ true) ⊎ (is_guarded w.kind ≡ false) → (covers w.permit w.tag ≡ true) ⊎ (covers w.permit w.tag ≡ false) → BlockedTold P h s (verdict s w)
      on x (inl e) =
          subst (BlockedTold P h s) (sym (verdict_quiet s w (resting e)))
          (record { told = (λ z. clash z refl, λ z. absurd (permitted e z)); blocks = (λ z. clash z refl, λ z. absurd (permitted e z.0)); at = refl; tag = info })
      on (inl x) (inr e) =
          subst (BlockedTold P h s) (sym (verdict_blocked s w (and_in x (alerting e))))
          (record { told = (λ z. forbidden e, λ z. refl); blocks = (λ z. (forbidden e, sym q ∙ x), λ z. refl); at = refl; tag = info })
      on (inr x) (inr e) =
          subst (BlockedTold P h s) (sym (verdict_alert s w (ap (λ b. b && alerts s w) x) (alerting e)))
          (record { told = (λ z. forbidden e, λ z. refl); blocks = (λ z. clash z refl, λ z. clash (q ∙ z.1) x); at = refl; tag = info })

  -- of one that is made
  told : (h : History) (s : Step) (w : Row) → Put h s w → is_guarded w.kind ≡ guarded P (h ▸ s) (receiver s) → blocks s w ≡ false → Told (h ▸ s) s (verdict s w)
  told h s w g q free = record {
    at = verdict_receiver s w;
    tag = λ k. rw (verdict_tag s w) (reaches (h ▸ s) (receiver s) w.tag g.tag k);
    verdict = λ j. (
      λ z. (answered h s w g q j).told.0 (or_0 (is_alert (verdict s w)) (is_blocked (verdict s w)) z),
      λ z. ⊎_elim (λ x. x) (λ x. clash (blocked_blocks s w x) free) (or_cases (is_alert (verdict s w)) ((answered h s w g q j).told.1 z)),
    );
  }

  -- ---- an accepted operation

  pub record Stepped (h : History) (s : Step) (τ : State) (a : Answer) : Type 0 where
    pub inv : Inv P (h ▸ s) τ
    pub told : Told (h ▸ s) s a

  operate_ok : (h : History) (σ : State) → Inv P h σ → (s : Step) → accepted (operate σ s).1 ≡ true → Stepped h s (operate σ s).0 (operate σ s).1
  operate_ok h σ I s a =
      let e : first_failed (table_conditions σ s) ≡ 0 = operate_given σ s (accepted_given (operate σ s).1 a) in
      let w : Row = (entry σ s).row in
      let g : Put h s w = puts h σ I s (passed σ s e) in
      let q : is_guarded w.kind ≡ guarded P (h ▸ s) (receiver s) = guards_next P h σ I.guarding s (passed σ s e) in
      let f : blocks s w ≡ false = accepted_put s w (ap (λ (x : State × Answer). accepted x.1) (sym (operate_done σ s e)) ∙ a) in
      subst (λ (x : State × Answer). Stepped h s x.0 x.1) (sym (operate_done σ s e)) (record {
        inv = subst (Inv P (h ▸ s)) (sym (left_put s w σ f)) (placed_ok h σ I s w g (guarding_next P h σ I.guarding s (passed σ s e) f));
        told = told h s w g q f;
      })

  -- one that is not refused
  operate_told : (h : History) (σ : State) → Inv P h σ → (s : Step) → is_refused (operate σ s).1 ≡ false → judged s ≡ true → BlockedTold P h s (operate σ s).1
  operate_told h σ I s r j =
      let e : first_failed (table_conditions σ s) ≡ 0 = operate_given σ s r in
      subst (λ (x : State × Answer). BlockedTold P h s x.1) (sym (operate_done σ s e))
      (answered h s (entry σ s).row (puts h σ I s (passed σ s e)) (guards_next P h σ I.guarding s (passed σ s e)) j)

  -- an accepted one raises no alert at a guarded file
  operate_spared : (h : History) (σ : State) → Inv P h σ → (s : Step) → accepted (operate σ s).1 ≡ true → guarded P h (receiver s) ≡ true → is_alert (operate σ s).1 ≡ false
  unfolding blocks alerts
  operate_spared h σ I s a q =
      let e : first_failed (table_conditions σ s) ≡ 0 = operate_given σ s (accepted_given (operate σ s).1 a) in
      let w : Row = (entry σ s).row in
      let f : blocks s w ≡ false = accepted_put s w (ap (λ (x : State × Answer). accepted x.1) (sym (operate_done σ s e)) ∙ a) in
      refuted (is_alert (operate σ s).1) (λ k.
      let z : alerts s w ≡ true = alert_alerts s w (ap (λ (x : State × Answer). is_alert x.1) (sym (operate_done σ s e)) ∙ k) in
      let j : judged s ≡ true = and_0 (judged s) (not (covers w.permit w.tag)) z in
      let y : is_guarded w.kind ≡ true = guards_next P h σ I.guarding s (passed σ s e) ∙ guarded_stays P h σ I.guarding s (passed σ s e) j q in
      clash (and_in y z) f)

  -- the row of a guarded file into which something was written is permitted what it holds
  pub holds_after : (h : History) (σ : State) → Inv P h σ → (c : ℕ) → guarded P h c ≡ true → written_into h c ≡ true → ¬ Forbidden P h c
  holds_after h σ I c q k =
      let used : is_free (σ.row c).kind ≡ false = guarded_used (σ.row c).kind ((I.guarding c).guards ∙ q) in
      let g : Good P h c (σ.row c) = (I.rows c).good used in
      covered h c (σ.row c).tag g.tag (σ.row c).permit g.permit ((I.guarding c).covered q k)

  -- ---- a monitor that follows the table

  module _ {S R : Type 0} (op : S → R → S × Answer) (step_of : R → Option Step) (view : S → State) (Valid : S → Type 0) (F : Faithful op step_of view Valid) where
    -- an accepted record, wherever it stands
    op_accepted : (h : History) (σ : S) → Valid σ → Inv P h (view σ) → (r : R) → accepted (op σ r).1 ≡ true
        → (s : Step) × (step_of r ≡ some s) × Stepped h s (view (op σ r).0) (op σ r).1
    op_accepted h σ ok I r e =
        let f : (s : Step) × (step_of r ≡ some s) × (view (op σ r).0 ≡ (operate (view σ) s).0) × ((op σ r).1 ≡ (operate (view σ) s).1) = F.answering σ r ok (accepted_given (op σ r).1 e) in (
          f.0,
          f.1,
          subst (λ (τ : State). Stepped h f.0 τ (op σ r).1) (sym f.2)
              (subst (λ (a : Answer). Stepped h f.0 (operate (view σ) f.0).0 a) (sym f.3) (operate_ok h (view σ) I f.0 (ap accepted (sym f.3) ∙ e))),
        )

    refused_extend : (h : History) (m : Option Step) → extend h m false ≡ h
    refused_extend h none = refl
    refused_extend h (some s) = refl

    op_ok : (h : History) (σ : S) → Valid σ → Inv P h (view σ) → (r : R) → Inv P (extend h (step_of r) (accepted (op σ r).1)) (view (op σ r).0)
    op_ok h σ ok I r = on (accepted (op σ r).1) refl
      where
        same : (is_blocked (op σ r).1 ≡ true) ⊎ (is_refused (op σ r).1 ≡ true) → view (op σ r).0 ≡ view σ
        same (inl q) = (op_blocked op step_of view Valid F σ ok r q).2
        same (inr q) = F.refusing σ r ok q

        on : (b : Bool) → accepted (op σ r).1 ≡ b → Inv P (extend h (step_of r) b) (view (op σ r).0)
        on false e =
            subst (λ (x : History). Inv P x (view (op σ r).0)) (sym (refused_extend h (step_of r)))
            (subst (λ (τ : State). Inv P h τ) (sym (same (unaccepted_cases (op σ r).1 e))) I)
        on true e =
            let f : (s : Step) × (step_of r ≡ some s) × Stepped h s (view (op σ r).0) (op σ r).1 = op_accepted h σ ok I r e in
            subst (λ (m : Option Step). Inv P (extend h m true) (view (op σ r).0)) (sym f.1) f.2.inv

    op_told : (h : History) (σ : S) → Valid σ → Inv P h (view σ) → (r : R) (s : Step) → step_of r ≡ some s → accepted (op σ r).1 ≡ true
        → Told (extend h (step_of r) (accepted (op σ r).1)) s (op σ r).1
    op_told h σ ok I r s es e =
        let f : (s : Step) × (step_of r ≡ some s) × Stepped h s (view (op σ r).0) (op σ r).1 = op_accepted h σ ok I r e in
        subst (λ (b : Bool). Told (extend h (step_of r) b) s (op σ r).1) (sym e)
        (subst (λ (m : Option Step). Told (extend h m true) s (op σ r).1) (sym es)
        (subst (λ (t : Step). Told (h ▸ t) t (op σ r).1) (some_inj (sym f.1 ∙ es)) f.2.told))

    -- the state after a whole list stands for the chains of its history
    pub inv_after : (h : History) (σ : S) → Valid σ → Inv P h (view σ) → (rs : List R) → Inv P (history_from op step_of h σ rs) (view (after op σ rs))
    inv_after h σ ok I [] = I
    inv_after h σ ok I (r ∷ rs) = inv_after (extend h (step_of r) (accepted (op σ r).1)) (op σ r).0 (F.stays σ r ok) (op_ok h σ ok I r) rs

    -- each accepted record of a list is answered with the truth
    pub told_at : (h : History) (σ : S) → Valid σ → Inv P h (view σ) → (rs : List R) (n : ℕ) (s : Step) (a : Answer) → AcceptedAt op step_of σ rs n s a
        → Told (history_from op step_of h σ (take (suc n) rs)) s a
    told_at h σ ok I [] n s a A = absurd (none_some A.answered)
    told_at h σ ok I (q ∷ rs) zero s a A =
        let ea : (op σ q).1 ≡ a = some_inj A.answered in
        subst (λ (x : Answer). Told (extend h (step_of q) (accepted (op σ q).1)) s x) ea
        (op_told h σ ok I q s (ap step_of (some_inj A.spelled.1) ∙ A.spelled.2) (ap accepted ea ∙ A.accepting))
    told_at h σ ok I (q ∷ rs) (suc n) s a A =
        told_at (extend h (step_of q) (accepted (op σ q).1)) (op σ q).0 (F.stays σ q ok) (op_ok h σ ok I q) rs n s a
        (record { spelled = A.spelled; answered = A.answered; accepting = A.accepting })

    -- each accepted record of a list that takes a free number begins it with nothing of its past
    pub taken_at : (h : History) (σ : S) → Valid σ → Inv P h (view σ) → (rs : List R) (n : ℕ) (s : Step) (a : Answer) → AcceptedAt op step_of σ rs n s a
        → Taken P (history_from op step_of h σ (take n rs)) s
    taken_at h σ ok I [] n s a A = absurd (none_some A.answered)
    taken_at h σ ok I (q ∷ rs) zero s a A =
        let e : accepted (op σ q).1 ≡ true = ap accepted (some_inj A.answered) ∙ A.accepting in
        let f : (t : Step) × (step_of q ≡ some t) × (view (op σ q).0 ≡ (operate (view σ) t).0) × ((op σ q).1 ≡ (operate (view σ) t).1) = F.answering σ q ok (accepted_given (op σ q).1 e) in
        let es : f.0 ≡ s = some_inj (sym f.1 ∙ ap step_of (some_inj A.spelled.1) ∙ A.spelled.2) in
        subst (Taken P h) es (taken h (view σ) I f.0 (passed (view σ) f.0 (operate_given (view σ) f.0 (accepted_given (operate (view σ) f.0).1 (ap accepted (sym f.3) ∙ e)))))
    taken_at h σ ok I (q ∷ rs) (suc n) s a A =
        taken_at (extend h (step_of q) (accepted (op σ q).1)) (op σ q).0 (F.stays σ q ok) (op_ok h σ ok I q) rs n s a
        (record { spelled = A.spelled; answered = A.answered; accepting = A.accepting })

    -- each record of a list that is not refused is answered with the truth about what it would bring
    pub given_at : (h : History) (σ : S) → Valid σ → Inv P h (view σ) → (rs : List R) (n : ℕ) (s : Step) (a : Answer) → GivenAt op step_of σ rs n s a → judged s ≡ true
        → BlockedTold P (history_from op step_of h σ (take n rs)) s a
    given_at h σ ok I [] n s a A j = absurd (none_some A.answered)
    given_at h σ ok I (q ∷ rs) zero s a A j =
        let ea : (op σ q).1 ≡ a = some_inj A.answered in
        let e : is_refused (op σ q).1 ≡ false = ap is_refused ea ∙ A.given in
        let f : (t : Step) × (step_of q ≡ some t) × (view (op σ q).0 ≡ (operate (view σ) t).0) × ((op σ q).1 ≡ (operate (view σ) t).1) = F.answering σ q ok e in
        let es : f.0 ≡ s = some_inj (sym f.1 ∙ ap step_of (some_inj A.spelled.1) ∙ A.spelled.2) in
        let d : (op σ q).1 ≡ (operate (view σ) s).1 = f.3 ∙ ap (λ (t : Step). (operate (view σ) t).1) es in
        subst (BlockedTold P h s) (sym d ∙ ea) (operate_told h (view σ) I s (ap is_refused (sym d) ∙ e) j)
    given_at h σ ok I (q ∷ rs) (suc n) s a A j =
        given_at (extend h (step_of q) (accepted (op σ q).1)) (op σ q).0 (F.stays σ q ok) (op_ok h σ ok I q) rs n s a
        (record { spelled = A.spelled; answered = A.answered; given = A.given }) j

    -- each accepted record of a list raises no alert at a guarded file
    pub spared_at : (h : History) (σ : S) → Valid σ → Inv P h (view σ) → (rs : List R) (n : ℕ) (s : Step) (a : Answer) → AcceptedAt op step_of σ rs n s a
        → guarded P (history_from op step_of h σ (take n rs)) (receiver s) ≡ true → is_alert a ≡ false
    spared_at h σ ok I [] n s a A k = absurd (none_some A.answered)
    spared_at h σ ok I (q ∷ rs) zero s a A k =
        let ea : (op σ q).1 ≡ a = some_inj A.answered in
        let e : accepted (op σ q).1 ≡ true = ap accepted ea ∙ A.accepting in
        let f : (t : Step) × (step_of q ≡ some t) × (view (op σ q).0 ≡ (operate (view σ) t).0) × ((op σ q).1 ≡ (operate (view σ) t).1) = F.answering σ q ok (accepted_given (op σ q).1 e) in
        let es : f.0 ≡ s = some_inj (sym f.1 ∙ ap step_of (some_inj A.spelled.1) ∙ A.spelled.2) in
        ap is_alert (sym ea ∙ f.3)
        ∙ operate_spared h (view σ) I f.0 (ap accepted (sym f.3) ∙ e) (ap (λ (t : Step). guarded P h (receiver t)) es ∙ k)
    spared_at h σ ok I (q ∷ rs) (suc n) s a A k =
        spared_at (extend h (step_of q) (accepted (op σ q).1)) (op σ q).0 (F.stays σ q ok) (op_ok h σ ok I q) rs n s a
        (record { spelled = A.spelled; answered = A.answered; accepting = A.accepting }) k

-- the history of a list of records begins with the history of its first records
pub history_from_append : {S R : Type 0} (op : S → R → S × Answer) (step_of : R → Option Step) (h : History) (σ : S) (rs qs : List R)
    → history_from op step_of h σ (rs ++ qs) ≡ history_from op step_of (history_from op step_of h σ rs) (after op σ rs) qs
history_from_append op step_of h σ [] qs = refl
history_from_append op step_of h σ (r ∷ rs) qs = history_from_append op step_of (extend h (step_of r) (accepted (op σ r).1)) (op σ r).0 rs qs
