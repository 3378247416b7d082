-- What a request takes up, ends and receives, by its code.
use Prim.Native.Nat.{ℕ, ◌+◌, ◌<◌}
use mathlib.Core.Path.{◌≡◌, refl, sym, subst, ap}
use mathlib.Core.Bool.{Bool, true, false, cond}
use mathlib.Core.List.{List}
use mathlib.Core.Option.{some}
use lib.Dec.{leb}
use lib.ListN.{get_or}
use Rattle.image.specs.Limits.{container_limit}
use Rattle.chains.specs.History.{read, write, append, exec, fork, receiver}
use Rattle.chains.specs.Chains.{Item, data_atom, running_atom, run_rule}
use Rattle.records.specs.declared.Request.{Request}
use Rattle.records.specs.Codes.{read_code, write_code, append_code, exec_code, fork_code, end_code, step_with}
use Rattle.records.specs.Records.{step_in, Asked}
use Rattle.records.proofs.CodeLaws.{by_code, receiver_bound, step_read, step_write, step_append, step_exec, step_fork}
use Rattle.lists.proofs.Places.{some_inj, none_some}
use Rattle.witness.specs.Witness.{Source, source, takes_up, ends_item}
use Rattle.witness.specs.Nodes.{any_main, source_node, main_source, running_source, ends_main}
use Rattle.witness.proofs.NodeLaws.{StepWithin}

module _ (q : Request) where
  pub receiver_read : q.code ≡ read_code → q.p ≡ receiver (step_in q)
  receiver_read e = ap receiver (sym (step_read q e))

  pub receiver_exec : q.code ≡ exec_code → q.p ≡ receiver (step_in q)
  receiver_exec e = ap receiver (sym (step_exec q e))

  pub receiver_other : Asked q → (q.code ≡ read_code → ⊥) → (q.code ≡ exec_code → ⊥) → q.o ≡ receiver (step_in q)
  unfolding step_in step_with
  receiver_other a nr ne =
      by_code (λ q. (q.code ≡ read_code → ⊥) → (q.code ≡ exec_code → ⊥) → (q.code ≡ end_code → q.o ≡ q.p) → q.o ≡ receiver (step_in q))
      (λ p o u nr ne own. absurd (nr refl))
      (λ p o u nr ne own. refl)
      (λ p o u nr ne own. refl)
      (λ p o u nr ne own. absurd (ne refl))
      (λ p o u nr ne own. refl)
      (λ p o u nr ne own. refl)
      (λ p o u nr ne own. refl)
      (λ p o u nr ne own. own refl)
      (λ p o u nr ne own. refl)
      q a.code_low a.code_high nr ne a.own

  module _ (held : List ℕ) (b : Bool) where
    pub main_read : q.code ≡ read_code → get_or held q.o 0 ≡ main_source b held (step_in q)
    unfolding main_source
    main_read e = rw (step_read q e) (by b)
      where
        by : (b : Bool) → get_or held q.o 0 ≡ source_node held (takes_up (read q.p q.o) (any_main b))
        by true = refl
        by false = refl

    pub main_write : q.code ≡ write_code → get_or held q.p 0 ≡ main_source b held (step_in q)
    unfolding main_source
    main_write e = rw (step_write q e) (by b)
      where
        by : (b : Bool) → get_or held q.p 0 ≡ source_node held (takes_up (write q.p q.o) (any_main b))
        by true = refl
        by false = refl

    pub main_append : q.code ≡ append_code → get_or held q.p 0 ≡ main_source b held (step_in q)
    unfolding main_source
    main_append e = rw (step_append q e) (by b)
      where
        by : (b : Bool) → get_or held q.p 0 ≡ source_node held (takes_up (append q.p q.o) (any_main b))
        by true = refl
        by false = refl

    pub main_fork : q.code ≡ fork_code → get_or held q.p 0 ≡ main_source b held (step_in q)
    unfolding main_source
    main_fork e = rw (step_fork q e) (by b)
      where
        by : (b : Bool) → get_or held q.p 0 ≡ source_node held (takes_up (fork q.p q.o) (any_main b))
        by true = refl
        by false = refl

    pub main_exec_atom : q.code ≡ exec_code → b ≡ false → ◌≡◌ {A = ℕ} 0 (main_source b held (step_in q))
    unfolding main_source
    main_exec_atom e z = rw (step_exec q e, z)

    pub main_exec_rule : q.code ≡ exec_code → b ≡ true → get_or held q.o 0 ≡ main_source b held (step_in q)
    unfolding main_source
    main_exec_rule e z = rw (step_exec q e, z)

    pub main_none : Asked q → (q.code ≡ read_code → ⊥) → (q.code ≡ write_code → ⊥) → (q.code ≡ append_code → ⊥) → (q.code ≡ fork_code → ⊥)
        → (q.code ≡ exec_code → ⊥) → ◌≡◌ {A = ℕ} 0 (main_source b held (step_in q))
    unfolding step_in step_with main_source
    main_none a =
        by_code (λ q. (q.code ≡ read_code → ⊥) → (q.code ≡ write_code → ⊥) → (q.code ≡ append_code → ⊥) → (q.code ≡ fork_code → ⊥) → (q.code ≡ exec_code → ⊥) → ◌≡◌ {A = ℕ} 0
        (main_source b held (step_in q)))
        (λ p o u n1 n2 n3 n5 n4. absurd (n1 refl))
        (λ p o u n1 n2 n3 n5 n4. absurd (n2 refl))
        (λ p o u n1 n2 n3 n5 n4. absurd (n3 refl))
        (λ p o u n1 n2 n3 n5 n4. absurd (n4 refl))
        (λ p o u n1 n2 n3 n5 n4. absurd (n5 refl))
        (λ p o u n1 n2 n3 n5 n4. refl)
        (λ p o u n1 n2 n3 n5 n4. refl)
        (λ p o u n1 n2 n3 n5 n4. refl)
        (λ p o u n1 n2 n3 n5 n4. refl)
        q a.code_low a.code_high

    pub running_rule : b ≡ true → ◌≡◌ {A = ℕ} 0 (running_source b held (step_in q))
    unfolding running_source
    running_rule z = rw z

    pub running_exec : b ≡ false → q.code ≡ exec_code → get_or held q.o 0 ≡ running_source b held (step_in q)
    unfolding running_source
    running_exec z e = rw (z, step_exec q e)

    pub running_write : b ≡ false → q.code ≡ write_code → get_or held (container_limit + q.p) 0 ≡ running_source b held (step_in q)
    unfolding running_source
    running_write z e = rw (z, step_write q e)

    pub running_append : b ≡ false → q.code ≡ append_code → get_or held (container_limit + q.p) 0 ≡ running_source b held (step_in q)
    unfolding running_source
    running_append z e = rw (z, step_append q e)

    pub running_fork : b ≡ false → q.code ≡ fork_code → get_or held (container_limit + q.p) 0 ≡ running_source b held (step_in q)
    unfolding running_source
    running_fork z e = rw (z, step_fork q e)

    pub running_none : Asked q → (q.code ≡ exec_code → ⊥) → (q.code ≡ write_code → ⊥) → (q.code ≡ append_code → ⊥) → (q.code ≡ fork_code → ⊥)
        → ◌≡◌ {A = ℕ} 0 (running_source b held (step_in q))
    unfolding running_source step_in step_with
    running_none a n4 n2 n3 n5 = by b
      where
        none_taken : ◌≡◌ {A = ℕ} 0 (source_node held (takes_up (step_in q) (running_atom 0)))
        none_taken =
            by_code (λ q. (q.code ≡ exec_code → ⊥) → (q.code ≡ write_code → ⊥) → (q.code ≡ append_code → ⊥) → (q.code ≡ fork_code → ⊥) → ◌≡◌ {A = ℕ} 0
            (source_node held (takes_up (step_in q) (running_atom 0))))
            (λ p o u n4 n2 n3 n5. refl)
            (λ p o u n4 n2 n3 n5. absurd (n2 refl))
            (λ p o u n4 n2 n3 n5. absurd (n3 refl))
            (λ p o u n4 n2 n3 n5. absurd (n4 refl))
            (λ p o u n4 n2 n3 n5. absurd (n5 refl))
            (λ p o u n4 n2 n3 n5. refl)
            (λ p o u n4 n2 n3 n5. refl)
            (λ p o u n4 n2 n3 n5. refl)
            (λ p o u n4 n2 n3 n5. refl)
            q a.code_low a.code_high n4 n2 n3 n5

        by : (b : Bool) → ◌≡◌ {A = ℕ} 0 (cond b 0 (source_node held (takes_up (step_in q) (running_atom 0))))
        by true = refl
        by false = none_taken

  module _ (b : Bool) where
    pub ends_write : q.code ≡ write_code → true ≡ ends_main b (step_in q)
    unfolding ends_main
    ends_write e = rw (step_write q e) (by b)
      where
        by : (b : Bool) → true ≡ ends_item (write q.p q.o) (any_main b)
        by true = refl
        by false = refl

    pub ends_exec : q.code ≡ exec_code → b ≡ ends_main b (step_in q)
    unfolding ends_main
    ends_exec e = rw (step_exec q e) (by b)
      where
        by : (b : Bool) → b ≡ ends_item (exec q.p q.o q.u) (any_main b)
        by true = refl
        by false = refl

    pub ends_late : Asked q → (q.code ≡ write_code → ⊥) → (q.code ≡ exec_code → ⊥) → leb end_code q.code ≡ ends_main b (step_in q)
    unfolding step_in step_with ends_main
    ends_late a =
        by_code (λ q. (q.code ≡ write_code → ⊥) → (q.code ≡ exec_code → ⊥) → leb end_code q.code ≡ ends_main b (step_in q))
        (λ p o u n m. refl)
        (λ p o u n m. absurd (n refl))
        (λ p o u n m. refl)
        (λ p o u n m. absurd (m refl))
        (λ p o u n m. refl)
        (λ p o u n m. refl)
        (λ p o u n m. refl)
        (λ p o u n m. refl)
        (λ p o u n m. refl)
        q a.code_low a.code_high

  pub within : Asked q → StepWithin (step_in q)
  unfolding step_in step_with
  within a = record { to = receiver_bound q a; from = λ y. sources y }
    where
      at_o : (y x : Item) (o : ℕ) → o < container_limit → (t : Source) → some (source o x) ≡ some t → t.at < container_limit
      at_o y x o l t e = subst (λ (z : Source). z.at < container_limit) (some_inj e) l

      sources : (y : Item) (t : Source) → takes_up (step_in q) y ≡ some t → t.at < container_limit
      sources (data_atom d) =
          by_code (λ q. q.p < container_limit → q.o < container_limit → (t : Source) → takes_up (step_in q) (data_atom d) ≡ some t → t.at < container_limit)
          (λ p o u lp lo t e. at_o (data_atom d) (data_atom d) o lo t e)
          (λ p o u lp lo t e. at_o (data_atom d) (data_atom d) p lp t e)
          (λ p o u lp lo t e. at_o (data_atom d) (data_atom d) p lp t e)
          (λ p o u lp lo t e. absurd (none_some e))
          (λ p o u lp lo t e. at_o (data_atom d) (data_atom d) p lp t e)
          (λ p o u lp lo t e. absurd (none_some e))
          (λ p o u lp lo t e. absurd (none_some e))
          (λ p o u lp lo t e. absurd (none_some e))
          (λ p o u lp lo t e. absurd (none_some e))
          q a.code_low a.code_high a.process a.object
      sources (running_atom d) =
          by_code (λ q. q.p < container_limit → q.o < container_limit → (t : Source) → takes_up (step_in q) (running_atom d) ≡ some t → t.at < container_limit)
          (λ p o u lp lo t e. absurd (none_some e))
          (λ p o u lp lo t e. at_o (running_atom d) (running_atom d) p lp t e)
          (λ p o u lp lo t e. at_o (running_atom d) (running_atom d) p lp t e)
          (λ p o u lp lo t e. at_o (running_atom d) (data_atom d) o lo t e)
          (λ p o u lp lo t e. at_o (running_atom d) (running_atom d) p lp t e)
          (λ p o u lp lo t e. absurd (none_some e))
          (λ p o u lp lo t e. absurd (none_some e))
          (λ p o u lp lo t e. absurd (none_some e))
          (λ p o u lp lo t e. absurd (none_some e))
          q a.code_low a.code_high a.process a.object
      sources (run_rule r) =
          by_code (λ q. q.p < container_limit → q.o < container_limit → (t : Source) → takes_up (step_in q) (run_rule r) ≡ some t → t.at < container_limit)
          (λ p o u lp lo t e. at_o (run_rule r) (run_rule r) o lo t e)
          (λ p o u lp lo t e. at_o (run_rule r) (run_rule r) p lp t e)
          (λ p o u lp lo t e. at_o (run_rule r) (run_rule r) p lp t e)
          (λ p o u lp lo t e. at_o (run_rule r) (run_rule r) o lo t e)
          (λ p o u lp lo t e. at_o (run_rule r) (run_rule r) p lp t e)
          (λ p o u lp lo t e. absurd (none_some e))
          (λ p o u lp lo t e. absurd (none_some e))
          (λ p o u lp lo t e. absurd (none_some e))
          (λ p o u lp lo t e. absurd (none_some e))
          q a.code_low a.code_high a.process a.object
