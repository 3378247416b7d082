-- The row of a container stands for the chains into it and the rules governing it; each row of the table keeps that.
use Prim.Native.Nat.{ℕ}
use mathlib.Core.Path.{◌≡◌, refl, sym, ◌∙◌}
use mathlib.Core.Logic.{◌⊎◌, inl, inr, ◌≢◌}
use mathlib.Core.Bool.{true, false}
use mathlib.Core.List.{List}
use Rattle.image.specs.Limits.{is_free}
use Rattle.image.specs.Policy.{Policy}
use Rattle.chains.specs.History.{
  Step,
  read,
  write,
  append,
  exec,
  fork,
  new_file,
  new_volatile,
  History,
  ◌▸◌,
  receiver,
}
use Rattle.chains.specs.Chains.{
  UserRule,
  Item,
  data_atom,
  running_atom,
  run_rule,
  read_atom,
  read_rule,
  write_any,
  append_any,
  write_ends,
  Chain,
  Governs,
}
use Rattle.chains.specs.Table.{read_row, write_row, append_row, exec_row, fork_row, new_file_row, new_volatile_row}
use Rattle.session.specs.Rows.{Row}
use Rattle.chains.specs.Behalf.{on_behalf}
use Rattle.chains.proofs.Exact.{
  Exact,
  exact_map,
  exact_unrestricted,
  exact_meet,
  Tagged,
  tagged_map,
  tagged_none,
  tagged_union,
  tagged_data,
  tagged_running,
}
use Rattle.chains.proofs.Steps.{
  read_brings,
  read_ends,
  append_ends,
  other_back,
  other_on,
  other_rules_back,
  other_rules_on,
  read_atom_from,
  read_rule_from,
  write_from,
  append_from,
  came,
  stay,
  carry,
  exec_data,
  exec_running,
  exec_run_rule,
  new_file_none,
  new_file_rules,
  new_volatile_none,
  new_volatile_rules,
  fork_chains,
  fork_rules,
  behalf_other,
  behalf_exec,
  behalf_fork,
  behalf_file,
  behalf_volatile,
}

module _ (P : Policy) where
  -- a row in use
  pub record Good (h : History) (c : ℕ) (w : Row) : Type 0 where
    pub tag : Tagged (λ d. Chain P h (data_atom d) c) (λ d. Chain P h (running_atom d) c) w.tag
    pub run : Exact (λ r. Chain P h (run_rule r) c) w.run
    pub permit : Exact (λ r. Governs P h c r) w.permit
    pub behalf : w.behalf ≡ on_behalf h c

  -- any row: no chain leads into a free one
  pub record RowOk (h : History) (c : ℕ) (w : Row) : Type 0 where
    pub empty : is_free w.kind ≡ true → (x : Item) → ¬ Chain P h x c
    pub good : is_free w.kind ≡ false → Good h c w

  module _ (h : History) where
    pub other : (s : Step) (c : ℕ) (w : Row) → c ≢ receiver s → RowOk h c w → RowOk (h ▸ s) c w
    other s c w ne k = record {
      empty = λ e x ch. k.empty e x (other_back P h s c ne x ch);
      good = λ e. record {
        tag =
            tagged_map
            (λ d. other_on P h s c ne (data_atom d)) (λ d. other_back P h s c ne (data_atom d))
            (λ d. other_on P h s c ne (running_atom d)) (λ d. other_back P h s c ne (running_atom d)) (k.good e).tag;
        run = exact_map (λ r. other_on P h s c ne (run_rule r)) (λ r. other_back P h s c ne (run_rule r)) (k.good e).run;
        permit = exact_map (other_rules_on P h s c ne) (other_rules_back P h s c ne) (k.good e).permit;
        behalf = (k.good e).behalf ∙ sym (behalf_other h s c ne);
      };
    }

    module _ (p o : ℕ) (wp wo : Row) where
      pub read_good : Good h p wp → Good h o wo → Good (h ▸ read p o) p (read_row wp wo)
      unfolding read_row
      read_good gp go = record {
        tag = tagged_map at_on at_back running_on running_back (tagged_union gp.tag (tagged_data go.tag));
        run = exact_map rule_on rule_back (exact_meet gp.run go.run);
        permit = gp.permit;
        behalf = gp.behalf;
      }
        where
          at_on : (d : ℕ) → Chain P h (data_atom d) p ⊎ Chain P h (data_atom d) o → Chain P (h ▸ read p o) (data_atom d) p
          at_on d (inl ch) = stay P h read_ends ch
          at_on d (inr ch) = carry P h read_atom ch

          at_back : (d : ℕ) → Chain P (h ▸ read p o) (data_atom d) p → Chain P h (data_atom d) p ⊎ Chain P h (data_atom d) o
          at_back d = came P h (λ ch ne. inl ch) (λ b x ch ca. inr (read_atom_from P h ch ca))

          running_on : (d : ℕ) → Chain P h (running_atom d) p ⊎ ⊥ → Chain P (h ▸ read p o) (running_atom d) p
          running_on d (inl ch) = stay P h read_ends ch
          running_on d (inr z) = absurd z

          running_back : (d : ℕ) → Chain P (h ▸ read p o) (running_atom d) p → Chain P h (running_atom d) p ⊎ ⊥
          running_back d = came P h (λ ch ne. inl ch) (λ b x ch ca. absurd (read_brings ca))

          rule_on : (r : List ℕ) → Chain P h (run_rule r) p ⊎ Chain P h (run_rule r) o → Chain P (h ▸ read p o) (run_rule r) p
          rule_on r (inl ch) = stay P h read_ends ch
          rule_on r (inr ch) = carry P h read_rule ch

          rule_back : (r : List ℕ) → Chain P (h ▸ read p o) (run_rule r) p → Chain P h (run_rule r) p ⊎ Chain P h (run_rule r) o
          rule_back r = came P h (λ ch ne. inl ch) (λ b x ch ca. inr (read_rule_from P h ch ca))

      pub write_good : Good h p wp → Good h o wo → Good (h ▸ write p o) o (write_row wp wo)
      unfolding write_row
      write_good gp go = record {
        tag = tagged_map (λ d. carry P h write_any) (λ d. back (data_atom d)) (λ d. carry P h write_any) (λ d. back (running_atom d)) gp.tag;
        run = exact_map (λ r. carry P h write_any) (λ r. back (run_rule r)) gp.run;
        permit = go.permit;
        behalf = go.behalf;
      }
        where
          back : (x : Item) → Chain P (h ▸ write p o) x o → Chain P h x p
          back x = came P h (λ ch ne. absurd (ne write_ends)) (λ b y ch ca. write_from P h ch ca)

      pub append_good : Good h p wp → Good h o wo → Good (h ▸ append p o) o (append_row wp wo)
      unfolding append_row
      append_good gp go = record {
        tag = tagged_map (λ d. on (data_atom d)) (λ d. back (data_atom d)) (λ d. on (running_atom d)) (λ d. back (running_atom d)) (tagged_union go.tag gp.tag);
        run = exact_map (λ r. on (run_rule r)) (λ r. back (run_rule r)) (exact_meet go.run gp.run);
        permit = go.permit;
        behalf = go.behalf;
      }
        where
          on : (x : Item) → Chain P h x o ⊎ Chain P h x p → Chain P (h ▸ append p o) x o
          on x (inl ch) = stay P h append_ends ch
          on x (inr ch) = carry P h append_any ch

          back : (x : Item) → Chain P (h ▸ append p o) x o → Chain P h x o ⊎ Chain P h x p
          back x = came P h (λ ch ne. inl ch) (λ b y ch ca. inr (append_from P h ch ca))

      pub exec_good : (u : ℕ) (v : List ℕ) → Good h p wp → Good h o wo → Exact (λ r. UserRule P u r) v → Good (h ▸ exec p o u) p (exec_row wp wo v u)
      unfolding exec_row
      exec_good u v gp go gu = record {
        tag = tagged_map at_on at_back running_on running_back (tagged_union (tagged_running go.tag) (tagged_data gp.tag));
        run = exact_map (λ r. (exec_run_rule P h p o u r).1) (λ r. (exec_run_rule P h p o u r).0) go.run;
        permit = exact_map permit_on permit_back (exact_meet go.run gu);
        behalf = sym (behalf_exec h p o u);
      }
        where
          at_on : (d : ℕ) → ⊥ ⊎ Chain P h (data_atom d) p → Chain P (h ▸ exec p o u) (data_atom d) p
          at_on d (inl z) = absurd z
          at_on d (inr ch) = (exec_data P h p o u d).1 ch

          at_back : (d : ℕ) → Chain P (h ▸ exec p o u) (data_atom d) p → ⊥ ⊎ Chain P h (data_atom d) p
          at_back d ch = inr ((exec_data P h p o u d).0 ch)

          running_on : (d : ℕ) → Chain P h (data_atom d) o ⊎ ⊥ → Chain P (h ▸ exec p o u) (running_atom d) p
          running_on d (inl ch) = (exec_running P h p o u d).1 ch
          running_on d (inr z) = absurd z

          running_back : (d : ℕ) → Chain P (h ▸ exec p o u) (running_atom d) p → Chain P h (data_atom d) o ⊎ ⊥
          running_back d ch = inl ((exec_running P h p o u d).0 ch)

          permit_on : (r : List ℕ) → Chain P h (run_rule r) o ⊎ UserRule P u r → Governs P (h ▸ exec p o u) p r
          permit_on r (inl ch) = inl (refl, inr ch)
          permit_on r (inr us) = inl (refl, inl us)

          permit_back : (r : List ℕ) → Governs P (h ▸ exec p o u) p r → Chain P h (run_rule r) o ⊎ UserRule P u r
          permit_back r (inl (e, inl us)) = inr us
          permit_back r (inl (e, inr ch)) = inl ch
          permit_back r (inr (ne, g)) = absurd (ne refl)

      pub fork_good : ((x : Item) → ¬ Chain P h x o) → Good h p wp → Good (h ▸ fork p o) o (fork_row wp)
      unfolding fork_row
      fork_good em gp = record {
        tag = tagged_map (λ d. on (data_atom d)) (λ d. back (data_atom d)) (λ d. on (running_atom d)) (λ d. back (running_atom d)) gp.tag;
        run = exact_map (λ r. on (run_rule r)) (λ r. back (run_rule r)) gp.run;
        permit = exact_map (λ r. (fork_rules P h p o r).1) (λ r. (fork_rules P h p o r).0) gp.permit;
        behalf = gp.behalf ∙ sym (behalf_fork h p o);
      }
        where
          on : (x : Item) → Chain P h x p → Chain P (h ▸ fork p o) x o
          on x = (fork_chains P h p o em x).1

          back : (x : Item) → Chain P (h ▸ fork p o) x o → Chain P h x p
          back x = (fork_chains P h p o em x).0

      pub new_file_good : (u : ℕ) (v : List ℕ) → ((x : Item) → ¬ Chain P h x o) → Exact (λ r. UserRule P u r) v
          → Good (h ▸ new_file p o u) o (new_file_row v)
      unfolding new_file_row
      new_file_good u v em gu = record {
        tag = tagged_none (λ d. back (data_atom d)) (λ d. back (running_atom d));
        run = exact_unrestricted (λ r. back (run_rule r));
        permit = exact_map (λ r. (new_file_rules P h p o u r).1) (λ r. (new_file_rules P h p o u r).0) gu;
        behalf = sym (behalf_file h p o u);
      }
        where
          back : (x : Item) → ¬ Chain P (h ▸ new_file p o u) x o
          back = new_file_none P h p o u em

      pub new_volatile_good : ((x : Item) → ¬ Chain P h x o) → Good (h ▸ new_volatile p o) o new_volatile_row
      unfolding new_volatile_row
      new_volatile_good em = record {
        tag = tagged_none (λ d. back (data_atom d)) (λ d. back (running_atom d));
        run = exact_unrestricted (λ r. back (run_rule r));
        permit = exact_unrestricted (new_volatile_rules P h p o);
        behalf = sym (behalf_volatile h p o);
      }
        where
          back : (x : Item) → ¬ Chain P (h ▸ new_volatile p o) x o
          back = new_volatile_none P h p o em
