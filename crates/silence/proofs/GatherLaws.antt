-- Where a permit rule does not cover the sources of its object, allowed reads and appends bring them all there.
use Prim.Native.Nat.{ℕ, zero, suc, ◌+◌, ◌^◌, ◌≤◌, ◌<◌}
use native.Mathlib.Omega.{arith}
use native.Mathlib.Decide.{ℕ_discrete, dec_lt}
use mathlib.Core.Path.{◌≡◌, refl, sym, subst, ap, ◌∙◌}
use mathlib.Core.Logic.{◌⊎◌, inl, inr}
use mathlib.Core.Bool.{Bool, true, false, cond}
use mathlib.Core.List.{List, [], ◌∷◌, ◌++◌}
use mathlib.Core.Option.{some}
use lib.Bits.{bit_or}
use lib.Dec.{eqb}
use lib.ListN.{length, get_or}
use borrow.Author.Tests.{eqb-true, eq-eqb, ne_eqb}
use Rattle.lists.proofs.Bools.{or_0, or_cases, clash, decide, refuted}
use Rattle.rules.specs.Sets.{atom, holds, data_of}
use Rattle.rules.specs.Rules.{covers, normal}
use Rattle.rules.specs.Answers.{data_width}
use Rattle.rules.proofs.SetLaws.{atom_le, atoms_holds, single_same, or_has, data_has}
use Rattle.rules.proofs.RuleLaws.{covers_normal, covers_part}
use Rattle.session.specs.Rows.{Row}
use Rattle.matrix.specs.Rows.{bits_of}
use Rattle.matrix.specs.Flows.{has, subject_carries, granted, step, onward, Composed, composed}
use Rattle.matrix.proofs.PathTest.{path_source, path_target}
use Rattle.matrix.proofs.PathFlows.{composed_path}
use Rattle.matrix.proofs.RowBits.{atom_has, bits_has, bits_above}
use Rattle.derivation.specs.Derived.{writer_mixtures, or_alone, permit_of}
use Rattle.chains.specs.History.{Step, read, append, receiver}
use Rattle.chains.specs.Demand.{after}
use Rattle.chains.specs.Table.{State, read_row, append_row, entry, alerts, placed, operate}
use Rattle.chains.proofs.TableStates.{operate_done}
use Rattle.chains.proofs.ThreeAnswers.{left_put}
use Rattle.answers.specs.declared.Answer.{Answer}
use Rattle.matrix.proofs.CarrierLaws.{carried}
use Rattle.silence.specs.Silent.{sources_of, quiet_object}
use Rattle.silence.specs.Sessions.{Allowed, may_read, may_append, AllAllowed}
use Rattle.silence.proofs.HeldSources.{Holding, passes, never_blocks, holds_on}

-- whatever a container held, it holds
abbrev pub Grown : State → State → Type 0
Grown σ τ = (c k : ℕ) → atom (σ.row c).tag k ≡ 1 → atom (τ.row c).tag k ≡ 1

put_grown : (σ : State) (c : ℕ) (w : Row) → ((k : ℕ) → atom (σ.row c).tag k ≡ 1 → atom w.tag k ≡ 1) → Grown σ (placed σ c w)
unfolding placed
put_grown σ c w f x k e = by (ℕ_discrete x c)
  where
    by : Dec (x ≡ c) → atom (cond (eqb x c) w (σ.row x)).tag k ≡ 1
    by (yes q) = subst (λ (b : Bool). atom (cond b w (σ.row x)).tag k ≡ 1) (sym (eq-eqb x c q)) (f k (subst (λ (y : ℕ). atom (σ.row y).tag k ≡ 1) q e))
    by (no q) = subst (λ (b : Bool). atom (cond b w (σ.row x)).tag k ≡ 1) (sym (ne_eqb x c q)) e

put_there : (σ : State) (c : ℕ) (w : Row) → (placed σ c w).row c ≡ w
unfolding placed
put_there σ c w = rw (eq-eqb c c refl) refl

after_append : (σ : State) (ts us : List Step) → after operate σ (ts ++ us) ≡ after operate (after operate σ ts) us
after_append σ [] us = refl
after_append σ (t ∷ ts) us = after_append (operate σ t).0 ts us

module _ (reads writes : List ℕ) (n : ℕ) (even : length writes ≡ length reads) (few : n ≤ data_width) where
  -- the state after an allowed step
  pub done : (σ : State) → Holding reads writes n σ → (t : Step) → Allowed reads writes n t → (operate σ t).0 ≡ placed σ (receiver t) (entry σ t).row
  done σ H t a =
      ap (λ (x : State × Answer). x.0) (operate_done σ t (passes reads writes n even few σ H t a)) ∙ left_put t (entry σ t).row σ (never_blocks reads writes n even few σ H t a)

  pub next : (σ : State) → Holding reads writes n σ → (t : Step) → Allowed reads writes n t → Holding reads writes n (operate σ t).0
  next σ H t a = subst (Holding reads writes n) (sym (done σ H t a)) (holds_on reads writes n even few σ H t a)

  allowed_append : (ts us : List Step) → AllAllowed some reads writes n ts → AllAllowed some reads writes n us → AllAllowed some reads writes n (ts ++ us)
  allowed_append [] us a b = b
  allowed_append (t ∷ ts) us (x, a) b = (x, allowed_append ts us a b)

  -- steps that lose nothing, and bring what a holds into b
  pub record Way (a b : ℕ) : Type 0 where
    pub steps : List Step
    pub allowed : AllAllowed some reads writes n steps
    pub kept : (σ : State) → Holding reads writes n σ → Holding reads writes n (after operate σ steps)
    pub grown : (σ : State) → Holding reads writes n σ → Grown σ (after operate σ steps)
    pub brings : (σ : State) → Holding reads writes n σ → (d : ℕ) → atom (σ.row a).tag d ≡ 1 → atom ((after operate σ steps).row b).tag d ≡ 1

  stay : (a b : ℕ) → a ≡ b → Way a b
  stay a b e = record {
    steps = [];
    allowed = tt;
    kept = λ σ H. H;
    grown = λ σ H c k x. x;
    brings = λ σ H d x. subst (λ (y : ℕ). atom (σ.row y).tag d ≡ 1) e x;
  }

  both : (a b c : ℕ) → Way a b → Way b c → Way a c
  both a b c u v = record {
    steps = u.steps ++ v.steps;
    allowed = allowed_append u.steps v.steps u.allowed v.allowed;
    kept = λ σ H. subst (Holding reads writes n) (sym (after_append σ u.steps v.steps)) (v.kept _ (u.kept σ H));
    grown = λ σ H x k e. subst (λ (τ : State). atom (τ.row x).tag k ≡ 1) (sym (after_append σ u.steps v.steps)) (v.grown _ (u.kept σ H) x k (u.grown σ H x k e));
    brings = λ σ H d e. subst (λ (τ : State). atom (τ.row c).tag d ≡ 1) (sym (after_append σ u.steps v.steps)) (v.brings _ (u.kept σ H) d (u.brings σ H d e));
  }

  -- one subject reads a and appends to b
  module _ (s a b : ℕ) (l : s < length reads) (la : a < n) (lb : b < n) (r : has (get_or reads s 0) a ≡ true) (w : has (get_or writes s 0) b ≡ true) where
    may_read_lem : Allowed reads writes n (read (n + s) a)
    may_read_lem = may_read l la r

    may_append_lem : Allowed reads writes n (append (n + s) b)
    may_append_lem = may_append l lb w

    read_grown : (σ : State) → Holding reads writes n σ → Grown σ (operate σ (read (n + s) a)).0
    read_grown σ H = subst (Grown σ) (sym (done σ H _ may_read_lem)) (put_grown σ (n + s) _ gain)
      where
        gain : (k : ℕ) → atom (σ.row (n + s)).tag k ≡ 1 → atom (entry σ (read (n + s) a)).row.tag k ≡ 1
        gain k e = unfold entry read_row in (or_has (σ.row (n + s)).tag (data_of data_width (σ.row a).tag) k).1 (inl e)

    append_grown : (σ : State) → Holding reads writes n σ → Grown σ (operate σ (append (n + s) b)).0
    append_grown σ H = subst (Grown σ) (sym (done σ H _ may_append_lem)) (put_grown σ b _ gain)
      where
        gain : (k : ℕ) → atom (σ.row b).tag k ≡ 1 → atom (entry σ (append (n + s) b)).row.tag k ≡ 1
        gain k e = unfold entry append_row in (or_has (σ.row b).tag (σ.row (n + s)).tag k).1 (inl e)

    read_brings : (σ : State) → Holding reads writes n σ → (d : ℕ) → atom (σ.row a).tag d ≡ 1 → atom ((operate σ (read (n + s) a)).0.row (n + s)).tag d ≡ 1
    read_brings σ H d e =
        subst (λ (τ : State). atom (τ.row (n + s)).tag d ≡ 1) (sym (done σ H _ may_read_lem))
        (subst (λ (x : Row). atom x.tag d ≡ 1) (sym (put_there σ (n + s) _)) gain)
      where
        small : d < data_width
        small = omega (arith, few, path_source ((H.object a la).sources d e))

        gain : atom (entry σ (read (n + s) a)).row.tag d ≡ 1
        gain = unfold entry read_row in (or_has (σ.row (n + s)).tag (data_of data_width (σ.row a).tag) d).1 (inr ((data_has data_width (σ.row a).tag d).1 (small, e)))

    append_brings : (σ : State) → Holding reads writes n σ → (d : ℕ) → atom (σ.row (n + s)).tag d ≡ 1 → atom ((operate σ (append (n + s) b)).0.row b).tag d ≡ 1
    append_brings σ H d e =
        subst (λ (τ : State). atom (τ.row b).tag d ≡ 1) (sym (done σ H _ may_append_lem))
        (subst (λ (x : Row). atom x.tag d ≡ 1) (sym (put_there σ b _)) gain)
      where
        gain : atom (entry σ (append (n + s) b)).row.tag d ≡ 1
        gain = unfold entry append_row in (or_has (σ.row b).tag (σ.row (n + s)).tag d).1 (inr e)

    hop : Way a b
    hop = record {
      steps = read (n + s) a ∷ append (n + s) b ∷ [];
      allowed = ((read (n + s) a, refl, may_read_lem), ((append (n + s) b, refl, may_append_lem), tt));
      kept = λ σ H. next _ (next σ H _ may_read_lem) _ may_append_lem;
      grown = λ σ H c k e. append_grown _ (next σ H _ may_read_lem) c k (read_grown σ H c k e);
      brings = λ σ H d e. append_brings _ (next σ H _ may_read_lem) d (read_brings σ H d e);
    }

  granted_way : (a b : ℕ) → a < n → b < n → granted reads writes a b ≡ true → Way a b
  unfolding granted
  granted_way a b la lb g = by (or_cases (eqb a b) g)
    where
      by : (eqb a b ≡ true) ⊎ (subject_carries reads writes a b ≡ true) → Way a b
      by (inl e) = stay a b (eqb-true a b e)
      by (inr c) = let z = carried reads writes a b even c in hop z.0 a b z.1 la lb z.2 z.3

  -- a composed flow can be walked
  pub way : (a b : ℕ) → Composed reads writes n a b → Way a b
  way a b (step la lb g) = granted_way a b la lb g
  way x z (onward {a} {b} {c} p lc g) = both a b c (way a b p) (granted_way b c (path_target p) lc g)

  -- each object holds its own atom
  abbrev pub Owning : State → Type 0
  Owning σ = (a : ℕ) → a < n → atom (σ.row a).tag a ≡ 1

  -- steps that lose nothing, and bring into b each of the first m objects that has a composed flow into it
  pub record Gathers (b m : ℕ) : Type 0 where
    pub steps : List Step
    pub allowed : AllAllowed some reads writes n steps
    pub kept : (σ : State) → Holding reads writes n σ → Holding reads writes n (after operate σ steps)
    pub grown : (σ : State) → Holding reads writes n σ → Grown σ (after operate σ steps)
    pub all : (σ : State) → Holding reads writes n σ → Owning σ → (a : ℕ) → a < m → composed reads writes n a b ≡ true → atom ((after operate σ steps).row b).tag a ≡ 1

  pub gather : (b m : ℕ) → b < n → m ≤ n → Gathers b m
  gather b zero lb lm = record {
    steps = [];
    allowed = tt;
    kept = λ σ H. H;
    grown = λ σ H c k e. e;
    all = λ σ H O a l c. absurd (omega arith);
  }
  gather b (suc m) lb lm = by (decide (composed reads writes n m b)) (gather b m lb (omega arith))
    where
      by : (composed reads writes n m b ≡ true) ⊎ (composed reads writes n m b ≡ false) → Gathers b m → Gathers b (suc m)
      by (inr f) G = record {
        steps = G.steps;
        allowed = G.allowed;
        kept = G.kept;
        grown = G.grown;
        all = λ σ H O a l c. at σ H O a l c (ℕ_discrete a m);
      }
        where
          at : (σ : State) → Holding reads writes n σ → Owning σ → (a : ℕ) → a < suc m → composed reads writes n a b ≡ true → Dec (a ≡ m) → atom ((after operate σ G.steps).row b).tag a ≡ 1
          at σ H O a l c (yes e) = clash (subst (λ (x : ℕ). composed reads writes n x b ≡ true) e c) f
          at σ H O a l c (no d) = G.all σ H O a (omega (arith, l, d)) c
      by (inl t) G = record {
        steps = G.steps ++ W.steps;
        allowed = allowed_append G.steps W.steps G.allowed W.allowed;
        kept = λ σ H. subst (Holding reads writes n) (sym (after_append σ G.steps W.steps)) (W.kept _ (G.kept σ H));
        grown = λ σ H x k e. subst (λ (τ : State). atom (τ.row x).tag k ≡ 1) (sym (after_append σ G.steps W.steps)) (W.grown _ (G.kept σ H) x k (G.grown σ H x k e));
        all = λ σ H O a l c. subst (λ (τ : State). atom (τ.row b).tag a ≡ 1) (sym (after_append σ G.steps W.steps)) (at σ H O a l c (ℕ_discrete a m));
      }
        where
          W : Way m b
          W = way m b ((composed_path reads writes n m b (omega arith) lb).0 t)

          at : (σ : State) → Holding reads writes n σ → Owning σ → (a : ℕ) → a < suc m → composed reads writes n a b ≡ true → Dec (a ≡ m)
              → atom ((after operate (after operate σ G.steps) W.steps).row b).tag a ≡ 1
          at σ H O a l c (yes e) = W.brings _ (G.kept σ H) a (subst (λ (x : ℕ). atom ((after operate σ G.steps).row x).tag a ≡ 1) e (G.grown σ H a a (O a (omega (arith, l, lm)))))
          at σ H O a l c (no d) = W.grown _ (G.kept σ H) b a (G.all σ H O a (omega (arith, l, d)) c)

-- ---- an object whose permit rule does not cover its sources has a writer

pub writer : (reads writes : List ℕ) (b m : ℕ) (r : List ℕ) → length writes ≡ length reads → writer_mixtures reads writes b ≡ m ∷ r → (s : ℕ) × (s < length reads) × (has (get_or writes s 0) b ≡ true)
unfolding writer_mixtures
writer [] writes b m r e h = absurd (omega (arith, ap length h))
writer (x ∷ reads) [] b m r e h = absurd (omega arith)
writer (x ∷ reads) (y ∷ writes) b m r e h = by (has y b) refl h (λ q. writer reads writes b m r (omega arith) q)
  where
    by : (t : Bool) → has y b ≡ t → cond t (bit_or x (2 ^ b) ∷ writer_mixtures reads writes b) (writer_mixtures reads writes b) ≡ m ∷ r
        → (writer_mixtures reads writes b ≡ m ∷ r → (s : ℕ) × (s < length reads) × (has (get_or writes s 0) b ≡ true))
        → (s : ℕ) × (s < suc (length reads)) × (has (get_or (y ∷ writes) s 0) b ≡ true)
    by true t h f = (zero, omega arith, t)
    by false t h f = let z = f h in (suc z.0, omega (arith, z.1), z.2)

written : (reads writes : List ℕ) (s b : ℕ) → s < length reads → length writes ≡ length reads → has (get_or writes s 0) b ≡ true → writer_mixtures reads writes b ≡ [] → ⊥
unfolding writer_mixtures
written [] writes s b l e w h = omega arith
written (x ∷ reads) [] s b l e w h = omega arith
written (x ∷ reads) (y ∷ writes) zero b l e w h = omega (arith, ap length (rw w at h))
written (x ∷ reads) (y ∷ writes) (suc s) b l e w h = by (has y b) h (λ q. written reads writes s b (omega arith) (omega arith) w q)
  where
    by : (t : Bool) → cond t (bit_or x (2 ^ b) ∷ writer_mixtures reads writes b) (writer_mixtures reads writes b) ≡ [] → (writer_mixtures reads writes b ≡ [] → ⊥) → ⊥
    by true h f = omega (arith, ap length h)
    by false h f = f h

module _ (reads writes : List ℕ) (n : ℕ) (even : length writes ≡ length reads) where
  -- nothing comes into an object that nobody writes
  unwritten_step : (a b : ℕ) → writer_mixtures reads writes b ≡ [] → granted reads writes a b ≡ true → a ≡ b
  unfolding granted
  unwritten_step a b h g = by (or_cases (eqb a b) g)
    where
      by : (eqb a b ≡ true) ⊎ (subject_carries reads writes a b ≡ true) → a ≡ b
      by (inl e) = eqb-true a b e
      by (inr c) = let z = carried reads writes a b even c in absurd (written reads writes z.0 b z.1 even z.3 h)

  unwritten : (a b : ℕ) → writer_mixtures reads writes b ≡ [] → Composed reads writes n a b → a ≡ b
  unwritten a b h (step la lb g) = unwritten_step a b h g
  unwritten x z h (onward {a} {b} {c} p lc g) =
      let e : b ≡ c = unwritten_step b c h g in
      unwritten a b (subst (λ (y : ℕ). writer_mixtures reads writes y ≡ []) (sym e) h) p ∙ e

  pub alone_quiet : (b : ℕ) → b < n → writer_mixtures reads writes b ≡ [] → quiet_object reads writes n b ≡ true
  unfolding quiet_object permit_of sources_of
  alone_quiet b l h =
      rw h
      (unfold or_alone covers in
      (or_0 (holds (2 ^ b) (bits_of (λ a. composed reads writes n a b) n)) false
      (atoms_holds (2 ^ b) _ (λ k. on k (ℕ_discrete (atom (bits_of (λ a. composed reads writes n a b) n) k) 1) (dec_lt k n)))))
    where
      on : (k : ℕ) → Dec (atom (bits_of (λ a. composed reads writes n a b) n) k ≡ 1) → Dec (k < n) → atom (bits_of (λ a. composed reads writes n a b) n) k ≤ atom (2 ^ b) k
      on k (no d) m = omega (arith, atom_le (bits_of (λ a. composed reads writes n a b) n) k)
      on k (yes e) (no m) = clash (atom_has (bits_of (λ a. composed reads writes n a b) n) k e) (bits_above (λ a. composed reads writes n a b) n k (omega arith))
      on k (yes e) (yes m) =
          let c : composed reads writes n k b ≡ true = sym (bits_has (λ a. composed reads writes n a b) n k m) ∙ atom_has (bits_of (λ a. composed reads writes n a b) n) k e in
          let q : k ≡ b = unwritten k b h ((composed_path reads writes n k b m l).0 c) in
          omega (arith, e, subst (λ (x : ℕ). atom (2 ^ b) x ≡ 1) (sym q) (single_same b))

  pub has_writer : (b : ℕ) → b < n → quiet_object reads writes n b ≡ false → (s : ℕ) × (s < length reads) × (has (get_or writes s 0) b ≡ true)
  has_writer b l f = by (writer_mixtures reads writes b) refl
    where
      by : (ms : List ℕ) → writer_mixtures reads writes b ≡ ms → (s : ℕ) × (s < length reads) × (has (get_or writes s 0) b ≡ true)
      by [] h = clash (alone_quiet b l h) f
      by (m ∷ r) h = writer reads writes b m r even h

-- ---- the alert

module _ (reads writes : List ℕ) (n : ℕ) (even : length writes ≡ length reads) (few : n ≤ data_width) (b : ℕ) (lb : b < n) (fails : quiet_object reads writes n b ≡ false) where
  abbrev pub G : Gathers reads writes n even few b n
  G = gather reads writes n even few b n lb (omega arith)

  abbrev pub last_step : Step
  last_step = append (n + (has_writer reads writes n even b lb fails).0) b

  abbrev pub first_steps : List Step
  first_steps = G.steps

  pub last_allowed : Allowed reads writes n last_step
  last_allowed = may_append (has_writer reads writes n even b lb fails).1 lb (has_writer reads writes n even b lb fails).2

  pub all_allowed : AllAllowed some reads writes n (first_steps ++ (last_step ∷ []))
  all_allowed = allowed_append reads writes n even few first_steps (last_step ∷ []) G.allowed ((last_step, refl, last_allowed), tt)

  module _ (σ : State) (H : Holding reads writes n σ) (O : Owning reads writes n even few σ) where
    abbrev pub gathered : State
    gathered = after operate σ first_steps

    -- the tag that the last step leaves has every source
    full : holds (entry gathered last_step).row.tag (sources_of reads writes n b) ≡ true
    unfolding sources_of entry append_row
    full = atoms_holds _ _ (λ k. on k (ℕ_discrete (atom (bits_of (λ a. composed reads writes n a b) n) k) 1) (dec_lt k n))
      where
        on : (k : ℕ) → Dec (atom (bits_of (λ a. composed reads writes n a b) n) k ≡ 1) → Dec (k < n)
            → atom (bits_of (λ a. composed reads writes n a b) n) k ≤ atom (bit_or (gathered.row b).tag (gathered.row (n + (has_writer reads writes n even b lb fails).0)).tag) k
        on k (no d) m = omega (arith, atom_le (bits_of (λ a. composed reads writes n a b) n) k)
        on k (yes e) (no m) = clash (atom_has (bits_of (λ a. composed reads writes n a b) n) k e) (bits_above (λ a. composed reads writes n a b) n k (omega arith))
        on k (yes e) (yes m) =
            let c : composed reads writes n k b ≡ true = sym (bits_has (λ a. composed reads writes n a b) n k m) ∙ atom_has (bits_of (λ a. composed reads writes n a b) n) k e in
            omega (arith, e, (or_has (gathered.row b).tag (gathered.row (n + (has_writer reads writes n even b lb fails).0)).tag k).1 (inl (G.all σ H O k m c)))

    last_uncovered : covers (entry gathered last_step).row.permit (entry gathered last_step).row.tag ≡ false
    last_uncovered =
        refuted (covers (entry gathered last_step).row.permit (entry gathered last_step).row.tag) (λ t.
        clash
        (covers_part (permit_of reads writes b) (sources_of reads writes n b) (entry gathered last_step).row.tag full
        (sym (covers_normal (permit_of reads writes b) (entry gathered last_step).row.tag)
        ∙ subst (λ (r : List ℕ). covers r (entry gathered last_step).row.tag ≡ true) same t)) (unfold quiet_object in fails))
      where
        same : (entry gathered last_step).row.permit ≡ normal (permit_of reads writes b)
        same = unfold entry append_row in ((G.kept σ H).object b lb).permit

    pub gathered_holding : Holding reads writes n gathered
    gathered_holding = G.kept σ H

    pub last_alerts : alerts last_step (entry gathered last_step).row ≡ true
    unfolding alerts
    last_alerts = rw last_uncovered refl
