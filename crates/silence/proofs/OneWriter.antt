-- Silent in plain words: an object that is written has one writer that reads every other object with a composed flow into it.
use Prim.Native.Nat.{ℕ, zero, suc, ◌^◌, ◌<◌}
use native.Mathlib.Omega.{arith}
use native.Mathlib.Decide.{ℕ_discrete, dec_lt}
use mathlib.Core.Path.{◌≡◌, refl, sym, subst, ◌∙◌}
use mathlib.Core.Logic.{◌⊎◌, inl, inr, ◌↔◌, ⊎_elim}
use mathlib.Core.Bool.{Bool, true, false, cond}
use mathlib.Core.List.{List, [], ◌∷◌}
use lib.Bits.{bit_or}
use lib.Dec.{eqb}
use lib.ListN.{length, get_or}
use borrow.Author.Tests.{eqb-true, eq-eqb}
use Rattle.lists.specs.Lists.{elem}
use Rattle.lists.proofs.Bools.{or_0, or_1, or_cases, clash}
use Rattle.lists.proofs.Below.{all_at}
use Rattle.rules.specs.Sets.{atom}
use Rattle.rules.proofs.SetLaws.{single_other, or_has, single_same}
use Rattle.chains.proofs.Exact.{covers_out, covers_in}
use Rattle.matrix.specs.Rows.{bits_of}
use Rattle.matrix.specs.Flows.{has, granted, Composed, composed, subject_carries}
use Rattle.matrix.specs.Verdicts.{consistent}
use Rattle.matrix.proofs.CarrierLaws.{carries}
use Rattle.matrix.proofs.PathTest.{path_source, path_target}
use Rattle.matrix.proofs.PathFlows.{composed_path, consistent_granted}
use Rattle.matrix.proofs.RowBits.{atom_has, has_atom, bits_has, bits_above}
use Rattle.derivation.specs.Derived.{writer_mixtures, or_alone, permit_of}
use Rattle.silence.specs.Silent.{sources_of, quiet_object, silent}
use Rattle.silence.proofs.GatherLaws.{writer, alone_quiet}

-- a mixture of the permit rule is that of one writer, or the object alone
abbrev pub Mixed : List ℕ → List ℕ → ℕ → ℕ → Type 0
Mixed reads writes b m = (m ≡ 2 ^ b) ⊎ ((s : ℕ) × (s < length reads) × (has (get_or writes s 0) b ≡ true) × (m ≡ bit_or (get_or reads s 0) (2 ^ b)))

pub writer_mixed : (reads writes : List ℕ) (b m : ℕ) → elem m (writer_mixtures reads writes b) ≡ true
    → (s : ℕ) × (s < length reads) × (has (get_or writes s 0) b ≡ true) × (m ≡ bit_or (get_or reads s 0) (2 ^ b))
unfolding writer_mixtures elem
writer_mixed [] writes b m h = clash h refl
writer_mixed (x ∷ reads) [] b m h = clash h refl
writer_mixed (x ∷ reads) (y ∷ writes) b m h = by (has y b) refl h (λ q. writer_mixed reads writes b m q)
  where
    next : ((s : ℕ) × (s < length reads) × (has (get_or writes s 0) b ≡ true) × (m ≡ bit_or (get_or reads s 0) (2 ^ b)))
        → (s : ℕ) × (s < suc (length reads)) × (has (get_or (y ∷ writes) s 0) b ≡ true) × (m ≡ bit_or (get_or (x ∷ reads) s 0) (2 ^ b))
    next z = (suc z.0, omega (arith, z.1), z.2, z.3)

    by : (t : Bool) → has y b ≡ t → elem m (cond t (bit_or x (2 ^ b) ∷ writer_mixtures reads writes b) (writer_mixtures reads writes b)) ≡ true
        → (elem m (writer_mixtures reads writes b) ≡ true → (s : ℕ) × (s < length reads) × (has (get_or writes s 0) b ≡ true) × (m ≡ bit_or (get_or reads s 0) (2 ^ b)))
        → (s : ℕ) × (s < suc (length reads)) × (has (get_or (y ∷ writes) s 0) b ≡ true) × (m ≡ bit_or (get_or (x ∷ reads) s 0) (2 ^ b))
    by true t h f = ⊎_elim (λ e. (zero, omega arith, t, eqb-true m (bit_or x (2 ^ b)) e)) (λ q. next (f q)) (or_cases (eqb m (bit_or x (2 ^ b))) h)
    by false t h f = next (f h)

alone_mixed : (reads writes : List ℕ) (b m : ℕ) (ms : List ℕ) → writer_mixtures reads writes b ≡ ms → elem m (or_alone b ms) ≡ true → Mixed reads writes b m
unfolding or_alone elem
alone_mixed reads writes b m [] e h = ⊎_elim (λ q. inl (eqb-true m (2 ^ b) q)) (λ q. clash q refl) (or_cases (eqb m (2 ^ b)) h)
alone_mixed reads writes b m (x ∷ ms) e h = inr (writer_mixed reads writes b m (subst (λ (l : List ℕ). elem m l ≡ true) (sym e) (unfold elem in h)))

module _ (reads writes : List ℕ) (n b : ℕ) (lb : b < n) where
  source_in : (a : ℕ) → Composed reads writes n a b → atom (sources_of reads writes n b) a ≡ 1
  unfolding sources_of
  source_in a c = has_atom (bits_of (λ k. composed reads writes n k b) n) a
      (bits_has (λ k. composed reads writes n k b) n a (path_source c) ∙ (composed_path reads writes n a b (path_source c) lb).1 c)

  -- one writer that reads every other source, or no source but the object itself
  pub quiet_words : quiet_object reads writes n b ≡ true
      → ((a : ℕ) → Composed reads writes n a b → a ≡ b)
      ⊎ ((s : ℕ) × (s < length reads) × (has (get_or writes s 0) b ≡ true) × ((a : ℕ) → Composed reads writes n a b → (a ≡ b) ⊎ (has (get_or reads s 0) a ≡ true)))
  unfolding quiet_object permit_of
  quiet_words q =
      let z : (m : ℕ) × (elem m (or_alone b (writer_mixtures reads writes b)) ≡ true) × ((k : ℕ) → atom (sources_of reads writes n b) k ≡ 1 → atom m k ≡ 1) = covers_out _ _ q in
      by z.0 (λ a c. z.2 a (source_in a c)) (alone_mixed reads writes b z.0 (writer_mixtures reads writes b) refl z.1)
    where
      single : (a : ℕ) → Dec (a ≡ b) → atom (2 ^ b) a ≡ 1 → a ≡ b
      single a (yes e) h = e
      single a (no d) h = absurd (omega (arith, h, single_other b a d))

      by : (m : ℕ) → ((a : ℕ) → Composed reads writes n a b → atom m a ≡ 1) → Mixed reads writes b m
          → ((a : ℕ) → Composed reads writes n a b → a ≡ b)
          ⊎ ((s : ℕ) × (s < length reads) × (has (get_or writes s 0) b ≡ true) × ((a : ℕ) → Composed reads writes n a b → (a ≡ b) ⊎ (has (get_or reads s 0) a ≡ true)))
      by m f (inl e) = inl (λ a c. single a (ℕ_discrete a b) (subst (λ (x : ℕ). atom x a ≡ 1) e (f a c)))
      by m f (inr (s, l, w, e)) =
          inr (
            s,
            l,
            w,
            λ a c.
                ⊎_elim (λ h. inr (atom_has (get_or reads s 0) a h)) (λ h. inl (single a (ℕ_discrete a b) h))
                ((or_has (get_or reads s 0) (2 ^ b) a).0 (subst (λ (x : ℕ). atom x a ≡ 1) e (f a c))),
          )

-- the mixture of a writer is in the permit rule
mixture_in : (reads writes : List ℕ) (b s : ℕ) → s < length reads → length writes ≡ length reads → has (get_or writes s 0) b ≡ true
    → elem (bit_or (get_or reads s 0) (2 ^ b)) (writer_mixtures reads writes b) ≡ true
unfolding writer_mixtures
mixture_in [] writes b s l e w = absurd (omega arith)
mixture_in (x ∷ reads) [] b s l e w = absurd (omega arith)
mixture_in (x ∷ reads) (y ∷ writes) b zero l e w =
    rw w
    (unfold elem in
    (or_0 (eqb (bit_or x (2 ^ b)) (bit_or x (2 ^ b))) (elem (bit_or x (2 ^ b)) (writer_mixtures reads writes b))
    (eq-eqb (bit_or x (2 ^ b)) (bit_or x (2 ^ b)) refl)))
mixture_in (x ∷ reads) (y ∷ writes) b (suc s) l e w = by (has y b) (mixture_in reads writes b s (omega arith) (omega arith) w)
  where
    by : (t : Bool) → elem (bit_or (get_or reads s 0) (2 ^ b)) (writer_mixtures reads writes b) ≡ true
        → elem (bit_or (get_or reads s 0) (2 ^ b)) (cond t (bit_or x (2 ^ b) ∷ writer_mixtures reads writes b) (writer_mixtures reads writes b)) ≡ true
    by true h = unfold elem in (or_1 (eqb (bit_or (get_or reads s 0) (2 ^ b)) (bit_or x (2 ^ b))) (elem (bit_or (get_or reads s 0) (2 ^ b)) (writer_mixtures reads writes b)) h)
    by false h = h

in_alone : (b m : ℕ) (ms : List ℕ) → elem m ms ≡ true → elem m (or_alone b ms) ≡ true
unfolding or_alone elem
in_alone b m [] h = clash h refl
in_alone b m (x ∷ ms) h = h

-- a writer of b that reads every other object with a composed flow into b
abbrev pub ReadsSources : List ℕ → List ℕ → ℕ → ℕ → Type 0
ReadsSources reads writes n b =
    (s : ℕ) × (s < length reads) × (has (get_or writes s 0) b ≡ true) × ((a : ℕ) → Composed reads writes n a b → (a ≡ b) ⊎ (has (get_or reads s 0) a ≡ true))

module _ (reads writes : List ℕ) (n b : ℕ) (even : length writes ≡ length reads) (lb : b < n) where
  source_out : (a : ℕ) → atom (sources_of reads writes n b) a ≡ 1 → Composed reads writes n a b
  unfolding sources_of
  source_out a e = on (dec_lt a n)
    where
      on : Dec (a < n) → Composed reads writes n a b
      on (yes l) = (composed_path reads writes n a b l lb).0 (sym (bits_has (λ k. composed reads writes n k b) n a l) ∙ atom_has (bits_of (λ k. composed reads writes n k b) n) a e)
      on (no l) = clash (atom_has (bits_of (λ k. composed reads writes n k b) n) a e) (bits_above (λ k. composed reads writes n k b) n a (omega arith))

  reads_quiet : ReadsSources reads writes n b → quiet_object reads writes n b ≡ true
  unfolding quiet_object permit_of
  reads_quiet (s, l, w, f) =
      covers_in (or_alone b (writer_mixtures reads writes b)) (sources_of reads writes n b) (bit_or (get_or reads s 0) (2 ^ b))
      (in_alone b (bit_or (get_or reads s 0) (2 ^ b)) (writer_mixtures reads writes b) (mixture_in reads writes b s l even w))
      (λ k e.
      (or_has (get_or reads s 0) (2 ^ b) k).1
      (⊎_elim (λ q. inr (subst (λ (x : ℕ). atom (2 ^ b) x ≡ 1) (sym q) (single_same b))) (λ q. inl (has_atom (get_or reads s 0) k q))
      (f k (source_out k e))))

  -- an object is quiet exactly if, where it has a writer, one reads every other source
  pub quiet_exactly : (quiet_object reads writes n b ≡ true)
      ↔ ((s : ℕ) → s < length reads → has (get_or writes s 0) b ≡ true → ReadsSources reads writes n b)
  quiet_exactly = (λ q s l w. to s l w (quiet_words reads writes n b lb q), λ f. from f (writer_mixtures reads writes b) refl)
    where
      to : (s : ℕ) → s < length reads → has (get_or writes s 0) b ≡ true → ((a : ℕ) → Composed reads writes n a b → a ≡ b) ⊎ ReadsSources reads writes n b → ReadsSources reads writes n b
      to s l w (inl f) = (s, l, w, λ a c. inl (f a c))
      to s l w (inr z) = z

      from : ((s : ℕ) → s < length reads → has (get_or writes s 0) b ≡ true → ReadsSources reads writes n b) → (ms : List ℕ)
          → writer_mixtures reads writes b ≡ ms → quiet_object reads writes n b ≡ true
      from f [] e = alone_quiet reads writes n even b lb e
      from f (m ∷ r) e = let z = writer reads writes b m r even e in reads_quiet (f z.0 z.1 z.2)

-- silent is stronger than consistent
pub silent_consistent : (reads writes : List ℕ) (n : ℕ) → length writes ≡ length reads → silent reads writes n ≡ true → consistent reads writes n ≡ true
unfolding silent
silent_consistent reads writes n even q =
    (consistent_granted reads writes n).1
    (λ a b c. by a b (quiet_words reads writes n b (path_target c) (all_at (quiet_object reads writes n) n b q (path_target c))) c)
  where
    by : (a b : ℕ)
        → ((a : ℕ) → Composed reads writes n a b → a ≡ b)
        ⊎ ((s : ℕ) × (s < length reads) × (has (get_or writes s 0) b ≡ true) × ((a : ℕ) → Composed reads writes n a b → (a ≡ b) ⊎ (has (get_or reads s 0) a ≡ true)))
        → Composed reads writes n a b → granted reads writes a b ≡ true
    by a b (inl f) c = unfold granted in or_0 (eqb a b) (subject_carries reads writes a b) (eq-eqb a b (f a c))
    by a b (inr (s, l, w, f)) c =
        unfold granted in
        ⊎_elim (λ e. or_0 (eqb a b) (subject_carries reads writes a b) (eq-eqb a b e)) (λ r. or_1 (eqb a b) (subject_carries reads writes a b) (carries reads writes s a b l even r w)) (f a c)
