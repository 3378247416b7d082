-- The rules of a path, by the modes that programs have on paths: which tags they cover.
use Prim.Native.Nat.{ℕ, zero, suc, ◌+◌, ◌-◌, ◌*◌, ◌^◌, ◌≤◌, ◌<◌}
use native.Mathlib.Decide.{ℕ_discrete, dec_lt}
use native.Mathlib.Omega.{arith}
use mathlib.Core.Path.{◌≡◌, refl, sym, ap, ◌∙◌}
use mathlib.Core.Logic.{◌⊎◌, inl, inr, ⊎_elim, ◌↔◌}
use mathlib.Core.Bool.{Bool, true, false, not, cond}
use mathlib.Core.List.Memᴰ
use mathlib.Core.List.{List, [], ◌∷◌, ◌++◌, map, Memᴰ}
use lib.Bits.{bit_or}
use lib.ListN.{length, get_or, get_or-append}
use borrow.Author.Tests.{not-true}
use Rattle.lists.specs.Lists.{every, same_list, known}
use Rattle.lists.proofs.Bools.{and_0, and_1, or_0, or_1, or_cases, or_none, clash, refuted}
use Rattle.lists.proofs.Same.{same_refl, same_eq}
use Rattle.lists.proofs.Every.{every_0, every_1}
use Rattle.rules.specs.Sets.{atom, holds}
use Rattle.rules.specs.Rules.{covers, normal, sort, unheld_in, distinct, unrestricted}
use Rattle.rules.specs.Answers.{data_width, tag_width}
use Rattle.rules.proofs.SetLaws.{atom_le, atoms_holds, holds_has, holds_all, single_same, single_other, or_has}
use Rattle.rules.proofs.RuleLaws.{covers_normal}
use Rattle.rules.proofs.MeetAll.{normal_one}
use Rattle.image.specs.Limits.{file_kind}
use Rattle.image.specs.Policy.{unrestricted_rule}
use Rattle.image.specs.Normal.{Place, process_place}
use Rattle.image.proofs.WrittenMeaning.{normal_unrestricted}
use Rattle.profiles.specs.Profiles.{Mode, Profile}
use Rattle.profiles.specs.Texts.{no_repeat, profiled_once}
use Rattle.confinement.specs.Confinement.{paths_of, some_of, writing, unconfined, inheriting, confined, modes_on, run_mixture}
use Rattle.confinement.specs.Confinement.{programs_with, profiles_at, or_else, if_some, permit_mixtures, run_mixtures, rules_from, rules_of}
use Rattle.confinement.specs.Images.{limits_good}
use Rattle.confinement.specs.Sentences.{MayHold, SomeWith, NoneWith, Unprofiled}
use Rattle.confinement.proofs.PathsNamed.{Distinct, profiles_known, paths_distinct}
use Rattle.confinement.proofs.PathOrder.{member_known}
use Rattle.confinement.proofs.PolicyLaws.{few_paths}
use Rattle.confinement.proofs.ProfileLaws.{file_places}
use Rattle.confinement.proofs.RunMixtures.{run_data, run_running, run_none}

-- ---- programs that are chosen

member_passes : (f : Profile → Bool) (ps : List Profile) (p : Profile) → every f ps ≡ true → Memᴰ p ps → f p ≡ true
member_passes f [] p h m = absurd (Memᴰ.not-nil m)
member_passes f (x ∷ ps) p h m = ⊎_elim (λ e. ap f e ∙ every_0 f x ps h) (λ n. member_passes f ps p (every_1 f x ps h) n) (Memᴰ.cases_cons m)

-- those of l are the members of ps that pass
abbrev Chosen : (Profile → Bool) → List Profile → List Profile → Type 0
Chosen f ps l = (p : Profile) → Memᴰ p l ↔ (Memᴰ p ps × (f p ≡ true))

chosen_next : (f : Profile → Bool) (x : Profile) (ps l : List Profile) → Chosen f ps l → Chosen f (x ∷ ps) (cond (f x) (x ∷ l) l)
chosen_next f x ps l c p = (to (f x) refl, λ h. from (f x) refl (Memᴰ.cases_cons h.0) h.1)
  where
    later : Memᴰ p l → Memᴰ p (x ∷ ps) × (f p ≡ true)
    later m = (Memᴰ.tail ((c p).0 m).0, ((c p).0 m).1)

    to : (b : Bool) → f x ≡ b → Memᴰ p (cond b (x ∷ l) l) → Memᴰ p (x ∷ ps) × (f p ≡ true)
    to true e m = ⊎_elim (λ q. (Memᴰ.head q, ap f q ∙ e)) later (Memᴰ.cases_cons m)
    to false e m = later m

    from : (b : Bool) → f x ≡ b → (p ≡ x) ⊎ Memᴰ p ps → f p ≡ true → Memᴰ p (cond b (x ∷ l) l)
    from true e (inl q) h = Memᴰ.head q
    from true e (inr n) h = Memᴰ.tail ((c p).1 (n, h))
    from false e (inl q) h = clash h (ap f q ∙ e)
    from false e (inr n) h = (c p).1 (n, h)

chosen_none : (f : Profile → Bool) → Chosen f [] []
chosen_none f p = ((λ m. absurd (Memᴰ.not-nil m)), (λ h. h.0))

with_chosen : (wanted : List Mode) (q : List ℕ) (ps : List Profile) → Chosen (λ p. some_of wanted (modes_on p q)) ps (programs_with wanted q ps)
unfolding programs_with
with_chosen wanted q [] = chosen_none (λ p. some_of wanted (modes_on p q))
with_chosen wanted q (x ∷ ps) = chosen_next (λ p. some_of wanted (modes_on p q)) x ps (programs_with wanted q ps) (with_chosen wanted q ps)

at_chosen : (q : List ℕ) (ps : List Profile) → Chosen (λ p. same_list q p.path) ps (profiles_at q ps)
unfolding profiles_at
at_chosen q [] = chosen_none (λ p. same_list q p.path)
at_chosen q (x ∷ ps) = chosen_next (λ p. same_list q p.path) x ps (profiles_at q ps) (at_chosen q ps)

-- none is
nobody : (l : List Profile) → ((p : Profile) → Memᴰ p l → ⊥) → l ≡ []
nobody [] h = refl
nobody (x ∷ l) h = absurd (h x (Memᴰ.head refl))

with_none : (wanted : List Mode) (q : List ℕ) (ps : List Profile) → NoneWith ps wanted q → programs_with wanted q ps ≡ []
with_none wanted q ps none = nobody (programs_with wanted q ps) (λ p m. let h = (with_chosen wanted q ps p).0 m in clash h.1 (none p h.0))

at_none : (q : List ℕ) (ps : List Profile) → Unprofiled ps q → profiles_at q ps ≡ []
at_none q ps none = nobody (profiles_at q ps) (λ p m. let h = (at_chosen q ps p).0 m in none p h.0 (same_eq q p.path h.1))

-- one is
else_some : (f : Profile → ℕ) (l : List Profile) (z : List ℕ) (p : Profile) → Memᴰ p l → or_else (map f l) z ≡ map f l
unfolding or_else
else_some f [] z p m = absurd (Memᴰ.not-nil m)
else_some f (x ∷ l) z p m = refl

if_some_lem : (l : List Profile) (r z : List ℕ) (p : Profile) → Memᴰ p l → if_some l r z ≡ r
unfolding if_some
if_some_lem [] r z p m = absurd (Memᴰ.not-nil m)
if_some_lem (x ∷ l) r z p m = refl

-- and only one: no path is profiled twice
at_one : (q : List ℕ) (ps : List Profile) (p : Profile) → profiled_once ps ≡ true → Memᴰ p ps → q ≡ p.path → profiles_at q ps ≡ p ∷ []
unfolding profiled_once no_repeat profiles_at
at_one q [] p o m e = absurd (Memᴰ.not-nil m)
at_one q (x ∷ ps) p o m e = by (Memᴰ.cases_cons m) (λ n. at_one q ps p (and_1 (not (known x.path (map (λ p. p.path) ps))) o) n e)
  where
    apart : known x.path (map (λ p. p.path) ps) ≡ false
    apart = not-true (known x.path (map (λ p. p.path) ps)) (and_0 (not (known x.path (map (λ p. p.path) ps))) (no_repeat (map (λ p. p.path) ps)) o)

    -- not both x and one of the rest
    twice : (y : Profile) → Memᴰ y ps → q ≡ y.path → q ≡ x.path → ⊥
    twice y n a b = clash (member_known x.path (map (λ p. p.path) ps) (Memᴰ.cast (sym b ∙ a) (Memᴰ.map (λ p. p.path) n))) apart

    by : (p ≡ x) ⊎ Memᴰ p ps → (Memᴰ p ps → profiles_at q ps ≡ p ∷ []) → cond (same_list q x.path) (x ∷ profiles_at q ps) (profiles_at q ps) ≡ p ∷ []
    by (inl z) ih =
        let here : q ≡ x.path = e ∙ ap (λ (y : Profile). y.path) z in
        let s : same_list q x.path ≡ true = ap (same_list q) (sym here) ∙ same_refl q in
        rw (s, at_none q ps (λ y n a. twice y n a here)) (ap (λ (y : Profile). y ∷ []) (sym z))
    by (inr n) ih = rw (refuted (same_list q x.path) (λ s. twice p n e (same_eq q x.path s))) (ih n)

-- ---- what mixtures cover

-- a mixture holds a tag exactly if it has each of its atoms
holds_each : (m t : ℕ) → (holds m t ≡ true) ↔ ((i : ℕ) → atom t i ≡ 1 → atom m i ≡ 1)
holds_each m t = ((λ h i e. holds_has m t i h e), (λ f. atoms_holds m t (λ i. by i (f i) (ℕ_discrete (atom t i) 1))))
  where
    by : (i : ℕ) → (atom t i ≡ 1 → atom m i ≡ 1) → Dec (atom t i ≡ 1) → atom t i ≤ atom m i
    by i f (yes e) = omega (arith, f e)
    by i f (no d) = omega (arith, atom_le t i)

single_is : (k i : ℕ) → (atom (2 ^ k) i ≡ 1) ↔ (i ≡ k)
single_is k i = ((λ h. by h (ℕ_discrete i k)), (λ e. ap (atom (2 ^ k)) e ∙ single_same k))
  where
    by : atom (2 ^ k) i ≡ 1 → Dec (i ≡ k) → i ≡ k
    by h (yes e) = e
    by h (no d) = absurd (omega (arith, single_other k i d))

one_covers : (m t : ℕ) → covers (m ∷ []) t ≡ holds m t
unfolding covers
one_covers m t = or_none (holds m t)

-- by the mixture of all atoms, and by none
pub all_covered : (t : ℕ) → t < 2 ^ tag_width → covers unrestricted_rule t ≡ true
unfolding unrestricted_rule unrestricted
all_covered t l = one_covers (2 ^ tag_width - 1) t ∙ holds_all tag_width t l

pub none_covered : (t : ℕ) → covers [] t ≡ false
unfolding covers
none_covered t = refl

-- the mixtures of programs: ONE of them holds it
module _ (f : Profile → ℕ) (t : ℕ) where
  cover_one : (l : List Profile) → covers (map f l) t ≡ true → (p : Profile) × Memᴰ p l × (holds (f p) t ≡ true)
  unfolding covers
  cover_one [] h = clash h refl
  cover_one (x ∷ l) h =
      ⊎_elim (λ e. (x, Memᴰ.head refl, e)) (λ e. let r = cover_one l e in (r.0, Memᴰ.tail r.1, r.2)) (or_cases (holds (f x) t) h)

  one_cover : (l : List Profile) (p : Profile) → Memᴰ p l → holds (f p) t ≡ true → covers (map f l) t ≡ true
  unfolding covers
  one_cover [] p m h = absurd (Memᴰ.not-nil m)
  one_cover (x ∷ l) p m h =
      ⊎_elim (λ e. or_0 (holds (f x) t) (covers (map f l) t) (ap (λ (y : Profile). holds (f y) t) (sym e) ∙ h)) (λ n. or_1 (holds (f x) t) (covers (map f l) t) (one_cover l p n h))
      (Memᴰ.cases_cons m)

-- of the programs with a wanted mode; what their mixtures hold is told by H
with_covers : (ps : List Profile) (f : Profile → ℕ) (H : Profile → Type 0) (wanted : List Mode) (q : List ℕ) (t : ℕ)
    → ((p : Profile) → Memᴰ p ps → (holds (f p) t ≡ true) ↔ H p)
    → (covers (map f (programs_with wanted q ps)) t ≡ true) ↔ ((p : Profile) × Memᴰ p ps × (some_of wanted (modes_on p q) ≡ true) × H p)
with_covers ps f H wanted q t told = (to, from)
  where
    to : covers (map f (programs_with wanted q ps)) t ≡ true → (p : Profile) × Memᴰ p ps × (some_of wanted (modes_on p q) ≡ true) × H p
    to h =
        let r = cover_one f t (programs_with wanted q ps) h in
        let c = (with_chosen wanted q ps r.0).0 r.1 in
        (r.0, c.0, c.1, (told r.0 c.0).0 r.2)

    from : ((p : Profile) × Memᴰ p ps × (some_of wanted (modes_on p q) ≡ true) × H p) → covers (map f (programs_with wanted q ps)) t ≡ true
    from (p, m, w, h) = one_cover f t (programs_with wanted q ps) p ((with_chosen wanted q ps p).1 (m, w)) ((told p m).1 h)

-- ---- the run mixture of a program

module _ (ns : List (List ℕ)) (few : length ns ≤ data_width) (apart : Distinct ns) (p : Profile) (own : known p.path ns ≡ true) (i : ℕ) where
  pub run_atoms : (atom (run_mixture ns p) i ≡ 1) ↔ MayHold ns p i
  run_atoms = (to (dec_lt i (length ns)) (dec_lt i data_width) (dec_lt (i - data_width) (length ns)), from)
    where
      -- of no path
      other : ((k : ℕ) → k < length ns → (i ≡ k → ⊥) × (i ≡ data_width + k → ⊥)) → atom (run_mixture ns p) i ≡ 1 → MayHold ns p i
      other d h = absurd (omega (arith, run_none ns p own i d))

      to : Dec (i < length ns) → Dec (i < data_width) → Dec (i - data_width < length ns) → atom (run_mixture ns p) i ≡ 1 → MayHold ns p i
      to (yes l) b c h = (i, l, inl (refl, (run_data ns few apart p own i l).0 h))
      to (no l) (yes b) c h = other (λ k m. ((λ e. l (omega arith)), (λ e. omega arith))) h
      to (no l) (no b) (yes m) h =
          let e : i ≡ data_width + (i - data_width) = omega arith in
          (i - data_width, m, inr (e, (run_running ns few apart p own (i - data_width) m).0 (ap (atom (run_mixture ns p)) (sym e) ∙ h)))
      to (no l) (no b) (no c) h = other (λ k m. ((λ e. l (omega arith)), (λ e. c (omega arith)))) h

      from : MayHold ns p i → atom (run_mixture ns p) i ≡ 1
      from (k, l, inl (e, r)) = ap (atom (run_mixture ns p)) e ∙ (run_data ns few apart p own k l).1 r
      from (k, l, inr (e, r)) = ap (atom (run_mixture ns p)) e ∙ (run_running ns few apart p own k l).1 r

-- ---- the two rules of a path

rules_at : (ns : List (List ℕ)) (ps : List Profile) (k : ℕ) (qs : List (List ℕ)) (j : ℕ) → j < length qs
    → (get_or (rules_from ns ps k qs) (2 * j) [] ≡ normal (permit_mixtures ns ps (k + j) (get_or qs j [])))
    × (get_or (rules_from ns ps k qs) (2 * j + 1) [] ≡ normal (run_mixtures ns ps (get_or qs j [])))
unfolding rules_from
rules_at ns ps k [] j l = absurd (omega arith)
rules_at ns ps k (q ∷ qs) zero l = let e : k ≡ k + 0 = omega arith in (ap (λ (n : ℕ). normal (permit_mixtures ns ps n q)) e, refl)
rules_at ns ps k (q ∷ qs) (suc j) l =
    let a : 2 * suc j ≡ suc (suc (2 * j)) = omega arith in
    let b : 2 * suc j + 1 ≡ suc (suc (2 * j + 1)) = omega arith in
    let c : k + suc j ≡ suc k + j = omega arith in
    let ih = rules_at ns ps (suc k) qs j (omega arith) in
    (rw (a, c) ih.0, rw b ih.1)

places_length : (ns : List (List ℕ)) (ps : List Profile) (k : ℕ) (qs : List (List ℕ)) → length (file_places ns ps k qs) ≡ length qs
places_length ns ps k [] = refl
places_length ns ps k (q ∷ qs) = ap suc (places_length ns ps (suc k) qs)

places_at : (ns : List (List ℕ)) (ps : List Profile) (k : ℕ) (qs : List (List ℕ)) (j : ℕ) → j < length qs
    → get_or (file_places ns ps k qs) j process_place
    ≡ record { kind = file_kind; atom = k + j; permit = normal (permit_mixtures ns ps (k + j) (get_or qs j [])); run = normal (run_mixtures ns ps (get_or qs j [])) }
places_at ns ps k [] j l = absurd (omega arith)
places_at ns ps k (q ∷ qs) zero l =
    let e : k ≡ k + 0 = omega arith in
    ap (λ (n : ℕ). record { kind = file_kind; atom = n; permit = normal (permit_mixtures ns ps n q); run = normal (run_mixtures ns ps q) }) e
places_at ns ps k (q ∷ qs) (suc j) l = let c : k + suc j ≡ suc k + j = omega arith in rw c (places_at ns ps (suc k) qs j (omega arith))

module _ (ps : List Profile) (good : limits_good ps ≡ true) (k : ℕ) (l : k < length (paths_of ps)) where
  abbrev ns : List (List ℕ)
  ns = paths_of ps

  abbrev path : List ℕ
  path = get_or (paths_of ps) k []

  permit_at : get_or (rules_of ps) (2 * k) [] ≡ normal (permit_mixtures ns ps k path)
  unfolding rules_of
  permit_at = let z : 0 + k ≡ k = omega arith in (rules_at ns ps 0 ns k l).0 ∙ ap (λ (n : ℕ). normal (permit_mixtures ns ps n path)) z

  run_at : get_or (rules_of ps) (2 * k + 1) [] ≡ normal (run_mixtures ns ps path)
  unfolding rules_of
  run_at = (rules_at ns ps 0 ns k l).1

  -- they are those of the k-th file, whose atom is k
  pub file_at : get_or (file_places ns ps 0 ns ++ (process_place ∷ [])) k process_place
      ≡ record { kind = file_kind; atom = k; permit = get_or (rules_of ps) (2 * k) []; run = get_or (rules_of ps) (2 * k + 1) [] }
  file_at =
      let z : 0 + k ≡ k = omega arith in
      let b : k < length (file_places ns ps 0 ns) = omega (arith, places_length ns ps 0 ns) in
      rw (permit_at, run_at) (get_or-append (file_places ns ps 0 ns) (process_place ∷ []) process_place k b ∙ places_at ns ps 0 ns k l ∙ stated z)
    where
      stated : {n : ℕ} → n ≡ k
          → ◌≡◌ {A = Place} (record { kind = file_kind; atom = n; permit = normal (permit_mixtures ns ps n path); run = normal (run_mixtures ns ps path) })
          (record { kind = file_kind; atom = k; permit = normal (permit_mixtures ns ps k path); run = normal (run_mixtures ns ps path) })
      stated e = ap (λ (n : ℕ). record { kind = file_kind; atom = n; permit = normal (permit_mixtures ns ps n path); run = normal (run_mixtures ns ps path) }) e

  module _ (t : ℕ) (p : Profile) (m : Memᴰ p ps) where
    atoms : (i : ℕ) → (atom (run_mixture ns p) i ≡ 1) ↔ MayHold ns p i
    atoms = run_atoms ns (few_paths ps good) (paths_distinct ps) p (member_passes (λ x. known x.path ns) ps p (profiles_known ps) m)

    run_held : (holds (run_mixture ns p) t ≡ true) ↔ ((i : ℕ) → atom t i ≡ 1 → MayHold ns p i)
    run_held = (
      (λ h i e. (atoms i).0 ((holds_each (run_mixture ns p) t).0 h i e)),
      (λ f. (holds_each (run_mixture ns p) t).1 (λ i e. (atoms i).1 (f i e))),
    )

    -- with the file's atom added
    permit_held : (holds (bit_or (run_mixture ns p) (2 ^ k)) t ≡ true) ↔ ((i : ℕ) → atom t i ≡ 1 → (i ≡ k) ⊎ MayHold ns p i)
    permit_held = (
      (λ h i e. to i ((or_has (run_mixture ns p) (2 ^ k) i).0 ((holds_each (bit_or (run_mixture ns p) (2 ^ k)) t).0 h i e))),
      (λ f. (holds_each (bit_or (run_mixture ns p) (2 ^ k)) t).1 (λ i e. (or_has (run_mixture ns p) (2 ^ k) i).1 (from i (f i e)))),
    )
      where
        to : (i : ℕ) → (atom (run_mixture ns p) i ≡ 1) ⊎ (atom (2 ^ k) i ≡ 1) → (i ≡ k) ⊎ MayHold ns p i
        to i (inl h) = inr ((atoms i).0 h)
        to i (inr h) = inl ((single_is k i).0 h)

        from : (i : ℕ) → (i ≡ k) ⊎ MayHold ns p i → (atom (run_mixture ns p) i ≡ 1) ⊎ (atom (2 ^ k) i ≡ 1)
        from i (inl e) = inr ((single_is k i).1 e)
        from i (inr h) = inl ((atoms i).1 h)

  -- ---- the permit rule

  pub permit_written : SomeWith ps writing path → (t : ℕ) → (covers (get_or (rules_of ps) (2 * k) []) t ≡ true)
      ↔ ((p : Profile) × Memᴰ p ps × (some_of writing (modes_on p path) ≡ true) × ((i : ℕ) → atom t i ≡ 1 → (i ≡ k) ⊎ MayHold ns p i))
  unfolding permit_mixtures
  permit_written (p, m, w) t =
      rw (
        permit_at,
        covers_normal (permit_mixtures ns ps k path) t,
        else_some (λ x. bit_or (run_mixture ns x) (2 ^ k)) (programs_with writing path ps) (2 ^ k ∷ []) p ((with_chosen writing path ps p).1 (m, w)),
      )
      (with_covers ps (λ x. bit_or (run_mixture ns x) (2 ^ k)) (λ x. (i : ℕ) → atom t i ≡ 1 → (i ≡ k) ⊎ MayHold ns x i) writing path t (permit_held t))

  pub permit_unwritten : NoneWith ps writing path → get_or (rules_of ps) (2 * k) [] ≡ 2 ^ k ∷ []
  unfolding permit_mixtures or_else
  permit_unwritten none = permit_at ∙ rw (with_none writing path ps none) (normal_one (2 ^ k))

  -- ---- the run rule

  pub run_profiled : profiled_once ps ≡ true → (p : Profile) → Memᴰ p ps → path ≡ p.path → get_or (rules_of ps) (2 * k + 1) [] ≡ run_mixture ns p ∷ []
  unfolding run_mixtures or_else
  run_profiled o p m e = run_at ∙ rw (at_one path ps p o m e) (normal_one (run_mixture ns p))

  pub run_profiled_covers : profiled_once ps ≡ true → (p : Profile) → Memᴰ p ps → path ≡ p.path → (t : ℕ)
      → (covers (get_or (rules_of ps) (2 * k + 1) []) t ≡ true) ↔ ((i : ℕ) → atom t i ≡ 1 → MayHold ns p i)
  run_profiled_covers o p m e t = rw (run_profiled o p m e, one_covers (run_mixture ns p) t) (run_held t p m)

  module _ (free : Unprofiled ps path) where
    pub run_unconfined : SomeWith ps unconfined path → get_or (rules_of ps) (2 * k + 1) [] ≡ unrestricted_rule
    unfolding run_mixtures or_else
    run_unconfined (p, m, w) =
        run_at
        ∙ rw (
          at_none path ps free,
          if_some_lem (programs_with unconfined path ps) unrestricted_rule
              (or_else (map (run_mixture ns) (programs_with inheriting path ps)) (if_some (programs_with confined path ps) [] unrestricted_rule)) p
              ((with_chosen unconfined path ps p).1 (m, w)),
        )
        normal_unrestricted

    module _ (kept : NoneWith ps unconfined path) where
      run_rest : get_or (rules_of ps) (2 * k + 1) [] ≡ normal (or_else (map (run_mixture ns) (programs_with inheriting path ps)) (if_some (programs_with confined path ps) [] unrestricted_rule))
      unfolding run_mixtures or_else if_some
      run_rest = run_at ∙ rw (at_none path ps free, with_none unconfined path ps kept)

      pub run_inherited : SomeWith ps inheriting path → (t : ℕ) → (covers (get_or (rules_of ps) (2 * k + 1) []) t ≡ true)
          ↔ ((p : Profile) × Memᴰ p ps × (some_of inheriting (modes_on p path) ≡ true) × ((i : ℕ) → atom t i ≡ 1 → MayHold ns p i))
      run_inherited (p, m, w) t =
          rw (
            run_rest,
            covers_normal (or_else (map (run_mixture ns) (programs_with inheriting path ps)) (if_some (programs_with confined path ps) [] unrestricted_rule)) t,
            else_some (run_mixture ns) (programs_with inheriting path ps) (if_some (programs_with confined path ps) [] unrestricted_rule) p
                ((with_chosen inheriting path ps p).1 (m, w)),
          )
          (with_covers ps (run_mixture ns) (λ x. (i : ℕ) → atom t i ≡ 1 → MayHold ns x i) inheriting path t (run_held t))

      module _ (apart : NoneWith ps inheriting path) where
        pub run_confined : SomeWith ps confined path → get_or (rules_of ps) (2 * k + 1) [] ≡ []
        unfolding or_else normal sort unheld_in distinct
        run_confined (p, m, w) = run_rest ∙ rw (with_none inheriting path ps apart, if_some_lem (programs_with confined path ps) [] unrestricted_rule p ((with_chosen confined path ps p).1 (m, w)))

        pub run_unnamed : NoneWith ps confined path → get_or (rules_of ps) (2 * k + 1) [] ≡ unrestricted_rule
        unfolding or_else if_some
        run_unnamed none = run_rest ∙ rw (with_none inheriting path ps apart, with_none confined path ps none) normal_unrestricted
