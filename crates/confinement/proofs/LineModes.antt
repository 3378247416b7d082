-- The modes of a program on a path are those of its lines.
use Prim.Native.Nat.{ℕ}
use mathlib.Core.Path.{◌≡◌, refl, sym, ap, ◌∙◌, subst}
use mathlib.Core.Logic.{◌⊎◌, inl, inr, ⊎_elim, ◌↔◌}
use mathlib.Core.Bool.{Bool, true, false, cond}
use mathlib.Core.List.Memᴰ
use mathlib.Core.List.{List, [], ◌∷◌, ◌++◌, Memᴰ}
use Rattle.lists.specs.Lists.{same_list}
use Rattle.lists.proofs.Bools.{or_0, or_1, or_cases, clash}
use Rattle.lists.proofs.Same.{same_refl, same_eq}
use Rattle.lists.proofs.Places.{some_inj}
use Rattle.profiles.specs.Profiles.{Mode, PathEntry, Profile, mode_text}
use Rattle.profiles.specs.Reading.{mode_in}
use Rattle.profiles.proofs.ProfileLines.{mode_back}
use Rattle.confinement.specs.Confinement.{is_one_of, some_of, modes_among, modes_on}

-- the letters tell the mode
letters_tell : (n m : Mode) → same_list (mode_text n) (mode_text m) ≡ true → n ≡ m
letters_tell n m h = some_inj (sym (mode_back n [] refl) ∙ ap (λ (t : List ℕ). mode_in (t ++ [])) (same_eq (mode_text n) (mode_text m) h) ∙ mode_back m [] refl)

one_in : (wanted : List Mode) (m : Mode) → is_one_of wanted m ≡ true → Memᴰ m wanted
unfolding is_one_of
one_in [] m h = clash h refl
one_in (n ∷ wanted) m h = ⊎_elim (λ e. Memᴰ.head (sym (letters_tell n m e))) (λ e. Memᴰ.tail (one_in wanted m e)) (or_cases (same_list (mode_text n) (mode_text m)) h)

in_one : (wanted : List Mode) (m : Mode) → Memᴰ m wanted → is_one_of wanted m ≡ true
unfolding is_one_of
in_one [] m k = absurd (Memᴰ.not-nil k)
in_one (n ∷ wanted) m k =
    ⊎_elim (λ e. or_0 (same_list (mode_text n) (mode_text m)) (is_one_of wanted m) (ap (λ (x : Mode). same_list (mode_text n) (mode_text x)) e ∙ same_refl (mode_text n)))
    (λ e. or_1 (same_list (mode_text n) (mode_text m)) (is_one_of wanted m) (in_one wanted m e)) (Memᴰ.cases_cons k)

some_in : (wanted ms : List Mode) → some_of wanted ms ≡ true → (m : Mode) × Memᴰ m ms × Memᴰ m wanted
unfolding some_of
some_in wanted [] h = clash h refl
some_in wanted (m ∷ ms) h =
    ⊎_elim (λ e. (m, Memᴰ.head refl, one_in wanted m e)) (λ e. let r = some_in wanted ms e in (r.0, Memᴰ.tail r.1, r.2)) (or_cases (is_one_of wanted m) h)

in_some : (wanted ms : List Mode) (m : Mode) → Memᴰ m ms → Memᴰ m wanted → some_of wanted ms ≡ true
unfolding some_of
in_some wanted [] m k w = absurd (Memᴰ.not-nil k)
in_some wanted (n ∷ ms) m k w =
    ⊎_elim (λ e. or_0 (is_one_of wanted n) (some_of wanted ms) (in_one wanted n (Memᴰ.cast (sym e) w)))
    (λ e. or_1 (is_one_of wanted n) (some_of wanted ms) (in_some wanted ms m e w)) (Memᴰ.cases_cons k)

-- ---- the modes of lines

-- a line of the path that has the mode
abbrev LineWith : List PathEntry → List ℕ → Mode → Type 0
LineWith es q m = (e : PathEntry) × Memᴰ e es × (q ≡ e.path) × Memᴰ m e.modes

among_line : (es : List PathEntry) (q : List ℕ) (m : Mode) → Memᴰ m (modes_among es q) → LineWith es q m
unfolding modes_among
among_line [] q m k = absurd (Memᴰ.not-nil k)
among_line (e ∷ es) q m k = by (same_list q e.path) refl k (among_line es q m)
  where
    later : LineWith es q m → LineWith (e ∷ es) q m
    later (x, i, p, j) = (x, Memᴰ.tail i, p, j)

    by : (b : Bool) → same_list q e.path ≡ b → Memᴰ m (cond b (e.modes ++ modes_among es q) (modes_among es q)) → (Memᴰ m (modes_among es q) → LineWith es q m) → LineWith (e ∷ es) q m
    by true s k ih = ⊎_elim (λ j. (e, Memᴰ.head refl, same_eq q e.path s, j)) (λ j. later (ih j)) (Memᴰ.append_cases e.modes k)
    by false s k ih = later (ih k)

line_among_lem : (es : List PathEntry) (q : List ℕ) (m : Mode) → LineWith es q m → Memᴰ m (modes_among es q)
unfolding modes_among
line_among_lem [] q m (e, i, p, j) = absurd (Memᴰ.not-nil i)
line_among_lem (x ∷ es) q m (e, i, p, j) = by (same_list q x.path) refl (Memᴰ.cases_cons i) (λ k. line_among_lem es q m (e, k, p, j))
  where
    by : (b : Bool) → same_list q x.path ≡ b → (e ≡ x) ⊎ Memᴰ e es → (Memᴰ e es → Memᴰ m (modes_among es q)) → Memᴰ m (cond b (x.modes ++ modes_among es q) (modes_among es q))
    by true s (inl z) ih = Memᴰ.append_left (modes_among es q) (subst (λ (y : PathEntry). Memᴰ m y.modes) z j)
    by true s (inr k) ih = Memᴰ.append_right x.modes (ih k)
    by false s (inl z) ih = clash (ap (same_list q) (sym (p ∙ ap (λ (y : PathEntry). y.path) z)) ∙ same_refl q) s
    by false s (inr k) ih = ih k

pub lines_tell : (p : Profile) (wanted : List Mode) (q : List ℕ) → (some_of wanted (modes_on p q) ≡ true)
    ↔ ((e : PathEntry) × Memᴰ e p.entries × (q ≡ e.path) × ((m : Mode) × Memᴰ m e.modes × Memᴰ m wanted))
unfolding modes_on
lines_tell p wanted q = (to, from)
  where
    to : some_of wanted (modes_among p.entries q) ≡ true → (e : PathEntry) × Memᴰ e p.entries × (q ≡ e.path) × ((m : Mode) × Memᴰ m e.modes × Memᴰ m wanted)
    to h =
        let r = some_in wanted (modes_among p.entries q) h in
        let s = among_line p.entries q r.0 r.1 in
        (s.0, s.1, s.2, (r.0, s.3, r.2))

    from : (e : PathEntry) × Memᴰ e p.entries × (q ≡ e.path) × ((m : Mode) × Memᴰ m e.modes × Memᴰ m wanted) → some_of wanted (modes_among p.entries q) ≡ true
    from (e, i, z, (m, j, w)) = in_some wanted (modes_among p.entries q) m (line_among_lem p.entries q m (e, i, z, j)) w
