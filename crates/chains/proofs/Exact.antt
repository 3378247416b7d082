-- A rule that stands for a family of rules: it covers exactly what all of them cover. And a tag that stands for a family of
-- data atoms and one of running atoms.
use Prim.Native.Nat.{ℕ, ◌+◌, ◌-◌, ◌^◌, ◌≤◌, ◌<◌}
use native.Mathlib.Omega.{arith}
use native.Mathlib.Decide.{dec_lt, ℕ_discrete}
use mathlib.Core.Path.{◌≡◌, sym, subst, ◌∙◌}
use mathlib.Core.Logic.{◌⊎◌, inl, inr, ⊎_elim}
use mathlib.Core.Bool.{true, false}
use mathlib.Core.List.{List}
use lib.Bits.{bit_or}
use lib.Pow.{pow-lt}
use native.Mathlib.Nat.{zero-div}
use Rattle.rules.specs.Sets.{atom, holds, data_of, running_of}
use Rattle.rules.specs.Rules.{covers, normal, meet, unrestricted}
use Rattle.lists.specs.Lists.{elem}
use Rattle.rules.specs.Answers.{data_width, tag_width}
use Rattle.lists.proofs.Bools.{and_in, and_0, and_1, or_0, clash, decide}
use Rattle.rules.proofs.SetLaws.{atom_le, atoms_holds, holds_all, holds_has, single_same, single_other, or_has, data_has, running_has}
use Rattle.rules.proofs.RuleLaws.{covers_normal, covers_meet, covers_by, Largest, largest}
use Rattle.image.specs.Policy.{unrestricted_rule}

-- ---- what the unrestricted rule covers

-- the sets of the product's atoms
abbrev pub Wide : ℕ → Type 0
Wide t = (k : ℕ) → atom t k ≡ 1 → k < tag_width

all_atoms : (w k : ℕ) → k < w → atom (2 ^ w - 1) k ≡ 1
all_atoms w k l = holds_has (2 ^ w - 1) (2 ^ k) k (holds_all w (2 ^ k) (pow-lt l)) (single_same k)

covers_unrestricted : (t : ℕ) → Wide t → covers unrestricted_rule t ≡ true
unfolding unrestricted_rule unrestricted covers
covers_unrestricted t wide = or_0 (holds (2 ^ tag_width - 1) t) false (atoms_holds (2 ^ tag_width - 1) t (λ k. on k (dec_lt k tag_width) (ℕ_discrete (atom t k) 1)))
  where
    on : (k : ℕ) → Dec (k < tag_width) → Dec (atom t k ≡ 1) → atom t k ≤ atom (2 ^ tag_width - 1) k
    on k (yes l) e = omega (arith, atom_le t k, all_atoms tag_width k l)
    on k (no l) (yes e) = absurd (l (wide k e))
    on k (no l) (no e) = omega (arith, atom_le t k)

-- a rule that covers has a mixture with all atoms of the tag
pub covers_out : (r : List ℕ) (t : ℕ) → covers r t ≡ true → (m : ℕ) × (elem m r ≡ true) × ((k : ℕ) → atom t k ≡ 1 → atom m k ≡ 1)
covers_out r t e =
    let l : Largest r t = largest r t e in (l.top, l.among, λ k. holds_has l.top t k l.over)

pub covers_in : (r : List ℕ) (t m : ℕ) → elem m r ≡ true → ((k : ℕ) → atom t k ≡ 1 → atom m k ≡ 1) → covers r t ≡ true
covers_in r t m mem f = covers_by m r t mem (atoms_holds m t (λ k. on k (ℕ_discrete (atom t k) 1)))
  where
    on : (k : ℕ) → Dec (atom t k ≡ 1) → atom t k ≤ atom m k
    on k (yes e) = omega (arith, f k e)
    on k (no e) = omega (arith, atom_le t k)

-- ---- rules

pub record Exact (G : List ℕ → Type 0) (w : List ℕ) : Type 0 where
  pub fails : (t : ℕ) → Wide t → covers w t ≡ false → (r : List ℕ) × G r × (covers r t ≡ false)
  pub holds : (t : ℕ) → covers w t ≡ true → (r : List ℕ) → G r → covers r t ≡ true

pub exact_map : {G H : List ℕ → Type 0} {w : List ℕ} → ((r : List ℕ) → G r → H r) → ((r : List ℕ) → H r → G r) → Exact G w → Exact H w
exact_map to from e = record {
  fails = λ t d c. ((e.fails t d c).0, to _ (e.fails t d c).1, (e.fails t d c).2);
  holds = λ t c r g. e.holds t c r (from r g);
}

pub exact_unrestricted : {G : List ℕ → Type 0} → ((r : List ℕ) → ¬ G r) → Exact G unrestricted_rule
exact_unrestricted ng = record {
  fails = λ t d c. clash (covers_unrestricted t d) c;
  holds = λ t c r g. absurd (ng r g);
}

-- the normal form of a rule stands for what the rule does
pub exact_normal : {G : List ℕ → Type 0} (w : List ℕ) → Exact G w → Exact G (normal w)
exact_normal w e = record {
  fails = λ t d c. e.fails t d (sym (covers_normal w t) ∙ c);
  holds = λ t c r g. e.holds t (sym (covers_normal w t) ∙ c) r g;
}

pub exact_one : {G : List ℕ → Type 0} (w : List ℕ) → G w → ((r : List ℕ) → G r → w ≡ r) → Exact G w
exact_one w g u = record {
  fails = λ t d c. (w, g, c);
  holds = λ t c r k. subst (λ (x : List ℕ). covers x t ≡ true) (u r k) c;
}

pub exact_meet : {G H : List ℕ → Type 0} {a b : List ℕ} → Exact G a → Exact H b → Exact (λ r. G r ⊎ H r) (meet a b)
exact_meet {G} {H} {a} {b} ea eb = record { fails = λ t d c. fail t d c (decide (covers a t)); holds = hold }
  where
    fail : (t : ℕ) → Wide t → covers (meet a b) t ≡ false → (covers a t ≡ true) ⊎ (covers a t ≡ false)
        → (r : List ℕ) × (G r ⊎ H r) × (covers r t ≡ false)
    fail t d c (inr x) = ((ea.fails t d x).0, inl (ea.fails t d x).1, (ea.fails t d x).2)
    fail t d c (inl x) = on (decide (covers b t))
      where
        on : (covers b t ≡ true) ⊎ (covers b t ≡ false) → (r : List ℕ) × (G r ⊎ H r) × (covers r t ≡ false)
        on (inl y) = clash (covers_meet a b t ∙ and_in x y) c
        on (inr y) = ((eb.fails t d y).0, inr (eb.fails t d y).1, (eb.fails t d y).2)

    hold : (t : ℕ) → covers (meet a b) t ≡ true → (r : List ℕ) → G r ⊎ H r → covers r t ≡ true
    hold t c r (inl g) = ea.holds t (and_0 (covers a t) (covers b t) (sym (covers_meet a b t) ∙ c)) r g
    hold t c r (inr g) = eb.holds t (and_1 (covers a t) (sym (covers_meet a b t) ∙ c)) r g

-- ---- tags

-- the tag t holds the data atoms A and the running atoms of T, and nothing else
pub record Tagged (A T : ℕ → Type 0) (t : ℕ) : Type 0 where
  pub wide : Wide t
  pub low : (d : ℕ) → d < data_width → atom t d ≡ 1 → A d
  pub low_in : (d : ℕ) → A d → (d < data_width) × (atom t d ≡ 1)
  pub high : (d : ℕ) → atom t (d + data_width) ≡ 1 → T d
  pub high_in : (d : ℕ) → T d → atom t (d + data_width) ≡ 1

pub tagged_map : {A B T U : ℕ → Type 0} {t : ℕ} → ((d : ℕ) → A d → B d) → ((d : ℕ) → B d → A d) → ((d : ℕ) → T d → U d) → ((d : ℕ) → U d → T d)
    → Tagged A T t → Tagged B U t
tagged_map ab ba tu ut g = record {
  wide = g.wide;
  low = λ d l e. ab d (g.low d l e);
  low_in = λ d b. g.low_in d (ba d b);
  high = λ d e. tu d (g.high d e);
  high_in = λ d b. g.high_in d (ut d b);
}

nothing : (k : ℕ) → atom 0 k ≡ 1 → ⊥
unfolding atom
nothing k e = omega (arith, zero-div (2 ^ k))

pub tagged_none : {A T : ℕ → Type 0} → ((d : ℕ) → ¬ A d) → ((d : ℕ) → ¬ T d) → Tagged A T 0
tagged_none na nt = record {
  wide = λ k e. absurd (nothing k e);
  low = λ d l e. absurd (nothing d e);
  low_in = λ d a. absurd (na d a);
  high = λ d e. absurd (nothing (d + data_width) e);
  high_in = λ d a. absurd (nt d a);
}

single_only : (a k : ℕ) → atom (2 ^ a) k ≡ 1 → k ≡ a
single_only a k e = on (ℕ_discrete k a)
  where
    on : Dec (k ≡ a) → k ≡ a
    on (yes q) = q
    on (no q) = absurd (omega (arith, single_other a k q))

pub tagged_one : {A T : ℕ → Type 0} (a : ℕ) → a < data_width → A a → ((d : ℕ) → A d → d ≡ a) → ((d : ℕ) → ¬ T d) → Tagged A T (2 ^ a)
tagged_one {A} {T} a la g u nt = record {
  wide = λ k e. omega (arith, single_only a k e);
  low = λ d l e. subst A (sym (single_only a d e)) g;
  low_in = λ d k. (omega (arith, u d k), subst (λ (x : ℕ). atom (2 ^ a) x ≡ 1) (sym (u d k)) (single_same a));
  high = λ d e. absurd (omega (arith, single_only a (d + data_width) e));
  high_in = λ d k. absurd (nt d k);
}

pub tagged_union : {A T B U : ℕ → Type 0} {a b : ℕ} → Tagged A T a → Tagged B U b → Tagged (λ d. A d ⊎ B d) (λ d. T d ⊎ U d) (bit_or a b)
tagged_union {A} {T} {B} {U} {a} {b} ga gb = record {
  wide = λ k e. ⊎_elim (ga.wide k) (gb.wide k) ((or_has a b k).0 e);
  low = λ d l e. ⊎_elim (λ x. inl (ga.low d l x)) (λ x. inr (gb.low d l x)) ((or_has a b d).0 e);
  low_in = low_in';
  high = λ d e. ⊎_elim (λ x. inl (ga.high d x)) (λ x. inr (gb.high d x)) ((or_has a b (d + data_width)).0 e);
  high_in = high_in';
}
  where
    low_in' : (d : ℕ) → A d ⊎ B d → (d < data_width) × (atom (bit_or a b) d ≡ 1)
    low_in' d (inl x) = ((ga.low_in d x).0, (or_has a b d).1 (inl (ga.low_in d x).1))
    low_in' d (inr x) = ((gb.low_in d x).0, (or_has a b d).1 (inr (gb.low_in d x).1))

    high_in' : (d : ℕ) → T d ⊎ U d → atom (bit_or a b) (d + data_width) ≡ 1
    high_in' d (inl x) = (or_has a b (d + data_width)).1 (inl (ga.high_in d x))
    high_in' d (inr x) = (or_has a b (d + data_width)).1 (inr (gb.high_in d x))

-- what a read takes
pub tagged_data : {A T : ℕ → Type 0} {a : ℕ} → Tagged A T a → Tagged A (λ d. ⊥) (data_of data_width a)
tagged_data {A} {T} {a} g = record {
  wide = λ k e. omega (arith, ((data_has data_width a k).0 e).0);
  low = λ d l e. g.low d l ((data_has data_width a d).0 e).1;
  low_in = λ d x. ((g.low_in d x).0, (data_has data_width a d).1 (g.low_in d x));
  high = λ d e. absurd (omega (arith, ((data_has data_width a (d + data_width)).0 e).0));
  high_in = λ d x. absurd x;
}

-- what an exec takes
pub tagged_running : {A T : ℕ → Type 0} {a : ℕ} → Tagged A T a → Tagged (λ d. ⊥) A (running_of data_width a)
tagged_running {A} {T} {a} g = record { wide = wide'; low = low'; low_in = λ d x. absurd x; high = high'; high_in = high_in' }
  where
    wide' : Wide (running_of data_width a)
    wide' k e = let h : (d : ℕ) × (k ≡ data_width + d) × (d < data_width) × (atom a d ≡ 1) = (running_has data_width a k).0 e in omega (arith, h.1, h.2)

    low' : (d : ℕ) → d < data_width → atom (running_of data_width a) d ≡ 1 → ⊥
    low' d l e = let h : (b : ℕ) × (d ≡ data_width + b) × (b < data_width) × (atom a b ≡ 1) = (running_has data_width a d).0 e in omega (arith, h.1)

    high' : (d : ℕ) → atom (running_of data_width a) (d + data_width) ≡ 1 → A d
    high' d e =
        let h : (b : ℕ) × (d + data_width ≡ data_width + b) × (b < data_width) × (atom a b ≡ 1) = (running_has data_width a (d + data_width)).0 e in
        let q : h.0 ≡ d = omega (arith, h.1) in
        subst A q (g.low h.0 h.2 h.3)

    high_in' : (d : ℕ) → A d → atom (running_of data_width a) (d + data_width) ≡ 1
    high_in' d x =
        let q : d + data_width ≡ data_width + d = omega arith in
        (running_has data_width a (d + data_width)).1 (d, q, (g.low_in d x).0, (g.low_in d x).1)
