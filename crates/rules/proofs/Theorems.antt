-- What is proved of sets and rules, at any width: the statements, each with the law that proves it.
-- `holds`, `covers`, `normal`, `meet` and the others are the definitions of specs/Sets.antt and specs/Rules.antt;
-- `Ascending`, `Antichain` and `Within` those of specs/Order.antt.
use native.Mathlib.Omega.{arith}
use Prim.Native.Nat.{ℕ, ◌+◌, ◌-◌, ◌^◌, ◌≤◌, ◌<◌, min, max}
use mathlib.Core.Path.{◌≡◌, sym, ap, ◌∙◌}
use mathlib.Core.Logic.{◌↔◌}
use mathlib.Core.Bool.{true, false, not, ◌&&◌}
use mathlib.Core.List.{List, [], ◌++◌, Memᴰ}
use lib.Bits.{bit_and, bit_or}
use lib.Dec.{eqb}
use lib.ListN.{length, get_or, take}
use Rattle.rules.specs.Sets.{atom, holds, data_of, running_of}
use Rattle.rules.specs.Rules.{covers, no_position, cover_place, normal, meet, unrestricted, meet_all, all_cover, refines}
use Rattle.rules.specs.Placewise.{placewise, within, alike}
use Rattle.lists.specs.Lists.{elem, same_list}
use Rattle.rules.specs.Order.{Ascending, Antichain, Within}
use Rattle.rules.specs.Answers.{mixture_limit}
use Rattle.rules.proofs.SetLaws as sets
use Rattle.rules.proofs.RuleLaws as rules
use Rattle.rules.proofs.CoverLaws as places
use Rattle.rules.proofs.MeetAll as all
use Rattle.lists.proofs.Same as same
use Rattle.rules.proofs.RefineLaws as refine
use Rattle.rules.proofs.PlacewiseLaws as placewise-laws

-- ---- sets

-- a set is its atoms, each of which is in it (1) or not (0)
pub atom_is : (m k : ℕ) → atom m k ≤ 1
atom_is = sets.atom_le

pub extensionality : (a b : ℕ) → ((k : ℕ) → atom a k ≡ atom b k) → a ≡ b
extensionality = sets.ext

pub single_atom : (k j : ℕ) → (j ≡ k → ⊥) → (atom (2 ^ k) k ≡ 1) × (atom (2 ^ k) j ≡ 0)
single_atom k j h = (sets.single_same k, sets.single_other k j h)

pub intersection_atoms : (a b k : ℕ) → atom (bit_and a b) k ≡ min (atom a k) (atom b k)
intersection_atoms = sets.atom_and

pub union_atoms : (a b k : ℕ) → atom (bit_or a b) k ≡ max (atom a k) (atom b k)
union_atoms = sets.atom_or

-- the data atoms of a set are its atoms below w; its running atoms are theirs, each w higher
pub data_atoms : (w t k : ℕ) → (atom (data_of w t) k ≡ 1) ↔ ((k < w) × (atom t k ≡ 1))
data_atoms = sets.data_has

pub running_atoms : (w t k : ℕ) → (atom (running_of w t) k ≡ 1) ↔ ((d : ℕ) × (k ≡ w + d) × (d < w) × (atom t d ≡ 1))
running_atoms = sets.running_has

-- m holds t exactly when each atom of t is in m
pub holds_by_atoms : (m t : ℕ) → (holds m t ≡ true) ↔ ((k : ℕ) → atom t k ≤ atom m k)
holds_by_atoms m t = (sets.holds_atoms m t, sets.atoms_holds m t)

-- holds is a partial order
pub holds_reflexive : (m : ℕ) → holds m m ≡ true
holds_reflexive = sets.holds_refl

pub holds_transitive : (a b c : ℕ) → holds a b ≡ true → holds b c ≡ true → holds a c ≡ true
holds_transitive = sets.holds_trans

pub holds_antisymmetric : (a b : ℕ) → holds a b ≡ true → holds b a ≡ true → a ≡ b
holds_antisymmetric = sets.holds_antisym

-- in which intersections are greatest lower bounds and unions least upper bounds, 0 is least and all atoms are greatest
pub holds_intersection : (a b t : ℕ) → holds (bit_and a b) t ≡ holds a t && holds b t
holds_intersection = sets.holds_and

pub holds_union : (m s t : ℕ) → holds m (bit_or s t) ≡ holds m s && holds m t
holds_union = sets.holds_or

pub holds_nothing : (m : ℕ) → holds m 0 ≡ true
holds_nothing = sets.holds_empty

pub all_hold : (w t : ℕ) → t < 2 ^ w → holds (2 ^ w - 1) t ≡ true
all_hold = sets.holds_all

-- ---- covers

-- a rule covers a tag exactly when ONE of its mixtures holds all of it
pub covers_by_one : (r : List ℕ) (t : ℕ) → (covers r t ≡ true) ↔ ((m : ℕ) × (elem m r ≡ true) × (holds m t ≡ true))
covers_by_one r t =
    (λ h. let l : rules.Largest r t = rules.largest r t h in (l.top, l.among, l.over), λ h. rules.covers_by h.0 r t h.1 h.2)

-- once a mixture holds the tag, those behind it need not be looked at
pub covers_up_to : (r : List ℕ) (i t : ℕ) → i < length r → holds (get_or r i 0) t ≡ true → covers (take (i + 1) r) t ≡ covers r t
covers_up_to = rules.covers_first

-- ---- the position of the first mixture that covers (change request No. 12)

-- a rule covers a tag exactly when it gives a position
pub cover_place_lem : (r : List ℕ) (t : ℕ) → length r ≤ mixture_limit → covers r t ≡ not (eqb (cover_place r t) no_position)
cover_place_lem r t l = places.place_covers r t (omega arith)

-- the mixture there holds the tag, and none before it does
pub cover_first : (r : List ℕ) (t : ℕ) → covers r t ≡ true
    → (cover_place r t < length r) × (holds (get_or r (cover_place r t) 0) t ≡ true) × ((i : ℕ) → i < cover_place r t → holds (get_or r i 0) t ≡ false)
cover_first r t h = let f : places.First r t (cover_place r t) = places.place_found r t h in (f.inside, f.over, f.before)

-- "in ascending order": it is the least that does
pub cover_least : (r : List ℕ) (t m : ℕ) → Ascending r → elem m r ≡ true → holds m t ≡ true → get_or r (cover_place r t) 0 ≤ m
cover_least r t m a e h = places.place_least r t m a (rules.covers_by m r t e h) e h

-- without one the position is 255
pub cover_none : (r : List ℕ) (t : ℕ) → covers r t ≡ false → cover_place r t ≡ no_position
cover_none = places.place_missed

-- ---- the normal form

pub normal_covers : (r : List ℕ) (t : ℕ) → covers (normal r) t ≡ covers r t
normal_covers = rules.covers_normal

pub normal_ascending : (r : List ℕ) → Ascending (normal r)
normal_ascending = rules.normal_ascends

pub normal_antichain : (r : List ℕ) → Antichain (normal r)
normal_antichain = rules.normal_antichain

-- UNIQUENESS: two rules that cover the same tags have the same normal form
pub normal_unique : (r s : List ℕ) → ((t : ℕ) → covers r t ≡ covers s t) → normal r ≡ normal s
normal_unique = rules.normal_unique

-- for rules on the first w atoms the tags of these atoms are enough
pub normal_unique_within : (w : ℕ) (r s : List ℕ) → Within w r → Within w s → ((t : ℕ) → t < 2 ^ w → covers r t ≡ covers s t) → normal r ≡ normal s
normal_unique_within = rules.normal_unique_within

pub normal_idempotent : (r : List ℕ) → normal (normal r) ≡ normal r
normal_idempotent = rules.normal_normal

pub normal_no_longer : (r : List ℕ) → length (normal r) ≤ length r
normal_no_longer = rules.normal_length

-- ---- the meet

pub meet_covers : (r s : List ℕ) (t : ℕ) → covers (meet r s) t ≡ (covers r t && covers s t)
meet_covers = rules.covers_meet

pub meet_commutative : (r s : List ℕ) → meet r s ≡ meet s r
meet_commutative = rules.meet_comm

pub meet_associative : (r s q : List ℕ) → meet (meet r s) q ≡ meet r (meet s q)
meet_associative = rules.meet_assoc

pub meet_idempotent : (r : List ℕ) → meet r r ≡ normal r
meet_idempotent = rules.meet_self

-- the unrestricted rule is neutral, the rule without mixtures absorbs
pub meet_unrestricted : (w : ℕ) (r : List ℕ) → Within w r → meet r (unrestricted w) ≡ normal r
meet_unrestricted = rules.meet_unrestricted

pub meet_empty : (r : List ℕ) → meet r [] ≡ []
meet_empty = rules.meet_none

-- a rule refines another exactly when the other covers whatever it covers; in normal form it is then their meet
pub refines_is : (r s : List ℕ) → (refines r s ≡ true) ↔ ((t : ℕ) → covers r t ≡ true → covers s t ≡ true)
refines_is r s = (refine.refines_covers r s, refine.covers_refines r s)

pub meet_refined : (r s : List ℕ) → normal r ≡ r → refines r s ≡ true → r ≡ meet r s
meet_refined = refine.refines_meet

-- of rules with equally many mixtures the intersections place by place are the meet, where one of two tests passes (specs/Placewise.antt)
pub within_meet : (r s : List ℕ) → normal r ≡ r → length r ≡ length s → within r s ≡ true → placewise r s ≡ meet r s
within_meet = placewise-laws.within_meet

pub alike_meet : (r s : List ℕ) → length r ≡ length s → alike r s ≡ true → placewise r s ≡ meet r s
alike_meet = placewise-laws.alike_meet

-- ---- several rules: the meet goes by what they all cover, so neither order nor repeats matter

pub meets_cover : (w : ℕ) (rs : List (List ℕ)) (t : ℕ) → covers (meet_all w rs) t ≡ (all_cover rs t && holds (2 ^ w - 1) t)
meets_cover = all.covers_meet_all

pub meets_append : (w : ℕ) (rs ss : List (List ℕ)) → meet_all w (rs ++ ss) ≡ meet (meet_all w rs) (meet_all w ss)
meets_append = all.meet_all_append

pub meets_by_members : (w : ℕ) (rs ss : List (List ℕ)) → ((r : List ℕ) → Memᴰ r rs → Memᴰ r ss) → ((r : List ℕ) → Memᴰ r ss → Memᴰ r rs) → meet_all w rs ≡ meet_all w ss
meets_by_members = all.meet_all_members

-- ---- the test that two lists are the same

pub same_is : (r s : List ℕ) → (same_list r s ≡ true) ↔ (r ≡ s)
same_is r s = (same.same_eq r s, λ e. ap (same_list r) (sym e) ∙ same.same_refl r)
