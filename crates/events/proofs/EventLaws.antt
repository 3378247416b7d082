-- Lists of answers: which event stands where, how many answers there is room for, and lists one behind the other.
use Prim.Native.Nat.{ℕ, zero, suc, ◌+◌, ◌-◌, ◌*◌, ◌≤◌, ◌<◌}
use native.Mathlib.Omega.{arith}
use mathlib.Core.Path.{◌≡◌, refl, sym, ap, ◌∙◌}
use mathlib.Core.Bool.{Bool, true, false, not, cond}
use mathlib.Core.List.{List, [], ◌∷◌, ◌++◌, append_assoc}
use mathlib.Core.Option.{some}
use lib.Dec.{eqb}
use lib.ListN.{length, take, drop, get_elem?}
use borrow.Author.Tests.{eqb-true, eqb-false, ne_eqb}
use Rattle.lists.proofs.Places.{some_inj, none_some}
use Rattle.answers.specs.declared.Answer.{Answer}
use Rattle.answers.specs.Answers.{is_quiet}
use Rattle.answers.specs.Tallies.{count_of}
use Rattle.events.specs.Events.{is_event, event_length, event_of, events_from, room_behind, taken_in}

-- ---- where each event stands

-- as many numbers as five for each answer that is not quiet
pub events_length : (p : ℕ) (l : List Answer) → length (events_from p l) ≡ count_of is_event l * event_length
unfolding events_from count_of
events_length p [] = refl
events_length p (a ∷ l) = by (is_quiet a) (events_length (suc p) l)
  where
    by : (b : Bool) → length (events_from (suc p) l) ≡ count_of is_event l * event_length
        → length (cond b (events_from (suc p) l) (event_of p a ++ events_from (suc p) l)) ≡ cond (not b) (suc (count_of is_event l)) (count_of is_event l) * event_length
    by true h = h
    by false h = unfold event_of in (omega (arith, h))

-- behind the first answer
later : (p : ℕ) (b : Answer) (l : List Answer) (n : ℕ) (q : Bool) → is_quiet b ≡ q → {x : List ℕ}
    → take event_length (drop (count_of is_event (take n l) * event_length) (events_from (suc p) l)) ≡ x
    → take event_length (drop (count_of is_event (take (suc n) (b ∷ l)) * event_length) (events_from p (b ∷ l))) ≡ x
unfolding count_of events_from event_of
later p b l n true q h = rw q h
later p b l n false q h =
    let k : ℕ = count_of is_event (take n l) in
    let z : suc k * event_length ≡ suc (suc (suc (suc (suc (k * event_length))))) = omega arith in
    rw (q, z) h

-- the answer number n of those that begin at the place p
pub event_told : (p : ℕ) (l : List Answer) (n : ℕ) (a : Answer) → get_elem? l n ≡ some a → is_quiet a ≡ false
    → take event_length (drop (count_of is_event (take n l) * event_length) (events_from p l)) ≡ event_of (p + n) a
event_told p [] n a e q = absurd (none_some e)
event_told p (b ∷ l) zero a e q = here
  where
    first : is_quiet b ≡ false
    first = ap is_quiet (some_inj e) ∙ q

    here : take event_length (drop (count_of is_event (take 0 (b ∷ l)) * event_length) (events_from p (b ∷ l))) ≡ event_of (p + 0) a
    here =
        let z : p + 0 ≡ p = omega arith in
        rw (z, ← some_inj e) (unfold count_of events_from event_of in rw first)
event_told p (b ∷ l) (suc n) a e q = let z : suc p + n ≡ p + suc n = omega arith in later p b l n (is_quiet b) refl (event_told (suc p) l n a e q ∙ ap (λ (k : ℕ). event_of k a) z)

-- ---- the room

-- where there is room for an event of each, all are taken
pub taken_all : (room : ℕ) (l : List Answer) → length l ≤ room → taken_in room l ≡ length l
unfolding taken_in room_behind
taken_all room [] h = refl
taken_all room (a ∷ l) h =
    rw (ne_eqb room 0 (λ z. omega arith)) (ap suc (taken_all (room_behind room a) l (by (is_quiet a))))
  where
    by : (b : Bool) → length l ≤ cond b room (room - 1)
    by true = omega arith
    by false = omega arith

pub taken_most : (room : ℕ) (l : List Answer) → taken_in room l ≤ length l
unfolding taken_in
taken_most room [] = omega arith
taken_most room (a ∷ l) = by (eqb room 0) (taken_most (room_behind room a) l)
  where
    by : (b : Bool) → taken_in (room_behind room a) l ≤ length l → cond b 0 (suc (taken_in (room_behind room a) l)) ≤ suc (length l)
    by true h = omega arith
    by false h = omega arith

-- where there is room for one, the first is taken
pub taken_some : (room : ℕ) (a : Answer) (l : List Answer) → 0 < room → 1 ≤ taken_in room (a ∷ l)
unfolding taken_in
taken_some room a l h = rw (ne_eqb room 0 (λ z. omega arith)) (omega arith)

pub taken_none : (l : List Answer) → taken_in 0 l ≡ 0
unfolding taken_in
taken_none [] = refl
taken_none (a ∷ l) = refl

taken_next : (room : ℕ) (a : Answer) (l : List Answer) (b : Bool) → is_quiet a ≡ b → 0 < room → taken_in room (a ∷ l) ≡ suc (taken_in (cond b room (room - 1)) l)
unfolding taken_in room_behind
taken_next room a l b e h = rw (e, ne_eqb room 0 (λ z. omega arith))

not_0 : (n : ℕ) → (n ≡ 0 → ⊥) → 0 < n
not_0 zero h = absurd (h refl)
not_0 (suc n) h = omega arith

more : (r q : ℕ) (a : Answer) (l : List Answer) → 0 < r → (b : Bool) → is_quiet a ≡ b → taken_in (r + q) l ≡ taken_in r l + taken_in q (drop (taken_in r l) l)
    → taken_in (r - 1 + q) l ≡ taken_in (r - 1) l + taken_in q (drop (taken_in (r - 1) l) l)
    → taken_in (r + q) (a ∷ l) ≡ taken_in r (a ∷ l) + taken_in q (drop (taken_in r (a ∷ l)) (a ∷ l))
more r q a l m true e h g = rw (taken_next (r + q) a l true e (omega arith), taken_next r a l true e m) (omega (arith, h))
more r q a l m false e h g =
    let z : r + q - 1 ≡ r - 1 + q = omega arith in
    rw (taken_next (r + q) a l false e (omega arith), taken_next r a l false e m, z) (omega (arith, g))

-- a room, and behind it another on what is left, take as many as both at once
pub taken_on : (r q : ℕ) (l : List Answer) → taken_in (r + q) l ≡ taken_in r l + taken_in q (drop (taken_in r l) l)
taken_on r q [] = unfold taken_in in refl
taken_on r q (a ∷ l) = by (eqb r 0) refl (taken_on r q l) (taken_on (r - 1) q l)
  where
    by : (z : Bool) → eqb r 0 ≡ z → taken_in (r + q) l ≡ taken_in r l + taken_in q (drop (taken_in r l) l)
        → taken_in (r - 1 + q) l ≡ taken_in (r - 1) l + taken_in q (drop (taken_in (r - 1) l) l)
        → taken_in (r + q) (a ∷ l) ≡ taken_in r (a ∷ l) + taken_in q (drop (taken_in r (a ∷ l)) (a ∷ l))
    by true z h g = let e : r + q ≡ q = omega (arith, eqb-true r 0 z) in rw (e, eqb-true r 0 z, taken_none (a ∷ l)) (omega arith)
    by false z h g = more r q a l (not_0 r (eqb-false r 0 z)) (is_quiet a) refl h g

-- ---- lists one behind the other

pub events_append : (p : ℕ) (l m : List Answer) → events_from p (l ++ m) ≡ events_from p l ++ events_from (p + length l) m
unfolding events_from
events_append p [] m = let z : p + 0 ≡ p = omega arith in rw z
events_append p (a ∷ l) m =
    let z : p + suc (length l) ≡ suc p + length l = omega arith in
    rw z (by (is_quiet a) (events_append (suc p) l m))
  where
    by : (b : Bool) → events_from (suc p) (l ++ m) ≡ events_from (suc p) l ++ events_from (suc p + length l) m
        → cond b (events_from (suc p) (l ++ m)) (event_of p a ++ events_from (suc p) (l ++ m))
        ≡ cond b (events_from (suc p) l) (event_of p a ++ events_from (suc p) l) ++ events_from (suc p + length l) m
    by true h = h
    by false h = ap (λ (x : List ℕ). event_of p a ++ x) h ∙ sym (append_assoc (event_of p a) (events_from (suc p) l) (events_from (suc p + length l) m))
