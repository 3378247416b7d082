-- The nodes that are held after a trace stand for the chains of its history, and the links are those that are left.
use Prim.Native.Nat.{ℕ, suc, zero, ◌+◌, ◌-◌, ◌≤◌, ◌<◌}
use native.Mathlib.Omega.{arith}
use native.Mathlib.Numerals.{add-one}
use native.Mathlib.Nat.{zero-add}
use mathlib.Core.Path.{◌≡◌, refl, sym, subst, ◌∙◌, ap}
use mathlib.Core.Bool.{Bool, true, false, not, cond}
use mathlib.Core.List.{List, [], ◌∷◌, ◌++◌, append-nil}
use mathlib.Core.Option.{Option, none, some}
use lib.ListN.{get_or, length, take, drop, length-take, length-drop, length-set}
use borrow.Author.Tests.{not-true}
use Rattle.answers.specs.declared.Answer.{Answer}
use Rattle.answers.specs.Answers.{accepted, is_refused}
use Rattle.answers.proofs.Cases.{accepted_given}
use Rattle.image.specs.Policy.{Policy}
use Rattle.chains.specs.History.{Step, History, start, step_count}
use Rattle.chains.specs.Demand.{extend, history_from, history_of}
use Rattle.records.specs.Records.{record_length, request_in, step_in, step_of, Asked}
use Rattle.records.specs.Traces.{trace_records}
use Rattle.records.proofs.RecordLaws.{asked, record_spelling}
use Rattle.records.specs.declared.Request.{Request}
use Rattle.records.proofs.TraceRecords.{FirstChunk, next_chunk, no_chunk}
use Rattle.monitor.specs.Steps.{step_asked, step_answer, step_effect}
use Rattle.monitor.specs.Runs.{step_on, run_effect}
use Rattle.monitor.proofs.StepLaws.{step_record, answered_zero}
use Rattle.monitor.proofs.Theorems.{given_spelled}
use Rattle.witness.specs.Told.{front_of, last_of, with_last, told_history, numbers_from, accepted_numbers, last_number, told_numbers}
use Rattle.witness.specs.Links.{node_of, Family, of_atom, links_at, links_from, links_last, links_left, told_links}
use Rattle.witness.specs.Nodes.{held_length, is_rule, held_after, links_after, is_step, Tracks, tracks, tracks_on, is_last, tracks_all, Tracked}
use Rattle.witness.proofs.NodeLaws.{StepWithin, tracked_skip, tracked_next, links_next}
use Rattle.witness.proofs.StepSources.{within}

-- a step of the history is not refused
pub step_given : (told : Bool) (a : Answer) → is_step told a ≡ true → is_refused a ≡ false
unfolding is_step
step_given true a e = not-true (is_refused a) e
step_given false a e = accepted_given a e

-- what it asks for
pub given_asked : (s r : List ℕ) → is_refused (step_answer s r) ≡ false → Asked (request_in r)
given_asked s r a = asked r (step_record s r (answered_zero s r a))

asked_within : (s r : List ℕ) → is_refused (step_answer s r) ≡ false → StepWithin (step_asked r)
unfolding step_asked
asked_within s r a = within (request_in r) (given_asked s r a)

links_long : (b : Bool) (held links : List ℕ) (n : ℕ) (s : Step) → length (links_after b held links n s) ≡ length links
unfolding links_after
links_long b held links n s = rw (length-set, length-set)

on_long : (b told : Bool) (t : Tracks) (n : ℕ) (s r : List ℕ) → length (tracks_on b told t n s r).links ≡ length t.links
unfolding tracks_on
on_long b told t n s r = on (is_step told (step_answer s r))
  where
    on : (z : Bool)
        → length (cond z (tracks (held_after b t.held n (step_asked r)) (links_after b t.held t.links n (step_asked r))) t).links ≡ length t.links
    on true = links_long b t.held t.links n (step_asked r)
    on false = refl

all_long : (b told : Bool) (t : Tracks) (n : ℕ) (s : List ℕ) (rs : List (List ℕ)) → length (tracks_all b told t n s rs).links ≡ length t.links
unfolding tracks_all
all_long b told t n s [] = refl
all_long b told t n s (r ∷ rs) = all_long b told (tracks_on b (is_last told rs) t n s r) (suc n) (step_effect s r) rs ∙ on_long b (is_last told rs) t n s r

drop-cons : (l : List ℕ) (k x : ℕ) (xs : List ℕ) → drop k l ≡ x ∷ xs → (x ≡ get_or l k 0) × (drop (suc k) l ≡ xs)
drop-cons [] zero x xs e = absurd (omega (arith, ap length e))
drop-cons [] (suc k) x xs e = absurd (omega (arith, ap length e))
drop-cons (y ∷ l) zero x xs e = (sym (ap (λ (z : List ℕ). get_or z 0 0) e), ap (λ (z : List ℕ). drop 1 z) e)
drop-cons (y ∷ l) (suc k) x xs e = drop-cons l k x xs e

pub skipped : (h : History) (m : Option Step) → extend h m false ≡ h
skipped h none = refl
skipped h (some x) = refl

cond_append : (b : Bool) (n : ℕ) (xs tail : List ℕ) → cond b (n ∷ xs) xs ++ tail ≡ cond b (n ∷ (xs ++ tail)) (xs ++ tail)
cond_append true n xs tail = refl
cond_append false n xs tail = refl

cond_not : {A : Type 0} (b : Bool) (x y : A) → cond b y x ≡ cond (not b) x y
cond_not true x y = refl
cond_not false x y = refl

module _ (P : Policy) (F : Family) (ns : List ℕ) where
  -- what is followed so far, after the history h and n records: the nodes, and the links
  pub record Reached (h : History) (n : ℕ) (t : Tracks) (links : List ℕ) (rest : List ℕ) : Type 0 where
    pub tracked : Tracked P F ns h n t.held t.links
    pub left : t.links ≡ links
    pub numbers : drop (step_count h) ns ≡ rest

  -- one record
  reached_on : (told : Bool) (h : History) (n : ℕ) (t : Tracks) (links : List ℕ) (s r tail : List ℕ) → node_of n + 2 ≤ length t.links
      → Reached h n t links (cond (is_step told (step_answer s r)) (n ∷ tail) tail)
      → Reached (extend h (step_of r) (is_step told (step_answer s r))) (suc n) (tracks_on (is_rule F) told t n s r)
      (cond (is_step told (step_answer s r)) (links_at P ns F h n (step_asked r) links) links) tail
  unfolding tracks_on
  reached_on told h n t links s r tail room R = on (is_step told (step_answer s r)) refl R
    where
      on : (b : Bool) → is_step told (step_answer s r) ≡ b → Reached h n t links (cond b (n ∷ tail) tail)
          → Reached (extend h (step_of r) b) (suc n)
          (cond b (tracks (held_after (is_rule F) t.held n (step_asked r)) (links_after (is_rule F) t.held t.links n (step_asked r))) t)
          (cond b (links_at P ns F h n (step_asked r) links) links) tail
      on false e R = rw (skipped h (step_of r)) (record { tracked = tracked_skip P F ns h n t.held t.links R.tracked; left = R.left; numbers = R.numbers })
      on true e R =
          let g : is_refused (step_answer s r) ≡ false = step_given told (step_answer s r) e in
          let w : StepWithin (step_asked r) = asked_within s r g in
          let d : (n ≡ get_or ns (step_count h) 0) × (drop (suc (step_count h)) ns ≡ tail) = drop-cons ns (step_count h) n tail R.numbers in
          rw (given_spelled s r g)
          (record {
            tracked = tracked_next P F ns h n t.held t.links R.tracked (step_asked r) w d.0 room;
            left = links_next P F ns h n t.held t.links R.tracked (step_asked r) w ∙ ap (λ (l : List ℕ). links_at P ns F h n (step_asked r) l) R.left;
            numbers = d.1;
          })

  reached_plain : (h : History) (n : ℕ) (t : Tracks) (links : List ℕ) (s r tail : List ℕ) → node_of n + 2 ≤ length t.links
      → Reached h n t links (cond (accepted (step_answer s r)) (n ∷ tail) tail)
      → Reached (extend h (step_of r) (accepted (step_answer s r))) (suc n) (tracks_on (is_rule F) false t n s r)
      (cond (accepted (step_answer s r)) (links_at P ns F h n (step_asked r) links) links) tail
  unfolding is_step
  reached_plain h n t links s r tail room R = reached_on false h n t links s r tail room R

  -- a list of records
  reached_list : (h : History) (n : ℕ) (t : Tracks) (links : List ℕ) (s : List ℕ) (rs : List (List ℕ)) (tail : List ℕ) → node_of (n + length rs) ≤ length t.links
      → Reached h n t links (numbers_from n s rs ++ tail)
      → Reached (history_from step_on step_of h s rs) (n + length rs) (tracks_all (is_rule F) false t n s rs) (links_from P ns F h n s rs links) tail
  unfolding tracks_all is_last links_from numbers_from step_on
  reached_list h n t links s [] tail room R = let e : n + 0 ≡ n = omega arith in rw e R
  reached_list h n t links s (r ∷ rs) tail room R =
      let e : n + suc (length rs) ≡ suc n + length rs = omega arith in
      rw e
      (reached_list (extend h (step_of r) (accepted (step_answer s r))) (suc n) (tracks_on (is_rule F) false t n s r)
      (cond (accepted (step_answer s r)) (links_at P ns F h n (step_asked r) links) links) (step_effect s r) rs tail
      (omega (arith, on_long (is_rule F) false t n s r))
      (reached_plain h n t links s r (numbers_from (suc n) (step_effect s r) rs ++ tail) (omega arith)
      (subst (λ (l : List ℕ). Reached h n t links l) (cond_append (accepted (step_answer s r)) n (numbers_from (suc n) (step_effect s r) rs) tail) R)))

-- ---- the paper's history, and that of an explanation

abbrev tracks_last : Tracks → ℕ → List ℕ → List (List ℕ) → Tracks
tracks_last t n s [] = t
tracks_last t n s (r ∷ rs) = tracks_on false true t n s r

front_cons : (r q : List ℕ) (rs : List (List ℕ)) → (front_of (r ∷ q ∷ rs) ≡ r ∷ front_of (q ∷ rs)) × (last_of (r ∷ q ∷ rs) ≡ last_of (q ∷ rs))
unfolding front_of last_of
front_cons r q rs =
    let e : length (r ∷ q ∷ rs) - 1 ≡ suc (length (q ∷ rs) - 1) = omega arith in
    (ap (λ (k : ℕ). take k (r ∷ q ∷ rs)) e, ap (λ (k : ℕ). drop k (r ∷ q ∷ rs)) e)

front_one : (r : List ℕ) → (front_of (r ∷ []) ≡ []) × (last_of (r ∷ []) ≡ r ∷ [])
unfolding front_of last_of
front_one r = (refl, refl)

-- the records of an explanation: those in front of the last one, then the last
tracks_told : (t : Tracks) (n : ℕ) (s : List ℕ) (r : List ℕ) (rs : List (List ℕ)) → tracks_all false true t n s (r ∷ rs)
    ≡ tracks_last (tracks_all false false t n s (front_of (r ∷ rs))) (n + length rs) (run_effect s (front_of (r ∷ rs))) (last_of (r ∷ rs))
unfolding tracks_all is_last run_effect step_on
tracks_told t n s r [] = let e = front_one r in let z : n + 0 ≡ n = omega arith in rw (e.0, e.1, z)
tracks_told t n s r (q ∷ rs) =
    let e = front_cons r q rs in
    let z : n + suc (length rs) ≡ suc n + length rs = omega arith in
    rw (e.0, e.1, z) (tracks_told (tracks_on false false t n s r) (suc n) (step_effect s r) q rs)

tracks_front : (t : Tracks) (s : List ℕ) (rs : List (List ℕ)) → tracks_all false true t 0 s rs
    ≡ tracks_last (tracks_all false false t 0 s (front_of rs)) (length rs - 1) (run_effect s (front_of rs)) (last_of rs)
tracks_front t s [] = unfold tracks_all front_of last_of in refl
tracks_front t s (r ∷ rs) = let z : 0 + length rs ≡ length (r ∷ rs) - 1 = omega arith in rw z at (tracks_told t 0 s r rs)

-- what is followed of a list of records, from the start
pub followed_all : (P : Policy) (F : Family) (t : Tracks) (s : List ℕ) (rs : List (List ℕ)) → node_of (length rs) ≤ length t.links
    → Tracked P F (accepted_numbers s rs) start 0 t.held t.links
    → Tracked P F (accepted_numbers s rs) (history_of step_on step_of s rs) (length rs) (tracks_all (is_rule F) false t 0 s rs).held (tracks_all (is_rule F) false t 0 s rs).links
    × ((tracks_all (is_rule F) false t 0 s rs).links ≡ links_left P F s rs t.links)
unfolding links_left accepted_numbers
followed_all P F t s rs room T =
    let z : 0 + length rs ≡ length rs = omega arith in
    let R = reached_list P F (numbers_from 0 s rs) start 0 t t.links s rs [] (rw z room) (record { tracked = T; left = refl; numbers = sym (append-nil (numbers_from 0 s rs)) }) in
    (rw z at R.tracked, R.left)

module _ (P : Policy) (d : ℕ) (ns : List ℕ) (rs : List (List ℕ)) (h : History) (t : Tracks) (links s : List ℕ) where
  last_one : (r : List ℕ) → node_of (length rs) ≤ length t.links → 0 < length rs
      → Reached P (of_atom d) ns h (length rs - 1) t links (cond (is_refused (step_answer s r)) [] ((length rs - 1) ∷ []))
      → Reached P (of_atom d) ns (extend h (step_of r) (not (is_refused (step_answer s r)))) (length rs) (tracks_on false true t (length rs - 1) s r)
      (cond (is_refused (step_answer s r)) links (links_at P ns (of_atom d) h (length rs - 1) (step_asked r) links)) []
  unfolding is_step
  last_one r room one R =
      let e : suc (length rs - 1) ≡ length rs = omega arith in
      rw (e, ← cond_not (is_refused (step_answer s r)) (links_at P ns (of_atom d) h (length rs - 1) (step_asked r) links) links) at
      (reached_on P (of_atom d) ns true h (length rs - 1) t links s r [] (omega arith)
      (subst (λ (l : List ℕ). Reached P (of_atom d) ns h (length rs - 1) t links l) (cond_not (is_refused (step_answer s r)) ((length rs - 1) ∷ []) []) R))

  last_reached : (m : List (List ℕ)) → last_of rs ≡ m → node_of (length rs) ≤ length t.links
      → Reached P (of_atom d) ns h (length rs - 1) t links (last_number (length rs - 1) s m)
      → Reached P (of_atom d) ns (with_last h s m) (length rs) (tracks_last t (length rs - 1) s m) (links_last P ns (of_atom d) h (length rs - 1) s m links) []
  unfolding last_of
  last_reached [] e room R =
      let z : length rs - 1 ≡ length rs = omega (arith, ap length e, length-drop (length rs - 1) rs) in
      rw z at R
  last_reached (r ∷ more) e room R = last_one r room (omega (arith, ap length e, length-drop (length rs - 1) rs)) R

front_long : (rs : List (List ℕ)) → 0 + length (front_of rs) ≡ length rs - 1
unfolding front_of
front_long rs = omega (arith, length-take (length rs - 1) rs)

told_parts : (s : List ℕ) (rs : List (List ℕ)) → told_numbers s rs ≡ numbers_from 0 s (front_of rs) ++ last_number (length rs - 1) (run_effect s (front_of rs)) (last_of rs)
unfolding told_numbers accepted_numbers
told_parts s rs = refl

-- what is followed of the records of an explanation
pub followed_told : (P : Policy) (d : ℕ) (t : Tracks) (s : List ℕ) (rs : List (List ℕ)) → node_of (length rs) ≤ length t.links
    → Tracked P (of_atom d) (told_numbers s rs) start 0 t.held t.links
    → Tracked P (of_atom d) (told_numbers s rs) (told_history s rs) (length rs) (tracks_all false true t 0 s rs).held (tracks_all false true t 0 s rs).links
    × ((tracks_all false true t 0 s rs).links ≡ told_links P (of_atom d) s rs t.links)
unfolding told_history told_links
followed_told P d t s rs room T =
    let ns : List ℕ = told_numbers s rs in
    let z : 0 + length (front_of rs) ≡ length rs - 1 = front_long rs in
    let e : told_numbers s rs ≡ numbers_from 0 s (front_of rs) ++ last_number (length rs - 1) (run_effect s (front_of rs)) (last_of rs) = told_parts s rs in
    let R = reached_list P (of_atom d) ns start 0 t t.links s (front_of rs) (last_number (length rs - 1) (run_effect s (front_of rs)) (last_of rs)) (omega (arith, z, room))
    (record { tracked = T; left = refl; numbers = e }) in
    let L = last_reached P d ns rs (history_of step_on step_of s (front_of rs)) (tracks_all false false t 0 s (front_of rs)) (links_from P ns (of_atom d) start 0 s (front_of rs) t.links)
    (run_effect s (front_of rs)) (last_of rs) refl (omega (arith, all_long false false t 0 s (front_of rs), room)) (rw z at R) in
    rw (tracks_front t s rs) (L.tracked, L.left)

-- ---- the loop over the records of a trace

-- the first n records are followed, and the bytes of `rest` are left
pub record Tracking (b told : Bool) (trace : List ℕ) (t₀ : Tracks) (s₀ s : List ℕ) (t : Tracks) (n : ℕ) (rest : List ℕ) : Type 0 where
  pub long_held : length t.held ≡ held_length
  pub long_links : length t.links ≡ length t₀.links
  pub count : n + length (trace_records rest) ≡ length (trace_records trace)
  pub same : tracks_all b told t n s (trace_records rest) ≡ tracks_all b told t₀ 0 s₀ (trace_records trace)

pub tracking_start : {b told : Bool} {trace : List ℕ} {t : Tracks} {s : List ℕ} {n : ℕ} {rest : List ℕ} → length t.held ≡ held_length → n ≡ 0 → rest ≡ trace
    → Tracking b told trace t s s t n rest
tracking_start {b} {told} {trace} {t} {s} l z e = rw (z, e) (record { long_held = l; long_links = refl; count = zero-add (length (trace_records trace)); same = refl })

module _ {b told : Bool} {trace : List ℕ} {t₀ : Tracks} {s₀ s : List ℕ} {t : Tracks} {n : ℕ} {rest : List ℕ} (h : Tracking b told trace t₀ s₀ s t n rest) where
  module _ {x rest' : List ℕ} (d : FirstChunk rest x rest') where
    pub tracking_room : node_of (length (trace_records trace)) ≤ length t₀.links → node_of n + 2 ≤ length t.links
    tracking_room room = omega (arith, room, h.long_links, h.count, ap length (next_chunk d))

    pub tracking_count : n + 1 + length (trace_records rest') ≡ length (trace_records trace)
    tracking_count = omega (arith, h.count, ap length (next_chunk d))

    pub tracking_next : {s' : List ℕ} {t' : Tracks} {last : Bool} {m n' : ℕ} → last ≡ is_last told (trace_records rest') → m ≡ n → n' ≡ n + 1 → s' ≡ step_effect s x
        → t' ≡ tracks_on b last t m s x → length t'.held ≡ length t.held → length t'.links ≡ length t.links → Tracking b told trace t₀ s₀ s' t' n' rest'
    unfolding tracks_all
    tracking_next le me ne se te eh el =
        record {
          long_held = eh ∙ h.long_held;
          long_links = el ∙ h.long_links;
          count = omega (arith, ne, tracking_count);
          same = rw (te, le, se, me, ne, add-one n) (rw (next_chunk d) at h.same);
        }

  pub tracking_end : length rest ≡ 0 → t ≡ tracks_all b told t₀ 0 s₀ (trace_records trace)
  unfolding tracks_all
  tracking_end l = rw (no_chunk rest l) at h.same

-- ---- one record

-- the record is a step, as the code tests it
pub took : (told : Bool) (s r : List ℕ) (a : Answer) (b : Bool) → a ≡ step_answer s r → b ≡ is_step told a → b ≡ true → is_step told (step_answer s r) ≡ true
took told s r a b ea eb t = ap (is_step told) (sym ea) ∙ sym eb ∙ t

pub left_out : (told : Bool) (s r : List ℕ) (a : Answer) (b : Bool) → a ≡ step_answer s r → b ≡ is_step told a → b ≡ false → is_step told (step_answer s r) ≡ false
left_out told s r a b ea eb t = ap (is_step told) (sym ea) ∙ sym eb ∙ t

pub took_long : (told : Bool) (s r : List ℕ) → is_step told (step_answer s r) ≡ true → length r ≡ record_length
took_long told s r a = ((record_spelling r).0 (step_record s r (answered_zero s r (step_given told (step_answer s r) a)))).0

pub took_asked : (told : Bool) (s r : List ℕ) → is_step told (step_answer s r) ≡ true → Asked (request_in r)
took_asked told s r a = given_asked s r (step_given told (step_answer s r) a)

pub on_step : (b told : Bool) (held links : List ℕ) (n : ℕ) (s r held' links' : List ℕ) (q : Request) → is_step told (step_answer s r) ≡ true → q ≡ request_in r
    → held' ≡ held_after b held n (step_in q) → links' ≡ links_after b held links n (step_in q) → tracks held' links' ≡ tracks_on b told (tracks held links) n s r
unfolding tracks_on step_asked
on_step b told held links n s r held' links' q a eq eh el = rw (eh, el, eq, a)

pub on_none : (b told : Bool) (held links : List ℕ) (n : ℕ) (s r : List ℕ) → is_step told (step_answer s r) ≡ false → tracks held links ≡ tracks_on b told (tracks held links) n s r
unfolding tracks_on
on_none b told held links n s r a = rw a
