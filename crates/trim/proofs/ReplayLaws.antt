-- The records of a cut, one after the other.
use Prim.Native.Nat.{ℕ, ◌+◌, ◌*◌, ◌-◌, ◌≤◌, ◌<◌}
use mathlib.Core.Path.{◌≡◌, refl, sym, ap, ◌∙◌}
use mathlib.Core.Bool.{Bool, true, false, ◌&&◌}
use mathlib.Core.List.{List, [], ◌∷◌, ◌++◌, map-append}
use native.Mathlib.Omega.{arith}
use native.Mathlib.Numerals.{add-one}
use native.Mathlib.Nat.{add-sub_cancel_left}
use lib.ListN.{length, get_or, take, drop, drop_of_length-le}
use lib.Seq.{drop-cons}
use borrow.Author.Tests.{leb-true}
use Rattle.lists.specs.Lists.{every}
use Rattle.lists.proofs.Bools.{and_0, and_1, clash}
use Rattle.lists.proofs.Every.{every_get_d, every_left}
use Rattle.answers.specs.declared.Answer.{Answer}
use Rattle.answers.specs.Answers.{accepted, is_alert}
use Rattle.monitor.specs.Steps.{step_answer, step_effect}
use Rattle.monitor.specs.Runs.{step_on, run_answers, run_effect}
use Rattle.monitor.proofs.RunHistories.{run_answers_append, run_effect_append}
use Rattle.trim.specs.Trims.{record_at, records_at, cut_counts}
use Rattle.trim.specs.Replays.{in_trace, Leaves, Replayed, Tried}

-- ---- the next record

pub record_part : (t : List ℕ) (k : ℕ) → take (k * 8 + 8 - k * 8) (drop (k * 8) t) ≡ record_at t k
unfolding record_at
record_part t k = rw (add-sub_cancel_left (k * 8) 8)

pub in_trace_lem : (t : List ℕ) (k : ℕ) → in_trace t k ≡ true → k * 8 + 8 ≤ length t
unfolding in_trace
in_trace_lem t k h = leb-true (k * 8 + 8) (length t) h

pub record Replaying (s₀ t ks s : List ℕ) (i : ℕ) : Type 0 where
  pub place : i ≤ length ks
  pub fits : every (in_trace t) ks ≡ true
  pub long : length s ≡ length s₀
  pub told : every accepted (run_answers s (records_at t (drop i ks))) ≡ every accepted (run_answers s₀ (records_at t ks))
  pub left : run_effect s (records_at t (drop i ks)) ≡ run_effect s₀ (records_at t ks)
  pub stays : (m : ℕ) → Leaves t m → drop m s ≡ drop m s₀

pub replay_start : (s t ks : List ℕ) → every (in_trace t) ks ≡ true → Replaying s t ks s 0
replay_start s t ks h = record { place = omega arith; fits = h; long = refl; told = refl; left = refl; stays = λ m h. refl }

pub replay_in : (s₀ t ks s : List ℕ) (i : ℕ) → Replaying s₀ t ks s i → i < length ks → get_or ks i 0 * 8 + 8 ≤ length t
replay_in s₀ t ks s i g l = in_trace_lem t (get_or ks i 0) (every_get_d (in_trace t) ks i 0 l g.fits)

records_next : (t ks : List ℕ) (i : ℕ) → i < length ks → records_at t (drop i ks) ≡ record_at t (get_or ks i 0) ∷ records_at t (drop (i + 1) ks)
unfolding records_at
records_next t ks i l = rw (drop-cons ks i 0 l, add-one)

answers_next : (s x : List ℕ) (xs : List (List ℕ)) → every accepted (run_answers s (x ∷ xs)) ≡ (accepted (step_answer s x) && every accepted (run_answers (step_effect s x) xs))
unfolding run_answers step_on every
answers_next s x xs = refl

effect_next : (s x : List ℕ) (xs : List (List ℕ)) → run_effect s (x ∷ xs) ≡ run_effect (step_effect s x) xs
unfolding run_effect step_on
effect_next s x xs = refl

module _ (s₀ t ks s x s' : List ℕ) (i : ℕ) (a : Answer) (g : Replaying s₀ t ks s i) (l : i < length ks) (xe : x ≡ record_at t (get_or ks i 0))
    (ae : a ≡ step_answer s x) (se : s' ≡ step_effect s x) (le : length s' ≡ length s) where
  now : every accepted (run_answers s (records_at t (drop i ks))) ≡ (accepted a && every accepted (run_answers s' (records_at t (drop (i + 1) ks))))
  now = rw (records_next t ks i l, answers_next s (record_at t (get_or ks i 0)) (records_at t (drop (i + 1) ks)), ae, se, xe)

  same : (m : ℕ) → Leaves t m → drop m s' ≡ drop m s₀
  same m h = ap (drop m) (se ∙ ap (step_effect s) xe) ∙ h s (get_or ks i 0) ∙ g.stays m h

  pub replay_next : accepted a ≡ true → Replaying s₀ t ks s' (i + 1)
  replay_next h =
      record {
        place = omega arith;
        fits = g.fits;
        long = le ∙ g.long;
        told = (let e : every accepted (run_answers s (records_at t (drop i ks))) ≡ every accepted (run_answers s' (records_at t (drop (i + 1) ks))) = now ∙ rw h in sym e ∙ g.told);
        left =
            (let e : run_effect s (records_at t (drop i ks)) ≡ run_effect s' (records_at t (drop (i + 1) ks)) =
            rw (records_next t ks i l, effect_next s (record_at t (get_or ks i 0)) (records_at t (drop (i + 1) ks)), se, xe) in
            sym e ∙ g.left);
        stays = same;
      }

  pub replay_stops : accepted a ≡ false → Replayed s₀ t ks s' false
  replay_stops h = record {
    told = (let e : every accepted (run_answers s (records_at t (drop i ks))) ≡ false = now ∙ rw h in sym e ∙ g.told);
    left = λ z. clash refl (sym z);
    long = le ∙ g.long;
    stays = same;
  }

pub replay_end : (s₀ t ks s : List ℕ) (i : ℕ) → Replaying s₀ t ks s i → length ks ≤ i → Replayed s₀ t ks s true
replay_end s₀ t ks s i g l = record { told = told; left = λ z. left; long = g.long; stays = g.stays }
  where
    none : drop i ks ≡ []
    none = drop_of_length-le ks {i = i} l

    told : true ≡ every accepted (run_answers s₀ (records_at t ks))
    told = sym (empty s (drop i ks) none) ∙ g.told
      where
        empty : (s xs : List ℕ) → xs ≡ [] → every accepted (run_answers s (records_at t xs)) ≡ true
        empty s xs e = rw e (nil s)
          where
            nil : (s : List ℕ) → every accepted (run_answers s (records_at t [])) ≡ true
            nil s = unfold run_answers in (unfold records_at in (unfold every in refl))

    left : s ≡ run_effect s₀ (records_at t ks)
    left = sym (empty s (drop i ks) none) ∙ g.left
      where
        empty : (s xs : List ℕ) → xs ≡ [] → run_effect s (records_at t xs) ≡ s
        empty s xs e = rw e (nil s)
          where
            nil : (s : List ℕ) → run_effect s (records_at t []) ≡ s
            nil s = unfold run_effect in (unfold records_at in refl)

-- ---- lists in two parts

pub records_append : (t xs ys : List ℕ) → records_at t (xs ++ ys) ≡ records_at t xs ++ records_at t ys
unfolding records_at
records_append t xs ys = map-append (record_at t) xs ys

every_split : (xs ys : List Answer) → every accepted xs ≡ true → every accepted (xs ++ ys) ≡ every accepted ys
unfolding every
every_split [] ys h = refl
every_split (x ∷ xs) ys h = let e : accepted x ≡ true = and_0 (accepted x) (every accepted xs) h in rw e (every_split xs ys (and_1 (accepted x) h))

-- ---- a cut

module _ (s t ks : List ℕ) (last : ℕ) where
  pub counts_not : {s' : List ℕ} {r : Bool} → Replayed s t ks s' r → r ≡ false → Tried s t ks last s' false
  unfolding cut_counts
  counts_not {s'} {r} g h =
      let e : every accepted (run_answers s (records_at t ks)) ≡ false = sym g.told ∙ h in
      record { told = rw e; long = g.long; stays = g.stays }

  pub counts_last : {s' s'' x : List ℕ} {r y : Bool} {a : Answer} → Replayed s t ks s' r → r ≡ true → x ≡ record_at t last → a ≡ step_answer s' x
      → s'' ≡ step_effect s' x → length s'' ≡ length s' → y ≡ is_alert a → Tried s t ks last s'' y
  unfolding cut_counts
  counts_last {s'} {s''} {x} {r} {y} {a} g h xe ae se le ye =
      let e : every accepted (run_answers s (records_at t ks)) ≡ true = sym g.told ∙ h in
      record {
        told = rw e (ye ∙ ap is_alert (ae ∙ ap (λ (z : List ℕ). step_answer z x) (g.left h) ∙ ap (step_answer (run_effect s (records_at t ks))) xe));
        long = le ∙ g.long;
        stays = λ m k. ap (drop m) (se ∙ ap (step_effect s') xe) ∙ k s' last ∙ g.stays m k;
      }

-- ---- a cut in two parts: behind records that are accepted, the rest counts on the session that they leave

pub counts_split : (s t : List ℕ) (last : ℕ) (xs ys : List ℕ) → every accepted (run_answers s (records_at t xs)) ≡ true
    → cut_counts s t last (xs ++ ys) ≡ cut_counts (run_effect s (records_at t xs)) t last ys
unfolding cut_counts
counts_split s t last xs ys h =
    let m : records_at t (xs ++ ys) ≡ records_at t xs ++ records_at t ys = records_append t xs ys in
    rw (
      m,
      run_answers_append s (records_at t xs) (records_at t ys),
      run_effect_append s (records_at t xs) (records_at t ys),
      every_split (run_answers s (records_at t xs)) (run_answers (run_effect s (records_at t xs)) (records_at t ys)) h,
    )

-- records in front of a cut that counts are accepted
pub counts_front : (s t : List ℕ) (last : ℕ) (xs ys : List ℕ) → cut_counts s t last (xs ++ ys) ≡ true → every accepted (run_answers s (records_at t xs)) ≡ true
unfolding cut_counts
counts_front s t last xs ys h =
    let e : every accepted (run_answers s (records_at t (xs ++ ys))) ≡ true =
    and_0 (every accepted (run_answers s (records_at t (xs ++ ys)))) (is_alert (step_answer (run_effect s (records_at t (xs ++ ys))) (record_at t last))) h in
    let g : every accepted (run_answers s (records_at t xs) ++ run_answers (run_effect s (records_at t xs)) (records_at t ys)) ≡ true
    = sym (ap (every accepted) (ap (run_answers s) (records_append t xs ys) ∙ run_answers_append s (records_at t xs) (records_at t ys))) ∙ e in
    every_left accepted (run_answers s (records_at t xs)) (run_answers (run_effect s (records_at t xs)) (records_at t ys)) g
