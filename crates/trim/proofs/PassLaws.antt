-- A pass over positions that are packed in place.
use Prim.Native.Nat.{ℕ, zero, suc, ◌+◌, ◌-◌, ◌≤◌, ◌<◌}
use mathlib.Core.Path.{◌≡◌, refl, sym, ap, ap₂, ◌∙◌}
use mathlib.Core.Bool.{Bool, true, false, cond}
use mathlib.Core.List.{List, [], ◌∷◌, ◌++◌, append_assoc}
use native.Mathlib.Omega.{arith}
use native.Mathlib.Numerals.{add-one}
use lib.ListN.{length, get_or, take, drop, set, length-set, length-take, drop_of_length-le}
use lib.Seq.{drop-cons, take-suc-set, drop-set-lt}
use Rattle.lists.specs.Lists.{every}
use Rattle.lists.proofs.Every.{every_0, every_1}
use Rattle.monitor.specs.Steps.{step_effect}
use Rattle.monitor.specs.Runs.{run_effect, step_on}
use Rattle.monitor.proofs.RunHistories.{run_effect_append}
use Rattle.trim.specs.Cuts.{pass_from, pass}
use Rattle.trim.specs.Trims.{trim_limit, record_at, records_at, cut_counts}
use Rattle.trim.specs.Replays.{in_trace, Paired, Passable, Passed}
use Rattle.trim.proofs.ReplayLaws.{counts_split, counts_front, records_append}

take_none : (k : ℕ) → take {A = ℕ} k [] ≡ []
take_none zero = refl
take_none (suc k) = refl

-- the positions from i to n, as they are lent
pub part_is : (n i : ℕ) (ps : List ℕ) → take (n - i) (drop i ps) ≡ drop i (take n ps)
part_is n zero ps = let e : n - 0 ≡ n = omega arith in rw e
part_is zero (suc i) ps = let e : 0 - suc i ≡ 0 = omega arith in rw e
part_is (suc n) (suc i) [] = take_none (suc n - suc i)
part_is (suc n) (suc i) (p ∷ ps) = let e : suc n - suc i ≡ n - i = omega arith in rw e (part_is n i ps)

take_get_d : (n i : ℕ) (ps : List ℕ) → i < n → get_or (take n ps) i 0 ≡ get_or ps i 0
take_get_d zero i ps l = absurd (omega arith)
take_get_d (suc n) i [] l = refl
take_get_d (suc n) zero (p ∷ ps) l = refl
take_get_d (suc n) (suc i) (p ∷ ps) l = take_get_d n i ps (omega arith)

next_position : (n i : ℕ) (ps : List ℕ) → i < n → n ≤ length ps → drop i (take n ps) ≡ get_or ps i 0 ∷ drop (i + 1) (take n ps)
next_position n i ps l m =
    let h : i < length (take n ps) = omega (arith, length-take n ps) in
    drop-cons (take n ps) i 0 h ∙ ap₂ (λ (k : ℕ) (r : List ℕ). k ∷ r) (take_get_d n i ps l) (ap (λ (j : ℕ). drop j (take n ps)) (sym (add-one i)))

-- ---- the loop: kept positions at the front, the session that they leave, and the cut so far

pub record Passes (s₀ t ps₀ : List ℕ) (n last m : ℕ) (before work ps : List ℕ) (kept i : ℕ) : Type 0 where
  pub place : i ≤ n
  pub fewer : kept ≤ i
  pub room : n ≤ length ps₀
  pub long : length ps ≡ length ps₀
  pub long_before : length before ≡ length s₀
  pub paired : Paired before work t m
  pub same : drop m before ≡ drop m s₀
  pub fits : every (in_trace t) (drop i (take n ps)) ≡ true
  pub last_fits : in_trace t last ≡ true
  pub small : last < trim_limit
  pub state : before ≡ run_effect s₀ (records_at t (take kept ps))
  pub counts : cut_counts s₀ t last (take kept ps ++ drop i (take n ps)) ≡ true
  pub is : pass_from (cut_counts s₀ t last) (take kept ps) (drop i (take n ps)) ≡ pass (cut_counts s₀ t last) (take n ps₀)

pub passes_start : (s work t ps : List ℕ) (n last m : ℕ) → Passable s work t ps n last m → Passes s t ps n last m s work ps 0 0
unfolding pass run_effect records_at
passes_start s work t ps n last m h = record {
  place = omega arith;
  fewer = omega arith;
  room = h.room;
  long = refl;
  long_before = refl;
  paired = h.paired;
  same = refl;
  fits = h.fits;
  last_fits = h.last_fits;
  small = h.small;
  state = refl;
  counts = h.counts;
  is = refl;
}

module _ (s₀ t ps₀ : List ℕ) (n last m : ℕ) (before work ps : List ℕ) (kept i : ℕ) (g : Passes s₀ t ps₀ n last m before work ps kept i) (l : i < n) where
  fit : n ≤ length ps
  fit = omega (arith, g.room, g.long)

  next : drop i (take n ps) ≡ get_or ps i 0 ∷ drop (i + 1) (take n ps)
  next = next_position n i ps l fit

  pub next_fits : in_trace t (get_or ps i 0) ≡ true
  next_fits = every_0 (in_trace t) (get_or ps i 0) (drop (i + 1) (take n ps)) (sym (ap (every (in_trace t)) next) ∙ g.fits)

  pub rest_fits : every (in_trace t) (drop (i + 1) (take n ps)) ≡ true
  rest_fits = every_1 (in_trace t) (get_or ps i 0) (drop (i + 1) (take n ps)) (sym (ap (every (in_trace t)) next) ∙ g.fits)

  -- the cut without the record at i counts just if the rest counts on the session
  tried : {x : Bool} → x ≡ cut_counts before t last (drop (i + 1) (take n ps)) → cut_counts s₀ t last (take kept ps ++ drop (i + 1) (take n ps)) ≡ x
  tried {x} e =
      counts_split s₀ t last (take kept ps) (drop (i + 1) (take n ps)) (counts_front s₀ t last (take kept ps) (drop i (take n ps)) g.counts)
      ∙ ap (λ (b : List ℕ). cut_counts b t last (drop (i + 1) (take n ps))) (sym g.state) ∙ sym e

  one : pass_from (cut_counts s₀ t last) (take kept ps) (drop i (take n ps))
      ≡ cond (cut_counts s₀ t last (take kept ps ++ drop (i + 1) (take n ps))) (pass_from (cut_counts s₀ t last) (take kept ps) (drop (i + 1) (take n ps)))
      (pass_from (cut_counts s₀ t last) (take kept ps ++ (get_or ps i 0 ∷ [])) (drop (i + 1) (take n ps)))
  unfolding pass_from
  one = ap (pass_from (cut_counts s₀ t last) (take kept ps)) next

  -- it goes
  pub passes_drop : {x : Bool} {work' : List ℕ} → x ≡ cut_counts before t last (drop (i + 1) (take n ps)) → x ≡ true → Paired before work' t m
      → Passes s₀ t ps₀ n last m before work' ps kept (i + 1)
  passes_drop {x} {work'} e h w = record {
    place = omega arith;
    fewer = omega (arith, g.fewer);
    room = g.room;
    long = g.long;
    long_before = g.long_before;
    paired = w;
    same = g.same;
    fits = rest_fits;
    last_fits = g.last_fits;
    small = g.small;
    state = g.state;
    counts = tried e ∙ h;
    is = (let z : cut_counts s₀ t last (take kept ps ++ drop (i + 1) (take n ps)) ≡ true = tried e ∙ h in sym (one ∙ rw z) ∙ g.is);
  }

  -- it stays
  front : take (kept + 1) (set ps kept (get_or ps i 0)) ≡ take kept ps ++ (get_or ps i 0 ∷ [])
  front = ap (λ (j : ℕ). take j (set ps kept (get_or ps i 0))) (add-one kept) ∙ take-suc-set ps kept (get_or ps i 0) (omega (arith, fit, g.fewer))

  back : drop (i + 1) (take n (set ps kept (get_or ps i 0))) ≡ drop (i + 1) (take n ps)
  back = sym (part_is n (i + 1) (set ps kept (get_or ps i 0))) ∙ ap (take (n - (i + 1))) (drop-set-lt (i + 1) ps kept (get_or ps i 0) (omega (arith, g.fewer))) ∙ part_is n (i + 1) ps

  pub passes_keep : {x : Bool} {before' work' : List ℕ} → x ≡ cut_counts before t last (drop (i + 1) (take n ps)) → x ≡ false
      → before' ≡ step_effect before (record_at t (get_or ps i 0)) → length before' ≡ length before → Paired before work' t m
      → Passes s₀ t ps₀ n last m before' work' (set ps kept (get_or ps i 0)) (kept + 1) (i + 1)
  passes_keep {x} {before'} {work'} e h b lb w = record {
    place = omega arith;
    fewer = omega (arith, g.fewer);
    room = g.room;
    long = length-set ps kept (get_or ps i 0) ∙ g.long;
    long_before = lb ∙ g.long_before;
    paired = record { even = lb ∙ w.even; wide = omega (arith, lb, w.wide); leaves = w.leaves; alike = w.alike ∙ sym stays };
    same = stays ∙ g.same;
    fits = rw back rest_fits;
    last_fits = g.last_fits;
    small = g.small;
    state = b ∙ ap (λ (s : List ℕ). step_effect s (record_at t (get_or ps i 0))) g.state ∙ sym (left (take kept ps) (get_or ps i 0)) ∙ ap (λ (r : List ℕ). run_effect s₀ (records_at t r)) (sym front);
    counts = rw (front, back, append_assoc (take kept ps) (get_or ps i 0 ∷ []) (drop (i + 1) (take n ps))) (sym (ap (λ (r : List ℕ). cut_counts s₀ t last (take kept ps ++ r)) next) ∙ g.counts);
    is = (let z : cut_counts s₀ t last (take kept ps ++ drop (i + 1) (take n ps)) ≡ false = tried e ∙ h in rw (front, back) (sym (one ∙ rw z) ∙ g.is));
  }
    where
      stays : drop m before' ≡ drop m before
      stays = ap (drop m) b ∙ w.leaves before (get_or ps i 0)

      left : (ks : List ℕ) (k : ℕ) → run_effect s₀ (records_at t (ks ++ (k ∷ []))) ≡ step_effect (run_effect s₀ (records_at t ks)) (record_at t k)
      left ks k = ap (run_effect s₀) (records_append t ks (k ∷ [])) ∙ run_effect_append s₀ (records_at t ks) (records_at t (k ∷ [])) ∙ last_step (run_effect s₀ (records_at t ks)) k
        where
          last_step : (s : List ℕ) (k : ℕ) → run_effect s (records_at t (k ∷ [])) ≡ step_effect s (record_at t k)
          last_step s k = unfold run_effect in (unfold records_at in (unfold step_on in refl))

pub passes_end : (s₀ t ps₀ : List ℕ) (n last m : ℕ) (before work ps : List ℕ) (kept i : ℕ) → Passes s₀ t ps₀ n last m before work ps kept i → n ≤ i
    → Passed s₀ t ps₀ n last m ps work kept
passes_end s₀ t ps₀ n last m before work ps kept i g l =
    record { fewer = omega (arith, g.fewer, g.place); is = sym (done (drop i (take n ps)) none) ∙ g.is; alike = g.paired.alike ∙ g.same }
  where
    none : drop i (take n ps) ≡ []
    none = drop_of_length-le (take n ps) {i = i} (omega (arith, length-take n ps))

    done : (xs : List ℕ) → xs ≡ [] → pass_from (cut_counts s₀ t last) (take kept ps) xs ≡ take kept ps
    done xs e = rw e (unfold pass_from in refl)
