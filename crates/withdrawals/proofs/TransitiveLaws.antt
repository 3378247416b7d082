-- A matrix is consistent exactly when its granted flows are transitive, and so are those of a matrix to which a right returns.
use Prim.Native.Nat.{ℕ, ◌<◌}
use mathlib.Core.Path.{◌≡◌, refl, sym, ◌∙◌}
use mathlib.Core.Bool.{Bool, true, false, cond, ◌&&◌}
use mathlib.Core.List.{List}
use mathlib.Core.Logic.{◌⊎◌, inl, inr, ◌↔◌}
use lib.ListN.{get_or}
use Rattle.lists.proofs.Bools.{and_in, and_0, and_1, or_0, or_1, or_cases}
use Rattle.matrix.specs.Flows.{has, granted, Path, step, onward}
use Rattle.lists.specs.Counting.{least_below, all_below}
use Rattle.matrix.specs.Verdicts.{consistent}
use Rattle.matrix.specs.Rows.{bit_at}
use Rattle.matrix.proofs.PathTest.{path_source, path_target}
use Rattle.lists.proofs.Below.{Least, some_at, least_some, all_at, all_in}
use Rattle.matrix.proofs.PathFlows.{consistent_granted}
use Rattle.withdrawals.specs.Returns.{reached_from, row_closed, table_closed, leads_to, with_flows, source_fits, stays_closed}

abbrev pub Transitive : (ℕ → ℕ → Bool) → ℕ → Type 0
Transitive f n = (a b c : ℕ) → a < n → b < n → c < n → f a b ≡ true → f b c ≡ true → f a c ≡ true

pub transitive_same : (f g : ℕ → ℕ → Bool) (n : ℕ) → ((a b : ℕ) → a < n → b < n → f a b ≡ g a b) → Transitive f n → Transitive g n
transitive_same f g n e t a b c p q r x y = sym (e a c p r) ∙ t a b c p q r (e a b p q ∙ x) (e b c q r ∙ y)

path_one : (f : ℕ → ℕ → Bool) (n a b : ℕ) → Transitive f n → Path f n a b → f a b ≡ true
path_one f n a b t (step p q e) = e
path_one f n a c t (onward {b = b} p q e) = t a b c (path_source p) (path_target p) q (path_one f n a b t p) e

pub consistent_transitive : (reads writes : List ℕ) (n : ℕ) → (consistent reads writes n ≡ true) ↔ Transitive (granted reads writes) n
consistent_transitive reads writes n = (
  (λ h a b c p q r x y. (consistent_granted reads writes n).0 h a c (onward (step p q x) r y)),
  (λ t. (consistent_granted reads writes n).1 (λ a b p. path_one (granted reads writes) n a b t p)),
)

-- ---- a table that is transitive

pub table_transitive : (rows : List ℕ) (n : ℕ) → (table_closed rows n ≡ true) ↔ Transitive (bit_at rows) n
unfolding table_closed row_closed reached_from bit_at
table_transitive rows n = (to, back)
  where
    to : table_closed rows n ≡ true → Transitive (bit_at rows) n
    to h a b c p q r x y =
        let s : reached_from (bit_at rows) n (get_or rows a 0) c ≡ true = some_at (λ y. has (get_or rows a 0) y && bit_at rows y c) n b q (and_in x y) in
        rw s at (all_at (λ b. cond (reached_from (bit_at rows) n (get_or rows a 0) b) (bit_at rows a b) true) n c (all_at (row_closed rows n) n a h p) r)

    back : Transitive (bit_at rows) n → table_closed rows n ≡ true
    back t =
        all_in (row_closed rows n) n
        (λ a p. all_in (λ b. cond (reached_from (bit_at rows) n (get_or rows a 0) b) (bit_at rows a b) true) n (λ b q. one a b p q (reached_from (bit_at rows) n (get_or rows a 0) b) refl))
      where
        step_on : (a b : ℕ) → a < n → b < n → Least (λ y. has (get_or rows a 0) y && bit_at rows y b) n (least_below (λ y. has (get_or rows a 0) y && bit_at rows y b) n) → bit_at rows a b ≡ true
        step_on a b p q u =
            t a (least_below (λ y. has (get_or rows a 0) y && bit_at rows y b) n) b p u.below q
            (and_0 (has (get_or rows a 0) (least_below (λ y. has (get_or rows a 0) y && bit_at rows y b) n)) (bit_at rows (least_below (λ y. has (get_or rows a 0) y && bit_at rows y b) n) b) u.passes)
            (and_1 (has (get_or rows a 0) (least_below (λ y. has (get_or rows a 0) y && bit_at rows y b) n)) u.passes)

        one : (a b : ℕ) → a < n → b < n → (r : Bool) → reached_from (bit_at rows) n (get_or rows a 0) b ≡ r → cond r (bit_at rows a b) true ≡ true
        one a b p q true e = step_on a b p q (least_some (λ y. has (get_or rows a 0) y && bit_at rows y b) n e)
        one a b p q false e = refl

-- ---- with each source and each target added

module _ (f : ℕ → ℕ → Bool) (n sources targets : ℕ) where
  old_flow : (a b : ℕ) → f a b ≡ true → with_flows f sources targets a b ≡ true
  unfolding with_flows
  old_flow a b h = or_0 (f a b) (has sources a && has targets b) h

  new_flow : (a b : ℕ) → has sources a ≡ true → has targets b ≡ true → with_flows f sources targets a b ≡ true
  unfolding with_flows
  new_flow a b p q = or_1 (f a b) (has sources a && has targets b) (and_in p q)

  flow_cases : (a b : ℕ) → with_flows f sources targets a b ≡ true → (f a b ≡ true) ⊎ ((has sources a && has targets b) ≡ true)
  unfolding with_flows
  flow_cases a b h = or_cases (f a b) h

  leads_by : (a x : ℕ) → x < n → f a x ≡ true → has sources x ≡ true → leads_to f n sources a ≡ true
  unfolding leads_to
  leads_by a x l p q = some_at (λ x. f a x && has sources x) n x l (and_in p q)

  reached_by : (b y : ℕ) → y < n → has targets y ≡ true → f y b ≡ true → reached_from f n targets b ≡ true
  unfolding reached_from
  reached_by b y l p q = some_at (λ y. has targets y && f y b) n y l (and_in p q)

  leads_source : (a : ℕ) → leads_to f n sources a ≡ true → Least (λ x. f a x && has sources x) n (least_below (λ x. f a x && has sources x) n)
  unfolding leads_to
  leads_source a h = least_some (λ x. f a x && has sources x) n h

  reached_target : (b : ℕ) → reached_from f n targets b ≡ true → Least (λ y. has targets y && f y b) n (least_below (λ y. has targets y && f y b) n)
  unfolding reached_from
  reached_target b h = least_some (λ y. has targets y && f y b) n h

  -- what leads to a source, with what is reached from a target
  abbrev Through : Type 0
  Through = (a b : ℕ) → a < n → b < n → leads_to f n sources a ≡ true → reached_from f n targets b ≡ true → with_flows f sources targets a b ≡ true

  closed_through : stays_closed f n sources targets ≡ true → Through
  unfolding stays_closed source_fits
  closed_through h a b p q l r =
      let s : all_below (λ b. cond (reached_from f n targets b) (with_flows f sources targets a b) true) n ≡ true = rw l at (all_at (source_fits f n sources targets) n a h p) in
      rw r at (all_at (λ b. cond (reached_from f n targets b) (with_flows f sources targets a b) true) n b s q)

  through_closed : Through → stays_closed f n sources targets ≡ true
  unfolding stays_closed source_fits
  through_closed t = all_in (source_fits f n sources targets) n (λ a p. row a p (leads_to f n sources a) refl)
    where
      one : (a b : ℕ) → a < n → b < n → leads_to f n sources a ≡ true → (r : Bool) → reached_from f n targets b ≡ r → cond r (with_flows f sources targets a b) true ≡ true
      one a b p q l true e = t a b p q l e
      one a b p q l false e = refl

      row : (a : ℕ) → a < n → (l : Bool) → leads_to f n sources a ≡ l
          → cond l (all_below (λ b. cond (reached_from f n targets b) (with_flows f sources targets a b) true) n) true ≡ true
      row a p true l = all_in (λ b. cond (reached_from f n targets b) (with_flows f sources targets a b) true) n (λ b q. one a b p q l (reached_from f n targets b) refl)
      row a p false l = refl

  -- the relation f leads from each number to itself, and is transitive
  module _ (same : (a : ℕ) → a < n → f a a ≡ true) (t : Transitive f n) where
    pub stays_transitive : (stays_closed f n sources targets ≡ true) ↔ Transitive (with_flows f sources targets) n
    stays_transitive = (λ h. joins (closed_through h), λ w. through_closed (passes w))
      where
        joins : Through → Transitive (with_flows f sources targets) n
        joins thr a b c p q r x y = by (flow_cases a b x) (flow_cases b c y)
          where
            by : (f a b ≡ true) ⊎ ((has sources a && has targets b) ≡ true) → (f b c ≡ true) ⊎ ((has sources b && has targets c) ≡ true)
                → with_flows f sources targets a c ≡ true
            by (inl u) (inl v) = old_flow a c (t a b c p q r u v)
            by (inl u) (inr v) =
                thr a c p r (leads_by a b q u (and_0 (has sources b) (has targets c) v)) (reached_by c c r (and_1 (has sources b) v) (same c r))
            by (inr u) (inl v) =
                thr a c p r (leads_by a a p (same a p) (and_0 (has sources a) (has targets b) u)) (reached_by c b q (and_1 (has sources a) u) v)
            by (inr u) (inr v) =
                thr a c p r (leads_by a a p (same a p) (and_0 (has sources a) (has targets b) u)) (reached_by c c r (and_1 (has sources b) v) (same c r))

        passes : Transitive (with_flows f sources targets) n → Through
        passes w a b p q l r = on (leads_source a l) (reached_target b r)
          where
            on : Least (λ x. f a x && has sources x) n (least_below (λ x. f a x && has sources x) n) → Least (λ y. has targets y && f y b) n (least_below (λ y. has targets y && f y b) n)
                → with_flows f sources targets a b ≡ true
            on u v = w a x b p u.below q (old_flow a x (and_0 (f a x) (has sources x) u.passes))
                (w x y b u.below v.below q (new_flow x y (and_1 (f a x) u.passes) (and_0 (has targets y) (f y b) v.passes)) (old_flow y b (and_1 (has targets y) v.passes)))
              where
                x : ℕ
                x = least_below (λ x. f a x && has sources x) n

                y : ℕ
                y = least_below (λ y. has targets y && f y b) n
