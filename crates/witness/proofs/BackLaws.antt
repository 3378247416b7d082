-- A node followed back: the record numbers are written from the end of the buffer on.
use Prim.Native.Nat.{ℕ, suc, zero, ◌-◌, ◌/◌, ◌≤◌, ◌<◌}
use native.Mathlib.Omega.{arith}
use mathlib.Core.Path.{◌≡◌, refl, sym, ◌∙◌, ap, ap₂}
use mathlib.Core.List.{List, [], ◌∷◌, ◌++◌, map, append-nil}
use mathlib.Core.Option.{Option, none, some}
use lib.ListN.{length, get_or, set, take, drop, length-set, length-drop, drop_of_length-le, take-append-drop}
use lib.Seq.{take-set-le, take-take}
use Rattle.image.specs.Limits.{container_limit}
use Rattle.witness.specs.Witness.{Witness, rising}
use Rattle.witness.specs.Told.{chain_file, chain_records, found_in, at_end}
use Rattle.witness.specs.Links.{first_node, node_of}
use Rattle.witness.specs.Nodes.{LeadsBack, Stored, Room, Backed}

-- ---- how many steps

back_long : (ns links : List ℕ) (f v n : ℕ) (is : List ℕ) → LeadsBack ns links f v is → v < node_of n → length is ≤ n
back_long ns links f v n [] b l = omega arith
back_long ns links f v n (i ∷ is) (low, en, fall, b) l =
    let e : length is ≤ get_or ns i 0 = back_long ns links f (get_or links v 0) (get_or ns i 0) is b fall in
    omega arith

-- a node below those of record number n leads back by at most n records
pub stored_room : (ns links : List ℕ) (v n long : ℕ) (w : Option Witness) → Stored ns links v w → v < node_of n → n ≤ long → Room w long
stored_room ns links v n long none st l r = tt
stored_room ns links v n long (some w) st l r = omega (arith, back_long ns links w.file v n w.falling st l)

-- ---- lists

map_one : (g : ℕ → ℕ) (xs : List ℕ) (y : ℕ) (ys : List ℕ) → map g (xs ++ (y ∷ [])) ++ ys ≡ map g xs ++ (g y ∷ ys)
map_one g [] y ys = refl
map_one g (x ∷ xs) y ys = ap (λ (l : List ℕ). g x ∷ l) (map_one g xs y ys)

drop_set : (l : List ℕ) (k x : ℕ) → k < length l → drop k (set l k x) ≡ x ∷ drop (suc k) l
drop_set [] k x h = absurd (omega arith)
drop_set (y ∷ l) zero x h = refl
drop_set (y ∷ l) (suc k) x h = drop_set l k x (omega arith)

-- ---- the loop

module _ (links : List ℕ) where
  -- from the node v on there are still steps to be written in front of `first`
  abbrev pub Left : List ℕ → Option Witness → ℕ → ℕ → List ℕ → Type 0
  Left ns none v first steps = (v ≡ 0) × (drop first steps ≡ [])
  Left ns (some w) v first steps =
      (rest : List ℕ) × LeadsBack ns links w.file v rest
      × (map (λ i. get_or ns i 0) (rising rest) ++ drop first steps ≡ map (λ i. get_or ns i 0) (rising w.falling)) × (length rest ≤ first)

  pub record Following (node : ℕ) (steps₀ : List ℕ) (v first : ℕ) (steps : List ℕ) : Type 0 where
    pub within : first ≤ length steps
    pub long : length steps ≡ length steps₀
    pub kept : take first steps ≡ take first steps₀
    pub low : v ≤ node
    pub left : (ns : List ℕ) (w : Option Witness) → Stored ns links node w → Room w (length steps₀) → Left ns w v first steps

  pub following_start : (node : ℕ) (steps : List ℕ) → Following node steps node (length steps) steps
  following_start node steps = record { within = omega arith; long = refl; kept = refl; low = omega arith; left = at }
    where
      none_left : drop (length steps) steps ≡ []
      none_left = drop_of_length-le steps {i = length steps} (omega arith)

      at : (ns : List ℕ) (w : Option Witness) → Stored ns links node w → Room w (length steps) → Left ns w node (length steps) steps
      at ns none st room = (st, none_left)
      at ns (some w) st room =
          (w.falling, st, ap (λ (l : List ℕ). map (λ i. get_or ns i 0) (rising w.falling) ++ l) none_left ∙ append-nil (map (λ i. get_or ns i 0) (rising w.falling)), room)

  module _ (node : ℕ) (steps₀ : List ℕ) (v first : ℕ) (steps : List ℕ) (F : Following node steps₀ v first steps) (up : first_node ≤ v) where
    -- there is a step at v, room for it, and the node before it is smaller
    pub following_some : Backed links node (length steps₀) → (1 ≤ first) × (get_or links v 0 < v)
    following_some (ns, w, st, room) = at w (F.left ns w st room)
      where
        at : (w : Option Witness) → Left ns w v first steps → (1 ≤ first) × (get_or links v 0 < v)
        at none z = absurd (omega (arith, z.0, up))
        at (some w) ([], b, e, n) = absurd (omega (arith, b.0, b.1, up))
        at (some w) (i ∷ rest, b, e, n) = (omega arith, omega (arith, b.1, b.2, up))

    -- it is written in front
    pub following_next : 1 ≤ first → get_or links v 0 < v → (x : ℕ) → x ≡ (v - first_node) / 2
        → Following node steps₀ (get_or links v 0) (first - 1) (set steps (first - 1) x)
    following_next some-room fall x ex =
        record {
          within = omega (arith, length-set steps (first - 1) x, F.within);
          long = length-set steps (first - 1) x ∙ F.long;
          kept = take-set-le (first - 1) steps (first - 1) x (omega arith) ∙ sym (take-take (first - 1) first steps less) ∙ ap (take (first - 1)) F.kept ∙ take-take (first - 1) first steps₀ less;
          low = omega (arith, F.low);
          left = λ ns w st room. at ns w (F.left ns w st room);
        }
      where
        z : suc (first - 1) ≡ first
        z = omega arith

        less : first - 1 ≤ first
        less = omega arith

        put : drop (first - 1) (set steps (first - 1) x) ≡ x ∷ drop first steps
        put = drop_set steps (first - 1) x (omega (arith, F.within)) ∙ ap (λ (k : ℕ). x ∷ drop k steps) z

        at : (ns : List ℕ) (w : Option Witness) → Left ns w v first steps → Left ns w (get_or links v 0) (first - 1) (set steps (first - 1) x)
        at ns none (z, e) = absurd (omega (arith, z, up))
        at ns (some w) ([], b, e, n) = absurd (omega (arith, b.0, b.1, up))
        at ns (some w) (i ∷ rest, b, e, n) =
            let y : x ≡ get_or ns i 0 = ex ∙ b.1 in (
              rest,
              b.3,
              ap (λ (l : List ℕ). map (λ j. get_or ns j 0) (rising rest) ++ l) (put ∙ ap (λ (k : ℕ). k ∷ drop first steps) y)
                  ∙ sym (map_one (λ j. get_or ns j 0) (rising rest) i (drop first steps)) ∙ e,
              omega arith,
            )

  -- the way back has ended
  module _ (node : ℕ) (steps₀ : List ℕ) (v first : ℕ) (steps : List ℕ) (F : Following node steps₀ v first steps) (down : v < first_node)
      (ns : List ℕ) (w : Option Witness) (st : Stored ns links node w) (room : Room w (length steps₀)) where
    -- what is written is told
    written : (xs : List ℕ) → drop first steps ≡ xs → (first ≡ length steps₀ - length xs) × (steps ≡ at_end xs steps₀)
    unfolding at_end
    written xs e =
        let f : first ≡ length steps₀ - length xs = omega (arith, ap length e, length-drop first steps, F.within, F.long) in
        (f, sym (take-append-drop first steps) ∙ ap₂ (λ (a b : List ℕ). a ++ b) (F.kept ∙ ap (λ (k : ℕ). take k steps₀) f) e)

    pub following_none : v ≡ 0 → (record { file = container_limit; first = first } ≡ found_in ns w steps₀) × (steps ≡ at_end (chain_records ns w) steps₀)
    unfolding found_in chain_file chain_records
    following_none z = at w (F.left ns w st room)
      where
        at : (w : Option Witness) → Left ns w v first steps → (record { file = container_limit; first = first } ≡ found_in ns w steps₀) × (steps ≡ at_end (chain_records ns w) steps₀)
        at none (y, e) = let u = written [] e in (ap (λ (k : ℕ). record { file = container_limit; first = k }) u.0, u.1)
        at (some w) ([], b, e, n) = absurd (omega (arith, b.0, z))
        at (some w) (i ∷ rest, b, e, n) = absurd (omega (arith, b.0, z))

    pub following_end : (v ≡ 0 → ⊥) → (record { file = v - 1; first = first } ≡ found_in ns w steps₀) × (steps ≡ at_end (chain_records ns w) steps₀)
    unfolding found_in chain_file chain_records
    following_end z = at w (F.left ns w st room)
      where
        at : (w : Option Witness) → Left ns w v first steps → (record { file = v - 1; first = first } ≡ found_in ns w steps₀) × (steps ≡ at_end (chain_records ns w) steps₀)
        at none (y, e) = absurd (z y)
        at (some w) ([], b, e, n) =
            let u = written (map (λ i. get_or ns i 0) (rising w.falling)) e in
            let y : v - 1 ≡ w.file = omega (arith, b.0) in
            (ap₂ (λ (j k : ℕ). record { file = j; first = k }) y u.0, u.1)
        at (some w) (i ∷ rest, b, e, n) = absurd (omega (arith, b.0, down))

    -- the file is a container
    pub following_inside : (v ≡ 0 → ⊥) → v - 1 < container_limit
    following_inside z = at w (F.left ns w st room)
      where
        at : (w : Option Witness) → Left ns w v first steps → v - 1 < container_limit
        at none (y, e) = absurd (z y)
        at (some w) ([], b, e, n) = omega (arith, b.0, b.1)
        at (some w) (i ∷ rest, b, e, n) = absurd (omega (arith, b.0, down))
