-- Notes of paths: a note has its path's hash and place, paths with different hashes differ, and a path is found among the notes.
use Prim.Native.Nat.{ℕ, suc, ◌+◌, ◌*◌, ◌/◌, ◌%◌, ◌^◌, ◌≤◌, ◌<◌}
use mathlib.Core.Path.{◌≡◌, refl, sym, ap, ap₂, ◌∙◌}
use mathlib.Core.Bool.{Bool, true, false, cond, ◌||◌}
use mathlib.Core.List.{List, [], ◌∷◌, ◌++◌, map, map-append}
use native.Mathlib.Omega.{arith}
use native.Mathlib.Numerals.{add-one}
use lib.Dec.{eqb, ltb}
use lib.ListN.{length, get_or, take, drop, set, length-append, length-drop, length-set, length-map, drop_of_length-le}
use lib.Seq.{length-take-le, take-append_seam, drop-cons, take-suc-set}
use borrow.Author.Tests.{eqb-true, eq-eqb, ltb-true, lt-ltb, le-ltb}
use Rattle.lists.specs.Lists.{every, same_list, known, known_by, position, position_by}
use Rattle.lists.proofs.Bools.{and_in, and_0, and_1, refuted, same_test}
use Rattle.lists.proofs.Every.{every_nil, every_cons, every_append}
use Rattle.lists.proofs.Same.{same_eq}
use Rattle.profiles.specs.Profiles.{path_good}
use Rattle.profiles.specs.Reading.{path_in}
use Rattle.profiles.specs.Texts.{text_limit}
use Rattle.profiles.specs.Notes.{length_limit, hash_from, path_hash, note_of, noted_path, note_good, PathAt, ToNote, noted_paths, noted_place, with_note, hash_factor, hash_limit}
use Rattle.profiles.proofs.TokenLaws.{starts_split}
use Rattle.profiles.proofs.ProfileLines.{path_front}
use Rattle.profiles.proofs.WordScans.{drop_next}
use Rattle.profiles.proofs.LineScans.{path_room}
use Rattle.profiles.proofs.PathBytes.{path_parts}

-- ---- hashes

hash_below : (p : List ℕ) (k : ℕ) → k < hash_limit → hash_from k p < hash_limit
unfolding hash_from
hash_below [] k l = l
hash_below (b ∷ p) k l = hash_below p ((k * hash_factor + b) % hash_limit) (omega arith)

pub hash_small : (p : List ℕ) → path_good p ≡ true → path_hash p * text_limit < 2 ^ 63
unfolding path_hash
hash_small p h = omega (arith, (path_parts p h).2, hash_below p 0 (omega arith))

-- the bytes up to i are in the sum
pub record Summed (p : List ℕ) (i k : ℕ) : Type 0 where
  pub place : i ≤ length p
  pub below : k < hash_limit
  pub rest : hash_from k (drop i p) ≡ hash_from 0 p

pub sum_start : (p : List ℕ) → Summed p 0 0
sum_start p = record { place = omega arith; below = omega arith; rest = refl }

module _ (p : List ℕ) (i k : ℕ) (g : Summed p i k) where
  pub sum_next : i < length p → Summed p (i + 1) ((k * hash_factor + get_or p i 0) % hash_limit)
  unfolding hash_from
  sum_next l = record { place = omega arith; below = omega arith; rest = sym (ap (hash_from k) (drop_next p i l)) ∙ g.rest }

  pub sum_end : length p ≤ i → length p + length_limit * k ≡ path_hash p
  unfolding hash_from path_hash
  sum_end l = ap (λ (n : ℕ). length p + length_limit * n) (rw (drop_of_length-le p l) at g.rest)

same_length : (p q : List ℕ) → path_good p ≡ true → path_good q ≡ true → path_hash p ≡ path_hash q → length p ≡ length q
unfolding path_hash
same_length p q g h e = omega (arith, e, (path_parts p g).2, (path_parts q h).2)

-- ---- a note and a path

module _ (t : List ℕ) (note at n hash : ℕ) (p : PathAt t at n hash) (g : note_good t note ≡ true) where
  note_path_good : path_good (noted_path t note) ≡ true
  unfolding note_good
  note_path_good = and_0 (path_good (noted_path t note)) (eqb (note / text_limit) (path_hash (noted_path t note))) g

  note_hash : note / text_limit ≡ path_hash (noted_path t note)
  unfolding note_good
  note_hash = eqb-true (note / text_limit) (path_hash (noted_path t note)) (and_1 (path_good (noted_path t note)) g)

  pub hash_differs : (note / text_limit ≡ hash → ⊥) → false ≡ same_list (take n (drop at t)) (noted_path t note)
  hash_differs d =
      sym (refuted (same_list (take n (drop at t)) (noted_path t note))
      (λ h. d (note_hash ∙ ap path_hash (sym (same_eq (take n (drop at t)) (noted_path t note) h)) ∙ sym p.hashed)))

  module _ (e : note / text_limit ≡ hash) where
    size : length (noted_path t note) ≡ n
    size =
        sym (same_length (take n (drop at t)) (noted_path t note) p.good note_path_good (sym p.hashed ∙ sym e ∙ note_hash))
        ∙ length-take-le n (drop at t) (omega (arith, p.fits, length-drop at t))

    inside : note % text_limit < length t
    unfolding noted_path
    inside =
        let u = drop (note % text_limit) t in
        omega (
          arith,
          size,
          (path_parts (take n (drop at t)) p.good).1,
          length-take-le n (drop at t) (omega (arith, p.fits, length-drop at t)),
          ap length (starts_split (path_in u) u (path_front u)),
          length-append (path_in u) (drop (length (path_in u)) u),
          length-drop (note % text_limit) t,
        )

    pub note_fits : note % text_limit + n ≤ length t
    unfolding noted_path
    note_fits = omega (arith, size, path_room t (note % text_limit) (omega (arith, inside)))

    pub note_text : take n (drop (note % text_limit) t) ≡ noted_path t note
    unfolding noted_path
    note_text =
        let u = drop (note % text_limit) t in
        ap₂ take (sym size) (sym (starts_split (path_in u) u (path_front u))) ∙ take-append_seam (path_in u) (drop (length (path_in u)) u)

-- ---- among the notes

pub record NotesPassed (t notes : List ℕ) (p : List ℕ) (j : ℕ) : Type 0 where
  pub place : j ≤ length notes
  pub rest : j + position p (map (noted_path t) (drop j notes)) ≡ position p (map (noted_path t) notes)

pub notes_start : (t notes p : List ℕ) → NotesPassed t notes p 0
notes_start t notes p = record { place = omega arith; rest = omega arith }

module _ (t notes p : List ℕ) (j : ℕ) (g : NotesPassed t notes p j) where
  notes_step : j < length notes
      → position p (map (noted_path t) (drop j notes)) ≡ cond (same_list p (noted_path t (get_or notes j 0))) 0 (suc (position p (map (noted_path t) (drop (j + 1) notes))))
  unfolding position_by
  notes_step l = rw (add-one, drop-cons notes j 0 l)

  pub notes_found : j < length notes → same_list p (noted_path t (get_or notes j 0)) ≡ true → j ≡ position p (map (noted_path t) notes)
  notes_found l h = let e : position p (map (noted_path t) (drop j notes)) ≡ 0 = rw h at (notes_step l) in omega (arith, g.rest)

  pub notes_next : j < length notes → same_list p (noted_path t (get_or notes j 0)) ≡ false → NotesPassed t notes p (j + 1)
  notes_next l h =
      let e : position p (map (noted_path t) (drop j notes)) ≡ suc (position p (map (noted_path t) (drop (j + 1) notes))) = rw h at (notes_step l) in
      record { place = omega arith; rest = omega (arith, g.rest) }

  pub notes_end : length notes ≤ j → j ≡ position p (map (noted_path t) notes)
  unfolding position_by
  notes_end l = let e : position p (map (noted_path t) (drop j notes)) ≡ 0 = rw (drop_of_length-le notes l) in omega (arith, g.rest)

ltb_suc : (a b : ℕ) → ltb (suc a) (suc b) ≡ ltb a b
ltb_suc a b =
    same_test (ltb (suc a) (suc b)) (ltb a b) (λ h. lt-ltb a b (omega (arith, ltb-true (suc a) (suc b) h))) (λ h. lt-ltb (suc a) (suc b) (omega (arith, ltb-true a b h)))

-- a path that has a place is there
pub place_among : (p : List ℕ) (qs : List (List ℕ)) → ltb (position p qs) (length qs) ≡ known p qs
unfolding position_by known_by
place_among p [] = refl
place_among p (q ∷ qs) = by (same_list p q) (place_among p qs)
  where
    by : (b : Bool) → ltb (position p qs) (length qs) ≡ known p qs → ltb (cond b 0 (suc (position p qs))) (suc (length qs)) ≡ (b || known p qs)
    by true h = lt-ltb 0 (suc (length qs)) (omega arith)
    by false h = ltb_suc (position p qs) (length qs) ∙ h

-- ---- one note more

pub note_hashed : (at : ℕ) (p : List ℕ) → at < text_limit → note_of at p / text_limit ≡ path_hash p
unfolding note_of
note_hashed at p l = omega arith

module _ (t notes : List ℕ) (count at n : ℕ) (g : ToNote t notes count at n) where
  pub noted_small : (hash : ℕ) → hash ≡ path_hash (take n (drop at t)) → hash * text_limit < 2 ^ 63
  noted_small hash k = rw k (hash_small (take n (drop at t)) g.good)

  module _ (r : ℕ) (e : r ≡ noted_place t notes count at n) where
    pub known_note : r < count → notes ≡ with_note t notes count at n
    unfolding with_note
    known_note l = rw (lt-ltb (noted_place t notes count at n) count (omega arith))

    pub new_note : count ≤ r → (hash : ℕ) → hash ≡ path_hash (take n (drop at t)) → set notes count (hash * text_limit + at) ≡ with_note t notes count at n
    unfolding with_note note_of
    new_note l hash k = rw (le-ltb (noted_place t notes count at n) count (omega arith), k)

    known_is : ltb r count ≡ known (take n (drop at t)) (noted_paths t notes count)
    unfolding noted_place noted_paths
    known_is =
        let m : length (map (noted_path t) (take count notes)) ≡ count = length-map (take count notes) (noted_path t) ∙ length-take-le count notes (omega (arith, g.room)) in
        ap₂ ltb e (sym m) ∙ place_among (take n (drop at t)) (map (noted_path t) (take count notes))

    pub is_known : r < count → known (take n (drop at t)) (noted_paths t notes count) ≡ true
    is_known l = sym known_is ∙ lt-ltb r count l

    module _ (l : count ≤ r) where
      pub is_new : known (take n (drop at t)) (noted_paths t notes count) ≡ false
      is_new = sym known_is ∙ le-ltb r count l

      module _ (after : List ℕ) (w : after ≡ with_note t notes count at n) where
        after_is : after ≡ set notes count (note_of at (take n (drop at t)))
        unfolding with_note
        after_is = w ∙ rw (le-ltb (noted_place t notes count at n) count (omega arith))

        pub notes_long : length after ≡ length notes
        notes_long = ap length after_is ∙ length-set notes count (note_of at (take n (drop at t)))

        pub notes_are : take (count + 1) after ≡ take count notes ++ (note_of at (take n (drop at t)) ∷ [])
        notes_are = ap₂ take (add-one count) after_is ∙ take-suc-set notes count (note_of at (take n (drop at t))) g.room

        module _ (f : path_in (drop at t) ≡ take n (drop at t)) where
          note_is : noted_path t (note_of at (take n (drop at t))) ≡ take n (drop at t)
          unfolding noted_path note_of
          note_is =
              let z : (path_hash (take n (drop at t)) * text_limit + at) % text_limit ≡ at = omega (arith, g.place) in
              ap (λ (k : ℕ). path_in (drop k t)) z ∙ f

          note_good_lem : note_good t (note_of at (take n (drop at t))) ≡ true
          unfolding note_good
          note_good_lem =
              let x = note_of at (take n (drop at t)) in
              and_in (ap path_good note_is ∙ g.good) (eq-eqb (x / text_limit) (path_hash (noted_path t x)) (note_hashed at (take n (drop at t)) g.place ∙ ap path_hash (sym note_is)))

          pub notes_good : every (note_good t) (take (count + 1) after) ≡ true
          notes_good =
              ap (every (note_good t)) notes_are
              ∙ every_append (note_good t) (take count notes) (note_of at (take n (drop at t)) ∷ []) g.noted
              (every_cons (note_good t) (note_of at (take n (drop at t))) [] note_good_lem (every_nil (note_good t)))

          pub paths_more : noted_paths t after (count + 1) ≡ noted_paths t notes count ++ (take n (drop at t) ∷ [])
          unfolding noted_paths
          paths_more =
              ap (map (noted_path t)) notes_are
              ∙ map-append (noted_path t) (take count notes) (note_of at (take n (drop at t)) ∷ [])
              ∙ ap (λ (p : List ℕ). map (noted_path t) (take count notes) ++ (p ∷ [])) note_is
