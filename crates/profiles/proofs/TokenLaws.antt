-- Tokens are read back as they were written, and what is read is in front of the text.
use Prim.Native.Nat.{ℕ, zero, suc, ◌-◌, ◌≤◌, ◌<◌}
use mathlib.Core.Path.{◌≡◌, refl, sym, ap, ap₂, ◌∙◌, subst}
use mathlib.Core.Bool.{Bool, true, false, ◌&&◌}
use mathlib.Core.List.{List, [], ◌∷◌, ◌++◌, map, append_assoc}
use mathlib.Core.Option.{Option, none, some}
use native.Mathlib.Omega.{arith}
use lib.Dec.{eqb}
use lib.ListN.{length, drop, length-append, length-drop}
use lib.Seq.{drop-append_seam}
use borrow.Author.Tests.{eqb-true, eq-eqb}
use Rattle.lists.specs.Lists.{every, joined}
use Rattle.lists.proofs.Bools.{and_in, and_0, and_1, clash}
use Rattle.lists.proofs.Every.{every_0, every_1, every_nil, every_cons}
use Rattle.profiles.specs.Tokens.{given, starts, tokens_from, tokens}

-- ---- a text that begins with a word

pub starts_split : (w t : List ℕ) → starts w t ≡ true → w ++ drop (length w) t ≡ t
unfolding starts
starts_split [] t h = refl
starts_split (b ∷ w) [] h = clash h refl
starts_split (b ∷ w) (c ∷ t) h = ap₂ ◌∷◌ (eqb-true b c (and_0 (eqb b c) (starts w t) h)) (starts_split w t (and_1 (eqb b c) h))

pub starts_seam : (w t : List ℕ) → starts w (w ++ t) ≡ true
unfolding starts
starts_seam [] t = refl
starts_seam (b ∷ w) t = and_in (eq-eqb b b refl) (starts_seam w t)

pub starts_append : (v w t : List ℕ) → starts (v ++ w) t ≡ (starts v t && starts w (drop (length v) t))
unfolding starts
starts_append [] w t = refl
starts_append (b ∷ v) w [] = refl
starts_append (b ∷ v) w (c ∷ t) = by (eqb b c) (starts_append v w t)
  where
    by : (e : Bool) → starts (v ++ w) t ≡ (starts v t && starts w (drop (length v) t)) → (e && starts (v ++ w) t) ≡ ((e && starts v t) && starts w (drop (length v) t))
    by true h = h
    by false h = refl

-- ---- the tokens one by one

module _ {A : Type 0} (next : List ℕ → Option A) (text : A → List ℕ) where
  tokens_behind : (k : ℕ) (t : List ℕ) → tokens_from next text k t ≡ tokens next text (drop k t)
  unfolding tokens_from tokens
  tokens_behind zero t = refl
  tokens_behind (suc k) [] = refl
  tokens_behind (suc k) (b ∷ t) = tokens_behind k t

  drop_less : (n b : ℕ) (t : List ℕ) → 0 < n → drop (n - 1) t ≡ drop n (b ∷ t)
  drop_less zero b t l = absurd (omega arith)
  drop_less (suc n) b t l = let e : suc n - 1 ≡ n = omega arith in ap (λ (k : ℕ). drop k t) e

  pub tokens_stop : (t : List ℕ) → next t ≡ none → tokens next text t ≡ []
  unfolding tokens_from tokens
  tokens_stop [] e = refl
  tokens_stop (b ∷ t) e = rw e

  pub tokens_step : (t : List ℕ) (a : A) → next t ≡ some a → 0 < length t → 0 < length (text a)
      → tokens next text t ≡ a ∷ tokens next text (drop (length (text a)) t)
  unfolding tokens_from tokens
  tokens_step [] a e l m = absurd (omega arith)
  tokens_step (b ∷ t) a e l m =
      ap (λ (o : Option A). given o [] (λ a. a ∷ tokens_from next text (length (text a) - 1) t)) e
      ∙ ap (λ (xs : List A). a ∷ xs) (tokens_behind (length (text a) - 1) t ∙ ap (tokens next text) (drop_less (length (text a)) b t m))

  -- ---- what each token in front has, the row of them has

  module _ (long : (a : A) → 0 < length (text a)) (sound : (t : List ℕ) (a : A) → next t ≡ some a → starts (text a) t ≡ true) where
    room : (t : List ℕ) (a : A) → next t ≡ some a → length (text a) ≤ length t
    room t a e = omega (arith, ap length (starts_split (text a) t (sound t a e)), length-append (text a) (drop (length (text a)) t))

    module _ (P : List ℕ → List A → Type 0) (stop : (t : List ℕ) → next t ≡ none → P t [])
        (step : (t : List ℕ) (a : A) (as' : List A) → next t ≡ some a → P (drop (length (text a)) t) as' → P t (a ∷ as')) where
      by : (t : List ℕ) (o : Option A) → next t ≡ o → ((u : List ℕ) → length u < length t → P u (tokens next text u)) → P t (tokens next text t)
      by t none e ih = subst (P t) (sym (tokens_stop t e)) (stop t e)
      by t (some a) e ih =
          subst (P t) (sym (tokens_step t a e (omega (arith, room t a e, long a)) (long a)))
          (step t a (tokens next text (drop (length (text a)) t)) e (ih (drop (length (text a)) t) (omega (arith, length-drop (length (text a)) t, long a, room t a e))))

      within : (n : ℕ) (t : List ℕ) → length t < n → P t (tokens next text t)
      within zero t l = absurd (omega arith)
      within (suc n) t l = by t (next t) refl (λ u m. within n u (omega arith))

      pub tokens_all : (t : List ℕ) → P t (tokens next text t)
      tokens_all t = within (suc (length t)) t (omega arith)

    -- the text begins with its tokens
    pub tokens_front : (t : List ℕ) → starts (joined (map text (tokens next text t))) t ≡ true
    unfolding joined starts
    tokens_front =
        tokens_all (λ t xs. starts (joined (map text xs)) t ≡ true) (λ t e. refl)
        (λ t a xs e h. starts_append (text a) (joined (map text xs)) t ∙ and_in (sound t a e) h)

    -- each token has what a token in front has
    pub tokens_every : (f : A → Bool) → ((t : List ℕ) (a : A) → next t ≡ some a → f a ≡ true) → (t : List ℕ) → every f (tokens next text t) ≡ true
    tokens_every f g = tokens_all (λ t xs. every f xs ≡ true) (λ t e. every_nil f) (λ t a xs e h. every_cons f a xs (g t a e) h)

  -- tokens that are read back one by one are read back
  pub tokens_back : (f : A → Bool) → ((a : A) → 0 < length (text a)) → ((a : A) (r : List ℕ) → f a ≡ true → next (text a ++ r) ≡ some a)
      → (xs : List A) (r : List ℕ) → every f xs ≡ true → next r ≡ none → tokens next text (joined (map text xs) ++ r) ≡ xs
  unfolding joined
  tokens_back f long back [] r h e = tokens_stop r e
  tokens_back f long back (a ∷ xs) r h e =
      ap (tokens next text) (append_assoc (text a) (joined (map text xs)) r)
      ∙ tokens_step (text a ++ (joined (map text xs) ++ r)) a (back a (joined (map text xs) ++ r) (every_0 f a xs h))
      (omega (arith, length-append (text a) (joined (map text xs) ++ r), long a)) (long a)
      ∙ ap (λ (ys : List A). a ∷ ys) (ap (tokens next text) (drop-append_seam (text a) (joined (map text xs) ++ r)) ∙ tokens_back f long back xs r (every_1 f a xs h) e)
