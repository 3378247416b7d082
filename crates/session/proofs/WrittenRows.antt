-- A row as the start writes it.
use Prim.Native.Nat.{ℕ, ◌+◌, ◌*◌, ◌%◌, ◌^◌, ◌≤◌, ◌<◌}
use mathlib.Core.Path.{◌≡◌, ap, ap₂, ◌∙◌}
use mathlib.Core.Bool.{true, ◌||◌}
use mathlib.Core.List.{List, [], ◌∷◌, ◌++◌, append-nil}
use mathlib.Core.Logic.{⊎_elim}
use native.Mathlib.Omega.{arith}
use lib.Dec.{eqb, ltb}
use lib.Pow.{pow-lt}
use lib.ListN.{length, take, drop, set, length-append, length-set, length-take, length-drop, drop_of_length-le}
use lib.Seq.{take_at, drop_at, drop-drop, drop-cons, get_or-set_same}
use borrow.Author.Tests.{eqb-true, ltb-true, eq-eqb, ne_eqb}
use borrow.Rule.Slice.PartMut.{put_mid}
use Rattle.lists.proofs.Bools.{or_cases}
use Rattle.rules.specs.Answers.{data_width, tag_width, mixture_limit}
use Rattle.image.specs.Limits.{no_atom}
use Rattle.session.specs.Limits.{row_width, user_width, kind_at, tag_at, permit_at, run_at, behalf_at, declared_at, user_rule_at, declared}
use Rattle.rule_words.specs.Words.{rule_width, words_of}
use Rattle.session.specs.Rows.{user_words}
use Rattle.session.specs.Session.{start_tag}
use Rattle.rule_words.proofs.WordLaws.{words_nine}

-- ---- a container row: on whose behalf, which is put first, then kind, tag and two rules

-- the row with its first two numbers and its last
abbrev numbered : List ℕ → ℕ → ℕ → ℕ → List ℕ
numbered row b k t = set (set (set row behalf_at b) kind_at k) tag_at t

numbered_length : (row : List ℕ) (b k t : ℕ) → length (numbered row b k t) ≡ length row
numbered_length row b k t = length-set (set (set row behalf_at b) kind_at k) tag_at t ∙ length-set (set row behalf_at b) kind_at k ∙ length-set row behalf_at b

pub lent_permit : (row : List ℕ) (b k t : ℕ) → length row ≡ row_width → length (take rule_width (drop permit_at (numbered row b k t))) ≡ rule_width
lent_permit row b k t h =
    omega (arith, length-take rule_width (drop permit_at (numbered row b k t)), length-drop permit_at (numbered row b k t), numbered_length row b k t)

-- the last number stands alone behind the rules
behalf_put : (row : List ℕ) (b : ℕ) → length row ≡ row_width → drop behalf_at (set row behalf_at b) ≡ b ∷ []
behalf_put row b h =
    let l : behalf_at < length (set row behalf_at b) = omega (arith, length-set row behalf_at b) in
    drop-cons (set row behalf_at b) behalf_at 0 l
    ∙ ap₂ (λ (n : ℕ) (x : List ℕ). n ∷ x) (get_or-set_same row behalf_at b 0 (omega arith)) (drop_of_length-le (set row behalf_at b) {i = row_width} (omega (arith, length-set row behalf_at b)))

-- two rules are put into a row
rules_put : (row p q : List ℕ) (k t : ℕ) → length row ≡ row_width → length p ≡ rule_width
    → put_mid run_at rule_width (put_mid permit_at rule_width (set (set row kind_at k) tag_at t) p) q ≡ k ∷ t ∷ (p ++ (q ++ drop behalf_at row))
rules_put [] p q k t l e = absurd (omega arith)
rules_put (a ∷ []) p q k t l e = absurd (omega arith)
rules_put (a ∷ b ∷ row) p q k t l e =
    let f : drop rule_width (drop rule_width (p ++ drop rule_width row)) ≡ drop (rule_width + rule_width) row =
    ap (drop rule_width) (drop_at p (drop rule_width row) rule_width e) ∙ drop-drop rule_width rule_width row in
    ap₂ (λ (x y : List ℕ). k ∷ t ∷ (x ++ (q ++ y))) (take_at p (drop rule_width row) rule_width e) f

permit_put : (row p : List ℕ) (k t : ℕ) → length row ≡ row_width → length p ≡ rule_width → length (put_mid permit_at rule_width (set (set row kind_at k) tag_at t) p) ≡ row_width
permit_put [] p k t l e = absurd (omega arith)
permit_put (a ∷ []) p k t l e = absurd (omega arith)
permit_put (a ∷ b ∷ row) p k t l e = omega (arith, length-append p (drop rule_width row), length-drop rule_width row)

module _ (row p : List ℕ) (b k t : ℕ) (h : length row ≡ row_width) (e : length p ≡ rule_width) where
  pub row_mid : length (put_mid permit_at rule_width (numbered row b k t) p) ≡ row_width
  row_mid = permit_put (set row behalf_at b) p k t (length-set row behalf_at b ∙ h) e

  pub lent_run : length (take rule_width (drop run_at (put_mid permit_at rule_width (numbered row b k t) p))) ≡ rule_width
  lent_run =
      omega (arith, length-take rule_width (drop run_at (put_mid permit_at rule_width (numbered row b k t) p)), length-drop run_at (put_mid permit_at rule_width (numbered row b k t) p), row_mid)

  pub row_put : (q : List ℕ) → put_mid run_at rule_width (put_mid permit_at rule_width (numbered row b k t) p) q ≡ k ∷ t ∷ (p ++ (q ++ (b ∷ [])))
  row_put q =
      rules_put (set row behalf_at b) p q k t (length-set row behalf_at b ∙ h) e ∙ ap (λ (x : List ℕ). k ∷ t ∷ (p ++ (q ++ x))) (behalf_put row b h)

  pub row_long : (q : List ℕ) → length q ≡ rule_width → length (put_mid run_at rule_width (put_mid permit_at rule_width (numbered row b k t) p) q) ≡ length row
  row_long q f = ap length (row_put q) ∙ omega (arith, length-append p (q ++ (b ∷ [])), length-append q (b ∷ []))

-- ---- a user row: that it is declared, and a rule

pub user_put : (row ws rule : List ℕ) → length row ≡ user_width → ws ≡ words_of rule → put_mid user_rule_at rule_width (set row declared_at declared) ws ≡ user_words rule
unfolding user_words
user_put [] ws rule h e = absurd (omega arith)
user_put (x ∷ row) ws rule h e =
    ap₂ (λ (a b : List ℕ). declared ∷ (a ++ b)) e (drop_of_length-le row {i = rule_width} (omega arith)) ∙ ap (λ (a : List ℕ). declared ∷ a) (append-nil (words_of rule))

pub user_long : (row ws rule : List ℕ) → length row ≡ user_width → ws ≡ words_of rule → length rule ≤ mixture_limit
    → length (put_mid user_rule_at rule_width (set row declared_at declared) ws) ≡ length row
unfolding user_words
user_long row ws rule h e l = ap length (user_put row ws rule h e) ∙ omega (arith, words_nine rule l)

-- ---- tags

pub tag_none : (a : ℕ) → a ≡ no_atom → 0 ≡ start_tag a
unfolding start_tag
tag_none a e = rw (eq-eqb a no_atom e)

pub atom_small : (a : ℕ) → (ltb a data_width || eqb a no_atom) ≡ true → (a ≡ no_atom → ⊥) → a < data_width
atom_small a h d = ⊎_elim (λ p. ltb-true a data_width p) (λ p. absurd (d (eqb-true a no_atom p))) (or_cases (ltb a data_width) h)

pub tag_some : (a : ℕ) → a < data_width → (a ≡ no_atom → ⊥) → 1 * 2 ^ a % 2 ^ tag_width ≡ start_tag a
unfolding start_tag
tag_some a l d = rw (ne_eqb a no_atom d) (let p : 2 ^ a < 2 ^ data_width = pow-lt l in omega arith)
