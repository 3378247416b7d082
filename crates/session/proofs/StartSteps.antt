-- The start, step by step: the sections of an image that is not refused, the two parts of the session, the answers.
use Prim.Native.Nat.{ℕ, zero, suc, ◌+◌, ◌-◌, ◌*◌, ◌/◌, ◌≤◌}
use mathlib.Core.Path.{◌≡◌, refl, sym, ap, ap₂, ◌∙◌}
use mathlib.Core.Bool.{true}
use mathlib.Core.List.{List, [], ◌∷◌, ◌++◌, map, append-nil}
use native.Mathlib.Omega.{arith}
use lib.ListN.{length, take, drop, replicate, length-replicate, drop_of_length-le}
use lib.Seq.{take_at, drop_at, drop-drop}
use borrow.Author.Tests.{eq-eqb, ne_eqb}
use borrow.Rule.Slice.PartMut.{put_mid}
use Rattle.image.specs.Limits.{container_limit, user_limit, container_size, user_size, rule_size}
use Rattle.image.specs.Image.{part, containers_in, users_in, rules_in, policy_in, check_of}
use Rattle.image.specs.Normal.{place_of, normal_at, meaning}
use Rattle.rule_words.proofs.ZeroLaws.{drop_zeros}
use Rattle.session.specs.Limits.{session_length, row_width, user_width, users_at}
use Rattle.session.specs.Rows.{user_words}
use Rattle.session.specs.Session.{filled, place_words, session_of, start_of, session_length_good, start_answer, start_effect}
use Rattle.answers.specs.Refusals.{lent_length}
use Rattle.lists.specs.Lists.{every}
use Rattle.image.specs.Policy.{named, container_good}
use Rattle.image.proofs.AcceptedImage.{accepted_spans, accepted_containers, accepted_users, few_containers_lem, few_users_lem}
use Rattle.session.proofs.StartRefusals.{length_good, refused_9, length_passed}
use Rattle.session.proofs.RowsOfOneWidth.{filled_length}
use Rattle.session.proofs.RecordRows.{containers_wide}

-- ---- the container rows and the user rows of an image

unfoldable pub rows_part : List ℕ → List ℕ
rows_part i = filled row_width container_limit (map place_words (map (place_of (rules_in (part i 2) (part i 3))) (containers_in (part i 0))))

unfoldable pub users_part : List ℕ → List ℕ
users_part i = filled user_width user_limit (map user_words (map (normal_at (rules_in (part i 2) (part i 3))) (users_in (part i 1))))

pub rows_part_length : (i : List ℕ) → check_of i ≡ 0 → length (rows_part i) ≡ users_at
unfolding rows_part
rows_part_length i h =
    filled_length row_width container_limit (map place_words (map (place_of (rules_in (part i 2) (part i 3))) (containers_in (part i 0))))
    (containers_wide (part i 0) (part i 2) (part i 3) (accepted_containers i h) (accepted_spans i h))

-- the sections as they are lent: s holds the containers or users, r the rules, m the mixtures
module _ (i r m : List ℕ) (e : r ≡ part i 2) (f : m ≡ part i 3) where
  module _ (h : check_of i ≡ 0) where
    pub containers_lent : (s : List ℕ) → s ≡ part i 0 → (length s / container_size ≤ container_limit) × (every (container_good (length r / rule_size)) (containers_in s) ≡ true)
    containers_lent s g = rw (e, g) (few_containers_lem i h, accepted_containers i h)

    pub users_lent : (s : List ℕ) → s ≡ part i 1 → (length s / user_size ≤ user_limit) × (every (named (length r / rule_size)) (users_in s) ≡ true)
    users_lent s g = rw (e, g) (few_users_lem i h, accepted_users i h)

  pub rows_read : (s a : List ℕ) → s ≡ part i 0 → a ≡ filled row_width container_limit (map place_words (map (place_of (rules_in r m)) (containers_in s))) → a ≡ rows_part i
  unfolding rows_part
  rows_read s a g h = rw (e, f, g) at h

  pub users_read : (s a : List ℕ) → s ≡ part i 1 → a ≡ filled user_width user_limit (map user_words (map (normal_at (rules_in r m)) (users_in s))) → a ≡ users_part i
  unfolding users_part
  users_read s a g h = rw (e, f, g) at h

-- ---- two parts, put in place

take_zeros : (k n : ℕ) → k ≤ n → ◌≡◌ {A = List ℕ} (take k (replicate n 0)) (replicate k 0)
take_zeros zero n l = refl
take_zeros (suc k) zero l = absurd (omega arith)
take_zeros (suc k) (suc n) l = ap (λ (x : List ℕ). 0 ∷ x) (take_zeros k n (omega arith))

-- z is the session when it is cleared
module _ (s z : List ℕ) (h : length s ≡ session_length) (e : z ≡ replicate (length s) 0) where
  zeros : z ≡ replicate session_length 0
  zeros = e ∙ ap (λ (k : ℕ). replicate k 0) h

  pub cleared_long : length z ≡ session_length
  cleared_long = ap length e ∙ length-replicate {A = ℕ} (length s) 0 ∙ h

  pub first_part : take users_at z ≡ replicate (container_limit * row_width) 0
  first_part = ap (take users_at) zeros ∙ take_zeros users_at session_length (omega arith)

  pub second_part : (a : List ℕ) → length a ≡ users_at → take (session_length - users_at) (drop users_at (a ++ drop users_at z)) ≡ replicate (user_limit * user_width) 0
  second_part a f =
      ap (take (session_length - users_at)) (drop_at a (drop users_at z) users_at f ∙ ap (drop users_at) zeros ∙ drop_zeros users_at session_length)
      ∙ take_zeros (session_length - users_at) (session_length - users_at) (omega arith)

two_parts : (s a b : List ℕ) → length s ≡ session_length → length a ≡ users_at → put_mid users_at (session_length - users_at) (put_mid 0 users_at s a) b ≡ a ++ b
two_parts s a b h e =
    let none : drop (users_at + (session_length - users_at)) s ≡ [] = drop_of_length-le s {i = users_at + (session_length - users_at)} (omega arith) in
    let f : drop (session_length - users_at) (drop users_at (a ++ drop users_at s)) ≡ [] =
    ap (drop (session_length - users_at)) (drop_at a (drop users_at s) users_at e) ∙ drop-drop (session_length - users_at) users_at s ∙ none in
    ap₂ (λ (x y : List ℕ). x ++ (b ++ y)) (take_at a (drop users_at s) users_at e) f ∙ ap (λ (x : List ℕ). a ++ x) (append-nil b)

start_is : (i : List ℕ) → rows_part i ++ users_part i ≡ start_of (policy_in i)
unfolding start_of session_of meaning policy_in rows_part users_part
start_is i = refl

pub both_parts : (i s a b : List ℕ)
    → check_of i ≡ 0 → length s ≡ session_length → a ≡ rows_part i → b ≡ users_part i
    → put_mid users_at (session_length - users_at) (put_mid 0 users_at s a) b ≡ start_of (policy_in i)
both_parts i s a b h l e f = two_parts s a b l (ap length e ∙ rows_part_length i h) ∙ ap₂ (λ (x y : List ℕ). x ++ y) e f ∙ start_is i

-- ---- the answers

module _ (i s : List ℕ) where
  unchanged : (n : ℕ) → start_answer i s ≡ n → (n ≡ 0 → ⊥) → (n ≡ start_answer i s) × (s ≡ start_effect i s)
  unfolding start_effect
  unchanged n e d = (sym e, rw (e, ne_eqb n 0 d))

  pub wrong_length : (length s ≡ session_length → ⊥) → (lent_length ≡ start_answer i s) × (s ≡ start_effect i s)
  unfolding session_length_good
  wrong_length h = unchanged lent_length ((refused_9 i s).1 (ne_eqb (length s) session_length h)) (λ e. omega arith)

  module _ (l : length s ≡ session_length) where
    answered : start_answer i s ≡ check_of i
    answered = length_passed i s ((length_good s).1 l)

    pub refused_image : (r : ℕ) → r ≡ check_of i → (r ≡ 0 → ⊥) → (r ≡ start_answer i s) × (s ≡ start_effect i s)
    refused_image r e d = unchanged r (answered ∙ sym e) d

    pub started : check_of i ≡ 0 → (t : List ℕ) → t ≡ start_of (policy_in i) → (0 ≡ start_answer i s) × (t ≡ start_effect i s)
    unfolding start_effect
    started e t f = (sym (answered ∙ e), rw (eq-eqb (start_answer i s) 0 (answered ∙ e)) f)
