-- A row put into the session is read back, and every other row stays.
use Prim.Native.Nat.{ℕ, ◌+◌, ◌-◌, ◌*◌, ◌≤◌, ◌<◌}
use mathlib.Core.Path.{◌≡◌, sym, ap, ◌∙◌}
use mathlib.Core.Logic.{◌≢◌}
use mathlib.Core.List.{List, ◌++◌, append_assoc}
use native.Mathlib.Omega.{arith}
use native.Mathlib.Nat.{add-sub_cancel_left}
use native.Mathlib.Decide.{dec_lt}
use lib.ListN.{length, take, drop, length-take, length-drop, length-append, take-append-drop}
use lib.Seq.{take_at, drop_at, take-append-le, drop-append-le, drop-append-add, drop-drop, length-take-le}
use borrow.Rule.Slice.PartMut.{put_mid, same_len_mid}
use Rattle.image.specs.Limits.{container_limit, user_limit}
use Rattle.session.specs.Limits.{session_length, row_width, user_width, users_at}
use Rattle.session.specs.Rows.{container_row, user_row, put_row}

-- ---- numbers put over a part of a list

module _ (s : List ℕ) (a k : ℕ) (ws : List ℕ) (e : length ws ≡ k) (fits : a + k ≤ length s) where
  head_length : length (take a s) ≡ a
  head_length = length-take-le a s (omega arith)

  mid_length : length (put_mid a k s ws) ≡ length s
  mid_length = same_len_mid a k s ws (omega (arith, length-take k (drop a s), length-drop a s))

  mid_same : take k (drop a (put_mid a k s ws)) ≡ ws
  mid_same = ap (take k) (drop_at (take a s) (ws ++ drop k (drop a s)) a head_length) ∙ take_at ws (drop k (drop a s)) k e

  below : (b n : ℕ) → b + n ≤ a → (z : List ℕ) → take n (drop b (take a s ++ z)) ≡ take n (drop b (take a s))
  below b n h z =
      ap (take n) (drop-append-le b (take a s) z (omega (arith, head_length)))
      ∙ take-append-le n (drop b (take a s)) z (omega (arith, head_length, length-drop b (take a s)))

  mid_below : (b n : ℕ) → b + n ≤ a → take n (drop b (put_mid a k s ws)) ≡ take n (drop b s)
  mid_below b n h =
      below b n h (ws ++ drop k (drop a s))
      ∙ sym (ap (λ (l : List ℕ). take n (drop b l)) (sym (take-append-drop a s)) ∙ below b n h (drop a s))

  mid_above : (b n : ℕ) → a + k ≤ b → take n (drop b (put_mid a k s ws)) ≡ take n (drop b s)
  mid_above b n h =
      let j : ℕ = b - (a + k) in
      let lk : length (take a s ++ ws) + (b - (a + k)) ≡ b = omega (arith, length-append (take a s) ws, head_length) in
      let bk : a + k + (b - (a + k)) ≡ b = omega arith in
      ap (take n)
      (ap (drop b) (sym (append_assoc (take a s) ws (drop k (drop a s))))
      ∙ ap (λ (m : ℕ). drop m ((take a s ++ ws) ++ drop k (drop a s))) (sym lk)
      ∙ drop-append-add (take a s ++ ws) (drop k (drop a s)) (b - (a + k))
      ∙ ap (drop (b - (a + k))) (drop-drop k a s)
      ∙ drop-drop (b - (a + k)) (a + k) s
      ∙ ap (λ (m : ℕ). drop m s) bk)

-- ---- rows of a session

pub container_row_length : (s : List ℕ) (c : ℕ) → length s ≡ session_length → c < container_limit → length (container_row s c) ≡ row_width
unfolding container_row
container_row_length s c l h = omega (arith, length-take row_width (drop (c * row_width) s), length-drop (c * row_width) s)

pub user_row_length : (s : List ℕ) (u : ℕ) → length s ≡ session_length → u < user_limit → length (user_row s u) ≡ user_width
unfolding user_row
user_row_length s u l h = omega (arith, length-take user_width (drop (users_at + u * user_width) s), length-drop (users_at + u * user_width) s)

module _ (s : List ℕ) (c : ℕ) (ws : List ℕ) (l : length s ≡ session_length) (h : c < container_limit) (e : length ws ≡ row_width) where
  fits : c * row_width + row_width ≤ length s
  fits = omega arith

  pub put_length : length (put_row s c ws) ≡ length s
  unfolding put_row
  put_length = mid_length s (c * row_width) row_width ws e fits

  pub put_same : container_row (put_row s c ws) c ≡ ws
  unfolding container_row put_row
  put_same = mid_same s (c * row_width) row_width ws e fits

  pub put_other : (d : ℕ) → d ≢ c → container_row (put_row s c ws) d ≡ container_row s d
  unfolding container_row put_row
  put_other d n = by (dec_lt d c)
    where
      by : Dec (d < c) → take row_width (drop (d * row_width) (put_mid (c * row_width) row_width s ws)) ≡ take row_width (drop (d * row_width) s)
      by (yes b) = mid_below s (c * row_width) row_width ws e fits (d * row_width) row_width (omega arith)
      by (no b) = mid_above s (c * row_width) row_width ws e fits (d * row_width) row_width (omega arith)

  pub put_user : (u : ℕ) → user_row (put_row s c ws) u ≡ user_row s u
  unfolding user_row put_row
  put_user u = mid_above s (c * row_width) row_width ws e fits (users_at + u * user_width) user_width (omega arith)

-- a row put back as it was
pub put_back : (s : List ℕ) (c : ℕ) → put_row s c (container_row s c) ≡ s
unfolding container_row put_row
put_back s c = ap (λ (x : List ℕ). take (c * row_width) s ++ x) (take-append-drop row_width (drop (c * row_width) s)) ∙ take-append-drop (c * row_width) s

-- ---- rows as they are lent

pub row_lent : (s : List ℕ) (c : ℕ) → take (c * row_width + row_width - c * row_width) (drop (c * row_width) s) ≡ container_row s c
unfolding container_row
row_lent s c = rw add-sub_cancel_left

pub row_returned : (s : List ℕ) (c : ℕ) (ws : List ℕ) → put_mid (c * row_width) (c * row_width + row_width - c * row_width) s ws ≡ put_row s c ws
unfolding put_row
row_returned s c ws = rw add-sub_cancel_left

pub user_lent : (s : List ℕ) (u : ℕ) → take (users_at + u * user_width + user_width - (users_at + u * user_width)) (drop (users_at + u * user_width) s) ≡ user_row s u
unfolding user_row
user_lent s u = rw add-sub_cancel_left
