-- A loop that writes rows one behind the other, and a part that is lent.
use Prim.Native.Nat.{ℕ, ◌+◌, ◌-◌, ◌≤◌, ◌<◌}
use mathlib.Core.Path.{◌≡◌, refl, sym, ap, ap₂, ◌∙◌}
use mathlib.Core.List.{List, [], ◌++◌, append_assoc, append-nil}
use native.Mathlib.Omega.{arith}
use lib.ListN.{length, get_or, take, drop, length-append, length-take, length-drop, drop_of_length-le}
use lib.Seq.{take_all, take_at, drop_at, drop-drop, length-take-le}
use borrow.Rule.Slice.PartMut.{put_mid}
use Rattle.lists.specs.Lists.{joined}
use Rattle.lists.proofs.Joined.{joined_more, joined_part}
use Rattle.fields.specs.Writing.{overwritten, Wrote}
use Rattle.fields.proofs.WritingLaws.{wrote_none, wrote_join, wrote_as, wrote_length}

-- the first i rows are written from start on, and at is the place behind them
pub record RowsWritten (rows : List (List ℕ)) (before : List ℕ) (start : ℕ) (out : List ℕ) (at i : ℕ) : Type 0 where
  pub place : i ≤ length rows
  pub room : start + length (joined rows) ≤ length before
  pub long : length out ≡ length before
  pub wrote : Wrote (joined (take i rows)) before out start at

pub rows_start : (rows : List (List ℕ)) (before : List ℕ) (start : ℕ) → start + length (joined rows) ≤ length before → RowsWritten rows before start before start 0
unfolding joined
rows_start rows before start h = record { place = omega arith; room = h; long = refl; wrote = wrote_none start before }

module _ {rows : List (List ℕ)} {before : List ℕ} {start : ℕ} {out : List ℕ} {at i : ℕ} (g : RowsWritten rows before start out at i) where
  -- there is room for one row more
  pub rows_room : i < length rows → at + length (get_or rows i []) ≤ length out
  rows_room l =
      omega (
        arith,
        g.wrote.ends,
        g.room,
        g.long,
        joined_part (i + 1) rows,
        ap length (joined_more rows i l),
        length-append (joined (take i rows)) (get_or rows i []),
      )

  pub rows_next : i < length rows → {r after : List ℕ} {next : ℕ} → r ≡ get_or rows i [] → Wrote r out after at next → RowsWritten rows before start after next (i + 1)
  rows_next l {r} {after} {next} e w =
      let q : Wrote (get_or rows i []) out after at next = wrote_as e w in
      record {
        place = omega arith;
        room = g.room;
        long = wrote_length (rows_room l) q ∙ g.long;
        wrote = wrote_as (sym (joined_more rows i l)) (wrote_join (omega (arith, g.room)) g.wrote q);
      }

  pub rows_end : length rows ≤ i → Wrote (joined rows) before out start at
  rows_end l = wrote_as (ap joined (take_all i rows l)) g.wrote

-- a part of w numbers that is lent and written whole
pub part_long : (out : List ℕ) (at w : ℕ) → at + w ≤ length out → length (take (at + w - at) (drop at out)) ≡ w
part_long out at w h =
    let e : at + w - at ≡ w = omega arith in
    omega (arith, length-take (at + w - at) (drop at out), length-drop at out)

pub part_wrote : (out r : List ℕ) (at w : ℕ) → length r ≡ w → Wrote r out (put_mid at (at + w - at) out r) at (at + w)
unfolding overwritten
part_wrote out r at w e =
    let n : at + w - at ≡ length r = omega arith in
    record {
      buffer =
          ap (λ (k : ℕ). take at out ++ (r ++ drop k (drop at out))) n
          ∙ ap (λ (x : List ℕ). take at out ++ (r ++ x)) (drop-drop (length r) at out)
          ∙ sym (append_assoc (take at out) r (drop (at + length r) out));
      ends = ap (λ (k : ℕ). at + k) (sym e);
    }

-- a front that is written behind what follows it
pub wrote_front : {x y before mid after : List ℕ} {at next : ℕ} → at + length y ≤ length before → Wrote y before mid at next → Wrote x mid after 0 at → Wrote (x ++ y) before after 0 next
unfolding overwritten
wrote_front {x} {y} {before} {mid} {after} {at} {next} h p q =
    let n : 0 + length x ≡ at = omega (arith, q.ends) in
    let t : length (take at before) ≡ at = length-take-le at before (omega arith) in
    let d : drop at mid ≡ y ++ drop (at + length y) before =
    ap (drop at) (p.buffer ∙ append_assoc (take at before) y (drop (at + length y) before)) ∙ drop_at (take at before) (y ++ drop (at + length y) before) at t in
    let k : at + length y ≡ 0 + length (x ++ y) = omega (arith, q.ends, length-append x y) in
    record {
      buffer =
          q.buffer
          ∙ ap (λ (j : ℕ). x ++ drop j mid) n
          ∙ ap (λ (l : List ℕ). x ++ l) d
          ∙ sym (append_assoc x y (drop (at + length y) before))
          ∙ ap (λ (j : ℕ). (x ++ y) ++ drop j before) k;
      ends = omega (arith, p.ends, q.ends, length-append x y);
    }

-- a buffer that is written whole
-- the front of an array that was written from its start
pub front_written : {x before after : List ℕ} {end : ℕ} → Wrote x before after 0 end → take (end - 0) after ≡ x
unfolding overwritten
front_written {x} {before} {after} {end} w =
    let e : end - 0 ≡ length x = omega (arith, w.ends) in
    ap₂ (λ (k : ℕ) (l : List ℕ). take k l) e w.buffer ∙ take_at x (drop (0 + length x) before) (length x) refl

pub wrote_whole : {x before after : List ℕ} {next : ℕ} → length before ≡ length x → Wrote x before after 0 next → after ≡ x
unfolding overwritten
wrote_whole {x} {before} e w =
    w.buffer ∙ ap (λ (l : List ℕ). x ++ l) (drop_of_length-le before {i = 0 + length x} (omega arith)) ∙ append-nil x
