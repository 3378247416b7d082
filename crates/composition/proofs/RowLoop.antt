-- The rows of uses one behind the other, as long as each rule fits.
use Prim.Native.Nat.{ℕ, ◌+◌, ◌-◌, ◌*◌, ◌≤◌, ◌<◌}
use mathlib.Core.Path.{◌≡◌, refl, sym, ap, ap₂, ◌∙◌}
use mathlib.Core.Bool.{Bool, true, false}
use mathlib.Core.List.{List, [], ◌++◌, map}
use native.Mathlib.Omega.{arith}
use native.Mathlib.Decide.{dec_lt}
use lib.ListN.{length, get_or, take, drop, length-append, length-map}
use lib.Seq.{take_at, take_all, length-take-le}
use borrow.Author.Tests.{leb-true}
use borrow.Rule.Slice.PartMut.{put_mid}
use Rattle.lists.specs.Lists.{every, joined}
use Rattle.lists.proofs.Bools.{refuted, clash}
use Rattle.lists.proofs.Every.{every_get_d}
use Rattle.lists.proofs.Joined.{joined_more}
use Rattle.lists.proofs.Places.{map_at}
use Rattle.fields.specs.Writing.{overwritten, Wrote}
use Rattle.fields.proofs.WritingLaws.{wrote_length}
use Rattle.fields.proofs.RowWriting.{part_wrote}
use Rattle.rules.specs.Answers.{mixture_limit}
use Rattle.image.specs.Normal.{Use, free_use}
use Rattle.normaliser.specs.Writer.{form_width, form_row}
use Rattle.normaliser.proofs.FormRows.{every_place}
use Rattle.composition.specs.Images.{short_use}
use Rattle.composition.specs.Tables.{UsePut, UsesPut}
use Rattle.composition.proofs.UseRows.{row_long}

-- the rows of the first k uses, each of which fits
pub record Rowing (us : List Use) (count : ℕ) (forms : List ℕ) (k : ℕ) : Type 0 where
  pub size : count ≡ length us
  pub place : k ≤ count
  pub long : length forms ≡ count * form_width
  pub fits : (j : ℕ) → j < k → short_use (get_or us j free_use) ≡ true
  pub front : take (k * form_width) forms ≡ joined (take k (map form_row us))

pub rowing_start : (us : List Use) (count : ℕ) (forms : List ℕ) → count ≡ length us → length forms ≡ count * form_width → Rowing us count forms 0
unfolding joined
rowing_start us count forms e l = record { size = e; place = omega arith; long = l; fits = λ j h. absurd (omega arith); front = refl }

module _ (us : List Use) (count : ℕ) (forms : List ℕ) (k : ℕ) (h : Rowing us count forms k) (l : k < count) where
  pub row_room : k * form_width + form_width ≤ length forms
  row_room = omega (arith, h.long)

  inside : k < length us
  inside = omega (arith, h.size)

  -- the rule of use k does not fit
  pub rowing_over : {u : Use} → u ≡ get_or us k free_use → {after : List ℕ} {b : Bool} → UsePut u after b → b ≡ false → (forms₁ : List ℕ) → UsesPut us forms₁ false
  rowing_over {u} e {after} {b} w f forms₁ =
      record {
        told =
            sym (refuted (every short_use us)
            (λ t. clash (every_get_d short_use us k free_use inside t) (ap short_use (sym e) ∙ sym w.told ∙ f)));
        rows = λ t. clash t refl;
      }

  pub rowing_next : {u : Use} → u ≡ get_or us k free_use → (x : List ℕ) {b : Bool} → UsePut u x b → b ≡ true
      → Rowing us count (put_mid (k * form_width) (k * form_width + form_width - k * form_width) forms x) (k + 1)
  rowing_next {u} e x {b} w t =
      record {
        size = h.size;
        place = omega arith;
        long = wrote_length (omega (arith, x_long, row_room)) put ∙ h.long;
        fits = by;
        front =
            ap₂ take next_place put.buffer
            ∙ unfold overwritten in (take_at (take (k * form_width) forms ++ x) (drop (k * form_width + length x) forms) (k * form_width + form_width) front_long)
            ∙ ap₂ ◌++◌ h.front x_is
            ∙ sym (joined_more (map form_row us) k (omega (arith, inside, length-map us form_row))
            ∙ ap (λ (r : List ℕ). joined (take k (map form_row us)) ++ r) (map_at form_row us k free_use [] inside));
      }
    where
      short : short_use (get_or us k free_use) ≡ true
      short = ap short_use (sym e) ∙ sym w.told ∙ t

      x_is : x ≡ form_row (get_or us k free_use)
      x_is = w.row t ∙ ap form_row e

      x_long : length x ≡ form_width
      x_long = ap length x_is ∙ row_long (get_or us k free_use) (leb-true (length (get_or us k free_use).mixtures) mixture_limit short)

      next_place : (k + 1) * form_width ≡ k * form_width + form_width
      next_place = omega arith

      front_long : length (take (k * form_width) forms ++ x) ≡ k * form_width + form_width
      front_long =
          let r : k * form_width ≤ length forms = omega (arith, row_room) in
          omega (arith, length-append (take (k * form_width) forms) x, length-take-le (k * form_width) forms r, x_long)

      put : Wrote x forms (put_mid (k * form_width) (k * form_width + form_width - k * form_width) forms x) (k * form_width) (k * form_width + form_width)
      put = part_wrote forms x (k * form_width) form_width x_long

      by : (j : ℕ) → j < k + 1 → short_use (get_or us j free_use) ≡ true
      by j m = on (dec_lt j k)
        where
          on : Dec (j < k) → short_use (get_or us j free_use) ≡ true
          on (yes i) = h.fits j i
          on (no i) = let z : j ≡ k = omega arith in ap (λ (n : ℕ). short_use (get_or us n free_use)) z ∙ short

pub rowing_end : (us : List Use) (count : ℕ) (forms : List ℕ) (k : ℕ) → Rowing us count forms k → count ≤ k → UsesPut us forms true
rowing_end us count forms k h l =
    let e : k ≡ count = omega (arith, h.place) in
    let n : length forms ≤ k * form_width = omega (arith, h.long) in
    record {
      told = sym (every_place short_use us (λ j m. h.fits j (omega (arith, h.size))));
      rows =
          λ _.
          sym (take_all (k * form_width) forms n) ∙ h.front ∙ ap joined (take_all k (map form_row us) (omega (arith, h.size, length-map us form_row)));
    }
