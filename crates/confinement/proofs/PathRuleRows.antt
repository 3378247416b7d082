-- The rows of rules one behind the other, as long as each fits; files one behind the other.
use Prim.Native.Nat.{ℕ, zero, suc, ◌+◌, ◌-◌, ◌*◌, ◌≤◌, ◌<◌}
use native.Mathlib.Omega.{arith}
use native.Mathlib.Numerals.{add-one}
use mathlib.Core.Path.{◌≡◌, refl, sym, ap, ap₂, ◌∙◌}
use mathlib.Core.Bool.{Bool, true, false}
use mathlib.Core.List.{List, [], ◌∷◌, ◌++◌, map, map-append}
use lib.ListN.{length, get_or, take, drop, replicate, length-append, length-map}
use lib.Seq.{take_at, length-take-le}
use borrow.Author.Tests.{leb-true}
use borrow.Rule.Slice.PartMut.{put_mid}
use Rattle.lists.specs.Lists.{every, joined}
use Rattle.lists.proofs.Bools.{refuted, clash}
use Rattle.lists.proofs.Every.{every_nil, every_cons, every_append, every_get_d}
use Rattle.lists.proofs.Joined.{joined_append, joined_one}
use Rattle.fields.specs.Writing.{overwritten, Wrote}
use Rattle.fields.proofs.WritingLaws.{wrote_length}
use Rattle.fields.proofs.ByteLaws.{joined_length}
use Rattle.image.proofs.Encode.{container_wide}
use Rattle.fields.proofs.RowWriting.{part_wrote, RowsWritten, rows_start, rows_room, rows_next, rows_end}
use Rattle.rules.specs.Rules.{normal}
use Rattle.rules.specs.Answers.{mixture_limit}
use Rattle.normaliser.specs.Writer.{unowned, form_width}
use Rattle.normaliser.proofs.RuleForms.{row_long}
use Rattle.image.specs.Limits.{no_owner, file_kind}
use Rattle.image.specs.Limits.{container_size}
use Rattle.image.specs.Policy.{Container}
use Rattle.image.specs.Normal.{container_bytes}
use Rattle.confinement.specs.Confinement.{files_from}
use Rattle.confinement.specs.Tables.{plain_row, forms_from, short_rule, rule_count, FormPut, FormsPut}

-- ---- lists of normal forms

forms_snoc : (f : ℕ → List ℕ) (j n : ℕ) → forms_from f j (suc n) ≡ forms_from f j n ++ (normal (f (j + n)) ∷ [])
unfolding forms_from
forms_snoc f j zero = let e : j ≡ j + 0 = omega arith in ap (λ (i : ℕ). normal (f i) ∷ []) e
forms_snoc f j (suc n) =
    let e : suc j + n ≡ j + suc n = omega arith in
    ap (λ (l : List (List ℕ)). normal (f j) ∷ l) (forms_snoc f (suc j) n ∙ ap (λ (i : ℕ). forms_from f (suc j) n ++ (normal (f i) ∷ [])) e)

pub forms_length : (f : ℕ → List ℕ) (j n : ℕ) → length (forms_from f j n) ≡ n
unfolding forms_from
forms_length f j zero = refl
forms_length f j (suc n) = ap suc (forms_length f (suc j) n)

forms_at : (f : ℕ → List ℕ) (j n i : ℕ) → i < n → get_or (forms_from f j n) i [] ≡ normal (f (j + i))
unfolding forms_from
forms_at f j zero i h = absurd (omega arith)
forms_at f j (suc n) zero h = let e : j ≡ j + 0 = omega arith in ap (λ (i : ℕ). normal (f i)) e
forms_at f j (suc n) (suc i) h =
    let e : suc j + i ≡ j + suc i = omega arith in forms_at f (suc j) n i (omega arith) ∙ ap (λ (k : ℕ). normal (f k)) e

-- ---- the loop

plain_long : (r : List ℕ) → length r ≤ mixture_limit → length (plain_row r) ≡ form_width
unfolding unowned
plain_long r h = row_long (record { owner = no_owner; mixtures = r }) h

pub record Forming (f : ℕ → List ℕ) (count : ℕ) (forms : List ℕ) (i : ℕ) : Type 0 where
  pub place : i ≤ count
  pub most : count ≤ rule_count
  pub long : length forms ≡ rule_count * form_width
  pub fits : every short_rule (forms_from f 0 i) ≡ true
  pub front : take (i * form_width) forms ≡ joined (map plain_row (forms_from f 0 i))

pub forming_start : (f : ℕ → List ℕ) (count : ℕ) (forms : List ℕ) → count ≤ rule_count → length forms ≡ rule_count * form_width → Forming f count forms 0
unfolding forms_from joined
forming_start f count forms m l = record { place = omega arith; most = m; long = l; fits = every_nil short_rule; front = refl }

module _ (f : ℕ → List ℕ) (count : ℕ) (forms : List ℕ) (i : ℕ) (h : Forming f count forms i) (l : i < count) where
  pub form_room : i * form_width + form_width ≤ length forms
  form_room = omega (arith, h.long, h.most)

  -- the i-th does not fit
  pub forming_over : {before after : List ℕ} {b : Bool} → FormPut (f i) before after b → b ≡ false → every short_rule (forms_from f 0 count) ≡ false
  forming_over w e =
      refuted (every short_rule (forms_from f 0 count))
      (λ t. clash (rw (forms_at f 0 count i l, zero_i) at (every_get_d short_rule (forms_from f 0 count) i [] (omega (arith, forms_length f 0 count)) t)) (sym w.told ∙ e))
    where
      zero_i : 0 + i ≡ i
      zero_i = omega arith

  pub forming_next : (x : List ℕ) {before : List ℕ} {b : Bool} → FormPut (f i) before x b → b ≡ true
      → Forming f count (put_mid (i * form_width) (i * form_width + form_width - i * form_width) forms x) (i + 1)
  forming_next x {before} {b} w e =
      record {
        place = omega arith;
        most = h.most;
        long = wrote_length (omega (arith, x_long, form_room)) put ∙ h.long;
        fits =
            rw (add-one i, forms_snoc f 0 i, zero_i)
            (every_append short_rule (forms_from f 0 i) (normal (f i) ∷ []) h.fits
            (every_cons short_rule (normal (f i)) [] (sym w.told ∙ e) (every_nil short_rule)));
        front =
            ap₂ take next_place put.buffer
            ∙ unfold overwritten in (take_at (take (i * form_width) forms ++ x) (drop (i * form_width + length x) forms) (i * form_width + form_width) front_long)
            ∙ ap₂ ◌++◌ h.front x_is
            ∙ sym rows;
      }
    where
      zero_i : 0 + i ≡ i
      zero_i = omega arith

      x_is : x ≡ plain_row (normal (f i))
      x_is = w.words ∙ rw e

      x_long : length x ≡ form_width
      x_long = ap length x_is ∙ plain_long (normal (f i)) (leb-true (length (normal (f i))) mixture_limit (sym w.told ∙ e))

      next_place : (i + 1) * form_width ≡ i * form_width + form_width
      next_place = omega arith

      front_long : length (take (i * form_width) forms ++ x) ≡ i * form_width + form_width
      front_long =
          let r : i * form_width ≤ length forms = omega (arith, form_room) in
          omega (arith, length-append (take (i * form_width) forms) x, length-take-le (i * form_width) forms r, x_long)

      rows : joined (map plain_row (forms_from f 0 (i + 1))) ≡ joined (map plain_row (forms_from f 0 i)) ++ plain_row (normal (f i))
      rows =
          ap (λ (n : ℕ). joined (map plain_row (forms_from f 0 n))) (add-one i)
          ∙ ap (λ (l : List (List ℕ)). joined (map plain_row l)) (forms_snoc f 0 i ∙ ap (λ (k : ℕ). forms_from f 0 i ++ (normal (f k) ∷ [])) zero_i)
          ∙ ap joined (map-append plain_row (forms_from f 0 i) (normal (f i) ∷ []))
          ∙ joined_append (map plain_row (forms_from f 0 i)) (plain_row (normal (f i)) ∷ [])
          ∙ ap (λ (l : List ℕ). joined (map plain_row (forms_from f 0 i)) ++ l) (joined_one (plain_row (normal (f i))))

      put : Wrote x forms (put_mid (i * form_width) (i * form_width + form_width - i * form_width) forms x) (i * form_width) (i * form_width + form_width)
      put = part_wrote forms x (i * form_width) form_width x_long

pub forming_end : (f : ℕ → List ℕ) (count : ℕ) (forms : List ℕ) (i : ℕ) → Forming f count forms i → count ≤ i → FormsPut f count forms true
forming_end f count forms i h l =
    let e : i ≡ count = omega (arith, h.place) in
    record { told = sym (rw e at h.fits); words = λ t. rw e at h.front }

pub forming_stop : (f : ℕ → List ℕ) (count : ℕ) (forms : List ℕ) → every short_rule (forms_from f 0 count) ≡ false → FormsPut f count forms false
forming_stop f count forms e = record { told = sym e; words = λ t. clash t refl }

-- ---- files

abbrev pub file : ℕ → Container
file k = record { kind = file_kind; atom = k; permit = 2 * k; run = 2 * k + 1 }

pub files_same : (k : ℕ) (qs : List (List ℕ)) → files_from k qs ≡ files_from k (replicate (length qs) [])
unfolding files_from
files_same k [] = refl
files_same k (q ∷ qs) = ap (λ (l : List Container). file k ∷ l) (files_same (suc k) qs)

files_count : (k n : ℕ) → length (files_from k (replicate n [])) ≡ n
unfolding files_from
files_count k zero = refl
files_count k (suc n) = ap suc (files_count (suc k) n)

files_at : (k n i : ℕ) → i < n → get_or (map container_bytes (files_from k (replicate n []))) i [] ≡ container_bytes (file (k + i))
unfolding files_from
files_at k zero i h = absurd (omega arith)
files_at k (suc n) zero h = let e : k ≡ k + 0 = omega arith in ap (λ (j : ℕ). container_bytes (file j)) e
files_at k (suc n) (suc i) h =
    let e : suc k + i ≡ k + suc i = omega arith in files_at (suc k) n i (omega arith) ∙ ap (λ (j : ℕ). container_bytes (file j)) e

abbrev pub file_rows : ℕ → List (List ℕ)
file_rows n = map container_bytes (files_from 0 (replicate n []))

pub files_size : (n : ℕ) → length (joined (file_rows n)) ≡ n * container_size
files_size n = joined_length container_size container_bytes container_wide (files_from 0 (replicate n [])) ∙ ap (λ (k : ℕ). k * container_size) (files_count 0 n)

pub files_start : (n : ℕ) (out : List ℕ) → n * container_size ≤ length out → RowsWritten (file_rows n) out 0 out 0 0
files_start n out h = rows_start (file_rows n) out 0 (omega (arith, files_size n))

module _ {n : ℕ} {before out : List ℕ} {at k : ℕ} (g : RowsWritten (file_rows n) before 0 out at k) where
  pub files_room : k < n → at + container_size ≤ length out
  files_room l =
      omega (
        arith,
        rows_room g (omega (arith, length-map (files_from 0 (replicate n [])) container_bytes, files_count 0 n)),
        ap length (files_at 0 n k l),
        container_wide (file (0 + k)),
      )

  pub files_next : k < n → {after : List ℕ} {next : ℕ} → Wrote (container_bytes (file k)) out after at next → RowsWritten (file_rows n) before 0 after next (k + 1)
  files_next l w =
      let z : 0 + k ≡ k = omega arith in
      rows_next g (omega (arith, length-map (files_from 0 (replicate n [])) container_bytes, files_count 0 n)) (sym (files_at 0 n k l ∙ ap (λ (j : ℕ). container_bytes (file j)) z)) w

  pub files_end : n ≤ k → Wrote (joined (file_rows n)) before out 0 at
  files_end l = rows_end g (omega (arith, length-map (files_from 0 (replicate n [])) container_bytes, files_count 0 n))
