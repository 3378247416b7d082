-- The cases of `derive`: a short output, a malformed matrix, and a matrix whose policy goes to the writer.
use Prim.Native.Nat.{ℕ, ◌+◌, ◌-◌, ◌*◌, ◌≤◌, ◌<◌}
use mathlib.Core.Path.{◌≡◌, refl, sym, ap, ap₂, ◌∙◌}
use mathlib.Core.Bool.{true, false}
use mathlib.Core.List.{List, [], ◌++◌, map, map-append}
use native.Mathlib.Omega.{arith}
use lib.Dec.{leb}
use lib.ListN.{length, take, drop, replicate, length-append, length-replicate, replicate-append-replicate}
use lib.Seq.{take_at}
use borrow.Author.Tests.{le-leb, lt-leb}
use borrow.Rule.Slice.PartMut.{put_mid}
use Rattle.lists.specs.Lists.{joined}
use Rattle.lists.specs.Conditions.{first_failed, ◌or_refuse◌}
use Rattle.lists.proofs.Conditions.{passed, failed, none_left}
use Rattle.lists.proofs.Joined.{joined_append, joined_one}
use Rattle.answers.specs.Refusals.{matrix, lent_length}
use Rattle.fields.specs.Bytes.{bytes_of}
use Rattle.fields.specs.Writing.{Wrote}
use Rattle.fields.proofs.WritingLaws.{wrote_join}
use Rattle.fields.proofs.RowWriting.{wrote_whole, front_written}
use Rattle.fields.proofs.ByteLaws.{bytes_length}
use Rattle.image.specs.Limits.{unrestricted_number, container_size, user_size, output_bound}
use Rattle.image.specs.Policy.{Container, Sound}
use Rattle.image.specs.Normal.{container_bytes}
use Rattle.normaliser.specs.Writer.{unowned, form_width, form_words, policy_at, Tabled, Answered}
use Rattle.normaliser.proofs.WriterLaws.{producer_tabled, producer_wrote, normal_short}
use Rattle.normaliser.proofs.WrittenAnswers.{refused_answer, refused_effect, wrote_answer}
use Rattle.matrix.specs.Flows.{matrix_good}
use Rattle.matrix.proofs.GoodLaws.{good_parts}
use Rattle.derivation.specs.Derived.{subject_process, derived_policy, derived_image, derived_conditions, derived_answer, derived_effect}
use Rattle.derivation.proofs.DerivedLaws.{derived_none, derived_sound}
use Rattle.derivation.proofs.ContainerRows.{object_files, objects_count, containers_size}
use Rattle.derivation.proofs.PermitWords.{permits, permits_size}

module _ (reads writes : List ℕ) (n : ℕ) (out : List ℕ) where
  -- ---- the refusals

  abbrev refusal : ℕ
  refusal = first_failed (derived_conditions reads writes n out)

  pub refusal_short : length out < output_bound → refusal ≡ lent_length
  unfolding derived_conditions
  refusal_short h = failed (leb output_bound (length out) or_refuse lent_length) _ (lt-leb output_bound (length out) h)

  pub refusal_matrix : output_bound ≤ length out → matrix_good reads writes n ≡ false → refusal ≡ matrix
  unfolding derived_conditions
  refusal_matrix h g =
      passed (leb output_bound (length out) or_refuse lent_length) _ (le-leb output_bound (length out) h)
      ∙ failed (matrix_good reads writes n or_refuse matrix) [] g

  pub refusal_none : output_bound ≤ length out → matrix_good reads writes n ≡ true → refusal ≡ 0
  unfolding derived_conditions
  refusal_none h g =
      passed (leb output_bound (length out) or_refuse lent_length) _ (le-leb output_bound (length out) h)
      ∙ passed (matrix_good reads writes n or_refuse matrix) [] g ∙ none_left

  refused : {r : ℕ} → refusal ≡ r → (r ≡ 0 → ⊥) → (r ≡ derived_answer reads writes n out) × (out ≡ derived_effect reads writes n out)
  unfolding derived_answer derived_effect
  refused {r} e d = (
    sym (refused_answer refusal (derived_image reads writes n) out (λ z. d (sym e ∙ z)) ∙ e),
    sym (refused_effect refusal (derived_image reads writes n) out (λ z. d (sym e ∙ z))),
  )

  pub derive_short : length out < output_bound → (lent_length ≡ derived_answer reads writes n out) × (out ≡ derived_effect reads writes n out)
  derive_short h = refused (refusal_short h) (λ z. omega arith)

  pub derive_refused : output_bound ≤ length out → matrix_good reads writes n ≡ false → (matrix ≡ derived_answer reads writes n out) × (out ≡ derived_effect reads writes n out)
  derive_refused h g = refused (refusal_matrix h g) (λ z. omega arith)

  pub derive_done : output_bound ≤ length out → matrix_good reads writes n ≡ true → {r : ℕ} {after : List ℕ} → Wrote (derived_image reads writes n) out after 0 r
      → (r ≡ derived_answer reads writes n out) × (after ≡ derived_effect reads writes n out)
  unfolding derived_answer derived_effect
  derive_done h g w = wrote_answer (refusal_none h g) w

-- ---- what is handed to the writer

-- the front of an array of zeros
pub zeros_front : (k m : ℕ) → k ≤ m → take {A = ℕ} (k - 0) (replicate m 0) ≡ replicate k 0
zeros_front k m l =
    let z : k - 0 ≡ k = omega arith in
    let e : m ≡ k + (m - k) = omega arith in
    ap₂ (λ (i j : ℕ). take {A = ℕ} i (replicate j 0)) z e
    ∙ ap (take {A = ℕ} k) (sym (replicate-append-replicate {A = ℕ} k (m - k) 0))
    ∙ take_at {A = ℕ} (replicate k 0) (replicate (m - k) 0) k (length-replicate {A = ℕ} k 0)

module _ (reads writes : List ℕ) (n : ℕ) (good : matrix_good reads writes n ≡ true) where
  abbrev S : Sound (derived_policy reads writes n)
  S = derived_sound reads writes n (good_parts reads writes n good)

  abbrev container_part : List ℕ
  container_part = joined (map container_bytes (object_files n)) ++ joined (map container_bytes (replicate (length reads) subject_process))

  parts_size : length container_part ≡ (n + length reads) * container_size
  parts_size =
      omega (
        arith,
        length-append (joined (map container_bytes (object_files n))) (joined (map container_bytes (replicate (length reads) subject_process))),
        containers_size (object_files n),
        objects_count n,
        containers_size (replicate (length reads) subject_process),
        length-replicate {A = Container} (length reads) subject_process,
      )

  pub words_end : (words x : List ℕ) → x ≡ form_words (map unowned (permits reads writes n)) → n * form_width ≤ length (put_mid 0 (n * form_width - 0) words x)
  words_end words x f =
      omega (arith, ap length f, permits_size reads writes n (good_parts reads writes n good).subjects, length-append x (drop (n * form_width - 0) words))

  -- where the subjects start, and where they end
  pub objects_end : {before mid : List ℕ} {a : ℕ} → Wrote (joined (map container_bytes (object_files n))) before mid 0 a → a ≡ n * container_size
  objects_end w = omega (arith, w.ends, containers_size (object_files n), objects_count n)

  module _ {before mid after : List ℕ} {a end : ℕ} (p : Wrote (joined (map container_bytes (object_files n))) before mid 0 a)
      (q : Wrote (joined (map container_bytes (replicate (length reads) subject_process))) mid after a end) where
    containers_wrote : Wrote container_part before after 0 end
    containers_wrote = wrote_join (omega arith) p q

    pub containers_end : end ≡ (n + length reads) * container_size
    containers_end = omega (arith, containers_wrote.ends, parts_size)

    containers_are : take (end - 0) after ≡ joined (map container_bytes (derived_policy reads writes n).containers)
    unfolding derived_policy
    containers_are =
        front_written containers_wrote
        ∙ sym (joined_append (map container_bytes (object_files n)) (map container_bytes (replicate (length reads) subject_process)))
        ∙ ap joined (sym (map-append container_bytes (object_files n) (replicate (length reads) subject_process)))

    module _ {zeros users : List ℕ} {e : ℕ} (u : Wrote (bytes_of user_size unrestricted_number) zeros users 0 e) (two : length zeros ≡ user_size) where
      users_are : users ≡ joined (map (bytes_of user_size) (derived_policy reads writes n).users)
      unfolding derived_policy
      users_are = wrote_whole (two ∙ sym (bytes_length user_size unrestricted_number)) u ∙ sym (joined_one (bytes_of user_size unrestricted_number))

      module _ (words x : List ℕ) (f : x ≡ form_words (map unowned (permits reads writes n))) where
        words_are : take (n * form_width - 0) (put_mid 0 (n * form_width - 0) words x) ≡ form_words (map unowned (derived_policy reads writes n).rules)
        unfolding derived_policy
        words_are =
            let z : n * form_width - 0 ≡ length x = omega (arith, ap length f, permits_size reads writes n (good_parts reads writes n good).subjects) in
            ap (λ (k : ℕ). take k (put_mid 0 (n * form_width - 0) words x)) z ∙ take_at x (drop (n * form_width - 0) words) (length x) refl ∙ f

        pub derive_tabled : Tabled (take (end - 0) after) users (take (n * form_width - 0) (put_mid 0 (n * form_width - 0) words x))
        derive_tabled = rw (containers_are, users_are, words_are) (producer_tabled (derived_policy reads writes n) S (derived_none reads writes n))

        pub derive_wrote : {first last : List ℕ} {r : ℕ} → Answered (policy_at (take (end - 0) after) users (take (n * form_width - 0) (put_mid 0 (n * form_width - 0) words x))) first last r
            → Wrote (derived_image reads writes n) first last 0 r
        unfolding derived_image
        derive_wrote w = producer_wrote (derived_policy reads writes n) S (derived_none reads writes n) (rw (containers_are, users_are, words_are) at w)

  pub derived_small : {first last : List ℕ} {r : ℕ} → Wrote (derived_image reads writes n) first last 0 r → r ≤ output_bound
  unfolding derived_image
  derived_small w = omega (arith, w.ends, normal_short (derived_policy reads writes n) S)
