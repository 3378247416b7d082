-- The cases of `derive`, and what the tables hand to the writer of images.
use Prim.Native.Nat.{ℕ, zero, suc, ◌+◌, ◌-◌, ◌*◌, ◌≤◌, ◌<◌}
use native.Mathlib.Omega.{arith}
use mathlib.Core.Path.{◌≡◌, refl, sym, ap, ap₂, ◌∙◌, subst}
use mathlib.Core.Bool.{Bool, true, false}
use mathlib.Core.List.{List, [], ◌∷◌, ◌++◌, map, map-append}
use lib.Dec.{leb}
use lib.ListN.{length, take, replicate}
use borrow.Author.Tests.{le-leb, lt-leb, leb-true}
use Rattle.lists.specs.Lists.{every, joined}
use Rattle.lists.specs.Conditions.{first_failed, ◌or_refuse◌}
use Rattle.lists.proofs.Bools.{and_in, and_0, and_1, clash, refuted}
use Rattle.lists.proofs.Conditions.{passed, failed, none_left}
use Rattle.lists.proofs.Joined.{joined_append, joined_one}
use Rattle.answers.specs.Refusals.{lent_length, profile_text, profile_limit}
use Rattle.fields.specs.Bytes.{bytes_of}
use Rattle.fields.specs.Writing.{Wrote}
use Rattle.fields.proofs.WritingLaws.{wrote_join}
use Rattle.fields.proofs.RowWriting.{wrote_whole, front_written}
use Rattle.fields.proofs.ByteLaws.{bytes_length}
use Rattle.rules.specs.Answers.{data_width}
use Rattle.rules.proofs.RuleLaws.{normal_normal}
use Rattle.image.specs.Limits.{unrestricted_number, no_owner, container_size, user_size, output_bound}
use Rattle.image.specs.Policy.{Policy, Sound}
use Rattle.image.specs.Normal.{container_bytes, normal_image}
use Rattle.image.proofs.Encode.{container_wide}
use Rattle.normaliser.specs.Writer.{unowned, form_width, form_row, normal_use, form_words, policy_at, Tabled, Answered}
use Rattle.normaliser.proofs.WriterLaws.{producer_tabled, producer_wrote, normal_short}
use Rattle.normaliser.proofs.WrittenAnswers.{refused_answer, refused_effect, wrote_answer}
use Rattle.profiles.specs.Profiles.{Profile}
use Rattle.profiles.specs.Texts.{text_good}
use Rattle.profiles.specs.LineWords.{text_words, scanned, Judged}
use Rattle.std.proofs.Common.{Some, Result, Ok, Err}
use Rattle.answers.specs.declared.Refusal.{Refusal}
use Rattle.answers.specs.declared.Refusal.TheVariants as V
use Rattle.answers.specs.Outcomes.{outcome_number}
use Rattle.normaliser.specs.Normaliser.{written_number}
use Rattle.confinement.specs.Confinement.{paths_of, rules_of, files_from, initial_process, profile_policy}
use Rattle.confinement.specs.Images.{profiles_in, limits_good, profile_conditions, profile_image, profile_answer, profile_effect, profile_refusal}
use Rattle.confinement.specs.Tables.{PathTable, ProgramTable, mixtures, rule_from, plain_row, forms_from, short_rule, FormsPut, table_policy, Tabulated, PolicyWritten}
use Rattle.confinement.proofs.PolicyLaws.{profile_none, profile_sound}
use Rattle.confinement.proofs.PathRuleRows.{file_rows, files_size}
use Rattle.confinement.proofs.TablePolicy.{rules_are, tables_policy}

-- ---- the rules

pub forms_as : {f g : ℕ → List ℕ} {count : ℕ} {forms : List ℕ} {b : Bool} → f ≡ g → FormsPut f count forms b → FormsPut g count forms b
forms_as {count = count} {forms = forms} {b = b} e h = subst (λ (x : ℕ → List ℕ). FormsPut x count forms b) e h

-- the part of the programs' numbers and of their mixtures that is lent
pub rule_lent : (own modes runs : List ℕ) (n m : ℕ) → take m runs ≡ mixtures own modes n m
    → rule_from (take (m - 0) own) modes (take (m - 0) runs) ≡ rule_from (take m own) modes (mixtures own modes n m)
rule_lent own modes runs n m e = let z : m - 0 ≡ m = omega arith in rw (z, e)

module _ (own modes : List ℕ) (n m : ℕ) where
  abbrev pub rule_of : ℕ → List ℕ
  rule_of = rule_from (take m own) modes (mixtures own modes n m)

  -- a rule does not fit
  pub over_limit : {forms : List ℕ} {b : Bool} → FormsPut rule_of (2 * n) forms b → b ≡ false → (out : List ℕ) → PolicyWritten (table_policy own modes n m) out out (Err V.ProfileLimit)
  unfolding table_policy
  over_limit h e out = record { over = λ o. (refl, refl); fits = λ t. clash t (sym h.told ∙ e); short = tt }

forms_rows : (f : ℕ → List ℕ) (j n : ℕ) → map plain_row (forms_from f j n) ≡ map form_row (map normal_use (map unowned (forms_from f j n)))
unfolding forms_from normal_use unowned
forms_rows f j zero = refl
forms_rows f j (suc n) = ap₂ ◌∷◌ (ap plain (sym (normal_normal (f j)))) (forms_rows f (suc j) n)
  where
    plain : List ℕ → List ℕ
    plain r = form_row (record { owner = no_owner; mixtures = r })

-- ---- the policy goes to the writer

module _ (ps : List Profile) (own modes : List ℕ) (n m : ℕ) (t : Tabulated ps own modes n m) where
  limits : every short_rule (forms_from (rule_of own modes n m) 0 (2 * n)) ≡ true → limits_good ps ≡ true
  unfolding limits_good
  limits h =
      and_in (le-leb (length (paths_of ps)) data_width (omega (arith, t.paths, t.few)))
      (ap (every short_rule) (sym (rules_are ps own modes n m t)) ∙ h)

  -- where the process is written, and where it ends
  pub files_end_at : {before mid : List ℕ} {a : ℕ} → Wrote (joined (file_rows n)) before mid 0 a → a ≡ n * container_size
  files_end_at w = omega (arith, w.ends, files_size n)

  module _ {before mid after : List ℕ} {a end : ℕ} (p : Wrote (joined (file_rows n)) before mid 0 a) (q : Wrote (container_bytes initial_process) mid after a end) where
    pub containers_end : end ≡ n * container_size + container_size
    containers_end = omega (arith, q.ends, container_wide initial_process, files_end_at p)

    containers_are : take (end - 0) after ≡ joined (map container_bytes (profile_policy ps).containers)
    unfolding profile_policy table_policy
    containers_are =
        front_written (wrote_join (omega arith) p q)
        ∙ ap (λ (l : List ℕ). joined (file_rows n) ++ l) (sym (joined_one (container_bytes initial_process)))
        ∙ sym (joined_append (file_rows n) (container_bytes initial_process ∷ []))
        ∙ ap joined (sym (map-append container_bytes (files_from 0 (replicate n [])) (initial_process ∷ [])))
        ∙ ap (λ (x : Policy). joined (map container_bytes x.containers)) (tables_policy ps own modes n m t)

    module _ {zeros users : List ℕ} {e : ℕ} (u : Wrote (bytes_of user_size unrestricted_number) zeros users 0 e) (two : length zeros ≡ user_size) where
      users_are : users ≡ joined (map (bytes_of user_size) (profile_policy ps).users)
      unfolding profile_policy
      users_are = wrote_whole (two ∙ sym (bytes_length user_size unrestricted_number)) u ∙ sym (joined_one (bytes_of user_size unrestricted_number))

      module _ {forms : List ℕ} {b : Bool} (h : FormsPut (rule_of own modes n m) (2 * n) forms b) (fit : b ≡ true) where
        words_are : take (2 * n * form_width - 0) forms ≡ form_words (map unowned (profile_policy ps).rules)
        unfolding profile_policy form_words
        words_are =
            let z : 2 * n * form_width - 0 ≡ 2 * n * form_width = omega arith in
            ap (λ (k : ℕ). take k forms) z
            ∙ h.words fit
            ∙ ap joined (forms_rows (rule_of own modes n m) 0 (2 * n) ∙ ap (λ (l : List (List ℕ)). map form_row (map normal_use (map unowned l))) (rules_are ps own modes n m t))

        sound : Sound (profile_policy ps)
        sound = profile_sound ps (limits (sym h.told ∙ fit))

        pub tables_tabled : Tabled (take (end - 0) after) users (take (2 * n * form_width - 0) forms)
        tables_tabled = rw (containers_are, users_are, words_are) (producer_tabled (profile_policy ps) sound (profile_none ps))

        pub tables_wrote : {first last : List ℕ} {r : ℕ} → Answered (policy_at (take (end - 0) after) users (take (2 * n * form_width - 0) forms)) first last r
            → Wrote (normal_image (profile_policy ps)) first last 0 r
        tables_wrote w = producer_wrote (profile_policy ps) sound (profile_none ps) (rw (containers_are, users_are, words_are) at w)

        tables_small : {first last : List ℕ} {r : ℕ} → Answered (policy_at (take (end - 0) after) users (take (2 * n * form_width - 0) forms)) first last r → r ≤ output_bound
        tables_small w = omega (arith, (tables_wrote w).ends, normal_short (profile_policy ps) sound)

        pub tables_written : {first last : List ℕ} {r : ℕ} → Answered (policy_at (take (end - 0) after) users (take (2 * n * form_width - 0) forms)) first last r
            → PolicyWritten (table_policy own modes n m) first last (Ok r)
        unfolding table_policy
        tables_written {first} {last} {r} w =
            record {
              over = λ o. clash (sym h.told ∙ fit) o;
              fits = λ y. (refl, subst (λ (x : Policy). Wrote (normal_image x) first last 0 r) (sym (tables_policy ps own modes n m t)) (tables_wrote w));
              short = tables_small w;
            }

-- ---- the answer

module _ (text out : List ℕ) where
  abbrev refusal : ℕ
  refusal = first_failed (profile_conditions text out)

  -- what `derive` ensures of the number that it answers, of the output, and of the refusal
  abbrev pub Derived : ℕ → List ℕ → ℕ → Type 0
  Derived r after f = (r ≡ profile_answer text out) × (after ≡ profile_effect text out) × (f ≡ profile_refusal text out)

  refused : {r : ℕ} → refusal ≡ r → (r ≡ 0 → ⊥) → Derived r out r
  unfolding profile_answer profile_effect
  refused {r} e d = (
    sym (refused_answer refusal (profile_image text) out (λ z. d (sym e ∙ z)) ∙ e),
    sym (refused_effect refusal (profile_image text) out (λ z. d (sym e ∙ z))),
    sym e,
  )

  -- 9
  pub derive_short : length out < output_bound → Derived lent_length out lent_length
  unfolding profile_conditions
  derive_short h = refused (failed (leb output_bound (length out) or_refuse lent_length) _ (lt-leb output_bound (length out) h)) (λ z. omega arith)

  module _ (long : output_bound ≤ length out) where
    -- 16
    pub derive_broken : text_good text ≡ false → Derived profile_text out profile_text
    unfolding profile_conditions
    derive_broken g =
        refused
        (passed (leb output_bound (length out) or_refuse lent_length) _ (le-leb output_bound (length out) long) ∙ failed (text_good text or_refuse profile_text) _ g)
        (λ z. omega arith)

    module _ (good : text_good text ≡ true) where
      refusal_limits : limits_good (profiles_in text) ≡ false → refusal ≡ profile_limit
      unfolding profile_conditions
      refusal_limits l =
          passed (leb output_bound (length out) or_refuse lent_length) _ (le-leb output_bound (length out) long)
          ∙ passed (text_good text or_refuse profile_text) _ good
          ∙ failed (limits_good (profiles_in text) or_refuse profile_limit) [] l

      refusal_none : limits_good (profiles_in text) ≡ true → refusal ≡ 0
      unfolding profile_conditions
      refusal_none l =
          passed (leb output_bound (length out) or_refuse lent_length) _ (le-leb output_bound (length out) long)
          ∙ passed (text_good text or_refuse profile_text) _ good
          ∙ passed (limits_good (profiles_in text) or_refuse profile_limit) [] l
          ∙ none_left

      -- 17: over 32 paths
      pub derive_many : data_width < length (paths_of (profiles_in text)) → Derived profile_limit out profile_limit
      derive_many h = refused (refusal_limits over) (λ z. omega arith)
        where
          over : limits_good (profiles_in text) ≡ false
          over =
              unfold limits_good in
              refuted (limits_good (profiles_in text))
              (λ y.
              omega (
                arith,
                leb-true (length (paths_of (profiles_in text))) data_width
                    (and_0 (leb (length (paths_of (profiles_in text))) data_width) (every short_rule (rules_of (profiles_in text))) y),
              ))

      image_told : refusal ≡ 0 → {after : List ℕ} {n : ℕ} → Wrote (normal_image (profile_policy (profiles_in text))) out after 0 n
          → (n ≡ profile_answer text out) × (after ≡ profile_effect text out)
      unfolding profile_answer profile_effect profile_image
      image_told z w = wrote_answer z w

      -- the tables' policy: 17, or the image
      pub derive_done : (own modes : List ℕ) (n m : ℕ) → Tabulated (profiles_in text) own modes n m → {after : List ℕ} {r : Result ℕ Refusal} → PolicyWritten (table_policy own modes n m) out after r
          → Derived (written_number r) after (outcome_number r)
      derive_done own modes n m t {after} {r} w = by (every short_rule (rules_of (profiles_in text))) refl
        where
          same_rules : every short_rule (table_policy own modes n m).rules ≡ every short_rule (rules_of (profiles_in text))
          same_rules = unfold table_policy in ap (every short_rule) (rules_are (profiles_in text) own modes n m t)

          few : leb (length (paths_of (profiles_in text))) data_width ≡ true
          few = le-leb (length (paths_of (profiles_in text))) data_width (omega (arith, t.paths, t.few))

          by : (b : Bool) → every short_rule (rules_of (profiles_in text)) ≡ b → Derived (written_number r) after (outcome_number r)
          by true e =
              let none : refusal ≡ 0 = refusal_none (unfold limits_good in and_in few e) in
              let fits = w.fits (same_rules ∙ e) in
              let said = image_told none (subst (λ (x : Policy). Wrote (normal_image x) out after 0 (written_number r)) (tables_policy (profiles_in text) own modes n m t) fits.1) in
              (said.0, said.1, fits.0 ∙ sym none)
          by false e =
              let o = w.over (same_rules ∙ e) in
              let l : limits_good (profiles_in text) ≡ false =
              unfold limits_good in refuted (limits_good (profiles_in text)) (λ y. clash (and_1 (leb (length (paths_of (profiles_in text))) data_width) y) e) in
              let g = refused (refusal_limits l) (λ z. omega arith) in
              (ap written_number o.0 ∙ g.0, o.1 ∙ g.1, ap outcome_number o.0 ∙ g.2)

pub tabulated : {t : List ℕ} {ps : List Profile} {starts sizes own modes : List ℕ} {n m : ℕ} → PathTable t (paths_of ps) starts sizes n → ProgramTable (paths_of ps) ps own modes m
    → Tabulated ps own modes n m
tabulated p q = record { paths = p.count; few = p.few; programs = q }

-- ---- the numbers of the lines, as they are lent

pub words_lent : (t words : List ℕ) (b : Bool) (n : ℕ) → Judged t words b (scanned (Some n)) → take (n - 0) words ≡ text_words t
words_lent t words b n g = let z : n - 0 ≡ n = omega arith in ap (λ (k : ℕ). take k words) z ∙ g.listed refl
