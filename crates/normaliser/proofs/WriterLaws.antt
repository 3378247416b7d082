-- What a producer of a policy cites to call `write_policy`: rules in normal form as words meet what it asks, and what it answers.
use Prim.Native.Nat.{ℕ, ◌+◌, ◌-◌, ◌*◌, ◌≤◌}
use mathlib.Core.Path.{◌≡◌, refl, sym, ap, ap₂, ◌∙◌}
use mathlib.Core.Bool.{Bool, true, false, cond}
use mathlib.Core.List.{List, [], ◌∷◌, map}
use native.Mathlib.Omega.{arith}
use lib.Dec.{eqb, leb}
use lib.ListN.{length, get_or, replicate, length-map, get_or-map}
use lib.Seq.{take_at}
use borrow.Author.Tests.{leb-true, le-leb}
use Rattle.lists.specs.Lists.{joined, every}
use Rattle.lists.proofs.Bools.{and_0}
use Rattle.lists.proofs.Every.{every_0, every_1, every_nil, every_cons, every_imp, every_map, map_back}
use Rattle.fields.specs.Bytes.{bytes_of, records}
use Rattle.fields.specs.Writing.{Wrote}
use Rattle.fields.proofs.WidthRows.{wide, length_wide, rows_length, records_rows}
use Rattle.rules.specs.Answers.{mixture_limit}
use Rattle.rules.specs.Rules.{normal, sort, unheld_in, distinct}
use Rattle.rules.proofs.RuleLaws.{normal_normal, normal_length}
use Rattle.rule_words.specs.Words.{rule_width, words_of, kept_well}
use Rattle.rule_words.proofs.WordLaws.{words_nine}
use Rattle.rule_words.proofs.KeptWords.{words_kept}
use Rattle.image.specs.Limits.{unrestricted_number, no_owner, header_size, container_size, user_size, rule_size, mixture_size, image_limit, output_bound, rule_limit}
use Rattle.image.specs.Policy.{Container, Policy, unrestricted_rule, rule_at, owner_at, named, container_good, rule_good, Sound}
use Rattle.image.specs.Image.{containers_in, users_in, policy_in}
use Rattle.image.specs.Normal.{normal_at, Use, use_at, owned_place, owned, policy_of, normal_policy, container_bytes, span_bytes, spans_of, encode, normal_image}
use Rattle.image.proofs.Encode.{container_wide, span_wide, spans_length, policy_encode, encode_length, encode_short}
use Rattle.image.proofs.FramedSections.{part_0, part_1}
use Rattle.fields.proofs.ByteLaws.{bytes_length, joined_length}
use Rattle.image.proofs.WrittenMeaning.{container_named}
use Rattle.image.proofs.WrittenOwners.{owned_ownable, policy_sound}
use Rattle.normaliser.specs.Writer.{policy_given, unowned, form_width, form_row, normal_use, form_words, form_in, forms_in, policy_at, container_uses}
use Rattle.normaliser.specs.Writer.{Usable, form_kept, Tabled, rules_needed, writer_answer, writer_effect, Answered}
use Rattle.normaliser.proofs.RuleForms.{short_use, row_long, row_form}
use Rattle.normaliser.proofs.NewNumbers.{every_unmap}

-- ---- a policy that an image can spell is one that the writer takes

uses_named : (n : ℕ) (cs : List Container) → every (container_good n) cs ≡ true → every (named n) (container_uses cs) ≡ true
unfolding container_uses
uses_named n [] h = every_nil (named n)
uses_named n (c ∷ cs) h =
    let g = container_named n c (every_0 (container_good n) c cs h) in
    every_cons (named n) c.permit (c.run ∷ container_uses cs) g.0
    (every_cons (named n) c.run (container_uses cs) g.1 (uses_named n cs (every_1 (container_good n) c cs h)))

pub sound_usable : {p : Policy} → Sound p → Usable p
sound_usable {p} s =
    record {
      few_containers = s.few_containers;
      few_users = s.few_users;
      few_rules = omega (arith, s.few_rules);
      short_rules = every_imp rule_good (λ r. leb (length r) mixture_limit) p.rules short s.rules_good;
      containers_named = uses_named (length p.rules) p.containers s.containers_good;
      users_named = s.users_good;
    }
  where
    short : (r : List ℕ) → rule_good r ≡ true → leb (length r) mixture_limit ≡ true
    short r h = unfold rule_good in (and_0 (leb (length r) mixture_limit) _ h)

-- its normal image has at least the header, and the output holds it
normal_sound : {p : Policy} → Sound p → Sound (normal_policy p)
unfolding normal_policy
normal_sound {p} s = policy_sound (owned p) (owned_ownable p s)

pub normal_long : (p : Policy) → Sound p → header_size ≤ length (normal_image p)
unfolding normal_image
normal_long p s = omega (arith, encode_length (normal_policy p) (normal_sound s))

pub normal_short : (p : Policy) → Sound p → length (normal_image p) ≤ output_bound
unfolding normal_image
normal_short p s = encode_short (normal_policy p) (normal_sound s)

-- ---- a policy owns the same with its rules in normal form

normal_none : normal [] ≡ []
unfolding normal sort unheld_in distinct
normal_none = refl

each : {A B : Type 0} (f g : A → B) → ((x : A) → f x ≡ g x) → (xs : List A) → map f xs ≡ map g xs
each f g h [] = refl
each f g h (x ∷ xs) = ap₂ ◌∷◌ (h x) (each f g h xs)

mixtures_normal : (rules : List Use) → map (λ u. u.mixtures) (map normal_use rules) ≡ map normal (map (λ u. u.mixtures) rules)
unfolding normal_use
mixtures_normal [] = refl
mixtures_normal (u ∷ rules) = ap (λ (l : List (List ℕ)). normal u.mixtures ∷ l) (mixtures_normal rules)

owners_normal : (rules : List Use) → map (λ u. u.owner) (map normal_use rules) ≡ map (λ u. u.owner) rules
unfolding normal_use
owners_normal [] = refl
owners_normal (u ∷ rules) = ap (λ (l : List ℕ). u.owner ∷ l) (owners_normal rules)

at_normal : (rules : List (List ℕ)) (k : ℕ) → normal_at (map normal rules) k ≡ normal_at rules k
unfolding normal_at rule_at
at_normal rules k = by (eqb k unrestricted_number)
  where
    own : normal (get_or (map normal rules) k []) ≡ normal (get_or rules k [])
    own =
        ap (λ (d : List ℕ). normal (get_or (map normal rules) k d)) (sym normal_none)
        ∙ ap normal (get_or-map normal rules k []) ∙ normal_normal (get_or rules k [])

    by : (b : Bool) → normal (cond b unrestricted_rule (get_or (map normal rules) k [])) ≡ normal (cond b unrestricted_rule (get_or rules k []))
    by true = refl
    by false = own

module _ (containers users : List ℕ) (rules : List Use) where
  use_normal : (k : ℕ) → use_at (policy_given containers users (map normal_use rules)) k ≡ use_at (policy_given containers users rules) k
  unfolding use_at policy_given
  use_normal k =
      let o : owner_at (map (λ u. u.owner) (map normal_use rules)) k ≡ owner_at (map (λ u. u.owner) rules) k = ap (λ (l : List ℕ). owner_at l k) (owners_normal rules) in
      let m : normal_at (map (λ u. u.mixtures) (map normal_use rules)) k ≡ normal_at (map (λ u. u.mixtures) rules) k =
      ap (λ (l : List (List ℕ)). normal_at l k) (mixtures_normal rules) ∙ at_normal (map (λ u. u.mixtures) rules) k in
      λ i. record { owner = o i; mixtures = m i }

  place_normal : (c : Container) → owned_place (policy_given containers users (map normal_use rules)) c ≡ owned_place (policy_given containers users rules) c
  unfolding owned_place
  place_normal c = λ i. record { kind = c.kind; atom = c.atom; permit = use_normal c.permit i; run = use_normal c.run i }

  owned_normal : owned (policy_given containers users (map normal_use rules)) ≡ owned (policy_given containers users rules)
  unfolding owned policy_given
  owned_normal =
      λ i. record {
        places =
            each (owned_place (policy_given containers users (map normal_use rules))) (owned_place (policy_given containers users rules)) place_normal
            (policy_given containers users rules).containers i;
        users = each (use_at (policy_given containers users (map normal_use rules))) (use_at (policy_given containers users rules)) use_normal (policy_given containers users rules).users i;
      }

-- ---- rules in normal form as rows

-- the words of a row are kept well if they are those of a rule in normal form
row_kept : (owner : ℕ) (r : List ℕ) → length r ≤ mixture_limit → normal r ≡ r → form_kept (form_row (record { owner = owner; mixtures = r })) ≡ true
unfolding form_kept form_row
row_kept owner r h n = ap kept_well (take_at (words_of r) (owner ∷ []) rule_width (words_nine r h)) ∙ words_kept r h n

module _ (rules : List Use) (short : every short_use rules ≡ true) where
  forms_short : every short_use (map normal_use rules) ≡ true
  unfolding normal_use
  forms_short = every_map short_use short_use normal_use rules one short
    where
      one : (u : Use) → short_use u ≡ true → short_use (record { owner = u.owner; mixtures = normal u.mixtures }) ≡ true
      one u h = le-leb (length (normal u.mixtures)) mixture_limit (omega (arith, leb-true (length u.mixtures) mixture_limit h, normal_length u.mixtures))

  words_wide : every (wide form_width) (map form_row (map normal_use rules)) ≡ true
  words_wide =
      every_map short_use (wide form_width) form_row (map normal_use rules)
      (λ u h. length_wide form_width (form_row u) (row_long u (leb-true (length u.mixtures) mixture_limit h))) forms_short

  pub words_length : length (form_words rules) ≡ length rules * form_width
  unfolding form_words
  words_length =
      rows_length form_width (map form_row (map normal_use rules)) words_wide
      ∙ ap (λ (n : ℕ). n * form_width) (length-map (map normal_use rules) form_row ∙ length-map rules normal_use)

  words_rows : records form_width (form_words rules) ≡ map form_row (map normal_use rules)
  unfolding form_words
  words_rows = records_rows form_width (map form_row (map normal_use rules)) (omega arith) words_wide

  words_forms : forms_in (form_words rules) ≡ map normal_use rules
  unfolding forms_in
  words_forms = ap (map form_in) words_rows ∙ map_back short_use form_row form_in (map normal_use rules) row_form forms_short

  words_good : every form_kept (records form_width (form_words rules)) ≡ true
  unfolding normal_use
  words_good = rw words_rows (again rules short)
    where
      again : (l : List Use) → every short_use l ≡ true → every form_kept (map form_row (map normal_use l)) ≡ true
      again [] h = every_nil form_kept
      again (u ∷ l) h =
          every_cons form_kept (form_row (normal_use u)) (map form_row (map normal_use l))
          (row_kept u.owner (normal u.mixtures) (omega (arith, normal_length u.mixtures, leb-true (length u.mixtures) mixture_limit (every_0 short_use u l h))) (normal_normal u.mixtures))
          (again l (every_1 short_use u l h))

module _ (containers users : List ℕ) (rules : List Use) (u : Usable (policy_given containers users rules)) where
  short : every short_use rules ≡ true
  unfolding policy_given
  short = every_unmap (λ r. leb (length r) mixture_limit) (λ v. v.mixtures) rules u.short_rules

  policy_words : policy_at containers users (form_words rules) ≡ policy_given containers users (map normal_use rules)
  unfolding policy_at
  policy_words = ap (policy_given containers users) (words_forms rules short)

  normal_usable : Usable (policy_given containers users (map normal_use rules))
  unfolding policy_given
  normal_usable =
      let n : length (map (λ v. v.mixtures) (map normal_use rules)) ≡ length (map (λ v. v.mixtures) rules) =
      length-map (map normal_use rules) (λ v. v.mixtures) ∙ length-map rules normal_use ∙ sym (length-map rules (λ v. v.mixtures)) in
      record {
        few_containers = u.few_containers;
        few_users = u.few_users;
        few_rules = omega (arith, u.few_rules);
        short_rules = every_map short_use (λ r. leb (length r) mixture_limit) (λ v. v.mixtures) (map normal_use rules) (λ v h. h) (forms_short rules short);
        containers_named = rw n u.containers_named;
        users_named = rw n u.users_named;
      }

  -- THE SEAM: what `write_policy` asks
  pub words_tabled : Tabled containers users (form_words rules)
  words_tabled = record { usable = rw policy_words normal_usable; good = words_good rules short }

  normal_same : normal_policy (policy_at containers users (form_words rules)) ≡ normal_policy (policy_given containers users rules)
  unfolding normal_policy
  normal_same = ap policy_of (ap owned policy_words ∙ owned_normal containers users rules)

  -- and what it answers
  pub words_answered : {before after : List ℕ} {n : ℕ} → Answered (policy_at containers users (form_words rules)) before after n → Answered (policy_given containers users rules) before after n
  unfolding writer_answer writer_effect rules_needed normal_image
  words_answered a = record { answer = rw normal_same at a.answer; effect = rw normal_same at a.effect }

-- ---- a policy that an image can spell needs no more rules than an image has

pub sound_wrote : {p : Policy} → Sound p → {before after : List ℕ} {n : ℕ} → Answered p before after n → Wrote (normal_image p) before after 0 n
unfolding writer_answer writer_effect rules_needed
sound_wrote {p} s {before} {after} {n} a =
    let b : leb (length (normal_policy p).rules) rule_limit ≡ true = le-leb (length (normal_policy p).rules) rule_limit (normal_sound s).few_rules in
    record { buffer = rw b at a.effect; ends = (rw b at a.answer) ∙ omega arith }

-- ---- THE SEAM FOR A PRODUCER of rules without owners: it shows `Sound` of its policy, and hands over the bytes of its containers and users
-- and the rows of its rules

unowned_mixtures : (rules : List (List ℕ)) → map (λ u. u.mixtures) (map unowned rules) ≡ rules
unfolding unowned
unowned_mixtures [] = refl
unowned_mixtures (r ∷ rules) = ap (λ (l : List (List ℕ)). r ∷ l) (unowned_mixtures rules)

unowned_owners : (rules : List (List ℕ)) → map (λ u. u.owner) (map unowned rules) ≡ replicate (length rules) no_owner
unfolding unowned
unowned_owners [] = refl
unowned_owners (r ∷ rules) = ap (λ (l : List ℕ). no_owner ∷ l) (unowned_owners rules)

module _ (p : Policy) (s : Sound p) (none : p.owners ≡ replicate (length p.rules) no_owner) where
  abbrev pub containers_bytes : List ℕ
  containers_bytes = joined (map container_bytes p.containers)

  abbrev pub users_bytes : List ℕ
  users_bytes = joined (map (bytes_of user_size) p.users)

  abbrev spans_bytes : List ℕ
  spans_bytes = joined (map span_bytes (spans_of 0 p.rules p.owners))

  abbrev mixtures_bytes : List ℕ
  mixtures_bytes = joined (map (bytes_of mixture_size) (joined p.rules))

  sizes : length containers_bytes + length users_bytes + length spans_bytes + length mixtures_bytes ≤ image_limit - header_size
  sizes =
      omega (
        arith,
        joined_length container_size container_bytes container_wide p.containers,
        joined_length user_size (bytes_of user_size) (bytes_length user_size) p.users,
        joined_length rule_size span_bytes span_wide (spans_of 0 p.rules p.owners),
        spans_length 0 p.rules p.owners,
        joined_length mixture_size (bytes_of mixture_size) (bytes_length mixture_size) (joined p.rules),
        encode_length p s,
        encode_short p s,
      )

  pub containers_back : containers_in containers_bytes ≡ p.containers
  unfolding encode policy_in
  containers_back =
      ap containers_in (sym (part_0 containers_bytes users_bytes spans_bytes mixtures_bytes sizes)) ∙ ap (λ (q : Policy). q.containers) (policy_encode p s)

  pub users_back : users_in users_bytes ≡ p.users
  unfolding encode policy_in
  users_back = ap users_in (sym (part_1 containers_bytes users_bytes spans_bytes mixtures_bytes sizes)) ∙ ap (λ (q : Policy). q.users) (policy_encode p s)

  policy_back : policy_given containers_bytes users_bytes (map unowned p.rules) ≡ p
  unfolding policy_given
  policy_back =
      let o : map (λ u. u.owner) (map unowned p.rules) ≡ p.owners = unowned_owners p.rules ∙ sym none in
      λ i. record { containers = containers_back i; users = users_back i; rules = unowned_mixtures p.rules i; owners = o i }

  pub producer_tabled : Tabled containers_bytes users_bytes (form_words (map unowned p.rules))
  producer_tabled = words_tabled containers_bytes users_bytes (map unowned p.rules) (rw policy_back (sound_usable s))

  pub producer_wrote : {before after : List ℕ} {n : ℕ} → Answered (policy_at containers_bytes users_bytes (form_words (map unowned p.rules))) before after n → Wrote (normal_image p) before after 0 n
  producer_wrote a = sound_wrote s (rw policy_back at (words_answered containers_bytes users_bytes (map unowned p.rules) (rw policy_back (sound_usable s)) a))
