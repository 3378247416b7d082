-- The rows of the records of an image that is not refused.
use Prim.Native.Nat.{ℕ, ◌+◌, ◌-◌, ◌*◌, ◌/◌, ◌≤◌, ◌<◌}
use mathlib.Core.Path.{◌≡◌, sym, ap, ap₂, ◌∙◌}
use mathlib.Core.Bool.{Bool, true, ◌||◌}
use mathlib.Core.List.{List, [], ◌∷◌, ◌++◌, map}
use native.Mathlib.Omega.{arith}
use native.Mathlib.Nat.{add-sub_cancel_left}
use lib.Dec.{eqb, ltb, leb}
use lib.ListN.{length, get_or, take, drop, replicate, length-map}
use borrow.Author.Tests.{eq-eqb, le-leb, leb-true}
use borrow.Rule.Slice.PartMut.{put_mid}
use Rattle.rules.specs.Answers.{data_width, mixture_limit}
use Rattle.rule_words.specs.Words.{words_of}
use Rattle.image.specs.Limits.{container_limit, user_limit, no_atom, container_size, user_size, rule_size, size8, size16, container_kind_at, container_atom_at, container_permit_at, container_run_at}
use Rattle.fields.specs.Bytes.{field, number_in}
use Rattle.lists.specs.Lists.{every}
use Rattle.image.specs.Policy.{Container, named, container_good}
use Rattle.image.specs.Image.{container_in, containers_in, users_in, rules_in, rule_records_good}
use Rattle.image.specs.Normal.{Place, normal_at, place_of}
use Rattle.lists.proofs.Every.{every_map, every_get_d}
use Rattle.image.proofs.WrittenMeaning.{container_named, container_atom}
use Rattle.fields.proofs.SectionRecords.{record_at}
use Rattle.lists.proofs.Places.{map_at}
use Rattle.image.proofs.RecordsByPlace.{users_count, containers_count}
use Rattle.image.proofs.RulesByNumber.{normal_short}
use Rattle.session.specs.Limits.{row_width, user_width, nobody}
use Rattle.session.specs.Rows.{row_words, user_words}
use Rattle.session.specs.Session.{filled, start_tag, start_row, place_words}
use Rattle.session.proofs.RowMeaning.{row_length, user_length}
use Rattle.fields.proofs.WidthRows.{wide}
use Rattle.session.proofs.RowsOfOneWidth.{Rowed, rowed_next, rowed_end}

-- ---- users

-- the rows of the users of a section
abbrev pub user_rows : List ℕ → List ℕ → List ℕ → List (List ℕ)
user_rows users rules m = map user_words (map (normal_at (rules_in rules m)) (users_in users))

module _ (users rules m : List ℕ) (good : every (named (length rules / rule_size)) (users_in users) ≡ true) (spans : rule_records_good rules m ≡ true) where
  pub user_named : (i : ℕ) → i < length users / user_size → named (length rules / rule_size) (field users (i * user_size) user_size) ≡ true
  unfolding users_in field
  user_named i l =
      rw (sym (record_at number_in user_size i users 0 l)) (every_get_d (named (length rules / rule_size)) (users_in users) i 0 (omega (arith, users_count users)) good)

  pub users_wide : every (wide user_width) (user_rows users rules m) ≡ true
  unfolding wide
  users_wide =
      every_map (λ r. leb (length r) mixture_limit) (wide user_width) user_words (map (normal_at (rules_in rules m)) (users_in users))
      (λ r h. eq-eqb (length (user_words r)) user_width (user_length r (leb-true (length r) mixture_limit h)))
      (every_map (named (length rules / rule_size)) (λ r. leb (length r) mixture_limit) (normal_at (rules_in rules m)) (users_in users)
      (λ n h. le-leb (length (normal_at (rules_in rules m) n)) mixture_limit (normal_short rules m n spans h)) good)

  pub user_given : (i : ℕ) → i < length users / user_size → user_words (normal_at (rules_in rules m) (field users (i * user_size) user_size))
      ≡ get_or (user_rows users rules m) i (replicate user_width 0)
  unfolding users_in field
  user_given i l =
      let k : i < length (users_in users) = omega (arith, users_count users) in
      sym (map_at user_words (map (normal_at (rules_in rules m)) (users_in users)) i [] (replicate user_width 0) (omega (arith, length-map (users_in users) (normal_at (rules_in rules m))))
      ∙ ap user_words (map_at (normal_at (rules_in rules m)) (users_in users) i 0 [] k)
      ∙ ap (λ (n : ℕ). user_words (normal_at (rules_in rules m) n)) (record_at number_in user_size i users 0 l))

  user_rows_lem : length (user_rows users rules m) ≡ length users / user_size
  user_rows_lem = omega (arith, users_count users, length-map (users_in users) (normal_at (rules_in rules m)), length-map (map (normal_at (rules_in rules m)) (users_in users)) user_words)

  module _ (out₀ out : List ℕ) (i : ℕ) (g : Rowed user_width user_limit (user_rows users rules m) out₀ out i) where
    pub users_next : i < user_limit → i < length users / user_size → (row : List ℕ) → row ≡ user_words (normal_at (rules_in rules m) (field users (i * user_size) user_size))
        → Rowed user_width user_limit (user_rows users rules m) out₀ (put_mid (i * user_width) (i * user_width + user_width - i * user_width) out row) (i + 1)
    users_next h l row e = rw add-sub_cancel_left (rowed_next user_width user_limit (user_rows users rules m) users_wide out₀ out i g h row (e ∙ user_given i l))

    pub users_end : length users / user_size ≤ i → out₀ ≡ replicate (user_limit * user_width) 0 → out ≡ filled user_width user_limit (user_rows users rules m)
    users_end h e = rowed_end user_width user_limit (user_rows users rules m) users_wide out₀ out i g (omega (arith, user_rows_lem)) e

-- ---- one container

module _ (r rules m : List ℕ) (good : container_good (length rules / rule_size) (container_in r) ≡ true) (spans : rule_records_good rules m ≡ true) where
  pub permit_named : named (length rules / rule_size) (field r container_permit_at size16) ≡ true
  unfolding container_in
  permit_named = (container_named (length rules / rule_size) (container_in r) good).0

  pub run_named : named (length rules / rule_size) (field r container_run_at size16) ≡ true
  unfolding container_in
  run_named = (container_named (length rules / rule_size) (container_in r) good).1

  pub atom_good : (ltb (field r container_atom_at size8) data_width || eqb (field r container_atom_at size8) no_atom) ≡ true
  unfolding container_in
  atom_good = container_atom (length rules / rule_size) (container_in r) good

  pub container_row : (k t : ℕ) (p q : List ℕ)
      → k ≡ field r container_kind_at size8 → t ≡ start_tag (field r container_atom_at size8)
      → p ≡ words_of (normal_at (rules_in rules m) (field r container_permit_at size16))
      → q ≡ words_of (normal_at (rules_in rules m) (field r container_run_at size16))
      → k ∷ t ∷ (p ++ (q ++ (nobody ∷ []))) ≡ place_words (place_of (rules_in rules m) (container_in r))
  unfolding place_words row_words start_row place_of container_in
  container_row k t p q e f g h =
      ap₂ (λ (x y : ℕ). x ∷ y ∷ (p ++ (q ++ (nobody ∷ [])))) e f
      ∙ ap₂ (λ (x y : List ℕ). field r container_kind_at size8 ∷ start_tag (field r container_atom_at size8) ∷ (x ++ (y ++ (nobody ∷ [])))) g h

-- ---- containers

-- the rows of the containers of a section
abbrev pub container_rows : List ℕ → List ℕ → List ℕ → List (List ℕ)
container_rows cs rules m = map place_words (map (place_of (rules_in rules m)) (containers_in cs))

module _ (cs rules m : List ℕ) (good : every (container_good (length rules / rule_size)) (containers_in cs) ≡ true) (spans : rule_records_good rules m ≡ true) where
  pub container_good_lem : (i : ℕ) → i < length cs / container_size → container_good (length rules / rule_size) (container_in (take container_size (drop (i * container_size) cs))) ≡ true
  unfolding containers_in
  container_good_lem i l =
      let z : Container = record { kind = 0; atom = 0; permit = 0; run = 0 } in
      rw (sym (record_at container_in container_size i cs z l)) (every_get_d (container_good (length rules / rule_size)) (containers_in cs) i z (omega (arith, containers_count cs)) good)

  one_wide : (c : Container) → container_good (length rules / rule_size) c ≡ true → length (place_words (place_of (rules_in rules m) c)) ≡ row_width
  unfolding place_words start_row place_of
  one_wide c h =
      let g = container_named (length rules / rule_size) c h in
      row_length (start_row (place_of (rules_in rules m) c)) (normal_short rules m c.permit spans g.0) (normal_short rules m c.run spans g.1)

  pub containers_wide : every (wide row_width) (container_rows cs rules m) ≡ true
  unfolding wide
  containers_wide =
      every_map row_wide (wide row_width) place_words (map (place_of (rules_in rules m)) (containers_in cs)) (λ p h. h)
      (every_map (container_good (length rules / rule_size)) row_wide (place_of (rules_in rules m)) (containers_in cs)
      (λ c h. eq-eqb (length (place_words (place_of (rules_in rules m) c))) row_width (one_wide c h)) good)
    where
      row_wide : Place → Bool
      row_wide p = eqb (length (place_words p)) row_width

  pub container_given : (i : ℕ)
      → i < length cs / container_size
      → place_words (place_of (rules_in rules m) (container_in (take container_size (drop (i * container_size) cs))))
      ≡ get_or (container_rows cs rules m) i (replicate row_width 0)
  unfolding containers_in
  container_given i l =
      let z : Container = record { kind = 0; atom = 0; permit = 0; run = 0 } in
      let y : Place = record { kind = 0; atom = 0; permit = []; run = [] } in
      let k : i < length (containers_in cs) = omega (arith, containers_count cs) in
      sym (map_at place_words (map (place_of (rules_in rules m)) (containers_in cs)) i y (replicate row_width 0) (omega (arith, length-map (containers_in cs) (place_of (rules_in rules m))))
      ∙ ap place_words (map_at (place_of (rules_in rules m)) (containers_in cs) i z y k)
      ∙ ap (λ (c : Container). place_words (place_of (rules_in rules m) c)) (record_at container_in container_size i cs z l))

  container_rows_lem : length (container_rows cs rules m) ≡ length cs / container_size
  container_rows_lem = omega (arith, containers_count cs, length-map (containers_in cs) (place_of (rules_in rules m)), length-map (map (place_of (rules_in rules m)) (containers_in cs)) place_words)

  module _ (out₀ out : List ℕ) (i : ℕ) (g : Rowed row_width container_limit (container_rows cs rules m) out₀ out i) where
    pub containers_next : i < container_limit
        → i < length cs / container_size → (row : List ℕ)
        → row ≡ place_words (place_of (rules_in rules m) (container_in (take container_size (drop (i * container_size) cs))))
        → Rowed row_width container_limit (container_rows cs rules m) out₀ (put_mid (i * row_width) (i * row_width + row_width - i * row_width) out row) (i + 1)
    containers_next h l row e = rw add-sub_cancel_left (rowed_next row_width container_limit (container_rows cs rules m) containers_wide out₀ out i g h row (e ∙ container_given i l))

    pub containers_end : length cs / container_size ≤ i → out₀ ≡ replicate (container_limit * row_width) 0 → out ≡ filled row_width container_limit (container_rows cs rules m)
    containers_end h e = rowed_end row_width container_limit (container_rows cs rules m) containers_wide out₀ out i g (omega (arith, container_rows_lem)) e
