-- The derived policy is one that an image can spell.
use Prim.Native.Nat.{ℕ, zero, suc, ◌+◌, ◌-◌, ◌^◌, ◌≤◌, ◌<◌}
use mathlib.Core.Path.{◌≡◌, refl, sym, ap, ap₂, ◌∙◌}
use mathlib.Core.Bool.{Bool, true, false, cond, ◌||◌}
use mathlib.Core.List.{List, [], ◌∷◌, ◌++◌, map}
use native.Mathlib.Nat.{lt_of_lt_of_le, add-zero, zero-add}
use native.Mathlib.Omega.{arith}
use lib.Pow.{pow-lt, pow_mono}
use lib.Bits.{bit_or, or_lt}
use lib.Dec.{eqb, ltb}
use lib.ListN.{length, get_or, replicate, length-append, length-map, length-replicate}
use borrow.Author.Tests.{le-leb, lt-ltb, ltb-true, ne_eqb}
use Rattle.image.proofs.KindLaws.{file_accepted, process_accepted}
use Rattle.lists.proofs.Bools.{and_in, or_0, or_1}
use Rattle.image.specs.Limits.{no_owner, header_size, output_bound, unrestricted_number, no_atom, file_kind, process_kind}
use Rattle.normaliser.proofs.WriterLaws.{normal_long, normal_short}
use Rattle.lists.specs.Lists.{every, elem}
use Rattle.lists.specs.Counting.{count_from}
use Rattle.lists.proofs.Counting.{count_length, every_count}
use Rattle.rules.specs.Rules.{normal, unrestricted}
use Rattle.lists.proofs.Elem.{elem_here}
use Rattle.rules.proofs.RuleLaws.{normal_among}
use Rattle.image.specs.Policy.{Container, unrestricted_rule, rule_at, owner_good, named, container_good, rule_good, Sound}
use Rattle.image.specs.Image.{policy_in, check_of}
use Rattle.image.specs.Normal.{Place, process_place, normal_at, place_of, meaning, Owned, owned, owners_at, policy_of, normal_policy, encode, normal_image}
use Rattle.image.proofs.Encode.{read_encode}
use Rattle.image.proofs.WrittenMeaning.{Encodable, meaning_encodable, normal_unrestricted}
use Rattle.image.proofs.WrittenOwners.{owned_ownable, policy_sound, policy_owns}
use Rattle.image.proofs.OwnerLaws.{owned_parts, none_used, none_written}
use Rattle.lists.proofs.Every.{every_elem, every_0, every_1, every_nil, every_cons, every_imp, every_append, every_replicate}
use Rattle.matrix.specs.Limits.{subject_limit}
use Rattle.rules.specs.Answers.{mixture_limit, data_width}
use Rattle.matrix.specs.Flows.{has, rows_within}
use Rattle.derivation.specs.Derived.{writer_mixtures, or_alone, permit_of, object_file, subject_process, derived_policy, derived_image}
use Rattle.matrix.proofs.GoodLaws.{Good}

-- ---- the mixtures of a permit rule are sets of objects

-- a number of n bits
small : ℕ → ℕ → Bool
small n m = ltb m (2 ^ n)

rows_small : (n : ℕ) (rows : List ℕ) → rows_within n rows ≡ true → every (small n) rows ≡ true
unfolding rows_within small
rows_small n rows h = h

writers_few : (reads writes : List ℕ) (b : ℕ) → length (writer_mixtures reads writes b) ≤ length reads
unfolding writer_mixtures
writers_few [] writes b = omega arith
writers_few (r ∷ reads) [] b = omega arith
writers_few (r ∷ reads) (w ∷ writes) b = by (has w b) (writers_few reads writes b)
  where
    by : (t : Bool) → length (writer_mixtures reads writes b) ≤ length reads
        → length (cond t (bit_or r (2 ^ b) ∷ writer_mixtures reads writes b) (writer_mixtures reads writes b)) ≤ suc (length reads)
    by true h = omega arith
    by false h = omega arith

writers_small : (n : ℕ) (reads writes : List ℕ) (b : ℕ) → every (small n) reads ≡ true → b < n → every (small n) (writer_mixtures reads writes b) ≡ true
unfolding writer_mixtures
writers_small n [] writes b h l = every_nil (small n)
writers_small n (r ∷ reads) [] b h l = every_nil (small n)
writers_small n (r ∷ reads) (w ∷ writes) b h l =
    by (has w b) (writers_small n reads writes b (every_1 (small n) r reads h) l)
  where
    joined : small n (bit_or r (2 ^ b)) ≡ true
    joined = unfold small in lt-ltb (bit_or r (2 ^ b)) (2 ^ n) (or_lt n r (2 ^ b) (ltb-true r (2 ^ n) (every_0 (small n) r reads h)) (pow-lt l))

    by : (t : Bool) → every (small n) (writer_mixtures reads writes b) ≡ true
        → every (small n) (cond t (bit_or r (2 ^ b) ∷ writer_mixtures reads writes b) (writer_mixtures reads writes b)) ≡ true
    by true ih = every_cons (small n) (bit_or r (2 ^ b)) (writer_mixtures reads writes b) joined ih
    by false ih = ih

alone_few : (b most : ℕ) (r : List ℕ) → 1 ≤ most → length r ≤ most → length (or_alone b r) ≤ most
unfolding or_alone
alone_few b most [] h l = h
alone_few b most (m ∷ r) h l = l

alone_small : (n b : ℕ) (r : List ℕ) → b < n → every (small n) r ≡ true → every (small n) (or_alone b r) ≡ true
unfolding or_alone small
alone_small n b [] l h = every_cons (small n) (2 ^ b) [] (lt-ltb (2 ^ b) (2 ^ n) (pow-lt l)) (every_nil (small n))
alone_small n b (m ∷ r) l h = h

-- at most one for each subject, or one
pub few_mixtures : (reads writes : List ℕ) (b : ℕ) → length reads ≤ subject_limit → length (permit_of reads writes b) ≤ mixture_limit
unfolding permit_of
few_mixtures reads writes b h = alone_few b 8 (writer_mixtures reads writes b) (omega arith) (omega (arith, writers_few reads writes b))

-- ---- lists of places

pub map-append : {A B : Type 0} (f : A → B) (a b : List A) → map f (a ++ b) ≡ map f a ++ map f b
map-append f [] b = refl
map-append f (x ∷ a) b = ap (λ l. f x ∷ l) (map-append f a b)

map_count : {A B : Type 0} (f : A → B) (g : ℕ → A) (h : ℕ → B) (k n : ℕ) → ((b : ℕ) → k ≤ b → b < k + n → f (g b) ≡ h b) → map f (map g (count_from k n)) ≡ map h (count_from k n)
unfolding count_from
map_count f g h k zero e = refl
map_count f g h k (suc n) e = ap₂ ◌∷◌ (e k (omega arith) (omega arith)) (map_count f g h (suc k) n (λ b l m. e b (omega arith) (omega arith)))

map_replicate : {A B : Type 0} (f : A → B) (n : ℕ) (x : A) (y : B) → f x ≡ y → map f (replicate n x) ≡ replicate n y
map_replicate f zero x y e = refl
map_replicate f (suc n) x y e = ap₂ ◌∷◌ e (map_replicate f n x y e)

map_at : (f : ℕ → List ℕ) (k n b : ℕ) → b < n → get_or (map f (count_from k n)) b [] ≡ f (k + b)
unfolding count_from
map_at f k zero b l = absurd (omega arith)
map_at f k (suc n) zero l = ap f (sym (add-zero k))
map_at f k (suc n) (suc b) l = let e : suc k + b ≡ k + suc b = omega arith in map_at f (suc k) n b (omega arith) ∙ ap f e

-- what is stated of object b
abbrev pub file_place : List ℕ → List ℕ → ℕ → Place
file_place reads writes b = record { kind = file_kind; atom = b; permit = normal (permit_of reads writes b); run = unrestricted_rule }

-- nobody owns a rule
pub derived_none : (reads writes : List ℕ) (objects : ℕ) → (derived_policy reads writes objects).owners ≡ replicate (length (derived_policy reads writes objects).rules) no_owner
unfolding derived_policy
derived_none reads writes objects =
    ap (λ (k : ℕ). replicate {A = ℕ} k no_owner) (sym (length-map (count_from 0 objects) (permit_of reads writes) ∙ count_length 0 objects))

derived_nobody : (reads writes : List ℕ) (objects : ℕ) → every (eqb no_owner) (derived_policy reads writes objects).owners ≡ true
unfolding derived_policy
derived_nobody reads writes objects = every_replicate (eqb no_owner) objects no_owner refl

module _ (reads writes : List ℕ) (objects : ℕ) (g : Good reads writes objects) where
  permit_small : (b : ℕ) → b < objects → every (small objects) (permit_of reads writes b) ≡ true
  unfolding permit_of
  permit_small b l =
      alone_small objects b (writer_mixtures reads writes b) l
      (writers_small objects reads writes b (rows_small objects reads g.reads_good) l)

  -- each mixture has 32 bits
  pub permit_data : (b : ℕ) → b < objects → every (λ m. ltb m (2 ^ 32)) (permit_of reads writes b) ≡ true
  permit_data b l =
      every_imp (small objects) (λ m. ltb m (2 ^ 32)) (permit_of reads writes b)
      (λ m h. lt-ltb m (2 ^ 32) (lt_of_lt_of_le (wide m h) (pow_mono g.few)))
      (permit_small b l)
    where
      wide : (m : ℕ) → small objects m ≡ true → m < 2 ^ objects
      wide m h = unfold small in ltb-true m (2 ^ objects) h

  permit_good : (b : ℕ) → b < objects → rule_good (permit_of reads writes b) ≡ true
  unfolding rule_good
  permit_good b l =
      and_in (le-leb (length (permit_of reads writes b)) 8 (few_mixtures reads writes b g.subjects))
      (every_imp (λ m. ltb m (2 ^ 32)) (λ m. ltb m (2 ^ 64)) (permit_of reads writes b)
      (λ m h. lt-ltb m (2 ^ 64) (omega (arith, ltb-true m (2 ^ 32) h)))
      (permit_data b l))

  file_good : (b : ℕ) → b < objects → container_good objects (object_file b) ≡ true
  unfolding object_file named
  file_good b l =
      file_accepted objects b b unrestricted_number (or_0 (ltb b data_width) (eqb b no_atom) (lt-ltb b data_width (omega (arith, g.few))))
      (or_0 (ltb b objects) (eqb b unrestricted_number) (lt-ltb b objects l)) (or_1 (ltb unrestricted_number objects) true refl)

  process_good : container_good objects subject_process ≡ true
  unfolding subject_process
  process_good = process_accepted objects

  rules_length : length (map (permit_of reads writes) (count_from 0 objects)) ≡ objects
  rules_length = length-map (count_from 0 objects) (permit_of reads writes) ∙ count_length 0 objects

  pub derived_sound : Sound (derived_policy reads writes objects)
  unfolding derived_policy owner_good
  derived_sound =
      record {
        few_containers =
            omega (
              arith,
              length-append (map object_file (count_from 0 objects)) (replicate (length reads) subject_process),
              length-map (count_from 0 objects) object_file,
              count_length 0 objects,
              length-replicate {A = Container} (length reads) subject_process,
              g.few,
              g.subjects,
            );
        few_users = omega arith;
        few_rules = omega (arith, rules_length, g.few);
        rules_good = every_count rule_good (permit_of reads writes) 0 objects (λ b l m. permit_good b (omega arith));
        containers_good =
            rw rules_length
            (every_append (container_good objects) (map object_file (count_from 0 objects)) (replicate (length reads) subject_process)
            (every_count (container_good objects) object_file 0 objects (λ b l m. file_good b (omega arith)))
            (every_replicate (container_good objects) (length reads) subject_process process_good));
        users_good = rw rules_length (user_good);
        owners_long = length-replicate {A = ℕ} objects no_owner ∙ sym rules_length;
        owners_good = every_replicate (λ o. ltb o 1 || eqb o no_owner) objects no_owner refl;
      }
    where
      user_good : every (named objects) (65535 ∷ []) ≡ true
      user_good = every_cons (named objects) 65535 [] (unfold named in or_1 (ltb 65535 objects) true refl) (every_nil (named objects))

  -- ---- its normal image

  pub derived_encodable : Encodable (meaning (derived_policy reads writes objects))
  derived_encodable = meaning_encodable (derived_policy reads writes objects) derived_sound

  normal_sound : Sound (normal_policy (derived_policy reads writes objects))
  normal_sound = unfold normal_policy in policy_sound (owned (derived_policy reads writes objects)) (owned_ownable (derived_policy reads writes objects) derived_sound)

  pub derived_read : (check_of (derived_image reads writes objects) ≡ 0) × (policy_in (derived_image reads writes objects) ≡ normal_policy (derived_policy reads writes objects))
  derived_read = unfold derived_image normal_image in read_encode (normal_policy (derived_policy reads writes objects)) normal_sound

  same_owned : owned (normal_policy (derived_policy reads writes objects)) ≡ owned (derived_policy reads writes objects)
  same_owned = unfold normal_policy in policy_owns (owned (derived_policy reads writes objects)) (owned_ownable (derived_policy reads writes objects) derived_sound)

  same_meaning : meaning (normal_policy (derived_policy reads writes objects)) ≡ meaning (derived_policy reads writes objects)
  same_meaning = ((owned_parts (normal_policy (derived_policy reads writes objects)) (derived_policy reads writes objects)).0 same_owned).0

  pub derived_normal : normal_image (normal_policy (derived_policy reads writes objects)) ≡ derived_image reads writes objects
  derived_normal = unfold derived_image normal_image normal_policy in ap (λ (m : Owned). encode (policy_of m)) same_owned

  -- no rule of it has an owner
  pub derived_unowned : every (eqb no_owner) (policy_in (derived_image reads writes objects)).owners ≡ true
  derived_unowned = rw derived_read.1 (none_written (derived_policy reads writes objects) (derived_nobody reads writes objects))

  pub derived_owners : every (eqb no_owner) (owners_at (policy_in (derived_image reads writes objects))) ≡ true
  derived_owners = none_used (policy_in (derived_image reads writes objects)) derived_unowned

  pub derived_short : length (derived_image reads writes objects) ≤ output_bound
  derived_short = unfold derived_image in normal_short (derived_policy reads writes objects) derived_sound

  pub derived_long : header_size ≤ length (derived_image reads writes objects)
  derived_long = unfold derived_image in normal_long (derived_policy reads writes objects) derived_sound

  -- ---- what it means

  rule_here : (b : ℕ) → b < objects → normal_at (map (permit_of reads writes) (count_from 0 objects)) b ≡ normal (permit_of reads writes b)
  unfolding normal_at rule_at
  rule_here b l =
      let e : eqb b 65535 ≡ false = ne_eqb b 65535 (λ q. omega (arith, g.few)) in
      rw e (ap normal (map_at (permit_of reads writes) 0 objects b l ∙ ap (permit_of reads writes) (zero-add b)))

  rule_unrestricted : normal_at (map (permit_of reads writes) (count_from 0 objects)) 65535 ≡ unrestricted_rule
  unfolding normal_at rule_at
  rule_unrestricted = normal_unrestricted

  pub derived_means : meaning (normal_policy (derived_policy reads writes objects))
      ≡ record {
        places = map (file_place reads writes) (count_from 0 objects) ++ replicate (length reads) process_place;
        users = unrestricted_rule ∷ [];
      }
  derived_means = same_meaning ∙ means
    where
      file_place_lem : (b : ℕ) → b < objects → place_of (map (permit_of reads writes) (count_from 0 objects)) (object_file b) ≡ file_place reads writes b
      file_place_lem b l =
          unfold place_of object_file in
          (λ i. record { kind = file_kind; atom = b; permit = rule_here b l i; run = rule_unrestricted i })

      process_place_lem : place_of (map (permit_of reads writes) (count_from 0 objects)) subject_process ≡ process_place
      process_place_lem =
          unfold place_of subject_process in
          (λ i. record { kind = process_kind; atom = no_atom; permit = rule_unrestricted i; run = rule_unrestricted i })

      means : meaning (derived_policy reads writes objects)
          ≡ record {
            places = map (file_place reads writes) (count_from 0 objects) ++ replicate (length reads) process_place;
            users = unrestricted_rule ∷ [];
          }
      means =
          unfold meaning derived_policy in
          (λ i. record {
            places =
                (map-append (place_of (map (permit_of reads writes) (count_from 0 objects))) (map object_file (count_from 0 objects)) (replicate (length reads) subject_process)
                ∙ ap₂ ◌++◌
                (map_count (place_of (map (permit_of reads writes) (count_from 0 objects))) object_file (file_place reads writes) 0 objects (λ b k l. file_place_lem b (omega arith)))
                (map_replicate (place_of (map (permit_of reads writes) (count_from 0 objects))) (length reads) subject_process process_place process_place_lem)) i;
            users = rule_unrestricted i ∷ [];
          })

  pub derived_restricted : (b : ℕ) → b < objects → normal (permit_of reads writes b) ≡ unrestricted_rule → ⊥
  unfolding unrestricted_rule unrestricted
  derived_restricted b l e =
      let m : elem (2 ^ 64 - 1) (normal (permit_of reads writes b)) ≡ true = rw e (elem_here (2 ^ 64 - 1) []) in
      let n : elem (2 ^ 64 - 1) (permit_of reads writes b) ≡ true = normal_among (permit_of reads writes b) (2 ^ 64 - 1) m in
      let s : 2 ^ 64 - 1 < 2 ^ 32 = ltb-true (2 ^ 64 - 1) (2 ^ 32) (every_elem (λ m. ltb m (2 ^ 32)) (permit_of reads writes b) (2 ^ 64 - 1) (permit_data b l) n) in
      omega arith
