-- The bytes of a sound policy are accepted, and spell that policy.
use Prim.Native.Nat.{ℕ, suc, ◌+◌, ◌-◌, ◌*◌, ◌/◌, ◌%◌, ◌^◌, ◌≤◌, ◌<◌}
use mathlib.Core.Path.{◌≡◌, refl, sym, ap, ap₂, ◌∙◌}
use mathlib.Core.Bool.{Bool, true, false, cond, ◌&&◌, ◌||◌}
use mathlib.Core.List.{List, [], ◌∷◌, ◌++◌, map, append_assoc}
use mathlib.Core.Logic.{⊎_elim}
use native.Mathlib.Omega.{arith}
use native.Mathlib.Nat.{mul-mod_left, mul-div_cancel}
use lib.Dec.{eqb, leb, ltb}
use lib.ListN.{length, get_or, take, drop, length-append}
use lib.Seq.{drop_at, take-append_seam}
use borrow.Author.Tests.{eq-eqb, le-leb, lt-ltb, ltb-true, eqb-true, leb-true}
use Rattle.lists.proofs.Bools.{and_in, and_0, and_1, or_cases}
use Rattle.rules.specs.Answers.{data_width, tag_width, mixture_limit}
use Rattle.image.specs.Limits.{
  is_file,
  is_volatile,
  is_process,
  unrestricted_number,
  no_owner,
  no_atom,
  container_limit,
  user_limit,
  rule_limit,
  mixture_total,
  container_size,
  user_size,
  rule_size,
  mixture_size,
  size8,
  size16,
  leading_number,
  header_size,
  image_limit,
  output_bound,
}
use Rattle.fields.specs.Bytes.{number_in, bytes_of, field, Bytes}
use Rattle.lists.specs.Lists.{every, joined}
use Rattle.image.specs.Policy.{Container, Policy, named, owner_good, container_good, rule_good, Sound}
use Rattle.image.specs.Image.{
  Span,
  container_in,
  span_in,
  rule_in,
  containers_in,
  users_in,
  spans_in,
  mixtures_in,
  rules_in,
  owners_in,
  policy_in,
  part,
  whole_good,
  sections_good,
  spans_good,
  rule_records_good,
  rules_good,
  containers_good,
  users_good,
  image_conditions,
  check_of,
}
use Rattle.image.specs.Normal.{container_bytes, span_bytes, spans_of, pair, header, framed, encode}
use Rattle.lists.proofs.Every.{every_0, every_1, every_nil, every_cons, every_append, every_imp, every_drop}
use Rattle.fields.proofs.ByteLaws.{bytes_length, number_bytes, joined_length, section_back, byte, bytes_byte, joined_byte, every_bytes}
use Rattle.image.proofs.ImageRefusals.{refused_by_none}
use Rattle.image.proofs.KindLaws.{kind_low}
use Rattle.image.proofs.FramedSections.{part_0, part_1, part_2, part_3, frame_length, frame_long, frame_pairs}

-- ---- one record

named_fits : (n r : ℕ) → n ≤ rule_limit → named n r ≡ true → r < 256 ^ size16
unfolding named
named_fits n r h k = ⊎_elim (λ p. omega (arith, ltb-true r n p)) (λ p. omega (arith, eqb-true r unrestricted_number p)) (or_cases (ltb r n) k)

record Fits (c : Container) : Type 0 where
  kind : c.kind < 256 ^ size8
  atom : c.atom < 256 ^ size8
  permit : c.permit < 256 ^ size16
  run : c.run < 256 ^ size16

container_fits : (n : ℕ) (c : Container) → n ≤ rule_limit → container_good n c ≡ true → Fits c
unfolding container_good
container_fits n c h g = by (kind_low n c g) (is_file c.kind) g
  where
    file : c.kind < 256 ^ size8 → ((ltb c.atom data_width || eqb c.atom no_atom) && (named n c.permit && named n c.run)) ≡ true → Fits c
    file e k =
        let a : (ltb c.atom data_width || eqb c.atom no_atom) ≡ true = and_0 _ (named n c.permit && named n c.run) k in
        let g : (named n c.permit && named n c.run) ≡ true = and_1 (ltb c.atom data_width || eqb c.atom no_atom) k in
        record {
          kind = e;
          atom =
              ⊎_elim (λ p. omega (arith, ltb-true c.atom data_width p)) (λ p. omega (arith, eqb-true c.atom no_atom p))
              (or_cases (ltb c.atom data_width) a);
          permit = named_fits n c.permit h (and_0 (named n c.permit) (named n c.run) g);
          run = named_fits n c.run h (and_1 (named n c.permit) g);
        }

    other : c.kind < 256 ^ size8
        → ((is_volatile c.kind || is_process c.kind) && (eqb c.atom no_atom && (eqb c.permit unrestricted_number && eqb c.run unrestricted_number))) ≡ true
        → Fits c
    other e k =
        let g : (eqb c.atom no_atom && (eqb c.permit unrestricted_number && eqb c.run unrestricted_number)) ≡ true = and_1 (is_volatile c.kind || is_process c.kind) k in
        let f : (eqb c.permit unrestricted_number && eqb c.run unrestricted_number) ≡ true = and_1 (eqb c.atom no_atom) g in
        record {
          kind = e;
          atom = omega (arith, eqb-true c.atom no_atom (and_0 (eqb c.atom no_atom) (eqb c.permit unrestricted_number && eqb c.run unrestricted_number) g));
          permit = omega (arith, eqb-true c.permit unrestricted_number (and_0 (eqb c.permit unrestricted_number) (eqb c.run unrestricted_number) f));
          run = omega (arith, eqb-true c.run unrestricted_number (and_1 (eqb c.permit unrestricted_number) f));
        }

    by : c.kind < 256 ^ size8 → (b : Bool)
        → cond b ((ltb c.atom data_width || eqb c.atom no_atom) && (named n c.permit && named n c.run))
        ((is_volatile c.kind || is_process c.kind) && (eqb c.atom no_atom && (eqb c.permit unrestricted_number && eqb c.run unrestricted_number))) ≡ true
        → Fits c
    by e true k = file e k
    by e false k = other e k

container_back : (n : ℕ) → n ≤ rule_limit → (c : Container) → container_good n c ≡ true → container_in (container_bytes c) ≡ c
unfolding container_in container_bytes field bytes_of
container_back n h c k =
    let f : Fits c = container_fits n c h k in
    let e0 : number_in (bytes_of size8 c.kind) ≡ c.kind = number_bytes size8 c.kind f.kind in
    let e1 : number_in (bytes_of size8 c.atom) ≡ c.atom = number_bytes size8 c.atom f.atom in
    let e2 : number_in (bytes_of size16 c.permit) ≡ c.permit = number_bytes size16 c.permit f.permit in
    let e3 : number_in (bytes_of size16 c.run) ≡ c.run = number_bytes size16 c.run f.run in
    λ i. record { kind = e0 i; atom = e1 i; permit = e2 i; run = e3 i }

pub container_wide : (c : Container) → length (container_bytes c) ≡ container_size
unfolding container_bytes bytes_of
container_wide c = refl

pub span_wide : (r : Span) → length (span_bytes r) ≡ rule_size
unfolding span_bytes bytes_of
span_wide r = refl

owner_fits : ℕ → Bool
owner_fits o = ltb o (256 ^ size16)

owner_fits_lem : (n o : ℕ) → n ≤ user_limit → owner_good n o ≡ true → owner_fits o ≡ true
unfolding owner_good owner_fits
owner_fits_lem n o h k =
    lt-ltb o (256 ^ size16) (⊎_elim (λ p. omega (arith, ltb-true o n p)) (λ p. omega (arith, eqb-true o no_owner p)) (or_cases (ltb o n) k))

span_fits : Span → Bool
span_fits r = ltb r.first (256 ^ size16) && (ltb r.count (256 ^ size16) && owner_fits r.owner)

span_back : (r : Span) → span_fits r ≡ true → span_in (span_bytes r) ≡ r
unfolding span_in span_bytes field bytes_of span_fits owner_fits
span_back r k =
    let f : r.first < 256 ^ size16 = ltb-true r.first (256 ^ size16) (and_0 (ltb r.first (256 ^ size16)) (ltb r.count (256 ^ size16) && ltb r.owner (256 ^ size16)) k) in
    let j : (ltb r.count (256 ^ size16) && ltb r.owner (256 ^ size16)) ≡ true = and_1 (ltb r.first (256 ^ size16)) k in
    let g : r.count < 256 ^ size16 = ltb-true r.count (256 ^ size16) (and_0 (ltb r.count (256 ^ size16)) (ltb r.owner (256 ^ size16)) j) in
    let h : r.owner < 256 ^ size16 = ltb-true r.owner (256 ^ size16) (and_1 (ltb r.count (256 ^ size16)) j) in
    let e0 : number_in (bytes_of size16 r.first) ≡ r.first = number_bytes size16 r.first f in
    let e1 : number_in (bytes_of size16 r.count) ≡ r.count = number_bytes size16 r.count g in
    let e2 : number_in (bytes_of size16 r.owner) ≡ r.owner = number_bytes size16 r.owner h in
    λ i. record { first = e0 i; count = e1 i; owner = e2 i }

-- ---- the rules and their mixtures

short : (r : List ℕ) → rule_good r ≡ true → length r ≤ mixture_limit
unfolding rule_good
short r h = leb-true (length r) mixture_limit (and_0 (leb (length r) mixture_limit) (every (λ m. ltb m (2 ^ tag_width)) r) h)

joined_short : (rules : List (List ℕ)) → every rule_good rules ≡ true → length (joined rules) ≤ mixture_limit * length rules
unfolding joined
joined_short [] h = omega arith
joined_short (r ∷ rules) h =
    let e : length (r ++ joined rules) ≡ length r + length (joined rules) = length-append r (joined rules) in
    omega (arith, short r (every_0 rule_good r rules h), joined_short rules (every_1 rule_good r rules h))

joined_words : (rules : List (List ℕ)) → every rule_good rules ≡ true → every (λ m. ltb m (2 ^ tag_width)) (joined rules) ≡ true
unfolding joined rule_good
joined_words [] h = every_nil (λ m. ltb m (2 ^ tag_width))
joined_words (r ∷ rules) h =
    every_append (λ m. ltb m (2 ^ tag_width)) r (joined rules) (and_1 (leb (length r) mixture_limit) (every_0 rule_good r rules h)) (joined_words rules (every_1 rule_good r rules h))

pub spans_length : (first : ℕ) (rules : List (List ℕ)) (owners : List ℕ) → length (spans_of first rules owners) ≡ length rules
unfolding spans_of
spans_length first [] owners = refl
spans_length first (r ∷ rules) owners = ap suc (spans_length (first + length r) rules (drop 1 owners))

-- the owner of the next rule
head_fits : (owners : List ℕ) → every owner_fits owners ≡ true → owner_fits (get_or owners 0 no_owner) ≡ true
head_fits [] h = unfold owner_fits in refl
head_fits (o ∷ owners) h = every_0 owner_fits o owners h

spans_fit : (first : ℕ) (rules : List (List ℕ)) (owners : List ℕ) → first + length (joined rules) < 256 ^ size16 → every owner_fits owners ≡ true → every span_fits (spans_of first rules owners) ≡ true
unfolding spans_of joined span_fits
spans_fit first [] owners h k = every_nil span_fits
spans_fit first (r ∷ rules) owners h k =
    let e : length (r ++ joined rules) ≡ length r + length (joined rules) = length-append r (joined rules) in
    every_cons span_fits (record { first = first; count = length r; owner = get_or owners 0 no_owner }) (spans_of (first + length r) rules (drop 1 owners))
    (and_in (lt-ltb first (256 ^ size16) (omega arith)) (and_in (lt-ltb (length r) (256 ^ size16) (omega arith)) (head_fits owners k)))
    (spans_fit (first + length r) rules (drop 1 owners) (omega arith) (every_drop owner_fits 1 owners k))

spans_good_lem : (m from first : ℕ) (rules : List (List ℕ)) (owners : List ℕ)
    → from ≤ first → first + length (joined rules) ≤ m → every rule_good rules ≡ true → spans_good m from (spans_of first rules owners) ≡ true
unfolding spans_good spans_of joined
spans_good_lem m from first [] owners l h k = refl
spans_good_lem m from first (r ∷ rules) owners l h k =
    let e : length (r ++ joined rules) ≡ length r + length (joined rules) = length-append r (joined rules) in
    and_in (le-leb from first l)
    (and_in (le-leb (length r) mixture_limit (short r (every_0 rule_good r rules k)))
    (and_in (le-leb (first + length r) m (omega arith))
    (spans_good_lem m first (first + length r) rules (drop 1 owners) (omega arith) (omega arith) (every_1 rule_good r rules k))))

-- rules that are written one behind the other are read back
rules_back : (rules : List (List ℕ)) (owners p q : List ℕ) (first : ℕ) → length p ≡ first → q ≡ p ++ joined rules → map (rule_in q) (spans_of first rules owners) ≡ rules
unfolding spans_of joined rule_in
rules_back [] owners p q first e f = refl
rules_back (r ∷ rules) owners p q first e f =
    ap₂ ◌∷◌ (ap (λ (x : List ℕ). take (length r) (drop first x)) f ∙ ap (take (length r)) (drop_at p (r ++ joined rules) first e) ∙ take-append_seam r (joined rules))
    (rules_back rules (drop 1 owners) (p ++ r) q (first + length r) (length-append p r ∙ omega (arith, e)) (f ∙ sym (append_assoc p r (joined rules))))

-- and their owners
owners_back : (first : ℕ) (rules : List (List ℕ)) (owners : List ℕ) → length owners ≡ length rules → map (λ s. s.owner) (spans_of first rules owners) ≡ owners
unfolding spans_of
owners_back first [] [] e = refl
owners_back first [] (o ∷ owners) e = absurd (omega arith)
owners_back first (r ∷ rules) [] e = absurd (omega arith)
owners_back first (r ∷ rules) (o ∷ owners) e = ap (λ (l : List ℕ). o ∷ l) (owners_back (first + length r) rules owners (omega arith))

-- ---- the whole image

whole : (w most n : ℕ) (s : List ℕ) → 0 < w → length s ≡ n * w → n ≤ most → whole_good w most s ≡ true
unfolding whole_good
whole w most n s h e l =
    and_in (eq-eqb (length s % w) 0 (ap (λ (x : ℕ). x % w) e ∙ mul-mod_left n w))
    (le-leb (length s / w) most (omega (arith, ap (λ (x : ℕ). x / w) e ∙ mul-div_cancel n h)))

module _ (p : Policy) (h : Sound p) where
  c : List ℕ
  c = joined (map container_bytes p.containers)

  c_length : length c ≡ length p.containers * container_size
  unfolding c
  c_length = joined_length container_size container_bytes container_wide p.containers

  c_back : containers_in c ≡ p.containers
  unfolding c containers_in
  c_back =
      section_back container_size container_bytes container_wide (omega arith) (container_good (length p.rules)) container_in
      (container_back (length p.rules) h.few_rules) p.containers h.containers_good

  u : List ℕ
  u = joined (map (bytes_of user_size) p.users)

  u_length : length u ≡ length p.users * user_size
  unfolding u
  u_length = joined_length user_size (bytes_of user_size) (bytes_length user_size) p.users

  u_back : users_in u ≡ p.users
  unfolding u users_in
  u_back =
      section_back user_size (bytes_of user_size) (bytes_length user_size) (omega arith) (named (length p.rules)) number_in
      (λ n k. number_bytes user_size n (named_fits (length p.rules) n h.few_rules k)) p.users h.users_good

  r : List ℕ
  r = joined (map span_bytes (spans_of 0 p.rules p.owners))

  r_length : length r ≡ length p.rules * rule_size
  unfolding r
  r_length = joined_length rule_size span_bytes span_wide (spans_of 0 p.rules p.owners) ∙ ap (λ (n : ℕ). n * rule_size) (spans_length 0 p.rules p.owners)

  all_short : length (joined p.rules) ≤ mixture_total
  all_short = omega (arith, joined_short p.rules h.rules_good, h.few_rules)

  owners_fit : every owner_fits p.owners ≡ true
  owners_fit = every_imp (owner_good (length p.users)) owner_fits p.owners (λ o k. owner_fits_lem (length p.users) o h.few_users k) h.owners_good

  r_back : spans_in r ≡ spans_of 0 p.rules p.owners
  unfolding r spans_in
  r_back =
      section_back rule_size span_bytes span_wide (omega arith) span_fits span_in span_back (spans_of 0 p.rules p.owners)
      (spans_fit 0 p.rules p.owners (omega (arith, all_short)) owners_fit)

  m : List ℕ
  m = joined (map (bytes_of mixture_size) (joined p.rules))

  m_length : length m ≡ length (joined p.rules) * mixture_size
  unfolding m
  m_length = joined_length mixture_size (bytes_of mixture_size) (bytes_length mixture_size) (joined p.rules)

  m_back : mixtures_in m ≡ joined p.rules
  unfolding m mixtures_in
  m_back =
      section_back mixture_size (bytes_of mixture_size) (bytes_length mixture_size) (omega arith) (λ n. ltb n (2 ^ tag_width)) number_in
      (λ n k. number_bytes mixture_size n (omega (arith, ltb-true n (2 ^ tag_width) k))) (joined p.rules) (joined_words p.rules h.rules_good)

  fits : length c + length u + length r + length m ≤ image_limit - header_size
  fits = omega (arith, c_length, u_length, r_length, m_length, all_short, h.few_containers, h.few_users, h.few_rules)

  encoded : encode p ≡ framed c u r m
  unfolding encode c u r m
  encoded = refl

  framed_policy : policy_in (framed c u r m) ≡ p
  unfolding policy_in rules_in owners_in
  framed_policy =
      let e0 : containers_in (part (framed c u r m) 0) ≡ p.containers = rw (part_0 c u r m fits) c_back in
      let e1 : users_in (part (framed c u r m) 1) ≡ p.users = rw (part_1 c u r m fits) u_back in
      let e2 : map (rule_in (mixtures_in (part (framed c u r m) 3))) (spans_in (part (framed c u r m) 2)) ≡ p.rules =
      rw (part_3 c u r m fits, part_2 c u r m fits, r_back) (rules_back p.rules p.owners [] (mixtures_in m) 0 refl m_back) in
      let e3 : map (λ s. s.owner) (spans_in (part (framed c u r m) 2)) ≡ p.owners = rw (part_2 c u r m fits, r_back) (owners_back 0 p.rules p.owners h.owners_long) in
      λ i. record { containers = e0 i; users = e1 i; rules = e2 i; owners = e3 i }

  framed_sections : sections_good (framed c u r m) ≡ true
  unfolding sections_good
  framed_sections =
      rw (part_0 c u r m fits, part_1 c u r m fits, part_2 c u r m fits, part_3 c u r m fits)
      (and_in (whole container_size container_limit (length p.containers) c (omega arith) c_length h.few_containers)
      (and_in (whole user_size user_limit (length p.users) u (omega arith) u_length h.few_users)
      (and_in (whole rule_size rule_limit (length p.rules) r (omega arith) r_length h.few_rules)
      (whole mixture_size mixture_total (length (joined p.rules)) m (omega arith) m_length all_short))))

  users_count : length u / user_size ≡ length p.users
  users_count = omega (arith, u_length)

  framed_owners : every (owner_good (length u / user_size)) (map (λ s. s.owner) (spans_of 0 p.rules p.owners)) ≡ true
  framed_owners = rw (users_count, owners_back 0 p.rules p.owners h.owners_long) h.owners_good

  framed_rules : rules_good (framed c u r m) ≡ true
  unfolding rules_good rule_records_good owners_in
  framed_rules =
      rw (part_3 c u r m fits, part_2 c u r m fits, part_1 c u r m fits, r_back)
      (and_in (spans_good_lem (length m / mixture_size) 0 0 p.rules p.owners (omega arith) (omega (arith, m_length)) h.rules_good) framed_owners)

  rules_count : length r / rule_size ≡ length p.rules
  rules_count = omega (arith, r_length)

  framed_containers : containers_good (framed c u r m) ≡ true
  unfolding containers_good
  framed_containers = rw (part_2 c u r m fits, part_0 c u r m fits, rules_count, c_back) h.containers_good

  framed_users : users_good (framed c u r m) ≡ true
  unfolding users_good
  framed_users = rw (part_2 c u r m fits, part_1 c u r m fits, rules_count, u_back) h.users_good

  framed_check : check_of (framed c u r m) ≡ 0
  unfolding image_conditions
  framed_check = (refused_by_none (framed c u r m)).1 (frame_long c u r m fits, (frame_pairs c u r m fits, (framed_sections, (framed_rules, (framed_containers, framed_users)))))

  -- DECODE AFTER ENCODE
  pub check_encode : check_of (encode p) ≡ 0
  check_encode = ap check_of encoded ∙ framed_check

  pub policy_encode : policy_in (encode p) ≡ p
  policy_encode = ap policy_in encoded ∙ framed_policy

  pub read_encode : (check_of (encode p) ≡ 0) × (policy_in (encode p) ≡ p)
  read_encode = (check_encode, policy_encode)

  pub encode_length : length (encode p) ≡ header_size + container_size * length p.containers + user_size * length p.users + rule_size * length p.rules + mixture_size * length (joined p.rules)
  encode_length = ap length encoded ∙ frame_length c u r m fits ∙ omega (arith, c_length, u_length, r_length, m_length)

  pub encode_short : length (encode p) ≤ output_bound
  encode_short = omega (arith, encode_length, all_short, h.few_containers, h.few_users, h.few_rules)

-- ---- it is bytes

pair_byte : (o : ℕ) (s : List ℕ) → every byte (pair o s) ≡ true
unfolding pair
pair_byte o s = every_append byte (bytes_of size16 o) (bytes_of size16 (length s)) (bytes_byte size16 o) (bytes_byte size16 (length s))

framed_byte : (c u r m : List ℕ) → every byte c ≡ true → every byte u ≡ true → every byte r ≡ true → every byte m ≡ true → every byte (framed c u r m) ≡ true
unfolding framed header
framed_byte c u r m hc hu hr hm =
    every_append byte _ (c ++ (u ++ (r ++ m)))
    (every_append byte (bytes_of size16 leading_number) _ (bytes_byte size16 leading_number)
    (every_append byte (pair header_size c) _ (pair_byte header_size c)
    (every_append byte (pair (header_size + length c) u) _ (pair_byte (header_size + length c) u)
    (every_append byte (pair (header_size + length c + length u) r) _ (pair_byte (header_size + length c + length u) r) (pair_byte (header_size + length c + length u + length r) m)))))
    (every_append byte c (u ++ (r ++ m)) hc (every_append byte u (r ++ m) hu (every_append byte r m hr hm)))

pub encode_bytes : (p : Policy) → Bytes (encode p)
unfolding encode
encode_bytes p =
    every_bytes (encode p)
    (framed_byte
    (joined (map container_bytes p.containers))
    (joined (map (bytes_of user_size) p.users))
    (joined (map span_bytes (spans_of 0 p.rules p.owners)))
    (joined (map (bytes_of mixture_size) (joined p.rules)))
    (joined_byte container_bytes container_byte p.containers)
    (joined_byte (bytes_of user_size) (bytes_byte user_size) p.users)
    (joined_byte span_bytes span_byte (spans_of 0 p.rules p.owners))
    (joined_byte (bytes_of mixture_size) (bytes_byte mixture_size) (joined p.rules)))
  where
    container_byte : (c : Container) → every byte (container_bytes c) ≡ true
    container_byte c =
        unfold container_bytes in
        every_append byte (bytes_of size8 c.kind) (bytes_of size8 c.atom ++ (bytes_of size16 c.permit ++ bytes_of size16 c.run)) (bytes_byte size8 c.kind)
        (every_append byte (bytes_of size8 c.atom) (bytes_of size16 c.permit ++ bytes_of size16 c.run) (bytes_byte size8 c.atom)
        (every_append byte (bytes_of size16 c.permit) (bytes_of size16 c.run) (bytes_byte size16 c.permit) (bytes_byte size16 c.run)))

    span_byte : (r : Span) → every byte (span_bytes r) ≡ true
    span_byte r =
        unfold span_bytes in
        every_append byte (bytes_of size16 r.first) (bytes_of size16 r.count ++ bytes_of size16 r.owner) (bytes_byte size16 r.first)
        (every_append byte (bytes_of size16 r.count) (bytes_of size16 r.owner) (bytes_byte size16 r.count) (bytes_byte size16 r.owner))
