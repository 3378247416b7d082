-- The policy that the tables hand to the writer owns what the two images own together.
use Prim.Native.Nat.{ℕ, zero, suc, ◌+◌, ◌-◌, ◌*◌, ◌/◌, ◌^◌, ◌≤◌, ◌<◌}
use mathlib.Core.Path.{◌≡◌, refl, sym, ap, ap₂, ◌∙◌}
use mathlib.Core.Bool.{Bool, true, false, cond, ◌&&◌}
use mathlib.Core.List.{List, [], ◌∷◌, ◌++◌, map, append_assoc}
use mathlib.Core.Logic.{⊎_elim}
use native.Mathlib.Omega.{arith}
use lib.Dec.{eqb, ltb, leb}
use lib.ListN.{length, get_or, take, drop, length-append, length-map}
use lib.Seq.{take_at, length-take-le}
use borrow.Author.Tests.{ltb-true, lt-ltb, eqb-true, ne_eqb}
use borrow.Rule.Slice.PartMut.{put_mid}
use Rattle.image.proofs.KindLaws.{kind_low}
use Rattle.lists.specs.Counting.{count_from}
use Rattle.lists.specs.Lists.{every, joined}
use Rattle.lists.proofs.Bools.{and_in, and_0, and_1, or_0, or_cases}
use Rattle.lists.proofs.Every.{every_0, every_1, every_nil, every_cons, every_imp, every_map, every_get_d}
use Rattle.lists.proofs.Same.{same_eq}
use Rattle.fields.proofs.RowWriting.{front_written}
use Rattle.fields.specs.Bytes.{number_in, bytes_of, field}
use Rattle.fields.specs.Writing.{overwritten, Wrote}
use Rattle.std.proofs.Common.{Some, None}
use Rattle.fields.proofs.ByteLaws.{bytes_length, number_bytes, section_back}
use Rattle.rules.specs.Rules.{normal}
use Rattle.rules.specs.Answers.{data_width, mixture_limit}
use Rattle.image.specs.Limits.{container_size, user_size, rule_size, size8, size16, no_atom, unrestricted_number}
use Rattle.image.specs.Policy.{Container, Policy, rule_at, owner_at, named, container_good}
use Rattle.image.specs.Image.{part, container_in, containers_in, users_in, policy_in}
use Rattle.image.specs.Normal.{Use, normal_at, use_at, owned_place, owned, place_uses, uses, free_use, Owned, policy_of, encode, normal_policy, normal_image, container_bytes}
use Rattle.image.proofs.AcceptedImage.{accepted_containers, few_containers_lem, few_users_lem}
use Rattle.image.proofs.Encode.{container_wide}
use Rattle.image.proofs.Numbering.{use_in, mixtures_in, owner_in}
use Rattle.image.proofs.RecordsByPlace.{containers_count, users_count}
use Rattle.image.proofs.WrittenMeaning.{container_atom}
use Rattle.normaliser.specs.Writer.{form_width, form_row, normal_use, form_words, policy_given, policy_at, container_uses, use_limit, Usable, Tabled, rules_needed, writer_answer}
use Rattle.normaliser.specs.Writer.{writer_effect, Answered}
use Rattle.normaliser.proofs.WriterLaws.{words_length, words_tabled, words_answered}
use Rattle.composition.specs.Composed.{composed_use, composed_uses, composed_place, composed_places, composed_owned}
use Rattle.composition.specs.Images.{short_use, uses_short, rules_few, limit_good}
use Rattle.composition.specs.Tables.{Paired, pair_uses, use_count, UsesPut, own_numbers, pair_owned, PairWritten}
use Rattle.composition.proofs.UseLaws.{Alike, alike_uses, Matched, uses_append, uses_normal, uses_count, normal_test, owned_uses}
use Rattle.composition.proofs.ImageLaws.{matched}
use Rattle.composition.proofs.UseNumbers.{use_count_lem, pair_count}
use Rattle.composition.proofs.RecordLoops.{own_count, own_rows, user_rows, users_size}

-- ---- what the writer answers, and what is told of it

-- the length of the image, which is written; 0 if a rule does not fit or there are too many, and nothing is
pub record PairLent (m : Owned) (before after : List ℕ) (n : ℕ) : Type 0 where
  pub answer : n ≡ cond (limit_good m) (length (encode (policy_of m))) 0
  pub effect : after ≡ cond (limit_good m) (overwritten (encode (policy_of m)) 0 before) before

module _ (m : Owned) {before after : List ℕ} {n : ℕ} (w : PairLent m before after n) where
  pub lent_none : 0 < length (encode (policy_of m)) → n ≡ 0 → PairWritten m before after None
  lent_none long z = record { answer = by (limit_good m) refl; effect = w.effect }
    where
      by : (x : Bool) → limit_good m ≡ x → None ≡ cond (limit_good m) (Some (length (encode (policy_of m)))) None
      by true h = let l : n ≡ length (encode (policy_of m)) = rw h at w.answer in absurd (omega (arith, long))
      by false h = rw h

  pub lent_some : (n ≡ 0 → ⊥) → PairWritten m before after (Some n)
  lent_some d = record { answer = by (limit_good m) refl; effect = w.effect }
    where
      by : (x : Bool) → limit_good m ≡ x → Some n ≡ cond (limit_good m) (Some (length (encode (policy_of m)))) None
      by true h = let l : n ≡ length (encode (policy_of m)) = rw h at w.answer in rw h (ap Some l)
      by false h = let z : n ≡ 0 = rw h at w.answer in absurd (d z)

-- ---- numbers from k on

abbrev below : ℕ → ℕ → Bool
below n r = ltb r n

count_below : (k m n : ℕ) → k + m ≤ n → every (below n) (count_from k m) ≡ true
unfolding count_from
count_below k zero n h = every_nil (below n)
count_below k (suc m) n h = every_cons (below n) k (count_from (suc k) m) (lt-ltb k n (omega arith)) (count_below (suc k) m n (omega arith))

own_uses : (k : ℕ) (cs : List Container) → container_uses (own_numbers k cs) ≡ count_from k (2 * length cs)
unfolding container_uses own_numbers count_from
own_uses k [] = refl
own_uses k (c ∷ cs) =
    let e : 2 * suc (length cs) ≡ suc (suc (2 * length cs)) = omega arith in
    ap (λ (l : List ℕ). k ∷ suc k ∷ l) (own_uses (suc (suc k)) cs) ∙ sym (ap (count_from k) e)

-- ---- containers are read back

abbrev fits : Container → Bool
fits c = ltb c.kind (256 ^ size8) && (ltb c.atom (256 ^ size8) && (ltb c.permit (256 ^ size16) && ltb c.run (256 ^ size16)))

atom_low : (n : ℕ) (c : Container) → container_good n c ≡ true → c.atom < 256 ^ size8
atom_low n c h =
    ⊎_elim (λ p. omega (arith, ltb-true c.atom data_width p)) (λ p. omega (arith, eqb-true c.atom no_atom p)) (or_cases (ltb c.atom data_width) (container_atom n c h))

own_fit : (n k : ℕ) (cs : List Container) → every (container_good n) cs ≡ true → k + 2 * length cs ≤ 256 ^ size16 → every fits (own_numbers k cs) ≡ true
unfolding own_numbers
own_fit n k [] h l = every_nil fits
own_fit n k (c ∷ cs) h l =
    let g : container_good n c ≡ true = every_0 (container_good n) c cs h in
    every_cons fits (record { kind = c.kind; atom = c.atom; permit = k; run = suc k }) (own_numbers (suc (suc k)) cs)
    (and_in (lt-ltb c.kind (256 ^ size8) (kind_low n c g))
    (and_in (lt-ltb c.atom (256 ^ size8) (atom_low n c g)) (and_in (lt-ltb k (256 ^ size16) (omega arith)) (lt-ltb (suc k) (256 ^ size16) (omega arith)))))
    (own_fit n (suc (suc k)) cs (every_1 (container_good n) c cs h) (omega arith))

fit_back : (c : Container) → fits c ≡ true → container_in (container_bytes c) ≡ c
unfolding container_in container_bytes field bytes_of
fit_back c h =
    let f : (ltb c.atom (256 ^ size8) && (ltb c.permit (256 ^ size16) && ltb c.run (256 ^ size16))) ≡ true = and_1 (ltb c.kind (256 ^ size8)) h in
    let g : (ltb c.permit (256 ^ size16) && ltb c.run (256 ^ size16)) ≡ true = and_1 (ltb c.atom (256 ^ size8)) f in
    let e0 : number_in (bytes_of size8 c.kind) ≡ c.kind =
    number_bytes size8 c.kind
    (ltb-true c.kind (256 ^ size8)
    (and_0 (ltb c.kind (256 ^ size8)) (ltb c.atom (256 ^ size8) && (ltb c.permit (256 ^ size16) && ltb c.run (256 ^ size16))) h)) in
    let e1 : number_in (bytes_of size8 c.atom) ≡ c.atom =
    number_bytes size8 c.atom
    (ltb-true c.atom (256 ^ size8) (and_0 (ltb c.atom (256 ^ size8)) (ltb c.permit (256 ^ size16) && ltb c.run (256 ^ size16)) f)) in
    let e2 : number_in (bytes_of size16 c.permit) ≡ c.permit =
    number_bytes size16 c.permit (ltb-true c.permit (256 ^ size16) (and_0 (ltb c.permit (256 ^ size16)) (ltb c.run (256 ^ size16)) g)) in
    let e3 : number_in (bytes_of size16 c.run) ≡ c.run = number_bytes size16 c.run (ltb-true c.run (256 ^ size16) (and_1 (ltb c.permit (256 ^ size16)) g)) in
    λ i. record { kind = e0 i; atom = e1 i; permit = e2 i; run = e3 i }

-- ---- a use by its place

at_seam : (pre : List Use) (x : Use) (rest : List Use) → get_or (pre ++ (x ∷ rest)) (length pre) free_use ≡ x
at_seam [] x rest = refl
at_seam (y ∷ pre) x rest = at_seam pre x rest

seam_short : (pre : List Use) (x : Use) (rest : List Use) → length pre < length (pre ++ (x ∷ rest))
seam_short pre x rest = omega (arith, length-append pre (x ∷ rest))

module _ (containers users : List ℕ) (r : List Use) (few : length r ≤ use_limit) (settled : every normal_test r ≡ true) where
  abbrev given : Policy
  given = policy_given containers users r

  use_of : (k : ℕ) → k < length r → use_at given k ≡ get_or r k free_use
  unfolding use_at policy_given normal_at
  use_of k l =
      let i : use_in r k ≡ get_or r k free_use = unfold use_in in (rw (ne_eqb k unrestricted_number (λ z. omega arith))) in
      let n : named (length r) k ≡ true = unfold named in (or_0 (ltb k (length r)) (eqb k unrestricted_number) (lt-ltb k (length r) l)) in
      let m : normal (rule_at (map (λ u. u.mixtures) r) k) ≡ (get_or r k free_use).mixtures =
      ap normal (mixtures_in r k n ∙ ap (λ (u : Use). u.mixtures) i)
      ∙ same_eq (normal (get_or r k free_use).mixtures) (get_or r k free_use).mixtures (every_get_d normal_test r k free_use l settled) in
      let o : owner_at (map (λ u. u.owner) r) k ≡ (get_or r k free_use).owner = owner_in r k n ∙ ap (λ (u : Use). u.owner) i in
      λ j. record { owner = o j; mixtures = m j }

  use_behind : (pre : List Use) (x : Use) (rest : List Use) → r ≡ pre ++ (x ∷ rest) → use_at given (length pre) ≡ x
  use_behind pre x rest e =
      use_of (length pre) (omega (arith, ap length e, seam_short pre x rest)) ∙ ap (λ (l : List Use). get_or l (length pre) free_use) e ∙ at_seam pre x rest

  module _ (c : ℕ) (p q : Policy) where
    place_own : (pre : List Use) (x : Container) (first second : Use) (rest : List Use) → r ≡ pre ++ (first ∷ second ∷ rest)
        → owned_place given (record { kind = x.kind; atom = x.atom; permit = length pre; run = suc (length pre) }) ≡ record { kind = x.kind; atom = x.atom; permit = first; run = second }
    unfolding owned_place
    place_own pre x first second rest e =
        let n : length (pre ++ (first ∷ [])) ≡ suc (length pre) = length-append pre (first ∷ []) ∙ omega arith in
        let permit : use_at given (length pre) ≡ first = use_behind pre first (second ∷ rest) e in
        let run : use_at given (suc (length pre)) ≡ second = ap (use_at given) (sym n) ∙ use_behind (pre ++ (first ∷ [])) second rest (e ∙ sym (append_assoc pre (first ∷ []) (second ∷ rest))) in
        λ i. record { kind = x.kind; atom = x.atom; permit = permit i; run = run i }

    places_own : (pre : List Use) (cs ds : List Container) (rest : List Use)
        → r ≡ pre ++ (composed_uses c (place_uses (map (owned_place p) cs)) (place_uses (map (owned_place q) ds)) ++ rest)
        → Alike (map (owned_place p) cs) (map (owned_place q) ds)
        → map (owned_place given) (own_numbers (length pre) cs) ≡ composed_places c (map (owned_place p) cs) (map (owned_place q) ds)
    unfolding own_numbers composed_places composed_place place_uses composed_uses owned_place
    places_own pre [] [] rest e a = refl
    places_own pre [] (d ∷ ds) rest e a = absurd a
    places_own pre (x ∷ cs) [] rest e a = absurd a
    places_own pre (x ∷ cs) (y ∷ ds) rest e a =
        let first : Use = composed_use c (use_at p x.permit) (use_at q y.permit) in
        let second : Use = composed_use c (use_at p x.run) (use_at q y.run) in
        let later : List Use = composed_uses c (place_uses (map (owned_place p) cs)) (place_uses (map (owned_place q) ds)) in
        let n : length (pre ++ (first ∷ second ∷ [])) ≡ suc (suc (length pre)) = length-append pre (first ∷ second ∷ []) ∙ omega arith in
        ap₂ ◌∷◌ (place_own pre x first second (later ++ rest) e)
        (ap (λ (k : ℕ). map (owned_place given) (own_numbers k cs)) (sym n)
        ∙ places_own (pre ++ (first ∷ second ∷ [])) cs ds rest (e ∙ sym (append_assoc pre (first ∷ second ∷ []) (later ++ rest))) a.2)

    users_own : (pre : List Use) (us vs : List ℕ) → r ≡ pre ++ composed_uses c (map (use_at p) us) (map (use_at q) vs) → length us ≡ length vs
        → map (use_at given) (count_from (length pre) (length us)) ≡ composed_uses c (map (use_at p) us) (map (use_at q) vs)
    unfolding count_from composed_uses
    users_own pre [] vs e l = refl
    users_own pre (u ∷ us) [] e l = absurd (omega arith)
    users_own pre (u ∷ us) (v ∷ vs) e l =
        let x : Use = composed_use c (use_at p u) (use_at q v) in
        let n : length (pre ++ (x ∷ [])) ≡ suc (length pre) = length-append pre (x ∷ []) ∙ omega arith in
        ap₂ ◌∷◌ (use_behind pre x (composed_uses c (map (use_at p) us) (map (use_at q) vs)) e)
        (ap (λ (k : ℕ). map (use_at given) (count_from k (length us))) (sym n)
        ∙ users_own (pre ++ (x ∷ [])) us vs (e ∙ sym (append_assoc pre (x ∷ []) (composed_uses c (map (use_at p) us) (map (use_at q) vs)))) (omega arith))

-- ---- the tables

module _ (c : ℕ) (a b : List ℕ) (h : Paired a b) where
  abbrev n : ℕ
  n = length (part a 0) / container_size

  abbrev u : ℕ
  u = length (part a 1) / user_size

  abbrev rows : List Use
  rows = pair_uses c a b

  abbrev pub places_bytes : List ℕ
  places_bytes = joined (own_rows (part a 0))

  abbrev pub users_bytes : List ℕ
  users_bytes = joined (user_rows (2 * n) u)

  rows_count : length rows ≡ 2 * n + u
  rows_count = pair_count a b h c ∙ use_count_lem a

  few_uses : 2 * n + u ≤ use_limit
  few_uses = omega (arith, few_containers_lem a h.first, few_users_lem a h.first)

  pub uses_few : use_count a ≤ use_limit
  uses_few = omega (arith, few_uses, use_count_lem a)

  -- the part of the table that is lent
  pub lent_long : (zeros : List ℕ) → use_limit * form_width ≤ length zeros → length (take ((2 * n + u) * form_width - 0) zeros) ≡ use_count a * form_width
  lent_long zeros l =
      let w : (2 * n + u) * form_width - 0 ≡ use_count a * form_width = omega (arith, use_count_lem a) in
      length-take-le ((2 * n + u) * form_width - 0) zeros (omega (arith, few_uses)) ∙ w

  places_back : containers_in places_bytes ≡ own_numbers 0 (containers_in (part a 0))
  unfolding containers_in
  places_back =
      section_back container_size container_bytes container_wide (omega arith) fits container_in fit_back (own_numbers 0 (containers_in (part a 0)))
      (own_fit (length (part a 2) / rule_size) 0 (containers_in (part a 0)) (accepted_containers a h.first) (omega (arith, containers_count (part a 0), few_containers_lem a h.first)))

  users_back : users_in users_bytes ≡ count_from (2 * n) u
  unfolding users_in
  users_back =
      section_back user_size (bytes_of user_size) (bytes_length user_size) (omega arith) (below (256 ^ user_size)) number_in
      (λ r k. number_bytes user_size r (ltb-true r (256 ^ user_size) k)) (count_from (2 * n) u) (count_below (2 * n) u (256 ^ user_size) (omega (arith, few_uses)))

  match : Matched (owned (policy_in a)) (owned (policy_in b))
  match = matched (policy_in a) (policy_in b) h.shape

  settled : every normal_test rows ≡ true
  unfolding pair_uses
  settled = uses_normal c (uses (owned (policy_in a))) (uses (owned (policy_in b)))

  rows_split : rows ≡ composed_uses c (place_uses (owned (policy_in a)).places) (place_uses (owned (policy_in b)).places) ++ composed_uses c (owned (policy_in a)).users (owned (policy_in b)).users
  unfolding pair_uses uses
  rows_split =
      uses_append c (place_uses (owned (policy_in a)).places) (place_uses (owned (policy_in b)).places) (owned (policy_in a)).users (owned (policy_in b)).users
      (alike_uses (owned (policy_in a)).places (owned (policy_in b)).places match.places)

  rows_few : length rows ≤ use_limit
  rows_few = omega (arith, rows_count, few_uses)

  users_same : length (policy_in a).users ≡ length (policy_in b).users
  unfolding owned
  users_same = sym (length-map (policy_in a).users (use_at (policy_in a))) ∙ match.users ∙ length-map (policy_in b).users (use_at (policy_in b))

  front_long : length (composed_uses c (place_uses (owned (policy_in a)).places) (place_uses (owned (policy_in b)).places)) ≡ 2 * n
  unfolding owned policy_in
  front_long =
      omega (
        arith,
        rows_count,
        ap length rows_split,
        length-append (composed_uses c (place_uses (owned (policy_in a)).places) (place_uses (owned (policy_in b)).places)) (composed_uses c (owned (policy_in a)).users (owned (policy_in b)).users),
        uses_count c (owned (policy_in a)).users (owned (policy_in b)).users match.users,
        length-map (users_in (part a 1)) (use_at (policy_in a)),
        users_count (part a 1),
      )

  pair_places : map (owned_place (policy_given places_bytes users_bytes rows)) (containers_in places_bytes) ≡ composed_places c (owned (policy_in a)).places (owned (policy_in b)).places
  unfolding owned policy_in
  pair_places =
      ap (map (owned_place (policy_given places_bytes users_bytes rows))) places_back
      ∙ places_own places_bytes users_bytes rows rows_few settled c (policy_in a) (policy_in b) [] (policy_in a).containers (policy_in b).containers
      (composed_uses c (owned (policy_in a)).users (owned (policy_in b)).users) rows_split match.places

  pair_users : map (use_at (policy_given places_bytes users_bytes rows)) (users_in users_bytes) ≡ composed_uses c (owned (policy_in a)).users (owned (policy_in b)).users
  unfolding owned policy_in
  pair_users =
      ap (map (use_at (policy_given places_bytes users_bytes rows))) (users_back ∙ ap₂ count_from (sym front_long) (sym (users_count (part a 1))))
      ∙ users_own places_bytes users_bytes rows rows_few settled c (policy_in a) (policy_in b)
      (composed_uses c (place_uses (owned (policy_in a)).places) (place_uses (owned (policy_in b)).places)) (policy_in a).users (policy_in b).users rows_split users_same

  -- THE BRIDGE: the policy that is handed over owns what is composed
  pair_owned_lem : owned (policy_given places_bytes users_bytes rows) ≡ pair_owned c a b
  unfolding pair_owned composed_owned
  pair_owned_lem = λ i. record { places = places i; users = users i }
    where
      places : (owned (policy_given places_bytes users_bytes rows)).places ≡ composed_places c (owned (policy_in a)).places (owned (policy_in b)).places
      places = unfold owned policy_given in pair_places

      users : (owned (policy_given places_bytes users_bytes rows)).users ≡ composed_uses c (owned (policy_in a)).users (owned (policy_in b)).users
      users = unfold owned policy_given in pair_users

  short_told : uses_short (pair_owned c a b) ≡ every short_use rows
  unfolding uses_short pair_owned pair_uses
  short_told = ap (every short_use) (owned_uses c (owned (policy_in a)) (owned (policy_in b)) match)

  -- a rule does not fit
  pub pair_over : {forms : List ℕ} {fit : Bool} → UsesPut rows forms fit → fit ≡ false → (out : List ℕ) → PairWritten (pair_owned c a b) out out None
  unfolding limit_good
  pair_over w e out =
      let s : uses_short (pair_owned c a b) ≡ false = short_told ∙ sym w.told ∙ e in
      record { answer = rw s; effect = rw s }

  module _ (short : every short_use rows ≡ true) where
    usable : Usable (policy_given places_bytes users_bytes rows)
    unfolding policy_given
    usable =
        let r : length (map (λ v. v.mixtures) rows) ≡ 2 * n + u = length-map rows (λ v. v.mixtures) ∙ rows_count in
        record {
          few_containers = omega (arith, ap length places_back, own_count 0 (containers_in (part a 0)), containers_count (part a 0), few_containers_lem a h.first);
          few_users = omega (arith, ap length users_back, users_size (2 * n) u, users_count users_bytes, few_users_lem a h.first);
          few_rules = omega (arith, r, few_uses);
          short_rules = every_map short_use (λ r. leb (length r) mixture_limit) (λ v. v.mixtures) rows (λ v k. k) short;
          containers_named = rw (places_back, own_uses 0 (containers_in (part a 0)), r) (names 0 (2 * length (containers_in (part a 0))) (omega (arith, containers_count (part a 0))));
          users_named = rw (users_back, r) (names (2 * n) u (omega arith));
        }
      where
        names : (k m : ℕ) → k + m ≤ 2 * n + u → every (named (2 * n + u)) (count_from k m) ≡ true
        names k m l =
            every_imp (below (2 * n + u)) (named (2 * n + u)) (count_from k m)
            (λ r e. unfold named in (or_0 (ltb r (2 * n + u)) (eqb r unrestricted_number) e)) (count_below k m (2 * n + u) l)

    normal_rows : map normal_use rows ≡ rows
    normal_rows = again rows settled
      where
        one : (v : Use) → normal_test v ≡ true → normal_use v ≡ v
        one v k = unfold normal_use in (let m : normal v.mixtures ≡ v.mixtures = same_eq (normal v.mixtures) v.mixtures k in λ i. record { owner = v.owner; mixtures = m i })

        again : (l : List Use) → every normal_test l ≡ true → map normal_use l ≡ l
        again [] k = refl
        again (v ∷ l) k = ap₂ ◌∷◌ (one v (every_0 normal_test v l k)) (again l (every_1 normal_test v l k))

    words_are : joined (map form_row rows) ≡ form_words rows
    unfolding form_words
    words_are = ap (λ (l : List Use). joined (map form_row l)) (sym normal_rows)

    pub rows_long : length (joined (map form_row rows)) ≡ (2 * n + u) * form_width
    rows_long = ap length words_are ∙ words_length rows short ∙ ap (λ (k : ℕ). k * form_width) rows_count

    tabled : Tabled places_bytes users_bytes (joined (map form_row rows))
    tabled = rw words_are (words_tabled places_bytes users_bytes rows usable)

    normal_is : normal_policy (policy_given places_bytes users_bytes rows) ≡ policy_of (pair_owned c a b)
    unfolding normal_policy
    normal_is = ap policy_of pair_owned_lem

    answered : {before after : List ℕ} {r : ℕ} → Answered (policy_at places_bytes users_bytes (joined (map form_row rows))) before after r → PairLent (pair_owned c a b) before after r
    unfolding limit_good rules_few writer_answer writer_effect rules_needed normal_image
    answered w =
        let s : uses_short (pair_owned c a b) ≡ true = short_told ∙ short in
        let x = words_answered places_bytes users_bytes rows usable (rw words_are at w) in
        record { answer = rw s (rw normal_is at x.answer); effect = rw s (rw normal_is at x.effect) }

    -- ---- as they are lent

    module _ (zeros : List ℕ) {x : List ℕ} (e : x ≡ joined (map form_row rows)) where
      pub filled_long : (2 * n + u) * form_width ≤ length (put_mid 0 ((2 * n + u) * form_width - 0) zeros x)
      filled_long = omega (arith, ap length e, rows_long, length-append x (drop ((2 * n + u) * form_width - 0) zeros))

      filled : take ((2 * n + u) * form_width - 0) (put_mid 0 ((2 * n + u) * form_width - 0) zeros x) ≡ joined (map form_row rows)
      filled =
          let z : (2 * n + u) * form_width - 0 ≡ length x = omega (arith, ap length e, rows_long) in
          ap (λ (k : ℕ). take k (put_mid 0 ((2 * n + u) * form_width - 0) zeros x)) z ∙ take_at x (drop ((2 * n + u) * form_width - 0) zeros) (length x) refl ∙ e

      module _ {p₀ p : List ℕ} {i : ℕ} (wp : Wrote places_bytes p₀ p 0 i) {q₀ q : List ℕ} {j : ℕ} (wq : Wrote users_bytes q₀ q 0 j) where
        pub lent_tabled : Tabled (take (i - 0) p) (take (j - 0) q) (take ((2 * n + u) * form_width - 0) (put_mid 0 ((2 * n + u) * form_width - 0) zeros x))
        lent_tabled = rw (front_written wp, front_written wq, filled) tabled

        pub lent_written : {before after : List ℕ} {r : ℕ}
            → Answered (policy_at (take (i - 0) p) (take (j - 0) q) (take ((2 * n + u) * form_width - 0) (put_mid 0 ((2 * n + u) * form_width - 0) zeros x))) before
            after r
            → PairLent (pair_owned c a b) before after r
        lent_written w = answered (rw (front_written wp, front_written wq, filled) at w)
