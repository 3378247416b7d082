-- What is written from the tables is the normal image, and is answered so.
use Prim.Native.Nat.{ℕ, ◌/◌, ◌≤◌, ◌<◌}
use mathlib.Core.Path.{◌≡◌, refl, sym, ap, ap₂, ◌∙◌}
use mathlib.Core.Bool.{true, false}
use mathlib.Core.List.{List, [], ◌∷◌, ◌++◌, map}
use native.Mathlib.Omega.{arith}
use lib.Dec.{leb}
use lib.ListN.{length, take, length-map}
use lib.Seq.{length-take-le}
use borrow.Author.Tests.{le-leb, lt-leb}
use Rattle.lists.specs.Lists.{joined, every}
use Rattle.lists.proofs.Every.{every_left, every_right}
use Rattle.fields.specs.Bytes.{bytes_of}
use Rattle.fields.specs.Writing.{overwritten, Wrote}
use Rattle.image.specs.Limits.{rule_limit, user_size, mixture_size, output_bound}
use Rattle.image.specs.Policy.{Container, Policy}
use Rattle.image.specs.Image.{containers_in, users_in}
use Rattle.image.specs.Normal.{Use, use_at, owned_place, owned, number_of, container_of, written_by, written_uses, policy_of, normal_policy, container_bytes, span_bytes, spans_of, framed}
use Rattle.image.specs.Normal.{encode, normal_image}
use Rattle.normaliser.specs.Writer.{form_width, policy_given, forms_in, policy_at, container_uses, Tabled, rules_needed, writer_answer, writer_effect, Answered}
use Rattle.normaliser.specs.Tables.{use_of, form_at, form_owner, Classified, class_at, class_named, with_classes, Ordered, found}
use Rattle.normaliser.specs.Sections.{container_section, user_section, rule_section, mixture_bytes, mixture_section, Writable}
use Rattle.normaliser.proofs.FirstUse.{classes_grow}
use Rattle.normaliser.proofs.RuleForms.{forms_count}
use Rattle.image.proofs.RecordsByPlace.{containers_count, users_count}
use Rattle.normaliser.proofs.NewNumbers as new

module _ (containers users forms : List ℕ) (t : Tabled containers users forms) where
  abbrev pub container_classes : List ℕ → List ℕ
  container_classes classes = map (class_at classes) (container_uses (containers_in containers))

  abbrev pub user_classes : List ℕ → List ℕ
  user_classes classes = map (class_at classes) (users_in users)

  -- the rules that are written
  abbrev rules : List Use
  rules = new.T containers users forms t

  abbrev policy : Policy
  policy = policy_at containers users forms

  module _ (classes : List ℕ) (told : Classified forms classes (length forms / form_width)) where
    pub both_fit : length (with_classes (with_classes [] (container_classes classes)) (user_classes classes)) ≤ length forms / form_width
    both_fit =
        omega (
          arith,
          ap length (new.order_is containers users forms t classes told),
          length-map rules (number_of (forms_in forms)),
          new.T_few containers users forms t,
          forms_count forms,
        )

    pub first_fits : length (with_classes [] (container_classes classes)) ≤ length forms / form_width
    first_fits = omega (arith, both_fit, classes_grow (with_classes [] (container_classes classes)) (user_classes classes))

    module _ (w : ℕ) (room : length forms / form_width ≤ w) where
      all : every (class_named classes w) (container_uses (containers_in containers) ++ users_in users) ≡ true
      all = new.all_classes containers users forms t classes told w (omega (arith, told.room, forms_count forms)) (omega (arith, forms_count forms))

      pub containers_classed : every (class_named classes w) (container_uses (containers_in containers)) ≡ true
      containers_classed = every_left (class_named classes w) (container_uses (containers_in containers)) (users_in users) all

      pub users_classed : every (class_named classes w) (users_in users) ≡ true
      users_classed = every_right (class_named classes w) (container_uses (containers_in containers)) (users_in users) all

  -- the classes in use have their places
  pub record Noted (classes order ranks : List ℕ) (m : ℕ) : Type 0 where
    pub told : Classified forms classes (length forms / form_width)
    pub ordered : Ordered order ranks m
    pub is : take m order ≡ with_classes (with_classes [] (container_classes classes)) (user_classes classes)
    pub room : length forms / form_width ≤ length ranks

  pub noted : {classes first order ranks : List ℕ} {m : ℕ} → Classified forms classes (length forms / form_width) → first ≡ with_classes [] (container_classes classes)
      → take m order ≡ with_classes first (user_classes classes) → Ordered order ranks m → length forms / form_width ≤ length ranks → Noted classes order ranks m
  noted {classes} told p q g l = record { told = told; ordered = g; is = q ∙ ap (λ (x : List ℕ). with_classes x (user_classes classes)) p; room = l }

  module _ {classes order ranks : List ℕ} {m : ℕ} (n : Noted classes order ranks m) where
    numbers : take m order ≡ map (number_of (forms_in forms)) rules
    numbers = n.is ∙ new.order_is containers users forms t classes n.told

    ranks_room : length (forms_in forms) ≤ length ranks
    ranks_room = omega (arith, n.room, forms_count forms)

    written_rules : map (use_of forms) (take m order) ≡ rules
    written_rules = ap (map (use_of forms)) numbers ∙ new.forms_back containers users forms t

    written_mixtures : map (form_at forms) (take m order) ≡ map (λ u. u.mixtures) rules
    unfolding form_at
    written_mixtures = by (take m order) ∙ ap (map (λ u. u.mixtures)) written_rules
      where
        by : (l : List ℕ) → map (form_at forms) l ≡ map (λ u. u.mixtures) (map (use_of forms) l)
        by [] = refl
        by (v ∷ l) = ap (λ (x : List (List ℕ)). (use_of forms v).mixtures ∷ x) (by l)

    written_owners : map (form_owner forms) (take m order) ≡ map (λ u. u.owner) rules
    unfolding form_owner
    written_owners = by (take m order) ∙ ap (map (λ u. u.owner)) written_rules
      where
        by : (l : List ℕ) → map (form_owner forms) l ≡ map (λ u. u.owner) (map (use_of forms) l)
        by [] = refl
        by (v ∷ l) = ap (λ (x : List ℕ). (use_of forms v).owner ∷ x) (by l)

    all_numbers : every (found classes ranks) (container_uses (containers_in containers) ++ users_in users) ≡ true
    all_numbers = new.all_found containers users forms t classes n.told order ranks m n.ordered numbers ranks_room (omega (arith, n.told.room, forms_count forms))

    normal_is : normal_policy policy ≡ written_by rules (owned policy)
    unfolding normal_policy policy_of written_uses
    normal_is = ap (λ (r : List Use). written_by r (owned policy)) (new.uses_are containers users forms t)

    count : length (take m order) ≡ m
    count = length-take-le m order n.ordered.room

    -- as many rules are needed as have a place
    needed : rules_needed policy ≡ m
    unfolding rules_needed
    needed = ap (λ (p : Policy). length p.rules) normal_is ∙ same ∙ count
      where
        same : length (written_by rules (owned policy)).rules ≡ length (take m order)
        same = unfold written_by in (sym (ap length written_mixtures) ∙ length-map (take m order) (form_at forms))

    pub tables_writable : (out : List ℕ) → m ≤ rule_limit → output_bound ≤ length out → Writable containers users forms classes ranks (take m order) out
    unfolding policy_at policy_given
    tables_writable out few l =
        record {
          containers_found = every_left (found classes ranks) (container_uses (containers_in containers)) (users_in users) all_numbers;
          users_found = every_right (found classes ranks) (container_uses (containers_in containers)) (users_in users) all_numbers;
          forms_good = rw numbers (new.forms_good_lem containers users forms t);
          room =
              omega (
                arith,
                t.usable.few_containers,
                containers_count containers,
                t.usable.few_users,
                users_count users,
                count,
                ap (λ (x : List (List ℕ)). length (joined x)) written_mixtures,
                ap length written_rules,
                length-map (take m order) (use_of forms),
                new.T_short containers users forms t,
              );
        }

    abbrev container_part : List ℕ
    container_part = joined (map container_bytes (map (container_of rules) (map (owned_place policy) (containers_in containers))))

    abbrev user_part : List ℕ
    user_part = joined (map (bytes_of user_size) (map (number_of rules) (map (use_at policy) (users_in users))))

    -- the image of these two sections and of these rules
    abbrev written : List ℕ → List ℕ → List (List ℕ) → List ℕ → List ℕ
    written c u mixtures owners = framed c u (joined (map span_bytes (spans_of 0 mixtures owners))) (joined (map (bytes_of mixture_size) (joined mixtures)))

    -- the sections from the tables are those of the normal policy
    pub image_is : framed (container_section containers classes ranks) (user_section users classes ranks) (rule_section forms (take m order)) (mixture_section forms (take m order))
        ≡ normal_image policy
    unfolding normal_image container_section user_section rule_section mixture_section mixture_bytes
    image_is =
        ap₂ (λ (c u : List ℕ). written c u (map (form_at forms) (take m order)) (map (form_owner forms) (take m order)))
        (ap (λ (x : List Container). joined (map container_bytes x)) (new.containers_are containers users forms t classes n.told order ranks m n.ordered numbers ranks_room))
        (ap (λ (x : List ℕ). joined (map (bytes_of user_size) x)) (new.users_are containers users forms t classes n.told order ranks m n.ordered numbers ranks_room))
        ∙ ap₂ (written container_part user_part) written_mixtures written_owners
        ∙ back
        ∙ ap encode (sym normal_is)
      where
        back : written container_part user_part (map (λ u. u.mixtures) rules) (map (λ u. u.owner) rules) ≡ encode (written_by rules (owned policy))
        back = unfold encode written_by owned policy_at policy_given in refl

    -- ---- the answer

    pub answered : {before after : List ℕ} {r : ℕ} → m ≤ rule_limit
        → Wrote (framed (container_section containers classes ranks) (user_section users classes ranks) (rule_section forms (take m order)) (mixture_section forms (take m order))) before after 0 r
        → Answered policy before after r
    unfolding writer_answer writer_effect
    answered {before} {r = r} few w =
        let b : leb (rules_needed policy) rule_limit ≡ true = le-leb (rules_needed policy) rule_limit (omega (arith, needed)) in
        let e : r ≡ length (normal_image policy) = omega (arith, w.ends, ap length image_is) in
        record {
          answer = rw b e;
          effect = rw b (w.buffer ∙ ap (λ (s : List ℕ). overwritten s 0 before) image_is);
        }

    pub over_limit : (before : List ℕ) → rule_limit < m → Answered policy before before 0
    unfolding writer_answer writer_effect
    over_limit before l =
        let b : leb (rules_needed policy) rule_limit ≡ false = lt-leb (rules_needed policy) rule_limit (omega (arith, needed)) in
        record { answer = rw b; effect = rw b }
