-- The containers and users of a section by their place: read, their classes noted, and written with their new numbers.
use Prim.Native.Nat.{ℕ, ◌+◌, ◌*◌, ◌/◌, ◌≤◌, ◌<◌}
use mathlib.Core.Path.{◌≡◌, refl, sym, ap, ap₂, ◌∙◌}
use mathlib.Core.Bool.{Bool, true, ◌&&◌}
use mathlib.Core.List.{List, [], ◌∷◌, map}
use native.Mathlib.Omega.{arith}
use native.Mathlib.Numerals.{add-one}
use lib.ListN.{length, get_or, take, drop, set, length-map, length-set, drop_of_length-le}
use lib.Seq.{drop-cons, get_or-set_same, get_or-set_other}
use native.Mathlib.Decide.{ℕ_discrete}
use Rattle.lists.proofs.Bools.{and_in, and_0, and_1}
use Rattle.fields.specs.Bytes.{field, number_in, bytes_of}
use Rattle.lists.specs.Lists.{joined, every}
use Rattle.image.specs.Policy.{Container}
use Rattle.image.specs.Image.{container_in, containers_in, users_in}
use Rattle.image.specs.Normal.{container_bytes}
use Rattle.lists.proofs.Every.{every_0, every_1, every_nil, every_cons, every_get_d}
use Rattle.image.proofs.RecordsByPlace.{containers_count, users_count}
use Rattle.image.proofs.Encode.{container_wide}
use Rattle.fields.proofs.FieldLaws.{field_record}
use Rattle.lists.proofs.Places.{map_at}
use Rattle.fields.proofs.SectionRecords.{record_at}
use Rattle.fields.proofs.ByteLaws.{bytes_length, joined_length}
use Rattle.fields.specs.Writing.{Wrote}
use Rattle.fields.proofs.RowWriting.{RowsWritten, rows_room, rows_next}
use Rattle.image.specs.Limits.{container_size, user_size}
use Rattle.normaliser.specs.Writer.{form_width, use_limit}
use Rattle.normaliser.specs.Tables.{class_of, Classified, class_at, with_classes, Ordered, new_number}
use Rattle.normaliser.specs.Writer.{container_uses}
use Rattle.normaliser.specs.Sections.{renumbered}
use Rattle.normaliser.proofs.FirstUse.{Placing, placing_start, placing_end}

none : Container
none = record { kind = 0; atom = 0; permit = 0; run = 0 }

-- the fields of container i
abbrev pub container_kind : List ℕ → ℕ → ℕ
container_kind s i = field s (i * container_size) 1

abbrev pub container_atom : List ℕ → ℕ → ℕ
container_atom s i = field s (i * container_size + 1) 1

abbrev pub container_permit : List ℕ → ℕ → ℕ
container_permit s i = field s (i * container_size + 2) 2

abbrev pub container_run : List ℕ → ℕ → ℕ
container_run s i = field s (i * container_size + 4) 2

-- container i, read from the section
pub container_at : List ℕ → ℕ → Container
container_at s i = record { kind = container_kind s i; atom = container_atom s i; permit = container_permit s i; run = container_run s i }

container_at_lem : (s : List ℕ) (i : ℕ) → i < length s / container_size → get_or (containers_in s) i none ≡ container_at s i
unfolding containers_in container_at container_in
container_at_lem s i h = record_at container_in container_size i s none h ∙ parts
  where
    at : (k w : ℕ) → k + w ≤ container_size → field (take container_size (drop (i * container_size) s)) k w ≡ field s (i * container_size + k) w
    at k w l = field_record s (i * container_size) container_size k w l

    z : i * container_size + 0 ≡ i * container_size
    z = omega arith

    kind : field (take container_size (drop (i * container_size) s)) 0 1 ≡ container_kind s i
    kind = at 0 1 (omega arith) ∙ ap (λ (x : ℕ). field s x 1) z

    parts : container_in (take container_size (drop (i * container_size) s)) ≡ container_at s i
    parts = λ j. record { kind = kind j; atom = at 1 1 (omega arith) j; permit = at 2 2 (omega arith) j; run = at 4 2 (omega arith) j }

pub user_at : (s : List ℕ) (i : ℕ) → i < length s / user_size → get_or (users_in s) i 0 ≡ field s (i * user_size) 2
unfolding users_in field
user_at s i h = record_at number_in user_size i s 0 h

-- what holds of each use holds of each container's two
pub uses_both : (f : ℕ → Bool) (cs : List Container) → every f (container_uses cs) ≡ true → every (λ c. f c.permit && f c.run) cs ≡ true
unfolding container_uses
uses_both f [] h = every_nil (λ c. f c.permit && f c.run)
uses_both f (c ∷ cs) h =
    let k : every f (c.run ∷ container_uses cs) ≡ true = every_1 f c.permit (c.run ∷ container_uses cs) h in
    every_cons (λ c. f c.permit && f c.run) c cs
    (and_in (every_0 f c.permit (c.run ∷ container_uses cs) h) (every_0 f c.run (container_uses cs) k))
    (uses_both f cs (every_1 f c.run (container_uses cs) k))

-- what holds of each use holds of the two of container i
pub both_at : (f : ℕ → Bool) (s : List ℕ) (i : ℕ)
    → i < length s / container_size → every f (container_uses (containers_in s)) ≡ true
    → (f (container_permit s i) ≡ true) × (f (container_run s i) ≡ true)
unfolding container_at
both_at f s i l h =
    let g : (f (get_or (containers_in s) i none).permit && f (get_or (containers_in s) i none).run) ≡ true =
    every_get_d (λ c. f c.permit && f c.run) (containers_in s) i none (omega (arith, containers_count s)) (uses_both f (containers_in s) h) in
    let k : (f (container_permit s i) && f (container_run s i)) ≡ true = rw (container_at_lem s i l) at g in
    (and_0 (f (container_permit s i)) (f (container_run s i)) k, and_1 (f (container_permit s i)) k)

pub one_at : (f : ℕ → Bool) (s : List ℕ) (i : ℕ) → i < length s / user_size → every f (users_in s) ≡ true → f (field s (i * user_size) 2) ≡ true
one_at f s i l h = rw (user_at s i l) at (every_get_d f (users_in s) i 0 (omega (arith, users_count s)) h)

-- ---- classes, one after the other

-- the classes of the first k rules are in the table
pub record Classing (forms classes₀ classes : List ℕ) (n k : ℕ) : Type 0 where
  pub count : n ≡ length forms / form_width
  pub place : k ≤ n
  pub long : length classes ≡ length classes₀
  pub told : Classified forms classes k

pub classing_start : (forms classes : List ℕ) → length forms / form_width ≤ length classes → length classes ≤ use_limit → Classing forms classes classes (length forms / form_width) 0
classing_start forms classes h f =
    record { count = refl; place = omega arith; long = refl; told = record { room = h; few = f; is = λ k l. absurd (omega arith) } }

module _ {forms classes₀ classes : List ℕ} {n k : ℕ} (g : Classing forms classes₀ classes n k) where
  pub classing_next : k < n → {v : ℕ} → v ≡ class_of forms k → Classing forms classes₀ (set classes k v) n (k + 1)
  classing_next l {v} e =
      record {
        count = g.count;
        place = omega arith;
        long = length-set classes k v ∙ g.long;
        told = record { room = omega (arith, length-set classes k v, g.told.room); few = omega (arith, length-set classes k v, g.told.few); is = λ x m. by x (omega arith) (ℕ_discrete x k) };
      }
    where
      by : (x : ℕ) → x ≤ k → Dec (x ≡ k) → get_or (set classes k v) x 0 ≡ class_of forms x
      by x m (yes q) = ap (λ (y : ℕ). get_or (set classes k v) y 0) q ∙ get_or-set_same classes k v 0 (omega (arith, g.count, g.told.room)) ∙ e ∙ ap (class_of forms) (sym q)
      by x m (no d) = get_or-set_other classes k x v 0 d ∙ g.told.is x (omega (arith, d))

  pub classing_end : n ≤ k → Classified forms classes (length forms / form_width)
  classing_end l = let e : k ≡ length forms / form_width = omega (arith, g.count, g.place) in rw e at g.told

-- ---- uses, one after the other

-- what is left of the containers' uses makes the whole
pub record Containing (containers classes whole order₀ ranks₀ order ranks : List ℕ) (n m i : ℕ) : Type 0 where
  pub count : n ≡ length containers / container_size
  pub place : i ≤ n
  pub placing : Placing (map (class_at classes) (container_uses (drop i (containers_in containers)))) whole order₀ ranks₀ order ranks m

pub containing_start : (containers classes order ranks : List ℕ) → Ordered order ranks 0 → length (with_classes [] (map (class_at classes) (container_uses (containers_in containers)))) ≤ length order
    → Containing containers classes (with_classes [] (map (class_at classes) (container_uses (containers_in containers)))) order ranks order ranks (length containers / container_size) 0 0
containing_start containers classes order ranks g h =
    record { count = refl; place = omega arith; placing = placing_start (map (class_at classes) (container_uses (containers_in containers))) order ranks 0 g h }

module _ {containers classes whole order₀ ranks₀ order ranks : List ℕ} {n m i : ℕ} (g : Containing containers classes whole order₀ ranks₀ order ranks n m i) where
  pub containing_first : i < n
      → Placing
      (class_at classes (container_permit containers i) ∷ class_at classes (container_run containers i)
      ∷ map (class_at classes) (container_uses (drop (i + 1) (containers_in containers)))) whole order₀ ranks₀ order ranks m
  unfolding container_uses container_at
  containing_first l =
      let k : i < length containers / container_size = omega (arith, g.count) in
      let q : i < length (containers_in containers) = omega (arith, containers_count containers) in
      let e : drop i (containers_in containers) ≡ container_at containers i ∷ drop (i + 1) (containers_in containers) =
      drop-cons (containers_in containers) i none q ∙ ap₂ (λ (c : Container) (x : ℕ). c ∷ drop x (containers_in containers)) (container_at_lem containers i k) (sym (add-one i)) in
      rw e at g.placing

  pub containing_next : i < n → {order' ranks' : List ℕ} {m' : ℕ} → Placing (map (class_at classes) (container_uses (drop (i + 1) (containers_in containers)))) whole order₀ ranks₀ order' ranks' m'
      → Containing containers classes whole order₀ ranks₀ order' ranks' n m' (i + 1)
  containing_next l p = record { count = g.count; place = omega arith; placing = p }

  pub containing_end : n ≤ i → take m order ≡ whole
  unfolding container_uses
  containing_end l =
      let e : drop i (containers_in containers) ≡ [] = drop_of_length-le (containers_in containers) {i = i} (omega (arith, containers_count containers, g.count)) in
      placing_end whole order₀ ranks₀ order ranks m (rw e at g.placing)

-- the same for the users
pub record Using (users classes whole order₀ ranks₀ order ranks : List ℕ) (n m i : ℕ) : Type 0 where
  pub count : n ≡ length users / user_size
  pub place : i ≤ n
  pub placing : Placing (map (class_at classes) (drop i (users_in users))) whole order₀ ranks₀ order ranks m

pub using_start : (users classes order ranks : List ℕ) (m : ℕ) → Ordered order ranks m → length (with_classes (take m order) (map (class_at classes) (users_in users))) ≤ length order
    → Using users classes (with_classes (take m order) (map (class_at classes) (users_in users))) order ranks order ranks (length users / user_size) m 0
using_start users classes order ranks m g h = record { count = refl; place = omega arith; placing = placing_start (map (class_at classes) (users_in users)) order ranks m g h }

module _ {users classes whole order₀ ranks₀ order ranks : List ℕ} {n m i : ℕ} (g : Using users classes whole order₀ ranks₀ order ranks n m i) where
  pub using_first : i < n → Placing (class_at classes (field users (i * user_size) 2) ∷ map (class_at classes) (drop (i + 1) (users_in users))) whole order₀ ranks₀ order ranks m
  using_first l =
      let k : i < length users / user_size = omega (arith, g.count) in
      let q : i < length (users_in users) = omega (arith, users_count users) in
      let e : drop i (users_in users) ≡ field users (i * user_size) 2 ∷ drop (i + 1) (users_in users) =
      drop-cons (users_in users) i 0 q ∙ ap₂ (λ (c x : ℕ). c ∷ drop x (users_in users)) (user_at users i k) (sym (add-one i)) in
      rw e at g.placing

  pub using_next : i < n → {order' ranks' : List ℕ} {m' : ℕ} → Placing (map (class_at classes) (drop (i + 1) (users_in users))) whole order₀ ranks₀ order' ranks' m'
      → Using users classes whole order₀ ranks₀ order' ranks' n m' (i + 1)
  using_next l p = record { count = g.count; place = omega arith; placing = p }

  pub using_end : n ≤ i → take m order ≡ whole
  using_end l =
      let e : drop i (users_in users) ≡ [] = drop_of_length-le (users_in users) {i = i} (omega (arith, users_count users, g.count)) in
      placing_end whole order₀ ranks₀ order ranks m (rw e at g.placing)

-- ---- sections, row by row

module _ (containers classes ranks : List ℕ) where
  abbrev pub container_rows : List (List ℕ)
  container_rows = map container_bytes (map (renumbered classes ranks) (containers_in containers))

  pub container_rows_lem : length container_rows ≡ length containers / container_size
  container_rows_lem =
      length-map (map (renumbered classes ranks) (containers_in containers)) container_bytes
      ∙ length-map (containers_in containers) (renumbered classes ranks) ∙ containers_count containers

  pub containers_size : length (joined container_rows) ≡ length containers / container_size * container_size
  containers_size =
      joined_length container_size container_bytes container_wide (map (renumbered classes ranks) (containers_in containers))
      ∙ ap (λ (n : ℕ). n * container_size) (length-map (containers_in containers) (renumbered classes ranks) ∙ containers_count containers)

  pub container_row : (i : ℕ) → i < length containers / container_size → {permit run : ℕ}
      → permit ≡ new_number classes ranks (container_permit containers i) → run ≡ new_number classes ranks (container_run containers i)
      → container_bytes (record { kind = container_kind containers i; atom = container_atom containers i; permit = permit; run = run }) ≡ get_or container_rows i []
  container_row i l {permit} {run} p r =
      sym (map_at container_bytes (map (renumbered classes ranks) (containers_in containers)) i (renumbered classes ranks none) [] inside ∙ ap container_bytes one)
    where
      inside : i < length (map (renumbered classes ranks) (containers_in containers))
      inside = omega (arith, length-map (containers_in containers) (renumbered classes ranks), containers_count containers)

      there : record { kind = container_kind containers i; atom = container_atom containers i; permit = permit; run = run } ≡ renumbered classes ranks (container_at containers i)
      there =
          unfold renumbered container_at in
          (λ j. record { kind = container_kind containers i; atom = container_atom containers i; permit = p j; run = r j })

      one : get_or (map (renumbered classes ranks) (containers_in containers)) i (renumbered classes ranks none)
          ≡ record { kind = container_kind containers i; atom = container_atom containers i; permit = permit; run = run }
      one =
          map_at (renumbered classes ranks) (containers_in containers) i none (renumbered classes ranks none) (omega (arith, containers_count containers))
          ∙ ap (renumbered classes ranks) (container_at_lem containers i l) ∙ sym there

  module _ {before out : List ℕ} {start at i : ℕ} (g : RowsWritten container_rows before start out at i) (l : i < length containers / container_size) where
    pub container_room : at + container_size ≤ length out
    container_room =
        let permit : ℕ = new_number classes ranks (container_permit containers i) in
        let run : ℕ = new_number classes ranks (container_run containers i) in
        omega (
          arith,
          rows_room g (omega (arith, container_rows_lem)),
          ap length (container_row i l {permit = permit} {run = run} refl refl),
          container_wide (record { kind = container_kind containers i; atom = container_atom containers i; permit = permit; run = run }),
        )

    pub container_next : {permit run next : ℕ} {after : List ℕ}
        → permit ≡ new_number classes ranks (container_permit containers i) → run ≡ new_number classes ranks (container_run containers i)
        → Wrote (container_bytes (record { kind = container_kind containers i; atom = container_atom containers i; permit = permit; run = run })) out after at next
        → RowsWritten container_rows before start after next (i + 1)
    container_next p r w = rows_next g (omega (arith, container_rows_lem)) (container_row i l p r) w

module _ (users classes ranks : List ℕ) where
  abbrev pub user_rows : List (List ℕ)
  user_rows = map (bytes_of user_size) (map (new_number classes ranks) (users_in users))

  pub user_rows_lem : length user_rows ≡ length users / user_size
  user_rows_lem =
      length-map (map (new_number classes ranks) (users_in users)) (bytes_of user_size)
      ∙ length-map (users_in users) (new_number classes ranks) ∙ users_count users

  pub users_size : length (joined user_rows) ≡ length users / user_size * user_size
  users_size =
      joined_length user_size (bytes_of user_size) (bytes_length user_size) (map (new_number classes ranks) (users_in users))
      ∙ ap (λ (n : ℕ). n * user_size) (length-map (users_in users) (new_number classes ranks) ∙ users_count users)

  pub user_row_lem : (i : ℕ) → i < length users / user_size → {n : ℕ} → n ≡ new_number classes ranks (field users (i * user_size) 2) → bytes_of user_size n ≡ get_or user_rows i []
  user_row_lem i l {n} e =
      sym (map_at (bytes_of user_size) (map (new_number classes ranks) (users_in users)) i 0 [] (omega (arith, length-map (users_in users) (new_number classes ranks), users_count users))
      ∙ ap (bytes_of user_size) (map_at (new_number classes ranks) (users_in users) i 0 0 (omega (arith, users_count users)) ∙ ap (new_number classes ranks) (user_at users i l) ∙ sym e))

  module _ {before out : List ℕ} {start at i : ℕ} (g : RowsWritten user_rows before start out at i) (l : i < length users / user_size) where
    pub user_room : at + user_size ≤ length out
    user_room =
        omega (
          arith,
          rows_room g (omega (arith, user_rows_lem)),
          ap length (user_row_lem i l {n = new_number classes ranks (field users (i * user_size) 2)} refl),
          bytes_length user_size (new_number classes ranks (field users (i * user_size) 2)),
        )

    pub user_next : (n : ℕ) {next : ℕ} {after : List ℕ} → n ≡ new_number classes ranks (field users (i * user_size) 2) → Wrote (bytes_of user_size n) out after at next
        → RowsWritten user_rows before start after next (i + 1)
    user_next n e w = rows_next g (omega (arith, user_rows_lem)) (user_row_lem i l e) w
