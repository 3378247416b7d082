-- The sections one behind the other, and the header in front of them.
use Prim.Native.Nat.{ℕ, ◌+◌, ◌-◌, ◌*◌, ◌/◌, ◌≤◌}
use mathlib.Core.Path.{◌≡◌, refl, ap, ◌∙◌}
use mathlib.Core.List.{List, ◌++◌, map, append_assoc}
use native.Mathlib.Omega.{arith}
use lib.ListN.{length, length-append}
use Rattle.lists.specs.Lists.{joined}
use Rattle.fields.specs.Bytes.{bytes_of}
use Rattle.fields.specs.Writing.{Wrote}
use Rattle.fields.proofs.WritingLaws.{wrote_join, wrote_as, wrote_length, wrote_ends}
use Rattle.fields.proofs.ByteLaws.{bytes_length}
use Rattle.fields.proofs.RowWriting.{wrote_front}
use Rattle.image.specs.Limits.{size8, size16, pair_size, leading_number, header_size, container_size, user_size, rule_size, mixture_size}
use Rattle.image.specs.Normal.{container_bytes, span_bytes, pair, header, framed}
use Rattle.normaliser.specs.Tables.{form_at}
use Rattle.normaliser.specs.Sections.{pair_bytes, header_bytes, container_section, user_section, rule_section, mixture_section, Writable}
use Rattle.normaliser.proofs.SectionRows as rows
use Rattle.normaliser.proofs.RuleRows as rules

-- ---- pairs, container records and the header

pub pair_size_lem : (a b : ℕ) → length (pair_bytes a b) ≡ pair_size
unfolding pair_bytes bytes_of
pair_size_lem a b = refl

pub pair_ends : (a b : ℕ) {before after : List ℕ} {at next : ℕ} → Wrote (pair_bytes a b) before after at next → next ≡ at + pair_size
pair_ends a b {at = at} w = w.ends ∙ ap (λ (k : ℕ). at + k) (pair_size_lem a b)

pub pair_wrote : (a b : ℕ) {before mid after : List ℕ} {at n next : ℕ} → at + pair_size ≤ length before
    → Wrote (bytes_of size16 a) before mid at n → Wrote (bytes_of size16 b) mid after n next → Wrote (pair_bytes a b) before after at next
unfolding pair_bytes
pair_wrote a b h x y = wrote_join (omega arith) x y

pub container_wrote : (kind atom permit run : ℕ) {before s t after : List ℕ} {at a b next : ℕ} → at + container_size ≤ length before
    → Wrote (bytes_of size8 kind) before s at a → Wrote (bytes_of size8 atom) s t a b → Wrote (pair_bytes permit run) t after b next
    → Wrote (container_bytes (record { kind = kind; atom = atom; permit = permit; run = run })) before after at next
unfolding container_bytes pair_bytes
container_wrote kind atom permit run {before = before} {s = s} {at = at} {a = a} h x y z =
    let l : a ≤ length s = omega (arith, wrote_ends 1 kind x, wrote_length (omega (arith, bytes_length 1 kind)) x) in
    wrote_join (omega arith) x (wrote_join l y z)

pub rule_record_wrote : (first count owner : ℕ) {before mid after : List ℕ} {at n next : ℕ} → at + rule_size ≤ length before
    → Wrote (pair_bytes first count) before mid at n → Wrote (bytes_of size16 owner) mid after n next
    → Wrote (span_bytes (record { first = first; count = count; owner = owner })) before after at next
unfolding span_bytes pair_bytes
rule_record_wrote first count owner h x y =
    wrote_as (append_assoc (bytes_of size16 first) (bytes_of size16 count) (bytes_of size16 owner)) (wrote_join (omega arith) x y)

-- a header from its number and its pairs
pub header_wrote : (c u r m : ℕ) {s t v w x after : List ℕ} {a b d e n : ℕ} → header_size ≤ length s
    → Wrote (bytes_of size16 leading_number) s t 0 a → Wrote (pair_bytes header_size c) t v a b → Wrote (pair_bytes (header_size + c) u) v w b d
    → Wrote (pair_bytes (header_size + c + u) r) w x d e → Wrote (pair_bytes (header_size + c + u + r) m) x after e n
    → Wrote (header_bytes c u r m) s after 0 n
unfolding header_bytes
header_wrote c u r m {s} {t} {v} {w} {x} {a = a} h p q y z k =
    let np : a ≡ 0 + 2 = wrote_ends 2 leading_number p in
    let lt : length t ≡ length s = wrote_length (omega (arith, bytes_length 2 leading_number)) p in
    let lv : length v ≡ length t = wrote_length (omega (arith, p.ends, pair_size_lem header_size c)) q in
    let lw : length w ≡ length v = wrote_length (omega (arith, p.ends, q.ends, pair_size_lem header_size c, pair_size_lem (header_size + c) u)) y in
    wrote_join (omega arith) p
    (wrote_join (omega (arith, p.ends)) q
    (wrote_join (omega (arith, p.ends, q.ends, pair_size_lem header_size c)) y
    (wrote_join (omega (arith, p.ends, q.ends, y.ends, pair_size_lem header_size c, pair_size_lem (header_size + c) u)) z k)))

header_is : (c u r m : List ℕ) → header_bytes (length c) (length u) (length r) (length m) ≡ header c u r m
unfolding header_bytes pair_bytes header pair
header_is c u r m = refl

header_size_lem : (c u r m : ℕ) → length (header_bytes c u r m) ≡ header_size
unfolding header_bytes pair_bytes bytes_of
header_size_lem c u r m = refl

-- ---- the sizes of the sections

pub container_section_size : (containers classes ranks : List ℕ) → length (container_section containers classes ranks) ≡ length containers / container_size * container_size
unfolding container_section
container_section_size containers classes ranks = rows.containers_size containers classes ranks

pub user_section_size : (users classes ranks : List ℕ) → length (user_section users classes ranks) ≡ length users / user_size * user_size
unfolding user_section
user_section_size users classes ranks = rows.users_size users classes ranks

pub rule_section_size : (forms order : List ℕ) → length (rule_section forms order) ≡ length order * rule_size
unfolding rule_section
rule_section_size forms order = rules.spans_size forms order

pub mixture_section_size : (forms order : List ℕ) → length (mixture_section forms order) ≡ length (joined (map (form_at forms) order)) * mixture_size
unfolding mixture_section
mixture_section_size forms order = rules.mixtures_size (joined (map (form_at forms) order))

-- ---- the image: the four sections, then the header in front of them

module _ {c u r m before o1 o2 o3 o4 : List ℕ} {a1 a2 a3 a4 : ℕ} (room : header_size + length c + length u + length r + length m ≤ length before)
    (p1 : Wrote c before o1 header_size a1) (p2 : Wrote u o1 o2 a1 a2) (p3 : Wrote r o2 o3 a2 a3) (p4 : Wrote m o3 o4 a3 a4) where
  pub length_1 : length o1 ≡ length before
  length_1 = wrote_length (omega arith) p1

  pub length_2 : length o2 ≡ length before
  length_2 = wrote_length (omega (arith, length_1, p1.ends)) p2 ∙ length_1

  pub length_3 : length o3 ≡ length before
  length_3 = wrote_length (omega (arith, length_2, p1.ends, p2.ends)) p3 ∙ length_2

  pub length_4 : length o4 ≡ length before
  length_4 = wrote_length (omega (arith, length_3, p1.ends, p2.ends, p3.ends)) p4 ∙ length_3

  sections_wrote : Wrote (c ++ (u ++ (r ++ m))) before o4 header_size a4
  sections_wrote =
      wrote_join (omega arith) p1
      (wrote_join (omega (arith, length_1, p1.ends)) p2
      (wrote_join (omega (arith, length_2, p1.ends, p2.ends)) p3 p4))

  pub image_wrote : {after : List ℕ} {n : ℕ} → Wrote (header_bytes (a1 - header_size) (a2 - a1) (a3 - a2) (a4 - a3)) o4 after 0 n → Wrote (framed c u r m) before after 0 a4
  unfolding framed
  image_wrote {after} {n} q =
      let e : header_bytes (a1 - header_size) (a2 - a1) (a3 - a2) (a4 - a3) ≡ header c u r m = same ∙ header_is c u r m in
      let k : n ≡ header_size = q.ends ∙ omega (arith, header_size_lem (a1 - header_size) (a2 - a1) (a3 - a2) (a4 - a3)) in
      let f : Wrote (header c u r m) o4 after 0 header_size = wrote_as e (rw k at q) in
      wrote_front (omega (arith, length-append c (u ++ (r ++ m)), length-append u (r ++ m), length-append r m)) sections_wrote f
    where
      same : header_bytes (a1 - header_size) (a2 - a1) (a3 - a2) (a4 - a3) ≡ header_bytes (length c) (length u) (length r) (length m)
      same =
          let x : a1 - header_size ≡ length c = omega (arith, p1.ends) in
          let y : a2 - a1 ≡ length u = omega (arith, p2.ends) in
          let z : a3 - a2 ≡ length r = omega (arith, p3.ends) in
          let w : a4 - a3 ≡ length m = omega (arith, p4.ends) in
          rw (x, y, z, w)

-- the room that is asked for, in the sizes of the sections
pub sections_room : {containers users forms classes ranks order out : List ℕ} → Writable containers users forms classes ranks order out
    → header_size + length (container_section containers classes ranks) + length (user_section users classes ranks) + length
    (rule_section forms order) + length (mixture_section forms order) ≤ length out
sections_room {containers} {users} {forms} {classes} {ranks} {order} w =
    omega (
      arith,
      w.room,
      container_section_size containers classes ranks,
      user_section_size users classes ranks,
      rule_section_size forms order,
      mixture_section_size forms order,
    )
