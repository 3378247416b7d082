-- `listing::put_verdict`. The receiver is written over what does not count behind the word, the tag over what does not count behind the receiver.
use Prim.Native.Nat.{ℕ, ◌+◌, ◌≤◌}
use native.Mathlib.Omega.{arith}
use mathlib.Core.Path.{ap}
use mathlib.Core.List.{List, [], ◌∷◌, ◌++◌}
use lib.ListN.{length}
use Rattle.listing.specs.Text.{decimal, hexadecimal}
use Rattle.listing.specs.Lines.{space, verdict_word, answer_word, answer_fields}
use Rattle.listing.proofs.BufferLaws.{wrote_spare, spare_none, spare_join, spare_as}
use Rattle.listing.proofs.ListingLines.{verdict_bounds, verdict_length, verdict_text, number_length, number_least, tag_length}
use Rattle.listing.proofs.put_verdict.Goals as goal

pub put_word-to-requires : goal.put_word-to-requires
put_word-to-requires c =
    let b = verdict_bounds c.args.verdict in
    let w = c.verdict_word.ensures in
    (omega (arith, b, w.long), omega (arith, b, w.long), omega arith)

pub put_container_number-tag-requires : goal.put_container_number-tag-requires
put_container_number-tag-requires c =
    omega (arith, ((spare_as (ap (λ (x : List ℕ). x ++ (space ∷ [])) c.verdict_word.ensures.letters) c.put_word-to.ensures)).ends, verdict_length c.args.verdict)

-- up to the receiver
pub put_tag-position-requires : goal.put_tag-position-requires
put_tag-position-requires c =
    let a = c.args in
    omega (arith, ((spare_as (ap (λ (x : List ℕ). x ++ (space ∷ [])) c.verdict_word.ensures.letters) c.put_word-to.ensures)).ends, verdict_length a.verdict, number_length a.received.receiver space)

-- up to the tag
pub put_position-requires : goal.put_position-requires
put_position-requires c =
    let a = c.args in
    omega (
      arith,
      ((spare_as (ap (λ (x : List ℕ). x ++ (space ∷ [])) c.verdict_word.ensures.letters) c.put_word-to.ensures)).ends,
      verdict_length a.verdict,
      number_length a.received.receiver space,
      tag_length a.received.tag space,
    )

pub returns : goal.returns
unfolding answer_word answer_fields
returns c =
    let a = c.args in
    let q = c.put_container_number-tag in
    let t = c.put_tag-position in
    let k = c.put_position in
    let m : q.result ≤ length q.new.out = omega
    (arith, ((spare_as (ap (λ (x : List ℕ). x ++ (space ∷ [])) c.verdict_word.ensures.letters) c.put_word-to.ensures)).ends, verdict_length a.verdict, number_length a.received.receiver space) in
    let j : t.result ≤ length t.new.out = omega (
      arith,
      ((spare_as (ap (λ (x : List ℕ). x ++ (space ∷ [])) c.verdict_word.ensures.letters) c.put_word-to.ensures)).ends,
      verdict_length a.verdict,
      number_length a.received.receiver space,
      tag_length a.received.tag space,
    ) in
    let n : 4 ≤ length (decimal a.received.receiver ++ (space ∷ [])) + 2 = omega (arith, number_least a.received.receiver space) in
    let g : 2 ≤ length (hexadecimal a.received.tag ++ (space ∷ [])) + 0 = omega (arith, tag_length a.received.tag space) in
    spare_none
    (spare_as
    (verdict_text (verdict_word a.verdict) (decimal a.received.receiver) (hexadecimal a.received.tag) (decimal a.received.position))
    (spare_join 0 (omega arith) (spare_join 0 g (spare_join 2 n ((spare_as (ap (λ (x : List ℕ). x ++ (space ∷ [])) c.verdict_word.ensures.letters) c.put_word-to.ensures)) q.ensures)
    (wrote_spare 0 m t.ensures)) (wrote_spare 0 j k.ensures)))
