-- `fields::put`. The lowest of the eight bytes are copied.
use Rattle.std.proofs.Common.{◌≡◌, ℕ, ◌+◌, ◌-◌, arith, sym, ap, take, ◌∙◌}
use Rattle.fields.specs.Bytes.{bytes_of}
use Rattle.fields.proofs.ByteLaws.{bytes_length, bytes_take, bytes_eight}
use Rattle.fields.proofs.WritingLaws.{wrote_part}
use Rattle.fields.proofs.put.Goals as goal

pub returns : goal.returns
returns g c =
    let copied : c.copy_from_slice.new.self ≡ bytes_of g.row.WIDTH c.args.v =
    c.copy_from_slice.ensures.after ∙ ap (take g.row.WIDTH) (c.to_le_bytes.ensures ∙ bytes_eight c.args.v) ∙ bytes_take g.row.WIDTH 8 c.args.v c.requires.0 in
    let long = bytes_length g.row.WIDTH c.args.v in
    let part : c.args.at + g.row.WIDTH - c.args.at ≡ g.row.WIDTH = omega arith in
    rw copied (wrote_part (bytes_of g.row.WIDTH c.args.v) c.args.out.now c.args.at _ _ (part ∙ sym long) (ap (λ (k : ℕ). c.args.at + k) (sym long)))
