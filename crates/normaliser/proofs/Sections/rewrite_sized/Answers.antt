-- The words of the rules in normal form go to the writer.
use Rattle.normaliser.proofs.FormRows.{filled_few, filled_tabled, filled_wrote}
use Rattle.normaliser.proofs.Sections.rewrite_sized.Goals as goal

pub invariant_of-policy : goal.invariant_of-policy
invariant_of-policy g c = record { tabled = filled_tabled c.args.self.now.accepted c.fill_forms.ensures }

pub write_sized-requires : goal.write_sized-requires
write_sized-requires g c =
    let n = c.requires in
    (filled_few c.args.self.now.accepted c.fill_forms.ensures _ n.2, n.3, n.4, n.5, n.6)

pub returns : goal.returns
returns g c = filled_wrote c.args.self.now.accepted c.fill_forms.ensures c.write_sized.ensures
