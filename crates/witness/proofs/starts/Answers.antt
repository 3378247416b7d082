-- A file, and its atom or its run rule.
use Rattle.witness.proofs.BeginLaws.{no_file, file_atom, run_named, file_rule}
use Rattle.witness.proofs.starts.Goals as goal

pub returns-then-not-is_file : goal.returns-then-not-is_file
returns-then-not-is_file c = no_file _ _ _ c.read8.ensures.0 c.is_file.ensures _ _ c.if-not-is_file.true

pub is_rule_at-requires : goal.is_rule_at-requires
is_rule_at-requires c = run_named c.args.r.now _ _ c.read8.ensures.0 c.is_file.ensures _ _ c.requires.1 c.read16.ensures.0 c.if-not-is_file.false

pub returns-in-Atom : goal.returns-in-Atom
returns-in-Atom c =
    rw c.in-Atom.is
    (file_atom _ _ _ c.read8.ensures.0 c.is_file.ensures _ _ _ (rw c.in-Atom.is at c.requires.2) c.read8-in-Atom.ensures.0 c.if-not-is_file.false)

pub returns-in-Rule : goal.returns-in-Rule
returns-in-Rule c =
    rw c.in-Rule.is (file_rule _ _ _ c.read8.ensures.0 c.is_file.ensures _ _ _ _ c.read16.ensures.0 c.is_rule_at.ensures c.if-not-is_file.false)
