-- Paths of different lengths differ; the bytes of others are compared.
use mathlib.Core.Path.{ap, ◌∙◌}
use Prim.Native.Nat.{ℕ}
use Rattle.lists.specs.Lists.{same_list}
use Rattle.confinement.specs.Tables.{path_at}
use Rattle.confinement.proofs.PathSearch.{sizes_differ}
use Rattle.confinement.proofs.scan.same_path.Goals as goal

pub returns-then-size-other : goal.returns-then-size-other
returns-then-size-other c = sizes_differ _ _ _ _ _ c.requires.0 c.requires.1 c.if-size-other.true

pub returns : goal.returns
returns c =
    c.same_bytes.ensures
    ∙ ap (λ (k : ℕ). same_list (path_at c.args.text.now c.args.a c.args.size) (path_at c.args.text.now c.args.b k))
    c.if-size-other.false
