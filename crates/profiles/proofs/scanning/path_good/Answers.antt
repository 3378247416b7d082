-- A path by its first byte and its length.
use Prim.Native.Nat.{ℕ, ◌-◌}
use mathlib.Core.Path.{◌≡◌, sym, ap, ◌∙◌}
use lib.Dec.{leb}
use lib.ListN.{length, drop}
use native.Mathlib.Omega.{arith}
use Rattle.profiles.specs.Reading.{path_in}
use Rattle.profiles.proofs.PathBytes.{path_no_slash, path_short, path_fits}
use Rattle.profiles.proofs.scanning.path_good.Goals as goal

pub returns-then-byte-ne-SLASH : goal.returns-then-byte-ne-SLASH
returns-then-byte-ne-SLASH c = path_no_slash c.args.text.now c.args.at (λ e. c.if-byte-ne-SLASH.true (c.byte.ensures ∙ e))

pub returns-then-end-at-lt-PATH_LEAST : goal.returns-then-end-at-lt-PATH_LEAST
returns-then-end-at-lt-PATH_LEAST c = path_short c.args.text.now c.args.at (omega arith)

pub returns : goal.returns
returns c =
    let text = c.args.text.now in
    let at = c.args.at in
    let e : c.args.end - at ≡ length (path_in (drop at text)) = omega arith in
    ap (λ (n : ℕ). leb n 64) e ∙ path_fits text at (sym c.byte.ensures ∙ c.if-byte-ne-SLASH.false) (omega arith)
