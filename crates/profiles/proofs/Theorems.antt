-- "A text has a reading exactly when it is of this grammar, and only one."
use Prim.Native.Nat.{ℕ, ◌≤◌}
use mathlib.Core.Path.{◌≡◌, refl, sym, ap, ◌∙◌, subst}
use mathlib.Core.Logic.{◌↔◌}
use mathlib.Core.Bool.{true}
use mathlib.Core.List.{List, map}
use mathlib.Core.Option.{Option, none, some}
use Rattle.lists.specs.Lists.{every}
use lib.Dec.{leb}
use lib.ListN.{length}
use borrow.Author.Tests.{leb-true, le-leb}
use Rattle.lists.proofs.Bools.{and_in, and_0, and_1, clash}
use Rattle.lists.proofs.Places.{some_inj, none_some}
use Rattle.profiles.specs.Profiles.{Profile, text_of, profile_good}
use Rattle.profiles.specs.Grammar.{Grammar, ProfilesIn}
use Rattle.profiles.specs.Reading.{reading_of}
use Rattle.profiles.specs.Texts.{text_limit, Differ, profiled_once, reads_well, text_good}
use Rattle.profiles.proofs.PathRepeats.{repeats_not, differ_once}
use Rattle.profiles.proofs.GrammarLaws.{profiles_in, profiles_out}
use Rattle.profiles.proofs.ReadingLaws.{print_read, read_print}

-- the reading is ps exactly if the text is that of ps, whose paths and modes are good
pub reads_exactly : (t : List ℕ) (ps : List Profile) → (reading_of t ≡ some ps) ↔ ((text_of ps ≡ t) × (every profile_good ps ≡ true))
reads_exactly t ps = (print_read t ps, read_print t ps)

-- the same, with the grammar line by line
pub reads_lines : (t : List ℕ) (ps : List Profile) → (reading_of t ≡ some ps) ↔ ProfilesIn t ps
reads_lines t ps = (
  λ h. let g = print_read t ps h in subst (λ (u : List ℕ). ProfilesIn u ps) g.0 (profiles_in ps g.1),
  λ d. read_print t ps (profiles_out d),
)

-- "and only one"
pub one_reading : (t : List ℕ) (ps qs : List Profile) → Grammar t ps → Grammar t qs → ps ≡ qs
one_reading t ps qs g h = some_inj (sym (read_print t ps g) ∙ read_print t qs h)

-- there is none exactly if no profiles have the grammar of the text
pub reads_none : (t : List ℕ) → (reading_of t ≡ none) ↔ ((ps : List Profile) → Grammar t ps → ⊥)
reads_none t = (λ e ps g. none_some (sym e ∙ read_print t ps g), by (reading_of t) refl)
  where
    by : (o : Option (List Profile)) → reading_of t ≡ o → ((ps : List Profile) → Grammar t ps → ⊥) → o ≡ none
    by none e h = refl
    by (some ps) e h = absurd (h ps (print_read t ps e))

-- "16 when the text is too long, breaks the grammar or profiles a path twice": the test passes exactly if none of these is so
pub text_exactly : (t : List ℕ) → (text_good t ≡ true) ↔ ((length t ≤ 16384) × ((ps : List Profile) × Grammar t ps × Differ (map (λ p. p.path) ps)))
unfolding text_good reads_well profiled_once
text_exactly t = (to, from)
  where
    read : (o : Option (List Profile)) → reading_of t ≡ o → reads_well o ≡ true → (ps : List Profile) × Grammar t ps × Differ (map (λ p. p.path) ps)
    read none e h = clash h refl
    read (some ps) e h = (ps, print_read t ps e, repeats_not (map (λ p. p.path) ps) h)

    to : text_good t ≡ true → (length t ≤ 16384) × ((ps : List Profile) × Grammar t ps × Differ (map (λ p. p.path) ps))
    to h = (leb-true (length t) text_limit (and_0 (leb (length t) text_limit) (reads_well (reading_of t)) h), read (reading_of t) refl (and_1 (leb (length t) text_limit) h))

    from : (length t ≤ 16384) × ((ps : List Profile) × Grammar t ps × Differ (map (λ p. p.path) ps)) → text_good t ≡ true
    from (l, (ps, g, d)) = and_in (le-leb (length t) text_limit l) (ap reads_well (read_print t ps g) ∙ differ_once (map (λ p. p.path) ps) d)
