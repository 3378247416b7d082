-- Each letter is the first byte of one mode.
use Rattle.std.proofs.Common.{arith}
use mathlib.Core.Path.{refl, sym, ◌∙◌}
use Rattle.fields.specs.Ascii.{ascii}
use Rattle.profiles.specs.Profiles.{mode_r, mode_w, mode_a, mode_l, mode_m, mode_ix, mode_px, mode_Px, mode_ux, mode_Ux, mode_text}
use Rattle.profiles.specs.Tokens.{starts}
use Rattle.profiles.specs.Reading.{mode_among, all_modes, mode_in}
use Rattle.profiles.specs.Scanning.{mode_bit, mode_scan}
use Rattle.profiles.proofs.ModeLaws.{one_letter, two_letters, no_letter, no_mode}
use Rattle.profiles.proofs.scanning.mode_at.Goals as goal

pub returns-in-114 : goal.returns-in-114
unfolding mode_in mode_among all_modes mode_text mode_bit mode_scan ascii starts
returns-in-114 c =
    c.letter.ensures
    ∙ one_letter c.args.text.now c.args.at c.requires _ (sym c.byte.ensures ∙ c.in-114.is) mode_r (λ u. refl)

pub returns-in-119 : goal.returns-in-119
unfolding mode_in mode_among all_modes mode_text mode_bit mode_scan ascii starts
returns-in-119 c =
    c.letter-in-119.ensures
    ∙ one_letter c.args.text.now c.args.at c.requires _ (sym c.byte.ensures ∙ c.in-119.is) mode_w (λ u. refl)

pub returns-in-97 : goal.returns-in-97
unfolding mode_in mode_among all_modes mode_text mode_bit mode_scan ascii starts
returns-in-97 c =
    c.letter-in-97.ensures
    ∙ one_letter c.args.text.now c.args.at c.requires _ (sym c.byte.ensures ∙ c.in-97.is) mode_a (λ u. refl)

pub returns-in-108 : goal.returns-in-108
unfolding mode_in mode_among all_modes mode_text mode_bit mode_scan ascii starts
returns-in-108 c =
    c.letter-in-108.ensures
    ∙ one_letter c.args.text.now c.args.at c.requires _ (sym c.byte.ensures ∙ c.in-108.is) mode_l (λ u. refl)

pub returns-in-109 : goal.returns-in-109
unfolding mode_in mode_among all_modes mode_text mode_bit mode_scan ascii starts
returns-in-109 c =
    c.letter-in-109.ensures
    ∙ one_letter c.args.text.now c.args.at c.requires _ (sym c.byte.ensures ∙ c.in-109.is) mode_m (λ u. refl)

pub returns-in-105 : goal.returns-in-105
unfolding mode_in mode_among all_modes mode_text mode_bit mode_scan ascii starts
returns-in-105 c =
    c.with_x.ensures
    ∙ rw c.byte-second.ensures
    (two_letters c.args.text.now c.args.at c.requires _ (sym c.byte.ensures ∙ c.in-105.is) mode_ix
    refl (λ u. refl))

pub returns-in-112 : goal.returns-in-112
unfolding mode_in mode_among all_modes mode_text mode_bit mode_scan ascii starts
returns-in-112 c =
    c.with_x-in-112.ensures
    ∙ rw c.byte-second.ensures
    (two_letters c.args.text.now c.args.at c.requires _ (sym c.byte.ensures ∙ c.in-112.is) mode_px
    refl (λ u. refl))

pub returns-in-80 : goal.returns-in-80
unfolding mode_in mode_among all_modes mode_text mode_bit mode_scan ascii starts
returns-in-80 c =
    c.with_x-in-80.ensures
    ∙ rw c.byte-second.ensures
    (two_letters c.args.text.now c.args.at c.requires _ (sym c.byte.ensures ∙ c.in-80.is) mode_Px
    refl (λ u. refl))

pub returns-in-117 : goal.returns-in-117
unfolding mode_in mode_among all_modes mode_text mode_bit mode_scan ascii starts
returns-in-117 c =
    c.with_x-in-117.ensures
    ∙ rw c.byte-second.ensures
    (two_letters c.args.text.now c.args.at c.requires _ (sym c.byte.ensures ∙ c.in-117.is) mode_ux
    refl (λ u. refl))

pub returns-in-85 : goal.returns-in-85
unfolding mode_in mode_among all_modes mode_text mode_bit mode_scan ascii starts
returns-in-85 c =
    c.with_x-in-85.ensures
    ∙ rw c.byte-second.ensures
    (two_letters c.args.text.now c.args.at c.requires _ (sym c.byte.ensures ∙ c.in-85.is) mode_Ux
    refl (λ u. refl))

pub returns-in_default : goal.returns-in_default
unfolding mode_in mode_among all_modes mode_text mode_bit mode_scan ascii starts
returns-in_default c =
    no_letter c.args.text.now c.args.at c.requires _ (sym c.byte.ensures)
    (no_mode c.byte.result (omega arith) (omega arith) (omega arith) (omega arith) (omega arith) (omega arith) (omega arith) (omega arith) (omega arith) (omega arith))
