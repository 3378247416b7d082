use mathlib.Core.Path.{sym, ◌∙◌}
use Rattle.profiles.proofs.LineWordLaws.{Small}
use Rattle.profiles.proofs.TextScans.{text_start, no_text_lem, text_open, text_end, text_broken, word_small, profile_less, profile_to_note, profile_repeats, profile_passed}
use Rattle.profiles.proofs.TextScans.{entry_less, entry_passed, text_stops, end_less, end_passed}
use Rattle.profiles.proofs.scan_lines.Goals as goal

pub loop-at-init : goal.loop-at-init
loop-at-init c =
    text_start c.args.text.now c.args.notes.now c.args.marks.now c.args.words.now c.requires.0 c.requires.1 c.requires.2 c.requires.3

pub returns-in_err-line : goal.returns-in_err-line
returns-in_err-line c =
    rw c.from_residual.ensures
    (no_text_lem _ _ _ (text_broken _ _ _ _ _ _ _ _ _ _ c.loop-at.invariant (sym c.in_err-line.was ∙ c.line_at.ensures) c.loop-at-test.true))

pub returns-then-not-may_stand : goal.returns-then-not-may_stand
returns-then-not-may_stand c = no_text_lem _ _ _ (text_stops _ _ _ _ _ _ _ _ _ _ c.loop-at.invariant
    _ (sym c.in_ok-line.was ∙ c.line_at.ensures) c.loop-at-test.true _ c.may_stand.ensures c.if-not-may_stand.true)

pub line_word-requires : goal.line_word-requires
line_word-requires c = let h : Small _ = word_small _ _ _ _ _ _ _ _ _ _ c.loop-at.invariant
    _ (sym c.in_ok-line.was ∙ c.line_at.ensures) c.loop-at-test.true in (h.path, h.size, h.modes)

pub note_path-requires : goal.note_path-requires
note_path-requires c =
    let turn = c.loop-at in (
      profile_to_note _ _ _ _ _ _ _ _ _ _ turn.invariant _ (sym c.in_ok-line.was ∙ c.line_at.ensures) c.loop-at-test.true c.in-Profile.is,
      turn.invariant.marked,
    )

pub returns-then-note_path-profiles : goal.returns-then-note_path-profiles
returns-then-note_path-profiles c =
    no_text_lem _ _ _ (profile_repeats _ _ _ _ _ _ _ _ _ _ c.loop-at.invariant _ (sym c.in_ok-line.was ∙ c.line_at.ensures) c.loop-at-test.true
    c.in-Profile.is _ c.note_path.ensures.0 _ c.may_stand.ensures c.if-not-may_stand.false c.if-note_path-profiles.true)

pub loop-at-smaller-in-Profile : goal.loop-at-smaller-in-Profile
loop-at-smaller-in-Profile c =
    profile_less _ _ _ _ _ _ _ _ _ _ c.loop-at.invariant _ (sym c.in_ok-line.was ∙ c.line_at.ensures) c.loop-at-test.true c.in-Profile.is

pub loop-at-preserved-in-Profile : goal.loop-at-preserved-in-Profile
loop-at-preserved-in-Profile c =
    profile_passed _ _ _ _ _ _ _ _ _ _ c.loop-at.invariant _ (sym c.in_ok-line.was ∙ c.line_at.ensures) c.loop-at-test.true c.in-Profile.is
    _ c.note_path.ensures.0 _ c.may_stand.ensures c.if-not-may_stand.false c.if-note_path-profiles.false _ c.note_path.ensures.1 _
    c.note_path.ensures.2 _ c.line_word.ensures

pub loop-at-smaller-in-Entry : goal.loop-at-smaller-in-Entry
loop-at-smaller-in-Entry c =
    entry_less _ _ _ _ _ _ _ _ _ _ c.loop-at.invariant _ (sym c.in_ok-line.was ∙ c.line_at.ensures) c.loop-at-test.true c.in-Entry.is

pub loop-at-preserved-in-Entry : goal.loop-at-preserved-in-Entry
loop-at-preserved-in-Entry c =
    entry_passed _ _ _ _ _ _ _ _ _ _ c.loop-at.invariant _ (sym c.in_ok-line.was ∙ c.line_at.ensures) c.loop-at-test.true c.in-Entry.is _
    c.may_stand.ensures c.if-not-may_stand.false _ c.line_word.ensures

pub loop-at-smaller : goal.loop-at-smaller
loop-at-smaller c =
    end_less _ _ _ _ _ _ _ _ _ _ c.loop-at.invariant _ (sym c.in_ok-line.was ∙ c.line_at.ensures) c.loop-at-test.true c.in-End.is _
    c.may_stand.ensures c.if-not-may_stand.false

pub loop-at-preserved : goal.loop-at-preserved
loop-at-preserved c =
    end_passed _ _ _ _ _ _ _ _ _ _ c.loop-at.invariant _ (sym c.in_ok-line.was ∙ c.line_at.ensures) c.loop-at-test.true c.in-End.is _
    c.may_stand.ensures c.if-not-may_stand.false _

pub returns-then-inside : goal.returns-then-inside
returns-then-inside c = text_open _ _ _ _ _ _ _ _ _ _ c.loop-at.invariant c.loop-at-test.false c.if-inside.true

pub returns-else-inside : goal.returns-else-inside
returns-else-inside c = text_end _ _ _ _ _ _ _ _ _ _ c.loop-at.invariant c.loop-at-test.false c.if-inside.false
