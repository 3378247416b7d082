-- The two tests of the definition.
use Rattle.profiles.proofs.TextScans.{no_text_lem, long_text, short_text}
use Rattle.profiles.proofs.judge_text.Goals as goal

pub returns-then-text-gt-TEXT_LIMIT : goal.returns-then-text-gt-TEXT_LIMIT
returns-then-text-gt-TEXT_LIMIT c = no_text_lem _ _ _ (long_text _ c.if-text-gt-TEXT_LIMIT.true)

pub returns-then-text-le-SHORT_LIMIT : goal.returns-then-text-le-SHORT_LIMIT
returns-then-text-le-SHORT_LIMIT c = short_text _ _ _ c.if-text-gt-TEXT_LIMIT.false c.scan_sized.ensures

pub returns-else-text-le-SHORT_LIMIT : goal.returns-else-text-le-SHORT_LIMIT
returns-else-text-le-SHORT_LIMIT c = short_text _ _ _ c.if-text-gt-TEXT_LIMIT.false c.scan_sized-else-text-le-SHORT_LIMIT.ensures
