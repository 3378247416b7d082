-- `figures::trace_name`. The two last digits, and a text (`name_text`).
use Rattle.figures.proofs.FigureLines.{name_text}
use Rattle.figures.proofs.trace_name.Goals as goal

pub returns : goal.returns
returns c = name_text c.args.n
