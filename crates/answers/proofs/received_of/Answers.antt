-- `answers::received_of`. A refusal has zeros.
use Rattle.answers.proofs.received_of.Goals as goal

pub returns-in-Refused : goal.returns-in-Refused
returns-in-Refused c = rw c.in-Refused.is
