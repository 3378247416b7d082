-- The law of three digits is the contract.
use Rattle.listing.proofs.NumberTexts.{three_digits_lem}
use Rattle.listing.proofs.three_digits.Goals as goal

pub returns : goal.returns
returns c = three_digits_lem c.args.n c.requires
