-- `listing::put_first` meets its contract. Assumes nothing.
use Rattle.replay.proofs.LineLaws.{first_line_lem}
use Rattle.replay.proofs.listing.put_first.Goals as goal

pub returns-clause-text : goal.returns-clause-text
returns-clause-text c = search first_line_lem
