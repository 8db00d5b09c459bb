-- `listing::put_head` meets its contract. Assumes nothing.
use Rattle.replay.proofs.LineLaws.{line_head_lem}
use Rattle.replay.proofs.listing.put_head.Goals as goal

pub returns-clause-text : goal.returns-clause-text
returns-clause-text c = search line_head_lem
