-- `replay` meets its contract. Assumes nothing.
use Rattle.replay.proofs.ListingLaws.{too_short, all_listed}
use Rattle.replay.proofs.replay.Goals as goal

pub returns-then-out-n : goal.returns-then-out-n
returns-then-out-n c = search too_short

pub returns : goal.returns
returns c = search all_listed
