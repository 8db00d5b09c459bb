-- `listing::moved` meets its contract. Assumes nothing.
use Rattle.replay.proofs.Size.{move_is}
use Rattle.replay.proofs.listing.moved.Goals as goal

pub returns : goal.returns
returns c = move_is c.args.s c.requires.0 c.requires.1
