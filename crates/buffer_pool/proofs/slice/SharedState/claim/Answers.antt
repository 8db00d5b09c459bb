-- `slice::SharedState::claim` meets its contract. Assumes nothing.
use Rattle.laws.specs.Live.{claimed}
use Rattle.buffer_pool.proofs.slice.SharedState.claim.Goals as goal

pub returns : goal.returns
unfolding claimed
returns c = cc
