-- `walk::zeros` meets its contract. Assumes nothing.
use Rattle.replay.specs.Listing.{zeros}
use mathlib.Core.Path.{refl}
use Rattle.replay.proofs.walk.zeros.Goals as goal

pub returns : goal.returns
unfolding zeros
returns c = (refl, refl)
