-- `slice::zeros` meets its contract. Assumes nothing.
-- The check finds this alone; without it no fact refuses the edit leading_for_trailing.
use lib.Count.{trailing_le}
use mathlib.Core.Path.{refl}
use Rattle.buffer_pool.proofs.slice.zeros.Goals as goal

pub returns : goal.returns
returns c = (refl, trailing_le 16 c.args.live)
