-- `pool_back::element_to_drop` meets its contract. Assumes nothing.
use Rattle.buffer_pool.specs.Placing.{drops}
use native.Mathlib.Omega.{arith}
use Rattle.buffer_pool.proofs.pool_back.element_to_drop.Goals as goal

pub returns : goal.returns
unfolding drops
returns c = grind arith
