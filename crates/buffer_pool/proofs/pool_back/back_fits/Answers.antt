-- `pool_back::back_fits` meets its contract. Assumes nothing.
use native.Mathlib.Omega.{arith}
use Rattle.std.proofs.lemmas.Bool.Decides.{nat_tests}
use Rattle.buffer_pool.specs.Placing.{back_fits}
use Rattle.buffer_pool.proofs.pool_back.back_fits.Goals as goal

pub returns-then-in_bounds : goal.returns-then-in_bounds
unfolding back_fits
returns-then-in_bounds c = grind (arith, nat_tests)

pub returns-else-in_bounds : goal.returns-else-in_bounds
unfolding back_fits
returns-else-in_bounds c = grind (arith, nat_tests)
