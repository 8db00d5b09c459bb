-- `pool_front::front_fits` meets its contract. Assumes nothing.
use native.Mathlib.Omega.{arith}
use Rattle.std.proofs.lemmas.Bool.Decides.{nat_tests}
use Rattle.buffer_pool.specs.Placing.{front_fits}
use Rattle.buffer_pool.proofs.pool_front.front_fits.Goals as goal

pub returns-then-f : goal.returns-then-f
unfolding front_fits
returns-then-f c = grind (arith, nat_tests)
