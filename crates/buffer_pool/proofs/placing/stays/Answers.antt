-- `placing::stays` meets its contract. Assumes nothing.
use native.Mathlib.Omega.{arith}
use Rattle.std.proofs.lemmas.Bool.Decides.{nat_tests}
use Rattle.buffer_pool.specs.Placing.{stays}
use Rattle.buffer_pool.proofs.placing.stays.Goals as goal

pub returns-then-n-eq0 : goal.returns-then-n-eq0
unfolding stays
returns-then-n-eq0 c = grind (arith, nat_tests)

pub returns-else-n-eq0 : goal.returns-else-n-eq0
unfolding stays
returns-else-n-eq0 c = grind (arith, nat_tests)
