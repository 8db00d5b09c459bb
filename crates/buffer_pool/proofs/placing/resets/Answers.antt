-- `placing::resets` meets its contract. Assumes nothing.
use native.Mathlib.Omega.{arith}
use Rattle.std.proofs.lemmas.Bool.Decides.{nat_tests}
use Rattle.buffer_pool.specs.Placing.{resets}
use Rattle.buffer_pool.proofs.placing.resets.Goals as goal

pub returns-then-n-ne0 : goal.returns-then-n-ne0
unfolding resets
returns-then-n-ne0 c = grind (arith, nat_tests)

pub returns-then-in_overflow : goal.returns-then-in_overflow
unfolding resets
returns-then-in_overflow c = grind (arith, nat_tests)

pub returns-else-in_overflow : goal.returns-else-in_overflow
unfolding resets
returns-else-in_overflow c = grind (arith, nat_tests)

pub returns-else-n-eq0 : goal.returns-else-n-eq0
unfolding resets
returns-else-n-eq0 c = grind (arith, nat_tests)
