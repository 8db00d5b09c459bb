-- `is_headed` meets its contract. The four tests are those of the definition. Assumes nothing.
use native.Mathlib.Omega.{arith}
use Rattle.std.proofs.lemmas.Bool.Decides.{nat_tests}
use Rattle.trace.specs.Trace.{complete, headed}
use Rattle.trace.proofs.is_headed.Goals as goal

pub returns-then-is_in_order : goal.returns-then-is_in_order
unfolding headed complete
returns-then-is_in_order c = grind (arith, nat_tests)

pub returns-else-is_in_order : goal.returns-else-is_in_order
unfolding headed complete
returns-else-is_in_order c = grind (arith, nat_tests)
