-- `is_sized` meets its contract. The two tests are those of the definition. Assumes nothing.
use native.Mathlib.Omega.{arith}
use Rattle.std.proofs.lemmas.Bool.Decides.{nat_tests}
use Rattle.trace.specs.Trace.{sized}
use Rattle.trace.proofs.is_sized.Goals as goal

pub returns-then-number-le-SIZE_LIMIT : goal.returns-then-number-le-SIZE_LIMIT
unfolding sized
returns-then-number-le-SIZE_LIMIT c = grind (arith, nat_tests)

pub returns-else-number-le-SIZE_LIMIT : goal.returns-else-number-le-SIZE_LIMIT
unfolding sized
returns-else-number-le-SIZE_LIMIT c = grind (arith, nat_tests)
