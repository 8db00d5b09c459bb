-- `is_good` meets its contract. The two tests are those of the definition. Assumes nothing.
use native.Mathlib.Omega.{arith}
use Rattle.std.proofs.lemmas.Bool.Decides.{nat_tests}
use Rattle.trace.specs.Trace.{good_at}
use Rattle.trace.proofs.is_good.Goals as goal

pub returns-then-filler_is_zero : goal.returns-then-filler_is_zero
unfolding good_at
returns-then-filler_is_zero c = grind (arith, nat_tests)

pub returns-else-filler_is_zero : goal.returns-else-filler_is_zero
unfolding good_at
returns-else-filler_is_zero c = grind (arith, nat_tests)
