-- `filler_is_zero` meets its contract. The two tests are those of the definition. Assumes nothing.
use native.Mathlib.Omega.{arith}
use Rattle.std.proofs.lemmas.Bool.Decides.{nat_tests}
use Rattle.trace.specs.Trace.{filler_zero}
use Rattle.trace.proofs.filler_is_zero.Goals as goal

pub returns-then-byte_at-eq0 : goal.returns-then-byte_at-eq0
unfolding filler_zero
returns-then-byte_at-eq0 c = grind (arith, nat_tests)

pub returns-else-byte_at-eq0 : goal.returns-else-byte_at-eq0
unfolding filler_zero
returns-else-byte_at-eq0 c = grind (arith, nat_tests)
