-- `steps::names` meets its contract. Assumes nothing.
use native.Mathlib.Omega.{arith}
use Rattle.std.proofs.lemmas.Bool.Decides.{nat_tests}
use Rattle.buffer_pool.specs.Steps.{names}
use Rattle.buffer_pool.proofs.steps.names.Goals as goal

pub returns-then-slot-lt1 : goal.returns-then-slot-lt1
unfolding names
returns-then-slot-lt1 c = grind (arith, nat_tests)

pub returns-then-h-entries-4 : goal.returns-then-h-entries-4
unfolding names
returns-then-h-entries-4 c = grind (arith, nat_tests)

pub returns-else-h-entries-4 : goal.returns-else-h-entries-4
unfolding names
returns-else-h-entries-4 c = grind (arith, nat_tests)
