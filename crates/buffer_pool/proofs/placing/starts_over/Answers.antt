-- `placing::starts_over` meets its contract. Assumes nothing.
use native.Mathlib.Omega.{arith}
use Rattle.std.proofs.lemmas.Bool.Decides.{nat_tests}
use Rattle.buffer_pool.specs.Deciding.{starts_over_in}
use Rattle.buffer_pool.proofs.placing.starts_over.Goals as goal

pub returns-then-n-eq0 : goal.returns-then-n-eq0
unfolding starts_over_in
returns-then-n-eq0 c = grind (arith, nat_tests)

pub returns-else-n-eq0 : goal.returns-else-n-eq0
unfolding starts_over_in
returns-else-n-eq0 c = grind (arith, nat_tests)
