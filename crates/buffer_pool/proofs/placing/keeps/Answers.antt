-- `placing::keeps` meets its contract. Assumes nothing.
use native.Mathlib.Omega.{arith}
use Rattle.std.proofs.lemmas.Bool.Decides.{nat_tests}
use Rattle.buffer_pool.specs.Deciding.{keeps_in}
use Rattle.buffer_pool.proofs.placing.keeps.Goals as goal

pub returns-then-leading-eq0 : goal.returns-then-leading-eq0
unfolding keeps_in
returns-then-leading-eq0 c = grind (arith, nat_tests)

pub returns-then-stays : goal.returns-then-stays
unfolding keeps_in
returns-then-stays c = grind (arith, nat_tests)

pub returns-else-leading-eq0 : goal.returns-else-leading-eq0
unfolding keeps_in
returns-else-leading-eq0 c = grind (arith, nat_tests)
