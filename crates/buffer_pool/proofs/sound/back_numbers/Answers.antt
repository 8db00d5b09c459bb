-- `sound::back_numbers` meets its contract. Assumes nothing.
use native.Mathlib.Omega.{arith}
use Rattle.std.proofs.lemmas.Bool.Decides.{nat_tests}
use Rattle.buffer_pool.specs.Soundness.{back_numbers}
use Rattle.buffer_pool.proofs.sound.back_numbers.Goals as goal

pub returns-then-n-eq0 : goal.returns-then-n-eq0
unfolding back_numbers
returns-then-n-eq0 c = grind (arith, nat_tests)

pub returns-else-n-eq0 : goal.returns-else-n-eq0
unfolding back_numbers
returns-else-n-eq0 c = grind (arith, nat_tests)
