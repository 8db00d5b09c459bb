-- `sound::limited` meets its contract. Assumes nothing.
use native.Mathlib.Omega.{arith}
use Rattle.std.proofs.lemmas.Bool.Decides.{nat_tests}
use Rattle.buffer_pool.specs.Soundness.{limited}
use Rattle.buffer_pool.specs.SlotPass.{bytes_sound}
use Rattle.buffer_pool.proofs.sound.limited.Goals as goal

pub returns-then-n-gt0 : goal.returns-then-n-gt0
unfolding bytes_sound limited
returns-then-n-gt0 c = grind (arith, nat_tests)

pub returns-else-n : goal.returns-else-n
unfolding bytes_sound limited
returns-else-n c = grind (arith, nat_tests)

pub returns-else-n-gt0 : goal.returns-else-n-gt0
unfolding bytes_sound limited
returns-else-n-gt0 c = grind (arith, nat_tests)
