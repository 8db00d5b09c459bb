-- `sound::alloc_numbers` meets its contract. Assumes nothing.
use native.Mathlib.Omega.{arith}
use Rattle.std.proofs.lemmas.Bool.Decides.{nat_tests}
use Rattle.buffer_pool.specs.Soundness.{alloc_sound}
use Rattle.buffer_pool.proofs.sound.alloc_numbers.Goals as goal

pub returns-then-n-eq0-2 : goal.returns-then-n-eq0-2
unfolding alloc_sound
returns-then-n-eq0-2 c = grind (arith, nat_tests)

pub returns-else-n-eq0-2 : goal.returns-else-n-eq0-2
unfolding alloc_sound
returns-else-n-eq0-2 c = grind (arith, nat_tests)
