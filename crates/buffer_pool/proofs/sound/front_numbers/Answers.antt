-- `sound::front_numbers` meets its contract. Assumes nothing.
use native.Mathlib.Omega.{arith}
use Rattle.std.proofs.lemmas.Bool.Decides.{nat_tests}
use Rattle.buffer_pool.specs.SlotPass.{front_counts}
use Rattle.buffer_pool.proofs.sound.front_numbers.Goals as goal

pub returns-then-len-slots : goal.returns-then-len-slots
unfolding front_counts
returns-then-len-slots c = grind (arith, nat_tests)

pub returns-else-len-slots : goal.returns-else-len-slots
unfolding front_counts
returns-else-len-slots c = grind (arith, nat_tests)
