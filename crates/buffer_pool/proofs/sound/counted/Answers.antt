-- `sound::counted` meets its contract. Assumes nothing.
use native.Mathlib.Omega.{arith}
use Rattle.std.proofs.lemmas.Bool.Decides.{nat_tests}
use Rattle.buffer_pool.specs.SlotPass.{is_back_within}
use Rattle.buffer_pool.proofs.sound.counted.Goals as goal

pub returns-then-n : goal.returns-then-n
unfolding is_back_within
returns-then-n c = grind (arith, nat_tests)

pub returns-else-n : goal.returns-else-n
unfolding is_back_within
returns-else-n c = grind (arith, nat_tests)
