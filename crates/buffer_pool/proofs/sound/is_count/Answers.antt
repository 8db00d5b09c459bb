-- `sound::is_count` meets its contract. Assumes nothing.
use native.Mathlib.Omega.{arith}
use Rattle.std.proofs.lemmas.Bool.Decides.{nat_tests}
use Rattle.buffer_pool.specs.Soundness.{is_slot_count}
use Rattle.buffer_pool.proofs.sound.is_count.Goals as goal

pub returns-then-slots-eq-POOL_CAPACITY : goal.returns-then-slots-eq-POOL_CAPACITY
unfolding is_slot_count
returns-then-slots-eq-POOL_CAPACITY c = grind (arith, nat_tests)

pub returns-else-slots-eq-POOL_CAPACITY : goal.returns-else-slots-eq-POOL_CAPACITY
unfolding is_slot_count
returns-else-slots-eq-POOL_CAPACITY c = grind (arith, nat_tests)
