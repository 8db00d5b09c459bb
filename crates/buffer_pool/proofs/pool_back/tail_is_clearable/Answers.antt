-- `pool_back::tail_is_clearable` meets its contract. Assumes nothing.
use native.Mathlib.Omega.{arith}
use Rattle.std.proofs.lemmas.Bool.Decides.{nat_tests}
use Rattle.buffer_pool.specs.Placing.{clearable}
use Rattle.buffer_pool.proofs.pool_back.tail_is_clearable.Goals as goal

pub returns-then-element_to_drop-back_len : goal.returns-then-element_to_drop-back_len
unfolding clearable
returns-then-element_to_drop-back_len c = grind (arith, nat_tests)

pub returns-else-element_to_drop-back_len : goal.returns-else-element_to_drop-back_len
unfolding clearable
returns-else-element_to_drop-back_len c = grind (arith, nat_tests)
