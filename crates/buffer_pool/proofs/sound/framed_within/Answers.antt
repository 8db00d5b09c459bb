-- `sound::framed_within` meets its contract. Assumes nothing.
use native.Mathlib.Omega.{arith}
use Rattle.std.proofs.lemmas.Bool.Decides.{nat_tests}
use Rattle.buffer_pool.specs.Soundness.{framed_within}
use Rattle.buffer_pool.proofs.sound.framed_within.Goals as goal

pub returns-then-slot_left : goal.returns-then-slot_left
unfolding framed_within
returns-then-slot_left c = grind (arith, nat_tests)

pub returns-then-n-eq0 : goal.returns-then-n-eq0
unfolding framed_within
returns-then-n-eq0 c = grind (arith, nat_tests)

pub returns-else-n-eq0 : goal.returns-else-n-eq0
unfolding framed_within
returns-else-n-eq0 c = grind (arith, nat_tests)

pub returns-else-in_bounds : goal.returns-else-in_bounds
unfolding framed_within
returns-else-in_bounds c = grind (arith, nat_tests)
