-- `sound::numbers_sound` meets its contract. Assumes nothing.
use native.Mathlib.Omega.{arith}
use Rattle.std.proofs.lemmas.Bool.Decides.{nat_tests}
use Rattle.buffer_pool.specs.SlotPass.{is_back_within, numbers_sound}
use Rattle.buffer_pool.proofs.sound.numbers_sound.Goals as goal

pub returns-then-counted : goal.returns-then-counted
unfolding numbers_sound
returns-then-counted c = grind (arith, nat_tests)

pub mode_numbers-requires : goal.mode_numbers-requires
unfolding is_back_within
mode_numbers-requires c = grind (arith, nat_tests)

pub returns-else-counted : goal.returns-else-counted
unfolding numbers_sound
returns-else-counted c = grind (arith, nat_tests)
