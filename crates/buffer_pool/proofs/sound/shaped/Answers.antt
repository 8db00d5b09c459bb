-- `sound::shaped` meets its contract. Assumes nothing.
use native.Mathlib.Omega.{arith}
use Rattle.std.proofs.lemmas.Bool.Decides.{nat_tests}
use Rattle.buffer_pool.specs.Soundness.{is_slot_count}
use Rattle.buffer_pool.specs.SlotPass.{word_fits}
use Rattle.buffer_pool.proofs.sound.shaped.Goals as goal

pub returns-in-16 : goal.returns-in-16
unfolding word_fits is_slot_count
returns-in-16 c = grind (arith, nat_tests)

pub returns-in-8 : goal.returns-in-8
unfolding word_fits is_slot_count
returns-in-8 c = grind (arith, nat_tests)

pub returns-in_default : goal.returns-in_default
unfolding word_fits is_slot_count
returns-in_default c = grind (arith, nat_tests)
