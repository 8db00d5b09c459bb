-- `sound::parts_sound` meets its contract. Assumes nothing.
use native.Mathlib.Omega.{arith}
use Rattle.std.proofs.lemmas.Bool.Decides.{nat_tests}
use Rattle.buffer_pool.specs.SlotPass.{parts_sound}
use Rattle.buffer_pool.proofs.SoundTestLaws.{front_most, front_word, front_ends}
use Rattle.buffer_pool.proofs.sound.parts_sound.Goals as goal

pub returns-then-front_sound : goal.returns-then-front_sound
unfolding parts_sound
returns-then-front_sound c = grind (arith, nat_tests)

pub invariant_of-slots_sound : goal.invariant_of-slots_sound
invariant_of-slots_sound c = record { worded = record { most = search front_most; word = search front_word }; back_within = search front_ends }

pub returns-else-front_sound : goal.returns-else-front_sound
unfolding parts_sound
returns-else-front_sound c = grind (arith, nat_tests)
