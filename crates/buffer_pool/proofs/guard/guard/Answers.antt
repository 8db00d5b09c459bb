-- `guard::guard` meets its contract. Assumes nothing.
use Rattle.buffer_pool.proofs.SoundTestLaws.{front_most, front_word, front_ends}
use Rattle.buffer_pool.proofs.GuardLaws.{guard_front, guard_slots, guard_pool, guard_overflow, guard_none}
use Rattle.buffer_pool.proofs.guard.guard.Goals as goal

pub returns-then-not-sound : goal.returns-then-not-sound
returns-then-not-sound c = search guard_front

pub invariant_of-slots_sound : goal.invariant_of-slots_sound
invariant_of-slots_sound c = record { worded = record { most = search front_most; word = search front_word }; back_within = search front_ends }

pub returns-then-not-slots_sound : goal.returns-then-not-slots_sound
returns-then-not-slots_sound c = search guard_slots

pub returns-then-pool-n : goal.returns-then-pool-n
returns-then-pool-n c = search guard_pool

pub returns-then-overflow-n : goal.returns-then-overflow-n
returns-then-overflow-n c = search guard_overflow

pub returns : goal.returns
returns c = search guard_none
