-- `sound::mode_numbers` meets its contract. Assumes nothing.
use Rattle.buffer_pool.proofs.SoundTestLaws.{numbers_back, numbers_front, numbers_alloc}
use Rattle.buffer_pool.proofs.sound.mode_numbers.Goals as goal

pub returns-in-Back : goal.returns-in-Back
returns-in-Back c = search numbers_back

pub returns-in-Front : goal.returns-in-Front
returns-in-Front c = search numbers_front

pub returns-in-Alloc : goal.returns-in-Alloc
returns-in-Alloc c = search numbers_alloc
