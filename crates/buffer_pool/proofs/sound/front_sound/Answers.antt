-- `sound::front_sound` meets its contract. Assumes nothing.
use Rattle.buffer_pool.proofs.SoundTestLaws.{numbers_most, numbers_word, numbers_fronts, numbers_fail, own_other, own_front}
use Rattle.buffer_pool.proofs.sound.front_sound.Goals as goal

pub returns-then-not-sound : goal.returns-then-not-sound
returns-then-not-sound c = search numbers_fail

pub front_own-requires : goal.front_own-requires
front_own-requires c = search (numbers_fronts, numbers_most, numbers_word)

pub returns-in-Back : goal.returns-in-Back
returns-in-Back c = search own_other

pub returns-in-Front : goal.returns-in-Front
returns-in-Front c = search own_front
