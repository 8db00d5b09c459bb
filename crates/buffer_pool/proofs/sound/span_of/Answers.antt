-- `sound::span_of` meets its contract. Assumes nothing.
use Rattle.buffer_pool.proofs.SoundTestLaws.{span_back, span_front, span_alloc}
use Rattle.buffer_pool.proofs.sound.span_of.Goals as goal

pub returns-in-Back : goal.returns-in-Back
returns-in-Back c = search span_back

pub returns-in-Front : goal.returns-in-Front
returns-in-Front c = search span_front

pub returns-in-Alloc : goal.returns-in-Alloc
returns-in-Alloc c = search span_alloc
