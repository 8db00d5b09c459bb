-- `placing::mode_step` meets its contract. Assumes nothing.
use Rattle.buffer_pool.proofs.DecidingLaws.{layer_back, layer_front, layer_alloc}
use Rattle.buffer_pool.proofs.placing.mode_step.Goals as goal

pub returns-in-Back : goal.returns-in-Back
returns-in-Back c = search layer_back

pub returns-in-Front : goal.returns-in-Front
returns-in-Front c = search layer_front

pub returns-in-Alloc : goal.returns-in-Alloc
returns-in-Alloc c = search layer_alloc
