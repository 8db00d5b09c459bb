-- `placing::fast_path` meets its contract. Assumes nothing.
use Rattle.buffer_pool.proofs.Unmoved.{path_over, path_reset, path_back, path_back_full, path_front, path_front_full, path_alloc}
use Rattle.buffer_pool.proofs.placing.fast_path.Goals as goal

pub returns-then-starts_over : goal.returns-then-starts_over
returns-then-starts_over c = search path_over

pub returns-then-resets : goal.returns-then-resets
returns-then-resets c = search path_reset

pub returns-in-Back : goal.returns-in-Back
returns-in-Back c = search path_back

pub returns-in-Front : goal.returns-in-Front
returns-in-Front c = search path_front

pub returns-in-Alloc : goal.returns-in-Alloc
returns-in-Alloc c = search path_alloc

pub returns-in_default : goal.returns-in_default
returns-in_default c = search path_back_full

pub returns-in_default-2 : goal.returns-in_default-2
returns-in_default-2 c = search path_front_full
