-- `placing::alloc_path` meets its contract. Assumes nothing.
use Rattle.buffer_pool.proofs.Unmoved.{path_gone, path_kept, path_grows, path_short}
use Rattle.buffer_pool.proofs.placing.alloc_path.Goals as goal

pub returns-then-not-keeps : goal.returns-then-not-keeps
returns-then-not-keeps c = search path_gone

pub returns-then-in_bounds : goal.returns-then-in_bounds
returns-then-in_bounds c = search path_kept

pub returns-then-in_bounds-2 : goal.returns-then-in_bounds-2
returns-then-in_bounds-2 c = search path_grows

pub returns : goal.returns
returns c = search path_short
