-- `buffer_pool::BufferPool::entries` meets its contract. Assumes nothing.
-- The check finds this alone; without it no fact refuses the edit starts_and_lengths_exchanged_code.
use mathlib.Core.Path.{refl}
use Rattle.buffer_pool.proofs.buffer_pool.BufferPool.entries.Goals as goal

pub returns : goal.returns
returns c = refl
