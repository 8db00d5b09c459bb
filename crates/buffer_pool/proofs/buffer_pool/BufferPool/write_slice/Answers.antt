-- `buffer_pool::BufferPool::write_slice` meets its contract. Assumes nothing.
-- The check finds the answer to the value alone; without it no fact refuses the edit refused_write_of_slice_tells_nothing.
use Rattle.buffer_pool.proofs.ViewLaws.{told_there, slice_within, slice_written}
use Rattle.buffer_pool.proofs.buffer_pool.BufferPool.write_slice.Goals as goal

pub set_byte-requires : goal.set_byte-requires
set_byte-requires c = search slice_within

pub returns-clause-value : goal.returns-clause-value
returns-clause-value c = search told_there

pub returns-clause-memories_after : goal.returns-clause-memories_after
returns-clause-memories_after c = search slice_written
