-- `buffer_pool::BufferPool::write_reservation` meets its contract. Assumes nothing.
-- The check finds the two of the return alone; without them no fact refuses the edits refused_write_of_reservation_tells_nothing and write_reservation_of_zero.
use Rattle.buffer_pool.proofs.ViewPlaces.{reservation_lies}
use Rattle.buffer_pool.proofs.ViewLaws.{told_there, written_there}
use Rattle.buffer_pool.proofs.buffer_pool.BufferPool.write_reservation.Goals as goal

pub write-requires : goal.write-requires
write-requires c = search reservation_lies

pub returns-clause-value : goal.returns-clause-value
returns-clause-value c = search told_there

pub returns-clause-memories_after : goal.returns-clause-memories_after
returns-clause-memories_after c = search written_there
