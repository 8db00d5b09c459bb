-- `buffer_pool::BufferPool::reservation` meets its contract. Assumes nothing.
use Rattle.buffer_pool.proofs.ViewPlaces.{reservation_lies}
use Rattle.buffer_pool.proofs.buffer_pool.BufferPool.reservation.Goals as goal

pub view-requires : goal.view-requires
view-requires c = search reservation_lies
