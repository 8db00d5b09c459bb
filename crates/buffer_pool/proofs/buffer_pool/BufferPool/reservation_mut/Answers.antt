-- `buffer_pool::BufferPool::reservation_mut` meets its contract. Assumes nothing.
use Rattle.buffer_pool.proofs.ViewPlaces.{reservation_lies}
use Rattle.buffer_pool.proofs.buffer_pool.BufferPool.reservation_mut.Goals as goal

pub view_mut-requires : goal.view_mut-requires
view_mut-requires c = search reservation_lies
