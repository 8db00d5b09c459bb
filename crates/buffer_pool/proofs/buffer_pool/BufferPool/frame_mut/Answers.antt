-- `buffer_pool::BufferPool::frame_mut` meets its contract. Assumes nothing.
use Rattle.buffer_pool.proofs.ViewPlaces.{frame_lies}
use Rattle.buffer_pool.proofs.buffer_pool.BufferPool.frame_mut.Goals as goal

pub view_mut-requires : goal.view_mut-requires
view_mut-requires c = search frame_lies
