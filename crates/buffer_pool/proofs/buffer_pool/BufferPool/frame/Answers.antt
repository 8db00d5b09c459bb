-- `buffer_pool::BufferPool::frame` meets its contract. Assumes nothing.
use Rattle.buffer_pool.proofs.ViewPlaces.{frame_lies}
use Rattle.buffer_pool.proofs.buffer_pool.BufferPool.frame.Goals as goal

pub view-requires : goal.view-requires
view-requires c = search frame_lies
