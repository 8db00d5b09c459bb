-- `buffer_pool::BufferPool::slice_mut` meets its contract. Assumes nothing.
use Rattle.buffer_pool.proofs.ViewLaws.{slice_within, slice_bytes, slice_pointer}
use Rattle.buffer_pool.proofs.buffer_pool.BufferPool.slice_mut.Goals as goal

pub part_mut-requires : goal.part_mut-requires
part_mut-requires c = search slice_within

pub returns-clause-result_value : goal.returns-clause-result_value
returns-clause-result_value c = search slice_bytes

pub returns-clause-ref_ptr_value : goal.returns-clause-ref_ptr_value
returns-clause-ref_ptr_value c = search slice_pointer
