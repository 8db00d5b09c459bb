-- `buffer_pool::BufferPool::slice` meets its contract. Assumes nothing.
use Rattle.buffer_pool.proofs.ViewLaws.{slice_within, slice_bytes, slice_pointer}
use Rattle.buffer_pool.proofs.buffer_pool.BufferPool.slice.Goals as goal

pub part-requires : goal.part-requires
part-requires c = search slice_within

pub returns-clause-result_value : goal.returns-clause-result_value
returns-clause-result_value c = search slice_bytes

pub returns-clause-ref_ptr_value : goal.returns-clause-ref_ptr_value
returns-clause-ref_ptr_value c = search slice_pointer
