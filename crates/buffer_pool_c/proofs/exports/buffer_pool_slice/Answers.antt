-- `exports::buffer_pool_slice` meets its contract. Assumes nothing.
use Rattle.buffer_pool_c.proofs.ExportLaws.{slice_as}
use Rattle.buffer_pool_c.proofs.exports.buffer_pool_slice.Goals as goal

pub returns : goal.returns
returns c = search slice_as
