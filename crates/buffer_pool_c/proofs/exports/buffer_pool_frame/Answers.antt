-- `exports::buffer_pool_frame` meets its contract. Assumes nothing.
use Rattle.buffer_pool_c.proofs.ExportLaws.{frame_as}
use Rattle.buffer_pool_c.proofs.exports.buffer_pool_frame.Goals as goal

pub returns : goal.returns
returns c = search frame_as
