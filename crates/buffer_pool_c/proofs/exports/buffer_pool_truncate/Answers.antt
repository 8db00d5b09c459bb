-- `exports::buffer_pool_truncate` meets its contract. Assumes nothing.
use Rattle.buffer_pool_c.proofs.ExportLaws.{truncate_as}
use Rattle.buffer_pool_c.proofs.exports.buffer_pool_truncate.Goals as goal

pub returns : goal.returns
returns c = search truncate_as
