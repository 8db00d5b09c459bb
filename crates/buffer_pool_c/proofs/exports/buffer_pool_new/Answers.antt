-- `exports::buffer_pool_new` meets its contract. Assumes nothing.
use Rattle.buffer_pool_c.proofs.ExportLaws.{new_as}
use Rattle.buffer_pool_c.proofs.exports.buffer_pool_new.Goals as goal

pub returns : goal.returns
returns c = search new_as
