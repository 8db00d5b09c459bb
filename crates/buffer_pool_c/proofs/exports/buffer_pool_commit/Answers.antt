-- `exports::buffer_pool_commit` meets its contract. Assumes nothing.
use Rattle.buffer_pool_c.proofs.ExportLaws.{commit_as}
use Rattle.buffer_pool_c.proofs.exports.buffer_pool_commit.Goals as goal

pub returns : goal.returns
returns c = search commit_as
