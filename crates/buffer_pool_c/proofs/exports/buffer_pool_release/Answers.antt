-- `exports::buffer_pool_release` meets its contract. Assumes nothing.
use Rattle.buffer_pool_c.proofs.ExportLaws.{release_done, release_refused}
use Rattle.buffer_pool_c.proofs.exports.buffer_pool_release.Goals as goal

pub returns-in-Ok : goal.returns-in-Ok
returns-in-Ok c = search (release_done, c.in-Ok.ensures)

pub returns-in-Err : goal.returns-in-Err
returns-in-Err c = search (release_refused, c.in-Err.ensures)
