-- `exports::buffer_pool_reservation` meets its contract. Assumes nothing.
use Rattle.buffer_pool_c.proofs.ExportLaws.{reservation_as}
use Rattle.buffer_pool_c.proofs.exports.buffer_pool_reservation.Goals as goal

pub returns : goal.returns
returns c = search reservation_as
