-- `exports::buffer_pool_take` meets its contract. Assumes nothing.
use Rattle.buffer_pool_c.proofs.ExportLaws.{take_copied, take_pooled, take_refused}
use Rattle.buffer_pool_c.proofs.exports.buffer_pool_take.Goals as goal

pub returns-in-Ok-Copied : goal.returns-in-Ok-Copied
returns-in-Ok-Copied c = search (take_copied, c.take.ensures, c.in-Ok-Copied.is, c.in-Ok-Copied.field-0-is)

pub returns-in-Ok-Pooled : goal.returns-in-Ok-Pooled
returns-in-Ok-Pooled c = search (take_pooled, c.take.ensures, c.in-Ok-Pooled.is, c.in-Ok-Pooled.field-0-is)

pub returns-in-Err : goal.returns-in-Err
returns-in-Err c = search (take_refused, c.in-Err.ensures)
