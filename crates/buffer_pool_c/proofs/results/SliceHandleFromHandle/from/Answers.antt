-- C's handle becomes the pool's. Assumes nothing.
-- The check finds this alone; without it no fact refuses the edits caller_cut_to_its_low_byte and slot_cut_to_its_low_byte.
use Rattle.buffer_pool_c.proofs.ResultLaws.{named_as}
use Rattle.buffer_pool_c.proofs.results.SliceHandleFromHandle.from.Goals as goal

pub returns : goal.returns
returns c = search named_as
