-- `record::Record::from` meets its contract. Assumes nothing.
-- The check finds this alone; without it no fact refuses the edits new_record_has_a_front, overflow_length_stored_as_capacity and stored_with_sixteen_slots.
use mathlib.Core.Path.{refl}
use Rattle.buffer_pool_c.proofs.record.RecordFromBufferPool.from.Goals as goal

pub returns : goal.returns
returns c = rw (c.entries.ensures, c.mode_number.ensures, c.front_of-front.ensures) refl
