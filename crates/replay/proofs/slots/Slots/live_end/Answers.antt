-- `slots::Slots::live_end` meets its contract. Assumes nothing.
use Rattle.replay.proofs.SlotLaws.{end_read, end_free}
use Rattle.replay.proofs.slots.Slots.live_end.Goals as goal

pub returns-then-is_live : goal.returns-then-is_live
returns-then-is_live c = search end_read

pub returns-else-is_live : goal.returns-else-is_live
returns-else-is_live c = search end_free
