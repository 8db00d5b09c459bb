-- `slots::Slots::handle_of` meets its contract. Assumes nothing.
use Rattle.replay.proofs.SlotLaws.{handle_some, handle_none}
use Rattle.replay.proofs.slots.Slots.handle_of.Goals as goal

pub returns-in-Some : goal.returns-in-Some
returns-in-Some c = search handle_some

pub returns-in-None : goal.returns-in-None
returns-in-None c = search handle_none
