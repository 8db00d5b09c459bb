-- `slots::Slots::slot_of` meets its contract. While the slots that were passed do not bear the caller and the serial, the first that does is the first of those that are left. Assumes nothing.
use borrow.Author.Rules.{rules}
use Rattle.replay.proofs.SlotLaws.{slot_here, slot_more, slot_none}
use Rattle.replay.proofs.slots.Slots.slot_of.Goals as goal

pub returns-then-bears-clause-slot : goal.returns-then-bears-clause-slot
returns-then-bears-clause-slot c = search slot_here

pub loop-i-preserved : goal.loop-i-preserved
loop-i-preserved c = (search rules, search slot_more)

pub returns-clause-slot : goal.returns-clause-slot
returns-clause-slot c = search slot_none
