-- `slots::Slots::held` meets its contract. The number is the highest end of the slots that were passed. Assumes nothing.
use borrow.Author.Rules.{rules}
use Rattle.replay.specs.HeldBytes.{highest_end}
use Rattle.replay.proofs.SlotLaws.{held_more, held_all}
use Rattle.replay.proofs.slots.Slots.held.Goals as goal

pub loop-i-init : goal.loop-i-init
unfolding highest_end
loop-i-init c = search rules

pub loop-i-preserved : goal.loop-i-preserved
loop-i-preserved c = (search rules, search (held_more, rules))

pub returns : goal.returns
returns c = search held_all
