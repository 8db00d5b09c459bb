-- `event::step_of` meets its contract. Assumes nothing.
use Rattle.replay.proofs.EventLaws.{step_of_lem}
use Rattle.replay.proofs.event.step_of.Goals as goal

pub returns : goal.returns
returns c = search step_of_lem
