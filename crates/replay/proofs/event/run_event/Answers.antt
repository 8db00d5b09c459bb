-- `event::run_event` meets its contract. Assumes nothing.
use Rattle.replay.proofs.EventLaws.{step_as}
use Rattle.replay.proofs.event.run_event.Goals as goal

pub returns : goal.returns
returns c =
    step_as _ _ _ _ _ _ _ _ _ _ _ _
    c.filling-k.ensures.0 (rw c.new.ensures at c.handle_of-h.ensures) c.fill.ensures.memory (rw c.fill.ensures.destination at c.call-c.ensures) c.step_of.ensures
