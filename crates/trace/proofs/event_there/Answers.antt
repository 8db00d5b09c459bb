-- `event_there` meets its contract. The event's kind, caller and number stand at its place. Assumes nothing.
-- The check finds this alone; without it no fact refuses the edit caller_in_byte_two_code.
use Rattle.trace.proofs.EventLaws.{event_there}
use Rattle.trace.proofs.event_there.Goals as goal

pub returns : goal.returns
returns c = search event_there
