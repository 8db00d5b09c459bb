-- `event_at` meets its contract. The list of the events has the event of each index below the count, and no other. Assumes nothing.
use Rattle.trace.proofs.ReadLaws.{no_event_lem, some_event}
use Rattle.trace.proofs.event_at.Goals as goal

pub returns-then-number-index : goal.returns-then-number-index
returns-then-number-index c = search no_event_lem

pub returns : goal.returns
returns c = search some_event
