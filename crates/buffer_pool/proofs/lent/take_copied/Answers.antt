-- `lent::take_copied` meets its contract. Assumes nothing.
use Rattle.buffer_pool.proofs.TakeLaws.{short_take, short_destination, long_take, long_overflow}
use Rattle.buffer_pool.proofs.lent.take_copied.Goals as goal

pub returns-then-destination-cursor-clause-value : goal.returns-then-destination-cursor-clause-value
returns-then-destination-cursor-clause-value c = search short_take

pub returns-then-destination-cursor-clause-destination_after : goal.returns-then-destination-cursor-clause-destination_after
returns-then-destination-cursor-clause-destination_after c = search short_destination

pub returns-clause-value : goal.returns-clause-value
returns-clause-value c = search long_take

pub returns-clause-overflow_after : goal.returns-clause-overflow_after
returns-clause-overflow_after c = search long_overflow
