-- `lent::Lent::fill` meets its contract. Assumes nothing.
use Rattle.replay.proofs.EventLaws.{filled_pool, filled_alloc}
use Rattle.replay.proofs.lent.Lent.fill.Goals as goal

pub returns-in-Back-clause-memory : goal.returns-in-Back-clause-memory
returns-in-Back-clause-memory c = search filled_pool

pub returns-in-Alloc-clause-memory : goal.returns-in-Alloc-clause-memory
returns-in-Alloc-clause-memory c = search filled_alloc
