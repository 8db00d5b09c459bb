-- `lent::take_pooled` meets its contract. Assumes nothing.
use borrow.Author.Rules.{rules}
use Rattle.buffer_pool.proofs.TakeLaws.{pooled_spent, pooled_done}
use Rattle.buffer_pool.proofs.lent.take_pooled.Goals as goal

pub returns-then-last-eq4294967295 : goal.returns-then-last-eq4294967295
returns-then-last-eq4294967295 c = pooled_spent c.args.t.n c.args.caller c.args.last (search rules)

pub returns : goal.returns
returns c = pooled_done c.args.t.n c.args.caller c.args.last (search rules) c.handed_out.result c.handed_out.ensures
