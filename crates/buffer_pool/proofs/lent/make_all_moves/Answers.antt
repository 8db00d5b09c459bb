-- `lent::make_all_moves` meets its contract. Assumes nothing.
use Rattle.buffer_pool.proofs.ReserveLaws.{reset_inside, route_inside, growth_inside, all_made}
use lib.ListN.{length}
use borrow.Author.Rules.{rules}
use Rattle.buffer_pool.proofs.lent.make_all_moves.Goals as goal

pub make_reset_moves-requires : goal.make_reset_moves-requires
make_reset_moves-requires c = (search (reset_inside, rules), search rules)

pub make_moves-requires : goal.make_moves-requires
make_moves-requires c = search (route_inside, rules)

pub grow_to-requires : goal.grow_to-requires
grow_to-requires c l =
    let a = c.args in
    growth_inside a.n a.start a.d (length a.pool.now) (length a.overflow.now) c.requires.0 _ (search rules) l

pub returns : goal.returns
returns c = search all_made
