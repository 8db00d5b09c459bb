-- `lent::make_reset_moves` meets its contract. Assumes nothing.
use Rattle.buffer_pool.proofs.ReserveLaws.{brought_pool, brought_kept, brought_overflow, reset_to_inside, reset_brought, reset_moved}
use borrow.Author.Rules.{rules}
use Rattle.buffer_pool.proofs.lent.make_reset_moves.Goals as goal

pub split_off-requires : goal.split_off-requires
split_off-requires c = (search (brought_pool, rules), search (brought_kept, rules), search (brought_overflow, rules))

pub returns-in-BringsFrame : goal.returns-in-BringsFrame
returns-in-BringsFrame c = search reset_brought

pub move_raw_at_offset-requires : goal.move_raw_at_offset-requires
move_raw_at_offset-requires c = search (reset_to_inside, rules)

pub returns-in-Nothing : goal.returns-in-Nothing
returns-in-Nothing c = search reset_moved
