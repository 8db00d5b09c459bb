-- `route::move_raw_at_offset` meets its contract. Assumes nothing.
use Rattle.buffer_pool.proofs.RouteLaws.{moves_nothing, moves_from, moves_to}
use borrow.Author.Rules.{rules}
use Rattle.buffer_pool.proofs.route.move_raw_at_offset.Goals as goal

pub returns-then-is_unmoved : goal.returns-then-is_unmoved
returns-then-is_unmoved c = search moves_nothing

pub copy_within-requires : goal.copy_within-requires
copy_within-requires c = search (moves_from, moves_to, rules)
