-- `route::make_moves` meets its contract. Assumes nothing.
use Rattle.buffer_pool.proofs.RouteLaws.{first_inside, second_inside, third_inside, fourth_inside, leaves_from, leaves_to, made_in, made_out}
use mathlib.Core.Path.{refl}
use lib.ListN.{length}
use borrow.Author.Rules.{rules}
use Rattle.buffer_pool.proofs.route.make_moves.Goals as goal

pub move_raw_by-requires : goal.move_raw_by-requires
move_raw_by-requires c = (search (first_inside, rules), search (second_inside, rules))

pub move_raw_by-requires-2 : goal.move_raw_by-requires-2
move_raw_by-requires-2 c = (search (third_inside, rules), search (fourth_inside, rules))

pub copy_into_buffer-requires : goal.copy_into_buffer-requires
copy_into_buffer-requires c =
    let a = c.args in
    let inside = c.requires in (
      leaves_from a.route (length a.pool.now) (length a.overflow.now) inside _ (search rules) (search rules),
      leaves_to a.route (length a.pool.now) (length a.overflow.now) inside (length a.pool.now) refl _ (search rules) (search rules),
    )

pub returns-then-route : goal.returns-then-route
returns-then-route c = search made_out

pub returns-else-route : goal.returns-else-route
returns-else-route c = search made_in
