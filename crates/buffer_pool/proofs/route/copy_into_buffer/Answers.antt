-- `route::copy_into_buffer` meets its contract. Assumes nothing.
use Rattle.buffer_pool.proofs.RouteLaws.{copies_out}
use Rattle.buffer_pool.proofs.route.copy_into_buffer.Goals as goal

pub returns : goal.returns
returns c = search copies_out
