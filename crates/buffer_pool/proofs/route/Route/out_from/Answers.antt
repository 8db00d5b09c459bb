-- `route::Route::out_from` meets its contract. Assumes nothing.
use Rattle.buffer_pool.proofs.RouteLaws.{onward_out}
use Rattle.buffer_pool.proofs.route.Route.out_from.Goals as goal

pub returns : goal.returns
returns c = search onward_out
