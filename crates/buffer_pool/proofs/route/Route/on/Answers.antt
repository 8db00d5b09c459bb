-- `route::Route::on` meets its contract. Assumes nothing.
use Rattle.buffer_pool.proofs.RouteLaws.{onward_first, onward_second}
use Rattle.buffer_pool.proofs.route.Route.on.Goals as goal

pub returns-then-changes-eq0 : goal.returns-then-changes-eq0
returns-then-changes-eq0 c = search onward_first

pub returns : goal.returns
returns c = search onward_second
