-- `placing::place` meets its contract. Assumes nothing.
use Rattle.buffer_pool.proofs.ResetLaws.{places_cleared, places_kept}
use Rattle.buffer_pool.proofs.placing.place.Goals as goal

pub returns-then-clears : goal.returns-then-clears
returns-then-clears c = search places_cleared

pub returns : goal.returns
returns c = search places_kept
