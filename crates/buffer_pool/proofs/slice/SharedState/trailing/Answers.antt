-- `slice::SharedState::trailing` meets its contract. Assumes nothing.
use Rattle.buffer_pool.proofs.SliceLaws.{zeros_least}
use borrow.Author.Rules.{rules}
use Rattle.buffer_pool.proofs.slice.SharedState.trailing.Goals as goal

pub returns : goal.returns
returns c = search (zeros_least, rules)
