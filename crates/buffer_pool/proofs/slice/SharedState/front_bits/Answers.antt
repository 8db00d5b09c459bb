-- `slice::SharedState::front_bits` meets its contract. Assumes nothing.
use Rattle.buffer_pool.proofs.SliceLaws.{bits_below}
use borrow.Author.Rules.{rules}
use Rattle.buffer_pool.proofs.slice.SharedState.front_bits.Goals as goal

pub returns : goal.returns
returns c = search (bits_below, rules)
