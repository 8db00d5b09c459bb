-- `slice::SharedState::leading` meets its contract. Assumes nothing.
use Rattle.laws.proofs.Words.{leading_past, leading_wide, leading_most}
use borrow.Author.Rules.{rules}
use Rattle.buffer_pool.proofs.slice.SharedState.leading.Goals as goal

pub overflow_sub-result-2 : goal.overflow_sub-result-2
overflow_sub-result-2 c = search (leading_past, rules)

pub returns : goal.returns
returns c = search (leading_wide, leading_most, rules)
