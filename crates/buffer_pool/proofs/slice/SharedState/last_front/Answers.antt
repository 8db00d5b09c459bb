-- `slice::SharedState::last_front` meets its contract. Assumes nothing.
use Rattle.buffer_pool.proofs.SliceLaws.{no_front, front_free, zeros_within, front_last_lem}
use borrow.Author.Rules.{rules}
use Rattle.buffer_pool.proofs.slice.SharedState.last_front.Goals as goal

pub returns-then-back-eq0 : goal.returns-then-back-eq0
returns-then-back-eq0 c = search (no_front, rules)

pub returns-then-front-eq0 : goal.returns-then-front-eq0
returns-then-front-eq0 c = search (front_free, rules)

pub overflow_sub-result : goal.overflow_sub-result
overflow_sub-result c = search (zeros_within, rules)

pub returns : goal.returns
returns c = search (front_last_lem, rules)
