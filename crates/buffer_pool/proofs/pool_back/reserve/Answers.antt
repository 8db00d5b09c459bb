-- `pool_back::reserve` meets its contract. Assumes nothing.
use Rattle.buffer_pool.proofs.LayerLaws.{known_full, back_keeps, back_not_clearable, back_clears_tail, back_clears_head, back_goes_out}
use borrow.Author.Rules.{rules}
use Rattle.buffer_pool.proofs.pool_back.reserve.Goals as goal

pub returns-then-back_fits : goal.returns-then-back_fits
returns-then-back_fits c = search back_keeps

pub returns-then-not-tail_is_clearable : goal.returns-then-not-tail_is_clearable
returns-then-not-tail_is_clearable c = search back_not_clearable

pub returns-in-Some : goal.returns-in-Some
returns-in-Some c = search (back_clears_tail, c.in-Some.ensures)

pub try_clear_head-requires : goal.try_clear_head-requires
try_clear_head-requires c = search (known_full, rules)

pub returns-in-Some-try_clear_head : goal.returns-in-Some-try_clear_head
returns-in-Some-try_clear_head c = search (back_clears_head, c.in_default.ensures, c.in-Some-try_clear_head.ensures)

pub returns : goal.returns
returns c = search (back_goes_out, c.in_default.ensures, c.in_default-try_clear_head.ensures)
