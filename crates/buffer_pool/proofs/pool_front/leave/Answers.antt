-- `pool_front::leave` meets its contract. Assumes nothing.
use Rattle.buffer_pool.proofs.FrontLaws.{leave_not_clearable, leave_clears_tail, leave_goes_out, left_by_out, left_by}
use Rattle.buffer_pool.proofs.pool_front.leave.Goals as goal

pub returns-then-not-tail_is_clearable : goal.returns-then-not-tail_is_clearable
returns-then-not-tail_is_clearable c = (search leave_not_clearable, search left_by_out)

pub returns-in-Some : goal.returns-in-Some
returns-in-Some c = (search (leave_clears_tail, c.in-Some.ensures), search left_by)

pub returns : goal.returns
returns c = (search (leave_goes_out, c.in_default.ensures), search left_by_out)
