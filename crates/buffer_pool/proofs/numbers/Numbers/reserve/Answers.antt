-- `numbers::Numbers::reserve` meets its contract. Assumes nothing.
use Rattle.buffer_pool.proofs.CallLaws.{err_is}
use Rattle.buffer_pool.proofs.ReserveLaws.{passed_worded, passed_back, settled_sum, grown_kept, grown_overflow, grown_sum, reserve_turned, reserve_settled, reserve_over, reserve_grown}
use Rattle.buffer_pool.proofs.numbers.Numbers.reserve.Goals as goal

pub returns-in_err-guard : goal.returns-in_err-guard
returns-in_err-guard c = search (reserve_turned, err_is, c.in_err-guard.ensures.0, c.from_residual.ensures.1)

pub invariant_of-fast_path : goal.invariant_of-fast_path
invariant_of-fast_path c = record { worded = search (passed_worded, c.in_ok-guard.ensures.0, c.in_ok-guard.ensures.1); back_within = search (passed_back, c.in_ok-guard.ensures.0, c.in_ok-guard.ensures.1) }

pub reserved-requires : goal.reserved-requires
reserved-requires c = search (settled_sum, c.in_ok-guard.ensures.0, c.in_ok-guard.ensures.1)

pub returns-in-Settled : goal.returns-in-Settled
returns-in-Settled c = search (reserve_settled, c.in_ok-guard.ensures.0, c.in_ok-guard.ensures.1)

pub returns-in-StartsOver : goal.returns-in-StartsOver
returns-in-StartsOver c = search (reserve_over, c.in_ok-guard.ensures.0, c.in_ok-guard.ensures.1)

pub grow-requires : goal.grow-requires
grow-requires c = (search (grown_kept, c.in_ok-guard.ensures.0, c.in_ok-guard.ensures.1), search (grown_overflow, c.in_ok-guard.ensures.0, c.in_ok-guard.ensures.1))

pub reserved-requires-in-Growing : goal.reserved-requires-in-Growing
reserved-requires-in-Growing c = search (grown_sum, c.in_ok-guard.ensures.0, c.in_ok-guard.ensures.1)

pub returns-in-Growing : goal.returns-in-Growing
returns-in-Growing c = search (reserve_grown, c.in_ok-guard.ensures.0, c.in_ok-guard.ensures.1)
