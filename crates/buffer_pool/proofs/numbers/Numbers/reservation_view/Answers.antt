-- `numbers::Numbers::reservation_view` meets its contract. Assumes nothing.
use Rattle.buffer_pool.proofs.CallLaws.{err_is}
use Rattle.buffer_pool.proofs.LentLaws.{reservation_turned, reservation_start, reservation_shown}
use Rattle.buffer_pool.proofs.numbers.Numbers.reservation_view.Goals as goal

pub returns-in_err-guard : goal.returns-in_err-guard
returns-in_err-guard c = search (reservation_turned, err_is, c.in_err-guard.ensures.0, c.from_residual.ensures.1)

pub reservation-requires : goal.reservation-requires
reservation-requires c = search (reservation_start, c.in_ok-guard.ensures.0)

pub returns : goal.returns
returns c = search (reservation_shown, c.in_ok-guard.ensures.0)
