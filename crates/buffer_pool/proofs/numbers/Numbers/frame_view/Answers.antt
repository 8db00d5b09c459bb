-- `numbers::Numbers::frame_view` meets its contract. Assumes nothing.
use Rattle.buffer_pool.proofs.CallLaws.{err_is}
use Rattle.buffer_pool.proofs.LentLaws.{frame_turned, frame_shown}
use Rattle.buffer_pool.proofs.numbers.Numbers.frame_view.Goals as goal

pub returns-in_err-guard : goal.returns-in_err-guard
returns-in_err-guard c = search (frame_turned, err_is, c.in_err-guard.ensures.0, c.from_residual.ensures.1)

pub returns : goal.returns
returns c = search (frame_shown, c.in_ok-guard.ensures.0)
