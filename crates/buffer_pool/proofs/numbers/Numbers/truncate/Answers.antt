-- `numbers::Numbers::truncate` meets its contract. Assumes nothing.
use Rattle.buffer_pool.proofs.CallLaws.{err_is}
use Rattle.buffer_pool.proofs.LentLaws.{truncate_turned, truncate_cuts, truncate_keeps}
use Rattle.buffer_pool.proofs.numbers.Numbers.truncate.Goals as goal

pub returns-in_err-guard : goal.returns-in_err-guard
returns-in_err-guard c = search (truncate_turned, err_is, c.in_err-guard.ensures.0, c.from_residual.ensures.1)

pub returns-then-n-whole : goal.returns-then-n-whole
returns-then-n-whole c = search (truncate_cuts, c.in_ok-guard.ensures.0)

pub returns : goal.returns
returns c = search (truncate_keeps, c.in_ok-guard.ensures.0)
