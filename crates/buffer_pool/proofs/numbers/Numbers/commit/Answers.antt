-- `numbers::Numbers::commit` meets its contract. Assumes nothing.
use Rattle.buffer_pool.proofs.CallLaws.{err_is}
use Rattle.buffer_pool.proofs.LentLaws.{commit_turned, commit_refused, commit_fits, commit_done}
use Rattle.buffer_pool.proofs.numbers.Numbers.commit.Goals as goal

pub returns-in_err-guard : goal.returns-in_err-guard
returns-in_err-guard c = search (commit_turned, err_is, c.in_err-guard.ensures.0, c.from_residual.ensures.1)

pub returns-then-self-n : goal.returns-then-self-n
returns-then-self-n c = search (commit_refused, c.in_ok-guard.ensures.0)

pub overflow_add-whole : goal.overflow_add-whole
overflow_add-whole c = search (commit_fits, c.in_ok-guard.ensures.0)

pub returns : goal.returns
returns c = search (commit_done, c.in_ok-guard.ensures.0)
