-- `numbers::Numbers::release` meets its contract. Assumes nothing.
use Rattle.buffer_pool.proofs.CallLaws.{err_is}
use Rattle.buffer_pool.proofs.LentLaws.{words_fit, back_fits, named_one, named_most, release_turned, release_refused, release_done}
use Rattle.buffer_pool.proofs.numbers.Numbers.release.Goals as goal

pub returns-in_err-guard : goal.returns-in_err-guard
returns-in_err-guard c = search (release_turned, err_is, c.in_err-guard.ensures.0, c.from_residual.ensures.1)

pub invariant_of-t : goal.invariant_of-t
invariant_of-t c = record { worded = search (words_fit, c.in_ok-guard.ensures.0); back_within = search (back_fits, c.in_ok-guard.ensures.0) }

pub returns-then-not-names : goal.returns-then-not-names
returns-then-not-names c = search (release_refused, c.in_ok-guard.ensures.0)

pub release-requires : goal.release-requires
release-requires c = (search (named_one, c.in_ok-guard.ensures.0), search (named_most, c.in_ok-guard.ensures.0))

pub returns : goal.returns
returns c = search (release_done, c.in_ok-guard.ensures.0)
