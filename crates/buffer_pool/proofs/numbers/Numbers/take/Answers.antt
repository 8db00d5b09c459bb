-- `numbers::Numbers::take` meets its contract. Assumes nothing.
use Rattle.buffer_pool.proofs.CallLaws.{err_is}
use borrow.Author.Rules.{rules}
use Rattle.buffer_pool.proofs.LentLaws.{words_fit, back_fits}
use Rattle.buffer_pool.proofs.TakeLaws.{kept_inside, back_used, cursor_kept, bytes_below, used_below, take_turned, take_none, take_empty, take_copies, take_slot, no_slot_within, slot_within}
use Rattle.buffer_pool.proofs.numbers.Numbers.take.Goals as goal

pub returns-in_err-guard-clause-value : goal.returns-in_err-guard-clause-value
returns-in_err-guard-clause-value c = search (take_turned, err_is, c.in_err-guard.ensures.0, c.from_residual.ensures.1)

pub returns-then-caller-clause-value : goal.returns-then-caller-clause-value
returns-then-caller-clause-value c = search (take_none, c.in_ok-guard.ensures.0)

pub returns-then-whole-eq0-clause-value : goal.returns-then-whole-eq0-clause-value
returns-then-whole-eq0-clause-value c = search (take_empty, c.in_ok-guard.ensures.0)

pub take_copied-requires : goal.take_copied-requires
take_copied-requires c = (search (cursor_kept, c.in_ok-guard.ensures.0), search (kept_inside, c.in_ok-guard.ensures.0))

pub returns-then-in_overflow-clause-value : goal.returns-then-in_overflow-clause-value
returns-then-in_overflow-clause-value c = search (take_copies, c.in_ok-guard.ensures.0)

pub take_pooled-requires : goal.take_pooled-requires
take_pooled-requires c = (search (used_below, c.in_ok-guard.ensures.0), search (bytes_below, c.in_ok-guard.ensures.0), search (back_used, c.in_ok-guard.ensures.0), search rules)

pub returns-clause-value : goal.returns-clause-value
returns-clause-value c = search (take_slot, c.in_ok-guard.ensures.0)

pub invariant_of-take_pooled : goal.invariant_of-take_pooled
invariant_of-take_pooled c = record { worded = search (words_fit, c.in_ok-guard.ensures.0); back_within = search (back_fits, c.in_ok-guard.ensures.0) }

pub returns-then-in_overflow-clause-in_arrays : goal.returns-then-in_overflow-clause-in_arrays
returns-then-in_overflow-clause-in_arrays c = search (no_slot_within, c.in_ok-guard.ensures.0)

pub returns-clause-in_arrays : goal.returns-clause-in_arrays
returns-clause-in_arrays c = search (slot_within, c.in_ok-guard.ensures.0)
