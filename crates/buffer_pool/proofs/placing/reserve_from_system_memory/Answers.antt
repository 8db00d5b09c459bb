-- `placing::reserve_from_system_memory` meets its contract. Assumes nothing.
use Rattle.buffer_pool.proofs.DecidingLaws.{gives_way_clearable, gives_way_full, alloc_keeps, alloc_clears_tail, alloc_clears_head, alloc_stays}
use borrow.Author.Rules.{rules}
use Rattle.buffer_pool.proofs.placing.reserve_from_system_memory.Goals as goal

pub returns-then-stays : goal.returns-then-stays
returns-then-stays c = search alloc_keeps

pub try_clear_tail_unchecked-requires : goal.try_clear_tail_unchecked-requires
try_clear_tail_unchecked-requires c = search (gives_way_clearable, rules)

pub returns-in-Some : goal.returns-in-Some
returns-in-Some c = search (alloc_clears_tail, c.in-Some.ensures)

pub try_clear_head-requires : goal.try_clear_head-requires
try_clear_head-requires c = search (gives_way_full, rules)

pub returns-in-Some-try_clear_head : goal.returns-in-Some-try_clear_head
returns-in-Some-try_clear_head c = search (alloc_clears_head, c.in_default.ensures, c.in-Some-try_clear_head.ensures)

pub returns : goal.returns
returns c = search (alloc_stays, c.in_default.ensures, c.in_default-try_clear_head.ensures)
