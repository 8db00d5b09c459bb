-- `inner_memory::raw_offset_from_len` meets its contract. Assumes nothing.
use Rattle.buffer_pool.proofs.BoundLaws.{end_none, end_some}
use borrow.Author.Rules.{rules}
use Rattle.buffer_pool.proofs.inner_memory.raw_offset_from_len.Goals as goal

pub returns-then-len-eq0 : goal.returns-then-len-eq0
returns-then-len-eq0 c = search end_none

pub returns : goal.returns
returns c = search (end_some, rules)
