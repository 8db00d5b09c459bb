-- The entries of demand 3's lists (SPECIFICATION 8.1), and what each leaves: calls and writes do what buffer_pool's definitions of
-- them say. w is the slot count.
use Rattle.std.specs.Prelude.{Bool, true, false, Ok, [], ℕ}
use Rattle.buffer_pool.specs.declared.buffer_pool.BufferPool.{BufferPool}
use Rattle.buffer_pool.specs.declared.buffer_pool.Answer.TheVariants.{Done}
use Rattle.buffer_pool.specs.Moves.{Memories}
use Rattle.buffer_pool.specs.Steps.{called}
use Rattle.buffer_pool.specs.Calls.{Outcome, outcome, misfit, new}
use Rattle.buffer_pool.specs.Vocabulary.{Part, Call, call, write}

-- ---- The entries

-- The calls are those of demands 1 and 2. A slice is viewed, and released, by any handle, live, stale or invented; a take has any
-- destination, its bytes as they are lent.
pub data Entry : Type 0 where
  -- a call lent the pool's own memories
  Own : Call → Entry
  -- a call lent these memories, of other lengths, in their place
  Other : Memories → Call → Entry
  -- through this view, at this index, this byte
  Write : Part → ℕ → ℕ → Entry

-- ---- What an entry finds and leaves

-- the record, and the pool's own two memories
pub record State : Type 0 where
  pub pool : BufferPool
  pub lent : Memories

abbrev pub state : Outcome → State
state o = record { pool = o.call.pool; lent = o.memory }

-- what `new` returned of these memories
abbrev pub opened : ℕ → Memories → State
opened w m = state (new w m)

-- what a call leaves that was lent other memories: its record and answer; the pool's own memories are as they were. Memories of the
-- record's very lengths are no other ones: such an entry is none of the list, and nothing happens.
abbrev pub lent_other : Bool → State → Outcome → Outcome
lent_other true s o = outcome o.call s.lent []
lent_other false s o = outcome (called s.pool (Ok Done)) s.lent []

-- SPECIFICATION 8.1: "Each entry gets record and memories as the last left them"; of a call lent "memories of other lengths",
-- "it is refused with 2, and the next entry gets the pool's own as they were"
abbrev pub happens : ℕ → State → Entry → Outcome
happens w s (Own c) = call w s.pool s.lent c
happens w s (Other m c) = lent_other (misfit s.pool m) s (call w s.pool m c)
happens w s (Write v i byte) = write w s.pool s.lent v i byte

abbrev pub next : ℕ → State → Entry → State
next w s e = state (happens w s e)
