-- Rounds of four calls on one pool: the definitions of the crate buffer_pool, one after the other.
use Rattle.std.specs.Prelude.{List, ℕ, zero, suc}
use Rattle.buffer_pool.specs.declared.buffer_pool.BufferPool.{BufferPool}
use Rattle.buffer_pool.specs.Record.{rust_slots}
use Rattle.buffer_pool.specs.Values.{values}
use Rattle.buffer_pool.specs.Moves.{Memories}
use Rattle.buffer_pool.specs.Calls.{Outcome, new, reserve, commit, take, release}

-- a pool: its record, its memories, and the destination of its takes
pub record State : Type 0 where
  pub held : BufferPool
  pub memory : Memories
  pub destination : List ℕ

abbrev pub state : BufferPool → Memories → List ℕ → State
state held memory destination = record { held = held; memory = memory; destination = destination }

-- reserve and commit len bytes
unfoldable pub gathered : ℕ → State → State
gathered len s =
    let a : Outcome = reserve s.held.slots s.held s.memory len in
    state (commit a.call.pool.slots a.call.pool a.memory len).call.pool a.memory s.destination

-- caller 0 takes the frame and releases the slice
unfoldable pub finished : State → State
finished s =
    let a : Outcome = take s.held.slots s.held s.memory 0 s.destination in
    state (release a.call.pool.slots a.call.pool a.memory (values a.call.answer).handle).call.pool a.memory a.destination

unfoldable pub rounds : ℕ → ℕ → State → State
rounds len zero s = s
rounds len (suc n) s = rounds len n (finished (gathered len s))

-- a new pool
unfoldable pub started : Memories → List ℕ → State
started m destination = state (new rust_slots m).call.pool (new rust_slots m).memory destination
