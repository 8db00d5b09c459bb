-- The calls, SPECIFICATION 7, for every record, handle, length and lent memory: answer, record and every lent byte, on refusal as
-- on success. The contracts of the public functions are equations with these. w is the slot count.
use Rattle.std.specs.Prelude.{Bool, not, ◌&&◌, ◌||◌, Result, Ok, Err, ⊤, List, [], ℕ, ◌+◌, ◌≤◌, ltb, eqb, length, replicate, set}
use Rattle.laws.specs.Tests.{pick}
use Rattle.laws.specs.Lists.{part, copied}
use Rattle.buffer_pool.specs.declared.slice.Handle.{Handle}
use Rattle.buffer_pool.specs.declared.buffer_pool.BufferPool.{BufferPool}
use Rattle.buffer_pool.specs.declared.buffer_pool.Memory.{Memory}
use Rattle.buffer_pool.specs.declared.buffer_pool.Memory.TheVariants.{Pool, Overflow}
use Rattle.buffer_pool.specs.declared.buffer_pool.Place.{Place}
use Rattle.buffer_pool.specs.declared.buffer_pool.Answer.TheVariants.{Done}
use Rattle.buffer_pool.specs.declared.buffer_pool.Called.{Called}
use Rattle.buffer_pool.specs.declared.refusals.Refusal.{Refusal}
use Rattle.buffer_pool.specs.declared.refusals.Refusal.TheVariants.{Unsound, WrongLength, MemoryTooLong, NotLive, WrongSlotCount}
use Rattle.buffer_pool.specs.Record.{rust_slots, byte_limit, new_record}
use Rattle.buffer_pool.specs.Moves.{Memories, memories, perform}
use Rattle.buffer_pool.specs.Placing.{place, is_too_long}
use Rattle.buffer_pool.specs.Soundness.{is_slot_count, sound}
use Rattle.buffer_pool.specs.Values.{View, refusal_number, values}
use Rattle.buffer_pool.specs.Steps.{called, refused, at, frame, reservation, reserve_step, commit_step, truncate_step, take_step, take_moves, names, release_step}

-- what a call leaves: record and answer, the two memories, and a take's destination ([] for the other calls)
pub record Outcome : Type 0 where
  pub call : Called
  pub memory : Memories
  pub destination : List ℕ

abbrev pub outcome : Called → Memories → List ℕ → Outcome
outcome call memory destination = record { call = call; memory = memory; destination = destination }

-- ---- What turns every call away: 1, then 2

-- cause 2 of SPECIFICATION 3.3: "a lent memory's length is not the record's"
unfoldable pub misfit : BufferPool → Memories → Bool
misfit r m = not (eqb (length m.pool) r.capacity && eqb (length m.overflow) r.overflow)

-- a refusal where cause 1 or 2 holds, otherwise the call's own answer
abbrev pub guarded : {A : Type 0} → ℕ → BufferPool → Memories → (Refusal → A) → A → A
guarded w r m refuse done = pick (not (sound w r)) (refuse Unsound) (pick (misfit r m) (refuse WrongLength) done)

-- the number of the cause that turns every call away, or 0
unfoldable pub cause : ℕ → BufferPool → Memories → ℕ
cause w r m = guarded w r m refusal_number 0

-- the same as the code has it: the refusal that turns every call away, if there is one
unfoldable pub guard : ℕ → BufferPool → Memories → Result ⊤ Refusal
guard w r m = guarded w r m (λ why. Err why) (Ok tt)

-- a call that is refused with 1 or 2 leaves everything
abbrev pub guarded_call : ℕ → BufferPool → Memories → List ℕ → Outcome → Outcome
guarded_call w r m destination done = guarded w r m (λ why. outcome (refused r why) m destination) done

-- ---- The calls

-- SPECIFICATION 3.5: "A refused new gives the record of a new pool of 8 slots whose two lengths are 0, and changes no byte."
abbrev pub new_refused_by : Refusal → Called
new_refused_by why = refused (new_record rust_slots 0 0) why

abbrev pub new_refused : Refusal → Memories → Outcome
new_refused why m = outcome (new_refused_by why) m []

-- SPECIFICATION 7.1: "every byte of the pool memory becomes 0; the overflow's bytes stay; the record is that of 2.1"
abbrev pub new_done : ℕ → Memories → Outcome
new_done w m =
    outcome (called (new_record w (length m.pool) (length m.overflow)) (Ok Done))
    (memories (replicate (length m.pool) 0) m.overflow) []

-- is w a slot count? is a memory too long?
abbrev pub new_on : Bool → Bool → ℕ → Memories → Outcome
new_on counted long w m = pick counted (pick long (new_refused MemoryTooLong m) (new_done w m)) (new_refused WrongSlotCount m)

-- cause 16, "the slot count is neither 8 nor 16", comes before cause 3: "either memory has more than 1,048,576 bytes"
unfoldable pub new : ℕ → Memories → Outcome
new w m = new_on (is_slot_count w) (ltb byte_limit (length m.pool) || ltb byte_limit (length m.overflow)) w m

-- SPECIFICATION 6.1: bytes move only once 4 is excluded
unfoldable pub reserve : ℕ → BufferPool → Memories → ℕ → Outcome
reserve w r m len =
    guarded_call w r m [] (outcome (reserve_step w r len) (pick (is_too_long (place w r len) len) m (perform (place w r len).moves m)) [])

unfoldable pub commit : ℕ → BufferPool → Memories → ℕ → Outcome
commit w r m n = guarded_call w r m [] (outcome (commit_step r n) m [])

unfoldable pub truncate : ℕ → BufferPool → Memories → ℕ → Outcome
truncate w r m n = guarded_call w r m [] (outcome (truncate_step r n) m [])

-- what a take leaves that copies so many bytes of the overflow
unfoldable pub copied_out : Called → BufferPool → Memories → List ℕ → ℕ → Outcome
copied_out call r m destination n =
    outcome call (perform (take_moves r n) m) (copied m.overflow 0 n destination 0)

-- W-205: "A take names its caller"
unfoldable pub take : ℕ → BufferPool → Memories → ℕ → List ℕ → Outcome
take w r m caller destination =
    guarded_call w r m destination
    (copied_out (take_step w r caller (length destination)) r m destination
    (values (take_step w r caller (length destination)).answer).length)

unfoldable pub release : ℕ → BufferPool → Memories → Handle → Outcome
release w r m h = guarded_call w r m [] (outcome (release_step w r h) m [])

-- ---- The views

abbrev pub shown : Place → View
shown place = Ok place

-- a refused view (SPECIFICATION 3.6)
abbrev pub hidden : Refusal → View
hidden why = Err why

unfoldable pub frame_view : ℕ → BufferPool → Memories → View
frame_view w r m = guarded w r m hidden (shown (frame r))

unfoldable pub reservation_view : ℕ → BufferPool → Memories → View
reservation_view w r m = guarded w r m hidden (shown (reservation r))

unfoldable pub slice_view : ℕ → BufferPool → Memories → Handle → View
slice_view w r m h = guarded w r m hidden (pick (names w r h) (shown (at Pool h.start h.length)) (hidden NotLive))

-- the memory of a place, and the bytes there
abbrev pub memory_at : Memory → Memories → List ℕ
memory_at Pool m = m.pool
memory_at Overflow m = m.overflow

unfoldable pub bytes_at : Memories → Place → List ℕ
bytes_at m p = part (memory_at p.memory m) p.start p.length

-- SPECIFICATION 7.10: a write "sets one byte of a view". "At or past the view's end it sets none."
abbrev pub written_in : Memory → Memories → ℕ → ℕ → Memories
written_in Pool m i byte = memories (set m.pool i byte) m.overflow
written_in Overflow m i byte = memories m.pool (set m.overflow i byte)

unfoldable pub written : Memories → Place → ℕ → ℕ → Memories
written m p i byte = pick (ltb i p.length) (written_in p.memory m (p.start + i) byte) m

-- where a place lies, as a pointer (block and offset), by the pointers to the two memories
abbrev pub pointer_to : Memory → (ℕ × ℕ) → (ℕ × ℕ) → ℕ × ℕ
pointer_to Pool pool overflow = pool
pointer_to Overflow pool overflow = overflow

-- so many bytes further on in the same block
abbrev pub moved_on : (ℕ × ℕ) → ℕ → ℕ × ℕ
moved_on pointer n = (pointer.0, n + pointer.1)

unfoldable pub place_at : (ℕ × ℕ) → (ℕ × ℕ) → Place → ℕ × ℕ
place_at pool overflow p = moved_on (pointer_to p.memory pool overflow) p.start

-- the place lies in its memory
abbrev pub Lies : Memories → Place → Type 0
Lies m p = p.start + p.length ≤ length (memory_at p.memory m)
