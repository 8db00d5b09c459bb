-- The run of a trace: what each event does to the pool, its memories and the counts, and what its line shows. The calls are the
-- definitions of the crate buffer_pool.
use Rattle.std.specs.Prelude.{◌≡◌, Bool, true, false, ◌&&◌, List, ℕ, ◌+◌, ◌-◌, ◌≤◌, min, leb, eqb, length}
use Rattle.std.proofs.lemmas.List.Edits.{sets}
use Rattle.laws.specs.Tests.{pick}
use Rattle.laws.specs.Lists.{part}
use Rattle.buffer_pool.specs.declared.slice.Handle.{Handle}
use Rattle.buffer_pool.specs.declared.buffer_pool.BufferPool.{BufferPool}
use Rattle.buffer_pool.specs.declared.buffer_pool.PoolMode.{PoolMode}
use Rattle.buffer_pool.specs.declared.buffer_pool.PoolMode.TheVariants.{Back, Front, Alloc}
use Rattle.buffer_pool.specs.declared.buffer_pool.Memory.{Memory}
use Rattle.buffer_pool.specs.declared.buffer_pool.Memory.TheVariants.{Pool, Overflow}
use Rattle.buffer_pool.specs.declared.buffer_pool.Called.{Called}
use Rattle.buffer_pool.specs.Values.{Values, valued, values}
use Rattle.buffer_pool.specs.Moves.{Memories, memories}
use Rattle.buffer_pool.specs.Steps.{reservation}
use Rattle.buffer_pool.specs.Calls as calls
use Rattle.buffer_pool.specs.Calls.{Outcome, outcome}
use Rattle.trace.specs.declared.Event.{Event}
use Rattle.trace.specs.Trace.{reserve_kind, commit_kind, take_kind, truncate_kind, release_kind}
use Rattle.replay.specs.declared.event.Tally.{Tally}
use Rattle.replay.specs.declared.event.State.{State}
use Rattle.replay.specs.declared.event.Extent.{Extent}
use Rattle.replay.specs.declared.event.Starts.{Starts}
use Rattle.replay.specs.declared.event.Shown.{Shown}
use Rattle.replay.specs.declared.event.Step.{Step}
use Rattle.replay.specs.declared.event.Told.{Told}
use Rattle.replay.specs.declared.lent.Lent.{Lent}
use Rattle.replay.specs.Slots.{handle_of}

-- ---- The counts of line T

-- 1 for a refused call
abbrev pub refused_of : Values → ℕ
refused_of v = min v.number 1

-- 1 for a non-empty take: its handle has a slot, or bytes were copied
abbrev pub taken_of : Values → ℕ
taken_of v = min (v.handle.slot + v.length) 1

-- 1 for a non-empty take from the overflow
abbrev pub spilled_of : Values → ℕ
spilled_of v = min v.length 1

-- the counts after a call that says so
unfoldable pub counted : Tally → Values → Tally
counted t v =
    record {
      done = t.done + (1 - refused_of v);
      refused = t.refused + refused_of v;
      takes = t.takes + taken_of v;
      spilled = t.spilled + spilled_of v;
    }

-- what the code reads off an answer; no count and no line tells how often the mode changed
abbrev pub said : Told → Values
said a = valued a.refusal a.place a.handle a.copied 0

pub record Tells (a : Told) (v : Values) : Type 0 where
  pub refusal_is : a.refusal ≡ v.number
  pub place_is : a.place ≡ v.place
  pub handle_is : a.handle ≡ v.handle
  pub copied_is : a.copied ≡ v.length

-- ---- What a line shows

-- the letter of a kind (9.4): r, c, t, k, d
unfoldable pub kind_letter : ℕ → ℕ
kind_letter kind =
    pick (eqb kind reserve_kind) 114
    (pick (eqb kind commit_kind) 99 (pick (eqb kind take_kind) 116 (pick (eqb kind truncate_kind) 107 100)))

-- the letter of a mode (SPECIFICATION 1.10): B, F, A
abbrev pub mode_letter : PoolMode → ℕ
mode_letter Back = 66
mode_letter (Front f) = 70
mode_letter Alloc = 65

abbrev pub extent : ℕ → ℕ → Extent
extent start length = record { start = start; length = length }

-- of a take the slice's, or with slot 0 the copied length
unfoldable pub take_extent : Values → Extent
take_extent v = pick (eqb v.handle.slot 0) (extent 0 v.length) (extent v.handle.start v.handle.length)

-- of a release the slice's that its handle h names
unfoldable pub release_extent : Handle → Values → Extent
release_extent h v = pick (eqb v.number 0) (extent h.start h.length) (extent 0 0)

-- start and length by the table of SPECIFICATION 10.4: of the reservation (r), the frame (c, k), the slice (t, d); "From the overflow
-- the start is 0"; 0 and 0 for a refused event. h is the handle of a release.
unfoldable pub extent_of : ℕ → Handle → Values → Extent
extent_of kind h v =
    pick (eqb kind take_kind) (take_extent v)
    (pick (eqb kind release_kind) (release_extent h v) (extent v.place.start v.place.length))

-- is the frame in the pool (B or F)?
abbrev pub in_pool : PoolMode → Bool
in_pool Back = true
in_pool (Front f) = true
in_pool Alloc = false

abbrev pub starts : ℕ → ℕ → Starts
starts before after = record { before = before; after = after }

-- the two frame starts of which the move is the difference (10.5): on an r line "whose mode is B or F both before and after the
-- event"; else 0 and 0
unfoldable pub starts_of : ℕ → BufferPool → BufferPool → Starts
starts_of kind r q =
    pick (eqb kind reserve_kind && (in_pool r.mode && in_pool q.mode)) (starts r.raw_offset q.raw_offset) (starts 0 0)

-- what the line shows of an event of this kind on the record r, which had this handle, left the record q and answered so
unfoldable pub shown_so : ℕ → BufferPool → Handle → BufferPool → Values → Shown
shown_so kind r h q v =
    record {
      kind = kind_letter kind;
      refusal = v.number;
      mode = mode_letter q.mode;
      live = q.live;
      place = extent_of kind h v;
      frame = starts_of kind r q;
    }

-- and which was called so
unfoldable pub shown_of : ℕ → BufferPool → Handle → Called → Shown
shown_of kind r h c = shown_so kind r h c.pool (values c.answer)

-- ---- An event

-- is the event a commit within its reservation?
unfoldable pub fills : BufferPool → Event → Bool
fills r e = eqb e.kind commit_kind && leb e.number r.reserved

-- so many trace bytes it copies, of those left (9.7): "as many of the next bytes as are left, at most its number"
unfoldable pub filling : BufferPool → Event → ℕ → ℕ
filling r e left = pick (fills r e) (min e.number left) 0

-- the memories with a text at a place of one of them
abbrev pub filled_at : Memory → ℕ → List ℕ → Memories → Memories
filled_at Pool at text m = memories (sets m.pool at text) m.overflow
filled_at Overflow at text m = memories m.pool (sets m.overflow at text)

-- the memories with a text at the start of the reservation
unfoldable pub filled : BufferPool → List ℕ → Memories → Memories
filled r text m = filled_at (reservation r).memory (reservation r).start text m

-- an outcome with a destination that the call was not lent
abbrev pub beside : List ℕ → Outcome → Outcome
beside destination o = outcome o.call o.memory destination

-- the call that an event makes; a take is by the event's caller, and a release takes the handle
unfoldable pub call_of : BufferPool → Memories → List ℕ → Event → Handle → Outcome
call_of r m destination e h =
    pick (eqb e.kind reserve_kind) (beside destination (calls.reserve r.slots r m e.number))
    (pick (eqb e.kind commit_kind) (beside destination (calls.commit r.slots r m e.number))
    (pick (eqb e.kind take_kind) (calls.take r.slots r m e.caller destination)
    (pick (eqb e.kind truncate_kind) (beside destination (calls.truncate r.slots r m e.number))
    (beside destination (calls.release r.slots r m h)))))

-- the memories that a run lends
abbrev pub memory_of : Lent → Memories
memory_of l = memories l.pool.now l.overflow.now

-- the run between two events: its state, the memories, and the destination of its takes
pub record Running : Type 0 where
  pub state : State
  pub memory : Memories
  pub destination : List ℕ

abbrev pub running : State → Memories → List ℕ → Running
running state memory destination = record { state = state; memory = memory; destination = destination }

-- what an event leaves, and what its line shows
pub record Stepped : Type 0 where
  pub step : Step
  pub memory : Memories
  pub destination : List ℕ

abbrev pub stepped : Step → Memories → List ℕ → Stepped
stepped step memory destination = record { step = step; memory = memory; destination = destination }

abbrev pub left : Stepped → Running
left s = running s.step.state s.memory s.destination

-- the next state, with so many trace bytes used, and the line
unfoldable pub step_of : State → Event → Handle → ℕ → Called → Step
step_of s e h next c =
    record {
      state = record { pool = c.pool; next = next; tally = counted s.tally (values c.answer) };
      shown = shown_of e.kind s.pool h c;
    }

-- an event of a run over these trace bytes
unfoldable pub step : List ℕ → Running → Event → Stepped
step bytes s e =
    let r : BufferPool = s.state.pool in
    let next : ℕ = s.state.next in
    let k : ℕ = filling r e (length bytes - next) in
    let h : Handle = handle_of r e.caller e.number in
    let o : Outcome = call_of r (filled r (part bytes next k) s.memory) s.destination e h in
    stepped (step_of s.state e h (next + k) o.call) o.memory o.destination

-- ---- What the code keeps while it runs

-- no count is above n, and no more takes are from the overflow than there are
abbrev pub Within : ℕ → Tally → Type 0
Within n t = (t.done ≤ n) × (t.refused ≤ n) × (t.takes ≤ n) × (t.spilled ≤ t.takes)
