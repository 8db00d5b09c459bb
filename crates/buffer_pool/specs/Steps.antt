-- The record steps: what each call does to the record and what it answers, from numbers alone. Calls.antt adds the soundness
-- test, the memories' lengths and the bytes.
use Rattle.std.specs.Prelude.{Bool, true, false, ◌&&◌, Ok, Err, List, [], ◌∷◌, ℕ, zero, suc, ◌+◌, ◌-◌, min, leb, ltb, eqb, get_or, set}
use Rattle.laws.specs.Tests.{pick}
use Rattle.laws.specs.Live.{live_at, claimed, released}
use Rattle.buffer_pool.specs.declared.slice.Handle.{Handle}
use Rattle.buffer_pool.specs.declared.buffer_pool.BufferPool.{BufferPool}
use Rattle.buffer_pool.specs.declared.buffer_pool.PoolFront.{PoolFront}
use Rattle.buffer_pool.specs.declared.buffer_pool.PoolMode.{PoolMode}
use Rattle.buffer_pool.specs.declared.buffer_pool.PoolMode.TheVariants.{Back, Front, Alloc}
use Rattle.buffer_pool.specs.declared.buffer_pool.Memory.{Memory}
use Rattle.buffer_pool.specs.declared.buffer_pool.Memory.TheVariants.{Pool, Overflow}
use Rattle.buffer_pool.specs.declared.buffer_pool.Place.{Place}
use Rattle.buffer_pool.specs.declared.buffer_pool.Answer.TheVariants.{Done, Reserved, Framed, Taken, Copied}
use Rattle.buffer_pool.specs.declared.buffer_pool.Called.{Called}
use Rattle.buffer_pool.specs.declared.refusals.Refusal.{Refusal}
use Rattle.buffer_pool.specs.declared.refusals.Refusal.TheVariants.{OverflowTooShort, CommitTooLong, DestinationTooShort, NotLive, NoSerials, UnknownCaller}
use Rattle.buffer_pool.specs.Record.{caller_count, start_at, placed, framed, marked, with_live}
use Rattle.buffer_pool.specs.Values.{Response}
use Rattle.buffer_pool.specs.Moves.{Move, Down}
use Rattle.buffer_pool.specs.Placing.{Decision, place, is_too_long}

-- ---- Record and answer

abbrev pub called : BufferPool → Response → Called
called r answer = record { pool = r; answer = answer }

-- a refused call leaves the record
abbrev pub refused : BufferPool → Refusal → Called
refused r why = called r (Err why)

-- ---- Frame and reservation

abbrev pub at : Memory → ℕ → ℕ → Place
at memory start length = record { memory = memory; start = start; length = length }

-- the frame, as viewed (SPECIFICATION 2.4): in the pool, or at the overflow's start
abbrev pub frame_of : PoolMode → BufferPool → Place
frame_of Back r = at Pool r.raw_offset r.raw_len
frame_of (Front f) r = at Pool r.raw_offset r.raw_len
frame_of Alloc r = at Overflow 0 r.cursor

abbrev pub frame : BufferPool → Place
frame r = frame_of r.mode r

-- the reservation, as viewed (SPECIFICATION 2.5): after the frame, in the same memory; by 1.4 "a spent reservation is empty and
-- lies at the frame's end"
abbrev pub reservation : BufferPool → Place
reservation r = at (frame r).memory ((frame r).start + (frame r).length) r.reserved

-- ---- Reserve

-- the answer of a reserve that is not refused: the reservation, and how often the mode changed
abbrev pub reserved : BufferPool → ℕ → Called
reserved r changes = called r (Ok (Reserved (reservation r) changes))

-- from its decision: refused with 4, or the reservation and the count of mode changes
unfoldable pub reserve_on : Bool → BufferPool → Decision → Called
reserve_on true r d = refused r OverflowTooShort
reserve_on false r d = reserved d.next d.changes

unfoldable pub reserve_step : ℕ → BufferPool → ℕ → Called
reserve_step w r len = reserve_on (is_too_long (place w r len) len) r (place w r len)

-- ---- Commit and truncate (SPECIFICATION 7.3 and 7.4): "The reservation is spent, even if nothing is cut."

-- r with a frame of another length, and its reservation spent
abbrev pub resized : PoolMode → BufferPool → ℕ → BufferPool
resized Back r len = framed r Back r.raw_offset len r.kept r.cursor 0
resized (Front f) r len = framed r (Front f) r.raw_offset len r.kept r.cursor 0
resized Alloc r len = framed r Alloc r.raw_offset r.raw_len r.kept len 0

abbrev pub reframed : BufferPool → Called
reframed r = called r (Ok (Framed (frame r)))

-- cause 5: "`len` exceeds the length of the reservation"
unfoldable pub commit_step : BufferPool → ℕ → Called
commit_step r n = pick (ltb r.reserved n) (refused r CommitTooLong) (reframed (resized r.mode r ((frame r).length + n)))

unfoldable pub truncate_step : BufferPool → ℕ → Called
truncate_step r n = reframed (resized r.mode r (min (frame r).length n))

-- ---- Take

-- cause 8: "4,294,967,295 serials were given to the caller"
abbrev pub most_serials : ℕ
most_serials = 4294967295

-- how many serials the caller was given
abbrev pub given_to : BufferPool → ℕ → ℕ
given_to r caller = get_or r.given caller 0

-- the handle of the frame as the caller's next slice. W-205: "each caller has its own serials from 1"
abbrev pub next_handle : BufferPool → ℕ → Handle
next_handle r caller =
    record { slot = suc r.used; start = r.raw_offset; length = r.raw_len; serial = suc (given_to r caller); caller = caller }

-- SPECIFICATION 7.6: the frame becomes the slice of slot used + 1, and an empty frame begins after it:
-- `InnerMemory::get_data_owned`
abbrev pub handed_out : ℕ → ℕ → BufferPool → PoolMode → ℕ → BufferPool
handed_out w caller r mode n =
    framed
    (placed
    (marked r (claimed w r.live (suc r.used)) (set r.starts r.used r.raw_offset)
    (set r.lengths r.used r.raw_len) (set r.serials r.used (suc (given_to r caller)))
    (set r.callers r.used caller) (set r.given caller (suc (given_to r caller))))
    mode r.back_start n (suc r.used) (r.raw_offset + r.raw_len))
    mode (r.raw_offset + r.raw_len) 0 r.kept r.cursor 0

abbrev pub longer : PoolFront → ℕ → PoolFront
longer f len = record { back_start = f.back_start; byte_capacity = f.byte_capacity; len = len }

-- a non-empty frame of the pool: are all serials given to the caller?
abbrev pub pooled : Bool → ℕ → ℕ → BufferPool → PoolMode → ℕ → Called
pooled true w caller r mode n = refused r NoSerials
pooled false w caller r mode n = called (handed_out w caller r mode n) (Ok (Taken (next_handle r caller)))

-- a non-empty frame of the overflow: is it longer than the destination?
abbrev pub copied_out_on : Bool → BufferPool → Called
copied_out_on true r = refused r DestinationTooShort
copied_out_on false r = called (framed r Alloc r.raw_offset r.raw_len (r.kept - r.cursor) 0 0) (Ok (Copied r.cursor))

-- SPECIFICATION 7.5 to 7.7: is the number no caller (12)? is the frame empty? longer than the destination? are all
-- serials given to the caller? Of an empty frame: "No slot, no serial, no copy"
unfoldable pub take_on : Bool → Bool → Bool → Bool → PoolMode → ℕ → ℕ → BufferPool → Called
take_on true empty long spent mode w caller r = refused r UnknownCaller
take_on false true long spent mode w caller r = called (resized mode r (frame_of mode r).length) (Ok (Copied 0))
take_on false false long spent Back w caller r = pooled spent w caller r Back (suc r.used - r.back_start)
take_on false false long spent (Front f) w caller r = pooled spent w caller r (Front (longer f (suc r.used))) r.back_len
take_on false false long spent Alloc w caller r = copied_out_on long r

-- a take by this caller with a destination of this length. W-205: "Refusal 8 looks at the calling one's serials only."
unfoldable pub take_step : ℕ → BufferPool → ℕ → ℕ → Called
take_step w r caller destination =
    take_on (leb caller_count caller) (eqb (frame r).length 0) (ltb destination (frame r).length)
    (leb most_serials (given_to r caller)) r.mode w caller r

-- a take out of the overflow, by 6.4: "the bytes after the frame move down to 0 and are kept"
unfoldable pub take_moves : BufferPool → ℕ → List Move
take_moves r zero = []
take_moves r (suc n) = Down (suc n) (r.kept - suc n) ∷ []

-- ---- Release

-- does the handle name a live slot of w, with that slot's start, length, serial and caller, which is one of the callers? If not,
-- cause 7 holds (SPECIFICATION 3.3). W-205: "The handle carries the caller, and 7 compares it too."
unfoldable pub names : ℕ → BufferPool → Handle → Bool
names w r h =
    leb 1 h.slot && (leb h.slot w && (live_at w r.live h.slot
    && (eqb h.start (start_at r.starts h.slot) && (eqb h.length (start_at r.lengths h.slot)
    && (eqb h.serial (start_at r.serials h.slot) && (eqb h.caller (start_at r.callers h.slot)
    && ltb h.caller caller_count))))))

-- r with slot p free
abbrev pub freed : ℕ → BufferPool → ℕ → BufferPool
freed w r p = with_live r (released w r.live p)

unfoldable pub release_step : ℕ → BufferPool → Handle → Called
release_step w r h =
    pick (names w r h) (called (freed w r h.slot) (Ok Done)) (refused r NotLive)
