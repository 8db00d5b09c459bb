-- What the calls on a record's numbers give (src/lent.rt), and the record and answer that they leave of a record: what the calls on a
-- record by value and the C interface share. No statement cites this.
use Rattle.std.specs.Prelude.{Bool, true, false, Result, Ok, Err, ℕ, ◌+◌, ◌-◌, ◌≤◌, ◌<◌, ⊤}
use Rattle.laws.specs.Tests.{pick}
use Rattle.laws.specs.Live.{claimed}
use Rattle.buffer_pool.specs.declared.buffer_pool.BufferPool.{BufferPool}
use Rattle.buffer_pool.specs.declared.buffer_pool.Memory.TheVariants.{Pool, Overflow}
use Rattle.buffer_pool.specs.declared.buffer_pool.PoolMode.{PoolMode}
use Rattle.buffer_pool.specs.declared.buffer_pool.PoolMode.TheVariants.{Back, Front, Alloc}
use Rattle.buffer_pool.specs.declared.buffer_pool.Answer.TheVariants as answers
use Rattle.buffer_pool.specs.declared.buffer_pool.Answer.TheVariants.{Done, Reserved, Framed}
use Rattle.buffer_pool.specs.declared.buffer_pool.Called.{Called}
use Rattle.buffer_pool.specs.declared.lent.Reserving.{Reserving}
use Rattle.buffer_pool.specs.declared.lent.Resizing.{Resizing}
use Rattle.buffer_pool.specs.declared.lent.Taking.{Taking}
use Rattle.buffer_pool.specs.declared.lent.Taking.TheVariants.{Copied, Pooled}
use Rattle.buffer_pool.specs.declared.refusals.Refusal.{Refusal}
use Rattle.buffer_pool.specs.declared.refusals.Refusal.TheVariants.{DestinationTooShort, NoSerials}
use Rattle.buffer_pool.specs.declared.numbers.Numbers.{Numbers}
use Rattle.buffer_pool.specs.Record.{most_slots, caller_count, front, framed, with_live, without_entries}
use Rattle.buffer_pool.specs.Numbers.{numbers_of, bare, with_numbers, entries_of, with_entries, entered}
use Rattle.buffer_pool.specs.Steps.{called, refused, at, reservation}

-- the record that a reserve leaves of p: with its numbers, and where it clears them with all starts and lengths 0
abbrev pub reserved_on : BufferPool → Reserving → BufferPool
reserved_on p r = pick r.clears (without_entries (with_numbers p r.numbers)) (with_numbers p r.numbers)

-- the record that a commit or a truncate leaves of p: "The reservation is spent"
abbrev pub resized_on : BufferPool → Resizing → BufferPool
resized_on p r = framed p p.mode p.raw_offset r.raw_len p.kept r.cursor 0

-- ---- Record and answer, of what the calls on numbers give

abbrev pub reserve_called : BufferPool → Result Reserving Refusal → Called
reserve_called p (Ok r) = called (reserved_on p r) (Ok (Reserved r.place r.changes))
reserve_called p (Err why) = refused p why

abbrev pub resize_called : BufferPool → Result Resizing Refusal → Called
resize_called p (Ok r) = called (resized_on p r) (Ok (Framed r.place))
resize_called p (Err why) = refused p why

abbrev pub take_called : BufferPool → Result Taking Refusal → Called
take_called p (Ok (Copied n q)) = called (with_numbers p q) (Ok (answers.Copied n))
take_called p (Ok (Pooled h q)) = called (with_entries q (entered (entries_of p) h)) (Ok (answers.Taken h))
take_called p (Err why) = refused p why

abbrev pub release_called : BufferPool → Result ℕ Refusal → Called
release_called p (Ok live) = called (with_live p live) (Ok Done)
release_called p (Err why) = refused p why

-- ---- What the parts of these calls give

-- a reserve that leaves these numbers
abbrev pub reserved : Numbers → ℕ → Bool → Reserving
reserved n changes clears = record { place = reservation (bare n); changes = changes; clears = clears; numbers = n }

-- a frame of another length
abbrev pub resized_in : PoolMode → Numbers → ℕ → Resizing
resized_in Back n len = record { place = at Pool n.raw_offset len; raw_len = len; cursor = n.cursor }
resized_in (Front f) n len = record { place = at Pool n.raw_offset len; raw_len = len; cursor = n.cursor }
resized_in Alloc n len = record { place = at Overflow 0 len; raw_len = n.raw_len; cursor = len }

-- mode and back after a take of the next slot
abbrev pub taken_mode : PoolMode → Numbers → PoolMode
taken_mode Back n = Back
taken_mode (Front f) n = front f.back_start f.byte_capacity (n.used + 1)
taken_mode Alloc n = Alloc

abbrev pub taken_len : PoolMode → Numbers → ℕ
taken_len Back n = n.used + 1 - n.back_start
taken_len (Front f) n = n.back_len
taken_len Alloc n = n.back_len

-- the numbers after it
abbrev pub handed_out : PoolMode → ℕ → Numbers → Numbers
handed_out mode len n =
    record {
      capacity = n.capacity;
      overflow = n.overflow;
      slots = n.slots;
      live = claimed n.slots n.live (n.used + 1);
      back_start = n.back_start;
      back_len = len;
      used = n.used + 1;
      raw_offset = n.raw_offset + n.raw_len;
      raw_len = 0;
      mode = mode;
      kept = n.kept;
      cursor = n.cursor;
      reserved = 0;
    }

-- a take of a frame of the pool: are all serials given to the caller?
unfoldable pub pooled : Bool → Numbers → ℕ → ℕ → Result Taking Refusal
pooled true n caller last = Err NoSerials
pooled false n caller last =
    Ok (
    Pooled (record { slot = n.used + 1; start = n.raw_offset; length = n.raw_len; serial = last + 1; caller = caller })
    (handed_out (taken_mode n.mode n) (taken_len n.mode n) n)
    )

-- a take of a frame of the overflow: is it longer than the destination?
unfoldable pub copied_out : Bool → Numbers → Result Taking Refusal
copied_out true n = Err DestinationTooShort
copied_out false n = Ok (Copied n.cursor (numbers_of (framed (bare n) Alloc n.raw_offset n.raw_len (n.kept - n.cursor) 0 0)))

-- a slice that a take gives has a slot and a caller of the arrays
abbrev pub InArrays : Result Taking Refusal → Type 0
InArrays (Ok (Copied n q)) = ⊤
InArrays (Ok (Pooled h q)) = (1 ≤ h.slot) × (h.slot ≤ most_slots) × (h.caller < caller_count)
InArrays (Err why) = ⊤

-- how many bytes a take copies
abbrev pub copied_by : Result Taking Refusal → ℕ
copied_by (Ok (Copied n q)) = n
copied_by (Ok (Pooled h q)) = 0
copied_by (Err why) = 0
