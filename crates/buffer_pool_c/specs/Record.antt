-- The record as C holds it: the pool's record with its mode as a number.
use Rattle.std.specs.Prelude.{Result, Ok, Err, Bool, ◌&&◌, ℕ, zero, suc, ◌^◌, leb, ltb}
use Rattle.laws.specs.Tests.{pick}
use Rattle.buffer_pool.specs.declared.buffer_pool.BufferPool.{BufferPool}
use Rattle.buffer_pool.specs.declared.buffer_pool.PoolFront.{PoolFront}
use Rattle.buffer_pool.specs.declared.buffer_pool.PoolMode.{PoolMode}
use Rattle.buffer_pool.specs.declared.buffer_pool.PoolMode.TheVariants.{Back, Front, Alloc}
use Rattle.buffer_pool.specs.declared.numbers.Numbers.{Numbers}
use Rattle.buffer_pool.specs.declared.lent.Resizing.{Resizing}
use Rattle.buffer_pool.specs.declared.refusals.Refusal.{Refusal}
use Rattle.buffer_pool.specs.Record.{most_slots}
use Rattle.buffer_pool.specs.Numbers.{entries_of, with_entries}
use Rattle.buffer_pool_c.specs.declared.record.Record.{Record}

-- is it the number of a mode?
abbrev pub is_mode : ℕ → Bool
is_mode number = leb number 2

-- is it a word of 16 bits, as the pool's word of live slots? That it has no bit beyond the record's own slots is for the soundness
-- test, which refuses with 1 as well
abbrev pub is_live_word : ℕ → Bool
is_live_word word = ltb word (2 ^ most_slots)

-- can the record be a pool's, by its live word and its mode? C's fields hold any number of 32 bits
abbrev pub known : Record → Bool
known r = is_live_word r.live && is_mode r.mode

-- the mode with this number: 0 the back, 1 the front, 2 the overflow
abbrev pub mode_of : ℕ → PoolFront → PoolMode
mode_of zero f = Back
mode_of (suc zero) f = Front f
mode_of (suc (suc n)) f = Alloc

abbrev pub mode_number : PoolMode → ℕ
mode_number Back = 0
mode_number (Front f) = 1
mode_number Alloc = 2

abbrev pub no_front : PoolFront
no_front = record { back_start = 0; byte_capacity = 0; len = 0 }

-- the numbers of a front, and in the other modes those that stood there before
abbrev pub front_of : PoolMode → PoolFront → PoolFront
front_of Back before = before
front_of (Front f) before = f
front_of Alloc before = before

-- the numbers of a front that a record holds; they are read in the front only
abbrev pub front_held : Record → PoolFront
front_held r = record { back_start = r.front_back_start; byte_capacity = r.front_byte_capacity; len = r.front_len }

-- the pool's record, with this mode
abbrev pub pool_in : PoolMode → Record → BufferPool
pool_in mode r =
    record {
      capacity = r.capacity;
      overflow = r.overflow;
      slots = r.slots;
      live = r.live;
      starts = r.entries.starts;
      lengths = r.entries.lengths;
      serials = r.entries.serials;
      callers = r.entries.callers;
      given = r.entries.given;
      back_start = r.back_start;
      back_len = r.back_len;
      used = r.used;
      raw_offset = r.raw_offset;
      raw_len = r.raw_len;
      mode = mode;
      kept = r.kept;
      cursor = r.cursor;
      reserved = r.reserved;
    }

abbrev pub pool_of : Record → BufferPool
pool_of r = pool_in (mode_of r.mode (front_held r)) r

-- the record of a pool, with this number of its mode and these numbers of its front
abbrev pub record_in : ℕ → PoolFront → BufferPool → Record
record_in number front p =
    record {
      capacity = p.capacity;
      overflow = p.overflow;
      slots = p.slots;
      entries = entries_of p;
      live = p.live;
      mode = number;
      back_start = p.back_start;
      back_len = p.back_len;
      used = p.used;
      raw_offset = p.raw_offset;
      raw_len = p.raw_len;
      front_back_start = front.back_start;
      front_byte_capacity = front.byte_capacity;
      front_len = front.len;
      kept = p.kept;
      cursor = p.cursor;
      reserved = p.reserved;
    }

-- the record of a pool, where a front had these numbers before
abbrev pub record_of : PoolFront → BufferPool → Record
record_of before p = record_in (mode_number p.mode) (front_of p.mode before) p

-- the record of a pool, where C held r before
abbrev pub record_after : Record → BufferPool → Record
record_after r p = record_of (front_held r) p

-- ---- What the code passes on to the pool, and what it stores. No exported call's contract speaks of it

-- the slot count of a record that is a pool's, and 0 of any other: the soundness test refuses it with 1 (proofs/ExportLaws.antt, `unsound`)
abbrev pub slots_of : Record → ℕ
slots_of r = pick (known r) r.slots 0

abbrev pub live_of : Record → ℕ
live_of r = pick (is_live_word r.live) r.live 0

-- the numbers of the pool's record, with this slot count, these live slots and this mode
abbrev pub numbers_in : ℕ → ℕ → PoolMode → Record → Numbers
numbers_in slots live mode r =
    record {
      capacity = r.capacity;
      overflow = r.overflow;
      slots = slots;
      live = live;
      back_start = r.back_start;
      back_len = r.back_len;
      used = r.used;
      raw_offset = r.raw_offset;
      raw_len = r.raw_len;
      mode = mode;
      kept = r.kept;
      cursor = r.cursor;
      reserved = r.reserved;
    }

abbrev pub numbers_of : Record → Numbers
numbers_of r = numbers_in (slots_of r) (live_of r) (mode_of r.mode (front_held r)) r

-- the record that a commit or a truncate stores: "The reservation is spent"
abbrev pub resized : Record → Result Resizing Refusal → Record
resized r (Ok x) = record r { raw_len = x.raw_len; cursor = x.cursor; reserved = 0 }
resized r (Err why) = r

-- r with these numbers
abbrev pub stored : Record → Numbers → Record
stored r n = record_after r (with_entries n r.entries)
