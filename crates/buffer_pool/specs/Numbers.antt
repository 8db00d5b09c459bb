-- The numbers of a record (src/numbers.rt) beside its arrays, and the record that they make. A call decides on the numbers while the
-- arrays are lent; what it leaves is said of every record with these numbers and the arrays lent to it.
use Rattle.std.specs.Prelude.{◌≡◌, Bool, ◌&&◌, List, [], ℕ, ◌-◌, leb, ltb, length, replicate, set}
use Rattle.laws.specs.Tests.{pick}
use Rattle.buffer_pool.specs.declared.slice.Handle.{Handle}
use Rattle.buffer_pool.specs.declared.buffer_pool.BufferPool.{BufferPool}
use Rattle.buffer_pool.specs.declared.buffer_pool.Entries.{Entries}
use Rattle.buffer_pool.specs.declared.numbers.Numbers.{Numbers}
use Rattle.buffer_pool.specs.Record.{most_slots, caller_count}

-- the numbers of a record
abbrev pub numbers_of : BufferPool → Numbers
numbers_of r =
    record {
      capacity = r.capacity;
      overflow = r.overflow;
      slots = r.slots;
      live = r.live;
      back_start = r.back_start;
      back_len = r.back_len;
      used = r.used;
      raw_offset = r.raw_offset;
      raw_len = r.raw_len;
      mode = r.mode;
      kept = r.kept;
      cursor = r.cursor;
      reserved = r.reserved;
    }

-- the arrays that neither the soundness test nor a reserve reads: each slot's serial and caller, and each caller's count of serials
pub record Rest : Type 0 where
  pub serials : List ℕ
  pub callers : List ℕ
  pub given : List ℕ

-- they have a place for every slot and caller: in code the types say so
pub record RestWhole (o : Rest) : Type 0 where
  pub serials_all : length o.serials ≡ most_slots
  pub callers_all : length o.callers ≡ most_slots
  pub given_all : length o.given ≡ caller_count

abbrev pub rest_of : BufferPool → Rest
rest_of r = record { serials = r.serials; callers = r.callers; given = r.given }

-- the record with these numbers, starts and lengths, and the other arrays
abbrev pub filled : Numbers → List ℕ → List ℕ → Rest → BufferPool
filled n starts lengths o =
    record {
      capacity = n.capacity;
      overflow = n.overflow;
      slots = n.slots;
      starts = starts;
      lengths = lengths;
      serials = o.serials;
      given = o.given;
      callers = o.callers;
      live = n.live;
      back_start = n.back_start;
      back_len = n.back_len;
      used = n.used;
      raw_offset = n.raw_offset;
      raw_len = n.raw_len;
      mode = n.mode;
      kept = n.kept;
      cursor = n.cursor;
      reserved = n.reserved;
    }

-- a record with these numbers, starts and lengths, where the other arrays are not read: their entries are 0
abbrev pub zeros : Rest
zeros = record { serials = replicate most_slots 0; callers = replicate most_slots 0; given = replicate caller_count 0 }

abbrev pub plain : Numbers → List ℕ → List ℕ → BufferPool
plain n starts lengths = filled n starts lengths zeros

-- a record with these numbers, where no array is read
abbrev pub bare : Numbers → BufferPool
bare n = plain n [] []

-- r with other numbers
abbrev pub with_numbers : BufferPool → Numbers → BufferPool
with_numbers r n = filled n r.starts r.lengths (rest_of r)

-- ---- The arrays together, as they are lent

abbrev pub entries_of : BufferPool → Entries
entries_of r =
    record { starts = r.starts; lengths = r.lengths; serials = r.serials; given = r.given; callers = r.callers }

abbrev pub rest_in : Entries → Rest
rest_in e = record { serials = e.serials; callers = e.callers; given = e.given }

-- they have a place for every slot and caller: in code the types say so
pub record Whole (e : Entries) : Type 0 where
  pub starts_all : length e.starts ≡ most_slots
  pub lengths_all : length e.lengths ≡ most_slots
  pub rest_all : RestWhole (rest_in e)

-- the record of these numbers and entries
abbrev pub with_entries : Numbers → Entries → BufferPool
with_entries n e = filled n e.starts e.lengths (rest_in e)

-- does the handle have a slot and a caller of the arrays?
abbrev pub has_place : Handle → Bool
has_place h = leb 1 h.slot && (leb h.slot most_slots && ltb h.caller caller_count)

-- the entries with that of a slice, and its caller's count of serials
unfoldable pub entered : Entries → Handle → Entries
entered e h =
    pick (has_place h)
    (record {
      starts = set e.starts (h.slot - 1) h.start;
      lengths = set e.lengths (h.slot - 1) h.length;
      serials = set e.serials (h.slot - 1) h.serial;
      given = set e.given h.caller h.serial;
      callers = set e.callers (h.slot - 1) h.caller;
    })
    e

-- the entries with all starts and lengths 0, those above the slot count too
abbrev pub cleared : Entries → Entries
cleared e =
    record {
      starts = replicate (length e.starts) 0;
      lengths = replicate (length e.lengths) 0;
      serials = e.serials;
      given = e.given;
      callers = e.callers;
    }
