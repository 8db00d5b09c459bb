-- The pool's record (declared in src/buffer_pool.rt) with some of its fields replaced, and what the other definitions read
-- off it (SPECIFICATION 2). In a comment, s is `back_start` and n is `back_len`: SPECIFICATION 1.12 has the letters.
use Rattle.std.specs.Prelude.{List, ℕ, zero, suc, ◌+◌, ◌-◌, length, get_or, replicate, take}
use Rattle.buffer_pool.specs.declared.buffer_pool.BufferPool.{BufferPool}
use Rattle.buffer_pool.specs.declared.buffer_pool.PoolMode.{PoolMode}
use Rattle.buffer_pool.specs.declared.buffer_pool.PoolMode.TheVariants.{Back, Front}

-- the two slot counts, the byte limit and the count of callers: the constants of the pool's type. W-208, "New takes a slot count of 8
-- or 16": 8 is the Rust's count, a refused new's and that of traces; 16 is also the length of the record's arrays. A w in the other
-- definitions is a slot count.
abbrev pub rust_slots : ℕ
rust_slots = 8

abbrev pub most_slots : ℕ
most_slots = 16

abbrev pub byte_limit : ℕ
byte_limit = 1048576

-- SPECIFICATION 1.14: a caller is "one of 0 to 3"
abbrev pub caller_count : ℕ
caller_count = 4

-- the start of slot p's slice (SPECIFICATION 2.3)
abbrev pub start_at : List ℕ → ℕ → ℕ
start_at starts p = get_or starts (p - 1) 0

-- the end of slot p's slice, and 0 for no slot (SPECIFICATION 2.3): the Rust's `raw_offset_from_len`
unfoldable pub after : List ℕ → List ℕ → ℕ → ℕ
after starts lengths zero = 0
after starts lengths (suc i) = get_or starts i 0 + get_or lengths i 0

-- a front of f slots and c bytes, l of the slots used
abbrev pub front : ℕ → ℕ → ℕ → PoolMode
front f c l = Front (record { back_start = f; byte_capacity = c; len = l })

-- the record of a new pool of w slots, with memories of these lengths (SPECIFICATION 2.1)
abbrev pub new_record : ℕ → ℕ → ℕ → BufferPool
new_record w capacity overflow =
    record {
      capacity = capacity;
      overflow = overflow;
      slots = w;
      live = 0;
      starts = replicate most_slots 0;
      lengths = replicate most_slots 0;
      serials = replicate most_slots 0;
      callers = replicate most_slots 0;
      given = replicate caller_count 0;
      back_start = 0;
      back_len = 0;
      used = 0;
      raw_offset = 0;
      raw_len = 0;
      mode = Back;
      kept = 0;
      cursor = 0;
      reserved = 0;
    }

-- r with another mode, back (s, n), count of used slots and frame start
abbrev pub placed : BufferPool → PoolMode → ℕ → ℕ → ℕ → ℕ → BufferPool
placed r mode s n used offset =
    record {
      capacity = r.capacity;
      overflow = r.overflow;
      slots = r.slots;
      live = r.live;
      starts = r.starts;
      lengths = r.lengths;
      serials = r.serials;
      callers = r.callers;
      given = r.given;
      back_start = s;
      back_len = n;
      used = used;
      raw_offset = offset;
      raw_len = r.raw_len;
      mode = mode;
      kept = r.kept;
      cursor = r.cursor;
      reserved = r.reserved;
    }

-- r with other numbers of the frame: mode, start and length in the pool, kept length and cursor of the overflow, reservation
abbrev pub framed : BufferPool → PoolMode → ℕ → ℕ → ℕ → ℕ → ℕ → BufferPool
framed r mode offset len kept cursor reserved =
    record {
      capacity = r.capacity;
      overflow = r.overflow;
      slots = r.slots;
      live = r.live;
      starts = r.starts;
      lengths = r.lengths;
      serials = r.serials;
      callers = r.callers;
      given = r.given;
      back_start = r.back_start;
      back_len = r.back_len;
      used = r.used;
      raw_offset = offset;
      raw_len = len;
      mode = mode;
      kept = kept;
      cursor = cursor;
      reserved = reserved;
    }

-- r with other live slots, other entries of the slots and other counts of serials
abbrev pub marked : BufferPool → ℕ → List ℕ → List ℕ → List ℕ → List ℕ → List ℕ → BufferPool
marked r live starts lengths serials callers given =
    record {
      capacity = r.capacity;
      overflow = r.overflow;
      slots = r.slots;
      live = live;
      starts = starts;
      lengths = lengths;
      serials = serials;
      callers = callers;
      given = given;
      back_start = r.back_start;
      back_len = r.back_len;
      used = r.used;
      raw_offset = r.raw_offset;
      raw_len = r.raw_len;
      mode = r.mode;
      kept = r.kept;
      cursor = r.cursor;
      reserved = r.reserved;
    }

-- r with other live slots
abbrev pub with_live : BufferPool → ℕ → BufferPool
with_live r live = marked r live r.starts r.lengths r.serials r.callers r.given

-- r with all starts and lengths 0, those above the slot count too
abbrev pub without_entries : BufferPool → BufferPool
without_entries r =
    marked r r.live (replicate (length r.starts) 0) (replicate (length r.lengths) 0) r.serials r.callers r.given

-- r with the first w entries of each array of slots: what a pool of w slots has of it. Entries above never matter (proofs/Cut.antt)
abbrev pub cut : ℕ → BufferPool → BufferPool
cut w r =
    marked r r.live (take w r.starts) (take w r.lengths) (take w r.serials) (take w r.callers) r.given
