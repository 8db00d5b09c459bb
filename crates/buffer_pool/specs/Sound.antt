-- The soundness test read as a proposition, with a name for each clause; proofs/Soundness.antt shows that the two say the
-- same (`sound_use`, `sound_make`). Live slices stand in the pool in the order of their slots: the other clauses rest on `order`.
use Rattle.std.specs.Prelude.{◌≡◌, true, List, ℕ, ◌+◌, ◌^◌, ◌≤◌, ◌<◌, max, length}
use Rattle.laws.specs.Live.{live_at}
use Rattle.buffer_pool.specs.declared.buffer_pool.BufferPool.{BufferPool}
use Rattle.buffer_pool.specs.declared.buffer_pool.PoolFront.{PoolFront}
use Rattle.buffer_pool.specs.declared.buffer_pool.PoolMode.{PoolMode}
use Rattle.buffer_pool.specs.declared.buffer_pool.PoolMode.TheVariants.{Back, Front, Alloc}
use Rattle.buffer_pool.specs.Record.{byte_limit, caller_count, start_at, after}
use Rattle.buffer_pool.specs.Soundness.{is_slot_count}

-- slot p is one of the w slots, and live
pub record Held (w live p : ℕ) : Type 0 where
  pub one : 1 ≤ p
  pub most : p ≤ w
  pub here : live_at w live p ≡ true

-- the live slices: non-empty, in the order of their slots, inside the pool
pub record Slots (w live : ℕ) (starts lengths : List ℕ) (capacity : ℕ) : Type 0 where
  pub live_fits : live < 2 ^ w
  pub starts_w : w ≤ length starts
  pub lengths_w : w ≤ length lengths
  pub some : (p : ℕ) → Held w live p → start_at starts p < after starts lengths p
  pub order : (p q : ℕ) → p < q → Held w live p → Held w live q → after starts lengths p ≤ start_at starts q
  pub inside : (p : ℕ) → Held w live p → after starts lengths p ≤ capacity

-- a place for each slot's serial and caller, and for each caller's count of serials
pub record SerialsFit (w : ℕ) (serials callers given : List ℕ) : Type 0 where
  pub serials_w : w ≤ length serials
  pub callers_w : w ≤ length callers
  pub given_all : caller_count ≤ length given

-- what holds in every mode, and all through a reserve: while a frame that goes out to the overflow has not been measured
-- against it, the kept length may exceed the overflow by that frame
pub record Ready (w : ℕ) (r : BufferPool) : Type 0 where
  pub count_is : r.slots ≡ w
  pub is_count : is_slot_count w ≡ true
  pub slots : Slots w r.live r.starts r.lengths r.capacity
  pub serials_fit : SerialsFit w r.serials r.callers r.given
  pub kept_in : r.kept ≤ max r.overflow r.cursor
  pub start_below : r.back_start < w
  pub back_within : r.back_start + r.back_len ≤ w
  pub none : r.capacity ≡ 0 → r.back_len ≡ 0
  pub low : (p : ℕ) → Held w r.live p → p ≤ r.back_start + r.back_len

-- B, with so many bytes reserved after the frame
pub record InBack (w : ℕ) (r : BufferPool) (reserved : ℕ) : Type 0 where
  pub used_is : r.used ≡ r.back_start + r.back_len
  pub no_cursor : r.cursor ≡ 0
  pub past : (p : ℕ) → Held w r.live p → after r.starts r.lengths p ≤ r.raw_offset
  pub fits : r.raw_offset + r.raw_len + reserved ≤ r.capacity
  pub slot : 0 < r.raw_len + reserved → r.back_start + r.back_len < w

-- where a live slot p from start to end stands beside a front f and a frame at offset
pub data Side (p : ℕ) (f : PoolFront) (start end offset : ℕ) : Type 0 where
  own : p ≤ f.len → end ≤ offset → Side p f start end offset
  above : f.back_start < p → f.byte_capacity ≤ start → Side p f start end offset

-- F
pub record InFront (w : ℕ) (r : BufferPool) (f : PoolFront) (reserved : ℕ) : Type 0 where
  pub full : r.back_start + r.back_len ≡ w
  pub one : 1 ≤ f.back_start
  pub front_within : f.back_start ≤ r.back_start
  pub len_within : f.len ≤ f.back_start
  pub used_is : r.used ≡ f.len
  pub no_cursor : r.cursor ≡ 0
  pub bytes_within : f.byte_capacity ≤ r.capacity
  pub side : (p : ℕ) → Held w r.live p → Side p f (start_at r.starts p) (after r.starts r.lengths p) r.raw_offset
  pub fits : r.raw_offset + r.raw_len + reserved ≤ f.byte_capacity
  pub slot : 0 < r.raw_len + reserved → f.len < f.back_start

-- A
pub record InAlloc (r : BufferPool) (reserved : ℕ) : Type 0 where
  pub no_offset : r.raw_offset ≡ 0
  pub no_len : r.raw_len ≡ 0
  pub fits : r.cursor + reserved ≤ r.kept

abbrev pub InMode : ℕ → PoolMode → BufferPool → ℕ → Type 0
InMode w Back r reserved = InBack w r reserved
InMode w (Front f) r reserved = InFront w r f reserved
InMode w Alloc r reserved = InAlloc r reserved

-- sound but for the byte limit: all that the record steps need and keep
pub record Orderly (w : ℕ) (r : BufferPool) : Type 0 where
  pub ready : Ready w r
  pub kept_within : r.kept ≤ r.overflow
  pub in_mode : InMode w r.mode r r.reserved

pub record Sound (w : ℕ) (r : BufferPool) : Type 0 where
  pub capacity_limit : r.capacity ≤ byte_limit
  pub overflow_limit : r.overflow ≤ byte_limit
  pub orderly : Orderly w r
