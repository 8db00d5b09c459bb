-- `BufferPool<BufferFromSystemMemory>` of the Rust, function by function under its names (`rust_` before names that the pool's own
-- definitions have), bytes moved at once, as it does. A failed assert, an index out of bounds, a difference below 0 and an
-- `unreachable!` arm are a panic; a sum is a whole number. w is `POOL_CAPACITY`; `live` is the Rust's `shared_state`, read once at the
-- start of a reserve. The pairs of `slots` are two lists. Left out: the `debug` and `fuzz` features, threads.
use Rattle.std.specs.Prelude.{Bool, true, false, not, ◌&&◌, ◌||◌, List, [], ◌++◌, ℕ, zero, suc, ◌+◌, ◌-◌, ◌/◌, ◌^◌, min, leb, ltb, eqb, length, take, drop, get_or, set, replicate}
use Rattle.std.specs.Int.Count.{count_leading_zeros, count_trailing_zeros}
use Rattle.laws.specs.Tests.{pick}
use Rattle.laws.specs.Lists.{part, copied, moved}
use Rattle.laws.specs.Live.{live_at, claimed, released}
use Rattle.buffer_pool.specs.declared.buffer_pool.PoolFront.{PoolFront}
use Rattle.buffer_pool.specs.declared.buffer_pool.PoolMode.{PoolMode}
use Rattle.buffer_pool.specs.declared.buffer_pool.PoolMode.TheVariants.{Back, Front, Alloc}
use Rattle.buffer_pool.specs.declared.buffer_pool.Memory.TheVariants.{Pool, Overflow}
use Rattle.buffer_pool.specs.declared.buffer_pool.Place.{Place}
use Rattle.buffer_pool.specs.Record.{front}
use Rattle.buffer_pool.specs.Placing.{is_alloc}
use Rattle.buffer_pool.specs.Steps.{at}

-- ---- A run that may panic

pub data Run (A : Type 0) : Type 0 where
  done : A → Run A
  panic : Run A

module _ {A : Type 0} where
  -- an assert, an index in bounds, a difference that is one
  abbrev pub need : Bool → Run A → Run A
  need true run = run
  need false run = panic

module _ {A B : Type 0} where
  abbrev pub then : Run A → (A → Run B) → Run B
  then (done a) next = next a
  then panic next = panic

  abbrev pub with : Run A → (A → B) → Run B
  with (done a) f = done (f a)
  with panic f = panic

-- the Rust's `Result<A, PoolMode>`
pub data Result (A : Type 0) : Type 0 where
  ok : A → Result A
  err : PoolMode → Result A

-- ---- The structs

pub record PoolBack : Type 0 where
  pub back_start : ℕ
  pub len : ℕ

-- `slots` and `bytes` are those of `SharedState`
pub record InnerMemory : Type 0 where
  pub live : ℕ
  pub bytes : List ℕ
  pub raw_offset : ℕ
  pub raw_len : ℕ
  pub starts : List ℕ
  pub lengths : List ℕ
  pub len : ℕ

-- `BufferFromSystemMemory`
pub record SystemMemory : Type 0 where
  pub inner : List ℕ
  pub cursor : ℕ
  pub reserved : ℕ

pub record RustPool : Type 0 where
  pub pool_back : PoolBack
  pub mode : PoolMode
  pub inner_memory : InnerMemory
  pub system_memory : SystemMemory
  pub reserved : ℕ

-- a slice: pooled, with its slot and place, or on the heap, with its bytes
pub data Slice : Type 0 where
  Pooled : ℕ → ℕ → ℕ → Slice
  Heap : List ℕ → Slice

-- ---- The structs with some fields replaced

abbrev pub back : ℕ → ℕ → PoolBack
back back_start len = record { back_start = back_start; len = len }

-- the frame's bytes and place
abbrev pub raw : InnerMemory → List ℕ → ℕ → ℕ → InnerMemory
raw m bytes offset len =
    record { live = m.live; bytes = bytes; raw_offset = offset; raw_len = len; starts = m.starts; lengths = m.lengths; len = m.len }

-- the live bits, the slots' entries and the count of used slots
abbrev pub slotted : InnerMemory → ℕ → List ℕ → List ℕ → ℕ → InnerMemory
slotted m live starts lengths len =
    record { live = live; bytes = m.bytes; raw_offset = m.raw_offset; raw_len = m.raw_len; starts = starts; lengths = lengths; len = len }

abbrev pub used_to : InnerMemory → ℕ → InnerMemory
used_to m len = slotted m m.live m.starts m.lengths len

abbrev pub system : List ℕ → ℕ → ℕ → SystemMemory
system inner cursor reserved = record { inner = inner; cursor = cursor; reserved = reserved }

abbrev pub pool : PoolBack → PoolMode → InnerMemory → SystemMemory → ℕ → RustPool
pool b mode m s reserved = record { pool_back = b; mode = mode; inner_memory = m; system_memory = s; reserved = reserved }

-- ---- BufferFromSystemMemory (buffer.rs)

-- `Vec::resize` to the end asked for, where that is longer
unfoldable pub resized : List ℕ → ℕ → List ℕ
resized inner end = pick (ltb (length inner) end) (inner ++ replicate (end - length inner) 0) inner

unfoldable pub system_reserve : SystemMemory → ℕ → SystemMemory
system_reserve s len = system (resized s.inner (s.cursor + len)) s.cursor len

unfoldable pub system_commit : SystemMemory → ℕ → Run SystemMemory
system_commit s len = need (leb len s.reserved) (done (system s.inner (s.cursor + len) 0))

-- what is left by `split_off` and the swap; the part handed out is `system_frame`
unfoldable pub system_get_data_owned : SystemMemory → Run SystemMemory
system_get_data_owned s = need (leb s.cursor (length s.inner)) (done (system (drop s.cursor s.inner) 0 0))

unfoldable pub system_frame : SystemMemory → Run (List ℕ)
system_frame s = need (leb s.cursor (length s.inner)) (done (take s.cursor s.inner))

unfoldable pub system_truncate : SystemMemory → ℕ → SystemMemory
system_truncate s len = system s.inner (min s.cursor len) 0

-- ---- InnerMemory (buffer_pool/mod.rs)

unfoldable pub in_bounds : InnerMemory → ℕ → ℕ → Bool
in_bounds m offset len = leb (offset + len) (length m.bytes)

unfoldable pub raw_data : InnerMemory → Run (List ℕ)
raw_data m = need (in_bounds m m.raw_offset m.raw_len) (done (part m.bytes m.raw_offset m.raw_len))

abbrev pub reset_memory : ℕ → InnerMemory → InnerMemory
reset_memory w m = raw (slotted m m.live (replicate w 0) (replicate w 0) m.len) m.bytes 0 0

abbrev pub reset_raw : InnerMemory → InnerMemory
reset_raw m = raw m m.bytes 0 0

-- `self.slots[index]`
abbrev pub slot : {A : Type 0} → ℕ → InnerMemory → ℕ → (ℕ → ℕ → Run A) → Run A
slot w m index f = need (ltb index w) (f (get_or m.starts index 0) (get_or m.lengths index 0))

unfoldable pub raw_offset_from_len : ℕ → InnerMemory → ℕ → Run ℕ
raw_offset_from_len w m zero = done 0
raw_offset_from_len w m (suc index) = slot w m index (λ start len. done (start + len))

-- the arms of `match shared_state >> (POOL_CAPACITY - back_start)`
unfoldable pub front_end_of : ℕ → InnerMemory → ℕ → ℕ → Run ℕ
front_end_of w m zero back_start = done 0
front_end_of w m (suc bits) back_start =
    need (leb (count_trailing_zeros w (suc bits)) (back_start - 1))
    (slot w m (back_start - 1 - count_trailing_zeros w (suc bits)) (λ start len. done (start + len)))

unfoldable pub front_end : ℕ → InnerMemory → ℕ → ℕ → Run ℕ
front_end w m live zero = done 0
front_end w m live (suc b) = need (leb (suc b) w) (front_end_of w m (live / 2 ^ (w - suc b)) (suc b))

unfoldable pub copy_within : InnerMemory → ℕ → ℕ → ℕ → Run (List ℕ)
copy_within m src len dst = need (in_bounds m src len && in_bounds m dst len) (done (moved m.bytes src len dst))

-- `match self.raw_len`
unfoldable pub move_raw_on : ℕ → InnerMemory → ℕ → Run InnerMemory
move_raw_on zero m offset = done (raw m m.bytes offset m.raw_len)
move_raw_on (suc l) m offset = with (copy_within m m.raw_offset m.raw_len offset) (λ bytes. raw m bytes offset m.raw_len)

unfoldable pub move_raw_at_offset : InnerMemory → ℕ → Run InnerMemory
move_raw_at_offset m offset = move_raw_on m.raw_len m offset

-- a bool and the memory left
pub record Told : Type 0 where
  pub value : Bool
  pub memory : InnerMemory

abbrev pub told : Bool → InnerMemory → Told
told value m = record { value = value; memory = m }

unfoldable pub try_change_len : InnerMemory → ℕ → ℕ → ℕ → Run Told
try_change_len m slot-len raw_offset raw_len =
    pick (in_bounds m (raw_offset + m.raw_len) raw_len) (with (move_raw_at_offset (used_to m slot-len) raw_offset) (told true))
    (done (told false m))

unfoldable pub prepend_raw_data : InnerMemory → List ℕ → Run InnerMemory
prepend_raw_data m data' =
    need (in_bounds m 0 (length data')) (done (raw m (copied data' 0 (length data') m.bytes 0) 0 (length data')))

-- the reservation of the buffer is `raw_len` long and lies at its cursor
unfoldable pub copy_into_buffer : InnerMemory → SystemMemory → Run SystemMemory
copy_into_buffer m s =
    then (raw_data m)
    (λ data'. let t : SystemMemory = system_reserve s m.raw_len in
    system_commit (system (copied data' 0 m.raw_len t.inner t.cursor) t.cursor t.reserved) m.raw_len)

unfoldable pub has_tail_capacity : InnerMemory → ℕ → Bool
has_tail_capacity m len = in_bounds m (m.raw_offset + m.raw_len) len

unfoldable pub has_capacity_until_offset : InnerMemory → ℕ → ℕ → Bool
has_capacity_until_offset m len offset = leb (m.raw_offset + m.raw_len + len) offset

-- where the writable range begins
unfoldable pub reserve_raw : InnerMemory → ℕ → Run ℕ
reserve_raw m len = need (in_bounds m (m.raw_offset + m.raw_len) len) (done (m.raw_offset + m.raw_len))

unfoldable pub commit_raw : InnerMemory → ℕ → Run InnerMemory
commit_raw m len = need (in_bounds m (m.raw_offset + m.raw_len) len) (done (raw m m.bytes m.raw_offset (m.raw_len + len)))

-- a slice and the memory left
pub record Owned : Type 0 where
  pub slice : Slice
  pub memory : InnerMemory

-- `match self.raw_len`; `Slice::pooled` claims the slot, whose bit must be free, and `mask` takes no slot but 1 to w
unfoldable pub get_data_owned_on : ℕ → ℕ → InnerMemory → Run Owned
get_data_owned_on zero w m = done (record { slice = Heap []; memory = m })
get_data_owned_on (suc l) w m =
    need (ltb m.len w)
    (need (not (live_at w m.live (suc m.len)))
    (done
    (record {
      slice = Pooled (suc m.len) m.raw_offset m.raw_len;
      memory =
          raw
          (slotted m (claimed w m.live (suc m.len)) (set m.starts m.len m.raw_offset) (set m.lengths m.len m.raw_len) (suc m.len))
          m.bytes (m.raw_offset + m.raw_len) 0;
    })))

unfoldable pub memory_get_data_owned : ℕ → InnerMemory → Run Owned
memory_get_data_owned w m = get_data_owned_on m.raw_len w m

-- ---- PoolBack (buffer_pool/pool_back.rs)

-- a value, with the back and the memory left
pub record Backed (A : Type 0) : Type 0 where
  pub value : A
  pub back : PoolBack
  pub memory : InnerMemory

abbrev pub backed : {A : Type 0} → A → PoolBack → InnerMemory → Backed A
backed value b m = record { value = value; back = b; memory = m }

-- the smaller of `POOL_CAPACITY - self.back_start` and the trailing zeros
abbrev pub element_to_drop : ℕ → PoolBack → ℕ → ℕ
element_to_drop w b live = min (w - b.back_start) (count_trailing_zeros w live)

unfoldable pub tail_is_clearable : ℕ → PoolBack → ℕ → Run Bool
tail_is_clearable w b live =
    need (leb b.back_start w) (done (leb (element_to_drop w b live) b.len && leb w (b.back_start + b.len)))

-- `match back_len`
unfoldable pub back_offset : ℕ → PoolBack → InnerMemory → ℕ → ℕ → Run ℕ
back_offset w b m live zero = front_end w m live b.back_start
back_offset w b m live (suc back_len) = raw_offset_from_len w m (suc back_len + b.back_start)

unfoldable pub clear_tail_to : ℕ → PoolBack → InnerMemory → ℕ → ℕ → ℕ → Run (Backed Bool)
clear_tail_to w b m live len back_len =
    then (back_offset w b m live back_len)
    (λ raw_offset. with (try_change_len m (back_len + b.back_start) raw_offset len)
    (λ t. backed t.value (pick t.value (back b.back_start back_len) b) t.memory))

-- is there nothing to drop? then the elements to drop and those already dropped
unfoldable pub try_clear_tail_on : Bool → ℕ → PoolBack → InnerMemory → ℕ → ℕ → ℕ → ℕ → Run (Backed Bool)
try_clear_tail_on true w b m live len drop already = done (backed false b m)
try_clear_tail_on false w b m live len drop already =
    need (leb (drop - already) b.len) (clear_tail_to w b m live len (b.len - (drop - already)))

unfoldable pub try_clear_tail_unchecked : ℕ → PoolBack → InnerMemory → ℕ → ℕ → Run (Backed Bool)
try_clear_tail_unchecked w b m live len =
    need (leb b.back_start w)
    (need (leb (b.back_start + b.len) w)
    (try_clear_tail_on
    (eqb (count_trailing_zeros w live) 0
    || (eqb (w - b.back_start) 0 || ltb (element_to_drop w b live) (w - (b.back_start + b.len))))
    w b m live len (element_to_drop w b live) (w - (b.back_start + b.len))))

-- the boundary only moves forward, as the Rust's comment there says
unfoldable pub boundary : Bool → PoolBack → ℕ → Run PoolBack
boundary true b front_slots =
    need (leb (front_slots - b.back_start) b.len) (done (back front_slots (b.len - (front_slots - b.back_start))))
boundary false b front_slots = done b

-- `front_slots >= 1 && memory.raw_len < memory.slots[front_slots].0`: the index is read only where the first test holds
unfoldable pub try_clear_head_on : Bool → ℕ → PoolBack → InnerMemory → ℕ → Run (Backed (Result (Unit {0})))
try_clear_head_on false w b m front_slots = done (backed (err Alloc) b m)
try_clear_head_on true w b m front_slots =
    slot w m front_slots
    (λ start len. pick (ltb m.raw_len start)
    (with (boundary (ltb b.back_start front_slots) b front_slots) (λ b'. backed (err (front front_slots start 0)) b' m))
    (done (backed (err Alloc) b m)))

unfoldable pub try_clear_head : ℕ → PoolBack → InnerMemory → ℕ → Run (Backed (Result (Unit {0})))
try_clear_head w b m live = try_clear_head_on (leb 1 (count_leading_zeros w live)) w b m (count_leading_zeros w live)

unfoldable pub clear_unchecked : ℕ → PoolBack → InnerMemory → ℕ → ℕ → Run (Backed (Result (Unit {0})))
clear_unchecked w b m live len =
    then (try_clear_tail_unchecked w b m live len)
    (λ t. pick t.value (done (backed (ok tt) t.back t.memory)) (try_clear_head w t.back t.memory live))

-- `pool_has_byte_capacity && pool_has_slice_capacity`
abbrev pub back_has_capacity : ℕ → PoolBack → InnerMemory → ℕ → Bool
back_has_capacity w b m len = has_tail_capacity m len && ltb (b.len + b.back_start) w

-- `Ok(memory.reserve_raw(len))`
abbrev pub back_offers : PoolBack → InnerMemory → ℕ → Run (Backed (Result ℕ))
back_offers b m len = with (reserve_raw m len) (λ start. backed (ok start) b m)

-- the arms of `match self.clear_unchecked(..)`
unfoldable pub back_cleared : ℕ → ℕ → Result (Unit {0}) → PoolBack → InnerMemory → Run (Backed (Result ℕ))
back_cleared w len (ok t) b m = pick (back_has_capacity w b m len) (back_offers b m len) (done (backed (err Alloc) b m))
back_cleared w len (err mode) b m = done (backed (err mode) b m)

unfoldable pub back_reserve : ℕ → PoolBack → InnerMemory → ℕ → ℕ → Run (Backed (Result ℕ))
back_reserve w b m live len =
    pick (back_has_capacity w b m len) (back_offers b m len)
    (then (tail_is_clearable w b live)
    (λ c. pick c (then (clear_unchecked w b m live len) (λ t. back_cleared w len t.value t.back t.memory))
    (done (backed (err Alloc) b m))))

-- ---- PoolFront (buffer_pool/mod.rs)

-- a value, with the front and the memory left
pub record Fronted (A : Type 0) : Type 0 where
  pub value : A
  pub front : PoolFront
  pub memory : InnerMemory

abbrev pub fronted : {A : Type 0} → A → PoolFront → InnerMemory → Fronted A
fronted value f m = record { value = value; front = f; memory = m }

abbrev pub front_len : PoolFront → ℕ → PoolFront
front_len f len = record { back_start = f.back_start; byte_capacity = f.byte_capacity; len = len }

-- `self.len = ..; memory.len = self.len`, and the frame to the new `raw_offset()`
unfoldable pub front_drop_to : ℕ → PoolFront → InnerMemory → ℕ → Run (Fronted Bool)
front_drop_to w f m len =
    then (raw_offset_from_len w m len)
    (λ raw_offset. with (move_raw_at_offset (used_to m len) raw_offset) (λ m'. fronted true (front_len f len) m'))

-- the arms of `match element_to_drop`: is it 0? is it `POOL_CAPACITY`?
unfoldable pub front_try_clear_tail_on : Bool → Bool → ℕ → PoolFront → InnerMemory → ℕ → Run (Fronted Bool)
front_try_clear_tail_on true all w f m drop = done (fronted false f m)
front_try_clear_tail_on false true w f m drop = front_drop_to w f m 0
front_try_clear_tail_on false false w f m drop = need (leb drop f.len) (front_drop_to w f m (f.len - drop))

unfoldable pub front_try_clear_tail : ℕ → PoolFront → InnerMemory → ℕ → Run (Fronted Bool)
front_try_clear_tail w f m live =
    need (leb f.len w)
    (front_try_clear_tail_on (eqb (count_trailing_zeros w (live / 2 ^ (w - f.len))) 0) (eqb (count_trailing_zeros w (live / 2 ^ (w - f.len))) w)
    w f m (count_trailing_zeros w (live / 2 ^ (w - f.len))))

-- `Ok` where a slot was cleared and the bytes suffice, with `reserve_raw` after it
unfoldable pub rust_front_cleared : ℕ → Fronted Bool → Run (Fronted (Result ℕ))
rust_front_cleared len t =
    pick (t.value && has_capacity_until_offset t.memory len t.front.byte_capacity)
    (with (reserve_raw t.memory len) (λ start. fronted (ok start) t.front t.memory))
    (done (fronted (err Back) t.front t.memory))

unfoldable pub front_clear : ℕ → PoolFront → InnerMemory → ℕ → ℕ → Run (Fronted (Result ℕ))
front_clear w f m live len =
    pick (ltb 0 f.len) (then (front_try_clear_tail w f m live) (rust_front_cleared len)) (done (fronted (err Back) f m))

unfoldable pub front_reserve : ℕ → PoolFront → InnerMemory → ℕ → ℕ → Run (Fronted (Result ℕ))
front_reserve w f m live len =
    pick (ltb f.len f.back_start && has_capacity_until_offset m len f.byte_capacity)
    (with (reserve_raw m len) (λ start. fronted (ok start) f m)) (front_clear w f m live len)

-- ---- BufferPool (buffer_pool/mod.rs)

-- the frame goes to the system memory: three arms of `change_mode`
unfoldable pub rust_to_alloc : RustPool → Run RustPool
rust_to_alloc r =
    with (copy_into_buffer r.inner_memory r.system_memory)
    (λ s. pool r.pool_back Alloc (reset_raw r.inner_memory) s r.reserved)

unfoldable pub front_to_back : ℕ → RustPool → ℕ → ℕ → Run RustPool
front_to_back w r len live =
    then (tail_is_clearable w r.pool_back live)
    (λ c. pick c
    (then (try_clear_tail_unchecked w r.pool_back r.inner_memory live len)
    (λ t. pick t.value (done (pool t.back Back t.memory r.system_memory r.reserved))
    (rust_to_alloc (pool t.back r.mode t.memory r.system_memory r.reserved))))
    (rust_to_alloc r))

-- `match (&mut self.mode, &mode)`
unfoldable pub change_mode : ℕ → PoolMode → PoolMode → RustPool → ℕ → ℕ → Run RustPool
change_mode w Back Alloc r len live = rust_to_alloc r
change_mode w Back (Front f) r len live =
    with (move_raw_at_offset (used_to r.inner_memory 0) 0)
    (λ m. pool r.pool_back (Front f) m r.system_memory r.reserved)
change_mode w (Front f) Back r len live = front_to_back w r len live
change_mode w Alloc Back r len live =
    done (pool r.pool_back Back (used_to r.inner_memory (r.pool_back.len + r.pool_back.back_start)) r.system_memory r.reserved)
change_mode w Alloc (Front f) r len live =
    done (pool r.pool_back (Front f) (used_to (reset_raw r.inner_memory) 0) r.system_memory r.reserved)
change_mode w (Front f) Alloc r len live = panic
change_mode w Back Back r len live = panic
change_mode w (Front f) (Front f') r len live = panic
change_mode w Alloc Alloc r len live = panic

-- what a reserve gives: the pool left, the writable range, and how often `change_mode` was called
pub record Reply : Type 0 where
  pub left : RustPool
  pub writable : Place
  pub changes : ℕ

abbrev pub reply : RustPool → Place → ℕ → Reply
reply left writable changes = record { left = left; writable = writable; changes = changes }

-- one call of `change_mode` before it
abbrev pub after_change : Reply → Reply
after_change a = reply a.left a.writable (suc a.changes)

-- `self.change_mode(mode, ..)`, then `self.reserve_(.., without_check)`
abbrev pub changed_then : (Bool → RustPool → Run Reply) → (RustPool → Bool) → ℕ → PoolMode → RustPool → ℕ → ℕ → Run Reply
changed_then again without-check w mode r len live =
    then (change_mode w r.mode mode r len live) (λ q. with (again (without-check q) q) after_change)

-- `self.system_memory.reserve(len)`
unfoldable pub from_system : RustPool → ℕ → Reply
from_system r len =
    reply (pool r.pool_back r.mode r.inner_memory (system_reserve r.system_memory len) r.reserved)
    (at Overflow r.system_memory.cursor len) 0

-- the arms of `match self.pool_back.clear_unchecked(..)`
unfoldable pub system_cleared : (Bool → RustPool → Run Reply) → ℕ → Result (Unit {0}) → RustPool → ℕ → ℕ → Run Reply
system_cleared again w (ok t) r len live = changed_then again (λ q. false) w Back r len live
system_cleared again w (err (Front f)) r len live = changed_then again (λ q. false) w (Front f) r len live
system_cleared again w (err Alloc) r len live =
    done (from_system (pool r.pool_back r.mode (reset_raw r.inner_memory) r.system_memory r.reserved) len)
system_cleared again w (err Back) r len live = panic

unfoldable pub reserve_from_system_memory : (Bool → RustPool → Run Reply) → ℕ → RustPool → ℕ → ℕ → Bool → Run Reply
reserve_from_system_memory again w r len live without-check =
    pick (ltb 0 r.system_memory.cursor || (without-check || eqb r.pool_back.len 0)) (done (from_system r len))
    (then (tail_is_clearable w r.pool_back live)
    (λ c. pick c
    (then (clear_unchecked w r.pool_back r.inner_memory live len)
    (λ t. system_cleared again w t.value (pool t.back r.mode t.memory r.system_memory r.reserved) len live))
    (done (from_system r len))))

-- the arms of `match writable`
unfoldable pub offered : (Bool → RustPool → Run Reply) → ℕ → Result ℕ → RustPool → ℕ → ℕ → Run Reply
offered again w (ok start) r len live = done (reply r (at Pool start len) 0)
offered again w (err mode) r len live = changed_then again (λ q. is_alloc q.mode) w mode r len live

-- `reserve_`, which calls itself; more calls than `calls` would count as a panic, and `rust_agrees` shows that three suffice
unfoldable pub reserve_ : ℕ → ℕ → PoolMode → RustPool → ℕ → ℕ → Bool → Run Reply
reserve_ w zero mode r len live without-check = panic
reserve_ w (suc calls) Back r len live without-check =
    then (back_reserve w r.pool_back r.inner_memory live len)
    (λ t. offered (λ c q. reserve_ w calls q.mode q len live c) w t.value (pool t.back Back t.memory r.system_memory r.reserved) len live)
reserve_ w (suc calls) (Front f) r len live without-check =
    then (front_reserve w f r.inner_memory live len)
    (λ t. offered (λ c q. reserve_ w calls q.mode q len live c) w t.value (pool r.pool_back (Front t.front) t.memory r.system_memory r.reserved) len live)
reserve_ w (suc calls) Alloc r len live without-check =
    reserve_from_system_memory (λ c q. reserve_ w calls q.mode q len live c) w r len live without-check

-- the arms of `reset`'s match; `inner_memory.len` is 0 before it
unfoldable pub rust_reset_on : PoolMode → ℕ → RustPool → Run RustPool
rust_reset_on Back w r = with (move_raw_at_offset r.inner_memory 0) (λ m. pool (back 0 0) Back m r.system_memory r.reserved)
rust_reset_on (Front f) w r = with (move_raw_at_offset r.inner_memory 0) (λ m. pool (back 0 0) Back m r.system_memory r.reserved)
rust_reset_on Alloc w r =
    pick (ltb r.system_memory.cursor (length r.inner_memory.bytes))
    (pick (ltb 0 r.system_memory.cursor)
    (then (system_frame r.system_memory)
    (λ data'. then (prepend_raw_data r.inner_memory data')
    (λ m. with (system_get_data_owned r.system_memory) (λ s. pool (back 0 0) Back m s r.reserved))))
    (done (pool (back 0 0) Back (reset_memory w r.inner_memory) r.system_memory r.reserved)))
    (done r)

unfoldable pub rust_reset : ℕ → RustPool → Run RustPool
rust_reset w r = rust_reset_on r.mode w (pool r.pool_back r.mode (used_to r.inner_memory 0) r.system_memory r.reserved)

-- `shared_state == 0 && (self.pool_back.len() != 0 || alloc_mode_is_done)`
unfoldable pub resets_now : RustPool → Bool
resets_now r =
    eqb r.inner_memory.live 0
    && (not (eqb r.pool_back.len 0) || (is_alloc r.mode && eqb r.system_memory.cursor 0))

unfoldable pub rust_reserve : ℕ → ℕ → RustPool → ℕ → Run Reply
rust_reserve w calls r len =
    then (pick (resets_now r) (rust_reset w r) (done r))
    (λ q. reserve_ w calls q.mode (pool q.pool_back q.mode q.inner_memory q.system_memory len) len r.inner_memory.live false)

-- `match self.mode` of `commit`
unfoldable pub rust_commit_on : PoolMode → RustPool → ℕ → Run RustPool
rust_commit_on Back r len = with (commit_raw r.inner_memory len) (λ m. pool r.pool_back r.mode m r.system_memory 0)
rust_commit_on (Front f) r len = with (commit_raw r.inner_memory len) (λ m. pool r.pool_back r.mode m r.system_memory 0)
rust_commit_on Alloc r len = with (system_commit r.system_memory len) (λ s. pool r.pool_back r.mode r.inner_memory s 0)

unfoldable pub rust_commit : RustPool → ℕ → Run RustPool
rust_commit r len = need (leb len r.reserved) (rust_commit_on r.mode r len)

-- `truncate` has no assert
unfoldable pub rust_truncate_on : PoolMode → RustPool → ℕ → RustPool
rust_truncate_on Back r len =
    pool r.pool_back r.mode (raw r.inner_memory r.inner_memory.bytes r.inner_memory.raw_offset (min r.inner_memory.raw_len len)) r.system_memory 0
rust_truncate_on (Front f) r len =
    pool r.pool_back r.mode (raw r.inner_memory r.inner_memory.bytes r.inner_memory.raw_offset (min r.inner_memory.raw_len len)) r.system_memory 0
rust_truncate_on Alloc r len = pool r.pool_back r.mode r.inner_memory (system_truncate r.system_memory len) 0

unfoldable pub rust_truncate : RustPool → ℕ → RustPool
rust_truncate r len = rust_truncate_on r.mode r len

-- a slice and the pool left
pub record Took : Type 0 where
  pub slice : Slice
  pub left : RustPool

abbrev pub took : Slice → RustPool → Took
took slice left = record { slice = slice; left = left }

-- `match &mut self.mode` of `get_data_owned`; `set_len_from_inner_memory` is the difference in the first arm
unfoldable pub rust_take_on : PoolMode → ℕ → RustPool → Run Took
rust_take_on Back w r =
    then (memory_get_data_owned w r.inner_memory)
    (λ o. need (leb r.pool_back.back_start o.memory.len)
    (done (took o.slice (pool (back r.pool_back.back_start (o.memory.len - r.pool_back.back_start)) Back o.memory r.system_memory 0))))
rust_take_on (Front f) w r =
    with (memory_get_data_owned w r.inner_memory)
    (λ o. took o.slice (pool r.pool_back (Front (front_len f o.memory.len)) o.memory r.system_memory 0))
rust_take_on Alloc w r =
    then (system_frame r.system_memory)
    (λ data'. with (system_get_data_owned r.system_memory) (λ s. took (Heap data') (pool r.pool_back Alloc r.inner_memory s 0)))

unfoldable pub rust_take : ℕ → RustPool → Run Took
rust_take w r = rust_take_on r.mode w r

-- the drop of a pooled slice (slice.rs): `SharedState::release`, whose `debug_assert_ne!` asks for a live slot
unfoldable pub rust_release : ℕ → RustPool → ℕ → Run RustPool
rust_release w r position =
    need (leb 1 position && (leb position w && live_at w r.inner_memory.live position))
    (done
    (pool r.pool_back r.mode
    (slotted r.inner_memory (released w r.inner_memory.live position) r.inner_memory.starts r.inner_memory.lengths r.inner_memory.len)
    r.system_memory r.reserved))

-- `frame`
unfoldable pub rust_frame_on : PoolMode → RustPool → Run (List ℕ)
rust_frame_on Back r = raw_data r.inner_memory
rust_frame_on (Front f) r = raw_data r.inner_memory
rust_frame_on Alloc r = system_frame r.system_memory

unfoldable pub rust_frame_bytes : RustPool → Run (List ℕ)
rust_frame_bytes r = rust_frame_on r.mode r

-- `BufferPool::new(capacity)`: zeroed bytes, an empty `Vec`
unfoldable pub rust_new : ℕ → ℕ → RustPool
rust_new w capacity =
    pool (back 0 0) Back
    (record { live = 0; bytes = replicate capacity 0; raw_offset = 0; raw_len = 0; starts = replicate w 0; lengths = replicate w 0; len = 0 })
    (system [] 0 0) 0
